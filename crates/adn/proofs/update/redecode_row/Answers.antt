use Rattle.std.proofs.Common.{◌∙◌, rules}
use Rattle.adn.proofs.Changed.{row_redecoded, none_redecoded}
use Rattle.adn.proofs.update.redecode_row.Goals as goal

pub returns-in_ok-row-clause-ok : goal.returns-in_ok-row-clause-ok
returns-in_ok-row-clause-ok c =
    c.put.ensures ∙ (search rules) ∙ row_redecoded c.args.main.now c.args.ext.now c.args.row c.args.book.now c.in-Some.bytes.now c.requires.before (search rules)

pub returns-in_default-clause-ok : goal.returns-in_default-clause-ok
returns-in_default-clause-ok c =
    none_redecoded c.args.main.now c.args.ext.now c.args.row c.args.book.now c.requires.before (search rules)
