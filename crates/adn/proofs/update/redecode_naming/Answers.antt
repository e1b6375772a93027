use Rattle.std.proofs.Common.{◌∙◌, ap, rules}
use Rattle.adn.specs.Changed.{with_renewed}
use Rattle.adn.proofs.Changed.{naming_redecoded}
use Rattle.adn.proofs.update.redecode_naming.Goals as goal

pub returns-in_ok-list-clause-ok : goal.returns-in_ok-list-clause-ok
returns-in_ok-list-clause-ok c =
    c.put_all.ensures
    ∙ ap (with_renewed c.args.book.now) c.in_ok-list.ensures
    ∙ naming_redecoded c.args.main.now c.args.ext.now c.args.number c.args.book.now c.requires.first c.requires.before (search rules)
