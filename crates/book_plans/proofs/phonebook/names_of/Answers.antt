use Rattle.std.proofs.Common.{rules}
use Rattle.adn.specs.Book.{extension_rows}
use Rattle.book_plans.proofs.Names.{name_read, names_read}
use Rattle.book_plans.proofs.phonebook.names_of.Goals as goal

pub loop-row-preserved : goal.loop-row-preserved
loop-row-preserved c =
    name_read (extension_rows c.args.ext.now) c.args.main.now.rows c.loop-row.names c.push.new.self c.in-Some.row.now c.loop-row.invariant (search rules) (search rules)

pub returns : goal.returns
returns c = names_read (extension_rows c.args.ext.now) c.args.main.now.rows c.loop-row.names c.loop-row.invariant (search rules)
