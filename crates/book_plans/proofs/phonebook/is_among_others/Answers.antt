use Rattle.book_plans.proofs.Names.{among_before, among_behind}
use Rattle.book_plans.proofs.phonebook.is_among_others.Goals as goal

pub returns-then-is_among : goal.returns-then-is_among
returns-then-is_among c = among_before c.args.names.now c.args.index c.args.number c.is_among.result c.requires c.is_among.ensures c.if-is_among.true

pub returns-else-is_among : goal.returns-else-is_among
returns-else-is_among c =
    among_behind c.args.names.now c.args.index c.args.number c.is_among.result c.is_among-else-is_among.result c.requires c.is_among.ensures c.if-is_among.false c.is_among-else-is_among.ensures
