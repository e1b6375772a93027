use Rattle.std.proofs.Common.{sym, arith}
use Rattle.script_generator.proofs.Names.{one_digit, two_digits, three_digits}
use Rattle.script_generator.proofs.book.name.Goals as goal

pub returns-then-row-lt10 : goal.returns-then-row-lt10
returns-then-row-lt10 c = rw c.digit.ensures (sym (one_digit c.args.row c.if-row-lt10.true))

pub returns-then-row-lt100 : goal.returns-then-row-lt100
returns-then-row-lt100 c = rw (c.digit-then-row-lt100.ensures, c.digit-then-row-lt100-2.ensures) (sym (two_digits c.args.row c.if-row-lt10.false c.if-row-lt100.true))

pub returns : goal.returns
returns c = rw (c.digit-2.ensures, c.digit-3.ensures, c.digit-4.ensures) (sym (three_digits c.args.row c.if-row-lt100.false (omega (arith, c.ranges.row.fits))))
