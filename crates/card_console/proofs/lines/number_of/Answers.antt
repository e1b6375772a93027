use Rattle.std.proofs.Common.{sym, ◌∙◌}
use Rattle.card_console.proofs.Numbers.{no_number}
use Rattle.card_console.proofs.lines.number_of.Goals as goal

pub returns-in_default : goal.returns-in_default
returns-in_default c =
    sym (no_number c.args.digits.now c.loop-digit.number c.loop-digit.digit-index (sym c.is_empty.ensures ∙ c.if-is_empty.false) (sym c.has_leading_zero.ensures ∙ c.if-has_leading_zero.false)
    c.loop-digit.invariant c.loop-digit-test.true (sym c.with_digit.ensures ∙ c.in_default.is))
