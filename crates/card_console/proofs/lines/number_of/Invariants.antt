use Rattle.std.proofs.Common.{◌≡◌, drop, Some}
use Rattle.card_console.specs.Lines.{number_behind}
use Rattle.card_console.proofs.lines.number_of.Given as goal

abbrev pub invariant-loop-digit : goal.invariant-loop-digit
invariant-loop-digit l = number_behind (Some 0) l.digits ≡ number_behind (Some l.number) (drop l.digit-index l.digits)
