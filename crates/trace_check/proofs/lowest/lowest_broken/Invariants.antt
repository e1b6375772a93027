use Rattle.std.proofs.Common.{◌≡◌, ◌+◌, drop}
use Rattle.rules.specs.Legal.{first_false}
use Rattle.trace_check.proofs.lowest.lowest_broken.Given as goal

-- the tests so far pass
abbrev pub invariant-loop-at : goal.invariant-loop-at
invariant-loop-at l = first_false 1 l.tests ≡ first_false (l.at + 1) (drop l.at l.tests)
