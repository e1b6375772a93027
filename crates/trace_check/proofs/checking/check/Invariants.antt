use Rattle.trace_check.specs.UpTo.{UpTo}
use Rattle.trace_check.proofs.checking.check.Given as goal

abbrev pub invariant-loop-at : goal.invariant-loop-at
invariant-loop-at l = UpTo l.report l.at l.behind
