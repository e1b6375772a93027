use Rattle.std.proofs.Common.{◌≡◌, length}
use Rattle.fcp.specs.Control.{need_for}
use Rattle.fcp.proofs.rule.need_for.Given as goal

abbrev pub invariant-pairs : goal.invariant-pairs
invariant-pairs l = need_for l.bit l.reader.parts ≡ need_for l.bit l.fn.reader.parts

abbrev pub decreases-pairs : goal.decreases-pairs
decreases-pairs l = length l.reader.parts
