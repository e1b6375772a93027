use Rattle.std.proofs.Common.{length}
use Rattle.script_generator.proofs.bound.+operations_of.Given as goal

abbrev pub decreases-operations_of : goal.decreases-operations_of
decreases-operations_of l = length l.actors.now
