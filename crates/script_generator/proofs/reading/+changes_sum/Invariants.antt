use Rattle.std.proofs.Common.{length}
use Rattle.script_generator.proofs.reading.+changes_sum.Given as goal

abbrev pub decreases-changes_sum : goal.decreases-changes_sum
decreases-changes_sum l = length l.changes.now
