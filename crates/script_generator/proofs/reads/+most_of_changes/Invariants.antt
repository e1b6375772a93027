use Rattle.std.proofs.Common.{length}
use Rattle.script_generator.proofs.reads.+most_of_changes.Given as goal

abbrev pub decreases-most_of_changes : goal.decreases-most_of_changes
decreases-most_of_changes l = length l.changes.now
