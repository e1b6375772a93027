use Rattle.std.proofs.Common.{length}
use Rattle.script_generator.proofs.bound.+edits.Given as goal

abbrev pub decreases-edits : goal.decreases-edits
decreases-edits l = length l.actors.now
