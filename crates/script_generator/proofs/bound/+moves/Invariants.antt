use Rattle.std.proofs.Common.{length}
use Rattle.script_generator.proofs.bound.+moves.Given as goal

abbrev pub decreases-moves : goal.decreases-moves
decreases-moves l = length l.actors.now
