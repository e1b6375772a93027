use Rattle.std.proofs.Common.{length}
use Rattle.script_reader.proofs.pairing.+endings.Given as goal

abbrev pub decreases-endings : goal.decreases-endings
decreases-endings l = length l.later.now
