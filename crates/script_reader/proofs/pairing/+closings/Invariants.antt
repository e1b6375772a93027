use Rattle.std.proofs.Common.{length}
use Rattle.script_reader.proofs.pairing.+closings.Given as goal

abbrev pub decreases-closings : goal.decreases-closings
decreases-closings l = length l.later.now
