use Rattle.std.proofs.Common.{length}
use Rattle.script_reader.proofs.pairing.+is_watching_once.Given as goal

abbrev pub decreases-is_watching_once : goal.decreases-is_watching_once
decreases-is_watching_once l = length l.operations.now
