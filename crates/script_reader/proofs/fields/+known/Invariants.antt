use Rattle.std.proofs.Common.{length}
use Rattle.script_reader.proofs.fields.+known.Given as goal

abbrev pub decreases-known : goal.decreases-known
decreases-known l = length l.names.now
