use Rattle.std.proofs.Common.{length}
use Rattle.script_reader.proofs.operations.+operation_count.Given as goal

abbrev pub decreases-operation_count : goal.decreases-operation_count
decreases-operation_count l = length l.actors.now
