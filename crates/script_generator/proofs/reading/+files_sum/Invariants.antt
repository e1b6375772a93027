use Rattle.std.proofs.Common.{length}
use Rattle.script_generator.proofs.reading.+files_sum.Given as goal

abbrev pub decreases-files_sum : goal.decreases-files_sum
decreases-files_sum l = length l.files.now
