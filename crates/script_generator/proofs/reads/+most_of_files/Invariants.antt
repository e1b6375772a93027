use Rattle.std.proofs.Common.{length}
use Rattle.script_generator.proofs.reads.+most_of_files.Given as goal

abbrev pub decreases-most_of_files : goal.decreases-most_of_files
decreases-most_of_files l = length l.files.now
