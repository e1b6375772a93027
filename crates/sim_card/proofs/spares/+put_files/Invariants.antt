use Rattle.std.proofs.Common.{length}
use Rattle.sim_card.proofs.spares.+put_files.Given as goal

abbrev pub decreases-put_files : goal.decreases-put_files
decreases-put_files l = length l.new.now
