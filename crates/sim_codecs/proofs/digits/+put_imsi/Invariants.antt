use Rattle.std.proofs.Common.{length}
use Rattle.sim_codecs.proofs.digits.+put_imsi.Given as goal

abbrev pub decreases-put_imsi : goal.decreases-put_imsi
decreases-put_imsi l = length l.rest.now
