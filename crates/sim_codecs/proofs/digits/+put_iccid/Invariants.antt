use Rattle.std.proofs.Common.{length}
use Rattle.sim_codecs.proofs.digits.+put_iccid.Given as goal

abbrev pub decreases-put_iccid : goal.decreases-put_iccid
decreases-put_iccid l = length l.bytes.now
