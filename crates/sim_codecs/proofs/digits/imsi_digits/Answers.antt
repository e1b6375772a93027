use Rattle.sim_codecs.proofs.Whole.{read_whole}
use Rattle.sim_codecs.proofs.digits.imsi_digits.Goals as goal

pub returns-in-None : goal.returns-in-None
returns-in-None c = read_whole _ _ _ _ _ c.new-out.ensures.bytes c.from_string.ensures c.in-None.is c.in_ok-put_imsi.ensures
