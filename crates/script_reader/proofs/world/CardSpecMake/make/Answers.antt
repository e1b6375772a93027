use Rattle.script_reader.proofs.Lists.{each_true}
use Rattle.script_reader.proofs.world.CardSpecMake.make.Goals as goal

pub made_from-requires-2 : goal.made_from-requires-2
made_from-requires-2 c = each_true c.as_slice-2.result.now

pub made_from-requires-3 : goal.made_from-requires-3
made_from-requires-3 c = each_true c.as_slice-3.result.now
