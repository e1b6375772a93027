use Rattle.script_reader.proofs.Lists.{each_true}
use Rattle.script_reader.proofs.world.ChangeSpecMake.make.Goals as goal

pub made_from-requires : goal.made_from-requires
made_from-requires c = each_true c.as_slice.result.now
