use Rattle.performed.proofs.EpochEnds.{ends_are_told}
use Rattle.performed.proofs.endings.ends_are_told.Goals as goal

pub returns : goal.returns
returns c = ends_are_told
