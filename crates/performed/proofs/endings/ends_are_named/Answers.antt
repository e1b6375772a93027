use Rattle.performed.proofs.EpochNames.{ends_are_named}
use Rattle.performed.proofs.endings.ends_are_named.Goals as goal

pub returns : goal.returns
returns c = ends_are_named
