use Rattle.performed.proofs.ProgressActors.{nobody}
use Rattle.performed.proofs.progress.nobody_moves_once_finished.Goals as goal

pub returns : goal.returns
returns c = nobody
