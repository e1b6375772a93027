use Rattle.performed.proofs.ProgressSomebody.{somebody}
use Rattle.performed.proofs.progress.somebody_moves_until_finished.Goals as goal

pub returns : goal.returns
returns c = somebody
