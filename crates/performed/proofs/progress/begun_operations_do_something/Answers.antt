use Rattle.performed.proofs.ProgressMoves.{begins_move}
use Rattle.performed.proofs.progress.begun_operations_do_something.Goals as goal

pub returns : goal.returns
returns c = begins_move
