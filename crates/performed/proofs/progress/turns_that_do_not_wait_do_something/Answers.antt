use Rattle.performed.proofs.ProgressMoves.{marks_move}
use Rattle.performed.proofs.progress.turns_that_do_not_wait_do_something.Goals as goal

pub returns : goal.returns
returns c = marks_move c.kept_agrees.ensures c.edit_is_planned_for_card.ensures
