use Rattle.performed.proofs.ProgressMoves.{marks_move}
use Rattle.performed.proofs.TurnsMove.{turns_move}
use Rattle.performed.proofs.turns.turns_that_do_not_wait_move.Goals as goal

pub returns : goal.returns
returns c = turns_move (marks_move c.kept_agrees.ensures c.edit_is_planned_for_card.ensures)
