use Rattle.performed.proofs.Legal.{lines_are_legal}
use Rattle.performed.proofs.ProgressMoves.{marks_move}
use Rattle.performed.proofs.legality.due_lines_are_legal.Goals as goal

pub returns : goal.returns
returns c = lines_are_legal (marks_move c.kept_agrees.ensures c.edit_is_planned_for_card.ensures) c.kept_agrees.ensures c.edit_is_planned_for_card.ensures c.plans_make_edits.ensures c.due_is_shown.ensures c.kept_looks_back.ensures
