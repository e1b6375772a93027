use Rattle.performed.proofs.Legal.{run_is_legal}
use Rattle.performed.proofs.ProgressMoves.{marks_move}
use Rattle.performed.proofs.legality.finished_runs_are_legal.Goals as goal

pub returns : goal.returns
returns c = run_is_legal (marks_move c.kept_agrees.ensures c.edit_is_planned_for_card.ensures) c.kept_agrees.ensures c.edit_is_planned_for_card.ensures c.plans_make_edits.ensures c.due_is_shown.ensures c.kept_looks_back.ensures
