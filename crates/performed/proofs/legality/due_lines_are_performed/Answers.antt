use Rattle.performed.proofs.Legal.{lines_are_performed}
use Rattle.performed.proofs.legality.due_lines_are_performed.Goals as goal

pub returns : goal.returns
returns c = lines_are_performed
