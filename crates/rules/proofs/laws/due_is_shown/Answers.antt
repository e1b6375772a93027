use Rattle.rules.proofs.Agree.{due_is_shown}
use Rattle.rules.proofs.laws.due_is_shown.Goals as goal

pub returns : goal.returns
returns c = due_is_shown
