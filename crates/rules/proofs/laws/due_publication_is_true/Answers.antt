use Rattle.rules.proofs.Publishing.{due-text}
use Rattle.rules.proofs.laws.due_publication_is_true.Goals as goal

pub returns : goal.returns
returns c = due-text
