use Rattle.rules.proofs.Tracked.{legal_right}
use Rattle.rules.proofs.laws.legal_lines_are_answered_right.Goals as goal

pub returns : goal.returns
returns c = legal_right
