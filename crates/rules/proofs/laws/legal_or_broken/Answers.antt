use Rattle.rules.proofs.Verdicts.{legal_or_broken}
use Rattle.rules.proofs.laws.legal_or_broken.Goals as goal

pub returns : goal.returns
returns c = legal_or_broken
