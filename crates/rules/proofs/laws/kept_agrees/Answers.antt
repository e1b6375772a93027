use Rattle.rules.proofs.Agree.{kept_agrees}
use Rattle.rules.proofs.laws.kept_agrees.Goals as goal

pub returns : goal.returns
returns c = kept_agrees
