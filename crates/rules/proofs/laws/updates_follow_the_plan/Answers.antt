use Rattle.rules.proofs.FirstUpdates.{planned}
use Rattle.rules.proofs.laws.updates_follow_the_plan.Goals as goal

pub returns : goal.returns
returns c = planned
