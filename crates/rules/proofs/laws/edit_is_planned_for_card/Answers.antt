use Rattle.rules.proofs.Agree.{planned_for_card}
use Rattle.rules.proofs.laws.edit_is_planned_for_card.Goals as goal

pub returns : goal.returns
returns c = planned_for_card
