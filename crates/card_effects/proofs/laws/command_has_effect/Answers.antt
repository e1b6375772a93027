use Rattle.card_effects.proofs.Effects.{effect}
use Rattle.card_effects.proofs.laws.command_has_effect.Goals as goal

pub returns : goal.returns
returns c = effect
