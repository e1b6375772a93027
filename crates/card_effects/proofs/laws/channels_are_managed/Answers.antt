use Rattle.card_model.specs.Step.{on_card}
use Rattle.card_effects.proofs.Numbers.{numbers_effect}
use Rattle.card_effects.proofs.Effects.{effect}
use Rattle.card_effects.proofs.laws.channels_are_managed.Goals as goal

pub returns : goal.returns
returns c = λ changes card c. numbers_effect changes card c (on_card changes card c) (effect changes card c)
