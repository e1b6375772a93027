use Rattle.card_effects.proofs.Basic.{effect_aids}
use Rattle.card_model.specs.Step.{on_card}
use Rattle.card_effects.proofs.Effects.{effect}
use Rattle.card_effects.proofs.laws.applications_stay.Goals as goal

pub returns : goal.returns
returns c = λ changes card c. effect_aids changes card c (on_card changes card c) (effect changes card c)
