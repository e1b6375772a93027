use Rattle.card_effects.proofs.Basic.{basic_effect}
use Rattle.card_model.specs.Step.{on_card}
use Rattle.card_effects.proofs.Effects.{effect}
use Rattle.card_effects.proofs.laws.basic_channel_is_selected.Goals as goal

pub returns : goal.returns
returns c = λ changes card c. basic_effect card c (on_card changes card c) changes (effect changes card c)
