use Rattle.card_effects.proofs.Fine.{effect_fine}
use Rattle.card_model.specs.Step.{on_card}
use Rattle.card_effects.proofs.Effects.{effect}
use Rattle.card_effects.proofs.laws.files_stay_well_formed.Goals as goal

pub returns : goal.returns
returns c = λ changes card c fine images. effect_fine changes card c (on_card changes card c) fine images (effect changes card c)
