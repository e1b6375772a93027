-- What a reset leaves.
use Rattle.std.proofs.Common.{◌≡◌, List, [], ◌∷◌, map, refl, ap}
use Rattle.card_model.specs.declared.world.PinState.{PinState}
use Rattle.card_model.specs.declared.world.CardState.{CardState}
use Rattle.card_model.specs.Step.{reset_card, unverified}
use Rattle.card_rows.specs.Laws.{KeepsOverReset, tries_of}

tries-unverified : (keys : List PinState) → map tries_of (map unverified keys) ≡ map tries_of keys
tries-unverified [] = refl
tries-unverified (key ∷ keys) = ap (λ tries. key.tries ∷ tries) (tries-unverified keys)

pub reset-keeps : (card : CardState) → KeepsOverReset card (reset_card card)
reset-keeps card = record { files = refl; tries = tries-unverified card.keys; armed = refl; channels = refl }
