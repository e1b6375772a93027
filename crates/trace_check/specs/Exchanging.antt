-- An exchange with the card in the slot.
use Rattle.std.specs.Prelude.{◌≡◌, true, is_some}
use Rattle.apdu.specs.Values.{CommandValue, ResponseValue}
use Rattle.card_model.specs.declared.world.World.{World}
use Rattle.card_model.specs.Step.{step, card_inside}

-- a card is in the slot, and made this step
pub record IsAnswered (w new : World) (c : CommandValue) (r : ResponseValue) : Type 0 where
  pub inside : is_some (card_inside w) ≡ true
  pub world : new ≡ (step w c).0
  pub response : r ≡ (step w c).1
