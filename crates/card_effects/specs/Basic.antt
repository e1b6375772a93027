-- What a command changes of a card's basic channel.
use Rattle.std.specs.Prelude.{◌≡◌, ◌&&◌, ℕ, true, false, Some, List, [], ◌∷◌}
use Rattle.apdu.specs.Values.{CommandValue, ResponseValue}
use Rattle.apdu.specs.Words.{same_bytes}
use Rattle.card_model.specs.declared.world.ChannelState.{ChannelState}
use Rattle.card_model.specs.declared.world.CardState.{CardState}
use Rattle.card_model.specs.Card.{application_id, is_visible}
use Rattle.card_effects.specs.Effect.{acted, selects_on_basic, basic, selecting, Selects}

-- a SELECT on the basic channel that was done: what it selects is current there
pub record SelectsBasic (card : CardState) (c : CommandValue) (p : CardState × ResponseValue) : Type 0 where
  pub place : ℕ
  pub channel : ChannelState
  pub found : basic card ≡ Some channel
  pub number : channel.number ≡ 0
  pub does : Selects card place channel c p
  pub behind : basic p.0 ≡ Some (selecting channel does.app does.current)
  pub select : selects_on_basic c ≡ true

-- no SELECT on it was done, and it is as it was
pub record LeavesBasic (card : CardState) (c : CommandValue) (p : CardState × ResponseValue) : Type 0 where
  pub status : (selects_on_basic c && acted p.1.sw) ≡ false
  pub behind : basic p.0 ≡ basic card

-- this path is current on the basic channel, and the channel sees it; the directory of the channel's application, 7FFF, is seen with the
-- USIM alone
pub record HasCurrent (card : CardState) (path : List ℕ) : Type 0 where
  pub channel : ChannelState
  pub found : basic card ≡ Some channel
  pub current : channel.current ≡ Some path
  pub visible : same_bytes path (application_id ∷ []) ≡ false → is_visible card channel path ≡ true
