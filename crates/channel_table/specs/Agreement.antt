-- The channels held and those that are open on the card.
use Rattle.std.specs.Prelude.{◌≡◌, ℕ, ◌==◌, ◌||◌, Bool, true, false, List, [], ◌∷◌, ◌++◌, Option, Some, None, Result, Ok, Err, IfSome}
use Rattle.apdu.specs.Words.{is_one_of}
use Rattle.card_model.specs.declared.world.CardState.{CardState}
use Rattle.card_model.specs.declared.world.World.{World}
use Rattle.card_model.specs.Step.{card_inside}
use Rattle.card_effects.specs.Numbers.{numbers, AllApart}
use Rattle.channel_table.specs.Values.{ChannelValue}
use Rattle.channel_table.specs.Opening.{is_fault}
use Rattle.channel_table.specs.declared.error.OpenError.{OpenError}
use Rattle.channel_table.specs.declared.error.CloseError.{CloseError}
use Rattle.channel_table.specs.declared.error.CloseError.TheVariants as closing

-- the card's open channels are the basic one and those held, and each is open once
pub record AreOpen (card : CardState) (held : List ℕ) : Type 0 where
  pub same : (n : ℕ) → is_one_of n (numbers card) ≡ ((n == 0) || is_one_of n held)
  pub apart : AllApart (numbers card)

-- of a card that may be in the slot
abbrev pub AreOpenInside : Option CardState → List ℕ → Type 0
AreOpenInside None held = Unit {0}
AreOpenInside (Some card) held = AreOpen card held

-- where the world is told, channels held that were the card's still are
abbrev pub KeepsOpen : Option World → Option World → List ℕ → List ℕ → Type 0
KeepsOpen old new before now =
    IfSome old (λ w. AreOpenInside (card_inside w) before → IfSome new (λ v. AreOpenInside (card_inside v) now))

-- the card in the slot has one channel more
abbrev pub AddsInside : ℕ → Option CardState → Option CardState → Type 0
AddsInside n (Some before) (Some now) = numbers now ≡ numbers before ++ n ∷ []
AddsInside n _ _ = ⊥

-- where the world is told, the card has one channel more
abbrev pub AddsOpen : ℕ → Option World → Option World → Type 0
AddsOpen n old new = IfSome old (λ w. IfSome new (λ v. AddsInside n (card_inside w) (card_inside v)))

-- an exchange of the open failed
abbrev pub open_failed : Result ChannelValue OpenError → Bool
open_failed (Ok channel) = false
open_failed (Err e) = is_fault e

-- an exchange of the close failed
abbrev pub close_failed : Result (Unit {0}) CloseError → Bool
close_failed (Err closing.Slot) = true
close_failed _ = false
