-- The search for the lowest number of a channel that is not open.
use Rattle.std.proofs.Common.{◌≡◌, ◌+◌, ℕ, true, refl, add-one}
use Rattle.card_model.specs.declared.world.CardState.{CardState}
use Rattle.card_model.specs.Channels.{is_open, first_closed}

-- a number that is open is passed over
pub first_closed_next : (card : CardState) (left next number : ℕ) → left ≡ next + 1 → is_open number card ≡ true → first_closed card left number ≡ first_closed card next (number + 1)
first_closed_next card left next number one_less passed = rw (one_less, add-one, passed) refl
