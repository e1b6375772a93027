-- What is current on the basic channel of a card, and a selection that follows it.
use Rattle.std.specs.Prelude.{◌≡◌, ◌⊎◌, ℕ, ◌==◌, if◌then◌else◌, List, [], ◌∷◌, Option, Some, None, IfSome}
use Rattle.card_model.specs.declared.world.ChannelState.{ChannelState}
use Rattle.card_model.specs.declared.world.CardState.{CardState}
use Rattle.card_model.specs.declared.world.World.{World}
use Rattle.card_model.specs.Step.{card_inside}

-- the basic channel among the open ones
abbrev pub basic_in : List ChannelState → Option ChannelState
basic_in [] = None
basic_in (c ∷ cs) = if c.number == 0 then Some c else basic_in cs

abbrev pub current_on : Option ChannelState → Option (List ℕ)
current_on None = None
current_on (Some c) = c.current

-- the path that is current on it; none for the master file
abbrev pub basic_path : List ChannelState → Option (List ℕ)
basic_path cs = current_on (basic_in cs)

-- the selection is none, or what is current
abbrev pub Follows : List ChannelState → Option (List ℕ) → Type 0
Follows channels selected = (selected ≡ None) ⊎ (basic_path channels ≡ selected)

-- of a card that may be in the slot
abbrev pub FollowsInside : Option CardState → Option (List ℕ) → Type 0
FollowsInside None selected = Unit {0}
FollowsInside (Some card) selected = Follows card.channels selected

-- where the world is told, a selection that followed the card still does
abbrev pub KeepsTrack : Option World → Option World → Option (List ℕ) → Option (List ℕ) → Type 0
KeepsTrack old new before now =
    IfSome old (λ w. FollowsInside (card_inside w) before → IfSome new (λ v. FollowsInside (card_inside v) now))
