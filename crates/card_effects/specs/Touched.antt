-- Which files a command may change.
use Rattle.std.specs.Prelude.{◌≡◌, ◌&&◌, ◌||◌, ℕ, ◌==◌, Bool, false, if◌then◌else◌, List, [], ◌∷◌, map, find, Option, Some, None, option_and_then}
use Rattle.apdu.specs.Values.{CommandValue, ResponseValue}
use Rattle.apdu.specs.Words.{path_is_in}
use Rattle.apdu.specs.Apdu.{channel_of, is_update_ins, fetch_ins, is_success}
use Rattle.apdu.specs.declared.class.ClassKind.{ClassKind}
use Rattle.card_model.specs.declared.world.FileState.{FileState}
use Rattle.card_model.specs.declared.world.ChannelState.{ChannelState}
use Rattle.card_model.specs.declared.world.Change.{Change}
use Rattle.card_model.specs.declared.world.CardState.{CardState}
use Rattle.card_model.specs.Card.{has_number, file_at, first_armed}

abbrev pub list_of : Option (List ℕ) → List (List ℕ)
list_of None = []
list_of (Some path) = path ∷ []

-- what is current on the channel of this class
abbrev pub current_on : CardState → Option (ClassKind × ℕ) → Option (List ℕ)
current_on card None = None
current_on card (Some class) = option_and_then (λ (channel : ChannelState). channel.current) (find (has_number class.1) card.channels)

abbrev pub paths_of : Option Change → List (List ℕ)
paths_of None = []
paths_of (Some change) = map (λ (f : FileState). f.path) change.files

-- the paths whose files the command may change: an UPDATE the one that is current on its channel, a FETCH those of the first armed change
abbrev pub touched : List Change → CardState → CommandValue → List (List ℕ)
touched changes card c =
    if is_update_ins c.ins then list_of (current_on card (channel_of c.class))
    else if c.ins == fetch_ins then paths_of (first_armed changes card)
    else []

-- an UPDATE or a FETCH that was done
abbrev pub changes_files : CommandValue → ℕ → Bool
changes_files c sw = (is_update_ins c.ins || (c.ins == fetch_ins)) && is_success sw

-- each file stays but those that the command touches, and each of them unless it was done
pub record Spares (changes : List Change) (card : CardState) (c : CommandValue) (p : CardState × ResponseValue) : Type 0 where
  pub others : (path : List ℕ) → path_is_in (touched changes card c) path ≡ false → file_at path p.0 ≡ file_at path card
  pub undone : changes_files c p.1.sw ≡ false → p.0.files ≡ card.files
