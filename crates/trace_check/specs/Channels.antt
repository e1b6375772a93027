-- Channels by their numbers.
use Rattle.std.specs.Prelude.{ℕ, ◌==◌, ◌&&◌, ◌||◌, not, Bool, List, map}
use Rattle.apdu.specs.Words.{is_one_of}
use Rattle.card_model.specs.declared.world.ChannelState.{ChannelState}
use Rattle.epoch_cache.specs.declared.past.Past.{Past}
use Rattle.rules.specs.declared.holdings.Handle.{Handle}
use Rattle.rules.specs.Channels.{is_living_handle}

abbrev pub numbers : List ChannelState → List ℕ
numbers channels = map (λ (c : ChannelState). c.number) channels

abbrev pub has_number : ℕ → ChannelState → Bool
has_number number channel = channel.number == number

-- a channel of this number, in the living epoch
abbrev pub holds : Past → ℕ → Handle → Bool
holds history number h = is_living_handle history h && (h.number == number)

abbrev pub is_basic_or_held : List ℕ → ChannelState → Bool
is_basic_or_held held channel = (channel.number == 0) || is_one_of channel.number held

-- its epoch has ended, or it is open
abbrev pub is_over_or_open : Past → List ℕ → Handle → Bool
is_over_or_open history opened h = not (is_living_handle history h) || is_one_of h.number opened
