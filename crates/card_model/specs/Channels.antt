-- MANAGE CHANNEL, ETSI TS 102 221 clause 11.1.17.
use Rattle.std.specs.Prelude.{ℕ, zero, suc, ◌+◌, ◌==◌, ◌||◌, not, Bool, nat_lt, if◌then◌else◌, List, [], ◌∷◌, ◌++◌, length, Option, Some, None, is_some}
use Rattle.std.specs.List.{remove}
use Rattle.apdu.specs.Values.{CommandValue, ResponseValue}
use Rattle.apdu.specs.Words.{is_empty}
use Rattle.card_model.specs.declared.world.Change.{Change}
use Rattle.card_model.specs.declared.world.CardState.{CardState}
use Rattle.card_model.specs.Card.{channel_place, fresh_channel}
use Rattle.card_model.specs.Answers.{refuses, answers, succeeds, wanted_le}

-- ---- P1 00 opens a channel

abbrev pub is_open : ℕ → CardState → Bool
is_open number card = is_some (channel_place number card)

-- the lowest of so many numbers, from this one on, that is not open
abbrev pub first_closed : CardState → ℕ → ℕ → Option ℕ
first_closed card zero number = None
first_closed card (suc left) number = if is_open number card then first_closed card left (number + 1) else Some number

-- a card has at most twenty channels (clause 8.7), and as many beside the basic one as it says
abbrev pub free_number : CardState → Option ℕ
free_number card = if nat_lt (length card.channels) 20 then first_closed card card.free 1 else None

-- the channel opens with the MF selected
abbrev pub open_number : List Change → CardState → Option ℕ → CardState × ResponseValue
open_number changes card None = refuses card 0x6A81
open_number changes card (Some number) = answers changes (record card { channels = card.channels ++ fresh_channel number ∷ [] }) (number ∷ [])

-- the answer has one byte
abbrev pub open_with_le : List Change → CardState → Option ℕ → CardState × ResponseValue
open_with_le changes card None = refuses card 0x6700
open_with_le changes card (Some le) = if not (le == 1) then refuses card 0x6C01 else open_number changes card (free_number card)

abbrev pub open_channel : List Change → CardState → CommandValue → CardState × ResponseValue
open_channel changes card c = if not (c.p2 == 0x00) then refuses card 0x6A86 else open_with_le changes card (wanted_le c)

-- ---- P1 80 closes the channel that P2 names

abbrev pub close_place : List Change → CardState → Option ℕ → CardState × ResponseValue
close_place changes card None = refuses card 0x6881
close_place changes card (Some place) = succeeds changes (record card { channels = remove card.channels place })

abbrev pub close_channel : List Change → CardState → CommandValue → CardState × ResponseValue
close_channel changes card c =
    if c.p2 == 0x00 then refuses card 0x6A86
    else if not (is_empty c.body) || is_some c.le then refuses card 0x6700
    else close_place changes card (channel_place c.p2 card)

unfoldable pub manage_channel_row : List Change → CardState → CommandValue → CardState × ResponseValue
manage_channel_row changes card c =
    if c.p1 == 0x00 then open_channel changes card c
    else if c.p1 == 0x80 then close_channel changes card c
    else refuses card 0x6A86
