-- VERIFY, ETSI TS 102 221 clause 11.1.9.
use Rattle.std.specs.Prelude.{ℕ, ◌+◌, ◌-◌, ◌==◌, not, true, false, if◌then◌else◌, List, slice_get, slice_set, Option, Some, None}
use Rattle.apdu.specs.Values.{CommandValue, ResponseValue}
use Rattle.apdu.specs.Words.{same_bytes}
use Rattle.apdu.specs.Apdu.{refusal}
use Rattle.card_model.specs.declared.world.PinState.{PinState}
use Rattle.card_model.specs.declared.world.Change.{Change}
use Rattle.card_model.specs.declared.world.CardState.{CardState}
use Rattle.card_model.specs.Card.{key_place}
use Rattle.card_model.specs.Answers.{refuses, succeeds, body_len}

-- the key at this place is another
abbrev pub with_key : CardState → ℕ → PinState → CardState
with_key card place key = record card { keys = slice_set card.keys place key }

-- the right PIN gives the tries back
abbrev pub right_key : PinState → PinState
right_key key = record key { tries = key.max; verified = true }

-- a wrong PIN takes a try
abbrev pub wrong_key : PinState → PinState
wrong_key key = record key { tries = key.tries - 1; verified = false }

-- 63CX, with X the tries that are left
abbrev pub tries_word : ℕ → ℕ
tries_word left = 0x63C0 + left

abbrev pub verify_found : List Change → CardState → CommandValue → ℕ → Option PinState → CardState × ResponseValue
verify_found changes card c place None = refuses card 0x6A86
verify_found changes card c place (Some key) =
    if not (body_len c == 8) then refuses card 0x6700
    else if key.tries == 0 then refuses card 0x6983
    else if same_bytes c.body key.secret then succeeds changes (with_key card place (right_key key))
    else (with_key card place (wrong_key key), refusal (tries_word (key.tries - 1)))

-- P2 is the key reference
abbrev pub verify_at : List Change → CardState → CommandValue → Option ℕ → CardState × ResponseValue
verify_at changes card c None = refuses card 0x6A86
verify_at changes card c (Some place) = verify_found changes card c place (slice_get card.keys place)

unfoldable pub verify_row : List Change → CardState → CommandValue → CardState × ResponseValue
verify_row changes card c = if not (c.p1 == 0x00) then refuses card 0x6A86 else verify_at changes card c (key_place c.p2 card)
