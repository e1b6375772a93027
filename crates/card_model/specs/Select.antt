-- SELECT, ETSI TS 102 221 clause 11.1.1.
use Rattle.std.specs.Prelude.{ℕ, ◌+◌, ◌==◌, ◌&&◌, ◌||◌, not, Bool, if◌then◌else◌, List, [], ◌∷◌, ◌++◌, length, slice_set, Option, Some, None, is_some}
use Rattle.apdu.specs.Values.{CommandValue, ResponseValue}
use Rattle.apdu.specs.Words.{same_bytes, is_one_of, is_between, pair_value, path_of}
use Rattle.apdu.specs.Apdu.{refusal}
use Rattle.refresh_cmd.specs.Proactive.{master_file}
use Rattle.card_model.specs.declared.world.ChannelState.{ChannelState}
use Rattle.card_model.specs.declared.world.Change.{Change}
use Rattle.card_model.specs.declared.world.CardState.{CardState}
use Rattle.card_model.specs.Card.{application_id, application_named, current_directory, is_selectable, current_parameters}
use Rattle.card_model.specs.Answers.{refuses, length_byte, answers, succeeds, body_len, with_waiting}

-- the channel at this place is another
abbrev pub with_channel : CardState → ℕ → ChannelState → CardState
with_channel card place channel = record card { channels = slice_set card.channels place channel }

abbrev pub ids_of : List ℕ → List ℕ
ids_of [] = []
ids_of (b ∷ []) = []
ids_of (high ∷ low ∷ rest) = pair_value high low ∷ ids_of rest

-- P1 00 names the MF, the application's directory, or a child of the current directory
abbrev pub ids_of_child : CardState → ChannelState → List ℕ → List ℕ
ids_of_child card channel ids =
    if same_bytes ids (master_file ∷ []) then []
    else if same_bytes ids (application_id ∷ []) && is_some channel.app then application_id ∷ []
    else current_directory card channel ++ ids

-- P1 08 gives the ids from the MF on
abbrev pub selected_ids : CardState → ChannelState → CommandValue → List ℕ
selected_ids card channel c = if c.p1 == 0x08 then ids_of c.body else ids_of_child card channel (ids_of c.body)

-- P2 04 asks for the control parameters; they come, or 61LL comes and they wait
abbrev pub parameters_answer : List Change → CardState → ℕ → List ℕ → CardState × ResponseValue
parameters_answer changes card number bytes =
    if card.get_response
    then (with_waiting card (Some (record { channel = number; bytes = bytes })), refusal (0x6100 + length_byte (length bytes)))
    else answers changes card bytes

-- the channel at this place has the target current; P2 0C asks for nothing
abbrev pub selection_answer : List Change → CardState → ℕ → ChannelState → CommandValue → CardState × ResponseValue
selection_answer changes card place channel c =
    if c.p2 == 0x0C then succeeds changes (with_channel card place channel)
    else parameters_answer changes (with_channel card place channel) channel.number (current_parameters card channel)

abbrev pub is_select_length : CommandValue → Bool
is_select_length c =
    if c.p1 == 0x00 then body_len c == 2
    else if c.p1 == 0x04 then is_between 5 16 (body_len c)
    else is_one_of (body_len c) (2 ∷ 4 ∷ 6 ∷ [])

abbrev pub select_found : List Change → CardState → ℕ → ChannelState → CommandValue → Option ℕ → CardState × ResponseValue
select_found changes card place channel c None = refuses card 0x6A82
select_found changes card place channel c (Some app) =
    selection_answer changes card place (record channel { app = Some app; current = Some (application_id ∷ []) }) c

-- P1 04: the first application whose identifier begins with the body
abbrev pub select_application : List Change → CardState → ℕ → ChannelState → CommandValue → CardState × ResponseValue
select_application changes card place channel c = select_found changes card place channel c (application_named c.body card)

abbrev pub select_ids : List Change → CardState → ℕ → ChannelState → CommandValue → List ℕ → CardState × ResponseValue
select_ids changes card place channel c ids =
    if is_selectable card channel ids
    then selection_answer changes card place (record channel { current = path_of ids }) c
    else refuses card 0x6A82

unfoldable pub select_row : List Change → CardState → ℕ → ChannelState → CommandValue → CardState × ResponseValue
select_row changes card place channel c =
    if not (is_one_of c.p1 (0x00 ∷ 0x04 ∷ 0x08 ∷ [])) || not (is_one_of c.p2 (0x04 ∷ 0x0C ∷ [])) then refuses card 0x6A86
    else if not (is_select_length c) then refuses card 0x6700
    else if c.p1 == 0x04 then select_application changes card place channel c
    else select_ids changes card place channel c (selected_ids card channel c)
