-- The card as a table of commands, ETSI TS 102 221 clause 11 and TS 102 223 clause 6, in this project's profile,
-- and the events of the world round it. The rows stand in Select, GetResponse, Read, Update, Verify, Channels and Toolkit.
use Rattle.std.specs.Prelude.{ℕ, not, Bool, false, if◌then◌else◌, List, [], ◌∷◌, ◌++◌, map, slice_get, slice_set, Option, Some, None, option_and_then}
use Rattle.apdu.specs.Values.{CommandValue, ResponseValue}
use Rattle.apdu.specs.Apdu.{channel_of, is_toolkit, refusal}
use Rattle.apdu.specs.declared.class.ClassKind.{ClassKind}
use Rattle.apdu.specs.declared.class.ClassKind.TheVariants.{Plain, Toolkit}
use Rattle.card_model.specs.declared.instruction.Instruction.{Instruction}
use Rattle.card_model.specs.declared.instruction.Instruction.TheVariants.{Select, GetResponse, Status, ReadBinary, UpdateBinary, ReadRecord, UpdateRecord, Verify, ManageChannel, TerminalProfile, Fetch, TerminalResponse}
use Rattle.card_model.specs.declared.world.PinState.{PinState}
use Rattle.card_model.specs.declared.world.ChannelState.{ChannelState}
use Rattle.card_model.specs.declared.world.Change.{Change}
use Rattle.card_model.specs.declared.world.CardState.{CardState}
use Rattle.card_model.specs.declared.world.World.{World}
use Rattle.card_model.specs.declared.world.WorldEvent.{WorldEvent}
use Rattle.card_model.specs.declared.world.WorldEvent.TheVariants.{Arm, Out, Insert}
use Rattle.card_model.specs.Card.{channel_place, fresh_channel}
use Rattle.card_model.specs.Instructions.{instruction_of, kind_of}
use Rattle.card_model.specs.Answers.{refuses}
use Rattle.card_model.specs.Select.{select_row}
use Rattle.card_model.specs.GetResponse.{without_waiting, get_response_row}
use Rattle.card_model.specs.Read.{read_binary_row, read_record_row}
use Rattle.card_model.specs.Update.{update_binary_row, update_record_row}
use Rattle.card_model.specs.Verify.{verify_row}
use Rattle.card_model.specs.Channels.{manage_channel_row}
use Rattle.card_model.specs.Toolkit.{status_row, terminal_profile_row, fetch_row, terminal_response_row}

-- ---- the table

abbrev pub on_row : List Change → CardState → ℕ → ChannelState → CommandValue → Instruction → CardState × ResponseValue
on_row changes card place channel c Select = select_row changes card place channel c
on_row changes card place channel c GetResponse = get_response_row changes card channel c
on_row changes card place channel c Status = status_row changes card c
on_row changes card place channel c ReadBinary = read_binary_row changes card channel c
on_row changes card place channel c UpdateBinary = update_binary_row changes card channel c
on_row changes card place channel c ReadRecord = read_record_row changes card channel c
on_row changes card place channel c UpdateRecord = update_record_row changes card channel c
on_row changes card place channel c Verify = verify_row changes card c
on_row changes card place channel c ManageChannel = manage_channel_row changes card c
on_row changes card place channel c TerminalProfile = terminal_profile_row changes card c
on_row changes card place channel c Fetch = fetch_row changes card c
on_row changes card place channel c TerminalResponse = terminal_response_row changes card c

abbrev pub same_kind : ClassKind → ClassKind → Bool
same_kind Plain kind = not (is_toolkit kind)
same_kind Toolkit kind = is_toolkit kind

-- what was waiting may be dropped, and a refusal of the row changes nothing else
abbrev pub on_kind : List Change → CardState → ℕ → ChannelState → ClassKind → CommandValue → Option Instruction → CardState × ResponseValue
on_kind changes card place channel kind c None = refuses card 0x6D00
on_kind changes card place channel kind c (Some row) =
    if same_kind (kind_of row) kind then on_row changes (without_waiting card channel row) place channel c row else refuses card 0x6E00

abbrev pub on_channel : List Change → CardState → ℕ → ClassKind → Option ChannelState → CommandValue → CardState × ResponseValue
on_channel changes card place kind None c = refuses card 0x6881
on_channel changes card place kind (Some channel) c = on_kind changes card place channel kind c (instruction_of c.ins)

abbrev pub on_place : List Change → CardState → ClassKind → Option ℕ → CommandValue → CardState × ResponseValue
on_place changes card kind None c = refuses card 0x6881
on_place changes card kind (Some place) c = on_channel changes card place kind (slice_get card.channels place) c

abbrev pub on_class : List Change → CardState → Option (ClassKind × ℕ) → CommandValue → CardState × ResponseValue
on_class changes card None c = refuses card 0x6E00
on_class changes card (Some class) c = on_place changes card class.0 (channel_place class.1 card) c

-- the class has a channel; the channel is open; the instruction is known, and its kind the class's; then the row
unfoldable pub on_card : List Change → CardState → CommandValue → CardState × ResponseValue
on_card changes card c = on_class changes card (channel_of c.class) c

-- ---- the world

abbrev pub card_inside : World → Option CardState
card_inside w = option_and_then (λ j. slice_get w.cards j) w.inside

abbrev pub with_card : World → ℕ → CardState → World
with_card w j card = record w { cards = slice_set w.cards j card }

abbrev pub step_of_card : World → ℕ → Option CardState → CommandValue → World × ResponseValue
step_of_card w j None c = (w, refusal 0)
step_of_card w j (Some card) c = (with_card w j (on_card w.changes card c).0, (on_card w.changes card c).1)

abbrev pub step_of_place : World → Option ℕ → CommandValue → World × ResponseValue
step_of_place w None c = (w, refusal 0)
step_of_place w (Some j) c = step_of_card w j (slice_get w.cards j) c

-- the world after a command, and the response of the card in the slot. On an empty slot the world stays, and nothing is answered.
unfoldable pub step : World → CommandValue → World × ResponseValue
step w c = step_of_place w w.inside c

abbrev pub unverified : PinState → PinState
unverified key = record key { verified = false }

-- the basic channel alone is open, with the MF selected; no key is verified, nothing is awaited or waiting
abbrev pub reset_card : CardState → CardState
reset_card card = record card {
  channels = fresh_channel 0 ∷ [];
  keys = map unverified card.keys;
  awaiting = false;
  waiting = None;
}

-- the card at this place is put in, and reset
abbrev pub inserted : World → ℕ → Option CardState → World
inserted w j None = w
inserted w j (Some card) = record (with_card w j (reset_card card)) { inside = Some j }

abbrev pub armed_card : ℕ → CardState → CardState
armed_card i card = record card { armed = card.armed ++ i ∷ [] }

abbrev pub armed_at : World → ℕ → ℕ → Option CardState → World
armed_at w i j None = w
armed_at w i j (Some card) = with_card w j (armed_card i card)

abbrev pub armed_in : World → ℕ → Option ℕ → World
armed_in w i None = w
armed_in w i (Some j) = armed_at w i j (slice_get w.cards j)

unfoldable pub after_event : World → WorldEvent → World
after_event w (Arm i) = armed_in w i w.inside
after_event w Out = record w { inside = None }
after_event w (Insert j) = inserted w j (slice_get w.cards j)

abbrev pub reset_in : World → Option ℕ → World
reset_in w None = w
reset_in w (Some j) = inserted w j (slice_get w.cards j)

-- the card in the slot is reset
unfoldable pub after_reset : World → World
after_reset w = reset_in w w.inside
