-- What is written of the calls of a conversation, each with the answer of the slot.
use Rattle.std.specs.Prelude.{ℕ, Bool, if◌then◌else◌, is_some, ◌||◌, List, [], ◌∷◌, ◌++◌, codes, decimal, Option, Some, None}
use Rattle.hex.specs.Hex.{encode_upper}
use Rattle.apdu.specs.Words.{is_empty}
use Rattle.apdu.specs.Apdu.{command_bytes, response_bytes}
use Rattle.card_model.specs.declared.world.WorldEvent.{WorldEvent}
use Rattle.card_model.specs.declared.world.WorldEvent.TheVariants.{Arm, Out, Insert}
use Rattle.card_model.specs.declared.slot.WorldRefusal.{WorldRefusal}
use Rattle.card_model.specs.declared.slot.WorldRefusal.TheVariants.{SlotEmpty, SlotFull, ArmFull, NoImage, NoChange}
use Rattle.card_model.specs.Step.{step}
use Rattle.card_model.specs.Slot.{one_more, refusal_of}
use Rattle.sim_card.specs.Sim.{SimValue, empty_slot}
use Rattle.sim_card.specs.Calls.{fails_next, after_call}
use Rattle.sim_card.specs.declared.calls.Call.{Call}
use Rattle.sim_card.specs.declared.calls.Call.TheVariants.{Exchange, Reset, World}
use Rattle.script_reader.specs.declared.types.Script.{Script}
use Rattle.script_reader.specs.World.{first_world}
use Rattle.card_console.specs.Lines.{call_of}

-- ---- words

abbrev pub event_text : WorldEvent → List ℕ
event_text (Arm change) = codes "arm " ++ decimal change
event_text Out = codes "out"
event_text (Insert card) = codes "in " ++ decimal card

abbrev pub call_text : Call → List ℕ
call_text (Exchange c) = encode_upper (command_bytes c)
call_text Reset = codes "reset"
call_text (World e) = event_text e

abbrev pub refusal_word : WorldRefusal → List ℕ
refusal_word SlotEmpty = codes "slot-empty"
refusal_word SlotFull = codes "slot-full"
refusal_word ArmFull = codes "arm-full"
refusal_word (NoImage card) = codes "no-card"
refusal_word (NoChange change) = codes "no-change"

abbrev pub event_answer : Option WorldRefusal → List ℕ
event_answer None = codes "ok"
event_answer (Some refusal) = refusal_word refusal

-- how the slot answers a call: a failed one `fault`, a command with the card's response
abbrev pub answer_text : SimValue → Call → List ℕ
answer_text s (Exchange c) = if fails_next s then codes "fault" else encode_upper (response_bytes (step s.world c).1)
answer_text s Reset = if fails_next s then codes "fault" else codes "ok"
answer_text s (World e) = event_answer (refusal_of s.world e)

-- ---- lines

-- a line without a call is left out
abbrev pub line_text : SimValue → Option Call → List ℕ
line_text s None = []
line_text s (Some call) = call_text call ++ codes " " ++ answer_text s call ++ codes "\n"

abbrev pub after_line : SimValue → Option Call → SimValue
after_line s None = s
after_line s (Some call) = after_call s call

-- what the lines come to, the first line first: each call, and its answer in the slot that those before it left
abbrev pub played : SimValue → List (List ℕ) → List ℕ
played s [] = []
played s (line ∷ lines) = line_text s (call_of line) ++ played (after_line s (call_of line)) lines

-- a line makes a call, or is empty
abbrev pub is_line : List ℕ → Bool
is_line line = is_some (call_of line) || is_empty line

-- the number of the first line that makes no call and is not empty, where the first of them has this number
abbrev pub first_bad : ℕ → List (List ℕ) → Option ℕ
first_bad number [] = None
first_bad number (line ∷ lines) = if is_line line then first_bad (one_more number) lines else Some number

-- ---- the slot

-- an empty slot for the cards of a script, with its changes and faults
abbrev pub slot_of : Script → SimValue
slot_of s = empty_slot (first_world s).cards (first_world s).changes s.faults
