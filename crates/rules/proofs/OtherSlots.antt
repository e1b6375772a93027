-- What is due over a slot whose card answers otherwise than the table says.
use Rattle.std.specs.Prelude.{◌≡◌, List, [], ◌∷◌, reverse, ◌++◌, Some, None, true, false, refl}
use Rattle.std.specs.Fmt.{digits}
use Rattle.std.specs.Str.{chars}
use Rattle.std.specs.Char.{encode_utf8}
use Rattle.hex.specs.Hex.{encode_with}
use Rattle.serde_json.proofs.OnLiterals.{serde_json_on_literals}
use Rattle.card_model.specs.declared.world.WorldEvent.TheVariants as world_event
use Rattle.script_reader.specs.declared.types.Script.{Script}
use Rattle.script_reader.specs.declared.types.KindSpec.TheVariants.{Transparent}
use Rattle.script_reader.specs.declared.types.Operation.{Operation}
use Rattle.script_reader.specs.declared.types.Operation.TheVariants as operation
use Rattle.report.specs.declared.answer.Answer.TheVariants as answer
use Rattle.report.specs.declared.line.Line.{Line}
use Rattle.report.specs.declared.line.Line.TheVariants as line
use Rattle.card_model.specs.Step.{on_card, step, after_event, after_reset}
use Rattle.card_model.specs.Select.{select_row}
use Rattle.card_model.specs.GetResponse.{get_response_row}
use Rattle.card_model.specs.Read.{read_binary_row, read_record_row}
use Rattle.card_model.specs.Update.{update_binary_row, update_record_row}
use Rattle.card_model.specs.Verify.{verify_row}
use Rattle.card_model.specs.Channels.{manage_channel_row}
use Rattle.card_model.specs.Toolkit.{status_row, terminal_profile_row, fetch_row, terminal_response_row}
use Rattle.fcp.specs.Control.{read_fcp, write_fcp, read_rule}
use Rattle.alpha.specs.Alphabet.{default_alphabet, extension_table}
use Rattle.rules.specs.After.{kept_of}
use Rattle.rules.specs.declared.due.Due.TheVariants.{Give as give, Send as send}
use Rattle.rules.specs.Due.{due}

-- a card with EF_ICCID is put in, and then this is asked
abbrev script : Operation → Script
script op = record {
  version = 1;
  cards = ((record { files = ((record { path = (0x2FE2 ∷ []); kind = (Transparent (0x98 ∷ 0x10 ∷ 0x14 ∷ 0x30 ∷ 0x12 ∷ 0x11 ∷ 0x81 ∷ 0x15 ∷ 0x70 ∷ 0x02 ∷ [])); arr = None; active = true; endless = false; fcp = None }) ∷ []); aids = ([]); keys = ([]); channels = 3; get_response = false }) ∷ []);
  actors = (((operation.Insert 0) ∷ op ∷ []) ∷ []);
  changes = ([]);
  schedule = ([]);
  faults = ([]);
  budget = None;
}

-- the oldest first
abbrev lines : List Line
lines =
    line.Turn 1 ∷
    line.Begin 1 0 ∷
    line.World 1 (world_event.Insert 0) ∷
    line.Answered 1 0 answer.Moved ∷
    line.Turn 0 ∷
    line.Exchange 0 (record { class = 0x80; ins = 0x10; p1 = 0x00; p2 = 0x00; body = (0x01 ∷ 0x00 ∷ 0x80 ∷ []); le = None }) (record { body = ([]); sw = 0x9000 }) ∷
    line.Turn 0 ∷
    line.Exchange 0 (record { class = 0x00; ins = 0xA4; p1 = 0x04; p2 = 0x0C; body = (0xA0 ∷ 0x00 ∷ 0x00 ∷ 0x00 ∷ 0x87 ∷ 0x10 ∷ 0x02 ∷ []); le = None }) (record { body = ([]); sw = 0x9000 }) ∷
    line.Turn 1 ∷
    line.Begin 1 1 ∷
    []

-- behind a SELECT that succeeds without a body
control : due (script (operation.Load 0)) (kept_of (script (operation.Load 0)) (reverse (lines ++ ((line.Exchange 1 (record { class = 0x00; ins = 0xA4; p1 = 0x08; p2 = 0x04; body = (0x2F ∷ 0xE2 ∷ []); le = (Some 256) }) (record { body = ([]); sw = 0x9000 })) ∷ [])))) ≡ give (answer.BadFcp 4)
unfolding serde_json_on_literals digits encode_with chars encode_utf8 on_card step after_event after_reset select_row get_response_row read_binary_row read_record_row update_binary_row update_record_row verify_row manage_channel_row status_row terminal_profile_row fetch_row terminal_response_row read_fcp write_fcp read_rule default_alphabet extension_table
control = refl

-- behind a channel without a number
channel : due (script (operation.OpenChannel 0 (0xA0 ∷ 0x00 ∷ 0x00 ∷ 0x00 ∷ 0x09 ∷ 0x00 ∷ 0x01 ∷ []))) (kept_of (script (operation.OpenChannel 0 (0xA0 ∷ 0x00 ∷ 0x00 ∷ 0x00 ∷ 0x09 ∷ 0x00 ∷ 0x01 ∷ []))) (reverse (lines ++ ((line.Exchange 1 (record { class = 0x00; ins = 0x70; p1 = 0x00; p2 = 0x00; body = ([]); le = (Some 1) }) (record { body = ([]); sw = 0x9000 })) ∷ [])))) ≡ give (answer.Status (record { 0 = 0x9000 }) 4)
unfolding serde_json_on_literals digits encode_with chars encode_utf8 on_card step after_event after_reset select_row get_response_row read_binary_row read_record_row update_binary_row update_record_row verify_row manage_channel_row status_row terminal_profile_row fetch_row terminal_response_row read_fcp write_fcp read_rule default_alphabet extension_table
channel = refl

-- behind the number of no channel
number : due (script (operation.OpenChannel 0 (0xA0 ∷ 0x00 ∷ 0x00 ∷ 0x00 ∷ 0x09 ∷ 0x00 ∷ 0x01 ∷ []))) (kept_of (script (operation.OpenChannel 0 (0xA0 ∷ 0x00 ∷ 0x00 ∷ 0x00 ∷ 0x09 ∷ 0x00 ∷ 0x01 ∷ []))) (reverse (lines ++ ((line.Exchange 1 (record { class = 0x00; ins = 0x70; p1 = 0x00; p2 = 0x00; body = ([]); le = (Some 1) }) (record { body = (0x14 ∷ []); sw = 0x9000 })) ∷ [])))) ≡ give (answer.Status (record { 0 = 0x9000 }) 4)
unfolding serde_json_on_literals digits encode_with chars encode_utf8 on_card step after_event after_reset select_row get_response_row read_binary_row read_record_row update_binary_row update_record_row verify_row manage_channel_row status_row terminal_profile_row fetch_row terminal_response_row read_fcp write_fcp read_rule default_alphabet extension_table
number = refl

-- a VERIFY is sent once
pin : due (script (operation.Verify 0x01 (0x31 ∷ 0x32 ∷ 0x33 ∷ 0x34 ∷ 0xFF ∷ 0xFF ∷ 0xFF ∷ 0xFF ∷ []))) (kept_of (script (operation.Verify 0x01 (0x31 ∷ 0x32 ∷ 0x33 ∷ 0x34 ∷ 0xFF ∷ 0xFF ∷ 0xFF ∷ 0xFF ∷ []))) (reverse (lines ++ ((line.Exchange 1 (record { class = 0x00; ins = 0x20; p1 = 0x00; p2 = 0x01; body = (0x31 ∷ 0x32 ∷ 0x33 ∷ 0x34 ∷ 0xFF ∷ 0xFF ∷ 0xFF ∷ 0xFF ∷ []); le = None }) (record { body = ([]); sw = 0x6C08 })) ∷ [])))) ≡ give (answer.Status (record { 0 = 0x6C08 }) 4)
unfolding serde_json_on_literals digits encode_with chars encode_utf8 on_card step after_event after_reset select_row get_response_row read_binary_row read_record_row update_binary_row update_record_row verify_row manage_channel_row status_row terminal_profile_row fetch_row terminal_response_row read_fcp write_fcp read_rule default_alphabet extension_table
pin = refl

-- behind 61XX comes GET RESPONSE
chain : due (script (operation.Poll)) (kept_of (script (operation.Poll)) (reverse (lines ++ ((line.Exchange 1 (record { class = 0x80; ins = 0xF2; p1 = 0x00; p2 = 0x0C; body = ([]); le = None }) (record { body = ([]); sw = 0x6105 })) ∷ [])))) ≡ send (record { class = 0x00; ins = 0xC0; p1 = 0x00; p2 = 0x00; body = ([]); le = (Some 5) })
unfolding serde_json_on_literals digits encode_with chars encode_utf8 on_card step after_event after_reset select_row get_response_row read_binary_row read_record_row update_binary_row update_record_row verify_row manage_channel_row status_row terminal_profile_row fetch_row terminal_response_row read_fcp write_fcp read_rule default_alphabet extension_table
chain = refl

-- but not behind four exchanges
loop : due (script (operation.Poll)) (kept_of (script (operation.Poll)) (reverse (lines ++ ((line.Exchange 1 (record { class = 0x80; ins = 0xF2; p1 = 0x00; p2 = 0x0C; body = ([]); le = None }) (record { body = ([]); sw = 0x6105 })) ∷ (line.Exchange 1 (record { class = 0x00; ins = 0xC0; p1 = 0x00; p2 = 0x00; body = ([]); le = (Some 5) }) (record { body = ([]); sw = 0x6105 })) ∷ (line.Exchange 1 (record { class = 0x00; ins = 0xC0; p1 = 0x00; p2 = 0x00; body = ([]); le = (Some 5) }) (record { body = ([]); sw = 0x6105 })) ∷ (line.Exchange 1 (record { class = 0x00; ins = 0xC0; p1 = 0x00; p2 = 0x00; body = ([]); le = (Some 5) }) (record { body = ([]); sw = 0x6105 })) ∷ [])))) ≡ give (answer.Loop 7)
unfolding serde_json_on_literals digits encode_with chars encode_utf8 on_card step after_event after_reset select_row get_response_row read_binary_row read_record_row update_binary_row update_record_row verify_row manage_channel_row status_row terminal_profile_row fetch_row terminal_response_row read_fcp write_fcp read_rule default_alphabet extension_table
loop = refl
