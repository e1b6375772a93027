-- UPDATE BINARY and UPDATE RECORD, ETSI TS 102 221 clauses 11.1.4 and 11.1.6.
use Rattle.std.specs.Prelude.{ℕ, ◌+◌, ◌-◌, ◌==◌, not, if◌then◌else◌, List, length, nat_lt, nat_le, slice_get, slice_set, Option, Some, None}
use Rattle.apdu.specs.Values.{CommandValue, ResponseValue}
use Rattle.apdu.specs.Words.{is_empty, or_else, written_at}
use Rattle.fcp.specs.Content.{first_row, with_row}
use Rattle.card_model.specs.declared.instruction.Part.{Part}
use Rattle.card_model.specs.declared.instruction.Part.TheVariants.{Binary, Record}
use Rattle.card_model.specs.declared.world.FileState.{FileState}
use Rattle.card_model.specs.declared.world.ChannelState.{ChannelState}
use Rattle.card_model.specs.declared.world.Change.{Change}
use Rattle.card_model.specs.declared.world.CardState.{CardState}
use Rattle.card_model.specs.Card.{current_place, rule_of}
use Rattle.card_model.specs.Answers.{refuses, unless_refused, succeeds, body_len, parameters}
use Rattle.card_model.specs.Parts.{part_refusal, access_refusal}

-- ---- checks

-- no body: 6700
abbrev pub body_refusal : CommandValue → Option ℕ
body_refusal c = if is_empty c.body then Some 0x6700 else None

-- the offset at or past the size: 6B00, P1 above the count: 6A83. The body may not pass the size, and is as wide as the record
abbrev pub fit_refusal : Part → FileState → CommandValue → Option ℕ
fit_refusal Binary file c =
    if nat_le (length (first_row file.rows.rows)) (parameters c) then Some 0x6B00
    else if nat_lt (length (first_row file.rows.rows)) (parameters c + body_len c) then Some 0x6700
    else None
fit_refusal Record file c =
    if nat_lt (length file.rows.rows) c.p1 then Some 0x6A83
    else if not (body_len c == file.rows.width) then Some 0x6700
    else None

abbrev pub update_refusal : CardState → Part → FileState → CommandValue → Option ℕ
update_refusal card part file c =
    or_else (part_refusal part file c)
    (or_else (body_refusal c)
    (or_else (access_refusal card file (rule_of card file).update)
    (fit_refusal part file c)))

-- ---- the card with the file written

-- the file with another record at this index
abbrev pub with_record : FileState → ℕ → List ℕ → FileState
with_record file i bytes = record file { rows = with_row i bytes file.rows }

-- the file with the body in place of the part
abbrev pub with_part : Part → FileState → CommandValue → FileState
with_part Binary file c = with_record file 0 (written_at (parameters c) c.body (first_row file.rows.rows))
with_part Record file c = with_record file (c.p1 - 1) c.body

-- the file at this place is another
abbrev pub with_file_at : CardState → ℕ → FileState → CardState
with_file_at card place file = record card { files = slice_set card.files place file }

-- ---- the rows

abbrev pub update_found : List Change → CardState → Part → CommandValue → ℕ → Option FileState → CardState × ResponseValue
update_found changes card part c place None = refuses card 0x6986
update_found changes card part c place (Some file) =
    unless_refused card (update_refusal card part file c) (succeeds changes (with_file_at card place (with_part part file c)))

abbrev pub update_at : List Change → CardState → Part → CommandValue → Option ℕ → CardState × ResponseValue
update_at changes card part c None = refuses card 0x6986
update_at changes card part c (Some place) = update_found changes card part c place (slice_get card.files place)

abbrev pub update_current : List Change → CardState → ChannelState → Part → CommandValue → CardState × ResponseValue
update_current changes card channel part c = update_at changes card part c (current_place card channel)

unfoldable pub update_binary_row : List Change → CardState → ChannelState → CommandValue → CardState × ResponseValue
update_binary_row changes card channel c = update_current changes card channel Binary c

unfoldable pub update_record_row : List Change → CardState → ChannelState → CommandValue → CardState × ResponseValue
update_record_row changes card channel c = update_current changes card channel Record c
