-- READ BINARY and READ RECORD, ETSI TS 102 221 clauses 11.1.3 and 11.1.5.
use Rattle.std.specs.Prelude.{ℕ, ◌-◌, ◌==◌, ◌||◌, not, if◌then◌else◌, List, length, take, drop, nat_lt, nat_le, Option, Some, None, is_none}
use Rattle.apdu.specs.Values.{CommandValue, ResponseValue}
use Rattle.apdu.specs.Words.{or_else}
use Rattle.fcp.specs.Content.{first_row}
use Rattle.card_model.specs.declared.instruction.Part.{Part}
use Rattle.card_model.specs.declared.instruction.Part.TheVariants.{Binary, Record}
use Rattle.card_model.specs.declared.world.FileState.{FileState}
use Rattle.card_model.specs.declared.world.ChannelState.{ChannelState}
use Rattle.card_model.specs.declared.world.Change.{Change}
use Rattle.card_model.specs.declared.world.CardState.{CardState}
use Rattle.card_model.specs.Card.{current_file, record_at, rule_of}
use Rattle.card_model.specs.Answers.{refuses, unless_refused, other_length, answers, parameters, wanted_le, le_of}
use Rattle.card_model.specs.Parts.{part_refusal, access_refusal}

-- from the offset on, Le bytes
abbrev pub read_bytes : List Change → CardState → FileState → ℕ → ℕ → CardState × ResponseValue
read_bytes changes card file at le =
    if nat_le (length (first_row file.rows.rows)) at then refuses card 0x6B00
    else if file.endless then refuses card 0x6C01
    else if nat_lt (length (first_row file.rows.rows) - at) le then refuses card (other_length (length (first_row file.rows.rows) - at))
    else answers changes card (take le (drop at (first_row file.rows.rows)))

-- P1 above the count: 6A83. Another Le than the width, or an endless file: 6CXX
abbrev pub read_record : List Change → CardState → FileState → ℕ → Option (List ℕ) → CardState × ResponseValue
read_record changes card file le None = refuses card 0x6A83
read_record changes card file le (Some bytes) =
    if file.endless || not (le == file.rows.width) then refuses card (other_length file.rows.width)
    else answers changes card bytes

abbrev pub read_part : List Change → CardState → Part → FileState → CommandValue → CardState × ResponseValue
read_part changes card Binary file c = read_bytes changes card file (parameters c) (le_of c)
read_part changes card Record file c = read_record changes card file (le_of c) (record_at c.p1 file)

-- a body, or no Le: 6700
abbrev pub le_refusal : CommandValue → Option ℕ
le_refusal c = if is_none (wanted_le c) then Some 0x6700 else None

abbrev pub read_refusal : CardState → Part → FileState → CommandValue → Option ℕ
read_refusal card part file c =
    or_else (part_refusal part file c)
    (or_else (le_refusal c)
    (access_refusal card file (rule_of card file).read))

abbrev pub read_found : List Change → CardState → Part → CommandValue → Option FileState → CardState × ResponseValue
read_found changes card part c None = refuses card 0x6986
read_found changes card part c (Some file) =
    unless_refused card (read_refusal card part file c) (read_part changes card part file c)

abbrev pub read_current : List Change → CardState → ChannelState → Part → CommandValue → CardState × ResponseValue
read_current changes card channel part c = read_found changes card part c (current_file card channel)

unfoldable pub read_binary_row : List Change → CardState → ChannelState → CommandValue → CardState × ResponseValue
read_binary_row changes card channel c = read_current changes card channel Binary c

unfoldable pub read_record_row : List Change → CardState → ChannelState → CommandValue → CardState × ResponseValue
read_record_row changes card channel c = read_current changes card channel Record c
