-- How a call of the program ends: its statuses, what each writes, and the cause of each.
use Rattle.std.specs.Prelude.{◌≡◌, ◌⊎◌, ℕ, ◌==◌, List, [], ◌∷◌, ◌++◌, codes, decimal, Result, Ok, Err, Option, Some, None, Bool, if◌then◌else◌}
use Rattle.apdu.specs.Words.{is_one_of}
use Rattle.apdu.specs.Stream.{Rose, AppendsPart}
use Rattle.script_reader.specs.declared.types.Script.{Script}
use Rattle.script_reader.specs.Reading.{Refusal}
use Rattle.script_reader.specs.Words.{part_word, why_word}
use Rattle.script_reader.specs.Scripts.{script_of_bytes}
use Rattle.streams.specs.Streams.{SourceValue, SinkValue, StreamsValue, HasMore, IsRead, WritesWhole, WritesFront, Wrote}
use Rattle.card_console.specs.Lines.{lines_of}
use Rattle.card_console.specs.Played.{played, first_bad, slot_of}
use Rattle.card_console.specs.declared.top.Ending.{Ending}
use Rattle.card_console.specs.declared.top.Ending.TheVariants.{Played, Refused, TooLong, ReadFault, Memory}

-- ---- what is written

-- where the first line is no script: the part, the index of its item, and the rule that it breaks
abbrev pub refused_line : Refusal → List ℕ
refused_line r = codes "refused " ++ part_word r.part ++ codes " " ++ decimal r.index ++ codes " " ++ why_word r.why ++ codes "\n"

-- where the line of this number makes no call
abbrev pub bad_line : ℕ → List ℕ
bad_line number = codes "refused line " ++ decimal number ++ codes "\n"

unfoldable pub too_long_line : List ℕ
too_long_line = codes "too long\n"

unfoldable pub read_fault_line : List ℕ
read_fault_line = codes "read fault\n"

unfoldable pub memory_line : List ℕ
memory_line = codes "memory\n"

-- ---- conversations

abbrev pub answer_unless : Option ℕ → List ℕ → Result (List ℕ) (List ℕ)
answer_unless None text = Ok text
answer_unless (Some number) text = Err (bad_line number)

-- the script's own line, and the further lines as they are played; the first of these is line 2
abbrev pub answer_of_script : List ℕ → List (List ℕ) → Script → Result (List ℕ) (List ℕ)
answer_of_script first lines s = answer_unless (first_bad 2 lines) (first ++ codes "\n" ++ played (slot_of s) lines)

abbrev pub answer_of_reading : List ℕ → List (List ℕ) → Result Script Refusal → Result (List ℕ) (List ℕ)
answer_of_reading first lines (Ok s) = answer_of_script first lines s
answer_of_reading first lines (Err refusal) = Err (refused_line refusal)

abbrev pub answer_of_lines : List (List ℕ) → Result (List ℕ) (List ℕ)
answer_of_lines [] = answer_of_reading [] [] (script_of_bytes [])
answer_of_lines (first ∷ lines) = answer_of_reading first lines (script_of_bytes first)

-- what is written of a conversation, or the line that tells why the bytes are none
abbrev pub answer_of : List ℕ → Result (List ℕ) (List ℕ)
answer_of bytes = answer_of_lines (lines_of bytes)

-- ---- endings

-- the line of a status that has but one
abbrev pub line_of : ℕ → Option (List ℕ)
line_of status =
    if status == 4 then Some read_fault_line
    else if status == 8 then Some too_long_line
    else if status == 9 then Some memory_line
    else None

-- the statuses that the program has
abbrev pub is_status : ℕ → Bool
is_status status = is_one_of status (0 ∷ 3 ∷ 4 ∷ 5 ∷ 8 ∷ 9 ∷ [])

abbrev pub piece_of : Ending → List ℕ
piece_of (Played text) = text
piece_of (Refused line) = line
piece_of TooLong = too_long_line
piece_of ReadFault = read_fault_line
piece_of Memory = memory_line

abbrev pub status_of : Ending → ℕ
status_of (Played text) = 0
status_of (Refused line) = 3
status_of TooLong = 8
status_of ReadFault = 4
status_of Memory = 9

-- ---- reading

-- the most bytes that a conversation may have
abbrev pub conversation_limit : ℕ
conversation_limit = 16777216

-- ---- causes

-- the ending of bytes with this answer
abbrev pub Tells : Result (List ℕ) (List ℕ) → Ending → Type 0
Tells answer (Played text) = answer ≡ Ok text
Tells answer (Refused line) = answer ≡ Err line
Tells answer TooLong = ⊥
Tells answer ReadFault = ⊥
Tells answer Memory = ⊥

-- bytes were read that have this answer
pub record IsAnswer (before after : SourceValue) (answer : Result (List ℕ) (List ℕ)) : Type 0 where
  pub bytes : List ℕ
  pub read : IsRead conversation_limit before after bytes
  pub told : answer_of bytes ≡ answer

-- the cause of each ending, of what the source was before and after
abbrev pub IsDue : SourceValue → SourceValue → Ending → Type 0
IsDue before after (Played text) = IsAnswer before after (Ok text)
IsDue before after (Refused line) = IsAnswer before after (Err line)
IsDue before after TooLong = HasMore conversation_limit before after
IsDue before after ReadFault = Rose before.faults after.faults
IsDue before after Memory = Unit {0}

-- ---- what a call did

-- the conversation that was read was written with its answers
pub record IsPlayed (before after : StreamsValue) : Type 0 where
  pub text : List ℕ
  pub answer : IsAnswer before.source after.source (Ok text)
  pub whole : Wrote before after text

-- the line was written that tells why the bytes that were read are no conversation
pub record IsRefused (before after : StreamsValue) : Type 0 where
  pub line : List ℕ
  pub answer : IsAnswer before.source after.source (Err line)
  pub whole : Wrote before after line

-- a front was written of what an ending writes whose cause stood
pub record WritesPart (before after : StreamsValue) : Type 0 where
  pub ending : Ending
  pub due : IsDue before.source after.source ending
  pub part : AppendsPart before.sink.written after.sink.written (piece_of ending)

-- ---- writing

-- the call ends with this status, and the piece was written whole
pub record EndsWhole (code : ℕ) (piece : List ℕ) (before after : SinkValue) (status : ℕ) : Type 0 where
  pub status_is : status ≡ code
  pub whole : WritesWhole before after piece

-- the call ends with status 5, for the sink failed
pub record EndsCut (piece : List ℕ) (before after : SinkValue) (status : ℕ) : Type 0 where
  pub status_is : status ≡ 5
  pub front : WritesFront before after piece

abbrev pub Writes : ℕ → List ℕ → SinkValue → SinkValue → ℕ → Type 0
Writes code piece before after status = EndsWhole code piece before after status ⊎ EndsCut piece before after status

abbrev pub Ends : Ending → SinkValue → SinkValue → ℕ → Type 0
Ends e before after status = Writes (status_of e) (piece_of e) before after status
