-- The text of a report: one line for each of its lines, words separated by one space, each line ended by a line feed.
use Rattle.std.specs.Prelude.{◌≡◌, ℕ, Bool, true, false, List, [], ◌∷◌, ◌++◌, flat_map, Option, Some, None, codes, decimal, String, string_bytes}
use Rattle.std.specs.declared.alloc.Global.{Global}
use Rattle.std.specs.Fmt.{radix_digits}
use Rattle.hex.specs.Hex.{encode_upper}
use Rattle.apdu.specs.Words.{two_bytes}
use Rattle.apdu.specs.Values.{CommandValue, ResponseValue}
use Rattle.apdu.specs.Apdu.{command_bytes, response_bytes}
use Rattle.card_model.specs.declared.world.WorldEvent.{WorldEvent}
use Rattle.card_model.specs.declared.world.WorldEvent.TheVariants as world_event
use Rattle.script_writer.specs.Writing.{family_name, script_text}
use Rattle.report.specs.declared.line.Mode.{Mode}
use Rattle.report.specs.declared.line.Mode.TheVariants.{Replay, Run}
use Rattle.report.specs.declared.answer.Answer.{Answer}
use Rattle.report.specs.declared.answer.Answer.TheVariants as answer
use Rattle.report.specs.declared.line.Line.{Line}
use Rattle.report.specs.declared.line.Line.TheVariants as line
use Rattle.report.specs.declared.lines.Report.{Report}

-- the words are put behind a text
abbrev pub Puts : String Global → String Global → List ℕ → Type 0
Puts before after words = string_bytes after ≡ string_bytes before ++ words

-- ---- words of lines; each but the first begins with the space before it

abbrev pub word : List ℕ → List ℕ
word text = codes " " ++ text

abbrev pub number_text : ℕ → List ℕ
number_text n = word (decimal n)

abbrev pub hex_text : List ℕ → List ℕ
hex_text bytes = word (encode_upper bytes)

abbrev pub byte_text : ℕ → List ℕ
byte_text b = hex_text (b ∷ [])

-- a number, or `-` for none
abbrev pub optional_text : Option ℕ → List ℕ
optional_text None = codes " -"
optional_text (Some n) = number_text n

abbrev pub numbers_text : List ℕ → List ℕ
numbers_text = flat_map number_text

abbrev pub shown_text : List (Option ℕ) → List ℕ
shown_text = flat_map optional_text

abbrev pub comma_text : ℕ → List ℕ
comma_text row = codes "," ++ decimal row

-- rows joined by commas, or `-` for none
abbrev pub rows_text : List ℕ → List ℕ
rows_text [] = codes " -"
rows_text (row ∷ rows) = number_text row ++ flat_map comma_text rows

abbrev pub unsure_text : Bool → List ℕ
unsure_text true = codes " unsure"
unsure_text false = []

-- ---- answers

abbrev pub status_text : ℕ → ℕ → List ℕ
status_text sw n = codes " status" ++ hex_text (two_bytes sw) ++ number_text n

abbrev pub notices_text : ℕ → List ℕ → List ℕ
notices_text dropped numbers = codes " notices" ++ number_text dropped ++ numbers_text numbers

abbrev pub answer_text : Answer → List ℕ
answer_text answer.Moved = codes " moved"
answer_text answer.SlotFull = codes " slot-full"
answer_text answer.SlotEmpty = codes " slot-empty"
answer_text answer.ArmFull = codes " arm-full"
answer_text answer.Absent = codes " absent"
answer_text (answer.EpochEnded e n unsure) = codes " epoch-ended" ++ number_text e ++ number_text n ++ unsure_text unsure
answer_text (answer.Status sw n) = status_text sw.0 n
answer_text (answer.Loop n) = codes " loop" ++ number_text n
answer_text (answer.BadFcp n) = codes " bad-fcp" ++ number_text n
answer_text (answer.Loaded k) = codes " loaded" ++ number_text k
answer_text (answer.Done n k left) = codes " done" ++ number_text n ++ optional_text k ++ rows_text left
answer_text (answer.NeedsPin key) = codes " needs-pin" ++ byte_text key
answer_text (answer.BadFile width) = codes " bad-file" ++ number_text width
answer_text (answer.NoRecord at) = codes " no-record" ++ number_text at
answer_text (answer.Full count) = codes " full" ++ number_text count
answer_text (answer.NotWritable found) = codes " not-writable" ++ word (radix_digits 16 true found)
answer_text (answer.NameTooLong need room) = codes " name-too-long" ++ number_text need ++ number_text room
answer_text (answer.BadDigit at) = codes " bad-digit" ++ number_text at
answer_text (answer.NumberTooLong count) = codes " number-too-long" ++ number_text count
answer_text (answer.ExtFull count) = codes " ext-full" ++ number_text count
answer_text (answer.Opened channel) = codes " opened" ++ number_text channel
answer_text (answer.Exhausted n) = codes " exhausted" ++ number_text n
answer_text (answer.Raw r) = codes " raw" ++ hex_text (response_bytes r)
answer_text (answer.RawRefused ins) = codes " raw-refused" ++ byte_text ins
answer_text (answer.NotHeldRef handle) = codes " not-held" ++ number_text handle
answer_text (answer.NotHeldKey key) = codes " not-held" ++ byte_text key
answer_text answer.Closed = codes " closed"
answer_text answer.Verified = codes " verified"
answer_text answer.Ended = codes " ended"
answer_text answer.Polled = codes " polled"
answer_text (answer.Look seen) = codes " look" ++ number_text seen.count ++ shown_text seen.shown
answer_text answer.Watching = codes " watching"
answer_text (answer.Notices dropped numbers) = notices_text dropped numbers.items

-- ---- parts of lines

abbrev pub event_text : WorldEvent → List ℕ
event_text (world_event.Arm i) = codes " arm" ++ number_text i
event_text world_event.Out = codes " out"
event_text (world_event.Insert j) = codes " in" ++ number_text j

abbrev pub family_text : ℕ → List ℕ
family_text f = word (family_name f)

-- whether the card acted on a command whose answer was lost
abbrev pub acted_text : Bool → List ℕ
acted_text true = codes " 1"
acted_text false = codes " 0"

abbrev pub command_text : CommandValue → List ℕ
command_text c = hex_text (command_bytes c)

abbrev pub response_text : ResponseValue → List ℕ
response_text r = hex_text (response_bytes r)

-- ---- lines

-- a line without its line feed
abbrev pub line_words : Line → List ℕ
line_words (line.Turn a) = codes "t" ++ number_text a
line_words (line.Begin a i) = codes "b" ++ number_text a ++ number_text i
line_words (line.Exchange a c r) = codes "x" ++ number_text a ++ command_text c ++ response_text r
line_words (line.Failed a c acted) = codes "f" ++ number_text a ++ command_text c ++ acted_text acted
line_words (line.Reset a) = codes "r" ++ number_text a
line_words (line.ResetFailed a) = codes "q" ++ number_text a
line_words (line.World a e) = codes "w" ++ number_text a ++ event_text e
line_words (line.Published k f e n text) = codes "p" ++ number_text k ++ family_text f ++ number_text e ++ number_text n ++ word text
line_words (line.EpochEnd k e n) = codes "z" ++ number_text k ++ number_text e ++ number_text n
line_words (line.Refused f n) = codes "d" ++ family_text f ++ number_text n
line_words (line.Answered a i given) = codes "a" ++ number_text a ++ number_text i ++ answer_text given

abbrev pub line_text : Line → List ℕ
line_text l = line_words l ++ codes "\n"

-- the lines are the newest first
abbrev pub lines_text : List Line → List ℕ
lines_text [] = []
lines_text (l ∷ earlier) = lines_text earlier ++ line_text l

-- ---- the report

abbrev pub mode_text : Mode → List ℕ
mode_text Replay = codes "\nmode replay\n"
mode_text Run = codes "\nmode run\n"

abbrev pub report_text : Report → List ℕ
report_text r = codes "script " ++ script_text r.script ++ mode_text r.mode ++ lines_text r.lines ++ codes "end\n"
