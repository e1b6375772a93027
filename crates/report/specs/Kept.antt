-- What is kept of a line: a form of a fixed size, and beside it the bytes of its numbers, texts, commands and responses.
use Rattle.std.specs.Prelude.{◌≡◌, ℕ, zero, suc, ◌+◌, ◌%◌, ◌≤◌, ◌==◌, nat_lt, Bool, ◌||◌, if◌then◌else◌, List, [], ◌∷◌, ◌++◌, length, take, drop, map, flat_map, reverse, Option, Some, None, Result, Ok, Err, unwrap_or}
use Rattle.std.specs.Int.{Width, w16, w32, w64, to_be_bytes, from_be_bytes}
use Rattle.std.specs.Str.{is_utf8}
use Rattle.apdu.specs.Words.{is_between}
use Rattle.apdu.specs.Values.{CommandValue, ResponseValue}
use Rattle.apdu.specs.Apdu.{command_bytes, response_bytes, read_command, read_response}
use Rattle.apdu.specs.declared.command.ApduError.{ApduError}
use Rattle.report.specs.declared.answer.Answer.{Answer}
use Rattle.report.specs.declared.answer.Answer.TheVariants as answer
use Rattle.report.specs.declared.line.Line.{Line}
use Rattle.report.specs.declared.line.Line.TheVariants as line
use Rattle.report.specs.declared.form.Form.{Form}
use Rattle.report.specs.declared.form.Form.TheVariants as form
use Rattle.report.specs.declared.form.AnswerForm.{AnswerForm}
use Rattle.report.specs.declared.form.AnswerForm.TheVariants as answer_form
use Rattle.report.specs.declared.form.Entry.{Entry}

-- ---- numbers: one byte below 253, and else a mark and two, four or eight bytes with the high one first

unfoldable pub number_bytes : ℕ → List ℕ
number_bytes n =
    if nat_lt n 253 then n ∷ []
    else if nat_lt n 0x1_0000 then 253 ∷ to_be_bytes w16 n
    else if nat_lt n 0x1_0000_0000 then 254 ∷ to_be_bytes w32 n
    else 255 ∷ to_be_bytes w64 n

abbrev pub numbers_bytes : List ℕ → List ℕ
numbers_bytes numbers = flat_map number_bytes numbers

-- a byte 1 and a number, or a byte 0 for none
abbrev pub place_bytes : Option ℕ → List ℕ
place_bytes None = 0 ∷ []
place_bytes (Some n) = 1 ∷ number_bytes n

abbrev pub shown_bytes : List (Option ℕ) → List ℕ
shown_bytes shown = flat_map place_bytes shown

-- ---- the bytes of a line

abbrev pub answer_bytes : Answer → List ℕ
answer_bytes answer.Moved = []
answer_bytes answer.SlotFull = []
answer_bytes answer.SlotEmpty = []
answer_bytes answer.ArmFull = []
answer_bytes answer.Absent = []
answer_bytes (answer.EpochEnded e n unsure) = number_bytes e ++ number_bytes n
answer_bytes (answer.Status sw n) = number_bytes sw.0 ++ number_bytes n
answer_bytes (answer.Loop n) = number_bytes n
answer_bytes (answer.BadFcp n) = number_bytes n
answer_bytes (answer.Loaded k) = number_bytes k
answer_bytes (answer.Done n k left) = number_bytes n ++ (place_bytes k ++ left)
answer_bytes (answer.NeedsPin key) = []
answer_bytes (answer.BadFile width) = number_bytes width
answer_bytes (answer.NoRecord at) = []
answer_bytes (answer.Full count) = []
answer_bytes (answer.NotWritable found) = number_bytes found
answer_bytes (answer.NameTooLong need room) = number_bytes need ++ number_bytes room
answer_bytes (answer.BadDigit at) = number_bytes at
answer_bytes (answer.NumberTooLong count) = number_bytes count
answer_bytes (answer.ExtFull count) = []
answer_bytes (answer.Opened channel) = []
answer_bytes (answer.Exhausted n) = number_bytes n
answer_bytes (answer.Raw r) = response_bytes r
answer_bytes (answer.RawRefused ins) = []
answer_bytes (answer.NotHeldRef handle) = []
answer_bytes (answer.NotHeldKey key) = []
answer_bytes answer.Closed = []
answer_bytes answer.Verified = []
answer_bytes answer.Ended = []
answer_bytes answer.Polled = []
answer_bytes (answer.Look seen) = number_bytes seen.count ++ shown_bytes seen.shown
answer_bytes answer.Watching = []
answer_bytes (answer.Notices dropped numbers) = number_bytes dropped ++ numbers_bytes numbers.items

abbrev pub kept_bytes : Line → List ℕ
kept_bytes (line.Turn a) = []
kept_bytes (line.Begin a i) = []
kept_bytes (line.Exchange a c r) = command_bytes c ++ response_bytes r
kept_bytes (line.Failed a c acted) = command_bytes c
kept_bytes (line.Reset a) = []
kept_bytes (line.ResetFailed a) = []
kept_bytes (line.World a e) = []
kept_bytes (line.Published k f e n text) = number_bytes k ++ (number_bytes e ++ (number_bytes n ++ text))
kept_bytes (line.EpochEnd k e n) = number_bytes k ++ (number_bytes e ++ number_bytes n)
kept_bytes (line.Refused f n) = number_bytes n
kept_bytes (line.Answered a i given) = answer_bytes given

-- ---- numbers read back

-- a word of so many bytes at the front, or 0 where they are fewer
abbrev pub word : Width → ℕ → List ℕ → ℕ
word w len bytes = if nat_lt (length bytes) len then 0 else from_be_bytes w (take len bytes)

abbrev pub behind_word : ℕ → List ℕ → List ℕ
behind_word len bytes = if nat_lt (length bytes) len then bytes else drop len bytes

unfoldable pub first_number : List ℕ → ℕ
first_number [] = 0
first_number (mark ∷ rest) =
    if mark == 253 then word w16 2 rest
    else if mark == 254 then word w32 4 rest
    else if mark == 255 then word w64 8 rest
    else mark

unfoldable pub behind_number : List ℕ → List ℕ
behind_number [] = []
behind_number (mark ∷ rest) =
    if mark == 253 then behind_word 2 rest
    else if mark == 254 then behind_word 4 rest
    else if mark == 255 then behind_word 8 rest
    else rest

-- the low sixteen bits of the number at the front
abbrev pub first_word : List ℕ → ℕ
first_word bytes = first_number bytes % 0x1_0000

-- the character of a code, or U+FFFD where it has none
abbrev pub character : ℕ → ℕ
character code = if is_between 0xD800 0xDFFF code || nat_lt 0x10_FFFF code then 0xFFFD else code

abbrev pub first_character : List ℕ → ℕ
first_character bytes = character (first_number bytes)

abbrev pub second_number : List ℕ → ℕ
second_number bytes = first_number (behind_number bytes)

abbrev pub third_number : List ℕ → ℕ
third_number bytes = first_number (behind_number (behind_number bytes))

abbrev pub behind_three : List ℕ → List ℕ
behind_three bytes = behind_number (behind_number (behind_number bytes))

abbrev pub first_place : List ℕ → Option ℕ
first_place [] = None
first_place (flag ∷ rest) = if flag == 0 then None else Some (first_number rest)

abbrev pub behind_place : List ℕ → List ℕ
behind_place [] = []
behind_place (flag ∷ rest) = if flag == 0 then rest else behind_number rest

abbrev pub words_of : ℕ → List ℕ → List ℕ
words_of zero bytes = []
words_of (suc count) bytes = first_number bytes ∷ words_of count (behind_number bytes)

abbrev pub places_of : ℕ → List ℕ → List (Option ℕ)
places_of zero bytes = []
places_of (suc count) bytes = first_place bytes ∷ places_of count (behind_place bytes)

-- so many numbers, at most as many as an answer has
abbrev pub numbers_of : ℕ → List ℕ → Option (List ℕ)
numbers_of count bytes = if nat_lt 64 count then None else Some (words_of count bytes)

-- what so many families show, at most as many as a look has
abbrev pub shown_of : ℕ → List ℕ → Option (List (Option ℕ))
shown_of families bytes = if nat_lt 8 families then None else Some (places_of families bytes)

-- ---- a line read back from its form and its bytes

abbrev pub done_of : List ℕ → Answer
done_of bytes = answer.Done (first_number bytes) (first_place (behind_number bytes)) (behind_place (behind_number bytes))

abbrev pub raw_of_read : Result ResponseValue ApduError → Option Answer
raw_of_read (Ok r) = Some (answer.Raw r)
raw_of_read (Err error) = None

abbrev pub raw_of : List ℕ → Option Answer
raw_of bytes = raw_of_read (read_response bytes)

abbrev pub look_of_shown : ℕ → Option (List (Option ℕ)) → Option Answer
look_of_shown count None = None
look_of_shown count (Some shown) = Some (answer.Look (record { count = count; shown = shown }))

abbrev pub look_of : ℕ → List ℕ → Option Answer
look_of families bytes = look_of_shown (first_number bytes) (shown_of families (behind_number bytes))

abbrev pub notices_of_numbers : ℕ → Option (List ℕ) → Option Answer
notices_of_numbers dropped None = None
notices_of_numbers dropped (Some numbers) = Some (answer.Notices dropped (record { items = numbers }))

abbrev pub notices_of : ℕ → List ℕ → Option Answer
notices_of count bytes = notices_of_numbers (first_number bytes) (numbers_of count (behind_number bytes))

abbrev pub answer_of : AnswerForm → List ℕ → Option Answer
answer_of answer_form.Moved bytes = Some answer.Moved
answer_of answer_form.SlotFull bytes = Some answer.SlotFull
answer_of answer_form.SlotEmpty bytes = Some answer.SlotEmpty
answer_of answer_form.ArmFull bytes = Some answer.ArmFull
answer_of answer_form.Absent bytes = Some answer.Absent
answer_of (answer_form.EpochEnded unsure) bytes = Some (answer.EpochEnded (first_number bytes) (second_number bytes) unsure)
answer_of answer_form.Status bytes = Some (answer.Status (record { 0 = first_word bytes }) (second_number bytes))
answer_of answer_form.Loop bytes = Some (answer.Loop (first_number bytes))
answer_of answer_form.BadFcp bytes = Some (answer.BadFcp (first_number bytes))
answer_of answer_form.Loaded bytes = Some (answer.Loaded (first_number bytes))
answer_of answer_form.Done bytes = Some (done_of bytes)
answer_of (answer_form.NeedsPin key) bytes = Some (answer.NeedsPin key)
answer_of answer_form.BadFile bytes = Some (answer.BadFile (first_word bytes))
answer_of (answer_form.NoRecord at) bytes = Some (answer.NoRecord at)
answer_of (answer_form.Full count) bytes = Some (answer.Full count)
answer_of answer_form.NotWritable bytes = Some (answer.NotWritable (first_character bytes))
answer_of answer_form.NameTooLong bytes = Some (answer.NameTooLong (first_number bytes) (second_number bytes))
answer_of answer_form.BadDigit bytes = Some (answer.BadDigit (first_number bytes))
answer_of answer_form.NumberTooLong bytes = Some (answer.NumberTooLong (first_number bytes))
answer_of (answer_form.ExtFull count) bytes = Some (answer.ExtFull count)
answer_of (answer_form.Opened channel) bytes = Some (answer.Opened channel)
answer_of answer_form.Exhausted bytes = Some (answer.Exhausted (first_number bytes))
answer_of answer_form.Raw bytes = raw_of bytes
answer_of (answer_form.RawRefused ins) bytes = Some (answer.RawRefused ins)
answer_of (answer_form.NotHeldRef handle) bytes = Some (answer.NotHeldRef handle)
answer_of (answer_form.NotHeldKey key) bytes = Some (answer.NotHeldKey key)
answer_of answer_form.Closed bytes = Some answer.Closed
answer_of answer_form.Verified bytes = Some answer.Verified
answer_of answer_form.Ended bytes = Some answer.Ended
answer_of answer_form.Polled bytes = Some answer.Polled
answer_of (answer_form.Look families) bytes = look_of families bytes
answer_of answer_form.Watching bytes = Some answer.Watching
answer_of (answer_form.Notices count) bytes = notices_of count bytes

abbrev pub answered_of : ℕ → ℕ → Option Answer → Option Line
answered_of a i None = None
answered_of a i (Some given) = Some (line.Answered a i given)

abbrev pub exchange_of_parts : ℕ → Result CommandValue ApduError → Result ResponseValue ApduError → Option Line
exchange_of_parts a (Err error) r = None
exchange_of_parts a (Ok c) (Err error) = None
exchange_of_parts a (Ok c) (Ok r) = Some (line.Exchange a c r)

-- the command has so many of the bytes, and the response the rest
abbrev pub exchange_of : ℕ → ℕ → List ℕ → Option Line
exchange_of a command bytes =
    if nat_lt (length bytes) command then None
    else exchange_of_parts a (read_command (take command bytes)) (read_response (drop command bytes))

abbrev pub failed_of_read : ℕ → Bool → Result CommandValue ApduError → Option Line
failed_of_read a acted (Err error) = None
failed_of_read a acted (Ok c) = Some (line.Failed a c acted)

abbrev pub failed_of : ℕ → Bool → List ℕ → Option Line
failed_of a acted bytes = failed_of_read a acted (read_command bytes)

abbrev pub published_of : ℕ → ℕ → ℕ → ℕ → List ℕ → Option Line
published_of k f e n bytes = if is_utf8 bytes then Some (line.Published k f e n bytes) else None

abbrev pub epoch_end_of : List ℕ → Line
epoch_end_of bytes = line.EpochEnd (first_number bytes) (second_number bytes) (third_number bytes)

abbrev pub line_of : Form → List ℕ → Option Line
line_of (form.Turn a) bytes = Some (line.Turn a)
line_of (form.Begin a i) bytes = Some (line.Begin a i)
line_of (form.Exchange a command) bytes = exchange_of a command bytes
line_of (form.Failed a acted) bytes = failed_of a acted bytes
line_of (form.Reset a) bytes = Some (line.Reset a)
line_of (form.ResetFailed a) bytes = Some (line.ResetFailed a)
line_of (form.World a e) bytes = Some (line.World a e)
line_of (form.Published f) bytes = published_of (first_number bytes) f (second_number bytes) (third_number bytes) (behind_three bytes)
line_of form.EpochEnd bytes = Some (epoch_end_of bytes)
line_of (form.Refused f) bytes = Some (line.Refused f (first_number bytes))
line_of (form.Answered a given i) bytes = answered_of a i (answer_of given bytes)

-- ---- the lines of all entries

abbrev pub line_at : List ℕ → Entry → Option Line
line_at bytes entry = line_of entry.form (take entry.len (drop entry.at bytes))

-- the line of an entry, which is there
abbrev pub kept_line : List ℕ → Entry → Line
kept_line bytes entry = unwrap_or (line_at bytes entry) (line.Turn 0)

-- an entry lies within the bytes, and its line is there
pub record IsKept (bytes : List ℕ) (entry : Entry) : Type 0 where
  pub within : entry.at + entry.len ≤ length bytes
  pub there : line_at bytes entry ≡ Some (kept_line bytes entry)

-- the entries stand in the order in which they came, the lines newest first
abbrev pub kept_lines : List ℕ → List Entry → List Line
kept_lines bytes entries = reverse (map (kept_line bytes) entries)
