-- What an operation is answered: a name, and words behind it.
use Rattle.std.specs.Prelude.{ℕ, Bool, true, false, nat_le, if◌then◌else◌, List, [], ◌∷◌, length, codes, Option, Some, None, option_map}
use Rattle.apdu.specs.Words.{same_bytes}
use Rattle.arrayvec.specs.ArrayVec.{ArrayVec}
use Rattle.report.specs.declared.answer.Answer.{Answer}
use Rattle.report.specs.declared.answer.Answer.TheVariants as answer
use Rattle.script_reader.specs.declared.types.Operation.{Operation}
use Rattle.script_reader.specs.declared.types.Operation.TheVariants as operation
use Rattle.report_reader.specs.Reads.{◌>>=◌, rule, all_of}
use Rattle.report_reader.specs.Words.{number_to, byte, number, character, optional, rows, hex_byte, hex_pair, response}

-- ---- names alone

abbrev pub moved : List ℕ → Option Answer
moved name =
    if same_bytes name (codes "moved") then Some answer.Moved
    else if same_bytes name (codes "slot-full") then Some answer.SlotFull
    else if same_bytes name (codes "slot-empty") then Some answer.SlotEmpty
    else if same_bytes name (codes "arm-full") then Some answer.ArmFull
    else if same_bytes name (codes "absent") then Some answer.Absent
    else None

abbrev pub bare : List ℕ → Option Answer
bare name =
    if same_bytes name (codes "closed") then Some answer.Closed
    else if same_bytes name (codes "verified") then Some answer.Verified
    else if same_bytes name (codes "ended") then Some answer.Ended
    else if same_bytes name (codes "polled") then Some answer.Polled
    else if same_bytes name (codes "watching") then Some answer.Watching
    else moved name

-- ---- one word

-- a number of an event, a publication, a place or a count
abbrev pub of_number : List ℕ → List ℕ → Option Answer
of_number name word =
    if same_bytes name (codes "loop") then option_map answer.Loop (number word)
    else if same_bytes name (codes "bad-fcp") then option_map answer.BadFcp (number word)
    else if same_bytes name (codes "loaded") then option_map answer.Loaded (number word)
    else if same_bytes name (codes "exhausted") then option_map answer.Exhausted (number word)
    else if same_bytes name (codes "bad-digit") then option_map answer.BadDigit (number word)
    else if same_bytes name (codes "number-too-long") then option_map answer.NumberTooLong (number word)
    else None

-- a number of one byte or two
abbrev pub of_byte : List ℕ → List ℕ → Option Answer
of_byte name word =
    if same_bytes name (codes "no-record") then option_map answer.NoRecord (byte word)
    else if same_bytes name (codes "full") then option_map answer.Full (byte word)
    else if same_bytes name (codes "ext-full") then option_map answer.ExtFull (byte word)
    else if same_bytes name (codes "opened") then option_map answer.Opened (byte word)
    else if same_bytes name (codes "bad-file") then option_map answer.BadFile (number_to 65535 word)
    else of_number name word

-- a key, where the operation is an `end`, or a ref
abbrev pub not_held : Bool → List ℕ → Option Answer
not_held true word = option_map answer.NotHeldKey (hex_byte word)
not_held false word = option_map answer.NotHeldRef (number_to 15 word)

abbrev pub of_word : Bool → List ℕ → List ℕ → Option Answer
of_word ends name word =
    if same_bytes name (codes "not-held") then not_held ends word
    else if same_bytes name (codes "needs-pin") then option_map answer.NeedsPin (hex_byte word)
    else if same_bytes name (codes "raw-refused") then option_map answer.RawRefused (hex_byte word)
    else if same_bytes name (codes "raw") then option_map answer.Raw (response word)
    else if same_bytes name (codes "not-writable") then option_map answer.NotWritable (character word)
    else of_byte name word

-- ---- two words and more

abbrev pub status : List ℕ → List ℕ → Option Answer
status word event = do
  sw ← hex_pair word
  n ← number event
  Some (answer.Status (record { 0 = sw }) n)

abbrev pub too_long : List ℕ → List ℕ → Option Answer
too_long need room = do
  n ← number need
  r ← number room
  Some (answer.NameTooLong n r)

abbrev pub epoch_ended : Bool → List ℕ → List ℕ → Option Answer
epoch_ended unsure epoch event = do
  e ← number epoch
  n ← number event
  Some (answer.EpochEnded e n unsure)

abbrev pub of_two : List ℕ → List ℕ → List ℕ → Option Answer
of_two name first second =
    if same_bytes name (codes "status") then status first second
    else if same_bytes name (codes "epoch-ended") then epoch_ended false first second
    else if same_bytes name (codes "name-too-long") then too_long first second
    else None

abbrev pub done : List ℕ → List ℕ → List ℕ → Option Answer
done event publication left = do
  n ← number event
  k ← optional publication
  marked ← rows left
  Some (answer.Done n k marked)

-- the third word may be `unsure`
abbrev pub ended_unsure : List ℕ → List ℕ → List ℕ → Option Answer
ended_unsure epoch event word = if same_bytes word (codes "unsure") then epoch_ended true epoch event else None

abbrev pub of_three : List ℕ → List ℕ → List ℕ → List ℕ → Option Answer
of_three name first second third =
    if same_bytes name (codes "done") then done first second third
    else if same_bytes name (codes "epoch-ended") then ended_unsure first second third
    else None

-- what is shown of each of the three families
abbrev pub look : List ℕ → List ℕ → List ℕ → List ℕ → Option Answer
look count records phonebook fixed = do
  m ← number count
  k0 ← optional records
  k1 ← optional phonebook
  k2 ← optional fixed
  Some (answer.Look (record { count = m; shown = k0 ∷ k1 ∷ k2 ∷ [] }))

abbrev pub of_four : List ℕ → List ℕ → List ℕ → List ℕ → List ℕ → Option Answer
of_four name first second third fourth = if same_bytes name (codes "look") then look first second third fourth else None

abbrev pub kept : List (List ℕ) → Option (ArrayVec ℕ)
kept words = option_map (λ numbers. record { items = numbers }) (all_of number words)

-- at most 64 numbers behind the first
abbrev pub notices : List (List ℕ) → Option Answer
notices [] = None
notices (dropped ∷ words) = do
  d ← number dropped
  few ← rule (nat_le (length words) 64)
  numbers ← kept words
  Some (answer.Notices d numbers)

-- ---- all answers

abbrev pub of_words : Bool → List ℕ → List (List ℕ) → Option Answer
of_words ends name [] = bare name
of_words ends name (a ∷ []) = of_word ends name a
of_words ends name (a ∷ b ∷ []) = of_two name a b
of_words ends name (a ∷ b ∷ c ∷ []) = of_three name a b c
of_words ends name (a ∷ b ∷ c ∷ d ∷ []) = of_four name a b c d
of_words ends name (a ∷ b ∷ c ∷ d ∷ e ∷ words) = None

-- the answer of this name to an operation, which is an `end` or not
abbrev pub answer_of : Bool → List ℕ → List (List ℕ) → Option Answer
answer_of ends name words = if same_bytes name (codes "notices") then notices words else of_words ends name words

-- ---- operations

abbrev pub is_end : Operation → Bool
is_end (operation.End key) = true
is_end (operation.Insert card) = false
is_end operation.Out = false
is_end (operation.Arm change) = false
is_end (operation.Load family) = false
is_end (operation.Set family row name digits) = false
is_end (operation.Clear family row) = false
is_end (operation.OpenChannel ref aid) = false
is_end (operation.Raw ref command) = false
is_end (operation.Close ref) = false
is_end (operation.Verify key pin) = false
is_end operation.Poll = false
is_end operation.Look = false
is_end (operation.Watch mask) = false
is_end operation.Notices = false
