-- The reports that have a text of their own: each number has the range of its type, and what is shown is compact JSON.
use Rattle.std.specs.Prelude.{◌≡◌, ℕ, ◌≤◌, Bool, true, false, List, length, Some, IfSome, Ok, ⊤}
use Rattle.std.specs.List.{AllByRecursion}
use Rattle.card_model.specs.declared.world.WorldEvent.{WorldEvent}
use Rattle.card_model.specs.declared.world.WorldEvent.TheVariants as world_event
use Rattle.script_reader.specs.declared.types.Script.{Script}
use Rattle.script_reader.specs.Scripts.{script_of_bytes}
use Rattle.script_writer.specs.Writing.{script_text}
use Rattle.report.specs.Values.{SeenValue}
use Rattle.report.specs.declared.answer.Answer.{Answer}
use Rattle.report.specs.declared.answer.Answer.TheVariants as answer
use Rattle.report.specs.declared.line.Line.{Line}
use Rattle.report.specs.declared.line.Line.TheVariants as line
use Rattle.report.specs.declared.lines.Report.{Report}
use Rattle.report_reader.specs.Ranges.{IsByte, AreBytes, IsWord, IsPlace, IsNumber, IsFamily, IsHandle, IsCharacter, IsCommand, IsResponse}
use Rattle.report_reader.specs.Content.{content}
use Rattle.report_reader.specs.Lines.{ends}

-- ---- answers

-- what each of the three families shows
pub record IsSeen (seen : SeenValue) : Type 0 where
  pub count : IsNumber seen.count
  pub shown : AllByRecursion (λ k. IfSome k IsNumber) seen.shown
  pub three : length seen.shown ≡ 3

-- at most 64 numbers
pub record AreNoticed (numbers : List ℕ) : Type 0 where
  pub each : AllByRecursion IsNumber numbers
  pub few : length numbers ≤ 64

-- an answer to an operation that is an `end` or not
abbrev pub IsAnswer : Bool → Answer → Type 0
IsAnswer ended answer.Moved = ⊤
IsAnswer ended answer.SlotFull = ⊤
IsAnswer ended answer.SlotEmpty = ⊤
IsAnswer ended answer.ArmFull = ⊤
IsAnswer ended answer.Absent = ⊤
IsAnswer ended (answer.EpochEnded e n unsure) = IsNumber e × IsNumber n
IsAnswer ended (answer.Status sw n) = IsWord sw.0 × IsNumber n
IsAnswer ended (answer.Loop n) = IsNumber n
IsAnswer ended (answer.BadFcp n) = IsNumber n
IsAnswer ended (answer.Loaded k) = IsNumber k
IsAnswer ended (answer.Done n k left) = IsNumber n × IfSome k IsNumber × AreBytes left
IsAnswer ended (answer.NeedsPin key) = IsByte key
IsAnswer ended (answer.BadFile width) = IsWord width
IsAnswer ended (answer.NoRecord at) = IsByte at
IsAnswer ended (answer.Full count) = IsByte count
IsAnswer ended (answer.NotWritable found) = IsCharacter found
IsAnswer ended (answer.NameTooLong need room) = IsNumber need × IsNumber room
IsAnswer ended (answer.BadDigit at) = IsNumber at
IsAnswer ended (answer.NumberTooLong count) = IsNumber count
IsAnswer ended (answer.ExtFull count) = IsByte count
IsAnswer ended (answer.Opened channel) = IsByte channel
IsAnswer ended (answer.Exhausted n) = IsNumber n
IsAnswer ended (answer.Raw r) = IsResponse r
IsAnswer ended (answer.RawRefused ins) = IsByte ins
IsAnswer ended (answer.NotHeldRef handle) = (ended ≡ false) × IsHandle handle
IsAnswer ended (answer.NotHeldKey key) = (ended ≡ true) × IsByte key
IsAnswer ended answer.Closed = ⊤
IsAnswer ended answer.Verified = ⊤
IsAnswer ended answer.Ended = ⊤
IsAnswer ended answer.Polled = ⊤
IsAnswer ended (answer.Look seen) = IsSeen seen
IsAnswer ended answer.Watching = ⊤
IsAnswer ended (answer.Notices dropped numbers) = IsNumber dropped × AreNoticed numbers.items

-- ---- lines

abbrev pub IsEvent : WorldEvent → Type 0
IsEvent (world_event.Arm i) = IsByte i
IsEvent world_event.Out = ⊤
IsEvent (world_event.Insert j) = IsByte j

-- compact JSON of whole numbers
abbrev pub IsContent : List ℕ → Type 0
IsContent text = content text ≡ Some text

pub record IsPublished (k f e n : ℕ) (text : List ℕ) : Type 0 where
  pub number : IsNumber k
  pub family : IsFamily f
  pub epoch : IsNumber e
  pub point : IsNumber n
  pub content : IsContent text

-- a line of a run of the script
abbrev pub IsLine : Script → Line → Type 0
IsLine s (line.Turn a) = IsByte a
IsLine s (line.Begin a i) = IsByte a × IsPlace i
IsLine s (line.Exchange a c r) = IsByte a × IsCommand c × IsResponse r
IsLine s (line.Failed a c acted) = IsByte a × IsCommand c
IsLine s (line.Reset a) = IsByte a
IsLine s (line.ResetFailed a) = IsByte a
IsLine s (line.World a e) = IsByte a × IsEvent e
IsLine s (line.Published k f e n text) = IsPublished k f e n text
IsLine s (line.EpochEnd k e n) = IsNumber k × IsNumber e × IsNumber n
IsLine s (line.Refused f n) = IsFamily f × IsNumber n
IsLine s (line.Answered a i given) = IsByte a × IsPlace i × IsAnswer (ends s a i) given

abbrev pub AreLines : Script → List Line → Type 0
AreLines s lines = AllByRecursion (IsLine s) lines

-- ---- reports

-- the script is read from its text, and each line is one of a run of it
pub record IsReport (r : Report) : Type 0 where
  pub script : script_of_bytes (script_text r.script) ≡ Ok r.script
  pub lines : AreLines r.script r.lines
