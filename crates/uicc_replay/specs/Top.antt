-- How a call of the program ends: its statuses, what each writes, and the cause of each.
use Rattle.std.specs.Prelude.{◌≡◌, ◌⊎◌, ℕ, ◌==◌, List, [], ◌∷◌, ◌++◌, codes, decimal, Result, Ok, Err, Option, Some, None, IsSomeAnd, true, false, Bool, if◌then◌else◌}
use Rattle.apdu.specs.Words.{is_one_of}
use Rattle.apdu.specs.Stream.{Rose, AppendsPart}
use Rattle.apdu.specs.declared.texts.Text.{Text}
use Rattle.apdu.specs.declared.memory.Memory.{Memory as MemoryError}
use Rattle.script_reader.specs.declared.types.Script.{Script}
use Rattle.script_reader.specs.Reading.{Refusal}
use Rattle.script_reader.specs.Words.{part_word, why_word}
use Rattle.script_reader.specs.Scripts.{script_of_bytes}
use Rattle.script_writer.specs.Writing.{script_text}
use Rattle.script_generator.specs.Generated.{generated}
use Rattle.streams.specs.Streams.{SourceValue, SinkValue, StreamsValue, HasMore, IsRead, WritesWhole, WritesFront, Wrote}
use Rattle.report.specs.declared.lines.Report.{Report}
use Rattle.report.specs.Texts.{report_text}
use Rattle.report_summary.specs.declared.summary.Summary.{Summary}
use Rattle.report_summary.specs.Summary.{summary_of}
use Rattle.uicc_replay.specs.Checking.{report_limit, status_of_verdict, HasChecked, IsDueOfCheck}
use Rattle.replay.specs.Replay.{IsReplay, IsSpent}
use Rattle.uicc_replay.specs.declared.top.Ending.{Ending}
use Rattle.uicc_replay.specs.declared.top.Ending.TheVariants.{Usage, TooLong, Refused, ReadFault, Spent, Memory, Replayed, Generated, Checked, Counted}
use Rattle.uicc_replay.specs.declared.top.Outcome.{Outcome}
use Rattle.subcommands.specs.declared.words.Subcommand.{Subcommand}
use Rattle.subcommands.specs.declared.words.Subcommand.TheVariants.{Replay, Run, Check, Generate, Bulk}

-- ---- commands

-- the command is served so far
abbrev pub is_served : Subcommand → Bool
is_served Replay = true
is_served Run = false
is_served Check = true
is_served (Generate seed size) = true
is_served (Bulk seed size) = true

-- the command that is asked for, if it is served
abbrev pub served : Option Subcommand → Option Subcommand
served None = None
served (Some command) = if is_served command then Some command else None

-- the command reads the source
abbrev pub reads : Option Subcommand → Bool
reads None = false
reads (Some Replay) = true
reads (Some Run) = false
reads (Some Check) = true
reads (Some (Generate seed size)) = false
reads (Some (Bulk seed size)) = false

-- ---- what is written

unfoldable pub usage_line : List ℕ
usage_line = codes "usage: uicc_replay replay, run, check, gen SEED SIZE or bulk SEED SIZE\n"

unfoldable pub too_long_line : List ℕ
too_long_line = codes "too long\n"

-- the part, the index of its item, and the rule that it breaks
abbrev pub refused_line : Refusal → List ℕ
refused_line r = codes "refused " ++ part_word r.part ++ codes " " ++ decimal r.index ++ codes " " ++ why_word r.why ++ codes "\n"

-- so many events, by which the budget is spent
abbrev pub budget_line : ℕ → List ℕ
budget_line events = codes "budget " ++ decimal events ++ codes "\n"

-- how much a run did
abbrev pub summary_line : Summary → List ℕ
summary_line s = codes "events " ++ decimal s.events ++ codes " publications " ++ decimal s.publications ++ codes " answers " ++ decimal s.answers ++ codes " refusals " ++ decimal s.refusals ++ codes "\n"

-- the script of a seed and a size, and a newline
unfoldable pub generated_text : ℕ → ℕ → List ℕ
generated_text seed size = script_text (generated seed size) ++ codes "\n"

unfoldable pub read_fault_line : List ℕ
read_fault_line = codes "read fault\n"

unfoldable pub memory_line : List ℕ
memory_line = codes "memory\n"

-- the line of a status that has but one
abbrev pub line_of : ℕ → Option (List ℕ)
line_of status =
    if status == 2 then Some usage_line
    else if status == 4 then Some read_fault_line
    else if status == 8 then Some too_long_line
    else if status == 9 then Some memory_line
    else None

-- the statuses that the words can come to
abbrev pub is_status : Option Subcommand → ℕ → Bool
is_status None status = is_one_of status (2 ∷ 5 ∷ 9 ∷ [])
is_status (Some Replay) status = is_one_of status (0 ∷ 3 ∷ 4 ∷ 5 ∷ 6 ∷ 8 ∷ 9 ∷ [])
is_status (Some Run) status = is_one_of status (2 ∷ 5 ∷ 9 ∷ [])
is_status (Some Check) status = is_one_of status (0 ∷ 3 ∷ 4 ∷ 5 ∷ 7 ∷ 8 ∷ 9 ∷ [])
is_status (Some (Generate seed size)) status = is_one_of status (0 ∷ 5 ∷ 9 ∷ [])
is_status (Some (Bulk seed size)) status = is_one_of status (0 ∷ 5 ∷ 6 ∷ 9 ∷ [])

abbrev pub piece_of : Ending → List ℕ
piece_of Usage = usage_line
piece_of TooLong = too_long_line
piece_of (Refused line) = line
piece_of ReadFault = read_fault_line
piece_of (Spent line) = line
piece_of Memory = memory_line
piece_of (Replayed report text) = text
piece_of (Generated text) = text
piece_of (Checked verdict line) = line
piece_of (Counted report line) = line

abbrev pub status_of : Ending → ℕ
status_of Usage = 2
status_of TooLong = 8
status_of (Refused line) = 3
status_of ReadFault = 4
status_of (Spent line) = 6
status_of Memory = 9
status_of (Replayed report text) = 0
status_of (Generated text) = 0
status_of (Checked verdict line) = status_of_verdict verdict
status_of (Counted report line) = 0

abbrev pub report_of : Ending → Option Report
report_of Usage = None
report_of TooLong = None
report_of (Refused line) = None
report_of ReadFault = None
report_of (Spent line) = None
report_of Memory = None
report_of (Replayed report text) = Some report
report_of (Generated text) = None
report_of (Checked verdict line) = None
report_of (Counted report line) = Some report

-- ---- reading

-- the most bytes that a script may have
abbrev pub script_limit : ℕ
script_limit = 8388608

-- the most that the command reads
abbrev pub limit_of : Option Subcommand → ℕ
limit_of None = 0
limit_of (Some Replay) = script_limit
limit_of (Some Run) = 0
limit_of (Some Check) = report_limit
limit_of (Some (Generate seed size)) = 0
limit_of (Some (Bulk seed size)) = 0

-- ---- causes

abbrev pub line_of_reading : Result Script Refusal → Option (List ℕ)
line_of_reading (Err refusal) = Some (refused_line refusal)
line_of_reading (Ok s) = None

-- the line that tells why bytes are not replayed, if they are not
abbrev pub refusal_line : List ℕ → Option (List ℕ)
refusal_line bytes = line_of_reading (script_of_bytes bytes)

-- the ending of a line that tells why bytes are not replayed, where memory was left for it
abbrev pub IsDueOfLine : Result Text MemoryError → Ending → Type 0
IsDueOfLine (Ok line) e = e ≡ Refused line
IsDueOfLine (Err error) e = e ≡ Memory

-- the line tells by how many events the budget of a script is spent
pub record TellsSpent (s : Script) (line : List ℕ) : Type 0 where
  pub events : ℕ
  pub spent : IsSpent s events
  pub told : line ≡ budget_line events

-- the ending of a run whose budget is spent by so many events
abbrev pub IsDueOfBudget : ℕ → Ending → Type 0
IsDueOfBudget events Usage = ⊥
IsDueOfBudget events TooLong = ⊥
IsDueOfBudget events (Refused line) = ⊥
IsDueOfBudget events ReadFault = ⊥
IsDueOfBudget events (Spent line) = line ≡ budget_line events
IsDueOfBudget events Memory = Unit {0}
IsDueOfBudget events (Replayed report text) = ⊥
IsDueOfBudget events (Generated text) = ⊥
IsDueOfBudget events (Checked verdict line) = ⊥
IsDueOfBudget events (Counted report line) = ⊥

-- the ending of a report
abbrev pub IsDueOfReport : Report → Ending → Type 0
IsDueOfReport r Usage = ⊥
IsDueOfReport r TooLong = ⊥
IsDueOfReport r (Refused line) = ⊥
IsDueOfReport r ReadFault = ⊥
IsDueOfReport r (Spent line) = ⊥
IsDueOfReport r Memory = Unit {0}
IsDueOfReport r (Replayed report text) = (report ≡ r) × (text ≡ report_text report)
IsDueOfReport r (Generated text) = ⊥
IsDueOfReport r (Checked verdict line) = ⊥
IsDueOfReport r (Counted report line) = ⊥

-- the ending of a script
abbrev pub IsDueOfScript : Script → Ending → Type 0
IsDueOfScript s Usage = ⊥
IsDueOfScript s TooLong = ⊥
IsDueOfScript s (Refused line) = ⊥
IsDueOfScript s ReadFault = ⊥
IsDueOfScript s (Spent line) = TellsSpent s line
IsDueOfScript s Memory = Unit {0}
IsDueOfScript s (Replayed report text) = (report.script ≡ s) × IsReplay report × (text ≡ report_text report)
IsDueOfScript s (Generated text) = ⊥
IsDueOfScript s (Checked verdict line) = ⊥
IsDueOfScript s (Counted report line) = ⊥

-- the bytes are a script, and the line tells by how many events its budget is spent
pub record TellsSpentOf (bytes line : List ℕ) : Type 0 where
  pub script : Script
  pub read : script_of_bytes bytes ≡ Ok script
  pub told : TellsSpent script line

-- the ending of bytes that were read
abbrev pub IsDueOfBytes : List ℕ → Ending → Type 0
IsDueOfBytes bytes Usage = ⊥
IsDueOfBytes bytes TooLong = ⊥
IsDueOfBytes bytes (Refused line) = refusal_line bytes ≡ Some line
IsDueOfBytes bytes ReadFault = ⊥
IsDueOfBytes bytes (Spent line) = TellsSpentOf bytes line
IsDueOfBytes bytes Memory = Unit {0}
IsDueOfBytes bytes (Replayed report text) = (script_of_bytes bytes ≡ Ok report.script) × IsReplay report × (text ≡ report_text report)
IsDueOfBytes bytes (Generated text) = ⊥
IsDueOfBytes bytes (Checked verdict line) = ⊥
IsDueOfBytes bytes (Counted report line) = ⊥

-- bytes were read of which this is the ending
pub record IsDueOfRead (before after : SourceValue) (e : Ending) : Type 0 where
  pub bytes : List ℕ
  pub read : IsRead script_limit before after bytes
  pub due : IsDueOfBytes bytes e

-- the cause of each ending of a replay
abbrev pub IsDueOfSource : SourceValue → SourceValue → Ending → Type 0
IsDueOfSource before after Usage = ⊥
IsDueOfSource before after TooLong = HasMore script_limit before after
IsDueOfSource before after (Refused line) = IsDueOfRead before after (Refused line)
IsDueOfSource before after ReadFault = Rose before.faults after.faults
IsDueOfSource before after (Spent line) = IsDueOfRead before after (Spent line)
IsDueOfSource before after Memory = Unit {0}
IsDueOfSource before after (Replayed report text) = IsDueOfRead before after (Replayed report text)
IsDueOfSource before after (Generated text) = ⊥
IsDueOfSource before after (Checked verdict line) = ⊥
IsDueOfSource before after (Counted report line) = ⊥

-- the ending of a generated script
abbrev pub IsDueOfSizes : ℕ → ℕ → Ending → Type 0
IsDueOfSizes seed size Usage = ⊥
IsDueOfSizes seed size TooLong = ⊥
IsDueOfSizes seed size (Refused line) = ⊥
IsDueOfSizes seed size ReadFault = ⊥
IsDueOfSizes seed size (Spent line) = ⊥
IsDueOfSizes seed size Memory = Unit {0}
IsDueOfSizes seed size (Replayed report text) = ⊥
IsDueOfSizes seed size (Generated text) = text ≡ generated_text seed size
IsDueOfSizes seed size (Checked verdict line) = ⊥
IsDueOfSizes seed size (Counted report line) = ⊥

-- the ending of a report whose lines are counted
abbrev pub IsDueOfCounts : Report → Ending → Type 0
IsDueOfCounts r Usage = ⊥
IsDueOfCounts r TooLong = ⊥
IsDueOfCounts r (Refused line) = ⊥
IsDueOfCounts r ReadFault = ⊥
IsDueOfCounts r (Spent line) = ⊥
IsDueOfCounts r Memory = Unit {0}
IsDueOfCounts r (Replayed report text) = ⊥
IsDueOfCounts r (Generated text) = ⊥
IsDueOfCounts r (Checked verdict line) = ⊥
IsDueOfCounts r (Counted report line) = (report ≡ r) × (line ≡ summary_line (summary_of report.lines))

-- the ending of the replay of a generated script
abbrev pub IsDueOfGenerated : ℕ → ℕ → Ending → Type 0
IsDueOfGenerated seed size Usage = ⊥
IsDueOfGenerated seed size TooLong = ⊥
IsDueOfGenerated seed size (Refused line) = ⊥
IsDueOfGenerated seed size ReadFault = ⊥
IsDueOfGenerated seed size (Spent line) = TellsSpent (generated seed size) line
IsDueOfGenerated seed size Memory = Unit {0}
IsDueOfGenerated seed size (Replayed report text) = ⊥
IsDueOfGenerated seed size (Generated text) = ⊥
IsDueOfGenerated seed size (Checked verdict line) = ⊥
IsDueOfGenerated seed size (Counted report line) = (report.script ≡ generated seed size) × IsReplay report × (line ≡ summary_line (summary_of report.lines))

-- a generated script is replayed, and nothing is read
pub record IsCounted (seed size : ℕ) (before after : SourceValue) (e : Ending) : Type 0 where
  pub due : IsDueOfGenerated seed size e
  pub unread : after ≡ before

-- a script is generated, and nothing is read
pub record IsGenerated (seed size : ℕ) (before after : SourceValue) (e : Ending) : Type 0 where
  pub due : IsDueOfSizes seed size e
  pub unread : after ≡ before

-- the ending of words that are no command that is served
abbrev pub IsDueOfNone : Ending → Type 0
IsDueOfNone Usage = Unit {0}
IsDueOfNone TooLong = ⊥
IsDueOfNone (Refused line) = ⊥
IsDueOfNone ReadFault = ⊥
IsDueOfNone (Spent line) = ⊥
IsDueOfNone Memory = Unit {0}
IsDueOfNone (Replayed report text) = ⊥
IsDueOfNone (Generated text) = ⊥
IsDueOfNone (Checked verdict line) = ⊥
IsDueOfNone (Counted report line) = ⊥

-- such words read nothing
pub record IsUsage (before after : SourceValue) (e : Ending) : Type 0 where
  pub due : IsDueOfNone e
  pub unread : after ≡ before

-- the cause of each ending, of the words and of what the source was before and after
abbrev pub IsDue : Option Subcommand → SourceValue → SourceValue → Ending → Type 0
IsDue None before after e = IsUsage before after e
IsDue (Some Replay) before after e = IsDueOfSource before after e
IsDue (Some Run) before after e = IsUsage before after e
IsDue (Some Check) before after e = IsDueOfCheck before after e
IsDue (Some (Generate seed size)) before after e = IsGenerated seed size before after e
IsDue (Some (Bulk seed size)) before after e = IsCounted seed size before after e

-- ---- what a call did

-- the script that was read was replayed, and the report's text was written
pub record IsReplayed (before after : StreamsValue) (r : Report) : Type 0 where
  pub bytes : List ℕ
  pub read : IsRead script_limit before.source after.source bytes
  pub script : script_of_bytes bytes ≡ Ok r.script
  pub replay : IsReplay r
  pub text : Wrote before after (report_text r)

-- the generated script was written, and there is no report
pub record WroteScript (seed size : ℕ) (before after : StreamsValue) (r : Option Report) : Type 0 where
  pub report : r ≡ None
  pub text : Wrote before after (generated_text seed size)

-- the generated script was replayed, and how much that did was written
pub record HasCounted (seed size : ℕ) (before after : StreamsValue) (r : Report) : Type 0 where
  pub script : r.script ≡ generated seed size
  pub replay : IsReplay r
  pub text : Wrote before after (summary_line (summary_of r.lines))

-- a legal report was checked, and no report is handed out
pub record HasReportChecked (before after : StreamsValue) (r : Option Report) : Type 0 where
  pub report : r ≡ None
  pub checked : HasChecked 0 before after

-- what was done where all went well
abbrev pub IsDone : Option Subcommand → StreamsValue → StreamsValue → Option Report → Type 0
IsDone None before after r = ⊥
IsDone (Some Replay) before after r = IsSomeAnd r (IsReplayed before after)
IsDone (Some Run) before after r = ⊥
IsDone (Some Check) before after r = HasReportChecked before after r
IsDone (Some (Generate seed size)) before after r = WroteScript seed size before after r
IsDone (Some (Bulk seed size)) before after r = IsSomeAnd r (HasCounted seed size before after)

-- the line was written that tells why the bytes that were read are not replayed
pub record IsUnplayed (before after : StreamsValue) : Type 0 where
  pub bytes : List ℕ
  pub read : IsRead script_limit before.source after.source bytes
  pub line : List ℕ
  pub told : refusal_line bytes ≡ Some line
  pub text : Wrote before after line

-- the bytes that were read are refused: they are not replayed, or they are no report
abbrev pub IsRefused : Option Subcommand → StreamsValue → StreamsValue → Type 0
IsRefused None before after = ⊥
IsRefused (Some Replay) before after = IsUnplayed before after
IsRefused (Some Run) before after = ⊥
IsRefused (Some Check) before after = HasChecked 3 before after
IsRefused (Some (Generate seed size)) before after = ⊥
IsRefused (Some (Bulk seed size)) before after = ⊥

-- the line was written that tells by how many events the budget is spent of the script that was read
pub record IsBudgetOfReadSpent (before after : StreamsValue) : Type 0 where
  pub bytes : List ℕ
  pub read : IsRead script_limit before.source after.source bytes
  pub line : List ℕ
  pub told : TellsSpentOf bytes line
  pub text : Wrote before after line

-- the line was written that tells by how many events the budget is spent of the generated script
pub record IsBudgetOfGeneratedSpent (seed size : ℕ) (before after : StreamsValue) : Type 0 where
  pub line : List ℕ
  pub told : TellsSpent (generated seed size) line
  pub text : Wrote before after line

-- the budget of the script that was read, or generated, is spent, and the line was written that tells by how many events
abbrev pub IsBudgetSpent : Option Subcommand → StreamsValue → StreamsValue → Type 0
IsBudgetSpent None before after = ⊥
IsBudgetSpent (Some Replay) before after = IsBudgetOfReadSpent before after
IsBudgetSpent (Some Run) before after = ⊥
IsBudgetSpent (Some Check) before after = ⊥
IsBudgetSpent (Some (Generate seed size)) before after = ⊥
IsBudgetSpent (Some (Bulk seed size)) before after = IsBudgetOfGeneratedSpent seed size before after

-- a front was written of what an ending writes whose cause stood
pub record WritesPart (command : Option Subcommand) (before after : StreamsValue) : Type 0 where
  pub ending : Ending
  pub due : IsDue command before.source after.source ending
  pub part : AppendsPart before.sink.written after.sink.written (piece_of ending)

-- ---- writing

-- the call ends with this status and this report, and the piece was written whole
pub record EndsWhole (code : ℕ) (held : Option Report) (piece : List ℕ) (before after : SinkValue) (o : Outcome) : Type 0 where
  pub status : o.status ≡ code
  pub report : o.report ≡ held
  pub whole : WritesWhole before after piece

-- the call ends with status 5 and no report, for the sink failed
pub record EndsCut (piece : List ℕ) (before after : SinkValue) (o : Outcome) : Type 0 where
  pub status : o.status ≡ 5
  pub report : o.report ≡ None
  pub front : WritesFront before after piece

abbrev pub Writes : ℕ → Option Report → List ℕ → SinkValue → SinkValue → Outcome → Type 0
Writes code held piece before after o = EndsWhole code held piece before after o ⊎ EndsCut piece before after o

abbrev pub Ends : Ending → SinkValue → SinkValue → Outcome → Type 0
Ends e before after o = Writes (status_of e) (report_of e) (piece_of e) before after o
