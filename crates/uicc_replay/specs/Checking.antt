-- What is said of the bytes of a report.
use Rattle.std.specs.Prelude.{◌≡◌, ◌+◌, ℕ, true, List, ◌++◌, length, codes, decimal, Some, Ok, Err}
use Rattle.apdu.specs.Stream.{Rose}
use Rattle.streams.specs.Streams.{SourceValue, StreamsValue, HasMore, IsRead, Wrote}
use Rattle.report.specs.declared.lines.Report.{Report}
use Rattle.report_reader.specs.Reports.{report_of}
use Rattle.report_summary.specs.Summary.{summary_of}
use Rattle.rules.specs.Legal.{legal, first_broken}
use Rattle.uicc_replay.specs.declared.check.Verdict.{Verdict}
use Rattle.uicc_replay.specs.declared.check.Verdict.TheVariants.{Legal, Illegal, NoReport}
use Rattle.uicc_replay.specs.declared.top.Ending.{Ending}
use Rattle.uicc_replay.specs.declared.top.Ending.TheVariants.{Usage, TooLong, Refused, ReadFault, Spent, Memory, Replayed, Generated, Checked, Counted}

-- the most bytes that a report may have
abbrev pub report_limit : ℕ
report_limit = 16777216

-- ---- what is said

-- the script, the mode and the end are lines too
abbrev pub line_count : Report → ℕ
line_count r = length r.lines + 3

-- a legal report has so many lines and events
pub record IsLegal (r : Report) (lines events : ℕ) : Type 0 where
  pub legal : legal r ≡ true
  pub counted : lines ≡ line_count r
  pub happened : events ≡ (summary_of r.lines).events

-- what is said of a report
abbrev pub IsSaid : Report → Verdict → Type 0
IsSaid r (Legal lines events) = IsLegal r lines events
IsSaid r (Illegal line rule) = first_broken r ≡ Some (line, rule)
IsSaid r (NoReport line) = ⊥

-- the bytes are a report, of which this is said
pub record IsSaidOf (bytes : List ℕ) (v : Verdict) : Type 0 where
  pub report : Report
  pub read : report_of bytes ≡ Ok report
  pub said : IsSaid report v

-- what is said of bytes: where they are no report, the first line that has no place
abbrev pub IsChecked : List ℕ → Verdict → Type 0
IsChecked bytes (Legal lines events) = IsSaidOf bytes (Legal lines events)
IsChecked bytes (Illegal line rule) = IsSaidOf bytes (Illegal line rule)
IsChecked bytes (NoReport line) = report_of bytes ≡ Err line

-- ---- how it is told

abbrev pub numbers_line : List ℕ → ℕ → ℕ → List ℕ
numbers_line word first second = word ++ decimal first ++ codes " " ++ decimal second ++ codes "\n"

abbrev pub told_of : Verdict → List ℕ
told_of (Legal lines events) = numbers_line (codes "legal ") lines events
told_of (Illegal line rule) = numbers_line (codes "illegal ") line rule
told_of (NoReport line) = codes "refused line " ++ decimal line ++ codes "\n"

abbrev pub status_of_verdict : Verdict → ℕ
status_of_verdict (Legal lines events) = 0
status_of_verdict (Illegal line rule) = 7
status_of_verdict (NoReport line) = 3

-- ---- causes

-- the ending of what is said
abbrev pub IsDueOfVerdict : Verdict → Ending → Type 0
IsDueOfVerdict v Usage = ⊥
IsDueOfVerdict v TooLong = ⊥
IsDueOfVerdict v (Refused line) = ⊥
IsDueOfVerdict v ReadFault = ⊥
IsDueOfVerdict v (Spent line) = ⊥
IsDueOfVerdict v Memory = Unit {0}
IsDueOfVerdict v (Replayed report text) = ⊥
IsDueOfVerdict v (Generated text) = ⊥
IsDueOfVerdict v (Checked verdict line) = (verdict ≡ v) × (line ≡ told_of verdict)
IsDueOfVerdict v (Counted report line) = ⊥

-- the ending of the bytes of a report
abbrev pub IsDueOfReportBytes : List ℕ → Ending → Type 0
IsDueOfReportBytes bytes Usage = ⊥
IsDueOfReportBytes bytes TooLong = ⊥
IsDueOfReportBytes bytes (Refused line) = ⊥
IsDueOfReportBytes bytes ReadFault = ⊥
IsDueOfReportBytes bytes (Spent line) = ⊥
IsDueOfReportBytes bytes Memory = Unit {0}
IsDueOfReportBytes bytes (Replayed report text) = ⊥
IsDueOfReportBytes bytes (Generated text) = ⊥
IsDueOfReportBytes bytes (Checked verdict line) = IsChecked bytes verdict × (line ≡ told_of verdict)
IsDueOfReportBytes bytes (Counted report line) = ⊥

-- bytes were read of which this is said, and the line tells it
pub record IsToldOfRead (before after : SourceValue) (v : Verdict) (line : List ℕ) : Type 0 where
  pub bytes : List ℕ
  pub read : IsRead report_limit before after bytes
  pub checked : IsChecked bytes v
  pub told : line ≡ told_of v

-- the cause of each ending of a check
abbrev pub IsDueOfCheck : SourceValue → SourceValue → Ending → Type 0
IsDueOfCheck before after Usage = ⊥
IsDueOfCheck before after TooLong = HasMore report_limit before after
IsDueOfCheck before after (Refused line) = ⊥
IsDueOfCheck before after ReadFault = Rose before.faults after.faults
IsDueOfCheck before after (Spent line) = ⊥
IsDueOfCheck before after Memory = Unit {0}
IsDueOfCheck before after (Replayed report text) = ⊥
IsDueOfCheck before after (Generated text) = ⊥
IsDueOfCheck before after (Checked verdict line) = IsToldOfRead before after verdict line
IsDueOfCheck before after (Counted report line) = ⊥

-- ---- what a call did

-- bytes were read and checked; this status says what is said of them, and so does the line that was written
pub record HasChecked (code : ℕ) (before after : StreamsValue) : Type 0 where
  pub bytes : List ℕ
  pub read : IsRead report_limit before.source after.source bytes
  pub verdict : Verdict
  pub checked : IsChecked bytes verdict
  pub status : status_of_verdict verdict ≡ code
  pub text : Wrote before after (told_of verdict)
