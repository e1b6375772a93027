-- What is said of bytes, from what is said of the report that they are.
use Rattle.std.proofs.Common.{◌≡◌, ℕ, List, true, Option, None, Ok, sym, ap, ◌∙◌}
use Rattle.std.specs.Prelude.{is_none}
use Rattle.report.specs.declared.lines.Report.{Report}
use Rattle.report_reader.specs.Reports.{report_of}
use Rattle.rules.specs.Laws.{JudgesReports}
use Rattle.rules.specs.Legal.{legal, first_broken}
use Rattle.uicc_replay.specs.declared.check.Verdict.{Verdict}
use Rattle.uicc_replay.specs.declared.check.Verdict.TheVariants.{Legal, Illegal, NoReport}
use Rattle.uicc_replay.specs.Checking.{IsSaid, IsChecked}

-- a report of which no line breaks a rule is legal
pub unbroken_is_legal : JudgesReports → (r : Report) → first_broken r ≡ None → legal r ≡ true
unbroken_is_legal law r e = sym (law r) ∙ ap is_none e

pub said_of_bytes : (bytes : List ℕ) (r : Report) (v : Verdict) → report_of bytes ≡ Ok r → IsSaid r v → IsChecked bytes v
said_of_bytes bytes r (Legal lines events) read said = record { report = r; read = read; said = said }
said_of_bytes bytes r (Illegal line rule) read said = record { report = r; read = read; said = said }
said_of_bytes bytes r (NoReport line) read said = absurd said
