-- A report and its text: what is written is read, what is read is written so, and the first line that has no place is named.
use Rattle.std.specs.Prelude.{◌≡◌, ℕ, ◌-◌, ◌≤◌, ◌<◌, false, List, ◌++◌, length, flat_map, codes, Ok, Err}
use Rattle.std.specs.List.{AllByRecursion}
use Rattle.apdu.specs.Words.{is_one_of}
use Rattle.report.specs.Texts.{report_text}
use Rattle.report.specs.declared.lines.Report.{Report}
use Rattle.report_reader.specs.Forms.{IsReport}
use Rattle.report_reader.specs.Reports.{report_of}

-- the text of a report is read as that report
abbrev pub AreReadBack : Type 0
AreReadBack = (r : Report) → IsReport r → report_of (report_text r) ≡ Ok r

-- the bytes that are read as a report are the text of it
abbrev pub HaveOneSpelling : Type 0
HaveOneSpelling = (bytes : List ℕ) (r : Report) → report_of bytes ≡ Ok r → IsReport r × (report_text r ≡ bytes)

-- ---- bytes that are the text of no report

-- no line feed stands in the text
abbrev pub IsOneLine : List ℕ → Type 0
IsOneLine text = is_one_of 10 text ≡ false

-- the lines, each with its line feed
abbrev pub with_feeds : List (List ℕ) → List ℕ
with_feeds lines = flat_map (λ text. text ++ codes "\n") lines

-- the bytes begin with so many lines, and the text of a report begins with the same
pub record HavePlaces (n : ℕ) (bytes : List ℕ) : Type 0 where
  pub lines : List (List ℕ)
  pub count : length lines ≡ n
  pub each : AllByRecursion IsOneLine lines
  pub behind : List ℕ
  pub begins : with_feeds lines ++ behind ≡ bytes
  pub report : Report
  pub is : IsReport report
  pub further : List ℕ
  pub same : with_feeds lines ++ further ≡ report_text report

-- the first line that has no place is named: those before it have theirs
pub record IsFirst (n : ℕ) (bytes : List ℕ) : Type 0 where
  pub some : 1 ≤ n
  pub before : 1 < n → HavePlaces (n - 1) bytes
  pub none : HavePlaces n bytes → ⊥

abbrev pub NamesFirst : Type 0
NamesFirst = (bytes : List ℕ) (n : ℕ) → report_of bytes ≡ Err n → IsFirst n bytes
