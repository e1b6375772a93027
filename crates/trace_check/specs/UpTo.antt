-- A report up to one of its lines.
use Rattle.std.specs.Prelude.{◌≡◌, ◌+◌, ℕ, List, take, reverse, None}
use Rattle.script_reader.specs.declared.types.Script.{Script}
use Rattle.report.specs.declared.line.Mode.{Mode}
use Rattle.report.specs.declared.line.Line.{Line}
use Rattle.report.specs.declared.lines.Report.{Report}
use Rattle.report_summary.specs.Summary.{seen}
use Rattle.rules.specs.State.{state_of}
use Rattle.rules.specs.Legal.{judged_of}
use Rattle.trace_check.specs.declared.behind.Behind.{Behind}
use Rattle.trace_check.specs.Behind.{IsBehind}

-- these lines, so many, break no rule
pub record IsUnbroken (s : Script) (m : Mode) (lines : List Line) (at : ℕ) : Type 0 where
  pub judged : judged_of s m lines ≡ record { state = state_of s lines; next = at + 3; broken = None }

-- so many lines of the report break no rule, and this stands behind them
pub record UpTo (r : Report) (at : ℕ) (b : Behind) : Type 0 where
  pub behind : IsBehind r.script (seen at r.lines) b
  pub judged : IsUnbroken r.script r.mode (seen at r.lines) at
