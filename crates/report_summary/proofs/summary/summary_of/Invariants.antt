use Rattle.std.proofs.Common.{◌≡◌}
use Rattle.report_summary.specs.Summary.{seen, summary_of}
use Rattle.report_summary.proofs.summary.summary_of.Given as goal

-- the lines so far are counted
abbrev pub invariant-loop-at : goal.invariant-loop-at
invariant-loop-at l = l.summary ≡ summary_of (seen l.at l.lines)
