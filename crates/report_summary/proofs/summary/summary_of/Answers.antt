-- All lines are counted.
use Rattle.std.proofs.Common.{◌∙◌, arith}
use Rattle.report_summary.proofs.Counted.{summary_all}
use Rattle.report_summary.proofs.summary.summary_of.Goals as goal

pub returns : goal.returns
returns c = c.loop-at.invariant ∙ summary_all c.args.lines.now c.loop-at.at (omega arith)
