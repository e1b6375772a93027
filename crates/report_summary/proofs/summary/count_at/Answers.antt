-- The line of this index is one more.
use Rattle.std.proofs.Common.{ap, sym, ◌∙◌}
use Rattle.report_summary.specs.Summary.{counted}
use Rattle.report_summary.proofs.Counted.{summary_more}
use Rattle.report_summary.proofs.summary.count_at.Goals as goal

pub returns : goal.returns
returns c =
    c.count.ensures
    ∙ ap (counted c.in-Some.line) c.requires.before
    ∙ summary_more c.args.lines.now c.args.at c.in-Some.line (sym c.in_ok-line.ensures ∙ c.in-Some.is)
