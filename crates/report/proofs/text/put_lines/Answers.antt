use Rattle.std.proofs.Common.{arith}
use Rattle.report.proofs.Ordered.{one_more}
use Rattle.report.proofs.text.put_lines.Goals as goal

pub loop-at-preserved : goal.loop-at-preserved
loop-at-preserved c = one_more c.args.out.now c.loop-at.out c.put_line_at.new.out c.args.lines.now c.loop-at.at (omega (arith, c.loop-at-test.true, c.len-at-end.ensures)) c.loop-at.invariant c.in_ok-put_line_at.ensures
