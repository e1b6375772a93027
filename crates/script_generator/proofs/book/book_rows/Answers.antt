use Rattle.std.proofs.Common.{sym}
use Rattle.script_generator.proofs.Rows.{rows_more, behind_more}
use Rattle.script_generator.proofs.book.book_rows.Goals as goal

pub loop-row-preserved : goal.loop-row-preserved
loop-row-preserved c = record {
  rows = rw (c.in_ok-push.ensures.ok, c.in_ok-book_row.ensures.value, c.loop-row.invariant.rows, c.loop-row.invariant.state) (sym (rows_more c.args.draws.now.state c.loop-row.row));
  state = rw (c.in_ok-book_row.ensures.state, c.loop-row.invariant.state) (sym (behind_more c.args.draws.now.state c.loop-row.row));
}
