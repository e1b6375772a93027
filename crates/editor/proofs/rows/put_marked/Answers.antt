use Rattle.std.proofs.Common.{arith, ◌∙◌, sym, ap}
use Rattle.editor.specs.Rows.{row_onto}
use Rattle.editor.proofs.Places.{last_put}
use Rattle.editor.proofs.rows.put_marked.Goals as goal

pub loop-left-preserved : goal.loop-left-preserved
loop-left-preserved c = (omega arith, c.in_ok-put_unless_named.ensures ∙ ap (row_onto c.args.decided _) (c.loop-left.invariant).1 ∙ sym (last_put c.args.decided c.args.marked.now c.loop-left.left _ (omega arith) (c.loop-left.invariant).0))
