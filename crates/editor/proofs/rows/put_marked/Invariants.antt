use Rattle.std.proofs.Common.{◌≡◌, ◌≤◌, length, drop}
use Rattle.editor.specs.Rows.{marked_onto}
use Rattle.editor.proofs.rows.put_marked.Given as goal

-- what is left to put are the first rows
abbrev pub invariant-loop-left : goal.invariant-loop-left
invariant-loop-left l = (l.left ≤ length l.marked) × (l.rows.items ≡ marked_onto l.decided (drop l.left l.marked) l.fn.rows.items)

-- the rows that are left
abbrev pub decreases-loop-left : goal.decreases-loop-left
decreases-loop-left l = l.left
