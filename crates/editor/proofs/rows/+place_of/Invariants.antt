use Rattle.std.proofs.Common.{length}
use Rattle.editor.proofs.rows.+place_of.Given as goal

-- the rows that are left
abbrev pub decreases-place_of : goal.decreases-place_of
decreases-place_of l = length l.rows.now
