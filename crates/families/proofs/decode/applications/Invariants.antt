use Rattle.std.proofs.Common.{◌≡◌, ◌++◌, ◌-◌, drop, map, length}
use Rattle.families.specs.Contents.{application_of}
use Rattle.families.proofs.decode.applications.Given as goal

-- the rows so far, and then those to come, are all
abbrev pub invariant-loop-row : goal.invariant-loop-row
invariant-loop-row l = map application_of l.dir.rows ≡ l.rows ++ map application_of (drop (length l.rows) l.dir.rows)

abbrev pub decreases-loop-row : goal.decreases-loop-row
decreases-loop-row l = length l.dir.rows - length l.rows
