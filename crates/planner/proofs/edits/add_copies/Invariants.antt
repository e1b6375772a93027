use Rattle.std.proofs.Common.{◌≡◌, ◌++◌, drop}
use Rattle.planner.proofs.edits.add_copies.Given as goal

-- the copies so far, and the paths that are left, are all of them
abbrev pub invariant-loop-path : goal.invariant-loop-path
invariant-loop-path l = l.fn.paths ++ l.from ≡ l.paths ++ drop l.path-index l.from
