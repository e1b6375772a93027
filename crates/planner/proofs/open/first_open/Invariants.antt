use Rattle.std.proofs.Common.{◌≡◌, drop}
use Rattle.rules.specs.Work.{first_actor, has_operations_left}
use Rattle.planner.proofs.open.first_open.Given as goal

-- no actor so far passes
abbrev pub invariant-loop-i : goal.invariant-loop-i
invariant-loop-i l = first_actor (has_operations_left l.script l.kept) 0 l.script.actors ≡ first_actor (has_operations_left l.script l.kept) l.i (drop l.i l.script.actors)
