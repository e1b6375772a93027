use Rattle.std.proofs.Common.{◌≡◌, drop}
use Rattle.rules.specs.Work.{first_actor, edits_family}
use Rattle.planner.proofs.open.first_editor.Given as goal

-- no actor so far passes
abbrev pub invariant-loop-i : goal.invariant-loop-i
invariant-loop-i l = first_actor (edits_family l.script l.kept l.family) 0 l.script.actors ≡ first_actor (edits_family l.script l.kept l.family) l.i (drop l.i l.script.actors)
