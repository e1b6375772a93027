use Rattle.std.proofs.Common.{◌≡◌, [], ◌∷◌, ◌++◌}
use Rattle.script_generator.specs.Draws.{behind}
use Rattle.script_generator.specs.Generated as spec
use Rattle.script_generator.proofs.usual.schedule.Given as goal

abbrev pub invariant-loop-turn : goal.invariant-loop-turn
invariant-loop-turn l = record {
  turns : l.turns ≡ (1 ∷ 0 ∷ 0 ∷ 1 ∷ []) ++ spec.turns l.fn.draws.state l._turn;
  state : l.draws.state ≡ behind l.fn.draws.state l._turn;
}
