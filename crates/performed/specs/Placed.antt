-- Turns in the order of a mode: a replay's come by the script's schedule and then round, and a run has none without lines.
use Rattle.std.specs.Prelude.{◌&&◌, ◌||◌, not, Bool, true, false, List, [], ◌∷◌}
use Rattle.script_reader.specs.declared.types.Script.{Script}
use Rattle.report.specs.declared.line.Mode.{Mode}
use Rattle.report.specs.declared.line.Mode.TheVariants.{Replay, Run}
use Rattle.report.specs.declared.line.Line.{Line}
use Rattle.report.specs.declared.line.Line.TheVariants as line
use Rattle.rules.specs.declared.kept.Kept.{Kept}
use Rattle.rules.specs.declared.kept.Turn.{Turn}
use Rattle.rules.specs.After.{kept_of}
use Rattle.rules.specs.Rules.{is_actor_right}

abbrev pub allows_bare : Mode → Bool
allows_bare Replay = true
allows_bare Run = false

-- the turn that ends has lines, or may have none
abbrev pub is_turn_allowed : Mode → Turn → Bool
is_turn_allowed m t = not t.bare || allows_bare m

abbrev pub is_placed : Script → Mode → Kept → Line → Bool
is_placed s m k (line.Turn a) = is_actor_right s m a k && is_turn_allowed m k.turn
is_placed s m k l = true

abbrev pub are_placed : Script → Mode → List Line → Bool
are_placed s m [] = true
are_placed s m (l ∷ earlier) = are_placed s m earlier && is_placed s m (kept_of s earlier) l
