-- What callers see of a hub, and what a turn of an actor does.
use Rattle.std.specs.Prelude.{◌≡◌, ◌<◌, ◌⊎◌, ℕ, ◌++◌, Bool, true, false, List, ◌∷◌, Option, Some, None, IsSome}
use Rattle.card_model.specs.declared.world.World.{World}
use Rattle.card_model.specs.Slot.{Plan, StaysTold}
use Rattle.script_reader.specs.declared.types.Script.{Script}
use Rattle.script_reader.specs.Rules.{keeps_rules}
use Rattle.report.specs.declared.line.Line.{Line}
use Rattle.report.specs.declared.line.Line.TheVariants as line
use Rattle.rules.specs.declared.kept.Kept.{Kept}
use Rattle.rules.specs.After.{kept_of}
use Rattle.rules.specs.Due.{due}
use Rattle.rules.specs.Work.{has_ended, waits_on}
use Rattle.rules.specs.Performed.{ends_turn}
use Rattle.performed.specs.Names.{has_utf8_names}
use Rattle.performed.specs.Followed.{are_followed}
use Rattle.performed.specs.Laws.{has_no_mark}
use Rattle.performed.specs.Progress.{Moves}
use Rattle.hub.specs.declared.turn.Turn.{Turn}
use Rattle.hub.specs.declared.turn.Turn.TheVariants.{Moved, Waits, Ended}

-- the script, the lines with the newest first, the world and the planned faults where the slot tells them, and whether no turn broke off
pub record HubValue : Type 0 where
  pub script : Script
  pub lines : List Line
  pub world : Option World
  pub plan : Option Plan
  pub whole : Bool

-- what is kept of its lines
abbrev pub kept_now : HubValue → Kept
kept_now h = kept_of h.script h.lines

-- each line was due, and nothing more is
pub record IsAtRest (h : HubValue) : Type 0 where
  pub rules : keeps_rules h.script ≡ true
  pub names : has_utf8_names h.script ≡ true
  pub followed : are_followed h.script h.lines ≡ true
  pub ends : ends_turn (due h.script (kept_now h)) ≡ true

-- a turn of an actor that has operations left: it waits for this one, or moves
abbrev pub waits_or_moves : Option ℕ → Turn
waits_or_moves (Some on) = Waits on
waits_or_moves None = Moved

-- what a turn of the actor answers
abbrev pub turn_answer : Script → Kept → ℕ → Turn
turn_answer s k a = elim (has_ended s k a) [ true ↦ Ended | false ↦ waits_or_moves (waits_on s k a) ]

-- of the same script, and a slot that told its world and its plan does so still
pub record StaysOf (old new : HubValue) : Type 0 where
  pub script : new.script ≡ old.script
  pub world : StaysTold old.world new.world
  pub plan : StaysTold old.plan new.plan

-- the lines that a turn of the actor adds: its mark, and behind it lines that are no mark
pub record AddsTurn (a : ℕ) (old new : List Line) : Type 0 where
  pub added : List Line
  pub lines : new ≡ added ++ line.Turn a ∷ old
  pub own : has_no_mark added ≡ true

-- a turn of the actor that moved: each of its lines was due, and nothing more is due in it; where the slot tells its world, it is not without
-- lines, and leaves less to do
pub record TakesTurn (a : ℕ) (old new : HubValue) : Type 0 where
  pub stays : StaysOf old new
  pub turn : AddsTurn a old.lines new.lines
  pub rest : IsAtRest new
  pub filled : IsSome old.world → (kept_now new).turn.bare ≡ false
  pub moves : IsSome old.world → Moves old.script (kept_now old) (kept_now new)
  pub whole : new.whole ≡ true

-- a turn of the actor that broke off for want of memory, behind an event of its own
pub record BreaksOff (a : ℕ) (old new : HubValue) : Type 0 where
  pub stays : StaysOf old new
  pub turn : AddsTurn a old.lines new.lines
  pub event : (kept_now old).history.events < (kept_now new).history.events
  pub whole : new.whole ≡ false

-- behind want of memory: nothing changed, or a turn broke off
abbrev pub ChangesNothingOrBreaks : ℕ → HubValue → HubValue → Type 0
ChangesNothingOrBreaks a old new = (new ≡ old) ⊎ BreaksOff a old new
