-- The parts of a hub as values.
use Rattle.std.specs.Prelude.{ℕ, List, Option}
use Rattle.card_model.specs.declared.world.World.{World}
use Rattle.card_model.specs.Slot.{Plan}
use Rattle.script_reader.specs.declared.types.Script.{Script}
use Rattle.report.specs.Room.{LinesRoom}
use Rattle.rules.specs.declared.kept.Kept.{Kept}
use Rattle.hub.specs.declared.engine.Engine.{Engine}

-- the script, the lines with their room, what is kept of them, the masks of the actors' watches, and the world and the planned faults where the slot tells them
pub record Parts : Type 0 where
  pub script : Script
  pub lines : LinesRoom
  pub kept : Kept
  pub masks : List (Option ℕ)
  pub world : Option World
  pub plan : Option Plan

abbrev pub parts : {S P : Type 0} → (S → Option World) → (S → Option Plan) → Engine S P → Parts
parts world_told plan_told e = record {
  script = e.script;
  lines = e.lines;
  kept = e.tracker.kept;
  masks = e.tracker.masks;
  world = world_told e.slot;
  plan = plan_told e.slot;
}
