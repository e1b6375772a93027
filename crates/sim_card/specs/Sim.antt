-- What a contract sees of a simulated slot.
use Rattle.std.specs.Prelude.{ℕ, List, None, Result, is_err, if◌then◌else◌}
use Rattle.card_model.specs.declared.world.World.{World}
use Rattle.card_model.specs.declared.world.CardState.{CardState}
use Rattle.card_model.specs.declared.world.Change.{Change}
use Rattle.card_model.specs.declared.world.Fault.{Fault}
use Rattle.card_model.specs.Slot.{Plan, one_more}

-- the world, the planned faults with the number of calls so far, and how many calls failed
pub record SimValue : Type 0 where
  pub world : World
  pub plan : Plan
  pub failures : ℕ

-- an empty slot, of which nothing was asked yet
abbrev pub empty_slot : List CardState → List Change → List Fault → SimValue
empty_slot cards changes faults = record {
  world = record { cards = cards; inside = None; changes = changes };
  plan = record { faults = faults; calls = 0 };
  failures = 0;
}

-- a failed call counts, and no other does
abbrev pub failures_after : {T E : Type 0} → ℕ → Result T E → ℕ
failures_after failures result = if is_err result then one_more failures else failures
