-- What a list of calls does to a simulated slot: each call of an exchange or a reset is counted, and fails exactly where
-- a fault is planned for it or the slot is empty.
use Rattle.std.specs.Prelude.{Bool, List, [], ◌∷◌, Option, None, Some, if◌then◌else◌}
use Rattle.apdu.specs.Values.{CommandValue}
use Rattle.card_model.specs.declared.world.World.{World}
use Rattle.card_model.specs.declared.world.WorldEvent.{WorldEvent}
use Rattle.card_model.specs.declared.slot.WorldRefusal.{WorldRefusal}
use Rattle.card_model.specs.Step.{step, after_event, after_reset}
use Rattle.card_model.specs.Slot.{one_more, next_fault, acted_of, fails_at, refusal_of}
use Rattle.sim_card.specs.Sim.{SimValue}
use Rattle.sim_card.specs.declared.calls.Call.{Call}
use Rattle.sim_card.specs.declared.calls.Call.TheVariants.{Exchange, Reset, World as Happening}

-- ---- exchanges and resets

-- a fault is planned for the next exchange or reset, or the slot is empty
abbrev pub fails_next : SimValue → Bool
fails_next s = fails_at (next_fault s.plan) s.world

-- one more exchange or reset was made, and it left this world; exactly where it failed the failures rise
abbrev pub called : SimValue → Bool → World → SimValue
called s failed w = record {
  world = w;
  plan = record { faults = s.plan.faults; calls = one_more s.plan.calls };
  failures = if failed then one_more s.failures else s.failures;
}

-- the card makes its step, but in a failed exchange only where the fault says that it acted
abbrev pub world_after_exchange : SimValue → CommandValue → World
world_after_exchange s c =
    if fails_next s
    then (if acted_of (next_fault s.plan) then (step s.world c).0 else s.world)
    else (step s.world c).0

abbrev pub after_exchange : SimValue → CommandValue → SimValue
after_exchange s c = called s (fails_next s) (world_after_exchange s c)

-- a failed reset leaves the world as it is
abbrev pub world_after_reset : SimValue → World
world_after_reset s = if fails_next s then s.world else after_reset s.world

abbrev pub after_reset_call : SimValue → SimValue
after_reset_call s = called s (fails_next s) (world_after_reset s)

-- ---- world events

-- the event happens unless it is refused
abbrev pub world_unless_refused : World → WorldEvent → Option WorldRefusal → World
world_unless_refused w e None = after_event w e
world_unless_refused w e (Some refusal) = w

-- a world event is no exchange and no reset: it is not counted, and does not fail as they do
abbrev pub after_world_call : SimValue → WorldEvent → SimValue
after_world_call s e = record s { world = world_unless_refused s.world e (refusal_of s.world e) }

-- ---- calls

abbrev pub after_call : SimValue → Call → SimValue
after_call s (Exchange c) = after_exchange s c
after_call s Reset = after_reset_call s
after_call s (Happening e) = after_world_call s e

-- the first call first
abbrev pub after_calls : SimValue → List Call → SimValue
after_calls s [] = s
after_calls s (call ∷ rest) = after_calls (after_call s call) rest
