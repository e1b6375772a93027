-- The events of a run and its epochs.
--
-- An event is an exchange, a reset, or an event of the world, and a point is a number of events. The epoch is the number of insertions
-- and of resets that were done so far. It lives where the last of insertion, reset, removal and failed exchange is an insertion or a
-- reset that was done, and a reset is owed where it is a failed exchange. An announcement is open where a status 91XX was answered in the
-- living epoch since its last FETCH.
use Rattle.std.specs.Prelude.{ℕ, ◌+◌, ◌%◌, ◌==◌, ◌&&◌, ◌||◌, not, Bool, true, false, if◌then◌else◌, List, [], ◌∷◌, ◌++◌, Option, Some, None, Result, Ok, Err}
use Rattle.apdu.specs.Values.{CommandValue, ResponseValue}
use Rattle.apdu.specs.Apdu.{fetch_ins, is_announcement, command_bytes, response_bytes}
use Rattle.card_model.specs.declared.slot.SlotFault.{SlotFault}
use Rattle.card_model.specs.declared.trail.Step.{Step}
use Rattle.card_model.specs.declared.world.WorldEvent.{WorldEvent}
use Rattle.card_model.specs.declared.world.WorldEvent.TheVariants as world_event
use Rattle.epoch_cache.specs.declared.event.Event.{Event}
use Rattle.epoch_cache.specs.declared.event.Event.TheVariants as event
use Rattle.epoch_cache.specs.declared.past.Past.{Past}

-- ---- kinds of events

abbrev pub is_answered : Result ResponseValue SlotFault → Bool
is_answered (Ok r) = true
is_answered (Err fault) = false

-- a call of the slot
abbrev pub is_call : Event → Bool
is_call (event.Exchange actor step) = true
is_call (event.Reset actor ok) = true
is_call (event.World actor e) = false

abbrev pub is_insertion : WorldEvent → Bool
is_insertion (world_event.Insert j) = true
is_insertion world_event.Out = false
is_insertion (world_event.Arm i) = false

abbrev pub is_removal : WorldEvent → Bool
is_removal world_event.Out = true
is_removal (world_event.Insert j) = false
is_removal (world_event.Arm i) = false

-- an insertion, or a reset that was done
abbrev pub begins_epoch : Event → Bool
begins_epoch (event.Exchange actor step) = false
begins_epoch (event.Reset actor ok) = ok
begins_epoch (event.World actor e) = is_insertion e

abbrev pub is_failed_exchange : Event → Bool
is_failed_exchange (event.Exchange actor step) = not (is_answered step.outcome)
is_failed_exchange (event.Reset actor ok) = false
is_failed_exchange (event.World actor e) = false

-- a removal, a failed exchange or a failed reset
abbrev pub stops_epoch : Event → Bool
stops_epoch (event.Exchange actor step) = not (is_answered step.outcome)
stops_epoch (event.Reset actor ok) = not ok
stops_epoch (event.World actor e) = is_removal e

-- what was known of the card before the event is not known behind it
abbrev pub is_epoch_border : Event → Bool
is_epoch_border e = begins_epoch e || stops_epoch e

-- ---- what is kept of the events

abbrev pub first_past : Past
first_past = record { events = 0; calls = 0; epoch = 0; living = false; owes_reset = false; announced = None }

-- one more, where the test holds
abbrev pub counted : Bool → ℕ → ℕ
counted test n = if test then n + 1 else n

-- a FETCH takes the announcement, and a status 91XX makes one of XX bytes; kept is the byte XX
abbrev pub announced_after : CommandValue → ResponseValue → Option ℕ → Option ℕ
announced_after c r before =
    if c.ins == fetch_ins then None
    else if is_announcement r.sw then Some (r.sw % 256)
    else before

abbrev pub announced_by : CommandValue → Result ResponseValue SlotFault → Option ℕ → Option ℕ
announced_by c (Ok r) before = announced_after c r before
announced_by c (Err fault) before = None

abbrev pub announced_behind : Event → Option ℕ → Option ℕ
announced_behind (event.Exchange actor step) before = announced_by step.command step.outcome before
announced_behind (event.Reset actor ok) before = None
announced_behind (event.World actor e) before = if is_insertion e || is_removal e then None else before

abbrev pub lives_behind : Event → Bool → Bool
lives_behind e before = begins_epoch e || (not (stops_epoch e) && before)

abbrev pub owes_reset_behind : Event → Bool → Bool
owes_reset_behind e before = is_failed_exchange e || (not (is_epoch_border e) && before)

abbrev pub past_after : Event → Past → Past
past_after e p = record {
  events = p.events + 1;
  calls = counted (is_call e) p.calls;
  epoch = counted (begins_epoch e) p.epoch;
  living = lives_behind e p.living;
  owes_reset = owes_reset_behind e p.owes_reset;
  announced = announced_behind e p.announced;
}

-- the same of all events, newest first
abbrev pub past_of : List Event → Past
past_of [] = first_past
past_of (e ∷ earlier) = past_after e (past_of earlier)

-- ---- what an event has when it is written

abbrev pub outcome_bytes : Result ResponseValue SlotFault → List ℕ
outcome_bytes (Ok r) = response_bytes r
outcome_bytes (Err fault) = []

-- the bytes of its command and of its response
abbrev pub step_bytes : Step → List ℕ
step_bytes step = command_bytes step.command ++ outcome_bytes step.outcome

abbrev pub event_bytes : Event → List ℕ
event_bytes (event.Exchange actor step) = step_bytes step
event_bytes (event.Reset actor ok) = []
event_bytes (event.World actor e) = []
