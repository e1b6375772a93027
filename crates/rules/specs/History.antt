-- The events of a run and its epochs.
--
-- Looking back over the lines: an event is an exchange, a failed exchange, a reset, a failed reset or an event of the world, and a point
-- is a number of events. The epoch is the number of insertions and resets so far. It lives where the last of insertion, reset, removal,
-- failed exchange and failed reset is an insertion or a reset, and a reset is owed where it is a failed exchange. An announcement is open
-- where a status 91XX was answered in the living epoch since its last FETCH.
use Rattle.std.specs.Prelude.{ℕ, ◌==◌, ◌&&◌, ◌||◌, not, Bool, true, false, if◌then◌else◌, Option, Some, None}
use Rattle.card_model.specs.declared.world.WorldEvent.TheVariants as world_event
use Rattle.report.specs.declared.line.Line.{Line}
use Rattle.report.specs.declared.line.Line.TheVariants as line
use Rattle.epoch_cache.specs.declared.past.Past.{Past}
use Rattle.epoch_cache.specs.Past.{counted, announced_after}

-- ---- kinds of lines

abbrev pub is_event : Line → Bool
is_event (line.Exchange a c r) = true
is_event (line.Failed a c d) = true
is_event (line.Reset a) = true
is_event (line.ResetFailed a) = true
is_event (line.World a e) = true
is_event (line.Turn a) = false
is_event (line.Begin a i) = false
is_event (line.Published k f e n text) = false
is_event (line.EpochEnd k e n) = false
is_event (line.Refused f n) = false
is_event (line.Answered a i answer) = false

-- a call of the slot: an exchange or a reset, done or failed
abbrev pub is_call : Line → Bool
is_call (line.Exchange a c r) = true
is_call (line.Failed a c d) = true
is_call (line.Reset a) = true
is_call (line.ResetFailed a) = true
is_call (line.World a e) = false
is_call (line.Turn a) = false
is_call (line.Begin a i) = false
is_call (line.Published k f e n text) = false
is_call (line.EpochEnd k e n) = false
is_call (line.Refused f n) = false
is_call (line.Answered a i answer) = false

-- an insertion, or a reset that was done
abbrev pub begins_epoch : Line → Bool
begins_epoch (line.Reset a) = true
begins_epoch (line.World a (world_event.Insert j)) = true
begins_epoch (line.World a world_event.Out) = false
begins_epoch (line.World a (world_event.Arm i)) = false
begins_epoch (line.Exchange a c r) = false
begins_epoch (line.Failed a c d) = false
begins_epoch (line.ResetFailed a) = false
begins_epoch (line.Turn a) = false
begins_epoch (line.Begin a i) = false
begins_epoch (line.Published k f e n text) = false
begins_epoch (line.EpochEnd k e n) = false
begins_epoch (line.Refused f n) = false
begins_epoch (line.Answered a i answer) = false

-- a removal, a failed exchange or a failed reset
abbrev pub stops_epoch : Line → Bool
stops_epoch (line.Failed a c d) = true
stops_epoch (line.ResetFailed a) = true
stops_epoch (line.World a world_event.Out) = true
stops_epoch (line.World a (world_event.Insert j)) = false
stops_epoch (line.World a (world_event.Arm i)) = false
stops_epoch (line.Exchange a c r) = false
stops_epoch (line.Reset a) = false
stops_epoch (line.Turn a) = false
stops_epoch (line.Begin a i) = false
stops_epoch (line.Published k f e n text) = false
stops_epoch (line.EpochEnd k e n) = false
stops_epoch (line.Refused f n) = false
stops_epoch (line.Answered a i answer) = false

-- what was known of the card before the line is not known behind it
abbrev pub is_epoch_border : Line → Bool
is_epoch_border l = begins_epoch l || stops_epoch l

abbrev pub is_failed_exchange : Line → Bool
is_failed_exchange (line.Failed a c d) = true
is_failed_exchange (line.Exchange a c r) = false
is_failed_exchange (line.Reset a) = false
is_failed_exchange (line.ResetFailed a) = false
is_failed_exchange (line.World a e) = false
is_failed_exchange (line.Turn a) = false
is_failed_exchange (line.Begin a i) = false
is_failed_exchange (line.Published k f e n text) = false
is_failed_exchange (line.EpochEnd k e n) = false
is_failed_exchange (line.Refused f n) = false
is_failed_exchange (line.Answered a i answer) = false

-- ---- the kept history

abbrev pub announced_behind : Line → Option ℕ → Option ℕ
announced_behind (line.Exchange a c r) before = announced_after c r before
announced_behind l before = if is_epoch_border l then None else before

abbrev pub lives_behind : Line → Bool → Bool
lives_behind l before = begins_epoch l || (not (stops_epoch l) && before)

abbrev pub owes_reset_behind : Line → Bool → Bool
owes_reset_behind l before = is_failed_exchange l || (not (is_epoch_border l) && before)

abbrev pub history_after : Line → Past → Past
history_after l h = record {
  events = counted (is_event l) h.events;
  calls = counted (is_call l) h.calls;
  epoch = counted (begins_epoch l) h.epoch;
  living = lives_behind l h.living;
  owes_reset = owes_reset_behind l h.owes_reset;
  announced = announced_behind l h.announced;
}

-- the line is an event that ends the epoch that lived before it
abbrev pub ends_epoch : Line → Past → Bool
ends_epoch l h = is_epoch_border l && h.living

-- the epoch of this number lives
abbrev pub is_living : Past → ℕ → Bool
is_living h epoch = h.living && (h.epoch == epoch)

-- the same of an epoch that there may be
abbrev pub lives_in : Past → Option ℕ → Bool
lives_in h None = false
lives_in h (Some epoch) = is_living h epoch
