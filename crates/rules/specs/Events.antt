-- The events that lines show, and what a history of them keeps.
use Rattle.std.specs.Prelude.{◌≡◌, true, false, List, Option, Some, None, Ok, Err}
use Rattle.std.specs.List.{filter_map}
use Rattle.script_reader.specs.declared.types.Script.{Script}
use Rattle.report.specs.declared.line.Line.{Line}
use Rattle.report.specs.declared.line.Line.TheVariants as line
use Rattle.epoch_cache.specs.declared.event.Event.{Event}
use Rattle.epoch_cache.specs.declared.event.Event.TheVariants as event
use Rattle.epoch_cache.specs.Past.{past_of}
use Rattle.rules.specs.After.{kept_of}

abbrev pub event_of : Line → Option Event
event_of (line.Exchange a c r) = Some (event.Exchange a (record { command = c; outcome = Ok r }))
event_of (line.Failed a c d) = Some (event.Exchange a (record { command = c; outcome = Err (record {}) }))
event_of (line.Reset a) = Some (event.Reset a true)
event_of (line.ResetFailed a) = Some (event.Reset a false)
event_of (line.World a e) = Some (event.World a e)
event_of (line.Turn a) = None
event_of (line.Begin a i) = None
event_of (line.Published k f e n text) = None
event_of (line.EpochEnd k e n) = None
event_of (line.Refused f n) = None
event_of (line.Answered a i answer) = None

abbrev pub events_of : List Line → List Event
events_of lines = filter_map event_of lines

-- what is kept of the lines as their history is what is kept of their events
abbrev pub KeepsEvents : Type 0
KeepsEvents = (s : Script) (lines : List Line) → (kept_of s lines).history ≡ past_of (events_of lines)
