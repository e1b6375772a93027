-- The history that the rules keep is that of the events.
use Rattle.std.proofs.Common.{◌≡◌, List, [], ◌∷◌, refl, ap, ◌∙◌}
use Rattle.card_model.specs.declared.world.WorldEvent.TheVariants as world_event
use Rattle.report.specs.declared.line.Line.{Line}
use Rattle.report.specs.declared.line.Line.TheVariants as line
use Rattle.epoch_cache.specs.Past.{past_of}
use Rattle.rules.specs.History.{history_after}
use Rattle.rules.specs.Events.{events_of, KeepsEvents}

-- a line's event is put in front, where there is one
pub one_line : (l : Line) (lines : List Line) → history_after l (past_of (events_of lines)) ≡ past_of (events_of (l ∷ lines))
one_line (line.Exchange a c r) lines = refl
one_line (line.Failed a c d) lines = refl
one_line (line.Reset a) lines = refl
one_line (line.ResetFailed a) lines = refl
one_line (line.World a (world_event.Insert j)) lines = refl
one_line (line.World a world_event.Out) lines = refl
one_line (line.World a (world_event.Arm i)) lines = refl
one_line (line.Turn a) lines = refl
one_line (line.Begin a i) lines = refl
one_line (line.Published k f e n text) lines = refl
one_line (line.EpochEnd k e n) lines = refl
one_line (line.Refused f n) lines = refl
one_line (line.Answered a i answer) lines = refl

pub keeps_events : KeepsEvents
keeps_events s [] = refl
keeps_events s (l ∷ lines) = ap (history_after l) (keeps_events s lines) ∙ one_line l lines
