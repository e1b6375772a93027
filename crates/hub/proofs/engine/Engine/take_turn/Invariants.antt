use Rattle.std.proofs.Common.{◌≡◌, true}
use Rattle.performed.specs.Measure.{steps_left}
use Rattle.hub.specs.Decided.{MayBegin}
use Rattle.hub.specs.Parts.{parts}
use Rattle.hub.specs.Settled.{HasLeft, IsTurning, StaysWith}
use Rattle.hub.proofs.engine.Engine.take_turn.Given as goal

abbrev pub invariant-lines : goal.invariant-lines
invariant-lines g l = record {
  turning : IsTurning l.actor l.fn.self.lines.lines l.text (parts g.S.Slot.world g.S.Slot.plan l.self);
  stays : StaysWith (parts g.S.Slot.world g.S.Slot.plan l.fn.self) (parts g.S.Slot.world g.S.Slot.plan l.self);
  from : l.events ≡ l.fn.self.tracker.kept.history.events;
  may : l.self.tracker.kept.turn.bare ≡ true → MayBegin l.self.script l.self.tracker.kept l.actor l.begin;
  left : HasLeft l.actor l.events l.left.ready l.self.tracker.kept;
}

abbrev pub decreases-lines : goal.decreases-lines
decreases-lines g l = steps_left l.self.tracker.kept
