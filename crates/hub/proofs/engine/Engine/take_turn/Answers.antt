use Rattle.std.proofs.Common.{◌∙◌, sym, ap, subst, Option, List, ℕ}
use Rattle.planner.specs.Room.{is_given}
use Rattle.hub.specs.Parts.{parts}
use Rattle.hub.specs.Settled.{HasLeft}
use Rattle.hub.proofs.Loop.{begins, broken_now, filled_now, first_left, first_may, left_in_turn, moved_on, next_left}
use Rattle.hub.proofs.Steps.{always_err, awake_pending, broken, done_turning, first_turning, from_start, may_do, since, stays_then, steps_fall}
use Rattle.hub.proofs.Turning.{under_way}
use Rattle.hub.proofs.engine.Engine.take_turn.Goals as goal

pub mark-requires-clause-pending : goal.mark-requires-clause-pending
mark-requires-clause-pending g c = awake_pending c.args.self.now.script c.args.self.now.tracker.kept c.args.actor c.requires.actor c.requires.awake

pub lines-init : goal.lines-init
lines-init g c = record {
  turning = first_turning _ _ c.args.actor _ c.requires.settled c.requires.awake c.requires.prepared.text c.mark.ensures.line c.mark.ensures.spare_bytes;
  stays = c.mark.ensures.line.stays;
  from = ap (λ k. k.history.events) c.kept.ensures;
  may = first_may _ _ _ c.mark.ensures.line c.requires.settled.tied _ c.requires.prepared.begin;
  left = first_left _ _ _ c.mark.ensures.line c.requires.settled.tied _ _ (ap (λ k. k.history.events) c.kept.ensures) c.requires.prepared.rows c.requires.prepared.decided;
}

pub next-requires-clause-fits : goal.next-requires-clause-fits
next-requires-clause-fits g c = (under_way c.actors_stay_plain.ensures _ _ _ _ c.lines.invariant.turning).fits

pub next-requires-clause-left : goal.next-requires-clause-left
next-requires-clause-left g c = left_in_turn c.args.actor c.lines.self.tracker.kept _ (under_way c.actors_stay_plain.ensures _ _ _ _ c.lines.invariant.turning).turn c.lines.invariant.left.rows

pub returns-in_err-line-clause-err : goal.returns-in_err-line-clause-err
returns-in_err-line-clause-err g c =
    always_err _ _ (broken_now _ _ _ _ _
    (c.lines.invariant.from ∙ ap (λ k. k.history.events) c.requires.settled.tied.kept) c.lines.invariant.stays c.lines.invariant.turning
    (moved_on c.args.actor _ c.lines.self.tracker.kept _ c.next.result _ (under_way c.actors_stay_plain.ensures _ _ _ _ c.lines.invariant.turning).turn c.lines.invariant.left c.in_err-line.was c.next.ensures.ready c.next.ensures.undecided))

pub do_line-requires : goal.do_line-requires
do_line-requires g c =
    let way = under_way c.actors_stay_plain.ensures _ _ _ _ c.lines.invariant.turning in
    record {
      turn = way;
      since = since _ _ _ _ _ c.lines.invariant.from c.requires.settled.tied c.lines.invariant.stays c.lines.invariant.turning;
      due = sym c.in_ok-line.ensures.value;
      goes_on = sym c.ends_turn.ensures ∙ c.if-ends_turn.false;
      begin = begins (parts g.S.Slot.world g.S.Slot.plan c.lines.self) c.args.actor c.in_ok-line.line _ way.turn (sym c.in_ok-line.ensures.value) c.lines.invariant.may;
      may = may_do _ _ _ c.in_ok-line.line _ _ (from_start _ _ _ c.lines.invariant.from c.requires.settled.tied c.lines.invariant.stays) c.lines.invariant.turning (sym c.in_ok-line.ensures.value);
    }

pub returns-in_err-next-clause-err : goal.returns-in_err-next-clause-err
returns-in_err-next-clause-err g c =
    always_err _ _ (broken _ _ _ _ _ _
    (c.lines.invariant.from ∙ ap (λ k. k.history.events) c.requires.settled.tied.kept)
    c.lines.invariant.stays c.lines.invariant.turning c.in_err-next.ensures.err)

pub lines-smaller : goal.lines-smaller
lines-smaller g c = steps_fall _ _ c.lines.invariant.turning.tied c.in_ok-next.ensures.line

pub lines-preserved : goal.lines-preserved
lines-preserved g c = record {
  turning = done_turning _ _ _ _ _ _ _ c.lines.invariant.turning c.in_ok-next.ensures.line (from_start _ _ _ c.lines.invariant.from c.requires.settled.tied c.lines.invariant.stays) c.in_ok-next.ensures.text;
  stays = stays_then _ _ _ c.lines.invariant.stays c.in_ok-next.ensures.line.has.stays;
  from = c.lines.invariant.from;
  may = λ bare. filled_now _ _ c.lines.invariant.turning.tied c.in_ok-next.ensures.line bare;
  left =
      subst (λ (o : Option (List ℕ)). HasLeft c.args.actor c.kept.result.now.history.events o c.do_line.new.self.tracker.kept) (sym c.unless_moved.ensures)
      (next_left _ _ c.lines.invariant.turning.tied c.in_ok-next.ensures.line c.args.actor c.kept.result.now.history.events c.lines.left.ready c.take.result (under_way c.actors_stay_plain.ensures _ _ _ _ c.lines.invariant.turning).turn
      (λ none. c.take.ensures.value ∙ ap (λ x. x.ready) (c.in_ok-line.ensures.kept (ap is_given c.in_ok-line.ensures.value ∙ none)))
      (since _ _ _ _ _ c.lines.invariant.from c.requires.settled.tied c.lines.invariant.stays c.lines.invariant.turning).started c.lines.invariant.left);
}
