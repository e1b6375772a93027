use Rattle.std.proofs.Common.{ap, arith, refl}
use Rattle.hub.proofs.Edits.{row_number}
use Rattle.report.specs.declared.line.Line.TheVariants as line
use Rattle.hub.proofs.Follows.{exchange_follows, failed_follows}
use Rattle.hub.proofs.Lively.{world_inside}
use Rattle.hub.proofs.Played.{exchange_played, failed_played}
use Rattle.hub.proofs.Scripts.{fits_now}
use Rattle.hub.proofs.Steps.{always_err}
use Rattle.hub.proofs.Ties.{broke_behind, broke_since, has_line, one_more, plan_now}
use Rattle.hub.proofs.engine.Engine.send.Goals as goal

pub exchange-requires-in-Ok-clause-operation : goal.exchange-requires-in-Ok-clause-operation
exchange-requires-in-Ok-clause-operation g c = fits_now c.args.self.now.script c.args.actor c.args.self.now.tracker.kept.jobs c.requires.turn.tied.lines.rules c.requires.turn.tied.lines.served

pub returns-in_err-exchange-in-Ok-clause-err : goal.returns-in_err-exchange-in-Ok-clause-err
returns-in_err-exchange-in-Ok-clause-err g c =
    always_err _ _ (broke_since _ _ _ _ c.requires.since.started
    (broke_behind _ _ _ _ _ _ (line.Exchange c.args.actor c.args.command c.in-Ok.response) c.requires.turn.tied
    c.push_within.ensures.lines refl refl c.in-Ok.ensures.tells c.in-Ok.ensures.tells_plan))

pub returns-in_ok-exchange-in-Ok-clause-line : goal.returns-in_ok-exchange-in-Ok-clause-line
returns-in_ok-exchange-in-Ok-clause-line g c =
    one_more _ _ (line.Exchange c.args.actor c.args.command c.in-Ok.response)
    (has_line _ _ _ _ _ (line.Exchange c.args.actor c.args.command c.in-Ok.response) c.requires.turn.tied
    (exchange_follows c.args.self.now.script c.args.self.now.tracker.kept c.args.actor c.requires.turn.turn c.args.command c.in-Ok.response c.requires.due)
    c.push_within.ensures.lines c.push_within.ensures.spare c.in_ok-exchange-in-Ok.ensures refl (row_number c.command.inside.p1 c.args.command.p1 (ap (λ x. x.p1) c.command.view_is) (omega arith))
    (exchange_played c.args.self.now.script c.args.self.now.tracker.kept c.args.actor c.args.command c.in-Ok.response _ _ _ _ (g.met.S.ScriptedSlot.tells_both c.args.self.now.slot) (plan_now _ c.requires.turn.tied) c.requires.turn.counts.counters.calls c.in-Ok.ensures.tells c.in-Ok.ensures.tells_plan c.in-Ok.ensures.counts c.in-Ok.ensures.planned c.in-Ok.ensures.ok))
    refl

pub returns-in-Err-clause-line : goal.returns-in-Err-clause-line
returns-in-Err-clause-line g c =
    one_more _ _ (line.Failed c.args.actor c.args.command c.next_acts.result)
    (has_line _ _ _ _ _ (line.Failed c.args.actor c.args.command c.next_acts.result) c.requires.turn.tied
    (failed_follows c.args.self.now.script c.args.self.now.tracker.kept c.args.actor c.requires.turn.turn c.args.command c.next_acts.result c.requires.due)
    c.push_within-in-Err.ensures.lines c.push_within-in-Err.ensures.spare c.fail.ensures refl refl
    (failed_played c.args.self.now.script c.args.self.now.tracker.kept c.args.actor c.args.command c.next_acts.result c.in-Err.field-0 _ _ _ _ (g.met.S.ScriptedSlot.tells_both c.args.self.now.slot) (plan_now _ c.requires.turn.tied) c.requires.turn.counts.counters.calls c.in-Err.ensures.tells c.in-Err.ensures.tells_plan c.in-Err.ensures.counts c.in-Err.ensures.planned (world_inside _ c.args.command c.requires.turn.tied c.requires.due) c.next_acts.ensures))
    refl
