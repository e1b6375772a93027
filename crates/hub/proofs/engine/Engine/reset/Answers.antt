use Rattle.std.proofs.Common.{refl}
use Rattle.report.specs.declared.line.Line.TheVariants as line
use Rattle.hub.proofs.Follows.{reset_failed_follows, reset_follows}
use Rattle.hub.proofs.Played.{reset_failed_played, reset_played}
use Rattle.hub.proofs.Ties.{has_line, one_more, plan_now}
use Rattle.hub.proofs.engine.Engine.reset.Goals as goal

pub returns-in-Ok-clause-line : goal.returns-in-Ok-clause-line
returns-in-Ok-clause-line g c =
    one_more _ _ (line.Reset c.args.actor)
    (has_line _ _ _ _ _ (line.Reset c.args.actor) c.requires.turn.tied
    (reset_follows c.args.self.now.script c.args.self.now.tracker.kept c.args.actor c.requires.turn.turn c.requires.due)
    c.push_within.ensures.lines c.push_within.ensures.spare c.reset-in-Ok.ensures refl refl
    (reset_played c.args.self.now.script c.args.self.now.tracker.kept c.args.actor _ _ _ _ (g.met.S.ScriptedSlot.tells_both c.args.self.now.slot) (plan_now _ c.requires.turn.tied) c.requires.turn.counts.counters.calls c.in-Ok.ensures.tells c.in-Ok.ensures.tells_plan c.in-Ok.ensures.counts c.in-Ok.ensures.planned c.in-Ok.ensures.ok))
    refl

pub returns-in-Err-clause-line : goal.returns-in-Err-clause-line
returns-in-Err-clause-line g c =
    one_more _ _ (line.ResetFailed c.args.actor)
    (has_line _ _ _ _ _ (line.ResetFailed c.args.actor) c.requires.turn.tied
    (reset_failed_follows c.args.self.now.script c.args.self.now.tracker.kept c.args.actor c.requires.turn.turn c.requires.due)
    c.push_within-in-Err.ensures.lines c.push_within-in-Err.ensures.spare c.fail_reset.ensures refl refl
    (reset_failed_played c.args.self.now.script c.args.self.now.tracker.kept c.args.actor c.in-Err.field-0 _ _ _ _ (g.met.S.ScriptedSlot.tells_both c.args.self.now.slot) (plan_now _ c.requires.turn.tied) c.requires.turn.counts.counters.calls c.in-Err.ensures.tells c.in-Err.ensures.tells_plan c.in-Err.ensures.counts c.in-Err.ensures.planned))
    refl
