use Rattle.std.proofs.Common.{refl}
use Rattle.report.specs.declared.line.Line.TheVariants as line
use Rattle.hub.proofs.Follows.{event_follows}
use Rattle.hub.proofs.Played.{event_played}
use Rattle.hub.proofs.Scripts.{slot_holds_nothing}
use Rattle.hub.proofs.Ties.{has_line, one_more}
use Rattle.hub.proofs.Tries.{refusal_told, tries_begun}
use Rattle.hub.proofs.engine.Engine.try_event.Goals as goal

pub answer-requires-clause-begun : goal.answer-requires-clause-begun
answer-requires-clause-begun g c = tries_begun _ c.args.actor c.args.event c.requires.turn.tied c.requires.turn.turn c.requires.due

pub answer-requires-clause-told : goal.answer-requires-clause-told
answer-requires-clause-told g c = refusal_told _ c.args.event c.in-Err.refusal _ _ c.requires.turn.tied c.requires.due c.in-Err.ensures.err c.in-Err.ensures.refused c.refused.ensures.value

pub answer-requires-clause-moved : goal.answer-requires-clause-moved
answer-requires-clause-moved g c = slot_holds_nothing _ _ c.refused.ensures.slot

pub returns-in-Ok-clause-line : goal.returns-in-Ok-clause-line
returns-in-Ok-clause-line g c =
    one_more _ _ (line.World c.args.actor c.args.event)
    (has_line _ _ _ _ _ (line.World c.args.actor c.args.event) c.requires.turn.tied
    (event_follows c.args.self.now.script c.args.self.now.tracker.kept c.args.actor c.requires.turn.turn c.args.event c.requires.due)
    c.push_within.ensures.lines c.push_within.ensures.spare c.happen.ensures refl refl
    (event_played c.args.self.now.script c.args.self.now.tracker.kept c.args.actor c.args.event _ _ _ _ c.in-Ok.ensures.tells c.in-Ok.ensures.plan c.in-Ok.ensures.ok c.in-Ok.ensures.refused))
    refl
