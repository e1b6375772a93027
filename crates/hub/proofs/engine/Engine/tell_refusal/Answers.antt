use Rattle.std.proofs.Common.{refl}
use Rattle.report.specs.declared.line.Line.TheVariants as line
use Rattle.hub.proofs.Follows.{refusal_follows}
use Rattle.hub.proofs.Refusals.{refused_turn}
use Rattle.hub.proofs.Ties.{of_all, one_quiet}
use Rattle.hub.proofs.engine.Engine.tell_refusal.Goals as goal

pub returns-clause-line : goal.returns-clause-line
returns-clause-line g c =
    one_quiet _ _ _ (line.Refused c.args.family c.args.event) c.requires.turn.tied
    (refusal_follows c.args.self.now.script c.args.self.now.tracker.kept c.args.family c.args.event (refused_turn _ c.args.family c.args.event c.requires.turn.tied c.requires.due) c.requires.due)
    c.push_within.ensures.lines c.push_within.ensures.spare c.refuse.ensures refl refl (λ x. refl) (of_all _ (λ x. refl)) refl refl
