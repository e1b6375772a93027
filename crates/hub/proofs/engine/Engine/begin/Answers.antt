use Rattle.std.proofs.Common.{refl}
use Rattle.report.specs.declared.line.Line.TheVariants as line
use Rattle.hub.proofs.Follows.{begin_follows}
use Rattle.hub.proofs.Begins.{decided_new}
use Rattle.hub.proofs.Ties.{of_all, one_quiet}
use Rattle.hub.proofs.engine.Engine.begin.Goals as goal

pub returns-clause-line : goal.returns-clause-line
returns-clause-line g c =
    one_quiet _ _ _ (line.Begin c.args.actor c.args.op) c.requires.turn.tied
    (begin_follows c.args.self.now.script c.args.self.now.tracker.kept c.args.actor c.requires.turn.turn c.args.op c.requires.due)
    c.push_within.ensures.lines c.push_within.ensures.spare c.begin.ensures (decided_new _ _ _ _ _ c.requires.decision c.in-Some.is) refl (λ x. refl) (of_all _ (λ x. refl)) refl refl
