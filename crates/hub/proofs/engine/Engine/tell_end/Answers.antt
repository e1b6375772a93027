use Rattle.std.proofs.Common.{refl, ◌+◌}
use Rattle.report.specs.declared.line.Line.TheVariants as line
use Rattle.hub.proofs.Follows.{end_follows}
use Rattle.hub.proofs.Ties.{of_all, one_quiet}
use Rattle.hub.proofs.engine.Engine.tell_end.Goals as goal

pub returns-clause-line : goal.returns-clause-line
returns-clause-line g c =
    one_quiet _ _ _ (line.EpochEnd (c.kept.result.now.publications + 1) c.args.epoch c.args.event) c.requires.turn.tied
    (end_follows c.args.self.now.script c.args.self.now.tracker.kept c.kept.result.now c.args.epoch c.args.event c.kept.ensures c.requires.due)
    c.push_within.ensures.lines c.push_within.ensures.spare c.end_epoch.ensures refl refl (λ x. refl) (of_all _ (λ x. refl)) refl refl
