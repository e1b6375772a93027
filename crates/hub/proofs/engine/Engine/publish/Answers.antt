use Rattle.std.proofs.Common.{refl, sym, ap, ◌∙◌, ◌+◌}
use Rattle.rules.specs.Due.{kept_text}
use Rattle.report.specs.declared.line.Line.TheVariants as line
use Rattle.hub.proofs.Follows.{published_follows}
use Rattle.hub.proofs.Ties.{due_kept, of_all, one_more_kept, one_quiet, tied_kept}
use Rattle.hub.proofs.engine.Engine.publish.Goals as goal

pub returns-clause-line : goal.returns-clause-line
returns-clause-line g c =
    let same = c.in_ok-content.ensures.same in
    one_more_kept _ _ _ same
    (one_quiet _ _ _ (line.Published (c.kept-kept.result.now.publications + 1) c.args.family c.kept-kept.result.now.history.epoch c.kept-kept.result.now.history.events c.in_ok-content.content)
    (tied_kept _ _ same c.requires.turn.tied)
    (published_follows c.text_for.new.self.script c.text_for.new.self.tracker.kept c.kept-kept.result.now c.args.family c.in_ok-content.content c.kept-kept.ensures (due_kept _ _ _ same c.requires.due) (c.in_ok-content.ensures.text ∙ ap (kept_text c.args.family) (sym same.kept)))
    c.push_within.ensures.lines c.push_within.ensures.spare c.publish.ensures refl refl (λ x. refl) (of_all _ (λ x. refl)) refl refl)
