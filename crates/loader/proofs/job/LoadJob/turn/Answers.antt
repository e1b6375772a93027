use Rattle.std.proofs.Common.{◌≡◌, ◌∙◌, sym, ap, drop, subst}
use Rattle.link.specs.Exchanges.{added, selection_over}
use Rattle.link.specs.Selected.{KeepsTrack}
use Rattle.link.proofs.Tracking.{keeps-track}
use Rattle.loader.proofs.job.LoadJob.turn.Goals as goal

pub returns-clause-tracked : goal.returns-clause-tracked
returns-clause-tracked g c =
    let same : c.steps_from.result.now ≡ added c.args.trail.now c.read_missing-turned.new.trail = c.steps_from.ensures ∙ ap (λ n. drop n c.read_missing-turned.new.trail) c.len-from.ensures.value in
    let e : c.follow_steps.new.self ≡ selection_over (added c.args.trail.now c.read_missing-turned.new.trail) c.args.selection.now = c.follow_steps.ensures ∙ ap (λ steps. selection_over steps c.args.selection.now) same in
    subst (λ s. KeepsTrack (g.S.Slot.world c.args.slot.now) (g.S.Slot.world c.read_missing-turned.new.slot) c.args.selection.now s) (sym e)
    (keeps-track _ _ _ _ c.read_missing-turned.ensures.slot)
