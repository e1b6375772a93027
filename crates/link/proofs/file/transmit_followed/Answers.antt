use Rattle.std.proofs.Common.{arith, ◌≡◌, sym, subst}
use Rattle.std.proofs.lemmas.Grind.{common_steps}
use Rattle.link.specs.Exchanges.{added, selection_over}
use Rattle.link.specs.Selected.{KeepsTrack}
use Rattle.link.proofs.Tracking.{keeps-track}
use Rattle.link.proofs.file.transmit_followed.Goals as goal

pub returns-clause-tracked : goal.returns-clause-tracked
returns-clause-tracked g c =
    let e : c.follow_steps.new.self ≡ selection_over (added c.args.trail.now c.transmit-answer.new.trail) c.args.selection.now = grind (arith, common_steps) in
    subst (λ s. KeepsTrack (g.S.Slot.world c.args.slot.now) (g.S.Slot.world c.transmit-answer.new.slot) c.args.selection.now s) (sym e)
    (keeps-track _ _ _ _ c.transmit-answer.ensures.slot)
