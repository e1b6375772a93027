use Rattle.std.proofs.Common.{ap, ◌∙◌, sym, subst}
use Rattle.apdu.specs.Values.{ResponseValue}
use Rattle.apdu.specs.Apdu.{is_success}
use Rattle.link.specs.Selected.{KeepsTrack}
use Rattle.link.proofs.Steps.{file-sent, plays-added, over-added}
use Rattle.link.proofs.Tracking.{keeps-track}
use Rattle.link.proofs.file.file_command.Goals as goal

pub returns-clause-sends : goal.returns-clause-sends
returns-clause-sends g c = file-sent _ _ _ _ _ _ _ _ _ (sym c.if-is_at.ensures) c.select_only.ensures c.in_ok-response.ensures.trail.front c.answered-2.ensures.trail.front c.in_ok-response.ensures.sends (ap (λ (r : ResponseValue). is_success r.sw) (sym c.response.view_is) ∙ sym c.if-not-is_success.ensures) c.answered-2.ensures.sends

pub returns-clause-slot : goal.returns-clause-slot
returns-clause-slot g c = plays-added _ _ _ c.transmit_followed.ensures.trail.front c.answered-2.ensures.trail.front _ _ _ c.transmit_followed.ensures.slot c.answered-2.ensures.slot

pub returns-clause-selection : goal.returns-clause-selection
returns-clause-selection g c = over-added _ _ _ c.transmit_followed.ensures.trail.front c.answered-2.ensures.trail.front _ _ _ c.transmit_followed.ensures.selection c.answered-2.ensures.selection

pub returns-clause-tracked : goal.returns-clause-tracked
returns-clause-tracked g c =
    subst (λ s. KeepsTrack (g.S.Slot.world c.args.slot.now) (g.S.Slot.world c.answered-2.new.slot) c.args.selection.now s) (sym (returns-clause-selection g c))
    (keeps-track _ _ _ _ (returns-clause-slot g c))
