use Rattle.std.proofs.Common.{subst, sym}
use Rattle.content_tracker.specs.declared.contents.Contents.{Contents}
use Rattle.content_tracker.specs.Contents.{AreOf}
use Rattle.content_tracker.proofs.Lines.{behind_world}
use Rattle.content_tracker.proofs.tracked.ContentTracker.happen.Goals as goal

pub invariant_of-self : goal.invariant_of-self
invariant_of-self c =
    subst (λ (x : Contents). AreOf c.happen.new.self.files x) (sym c.follow_event.ensures)
    (behind_world c.args.script.now c.self.inside.tracker _ c.self.inside.contents c.self.invariant c.args.actor c.args.event c.happen.ensures)
