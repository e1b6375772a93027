use Rattle.content_tracker.proofs.Lines.{behind_refusal}
use Rattle.content_tracker.proofs.tracked.ContentTracker.refuse.Goals as goal

pub invariant_of-self : goal.invariant_of-self
invariant_of-self c = behind_refusal c.args.script.now c.self.inside.tracker _ c.self.inside.contents c.self.invariant c.args.family c.args.event c.refuse.ensures
