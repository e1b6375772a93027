use Rattle.content_tracker.proofs.Lines.{behind_begin}
use Rattle.content_tracker.proofs.tracked.ContentTracker.begin.Goals as goal

pub invariant_of-self : goal.invariant_of-self
invariant_of-self c = behind_begin c.args.script.now c.self.inside.tracker _ c.self.inside.contents c.self.invariant c.args.actor c.args.op c.begin.ensures
