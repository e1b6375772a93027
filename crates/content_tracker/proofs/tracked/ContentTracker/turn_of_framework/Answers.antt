use Rattle.content_tracker.proofs.Lines.{behind_mark}
use Rattle.content_tracker.proofs.tracked.ContentTracker.turn_of_framework.Goals as goal

pub invariant_of-self : goal.invariant_of-self
invariant_of-self c = behind_mark c.args.script.now c.self.inside.tracker _ c.self.inside.contents c.self.invariant 0 c.turn_of_framework.ensures
