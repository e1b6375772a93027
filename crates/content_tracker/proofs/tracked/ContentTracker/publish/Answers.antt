use Rattle.content_tracker.proofs.Lines.{published_line}
use Rattle.content_tracker.proofs.tracked.ContentTracker.publish.Goals as goal

pub invariant_of-self : goal.invariant_of-self
invariant_of-self c = published_line c.args.script.now c.self.inside.tracker _ c.self.inside.contents c.self.invariant c.args.line.now c.requires.kind c.publish.ensures
