use Rattle.content_tracker.proofs.Lines.{behind_end}
use Rattle.content_tracker.proofs.tracked.ContentTracker.end_epoch.Goals as goal

pub invariant_of-self : goal.invariant_of-self
invariant_of-self c = behind_end c.args.script.now c.self.inside.tracker _ c.self.inside.contents c.self.invariant c.args.number c.args.epoch c.args.event c.end_epoch.ensures
