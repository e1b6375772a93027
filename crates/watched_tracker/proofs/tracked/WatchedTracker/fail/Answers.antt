use Rattle.watched_tracker.proofs.Mailboxes.{held_on, quiet_failed}
use Rattle.watched_tracker.proofs.tracked.WatchedTracker.fail.Goals as goal

pub invariant_of-self : goal.invariant_of-self
invariant_of-self g c = held_on _ c.self.inside.tracker c.fail.new.self _ c.self.invariant (quiet_failed c.args.script.now c.self.inside.tracker c.args.line.now c.requires.kind) c.fail.ensures
