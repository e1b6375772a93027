use Rattle.watched_tracker.proofs.Mailboxes.{held_on, quiet_begin}
use Rattle.watched_tracker.proofs.tracked.WatchedTracker.begin.Goals as goal

pub invariant_of-self : goal.invariant_of-self
invariant_of-self g c = held_on _ c.self.inside.tracker c.begin.new.self _ c.self.invariant (quiet_begin c.args.script.now c.self.inside.tracker c.args.actor c.args.op) c.begin.ensures
