use Rattle.watched_tracker.proofs.Mailboxes.{held_on, quiet_world}
use Rattle.watched_tracker.proofs.tracked.WatchedTracker.happen.Goals as goal

pub invariant_of-self : goal.invariant_of-self
invariant_of-self g c = held_on _ c.self.inside.tracker c.happen.new.self _ c.self.invariant (quiet_world c.args.script.now c.self.inside.tracker c.args.actor c.args.event) c.happen.ensures
