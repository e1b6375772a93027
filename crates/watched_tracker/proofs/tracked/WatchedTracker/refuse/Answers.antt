use Rattle.watched_tracker.proofs.Mailboxes.{held_on, quiet_refused}
use Rattle.watched_tracker.proofs.tracked.WatchedTracker.refuse.Goals as goal

pub invariant_of-self : goal.invariant_of-self
invariant_of-self g c = held_on _ c.self.inside.tracker c.refuse.new.self _ c.self.invariant (quiet_refused c.args.script.now c.self.inside.tracker c.args.family c.args.event) c.refuse.ensures
