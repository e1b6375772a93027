use Rattle.watched_tracker.proofs.Mailboxes.{held_on, quiet_reset}
use Rattle.watched_tracker.proofs.tracked.WatchedTracker.reset.Goals as goal

pub invariant_of-self : goal.invariant_of-self
invariant_of-self g c = held_on _ c.self.inside.tracker c.reset.new.self _ c.self.invariant (quiet_reset c.args.script.now c.self.inside.tracker c.args.actor) c.reset.ensures
