use Rattle.watched_tracker.proofs.Mailboxes.{held_on, quiet_fail_reset}
use Rattle.watched_tracker.proofs.tracked.WatchedTracker.fail_reset.Goals as goal

pub invariant_of-self : goal.invariant_of-self
invariant_of-self g c = held_on _ c.self.inside.tracker c.fail_reset.new.self _ c.self.invariant (quiet_fail_reset c.args.script.now c.self.inside.tracker c.args.actor) c.fail_reset.ensures
