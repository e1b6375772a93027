use Rattle.watched_tracker.proofs.Mailboxes.{held_on, quiet_turn}
use Rattle.watched_tracker.proofs.tracked.WatchedTracker.turn_of_framework.Goals as goal

pub invariant_of-self : goal.invariant_of-self
invariant_of-self g c = held_on _ c.self.inside.tracker c.turn_of_framework.new.self _ c.self.invariant (quiet_turn c.args.script.now c.self.inside.tracker 0) c.turn_of_framework.ensures
