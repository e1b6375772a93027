use Rattle.watched_tracker.proofs.Mailboxes.{held_on, quiet_exchange}
use Rattle.watched_tracker.proofs.tracked.WatchedTracker.exchange.Goals as goal

pub invariant_of-self : goal.invariant_of-self
invariant_of-self g c = held_on _ c.self.inside.tracker c.exchange.new.self _ c.self.invariant (quiet_exchange c.args.script.now c.self.inside.tracker c.args.line.now c.requires.kind) c.in-Ok.ensures
