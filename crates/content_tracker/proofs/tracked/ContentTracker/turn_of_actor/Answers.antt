use Rattle.content_tracker.proofs.Lines.{behind_mark}
use Rattle.content_tracker.proofs.tracked.ContentTracker.turn_of_actor.Goals as goal

pub invariant_of-self : goal.invariant_of-self
invariant_of-self c = behind_mark c.args.script.now c.self.inside.tracker _ c.self.inside.contents c.self.invariant c.args.actor c.turn_of_actor.ensures
