use Rattle.content_tracker.proofs.Lines.{answered_either}
use Rattle.content_tracker.proofs.tracked.ContentTracker.answer.Goals as goal

pub invariant_of-self : goal.invariant_of-self
invariant_of-self c = answered_either c.args.script.now c.self.inside.tracker _ c.self.inside.contents c.self.invariant c.answer.result c.args.line.now c.requires.kind c.answer.ensures.ok c.answer.ensures.err
