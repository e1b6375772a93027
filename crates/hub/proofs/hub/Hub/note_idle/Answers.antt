use Rattle.hub.proofs.Taken.{idle_settles_of}
use Rattle.hub.proofs.hub.Hub.note_idle.Goals as goal

pub invariant_of-self-2 : goal.invariant_of-self-2
invariant_of-self-2 g c = λ whole. idle_settles_of c.args.self.now _ _ _ c.args.actor _ c.self.view_is (c.self.invariant c.if-not-self.false) c.prepare_mark.ensures.same c.mark.ensures.line c.requires.pending c.requires.idle
