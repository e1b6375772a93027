use Rattle.hub.specs.Parts.{parts}
use Rattle.hub.proofs.Taken.{takes_turn_of, whole_seen}
use Rattle.hub.proofs.hub.Hub.turn.Goals as goal

pub returns-clause-moved : goal.returns-clause-moved
returns-clause-moved g c = λ awake. takes_turn_of c.turns_that_do_not_wait_do_something.ensures c.turns_that_do_not_wait_move.ensures c.args.self.now _ _ _ c.args.actor (whole_seen (parts g.S.Slot.world g.S.Slot.plan c.self.inside.engine) c.self.inside.whole c.args.self.now c.if-not-self.false c.self.view_is) (c.self.invariant c.if-not-self.false) c.prepare.ensures.same c.in_ok-take_turn.ensures.ok awake
