-- What the slot does not refuse happens.
use Rattle.card_model.specs.Slot.{refusal_of}
use Rattle.trace_check.proofs.NoCard.{happens_by}
use Rattle.trace_check.proofs.exchanging.happen.Goals as goal

pub returns-clause-world : goal.returns-clause-world
returns-clause-world c =
    happens_by (refusal_of c.args.slot.now.world c.args.event.now) c.args.slot.now.world c.world.new.self.world c.args.event.now c.world.result c.world.ensures.refused c.requires c.world.ensures.ok
