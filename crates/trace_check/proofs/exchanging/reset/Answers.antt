-- A reset fails only where there is no card.
use Rattle.trace_check.proofs.NoCard.{reset_anyway}
use Rattle.trace_check.proofs.exchanging.reset.Goals as goal

pub returns-clause-world : goal.returns-clause-world
returns-clause-world c =
    reset_anyway c.args.slot.now.plan c.args.slot.now.world c.reset.new.self.world c.reset.result c.reset.ensures.planned c.requires c.reset.ensures.ok
