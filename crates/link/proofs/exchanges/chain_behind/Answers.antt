use Rattle.link.proofs.Steps.{each-continued}
use Rattle.link.proofs.exchanges.chain_behind.Goals as goal

pub returns-clause-due : goal.returns-clause-due
returns-clause-due c = each-continued c.after.result
