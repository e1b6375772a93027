use Rattle.card_console.specs.Top.{read_fault_line}
use Rattle.card_console.proofs.top.write_ending.Goals as goal

pub returns-in-ReadFault-clause-ends : goal.returns-in-ReadFault-clause-ends
unfolding read_fault_line
returns-in-ReadFault-clause-ends g c = rw c.in-ReadFault.is c.end_with-in-ReadFault.ensures.writes
