use Rattle.std.proofs.Common.{sym, subst}
use Rattle.uicc_replay.specs.declared.top.Ending.{Ending}
use Rattle.uicc_replay.specs.Top.{Ends, read_fault_line}
use Rattle.uicc_replay.proofs.top.write_ending.Goals as goal

pub returns-in-ReadFault-clause-ends : goal.returns-in-ReadFault-clause-ends
unfolding read_fault_line
returns-in-ReadFault-clause-ends g c =
    subst (λ (e : Ending). Ends e c.args.streams.now.sink c.write_piece-in-ReadFault.new.streams.sink c.write_piece-in-ReadFault.result) (sym c.in-ReadFault.is) c.write_piece-in-ReadFault.ensures.writes
