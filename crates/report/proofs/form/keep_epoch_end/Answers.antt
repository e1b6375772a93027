use Rattle.std.proofs.Common.{arith}
use Rattle.report.proofs.Forms.{epoch_end_back}
use Rattle.report.proofs.form.keep_epoch_end.Goals as goal

pub returns-clause-back : goal.returns-clause-back
returns-clause-back c = epoch_end_back c.args.number c.args.epoch c.args.event (omega arith) (omega arith) (omega arith)
