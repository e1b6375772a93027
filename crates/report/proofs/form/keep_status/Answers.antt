use Rattle.std.proofs.Common.{arith}
use Rattle.report.proofs.Forms.{status_back}
use Rattle.report.proofs.form.keep_status.Goals as goal

pub returns-clause-back : goal.returns-clause-back
returns-clause-back c = status_back c.args.sw c.args.event (omega arith) (omega arith)
