use Rattle.std.proofs.Common.{arith}
use Rattle.report.proofs.Forms.{look_back}
use Rattle.report.proofs.form.keep_look.Goals as goal

pub returns-clause-back : goal.returns-clause-back
returns-clause-back c = look_back c.args.count _ c.args.shown.now (omega arith) (omega arith) c.keep_shown.ensures.back
