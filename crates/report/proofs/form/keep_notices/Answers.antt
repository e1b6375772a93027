use Rattle.std.proofs.Common.{arith}
use Rattle.report.proofs.Forms.{notices_back}
use Rattle.report.proofs.form.keep_notices.Goals as goal

pub returns-clause-back : goal.returns-clause-back
returns-clause-back c = notices_back c.args.dropped _ c.args.numbers.now (omega arith) (omega arith) c.keep_numbers.ensures.back
