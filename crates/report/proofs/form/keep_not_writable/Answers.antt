use Rattle.std.proofs.Common.{arith, rules}
use Rattle.report.proofs.Forms.{not_writable_back}
use Rattle.report.proofs.form.keep_not_writable.Goals as goal

pub returns-clause-back : goal.returns-clause-back
returns-clause-back c = not_writable_back c.args.found (omega arith) (search rules)
