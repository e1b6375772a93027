use Rattle.std.proofs.Common.{arith}
use Rattle.report.proofs.Forms.{bad_file_back}
use Rattle.report.proofs.form.keep_bad_file.Goals as goal

pub returns-clause-back : goal.returns-clause-back
returns-clause-back c = bad_file_back c.args.width (omega arith)
