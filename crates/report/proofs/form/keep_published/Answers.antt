use Rattle.std.proofs.Common.{arith}
use Rattle.report.proofs.Forms.{published_back}
use Rattle.report.proofs.form.keep_published.Goals as goal

pub returns-clause-back : goal.returns-clause-back
returns-clause-back c = published_back c.args.number c.args.family c.args.epoch c.args.point c.args.content.now (omega arith) (omega arith) (omega arith) c.keep_text.ensures.utf8
