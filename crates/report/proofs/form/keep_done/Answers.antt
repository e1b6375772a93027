use Rattle.std.proofs.Common.{arith}
use Rattle.report.proofs.Forms.{done_back}
use Rattle.report.proofs.form.keep_done.Goals as goal

pub returns-clause-back : goal.returns-clause-back
returns-clause-back c = done_back c.args.event c.args.publication c.args.left.now (omega arith) c.keep_place.ensures.fits
