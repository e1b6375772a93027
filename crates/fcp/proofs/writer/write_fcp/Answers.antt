-- What was written is the definition's, which is read back.
use Rattle.std.proofs.Common.{◌≡◌, ap, ◌∙◌, rules}
use Rattle.fcp.specs.Control.{write_fcp, read_fcp}
use Rattle.fcp.proofs.ReadBack.{read_fcp-write_fcp}
use Rattle.fcp.proofs.writer.write_fcp.Goals as goal

pub returns-clause-read_back : goal.returns-clause-read_back
unfolding write_fcp
returns-clause-read_back c = λ describes.
    let written : c.put_object.new.out.items ≡ write_fcp c.args.fcp.now c.args.aid.now = search rules in
    ap read_fcp written ∙ read_fcp-write_fcp c.args.fcp.now c.args.aid.now c.template-template.ensures.two_bytes describes
