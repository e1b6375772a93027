use Rattle.std.proofs.Common.{rules}
use Rattle.tlv.specs.Objects.{ber_parts}
use Rattle.fcp.proofs.Described.{template-described}
use Rattle.fcp.proofs.reader.read_fcp.Goals as goal

pub returns-in-Ok-Some-eq98-default-clause-described : goal.returns-in-Ok-Some-eq98-default-clause-described
returns-in-Ok-Some-eq98-default-clause-described c = rw c.read_template.ensures (template-described (ber_parts c.in-Ok-Some-eq98-default.template.now))
