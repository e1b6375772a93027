use Rattle.std.proofs.Common.{◌≡◌, IfOk, subst}
use Rattle.sim_codecs.specs.Digits.{imsi_of}
use Rattle.families.specs.Contents.{field_in}
use Rattle.families.proofs.decode.imsi_field.Goals as goal

-- the reader's answer is what is read of the file's bytes
pub returns-in-Some : goal.returns-in-Some
returns-in-Some c = subst (λ b. IfOk c.field.result (λ field. field ≡ field_in imsi_of b)) c.in-Some.ensures (c.field.ensures (imsi_of c.in-Some.bytes.now) c.imsi.ensures)
