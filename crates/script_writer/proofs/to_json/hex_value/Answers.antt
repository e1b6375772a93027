use Rattle.std.proofs.Common.{arith}
use Rattle.script_writer.proofs.to_json.hex_value.Goals as goal

-- the items of a slice of bytes are bytes
pub returns-clause-bytes : goal.returns-clause-bytes
returns-clause-bytes c = λ i. let fits = c.type_inv.bytes i in omega arith
