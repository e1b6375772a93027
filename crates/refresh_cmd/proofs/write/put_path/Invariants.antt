use Rattle.std.proofs.Common.{◌≡◌, ◌+◌, ◌*◌, ◌++◌, take, flat_map}
use Rattle.arrayvec.specs.ArrayVec.{array_vec_len}
use Rattle.apdu.specs.Words.{two_bytes}
use Rattle.refresh_cmd.proofs.write.put_path.Given as goal

abbrev pub invariant-loop-id : goal.invariant-loop-id
invariant-loop-id l = record {
  items : l.out.items ≡ l.initial.out.items ++ flat_map two_bytes (take l.id-index l.id-items);
  len : array_vec_len l.out ≡ array_vec_len l.initial.out + 2 * l.id-index;
}
