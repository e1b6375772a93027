use Rattle.std.proofs.Common.{◌≡◌, ◌*◌, ◌++◌, length, flat_map, drop}
use Rattle.apdu.specs.Words.{two_bytes}
use Rattle.script_writer.proofs.to_json.path_bytes.Given as goal

-- the bytes so far and those to come, and there is room for them
abbrev pub invariant-loop-id : goal.invariant-loop-id
invariant-loop-id l = record {
  whole : l.bytes.items ++ flat_map two_bytes (drop l.id-index l.ids) ≡ flat_map two_bytes l.ids;
  room : length l.bytes.items ≡ 2 * l.id-index;
}
