use Rattle.std.proofs.Common.{◌≡◌, ◌≤◌, ◌*◌, true, take, flat_map}
use Rattle.std.specs.List.{list_all}
use Rattle.arrayvec.specs.ArrayVec.{array_vec_len}
use Rattle.refresh_cmd.specs.Proactive.{path_bytes, is_good_path}
use Rattle.refresh_cmd.proofs.write.paths_bytes.Given as goal

abbrev pub invariant-loop-path : goal.invariant-loop-path
invariant-loop-path l = record {
  items : l.out.items ≡ flat_map path_bytes (take l.path-index l.paths);
  len : array_vec_len l.out ≤ 8 * l.path-index;
  good : list_all is_good_path (take l.path-index l.paths) ≡ true;
}
