use Rattle.std.proofs.Common.{◌≡◌, ◌≤◌, true, length}
use Rattle.std.specs.List.{list_all}
use Rattle.refresh_cmd.specs.Proactive.{full_paths, is_good_path}
use Rattle.refresh_cmd.specs.Lists.{cut_bytes, onto}
use Rattle.refresh_cmd.proofs.list.read_paths.Given as goal

abbrev pub invariant-paths : goal.invariant-paths
invariant-paths l = record {
  cut : full_paths l.bytes ≡ onto l.list.items (cut_bytes l.rest);
  good : list_all is_good_path l.list.items ≡ true;
  few : length l.list.items ≤ 64;
}

abbrev pub decreases-paths : goal.decreases-paths
decreases-paths l = length l.rest
