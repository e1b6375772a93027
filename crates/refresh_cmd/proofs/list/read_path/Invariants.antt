use Rattle.std.proofs.Common.{◌≡◌, ◌<◌, List, ℕ, length}
use Rattle.refresh_cmd.specs.Lists.{cut_bytes, onto, within}
use Rattle.refresh_cmd.proofs.list.read_path.Given as goal

abbrev pub invariant-ids : goal.invariant-ids
invariant-ids l = record {
  cut : (paths : List (List ℕ)) → onto paths (cut_bytes l.bytes) ≡ within paths l.ids.items (cut_bytes l.rest);
  shorter : length l.rest < length l.bytes;
}

abbrev pub decreases-ids : goal.decreases-ids
decreases-ids l = length l.rest
