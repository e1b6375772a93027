use Rattle.std.proofs.Common.{◌≡◌, ◌++◌, true, length}
use Rattle.std.specs.List.{list_all}
use Rattle.fcp.specs.Content.{linear, has_width}
use Rattle.fcp.proofs.rows.Rows.from_rows.Given as goal

abbrev pub invariant-loop-rest : goal.invariant-loop-rest
invariant-loop-rest l = record {
  out : l.out ≡ linear l.width l.out.rows;
  rows : l.out.rows ++ l.rest ≡ l.rows;
  widths : list_all (has_width l.width) l.rest ≡ true;
}

abbrev pub decreases-loop-rest : goal.decreases-loop-rest
decreases-loop-rest l = length l.rest
