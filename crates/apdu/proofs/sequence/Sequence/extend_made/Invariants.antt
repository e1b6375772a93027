use Rattle.std.proofs.Common.{◌≡◌, ◌++◌, true, map, length}
use Rattle.std.specs.List.{list_all}
use Rattle.apdu.proofs.sequence.Sequence.extend_made.Given as goal

abbrev pub invariant-loop-rest : goal.invariant-loop-rest
invariant-loop-rest g l = record {
  can_make : list_all g.S.Make.can_make l.rest ≡ true;
  made : l.self ++ map g.S.Make.made l.rest ≡ l.fn.self ++ map g.S.Make.made l.fn.from;
}

abbrev pub decreases-loop-rest : goal.decreases-loop-rest
decreases-loop-rest g l = length l.rest
