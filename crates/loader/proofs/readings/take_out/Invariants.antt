use Rattle.std.proofs.Common.{◌≡◌, ◌++◌, take, drop}
use Rattle.loader.specs.Reading.{reading_of, without_path}
use Rattle.loader.proofs.readings.take_out.Given as goal

-- none so far is of the path
abbrev pub invariant-loop-i : goal.invariant-loop-i
invariant-loop-i l = record {
  same : l.g-items ≡ l.fn.readings.items;
  found : reading_of l.path l.g-items ≡ reading_of l.path (drop l.i l.g-items);
  rest : without_path l.path l.g-items ≡ take l.i l.g-items ++ without_path l.path (drop l.i l.g-items);
}
