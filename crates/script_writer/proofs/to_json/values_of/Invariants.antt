use Rattle.std.proofs.Common.{◌≡◌, ◌++◌, map, drop, take, All}
use Rattle.serde_json.specs.View.{view}
use Rattle.script_writer.proofs.to_json.values_of.Given as goal

-- the values so far and those to come, and the items so far are read back
abbrev pub invariant-loop-item : goal.invariant-loop-item
invariant-loop-item g l = record {
  values : map view l.values.items ++ map g.T.ToJson.written (drop l.item-index l.items) ≡ map g.T.ToJson.written l.items;
  back : All g.T.ToJson.is_back (take l.item-index l.items);
}
