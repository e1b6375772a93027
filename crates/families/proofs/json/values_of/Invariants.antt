use Rattle.std.proofs.Common.{◌≡◌, ◌++◌, map, drop}
use Rattle.serde_json.specs.View.{view}
use Rattle.families.proofs.json.values_of.Given as goal

-- the values so far, and those to come
abbrev pub invariant-loop-item : goal.invariant-loop-item
invariant-loop-item g l = map view l.values.items ++ map g.T.ToJson.written (drop l.item-index l.items) ≡ map g.T.ToJson.written l.items
