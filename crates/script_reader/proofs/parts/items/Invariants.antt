use Rattle.std.proofs.Common.{◌≡◌, ◌≤◌, [], length, map, drop}
use Rattle.serde_json.specs.View.{view}
use Rattle.script_reader.specs.Parts.{items_from}
use Rattle.script_reader.proofs.parts.items.Given as goal

-- what was read, with what is read of the rest behind it, is the whole part
abbrev pub invariant-loop-value : goal.invariant-loop-value
invariant-loop-value g l = record {
  read : items_from (g.T.Item.reading l.earlier) l.part l.out (map view (drop l.value-index l.values)) ≡ items_from (g.T.Item.reading l.earlier) l.part [] (map view l.values);
  few : length l.out ≤ g.T.Item.room;
}
