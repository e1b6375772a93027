use Rattle.std.proofs.Common.{◌≡◌, map, drop}
use Rattle.serde_json.specs.View.{view}
use Rattle.script_reader.specs.Reading.{all_of}
use Rattle.script_reader.proofs.Lists.{onto}
use Rattle.script_reader.proofs.fields.items_of.Given as goal

-- what was read and what is left are the whole list
abbrev pub invariant-loop-value : goal.invariant-loop-value
invariant-loop-value g l = onto l.out (all_of g.T.FromJson.form (map view (drop l.value-index l.values))) ≡ all_of g.T.FromJson.form (map view l.values)
