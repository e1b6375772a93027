-- A worked script, whose work is known.
use Rattle.std.specs.Prelude.{[], ◌∷◌, None, false}
use Rattle.script_reader.specs.declared.types.Script.{Script}
use Rattle.script_reader.specs.declared.types.Operation.TheVariants as operation
use Rattle.script_generator.specs.Generated.{iccid_file}

-- a card with an ICCID alone, and one load of the records
abbrev pub one_load : Script
one_load = record {
  version = 1;
  cards = record { files = iccid_file ∷ []; aids = []; keys = []; channels = 3; get_response = false } ∷ [];
  actors = (operation.Insert 0 ∷ operation.Load 0 ∷ []) ∷ [];
  changes = [];
  schedule = [];
  faults = [];
  budget = None;
}
