-- The script that bytes are, or the first rule that they break.
use Rattle.std.specs.Prelude.{ℕ, if◌then◌else◌, List, length, Option, Some, None, is_some, Result, Ok, Err}
use Rattle.std.specs.Str.{is_utf8}
use Rattle.serde_json.specs.Data.{Data}
use Rattle.serde_json.specs.Find.{as_object}
use Rattle.serde_json.specs.Read.{read}
use Rattle.apdu.specs.Words.{◌>>=◌}
use Rattle.script_reader.specs.declared.error.Part.TheVariants as part
use Rattle.script_reader.specs.declared.error.Why.TheVariants as why
use Rattle.script_reader.specs.declared.types.Script.{Script}
use Rattle.script_reader.specs.Reading.{Refusal, refusal}
use Rattle.script_reader.specs.Parts.{version_part, cards_part, changes_part, actors_part, schedule_part, faults_part, budget_part, other_part}

-- the parts of an object, in the order in which they are tested
unfoldable pub script_of_parts : Data → Result Script Refusal
script_of_parts d = do
  version ← version_part d
  cards ← cards_part d
  changes ← changes_part d
  actors ← actors_part (length cards) (length changes) d
  schedule ← schedule_part (length actors) d
  faults ← faults_part d
  budget ← budget_part d
  others ← other_part d
  Ok (record { version = version; cards = cards; actors = actors; changes = changes; schedule = schedule; faults = faults; budget = budget })

abbrev pub no_json : Refusal
no_json = refusal part.Json 0 why.Json

unfoldable pub script_of_data : Data → Result Script Refusal
script_of_data d = if is_some (as_object d) then script_of_parts d else Err no_json

abbrev pub script_of_value : Option Data → Result Script Refusal
script_of_value None = Err no_json
script_of_value (Some d) = script_of_data d

-- the bytes are UTF-8, and JSON of an object that keeps every rule
abbrev pub script_of_bytes : List ℕ → Result Script Refusal
script_of_bytes bytes = if is_utf8 bytes then script_of_value (read bytes) else Err no_json
