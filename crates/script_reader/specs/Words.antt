-- The words for parts and rules, as they are printed.
use Rattle.std.specs.Prelude.{ℕ, List, codes}
use Rattle.script_reader.specs.declared.error.Part.{Part}
use Rattle.script_reader.specs.declared.error.Part.TheVariants as part
use Rattle.script_reader.specs.declared.error.Why.{Why}
use Rattle.script_reader.specs.declared.error.Why.TheVariants as why

abbrev pub part_word : Part → List ℕ
part_word part.Json = codes "json"
part_word part.Version = codes "version"
part_word part.Cards = codes "cards"
part_word part.Changes = codes "changes"
part_word part.Actors = codes "actors"
part_word part.Schedule = codes "schedule"
part_word part.Faults = codes "faults"
part_word part.Budget = codes "budget"
part_word part.Other = codes "other"

abbrev pub why_word : Why → List ℕ
why_word why.Json = codes "json"
why_word why.Form = codes "form"
why_word why.Limit = codes "limit"
why_word why.Path = codes "path"
why_word why.Shape = codes "shape"
why_word why.Honest = codes "honest"
why_word why.Target = codes "target"
why_word why.Pairing = codes "pairing"
