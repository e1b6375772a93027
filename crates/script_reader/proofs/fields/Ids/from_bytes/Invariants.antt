use Rattle.std.proofs.Common.{◌≡◌, length}
use Rattle.script_reader.specs.Fields.{ids_of}
use Rattle.script_reader.proofs.Lists.{onto_some}
use Rattle.script_reader.proofs.fields.Ids.from_bytes.Given as goal

-- the ids that were read and those of what is left are the whole list
abbrev pub invariant-ids : goal.invariant-ids
invariant-ids l = onto_some l.items (ids_of l.rest) ≡ ids_of l.bytes

abbrev pub decreases-ids : goal.decreases-ids
decreases-ids l = length l.rest
