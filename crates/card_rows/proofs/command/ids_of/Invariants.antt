use Rattle.std.proofs.Common.{◌≡◌, ◌+◌, ◌*◌, ◌≤◌, ◌++◌, length}
use Rattle.card_model.specs.Select.{ids_of}
use Rattle.card_rows.proofs.command.ids_of.Given as goal

abbrev pub invariant-ids : goal.invariant-ids
invariant-ids l = record { read : ids_of l.bytes ≡ l.ids.items ++ ids_of l.rest; room : 2 * length l.ids.items + length l.rest ≤ length l.bytes }

abbrev pub decreases-ids : goal.decreases-ids
decreases-ids l = length l.rest
