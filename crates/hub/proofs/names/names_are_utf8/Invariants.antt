use Rattle.std.proofs.Common.{◌≡◌, true, take}
use Rattle.std.specs.List.{list_all}
use Rattle.performed.specs.Names.{has_utf8_name}
use Rattle.hub.proofs.names.names_are_utf8.Given as goal

abbrev pub invariant-loop-operation : goal.invariant-loop-operation
invariant-loop-operation l = list_all has_utf8_name (take l.operation-index l.operations) ≡ true
