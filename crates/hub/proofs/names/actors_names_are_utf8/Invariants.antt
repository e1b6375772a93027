use Rattle.std.proofs.Common.{◌≡◌, true, take}
use Rattle.std.specs.List.{list_all}
use Rattle.performed.specs.Names.{has_utf8_name}
use Rattle.hub.proofs.names.actors_names_are_utf8.Given as goal

abbrev pub invariant-loop-operations : goal.invariant-loop-operations
invariant-loop-operations l = list_all (list_all has_utf8_name) (take l.operations-index l.actors) ≡ true
