use Rattle.std.proofs.Common.{◌≡◌, ◌*◌, ◌++◌, length, drop}
use Rattle.link.specs.Commands.{path_body}
use Rattle.link.proofs.select.path_body.Given as goal

-- the body so far, and that of the ids that are left, is the whole
abbrev pub invariant-loop-id : goal.invariant-loop-id
invariant-loop-id l = (l.body.items ++ path_body (drop l.id-index l.path) ≡ path_body l.path) × (length l.body.items ≡ 2 * l.id-index)
