use Rattle.std.proofs.Common.{◌≡◌, drop}
use Rattle.watched_tracker.specs.Asked.{mask_asked}
use Rattle.watched_tracker.proofs.asked.mask_asked.Given as goal

-- none of the operations before asks for a watch
abbrev pub invariant-loop-operation : goal.invariant-loop-operation
invariant-loop-operation l = mask_asked (drop l.operation-index l.operations) ≡ mask_asked l.fn.operations
