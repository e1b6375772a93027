use Rattle.std.proofs.Common.{◌≡◌, ◌++◌, drop}
use Rattle.families.proofs.copies.copies_of.Given as goal

-- the copies so far, and the items to come, are the list
abbrev pub invariant-loop-item : goal.invariant-loop-item
invariant-loop-item g l = l.copies ++ drop l.item-index l.items ≡ l.items
