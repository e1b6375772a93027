use Rattle.std.proofs.Common.{◌≡◌, ◌++◌, map, take, drop}
use Rattle.epoch_cache.proofs.lists.change_items.Given as goal

-- the items so far, and what the rest will be, are all of them changed
abbrev pub invariant-loop-item : goal.invariant-loop-item
invariant-loop-item g l = take l.item-index l.items ++ map (g.C.Change.after l.change) (drop l.item-index l.items) ≡ map (g.C.Change.after l.change) l.fn.items
