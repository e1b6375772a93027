use Rattle.std.proofs.Common.{◌≡◌, ◌++◌, true, map, take, drop}
use Rattle.std.specs.List.{list_all}
use Rattle.tracker.proofs.lists.change_all.Given as goal

-- the items so far, and what the rest will be, are all of them changed; the rest can be
abbrev pub invariant-loop-item : goal.invariant-loop-item
invariant-loop-item g l = (take l.item-index l.items ++ map (g.C.Change.after l.change) (drop l.item-index l.items) ≡ map (g.C.Change.after l.change) l.fn.items) × (list_all (g.C.Change.fits l.change) (drop l.item-index l.items) ≡ true)
