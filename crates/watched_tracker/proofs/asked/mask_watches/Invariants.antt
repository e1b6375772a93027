use Rattle.std.proofs.Common.{◌≡◌, ◌++◌, map, drop}
use Rattle.std.specs.List.{filter_map}
use Rattle.watchers.specs.Watches.{nothing_noticed}
use Rattle.watched_tracker.specs.Asked.{mask_asked, watches_asked}
use Rattle.watched_tracker.proofs.asked.mask_watches.Given as goal

-- the watches so far, and those that are still asked for
abbrev pub invariant-loop-operations : goal.invariant-loop-operations
invariant-loop-operations l = l.watches ++ map nothing_noticed (filter_map mask_asked (drop l.operations-index l.operations-items)) ≡ watches_asked l.script
