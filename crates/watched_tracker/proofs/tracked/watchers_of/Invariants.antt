use Rattle.std.proofs.Common.{◌≡◌, ◌++◌, map, drop}
use Rattle.std.specs.List.{filter_map}
use Rattle.watchers.specs.Watches.{nothing_noticed}
use Rattle.watched_tracker.specs.Asked.{mask_asked, watcher_asked, watchers_asked}
use Rattle.watched_tracker.proofs.tracked.watchers_of.Given as goal

-- the watches that are left are those of the actors to come, and with these the watchers are all
abbrev pub invariant-loop-operations : goal.invariant-loop-operations
invariant-loop-operations g l = (l.watches ≡ map nothing_noticed (filter_map mask_asked (drop l.operations-index l.operations-items))) × (l.watchers ++ map watcher_asked (drop l.operations-index l.operations-items) ≡ watchers_asked l.script)
