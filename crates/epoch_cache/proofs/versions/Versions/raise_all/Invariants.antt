use Rattle.std.proofs.Common.{◌≡◌}
use Rattle.epoch_cache.proofs.Placed.{bumped_to}
use Rattle.epoch_cache.proofs.versions.Versions.raise_all.Given as goal

-- the versions so far are raised
abbrev pub invariant-loop-i : goal.invariant-loop-i
invariant-loop-i l = l.self-inside.by_path.entries ≡ bumped_to (λ k. k.items) l.i l.initial.self-inside.by_path.entries
