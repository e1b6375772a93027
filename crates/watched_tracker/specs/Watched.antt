-- What callers see of a tracker with watches.
use Rattle.std.specs.Prelude.{ℕ, List, Option}
use Rattle.rules.specs.declared.kept.Kept.{Kept}

-- all that is kept of the lines, and the mask of each actor's watch
pub record WatchedValue : Type 0 where
  pub kept : Kept
  pub masks : List (Option ℕ)

abbrev pub keeping : Kept → WatchedValue → WatchedValue
keeping k w = record w { kept = k }
