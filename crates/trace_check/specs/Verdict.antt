-- What is said of a report.
use Rattle.std.specs.Prelude.{◌≡◌, ℕ, Option, Some, None, Result, Ok, Err}
use Rattle.trace_check.specs.declared.checking.CheckError.{CheckError}
use Rattle.trace_check.specs.declared.checking.CheckError.TheVariants.{Illegal, Memory}

-- the first broken line with its rule, or that there is none; of want of memory nothing is said
abbrev pub Says : Option (ℕ × ℕ) → Result (Unit {0}) CheckError → Type 0
Says broken (Ok u) = broken ≡ None
Says broken (Err (Illegal line rule)) = broken ≡ Some (line, rule)
Says broken (Err Memory) = Unit {0}
