-- What a source has left and a sink holds, and what a failure counts.
use Rattle.std.specs.Prelude.{◌≡◌, ◌≤◌, ◌<◌, ℕ, ◌+◌, ◌-◌, ◌^◌, min, List, [], ◌++◌, length, take, drop, Option, Some, None, Result, IfSome, OnErr}

-- the count rose, or stands at its last value
abbrev pub Rose : ℕ → ℕ → Type 0
Rose before now = min (before + 1) (2 ^ 64 - 1) ≤ now

-- a failure comes only where the count rose, and the count never falls
pub record HasCause {T E : Type 0} (before now : ℕ) (result : Result T E) : Type 0 where
  pub later : before ≤ now
  pub failed : OnErr result (Rose before now)

-- A read answered n and the buffer: where the source told what was left, these are its next bytes.
-- 0 of a buffer with room comes only where nothing was left.
pub record Reads (old new : Option (List ℕ)) (n : ℕ) (into : List ℕ) : Type 0 where
  pub told : IfSome old (λ before. (new ≡ Some (drop n before)) × (take n into ≡ take n before) × (n ≤ length before) × (n ≡ 0 → 0 < length into → before ≡ []))
  pub untold : old ≡ None → new ≡ None

-- the piece stands at the end of what was written
abbrev pub Appends : Option (List ℕ) → Option (List ℕ) → List ℕ → Type 0
Appends old new piece = IfSome old (λ before. new ≡ Some (before ++ piece))

-- some front of the piece stands at the end of what was written
abbrev pub AppendsPart : Option (List ℕ) → Option (List ℕ) → List ℕ → Type 0
AppendsPart old new piece = IfSome old (λ before. (n : ℕ) × (new ≡ Some (before ++ take n piece)))
