-- A slice that is taken apart: its first item and what is behind it.
use Rattle.std.proofs.Common.{◌≡◌, ◌-◌, ◌<◌, ◌≤◌, List, [], ◌∷◌, length, get_or, take, drop, refl, arith}
use Rattle.std.proofs.Math.Seq.{take-length}

pub nil_of : {A : Type 0} (xs : List A) → length xs < 1 → xs ≡ []
nil_of [] few = refl
nil_of (x ∷ xs) few = absurd (omega (arith, few))

pub cons_of : {A : Type 0} (xs : List A) (x : A) → 1 ≤ length xs → x ≡ get_or xs 0 x → xs ≡ x ∷ take (length xs - 1) (drop 1 xs)
cons_of [] x some e = absurd (omega (arith, some))
cons_of (y ∷ ys) x some e =
    let same : x ≡ y = e in
    let len : length (y ∷ ys) - 1 ≡ length ys = omega arith in
    rw (same, len, take-length ys) refl
