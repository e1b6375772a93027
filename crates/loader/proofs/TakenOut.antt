-- The reading of a path, where it stands at an index.
use Rattle.std.proofs.Common.{◌≡◌, ◌<◌, ℕ, zero, suc, true, List, [], ◌∷◌, ◌++◌, length, take, drop, get_or, Some, refl, ap, sym, subst, arith}
use Rattle.std.specs.Prelude.{slice_get}
use Rattle.std.specs.List.{remove}
use Rattle.loader.specs.Values.{ReadingValue}
use Rattle.loader.specs.Reading.{is_reading_of, reading_of, without_path}

pub found_here : (path : List ℕ) (gs : List ReadingValue) (i : ℕ) (r g : ReadingValue) → i < length gs → g ≡ get_or gs i g → slice_get gs i ≡ Some r → is_reading_of path g ≡ true → Some r ≡ reading_of path (drop i gs)
found_here path [] i r g h e s t = absurd (omega arith)
found_here path (x ∷ gs) zero r g h e s t = let q : is_reading_of path x ≡ true = subst (λ (y : ReadingValue). is_reading_of path y ≡ true) e t in rw (q, s) refl
found_here path (x ∷ gs) (suc i) r g h e s t = found_here path gs i r g (omega arith) e s t

pub rest_here : (path : List ℕ) (gs : List ReadingValue) (i : ℕ) (g : ReadingValue) → i < length gs → g ≡ get_or gs i g → is_reading_of path g ≡ true → remove gs i ≡ take i gs ++ without_path path (drop i gs)
rest_here path [] i g h e t = absurd (omega arith)
rest_here path (x ∷ gs) zero g h e t =
    let q : is_reading_of path x ≡ true = subst (λ (y : ReadingValue). is_reading_of path y ≡ true) e t in
    let w : without_path path (x ∷ gs) ≡ gs = rw (without_path, q) refl in
    ap (λ v. [] ++ v) (sym w)
rest_here path (x ∷ gs) (suc i) g h e t = ap (λ v. x ∷ v) (rest_here path gs i g (omega arith) e t)
