-- Bytes that are the same.
use Rattle.std.proofs.Common.{◌≡◌, ℕ, true, List, [], ◌∷◌, refl}
use Rattle.std.proofs.lemmas.Bool.{and_parts, eqb-true, eq-eqb}
use Rattle.apdu.specs.Words.{same_bytes}

pub same_bytes_is : (a b : List ℕ) → same_bytes a b ≡ true → a ≡ b
same_bytes_is [] [] h = refl
same_bytes_is [] (y ∷ ys) h = absurd (cc)
same_bytes_is (x ∷ xs) [] h = absurd (cc)
same_bytes_is (x ∷ xs) (y ∷ ys) h = let q = and_parts _ _ h in let e : x ≡ y = eqb-true x y q.0 in let r : xs ≡ ys = same_bytes_is xs ys q.1 in cc

pub same_bytes_self : (a : List ℕ) → same_bytes a a ≡ true
same_bytes_self [] = refl
same_bytes_self (x ∷ xs) = rw (eq-eqb x x refl) (same_bytes_self xs)
