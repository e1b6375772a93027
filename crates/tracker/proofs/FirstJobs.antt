-- A list that grows by the same item.
use Rattle.std.proofs.Common.{◌≡◌, ◌+◌, ℕ, List, [], ◌∷◌, ◌++◌, replicate, refl, ap, add-one}

pub one_more : {X : Type 0} (xs : List X) (x : X) (n : ℕ) → (xs ++ x ∷ []) ++ replicate n x ≡ xs ++ replicate (n + 1) x
one_more [] x n = rw add-one refl
one_more (y ∷ ys) x n = ap (λ rest. y ∷ rest) (one_more ys x n)
