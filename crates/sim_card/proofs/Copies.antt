-- Lists of copies.
use Rattle.std.proofs.Common.{◌≡◌, true, List, [], ◌∷◌, map, refl, ap}
use Rattle.std.specs.List.{list_all}

pub copyable : {X : Type 0} (xs : List X) → list_all (λ _. true) xs ≡ true
copyable [] = refl
copyable (x ∷ xs) = copyable xs

pub copied : {X : Type 0} (xs : List X) → map (λ x. x) xs ≡ xs
copied [] = refl
copied (x ∷ xs) = ap (λ ys. x ∷ ys) (copied xs)
