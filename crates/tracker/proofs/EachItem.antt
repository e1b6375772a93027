-- Lists of which each item, or one item, changes.
use Rattle.std.specs.List.{list_all}
use Rattle.std.proofs.Common.{Bool, true, false, ◌&&◌, refl, ◌≡◌, ◌<◌, ◌≤◌, ◌+◌, ℕ, zero, suc, List, [], ◌∷◌, ◌++◌, length, map, take, drop, set, get_or, ap, sym, ◌∙◌, arith, add-one}
use Rattle.std.proofs.lemmas.List.{take_all, drop_all, append-nil}

one_more : {X : Type 0} (f : X → X) (xs : List X) (i : ℕ) (d new : X) → i < length xs → new ≡ f (get_or xs i d) → take (suc i) (set xs i new) ++ map f (drop (suc i) (set xs i new)) ≡ take i xs ++ map f (drop i xs)
one_more f [] i d new h e = absurd (omega arith)
one_more f (y ∷ ys) zero d new h e = ap (λ v. v ∷ map f ys) e
one_more f (y ∷ ys) (suc i) d new h e = ap (λ v. y ∷ v) (one_more f ys i d new (omega arith) e)

-- one more item is changed
pub map_one_more : {X : Type 0} (f : X → X) (xs : List X) (i : ℕ) (d new : X) → i < length xs → new ≡ f (get_or xs i d) → take (i + 1) (set xs i new) ++ map f (drop (i + 1) (set xs i new)) ≡ take i xs ++ map f (drop i xs)
map_one_more f xs i d new h e = rw add-one (one_more f xs i d new h e)

-- all are changed
pub map_to_end : {X : Type 0} (f : X → X) (xs ys : List X) (i : ℕ) → length xs ≤ i → take i xs ++ map f (drop i xs) ≡ map f ys → xs ≡ map f ys
map_to_end f xs ys i h e = sym (append-nil xs) ∙ sym (ap (λ v. v ++ []) (take_all i xs h)) ∙ ap (λ v. take i xs ++ map f v) (sym (drop_all i xs h)) ∙ e

-- ---- items that pass a test

pub first_passes : (a b : Bool) → (a && b) ≡ true → a ≡ true
first_passes true b e = refl
first_passes false b e = e

pub rest_passes : (a b : Bool) → (a && b) ≡ true → b ≡ true
rest_passes true b e = e
rest_passes false true e = refl
rest_passes false false e = e

-- each item passes, so the one at an index does
pub passes_at : {X : Type 0} (p : X → Bool) (xs : List X) (i : ℕ) (d : X) → i < length xs → list_all p (drop i xs) ≡ true → p (get_or xs i d) ≡ true
passes_at p [] i d h e = absurd (omega arith)
passes_at p (x ∷ xs) zero d h e = first_passes (p x) (list_all p xs) e
passes_at p (x ∷ xs) (suc i) d h e = passes_at p xs i d (omega arith) e

one_less : {X : Type 0} (p : X → Bool) (xs : List X) (i : ℕ) (new : X) → list_all p (drop i xs) ≡ true → list_all p (drop (suc i) (set xs i new)) ≡ true
one_less p [] i new e = refl
one_less p (x ∷ xs) zero new e = rest_passes (p x) (list_all p xs) e
one_less p (x ∷ xs) (suc i) new e = one_less p xs i new e

-- those behind the next one pass, also where that one has changed
pub pass_behind : {X : Type 0} (p : X → Bool) (xs : List X) (i : ℕ) (new : X) → list_all p (drop i xs) ≡ true → list_all p (drop (i + 1) (set xs i new)) ≡ true
pass_behind p xs i new e = rw add-one (one_less p xs i new e)

-- where every item passes
pub all_pass : {X : Type 0} (xs : List X) → list_all (λ x. true) xs ≡ true
all_pass [] = refl
all_pass (x ∷ xs) = all_pass xs

pub both_pass : (a b : Bool) → a ≡ true → b ≡ true → (a && b) ≡ true
both_pass true b p q = q
both_pass false b p q = p
