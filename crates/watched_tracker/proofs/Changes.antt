-- Lists of which one item changes, and what is told of each item.
use Rattle.std.proofs.Common.{◌≡◌, ℕ, zero, suc, List, [], ◌∷◌, map, slice_set, Option, Some, None, refl, sym, ap, ◌∙◌}
use Rattle.std.specs.Prelude.{slice_get, option_map}
use Rattle.std.proofs.lemmas.Option.{slice_get-map}
use Rattle.rules.specs.Kept.{change_at, changed_at}

-- what is told stays
pub map_same : {A B : Type 0} (f : A → A) (m : A → B) → ((x : A) → m (f x) ≡ m x) → (xs : List A) → map m (map f xs) ≡ map m xs
map_same f m h [] = refl
map_same f m h (x ∷ xs) = ap (λ y. y ∷ map m (map f xs)) (h x) ∙ ap (λ ys. m x ∷ ys) (map_same f m h xs)

pub map_changed : {A B : Type 0} (f : A → A) (g : B → B) (m : A → B) → ((x : A) → m (f x) ≡ g (m x)) → (xs : List A) → map m (map f xs) ≡ map g (map m xs)
map_changed f g m h [] = refl
map_changed f g m h (x ∷ xs) = ap (λ y. y ∷ map m (map f xs)) (h x) ∙ ap (λ ys. g (m x) ∷ ys) (map_changed f g m h xs)

set_mapped : {A B : Type 0} (m : A → B) (xs : List A) (i : ℕ) (y : A) → map m (slice_set xs i y) ≡ slice_set (map m xs) i (m y)
set_mapped m [] i y = refl
set_mapped m (x ∷ xs) zero y = refl
set_mapped m (x ∷ xs) (suc i) y = ap (λ ys. m x ∷ ys) (set_mapped m xs i y)

set_there : {A : Type 0} (xs : List A) (i : ℕ) (x : A) → slice_get xs i ≡ Some x → slice_set xs i x ≡ xs
set_there [] i x e = refl
set_there (y ∷ xs) zero x e = let same : y ≡ x = cc in ap (λ z. z ∷ xs) (sym same)
set_there (y ∷ xs) (suc i) x e = ap (λ ys. y ∷ ys) (set_there xs i x e)

-- what is told of the item that changes
pub change_mapped : {A B : Type 0} (f : A → A) (g : B → B) (m : A → B) (i : ℕ) (xs : List A) → ((x : A) → slice_get xs i ≡ Some x → m (f x) ≡ g (m x)) → map m (change_at i f xs) ≡ change_at i g (map m xs)
change_mapped {A} {B} f g m i xs h = there (slice_get xs i) refl ∙ ap (changed_at i g (map m xs)) (sym (slice_get-map m xs i))
  where
    there : (o : Option A) → slice_get xs i ≡ o → map m (changed_at i f xs o) ≡ changed_at i g (map m xs) (option_map m o)
    there None e = refl
    there (Some x) e = set_mapped m xs i (f x) ∙ ap (slice_set (map m xs) i) (h x e)

-- and it stays
pub change_same : {A B : Type 0} (f : A → A) (m : A → B) (i : ℕ) (xs : List A) → ((x : A) → slice_get xs i ≡ Some x → m (f x) ≡ m x) → map m (change_at i f xs) ≡ map m xs
change_same {A} {B} f m i xs h = there (slice_get xs i) refl
  where
    there : (o : Option A) → slice_get xs i ≡ o → map m (changed_at i f xs o) ≡ map m xs
    there None e = refl
    there (Some x) e = set_mapped m xs i (f x) ∙ ap (slice_set (map m xs) i) (h x e) ∙ set_there (map m xs) i (m x) (slice_get-map m xs i ∙ ap (option_map m) e)
