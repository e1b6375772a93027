-- What holds of each item of a list.
use Rattle.std.proofs.Common.{◌≡◌, Bool, true, false, if◌then◌else◌, List, [], ◌∷◌, ◌++◌, Option, Some, refl, subst}
use Rattle.std.specs.Prelude.{filter, find, map}
use Rattle.std.specs.List.{list_all}
use Rattle.std.proofs.lemmas.Bool.{and_parts, and_from}

the_same : {A : Type 0} (x y : A) → Some x ≡ Some y → x ≡ y
the_same x y e = cc

module _ {A : Type 0} (good : A → Bool) where
  found_here : (b : Bool) (x h : A) (rest : Option A) → (if b then Some x else rest) ≡ Some h → good x ≡ true → (rest ≡ Some h → good h ≡ true) → good h ≡ true
  found_here true x h rest e g later = subst (λ (y : A). good y ≡ true) (the_same x h e) g
  found_here false x h rest e g later = later e

  pub all_found : (p : A → Bool) (xs : List A) (h : A) → list_all good xs ≡ true → find p xs ≡ Some h → good h ≡ true
  all_found p [] h g e = absurd (cc)
  all_found p (x ∷ xs) h g e = let q = and_parts (good x) (list_all good xs) g in found_here (p x) x h (find p xs) e q.0 (λ r. all_found p xs h q.1 r)

  kept_here : (b : Bool) (x : A) (rest : List A) → good x ≡ true → list_all good rest ≡ true → list_all good (if b then x ∷ rest else rest) ≡ true
  kept_here true x rest g h = and_from (good x) (list_all good rest) g h
  kept_here false x rest g h = h

  pub all_filtered : (p : A → Bool) (xs : List A) → list_all good xs ≡ true → list_all good (filter p xs) ≡ true
  all_filtered p [] g = refl
  all_filtered p (x ∷ xs) g = let q = and_parts (good x) (list_all good xs) g in kept_here (p x) x (filter p xs) q.0 (all_filtered p xs q.1)

  pub all_added : (xs : List A) (h : A) → list_all good xs ≡ true → good h ≡ true → list_all good (xs ++ h ∷ []) ≡ true
  all_added [] h g e = and_from (good h) true e refl
  all_added (x ∷ xs) h g e = let q = and_parts (good x) (list_all good xs) g in and_from (good x) (list_all good (xs ++ h ∷ [])) q.0 (all_added xs h q.1 e)

module _ {A : Type 0} (good kept : A → Bool) (f : A → A) (each : (h : A) → good h ≡ true → kept (f h) ≡ true) where
  pub all_mapped : (xs : List A) → list_all good xs ≡ true → list_all kept (map f xs) ≡ true
  all_mapped [] g = refl
  all_mapped (x ∷ xs) g = let q = and_parts (good x) (list_all good xs) g in and_from (kept (f x)) (list_all kept (map f xs)) (each x q.0) (all_mapped xs q.1)

module _ {A : Type 0} (good kept : A → Bool) (each : (h : A) → good h ≡ true → kept h ≡ true) where
  pub all_still : (xs : List A) → list_all good xs ≡ true → list_all kept xs ≡ true
  all_still [] g = refl
  all_still (x ∷ xs) g = let q = and_parts (good x) (list_all good xs) g in and_from (kept x) (list_all kept xs) (each x q.0) (all_still xs q.1)
