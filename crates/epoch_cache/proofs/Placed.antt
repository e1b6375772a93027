-- The places of a map from paths to versions.
use Rattle.std.proofs.Common.{◌≡◌, ◌≤◌, ◌+◌, ℕ, zero, suc, Bool, true, false, List, [], ◌∷◌, ◌++◌, length, map, take, drop, Some, None, is_some, refl, ap, sym, ◌∙◌, arith, subst}
use Rattle.std.specs.Prelude.{slice_get, unwrap_or}
use Rattle.std.specs.Map.{lookup, set_value, values_of}
use Rattle.indexmap.specs.Layout.{set_value_at}
use Rattle.indexmap.specs.IndexMap.{insert_entry}
use Rattle.apdu.specs.Words.{same_bytes}
use Rattle.epoch_cache.specs.Places.{Place, version_of, has_place, raised, raised_at, all_raised, with_place, highest_version}

-- the same of an equal path and equal places
pub told : (P : List ℕ → List Place → Type 0) {p q : List ℕ} {ps qs : List Place} → q ≡ p → qs ≡ ps → P q qs → P p ps
told P {p} {q} {ps} {qs} e f h = subst (λ x. P x ps) e (subst (λ y. P q y) f h)

module _ {K : Type 0} (ids : K → List ℕ) where
  abbrev pub place_of : K × ℕ → Place
  place_of e = record { path = ids e.0; version = e.1 }

  abbrev pub places_of : List (K × ℕ) → List Place
  places_of es = map place_of es

  abbrev pub key_test : List ℕ → K → Bool
  key_test path k = same_bytes path (ids k)

  pub version_found : (path : List ℕ) (es : List (K × ℕ)) → unwrap_or (lookup (key_test path) es) 0 ≡ version_of path (places_of es)
  version_found path [] = refl
  version_found path (e ∷ es) = by (same_bytes path (ids e.0)) refl (version_found path es)
    where
      by : (b : Bool) → same_bytes path (ids e.0) ≡ b → unwrap_or (lookup (key_test path) es) 0 ≡ version_of path (places_of es) → unwrap_or (lookup (key_test path) (e ∷ es)) 0 ≡ version_of path (places_of (e ∷ es))
      by true q ih = rw q refl
      by false q ih = rw q ih

  pub place_found : (path : List ℕ) (es : List (K × ℕ)) → is_some (lookup (key_test path) es) ≡ has_place path (places_of es)
  place_found path [] = refl
  place_found path (e ∷ es) = by (same_bytes path (ids e.0)) refl (place_found path es)
    where
      by : (b : Bool) → same_bytes path (ids e.0) ≡ b → is_some (lookup (key_test path) es) ≡ has_place path (places_of es) → is_some (lookup (key_test path) (e ∷ es)) ≡ has_place path (places_of (e ∷ es))
      by true q ih = rw q refl
      by false q ih = rw q ih

  pub raised_found : (path : List ℕ) (es : List (K × ℕ)) (v : ℕ) → lookup (key_test path) es ≡ Some v → places_of (set_value (key_test path) es (v + 1)) ≡ raised_at path (places_of es)
  raised_found path [] v h = refl
  raised_found path (e ∷ es) v h = by (same_bytes path (ids e.0)) refl (raised_found path es v)
    where
      by : (b : Bool) → same_bytes path (ids e.0) ≡ b → (lookup (key_test path) es ≡ Some v → places_of (set_value (key_test path) es (v + 1)) ≡ raised_at path (places_of es)) → places_of (set_value (key_test path) (e ∷ es) (v + 1)) ≡ raised_at path (places_of (e ∷ es))
      by true q ih = let w : e.1 ≡ v = grind (arith, q, h) in rw (raised_at, q, w) refl
      by false q ih = let w : lookup (key_test path) es ≡ Some v = grind (arith, q, h) in rw (raised_at, q) (ap (λ ps. place_of e ∷ ps) (ih w))

  pub raised_missing : (path : List ℕ) (es : List (K × ℕ)) → lookup (key_test path) es ≡ None → places_of es ≡ raised_at path (places_of es)
  raised_missing path [] h = refl
  raised_missing path (e ∷ es) h = by (same_bytes path (ids e.0)) refl (raised_missing path es)
    where
      by : (b : Bool) → same_bytes path (ids e.0) ≡ b → (lookup (key_test path) es ≡ None → places_of es ≡ raised_at path (places_of es)) → places_of (e ∷ es) ≡ raised_at path (places_of (e ∷ es))
      by true q ih = grind (arith, q, h)
      by false q ih = let w : lookup (key_test path) es ≡ None = grind (arith, q, h) in rw (raised_at, q) (ap (λ ps. place_of e ∷ ps) (ih w))

  -- ---- a place is given

  pub inserted_last : (k : K) (es : List (K × ℕ)) → is_some (lookup (key_test (ids k)) es) ≡ false → insert_entry (λ x. key_test (ids x)) es k 0 ≡ es ++ (k, 0) ∷ []
  inserted_last k [] h = refl
  inserted_last k (e ∷ es) h = by (same_bytes (ids k) (ids e.0)) refl (inserted_last k es)
    where
      by : (b : Bool) → same_bytes (ids k) (ids e.0) ≡ b → (is_some (lookup (key_test (ids k)) es) ≡ false → insert_entry (λ x. key_test (ids x)) es k 0 ≡ es ++ (k, 0) ∷ []) → insert_entry (λ x. key_test (ids x)) (e ∷ es) k 0 ≡ (e ∷ es) ++ (k, 0) ∷ []
      by true q ih = grind (arith, q, h)
      by false q ih = let w : is_some (lookup (key_test (ids k)) es) ≡ false = grind (arith, q, h) in rw q (ap (λ v. e ∷ v) (ih w))

  pub places_append : (es fs : List (K × ℕ)) → places_of (es ++ fs) ≡ places_of es ++ places_of fs
  places_append [] fs = refl
  places_append (e ∷ es) fs = ap (λ v. place_of e ∷ v) (places_append es fs)

  pub tracked : (k : K) (es : List (K × ℕ)) → is_some (lookup (key_test (ids k)) es) ≡ false → places_of (insert_entry (λ x. key_test (ids x)) es k 0) ≡ with_place (ids k) (places_of es)
  tracked k es h =
      let missing : has_place (ids k) (places_of es) ≡ false = sym (place_found (ids k) es) ∙ h in
      rw missing (ap places_of (inserted_last k es h) ∙ places_append es ((k, 0) ∷ []))

  pub tracked_before : (path : List ℕ) (es : List (K × ℕ)) → is_some (lookup (key_test path) es) ≡ true → places_of es ≡ with_place path (places_of es)
  tracked_before path es h =
      let there : has_place path (places_of es) ≡ true = sym (place_found path es) ∙ h in
      rw there refl

  -- ---- each version in turn

  abbrev pub bumped : K × ℕ → K × ℕ
  bumped e = (e.0, e.1 + 1)

  -- the first so many are raised
  abbrev pub bumped_to : ℕ → List (K × ℕ) → List (K × ℕ)
  bumped_to n es = map bumped (take n es) ++ drop n es

  pub bumped_next : (es : List (K × ℕ)) (i v : ℕ) → slice_get (values_of (bumped_to i es)) i ≡ Some v → set_value_at (bumped_to i es) i (v + 1) ≡ bumped_to (suc i) es
  bumped_next [] zero v h = refl
  bumped_next [] (suc i) v h = refl
  bumped_next (x ∷ es) zero v h = let w : x.1 ≡ v = grind (arith, h) in rw w refl
  bumped_next (x ∷ es) (suc i) v h = ap (λ l. bumped x ∷ l) (bumped_next es i v h)

  pub bumped_after : (es : List (K × ℕ)) (i v : ℕ) → slice_get (values_of (bumped_to i es)) i ≡ Some v → set_value_at (bumped_to i es) i (v + 1) ≡ bumped_to (i + 1) es
  bumped_after es i v h = let e : suc i ≡ i + 1 = omega arith in subst (λ n. set_value_at (bumped_to i es) i (v + 1) ≡ bumped_to n es) e (bumped_next es i v h)

  pub bumped_places : (n : ℕ) (es : List (K × ℕ)) → length es ≤ n → places_of (bumped_to n es) ≡ all_raised (places_of es)
  bumped_places zero [] h = refl
  bumped_places (suc n) [] h = refl
  bumped_places zero (e ∷ es) h = absurd (omega arith)
  bumped_places (suc n) (e ∷ es) h = ap (λ v. raised (place_of e) ∷ v) (bumped_places n es (omega arith))

  pub bumped_bound : (n : ℕ) (es : List (K × ℕ)) (i v : ℕ) → slice_get (values_of (bumped_to n es)) i ≡ Some v → n ≤ i → v ≤ highest_version (places_of es)
  bumped_bound zero [] i v h low = grind (arith, h)
  bumped_bound zero (x ∷ es) zero v h low = let w : x.1 ≡ v = grind (arith, h) in omega (arith, w)
  bumped_bound zero (x ∷ es) (suc i) v h low = omega (arith, bumped_bound zero es i v h (omega arith))
  bumped_bound (suc n) [] i v h low = grind (arith, h)
  bumped_bound (suc n) (x ∷ es) zero v h low = absurd (omega arith)
  bumped_bound (suc n) (x ∷ es) (suc i) v h low = omega (arith, bumped_bound n es i v h (omega arith))

pub version_bounded : (path : List ℕ) (places : List Place) → version_of path places ≤ highest_version places
version_bounded path [] = omega arith
version_bounded path (p ∷ ps) = by (same_bytes path p.path) refl (version_bounded path ps)
  where
    by : (b : Bool) → same_bytes path p.path ≡ b → version_of path ps ≤ highest_version ps → version_of path (p ∷ ps) ≤ highest_version (p ∷ ps)
    by true q ih = rw q (omega arith)
    by false q ih = rw q (omega (arith, ih))

pub raised_at_bound : (path : List ℕ) (places : List Place) → highest_version (raised_at path places) ≤ highest_version places + 1
raised_at_bound path [] = omega arith
raised_at_bound path (p ∷ ps) = by (same_bytes path p.path) refl (raised_at_bound path ps)
  where
    by : (b : Bool) → same_bytes path p.path ≡ b → highest_version (raised_at path ps) ≤ highest_version ps + 1 → highest_version (raised_at path (p ∷ ps)) ≤ highest_version (p ∷ ps) + 1
    by true q ih = rw (highest_version, raised_at, q) (omega arith)
    by false q ih = rw (highest_version, raised_at, q) (omega (arith, ih))

pub all_raised_bound : (places : List Place) → highest_version (all_raised places) ≤ highest_version places + 1
all_raised_bound [] = omega arith
all_raised_bound (p ∷ ps) = omega (arith, all_raised_bound ps)

pub one_more_place : (path : List ℕ) (places : List Place) → highest_version (places ++ record { path = path; version = 0 } ∷ []) ≡ highest_version places
one_more_place path [] = refl
one_more_place path (p ∷ ps) = rw (one_more_place path ps) refl

pub with_place_bound : (path : List ℕ) (places : List Place) → highest_version (with_place path places) ≡ highest_version places
with_place_bound path places = by (has_place path places) refl
  where
    by : (b : Bool) → has_place path places ≡ b → highest_version (with_place path places) ≡ highest_version places
    by true q = rw q refl
    by false q = rw q (one_more_place path places)
