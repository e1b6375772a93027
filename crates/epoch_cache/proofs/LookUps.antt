-- What is taken of a path behind a change of the files.
use Rattle.std.proofs.Common.{◌≡◌, ℕ, Bool, true, false, ◌&&◌, List, [], ◌∷◌, map, Option, Some, None, refl, ap, sym, ◌∙◌, arith, subst}
use Rattle.std.specs.Prelude.{option_map}
use Rattle.std.specs.Cmp.Lexicographic.{bytes_decides}
use Rattle.std.specs.Option.{option_or}
use Rattle.std.proofs.lemmas.List.Folds.{find-append}
use Rattle.apdu.specs.Words.{same_bytes}
use Rattle.epoch_cache.specs.declared.cached.CachedFile.{CachedFile}
use Rattle.epoch_cache.specs.Cache.{is_of, is_row_of, taken, with_file, without_file, patched_file}
use Rattle.epoch_cache.specs.Places.{KeepsOthers}

pub same_self : (p : List ℕ) → same_bytes p p ≡ true
same_self p = (bytes_decides p p).1 refl

pub same_equal : (p q : List ℕ) → same_bytes p q ≡ true → p ≡ q
same_equal p q h = (bytes_decides p q).0 h

-- a file of one path is of no other
pub of_no_other : (path other : List ℕ) (f : CachedFile) → same_bytes path other ≡ false → is_of path f ≡ true → is_of other f ≡ false
of_no_other path other f apart q = subst (λ x. same_bytes x other ≡ false) (sym (same_equal f.path path q)) apart

or_none : {A : Type 0} (o : Option A) → option_or o None ≡ o
or_none None = refl
or_none (Some x) = refl

-- ---- without the file of a path

pub taken_without : (path : List ℕ) (files : List CachedFile) → taken path (without_file path files) ≡ None
taken_without path [] = refl
taken_without path (f ∷ fs) = by (is_of path f) refl (taken_without path fs)
  where
    by : (b : Bool) → is_of path f ≡ b → taken path (without_file path fs) ≡ None → taken path (without_file path (f ∷ fs)) ≡ None
    by true q ih = rw q ih
    by false q ih = rw (q, q) ih

pub others_without : (path : List ℕ) (files : List CachedFile) → KeepsOthers path files (without_file path files)
others_without path [] other apart = refl
others_without path (f ∷ fs) other apart = by (is_of path f) refl (others_without path fs other apart)
  where
    kept : (b : Bool) → is_of other f ≡ b → taken other (without_file path fs) ≡ taken other fs → taken other (f ∷ without_file path fs) ≡ taken other (f ∷ fs)
    kept true q ih = rw q refl
    kept false q ih = rw q ih

    by : (b : Bool) → is_of path f ≡ b → taken other (without_file path fs) ≡ taken other fs → taken other (without_file path (f ∷ fs)) ≡ taken other (f ∷ fs)
    by true q ih = let away : is_of other f ≡ false = of_no_other path other f apart q in rw (q, away) ih
    by false q ih = rw q (kept (is_of other f) refl ih)

-- ---- with a file

pub taken_with : (file : CachedFile) (files : List CachedFile) → taken file.path (with_file file files) ≡ Some file
taken_with file files =
    let last : taken file.path (file ∷ []) ≡ Some file = rw (same_self file.path) refl in
    find-append (is_of file.path) (without_file file.path files) (file ∷ []) ∙ ap (λ o. option_or o (taken file.path (file ∷ []))) (taken_without file.path files) ∙ last

pub others_with : (file : CachedFile) (files : List CachedFile) → KeepsOthers file.path files (with_file file files)
others_with file files other apart =
    let last : taken other (file ∷ []) ≡ None = rw apart refl in
    find-append (is_of other) (without_file file.path files) (file ∷ []) ∙ ap (option_or (taken other (without_file file.path files))) last ∙ or_none _ ∙ others_without file.path files other apart

-- ---- with a row written over

pub patched_path : (path : List ℕ) (row : ℕ) (bytes : List ℕ) (f : CachedFile) → (patched_file path row bytes f).path ≡ f.path
patched_path path row bytes f = by (is_of path f && is_row_of row bytes f.content) refl
  where
    by : (b : Bool) → (is_of path f && is_row_of row bytes f.content) ≡ b → (patched_file path row bytes f).path ≡ f.path
    by true q = rw q refl
    by false q = rw q refl

-- a file of another path stays
pub patched_other : (path : List ℕ) (row : ℕ) (bytes : List ℕ) (f : CachedFile) → is_of path f ≡ false → patched_file path row bytes f ≡ f
patched_other path row bytes f q = rw q refl

pub taken_patched : (path : List ℕ) (row : ℕ) (bytes : List ℕ) (files : List CachedFile) (q : List ℕ) → taken q (map (patched_file path row bytes) files) ≡ option_map (patched_file path row bytes) (taken q files)
taken_patched path row bytes [] q = refl
taken_patched path row bytes (f ∷ fs) q = by (is_of q f) refl (taken_patched path row bytes fs q)
  where
    by : (b : Bool) → is_of q f ≡ b → taken q (map (patched_file path row bytes) fs) ≡ option_map (patched_file path row bytes) (taken q fs) → taken q (map (patched_file path row bytes) (f ∷ fs)) ≡ option_map (patched_file path row bytes) (taken q (f ∷ fs))
    by true h ih = let e : is_of q (patched_file path row bytes f) ≡ true = ap (λ p. same_bytes p q) (patched_path path row bytes f) ∙ h in rw (e, h) refl
    by false h ih = let e : is_of q (patched_file path row bytes f) ≡ false = ap (λ p. same_bytes p q) (patched_path path row bytes f) ∙ h in rw (e, h) ih

others_same : (path : List ℕ) (row : ℕ) (bytes : List ℕ) (files : List CachedFile) (other : List ℕ) → same_bytes path other ≡ false → option_map (patched_file path row bytes) (taken other files) ≡ taken other files
others_same path row bytes [] other apart = refl
others_same path row bytes (f ∷ fs) other apart = by (is_of other f) refl (is_of path f) refl (others_same path row bytes fs other apart)
  where
    by : (b : Bool) → is_of other f ≡ b → (d : Bool) → is_of path f ≡ d → option_map (patched_file path row bytes) (taken other fs) ≡ taken other fs → option_map (patched_file path row bytes) (taken other (f ∷ fs)) ≡ taken other (f ∷ fs)
    by true h true k ih = let e : is_of other f ≡ false = of_no_other path other f apart k in grind (arith, e, h)
    by true h false k ih = rw h (ap Some (patched_other path row bytes f k))
    by false h d k ih = rw h ih

pub others_patched : (path : List ℕ) (row : ℕ) (bytes : List ℕ) (files : List CachedFile) → KeepsOthers path files (map (patched_file path row bytes) files)
others_patched path row bytes files other apart = taken_patched path row bytes files other ∙ others_same path row bytes files other apart
