-- The files and the places behind the touch of several paths.
use Rattle.std.proofs.Common.{◌≡◌, ◌<◌, ◌+◌, ℕ, suc, Bool, true, false, not, ◌||◌, ◌&&◌, List, None, [], ◌∷◌, length, drop, get_or, filter, refl, ap, sym, ◌∙◌, arith, drop-cons}
use Rattle.apdu.specs.Words.{same_bytes, path_is_in, is_one_of, has_value}
use Rattle.epoch_cache.specs.declared.cached.CachedFile.{CachedFile}
use Rattle.epoch_cache.specs.declared.cached.Touch.{Touch}
use Rattle.refresh_cmd.specs.Values.{ProactiveValue}
use Rattle.epoch_cache.specs.Cache.{without_file, forgotten, asks_reset, is_moved_by}
use Rattle.epoch_cache.specs.Places.{without_listed, without_refreshed, renews_every, names_listed, moves_every}

pub without_none : (files : List CachedFile) → without_listed [] files ≡ files
without_none [] = refl
without_none (f ∷ fs) = ap (λ l. f ∷ l) (without_none fs)

pub without_one_more : (path : List ℕ) (paths : List (List ℕ)) (files : List CachedFile) → without_listed paths (without_file path files) ≡ without_listed (path ∷ paths) files
without_one_more path paths [] = refl
without_one_more path paths (f ∷ fs) = by (same_bytes f.path path) refl (path_is_in paths f.path) refl (without_one_more path paths fs)
  where
    by : (b : Bool) → same_bytes f.path path ≡ b → (d : Bool) → path_is_in paths f.path ≡ d → without_listed paths (without_file path fs) ≡ without_listed (path ∷ paths) fs
        → without_listed paths (without_file path (f ∷ fs)) ≡ without_listed (path ∷ paths) (f ∷ fs)
    by true q d r ih = rw q ih
    by false q true r ih = rw (q, r) ih
    by false q false r ih = rw (q, r) (ap (λ l. f ∷ l) ih)

-- the item at an index and those behind it
pub rest_from : {A : Type 0} (xs : List A) (i : ℕ) (x : A) → i < length xs → x ≡ get_or xs i x → drop i xs ≡ x ∷ drop (i + 1) xs
rest_from xs i x h e = let n : suc i ≡ i + 1 = omega arith in drop-cons xs i x h ∙ ap (λ y. y ∷ drop (suc i) xs) (sym e) ∙ ap (λ m. x ∷ drop m xs) n

-- ---- all, none, or those of a list

pub filter_none : (test : CachedFile → Bool) (files : List CachedFile) → ((f : CachedFile) → test f ≡ false) → filter test files ≡ []
filter_none test [] h = refl
filter_none test (f ∷ fs) h = rw (h f) (filter_none test fs h)

pub filter_all : (test : CachedFile → Bool) (files : List CachedFile) → ((f : CachedFile) → test f ≡ true) → filter test files ≡ files
filter_all test [] h = refl
filter_all test (f ∷ fs) h = rw (h f) (ap (λ l. f ∷ l) (filter_all test fs h))

first_two : (a b c : Bool) → (a || b) ≡ true → not (a || (b || c)) ≡ false
first_two true b c h = refl
first_two false true c h = refl
first_two false false c h = grind (arith, h)

none_of : (a b c d : Bool) → (a || b) ≡ false → c ≡ false → not (a || (b || (c && d))) ≡ true
none_of true b c d h e = grind (arith, h)
none_of false true c d h e = grind (arith, h)
none_of false false true d h e = grind (arith, e)
none_of false false false d h e = refl

first : (a b : Bool) → a ≡ true → not (a || b) ≡ false
first true b h = refl
first false b h = grind (arith, h)

second : (a b : Bool) → a ≡ false → not (a || b) ≡ not b
second true b h = grind (arith, h)
second false b h = refl

pub refreshed_every : (p : ProactiveValue) (files : List CachedFile) → renews_every p ≡ true → without_refreshed p files ≡ []
refreshed_every p files h = filter_none _ files (λ f. first_two (asks_reset p) (is_one_of p.qualifier (0 ∷ 3 ∷ [])) _ h)

pub refreshed_nothing : (p : ProactiveValue) (files : List CachedFile) → renews_every p ≡ false → names_listed p ≡ false → without_refreshed p files ≡ files
refreshed_nothing p files h e = filter_all _ files (λ f. none_of (asks_reset p) (is_one_of p.qualifier (0 ∷ 3 ∷ [])) _ _ h e)

pub forgotten_every : (t : Touch) (files : List CachedFile) → moves_every t ≡ true → forgotten t files ≡ []
forgotten_every t files h = filter_none _ files (λ f. first (moves_every t) _ h)

pub forgotten_nothing : (t : Touch) (files : List CachedFile) → moves_every t ≡ false → t.refresh ≡ None → forgotten t files ≡ files
forgotten_nothing t files h e = filter_all _ files (λ f. second (moves_every t) _ h ∙ ap (λ r. not (has_value (is_moved_by f.path) r)) e)
