-- Steps of the reading of a file list.
use Rattle.std.proofs.Common.{◌∙◌, ◌≡◌, ◌≢◌, ℕ, ◌<◌, ◌≤◌, Bool, true, false, ◌&&◌, ◌==◌, nat_le, List, [], ◌∷◌, ◌++◌, length, Option, Some, None, refl, ap, sym, arith, append_assoc, append-nil, length-append}
use Rattle.std.specs.List.{list_all}
use Rattle.std.proofs.lemmas.Bool.Decides.{nat_tests}
use Rattle.apdu.specs.Words.{path_of, is_between, is_empty}
use Rattle.refresh_cmd.specs.Proactive.{master_file, is_good_path, good_paths}
use Rattle.refresh_cmd.specs.Lists.{cut_bytes, with_id_seen, onto, within}

pub other-id : (id : ℕ) → id ≢ master_file → (id == master_file) ≡ false
other-id id ne = grind (arith, nat_tests)

pub onto-begins : (paths : List (List ℕ)) (c : Option (List ℕ × List (List ℕ))) → onto paths (with_id_seen master_file c) ≡ within paths [] c
onto-begins paths None = refl
onto-begins paths (Some (before, more)) = refl

pub onto-other : (id : ℕ) (paths : List (List ℕ)) (c : Option (List ℕ × List (List ℕ))) → id ≢ master_file → onto paths (with_id_seen id c) ≡ None
onto-other id paths None ne = refl
onto-other id paths (Some (before, more)) ne = rw (other-id id ne) refl

pub onto-odd : (bytes : List ℕ) (paths : List (List ℕ)) → 0 < length bytes → length bytes < 2 → onto paths (cut_bytes bytes) ≡ None
onto-odd [] paths h k = absurd (omega arith)
onto-odd (b ∷ []) paths h k = refl
onto-odd (b ∷ c ∷ bytes) paths h k = absurd (omega arith)

pub within-more : (id : ℕ) (paths : List (List ℕ)) (ids : List ℕ) (c : Option (List ℕ × List (List ℕ))) → id ≢ master_file →
    within paths ids (with_id_seen id c) ≡ within paths (ids ++ id ∷ []) c
within-more id paths ids None ne = refl
within-more id paths ids (Some (before, more)) ne = rw (other-id id ne) (ap (λ (path : List ℕ). good_paths ([], paths ++ path ∷ more)) (sym (append_assoc ids (id ∷ []) before)))

pub within-ends : (paths : List (List ℕ)) (ids : List ℕ) (c : Option (List ℕ × List (List ℕ))) →
    within paths ids (with_id_seen master_file c) ≡ onto (paths ++ ids ∷ []) (with_id_seen master_file c)
within-ends paths ids None = refl
within-ends paths ids (Some (before, more)) = rw (append-nil, append_assoc) refl

pub within-master : (id : ℕ) (rest : List ℕ) (c : Option (List ℕ × List (List ℕ))) → cut_bytes rest ≡ with_id_seen id c → id ≡ master_file →
    (paths : List (List ℕ)) (ids : List ℕ) → within paths ids (cut_bytes rest) ≡ onto (paths ++ ids ∷ []) (cut_bytes rest)
within-master id rest c e is paths ids = rw e (rw is (within-ends paths ids c))

pub within-last : (paths : List (List ℕ)) (ids : List ℕ) (rest : List ℕ) → length rest < 2 → within paths ids (cut_bytes rest) ≡ onto (paths ++ ids ∷ []) (cut_bytes rest)
within-last paths ids [] h = rw (append-nil ids, append-nil (paths ++ ids ∷ [])) refl
within-last paths ids (b ∷ []) h = refl
within-last paths ids (b ∷ c ∷ rest) h = absurd (omega arith)

-- a path of more than three ids is in no list, nor is one of none
good_paths-none : (before : List ℕ) (paths : List (List ℕ)) → list_all is_good_path paths ≡ false → good_paths (before, paths) ≡ None
good_paths-none [] paths e = rw e refl
good_paths-none (b ∷ before) paths e = refl

and-false : (b : Bool) → (b && false) ≡ false
and-false true = refl
and-false false = refl

bad-among : (paths more : List (List ℕ)) (path : List ℕ) → is_good_path path ≡ false → list_all is_good_path (paths ++ path ∷ more) ≡ false
bad-among [] more path e = rw e refl
bad-among (p ∷ paths) more path e = rw (bad-among paths more path e) (and-false (is_good_path p))

long-path : (path : List ℕ) → 3 < length path → is_good_path path ≡ false
long-path path h = grind (arith, nat_tests)

long-path-more : (ids before : List ℕ) (id : ℕ) → 3 ≤ length ids → is_good_path (ids ++ id ∷ before) ≡ false
long-path-more ids before id h = long-path (ids ++ id ∷ before) (omega (arith, length-append ids (id ∷ before)))

pub within-long : (id : ℕ) (paths : List (List ℕ)) (ids : List ℕ) (c : Option (List ℕ × List (List ℕ))) → 3 ≤ length ids → id ≢ master_file →
    within paths ids (with_id_seen id c) ≡ None
within-long id paths ids None h ne = refl
within-long id paths ids (Some (before, more)) h ne = rw (other-id id ne) (good_paths-none [] (paths ++ (ids ++ id ∷ before) ∷ more) (bad-among paths more (ids ++ id ∷ before) (long-path-more ids before id h)))

pub onto-empty : (paths : List (List ℕ)) (ids : List ℕ) (c : Option (List ℕ × List (List ℕ))) → length ids < 1 → onto (paths ++ ids ∷ []) c ≡ None
onto-empty paths [] None h = refl
onto-empty paths [] (Some (before, more)) h = rw append_assoc (good_paths-none before (paths ++ [] ∷ more) (bad-among paths more [] refl))
onto-empty paths (id ∷ ids) c h = absurd (omega arith)

many-paths : (before : List ℕ) (paths : List (List ℕ)) → 64 < length paths → good_paths (before, paths) ≡ None
many-paths before paths h = let e : nat_le (length paths) 64 ≡ false = grind (arith, nat_tests) in rw e (rw (and-false (is_empty before && list_all is_good_path paths)) refl)

pub onto-many : (paths : List (List ℕ)) (c : Option (List ℕ × List (List ℕ))) → 64 < length paths → onto paths c ≡ None
onto-many paths None h = refl
onto-many paths (Some (before, more)) h = many-paths before (paths ++ more) (omega (arith, length-append paths more))

pub onto-done : (paths : List (List ℕ)) → list_all is_good_path paths ≡ true → length paths ≤ 64 → onto paths (cut_bytes []) ≡ Some paths
onto-done paths good h = let e : nat_le (length paths) 64 ≡ true = grind (arith, nat_tests) in rw append-nil (rw good (rw e refl))

-- a full list has as many items as it can have
pub when_full : (n capacity : ℕ) → true ≡ (n == capacity) → capacity ≤ n
when_full n capacity e = grind (arith, nat_tests)

pub when_empty : (n : ℕ) → true ≡ (n == 0) → n < 1
when_empty n e = grind (arith, nat_tests)

pub onto-full : (paths : List (List ℕ)) (path : List ℕ) (c : Option (List ℕ × List (List ℕ))) → 64 ≤ length paths → onto (paths ++ path ∷ []) c ≡ None
onto-full paths path c h = onto-many (paths ++ path ∷ []) c (omega (arith, length-append paths (path ∷ [])))

pub onto-end : (paths : List (List ℕ)) (rest : List ℕ) → length rest < 1 → list_all is_good_path paths ≡ true → length paths ≤ 64 → onto paths (cut_bytes rest) ≡ Some paths
onto-end paths [] h good k = onto-done paths good k
onto-end paths (b ∷ rest) h good k = absurd (omega arith)

-- at most three ids that make no path are none
pub no_ids : (ids : List ℕ) → length ids ≤ 3 → None ≡ path_of ids → length ids < 1
no_ids [] few e = omega arith
no_ids (id ∷ ids) few e =
    let good : is_between 1 3 (length (id ∷ ids)) ≡ true = grind (arith, nat_tests) in
    let some : None ≡ Some (id ∷ ids) = e ∙ rw good refl in
    cc
