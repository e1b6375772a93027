-- Spare files stay ready for what changes give a card.
use Rattle.std.proofs.Common.{◌≡◌, ◌<◌, ◌≤◌, ◌+◌, ◌==◌, ℕ, zero, suc, Bool, true, false, cond, not, ◌||◌, ◌&&◌, List, [], ◌∷◌, ◌++◌, length, take, drop, find, Option, Some, None, IfSome, slice_get, refl, sym, ap, subst, ◌∙◌, arith, get_or, true≢false}
use Rattle.std.proofs.Math.ListN.{set, get_or-map}
use Rattle.std.proofs.lemmas.Bool.{eqb-true, eq-eqb, ltb-false}
use Rattle.std.proofs.lemmas.Cmp.{nat_list_eq_equiv}
use Rattle.std.proofs.lemmas.List.{length-map, map-set, map-append}
use Rattle.std.proofs.lemmas.Option.{slice_get-get_or}
use Rattle.std.proofs.lemmas.List.Quantifiers.{position-Some}
use Rattle.std.specs.List.{take-map, drop-map, list_any, remove, position, position_or_len}
use Rattle.std.specs.Cmp.Lexicographic.{same_text}
use Rattle.apdu.specs.Words.{same_bytes, same_number, has_value}
use Rattle.fcp.specs.declared.rows.FileKind.{FileKind}
use Rattle.fcp.specs.declared.rows.FileKind.TheVariants.{Transparent, Linear, Directory}
use Rattle.card_model.specs.declared.world.FileState.{FileState}
use Rattle.card_model.specs.Card.{has_path}
use Rattle.card_rows.specs.Shapes.{Shape, shape_of, shapes}
use Rattle.sim_card.specs.Spares.{same_kind, same_shape, fits, has_shape_path, is_ready, StaysReady}

-- ---- a search in a list with another item

pub either_true : (a b : Bool) → b ≡ true → (a || b) ≡ true
either_true true b e = refl
either_true false b e = e

left_true : (a b : Bool) → a ≡ true → (a || b) ≡ true
left_true true b e = refl
left_true false b e = absurd (true≢false (sym e))

pub right_of : (a b : Bool) → a ≡ false → (a || b) ≡ true → b ≡ true
right_of true b e h = absurd (true≢false e)
right_of false b e h = h

module _ {X : Type 0} (test : X → Bool) where
  -- the test fails at each item before index i
  abbrev FailsBefore : List X → ℕ → X → Type 0
  FailsBefore xs i d = (k : ℕ) → k < i → test (get_or xs k d) ≡ false

  pub find_here : (xs : List X) (i : ℕ) (d : X) → i < length xs → FailsBefore xs i d → test (get_or xs i d) ≡ true → find test xs ≡ Some (get_or xs i d)
  find_here [] i d lt before h = absurd (omega arith)
  find_here (x ∷ xs) zero d lt before h = rw h refl
  find_here (x ∷ xs) (suc i) d lt before h = rw (before 0 (omega arith)) (find_here xs i d (omega arith) (λ k less. before (suc k) (omega arith)) h)

  find_set_here : (xs : List X) (i : ℕ) (y d : X) → i < length xs → FailsBefore xs i d → test y ≡ true → find test (set xs i y) ≡ Some y
  find_set_here [] i y d lt before h = absurd (omega arith)
  find_set_here (x ∷ xs) zero y d lt before h = rw h refl
  find_set_here (x ∷ xs) (suc i) y d lt before h = rw (before 0 (omega arith)) (find_set_here xs i y d (omega arith) (λ k less. before (suc k) (omega arith)) h)

  find_set_other : (xs : List X) (i : ℕ) (y d : X) → test (get_or xs i d) ≡ false → test y ≡ false → find test (set xs i y) ≡ find test xs
  find_set_other [] i y d old new = refl
  find_set_other (x ∷ xs) zero y d old new = rw (old, new) refl
  find_set_other (x ∷ xs) (suc i) y d old new = ap (λ o. cond (test x) (Some x) o) (find_set_other xs i y d old new)

  find_push : (xs : List X) (y : X) → find test xs ≡ None → find test (xs ++ y ∷ []) ≡ cond (test y) (Some y) None
  find_push [] y none = refl
  find_push (x ∷ xs) y none = elim (test x) as (λ b. cond b (Some x) (find test xs) ≡ None → cond b (Some x) (find test (xs ++ y ∷ [])) ≡ cond (test y) (Some y) None) [
    | true ↦ λ e. absurd (cc)
    | false ↦ λ e. find_push xs y e
  ] none

  find_push_other : (xs : List X) (y : X) → test y ≡ false → find test (xs ++ y ∷ []) ≡ find test xs
  find_push_other [] y e = rw e refl
  find_push_other (x ∷ xs) y e = ap (λ o. cond (test x) (Some x) o) (find_push_other xs y e)

  any_set : (xs : List X) (i : ℕ) (y d : X) → test (get_or xs i d) ≡ false → list_any test xs ≡ true → list_any test (set xs i y) ≡ true
  any_set [] i y d old h = h
  any_set (x ∷ xs) zero y d old h = either_true (test y) (list_any test xs) (right_of (test x) (list_any test xs) old h)
  any_set (x ∷ xs) (suc i) y d old h = elim (test x) as (λ b. (b || list_any test xs) ≡ true → (b || list_any test (set xs i y)) ≡ true) [
    | true ↦ λ e. refl
    | false ↦ λ e. any_set xs i y d old e
  ] h

  any_put : (xs : List X) (i : ℕ) (y : X) → i < length xs → test y ≡ true → list_any test (set xs i y) ≡ true
  any_put [] i y lt h = absurd (omega arith)
  any_put (x ∷ xs) zero y lt h = left_true (test y) (list_any test xs) h
  any_put (x ∷ xs) (suc i) y lt h = either_true (test x) (list_any test (set xs i y)) (any_put xs i y (omega arith) h)

  any_without : (xs : List X) (i : ℕ) (d : X) → test (get_or xs i d) ≡ false → list_any test xs ≡ true → list_any test (remove xs i) ≡ true
  any_without [] i d old h = absurd (true≢false (sym h))
  any_without (x ∷ xs) zero d old h = right_of (test x) (list_any test xs) old h
  any_without (x ∷ xs) (suc i) d old h = elim (test x) as (λ b. (b || list_any test xs) ≡ true → (b || list_any test (remove xs i)) ≡ true) [
    | true ↦ λ e. refl
    | false ↦ λ e. any_without xs i d old e
  ] h

-- ---- files and spares

-- a shape of another path is another
other_shape : (shape other : Shape) → has_shape_path shape.path other ≡ false → same_shape shape other ≡ false
other_shape shape other e = rw e refl

-- a file and a spare of one path change places
module _ (files spares : List Shape) (i j : ℕ) (old spare : Shape) (path : List ℕ)
    (in_files : i < length files) (in_spares : j < length spares) (is_old : old ≡ get_or files i old) (is_spare : spare ≡ get_or spares j spare)
    (before : FailsBefore (has_shape_path path) files i old) (old_path : old.path ≡ path) (spare_path : spare.path ≡ path)
  where
    swapped : (shape : Shape) (b c : Bool) → same_shape shape spare ≡ b → same_shape shape old ≡ c → (c || list_any (same_shape shape) spares) ≡ true → (b || list_any (same_shape shape) (set spares j old)) ≡ true
    swapped shape true c is was held = refl
    swapped shape false true is was held = any_put (same_shape shape) spares j old in_spares was
    swapped shape false false is was held = any_set (same_shape shape) spares j old spare (ap (same_shape shape) (sym is_spare) ∙ is) held

    others_stay : (shape : Shape) (a : Bool) → same_shape shape spare ≡ false → (a || list_any (same_shape shape) spares) ≡ true → (a || list_any (same_shape shape) (set spares j old)) ≡ true
    others_stay shape true other held = refl
    others_stay shape false other held = any_set (same_shape shape) spares j old spare (ap (same_shape shape) (sym is_spare) ∙ other) held

    same_path : (shape : Shape) → same_bytes path shape.path ≡ true → is_ready files spares shape ≡ true → is_ready (set files i spare) (set spares j old) shape ≡ true
    same_path shape same h =
        let e : path ≡ shape.path = same_text path shape.path (sym same) in
        let test = has_shape_path shape.path in
        let fails : FailsBefore test files i old = subst (λ p. FailsBefore (has_shape_path p) files i old) e before in
        let passes_old : test old ≡ true = ap (λ p. same_bytes p shape.path) old_path ∙ same in
        let passes_spare : test spare ≡ true = ap (λ p. same_bytes p shape.path) spare_path ∙ same in
        let was : find test files ≡ Some old = find_here test files i old in_files fails (ap test (sym is_old) ∙ passes_old) ∙ ap (λ x. Some x) (sym is_old) in
        let now : find test (set files i spare) ≡ Some spare = find_set_here test files i spare old in_files fails passes_spare in
        let held : (same_shape shape old || list_any (same_shape shape) spares) ≡ true = ap (λ o. has_value (same_shape shape) o || list_any (same_shape shape) spares) (sym was) ∙ h in
        ap (λ o. has_value (same_shape shape) o || list_any (same_shape shape) (set spares j old)) now ∙ swapped shape _ _ refl refl held

    other_path : (shape : Shape) → same_bytes path shape.path ≡ false → is_ready files spares shape ≡ true → is_ready (set files i spare) (set spares j old) shape ≡ true
    other_path shape other h =
        let test = has_shape_path shape.path in
        let fails_old : test old ≡ false = ap (λ p. same_bytes p shape.path) old_path ∙ other in
        let fails_spare : test spare ≡ false = ap (λ p. same_bytes p shape.path) spare_path ∙ other in
        let same : find test (set files i spare) ≡ find test files = find_set_other test files i spare old (ap test (sym is_old) ∙ fails_old) fails_spare in
        ap (λ o. has_value (same_shape shape) o || list_any (same_shape shape) (set spares j old)) same ∙ others_stay shape (has_value (same_shape shape) (find test files)) (other_shape shape spare fails_spare) h

    pub swap_stays : (shape : Shape) → is_ready files spares shape ≡ true → is_ready (set files i spare) (set spares j old) shape ≡ true
    swap_stays shape h = by_path (same_bytes path shape.path) refl
      where
        by_path : (b : Bool) → same_bytes path shape.path ≡ b → is_ready (set files i spare) (set spares j old) shape ≡ true
        by_path true e = same_path shape e h
        by_path false e = other_path shape e h

-- a spare of a path that the card does not have joins its files
module _ (files spares : List Shape) (j : ℕ) (spare : Shape) (path : List ℕ)
    (is_spare : spare ≡ get_or spares j spare) (none : find (has_shape_path path) files ≡ None) (spare_path : spare.path ≡ path)
  where
    joined : (shape : Shape) (b : Bool) → same_shape shape spare ≡ b → list_any (same_shape shape) spares ≡ true → (b || list_any (same_shape shape) (remove spares j)) ≡ true
    joined shape true is held = refl
    joined shape false is held = any_without (same_shape shape) spares j spare (ap (same_shape shape) (sym is_spare) ∙ is) held

    same_path_joins : (shape : Shape) → same_bytes path shape.path ≡ true → is_ready files spares shape ≡ true → is_ready (files ++ spare ∷ []) (remove spares j) shape ≡ true
    same_path_joins shape same h =
        let e : path ≡ shape.path = same_text path shape.path (sym same) in
        let test = has_shape_path shape.path in
        let was : find test files ≡ None = subst (λ p. find (has_shape_path p) files ≡ None) e none in
        let passes : test spare ≡ true = ap (λ p. same_bytes p shape.path) spare_path ∙ same in
        let now : find test (files ++ spare ∷ []) ≡ Some spare = find_push test files spare was ∙ ap (λ b. cond b (Some spare) None) passes in
        let held : list_any (same_shape shape) spares ≡ true = ap (λ o. has_value (same_shape shape) o || list_any (same_shape shape) spares) (sym was) ∙ h in
        ap (λ o. has_value (same_shape shape) o || list_any (same_shape shape) (remove spares j)) now ∙ joined shape _ refl held

    others_join : (shape : Shape) (a : Bool) → same_shape shape spare ≡ false → (a || list_any (same_shape shape) spares) ≡ true → (a || list_any (same_shape shape) (remove spares j)) ≡ true
    others_join shape true other held = refl
    others_join shape false other held = any_without (same_shape shape) spares j spare (ap (same_shape shape) (sym is_spare) ∙ other) held

    other_path_joins : (shape : Shape) → same_bytes path shape.path ≡ false → is_ready files spares shape ≡ true → is_ready (files ++ spare ∷ []) (remove spares j) shape ≡ true
    other_path_joins shape other h =
        let test = has_shape_path shape.path in
        let fails : test spare ≡ false = ap (λ p. same_bytes p shape.path) spare_path ∙ other in
        ap (λ o. has_value (same_shape shape) o || list_any (same_shape shape) (remove spares j)) (find_push_other test files spare fails) ∙ others_join shape (has_value (same_shape shape) (find test files)) (other_shape shape spare fails) h

    pub join_stays : (shape : Shape) → is_ready files spares shape ≡ true → is_ready (files ++ spare ∷ []) (remove spares j) shape ≡ true
    join_stays shape h = by_path (same_bytes path shape.path) refl
      where
        by_path : (b : Bool) → same_bytes path shape.path ≡ b → is_ready (files ++ spare ∷ []) (remove spares j) shape ≡ true
        by_path true e = same_path_joins shape e h
        by_path false e = other_path_joins shape e h

-- ---- shapes

first : (a b : Bool) → (a && b) ≡ true → a ≡ true
first true b e = refl
first false b e = e

second : (a b : Bool) → (a && b) ≡ true → b ≡ true
second true b e = e
second false b e = absurd (cc)

both : (a b : Bool) → a ≡ true → b ≡ true → (a && b) ≡ true
both true b e h = h
both false b e h = absurd (true≢false (sym e))

kind_of_same : (a b : FileKind) → same_kind a b ≡ true → a ≡ b
kind_of_same Transparent Transparent e = refl
kind_of_same Transparent Linear e = absurd (true≢false (sym e))
kind_of_same Transparent Directory e = absurd (true≢false (sym e))
kind_of_same Linear Transparent e = absurd (true≢false (sym e))
kind_of_same Linear Linear e = refl
kind_of_same Linear Directory e = absurd (true≢false (sym e))
kind_of_same Directory Transparent e = absurd (true≢false (sym e))
kind_of_same Directory Linear e = absurd (true≢false (sym e))
kind_of_same Directory Directory e = refl

same_kind_itself : (kind : FileKind) → same_kind kind kind ≡ true
same_kind_itself Transparent = refl
same_kind_itself Linear = refl
same_kind_itself Directory = refl

number_of_same : (a b : Option ℕ) → same_number a b ≡ true → a ≡ b
number_of_same None None e = refl
number_of_same None (Some b) e = absurd (true≢false (sym e))
number_of_same (Some a) None e = absurd (true≢false (sym e))
number_of_same (Some a) (Some b) e = ap (λ n. Some n) (eqb-true a b e)

same_number_itself : (a : Option ℕ) → same_number a a ≡ true
same_number_itself None = refl
same_number_itself (Some a) = eq-eqb a a refl

pub record SameParts (a b : Shape) : Type 0 where
  pub path : b.path ≡ a.path
  pub kind : a.kind ≡ b.kind
  pub width : a.width ≡ b.width
  pub count : a.count ≡ b.count
  pub template : a.template ≡ b.template

pub same_parts : (a b : Shape) → same_shape a b ≡ true → SameParts a b
same_parts a b e =
    let path = same_bytes b.path a.path in
    let kind = same_kind a.kind b.kind in
    let width = a.width == b.width in
    let count = a.count == b.count in
    let template = same_number a.template b.template in
    let four = first (path && kind && width && count) template e in
    let three = first (path && kind && width) count four in
    let two = first (path && kind) width three in
    record {
      path = same_text b.path a.path (sym (first path kind two));
      kind = kind_of_same a.kind b.kind (second path kind two);
      width = eqb-true a.width b.width (second (path && kind) width three);
      count = eqb-true a.count b.count (second (path && kind && width) count four);
      template = number_of_same a.template b.template (second (path && kind && width && count) template e);
    }

pub same_shapes : (a b : Shape) → SameParts a b → b ≡ a
same_shapes a b parts = rw (parts.path, parts.kind, parts.width, parts.count, parts.template) refl

pub same_shape_itself : (a : Shape) → same_shape a a ≡ true
same_shape_itself a =
    both _ _ (both _ _ (both _ _ (both _ _ (nat_list_eq_equiv.refl a.path) (same_kind_itself a.kind)) (eq-eqb a.width a.width refl)) (eq-eqb a.count a.count refl)) (same_number_itself a.template)

-- ---- files

pub shape_at : (xs : List FileState) (i : ℕ) (x : FileState) → x ≡ get_or xs i x → shape_of x ≡ get_or (shapes xs) i (shape_of x)
shape_at xs i x e = ap shape_of e ∙ sym (get_or-map shape_of xs i x)

-- a file of the new one's path changes places with a spare of its shape
pub files_swap : (files spares : List FileState) (i j : ℕ) (old spare new : FileState) → position (has_path new.path) files ≡ Some i → j < length spares → old ≡ get_or files i old → spare ≡ get_or spares j spare → same_shape (shape_of new) (shape_of spare) ≡ true → StaysReady files spares (set files i spare) (set spares j old)
files_swap files spares i j old spare new at within is_old is_spare same shape h =
    let facts = position-Some (has_path new.path) files i old at in
    let fits = same_parts (shape_of new) (shape_of spare) same in
    let old_path : old.path ≡ new.path = same_text old.path new.path (sym (ap (has_path new.path) is_old ∙ facts.1)) in
    rw (map-set shape_of files i spare, map-set shape_of spares j old)
    (swap_stays (shapes files) (shapes spares) i j (shape_of old) (shape_of spare) new.path
    (rw (length-map files shape_of) facts.0) (rw (length-map spares shape_of) within) (shape_at files i old is_old) (shape_at spares j spare is_spare)
    (λ k less. ap (has_shape_path new.path) (get_or-map shape_of files k old) ∙ facts.2 k less)
    old_path fits.path shape h)

-- no file has the path
none_by : (b : Bool) (path : List ℕ) (file : FileState) (files : List FileState) → has_path path file ≡ b → (length files ≤ position_or_len (has_path path) files → find (has_shape_path path) (shapes files) ≡ None) → suc (length files) ≤ cond (not (has_path path file)) (1 + position_or_len (has_path path) files) 0 → find (has_shape_path path) (shapes (file ∷ files)) ≡ None
none_by true path file files is rest e = let f : suc (length files) ≤ 0 = subst (λ b. suc (length files) ≤ cond (not b) (1 + position_or_len (has_path path) files) 0) is e in absurd (omega (arith, f))
none_by false path file files is rest e =
    let f : suc (length files) ≤ 1 + position_or_len (has_path path) files = subst (λ b. suc (length files) ≤ cond (not b) (1 + position_or_len (has_path path) files) 0) is e in
    ap (λ b. cond b (Some (shape_of file)) (find (has_shape_path path) (shapes files))) is ∙ rest (omega (arith, f))

none_from : (path : List ℕ) (files : List FileState) → length files ≤ position_or_len (has_path path) files → find (has_shape_path path) (shapes files) ≡ None
none_from path [] e = refl
none_from path (file ∷ files) e = none_by _ path file files refl (none_from path files) e

none_only : (b : Bool) (n : ℕ) → cond b (Some n) None ≡ None → b ≡ false
none_only true n e = absurd (cc)
none_only false n e = refl

pub none_of : (path : List ℕ) (files : List FileState) → position (has_path path) files ≡ None → find (has_shape_path path) (shapes files) ≡ None
none_of path files e = none_from path files (ltb-false _ _ (none_only _ _ e))

map_without : (spares : List FileState) (j : ℕ) → shapes (remove spares j) ≡ remove (shapes spares) j
map_without spares j = map-append shape_of (take j spares) (drop (suc j) spares) ∙ ap (λ l. l ++ shapes (drop (suc j) spares)) (sym (take-map shape_of j spares)) ∙ ap (λ l. take j (shapes spares) ++ l) (sym (drop-map shape_of (suc j) spares))

-- a spare of a new path joins the files, written over by the new one
pub files_join : (files spares : List FileState) (j : ℕ) (spare new : FileState) → position (has_path new.path) files ≡ None → spare ≡ get_or spares j spare → same_shape (shape_of new) (shape_of spare) ≡ true → StaysReady files spares (files ++ new ∷ []) (remove spares j)
files_join files spares j spare new none is_spare same shape h =
    let fits = same_parts (shape_of new) (shape_of spare) same in
    let one : shape_of spare ≡ shape_of new = same_shapes (shape_of new) (shape_of spare) fits in
    rw (map-append shape_of files (new ∷ []), map_without spares j, sym one)
    (join_stays (shapes files) (shapes spares) j (shape_of spare) new.path (shape_at spares j spare is_spare) (none_of new.path files none) fits.path shape h)

-- ---- the spare of a shape

any_by : (b : Bool) (new file : FileState) (files : List FileState) → fits new file ≡ b → (length files ≤ position_or_len (fits new) files → list_any (fits new) files ≡ false) → suc (length files) ≤ cond (not (fits new file)) (1 + position_or_len (fits new) files) 0 → list_any (fits new) (file ∷ files) ≡ false
any_by true new file files is rest e = let f : suc (length files) ≤ 0 = subst (λ b. suc (length files) ≤ cond (not b) (1 + position_or_len (fits new) files) 0) is e in absurd (omega (arith, f))
any_by false new file files is rest e =
    let f : suc (length files) ≤ 1 + position_or_len (fits new) files = subst (λ b. suc (length files) ≤ cond (not b) (1 + position_or_len (fits new) files) 0) is e in
    ap (λ b. b || list_any (fits new) files) is ∙ rest (omega (arith, f))

any_from : (new : FileState) (files : List FileState) → length files ≤ position_or_len (fits new) files → list_any (fits new) files ≡ false
any_from new [] e = refl
any_from new (file ∷ files) e = any_by _ new file files refl (any_from new files) e

pub no_spare : (new : FileState) (spares : List FileState) → position (fits new) spares ≡ None → list_any (fits new) spares ≡ true → ⊥
no_spare new spares none any = true≢false (sym any ∙ any_from new spares (ltb-false _ _ (none_only _ _ none)))

pub spare_fits : (new : FileState) (spares : List FileState) (i : ℕ) → position (fits new) spares ≡ Some i → IfSome (slice_get spares i) (λ spare. fits new spare ≡ true)
spare_fits new spares i at =
    let facts = position-Some (fits new) spares i new at in
    subst (λ o. IfSome o (λ spare. fits new spare ≡ true)) (sym (slice_get-get_or spares i new facts.0)) facts.1
