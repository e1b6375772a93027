-- What the rows of a main file name.
use Rattle.std.proofs.Common.{◌≡◌, ◌≢◌, ◌<◌, ◌+◌, ◌-◌, ◌==◌, ◌&&◌, ◌||◌, ℕ, zero, suc, Bool, true, false, cond, List, [], ◌∷◌, ◌++◌, length, take, drop, get_or, replicate, Option, Some, None, refl, sym, ap, ◌∙◌, arith, append_assoc, append-nil, get_or-set_other}
use Rattle.std.proofs.Math.ListN.{set, drop_of_length-le}
use Rattle.std.proofs.lemmas.List.{map-set, get_or-replicate, length-replicate, drop_more, length-append, take_all, length-drop}
use Rattle.std.proofs.lemmas.List.Folds.{list_any_more}
use Rattle.std.proofs.lemmas.Grind.{get_or-set_at}
use Rattle.std.proofs.lemmas.Option.{slice_get_within, get_or_from_slice_get, none-some}
use Rattle.std.proofs.lemmas.Bool.Decides.{nat_tests}
use Rattle.std.proofs.lemmas.Bool.{eqb-true}
use Rattle.std.specs.Prelude.{slice_get, nat_le}
use Rattle.apdu.specs.Words.{has_value, is_between}
use Rattle.adn.specs.Book.{book_row}
use Rattle.families.specs.Plans.{is_free, named_number, named_extension, is_named}
use Rattle.book_plans.specs.Phonebook.{names_of, is_among, marked}

-- ---- among the names

pub is_named_names : (ext rows : List (List ℕ)) (n : ℕ) → is_named ext rows n ≡ is_among (names_of ext rows) n
is_named_names ext [] n = refl
is_named_names ext (row ∷ rows) n = ap (λ b. has_value (λ m. m == n) (named_extension ext row) || b) (is_named_names ext rows n)

or_assoc : (a b c : Bool) → (a || (b || c)) ≡ ((a || b) || c)
or_assoc true b c = refl
or_assoc false b c = refl

is_among_but : (names : List (Option ℕ)) (i j n : ℕ) → j ≡ i + 1 → i < length names → is_among (set names i None) n ≡ (is_among (take i names) n || is_among (drop j names) n)
is_among_but [] i j n e within = absurd (omega arith)
is_among_but (name ∷ names) zero zero n e within = absurd (omega arith)
is_among_but (name ∷ names) zero (suc j) n e within = let none : j ≡ 0 = omega arith in sym (ap (λ k. is_among (drop k names) n) none)
is_among_but (name ∷ names) (suc i) zero n e within = absurd (omega arith)
is_among_but (name ∷ names) (suc i) (suc j) n e within =
    ap (λ b. has_value (λ m. m == n) name || b) (is_among_but names i j n (omega arith) (omega arith))
    ∙ or_assoc (has_value (λ m. m == n) name) (is_among (take i names) n) (is_among (drop j names) n)

-- among the names but for one
pub is_among_others : (names : List (Option ℕ)) (i n : ℕ) → i < length names → is_among (set names i None) n ≡ (is_among (take i names) n || is_among (drop (i + 1) names) n)
is_among_others names i n within = is_among_but names i (i + 1) n refl within

first_true : (a b r : Bool) → r ≡ a → r ≡ true → r ≡ (a || b)
first_true true b r e t = t
first_true false b r e t = cc

first_false : (a b s : Bool) → false ≡ a → s ≡ b → s ≡ (a || b)
first_false true b s e f = cc
first_false false b s e f = f

pub among_before : (names : List (Option ℕ)) (i n : ℕ) (r : Bool) → i < length names → r ≡ is_among (take i names) n → r ≡ true → r ≡ is_among (set names i None) n
among_before names i n r within e t = first_true (is_among (take i names) n) (is_among (drop (i + 1) names) n) r e t ∙ sym (is_among_others names i n within)

pub among_behind : (names : List (Option ℕ)) (i n : ℕ) (r s : Bool) → i < length names → r ≡ is_among (take i names) n → r ≡ false → s ≡ is_among (take (length names - (i + 1)) (drop (i + 1) names)) n → s ≡ is_among (set names i None) n
among_behind names i n r s within e f rest =
    let all : take (length names - (i + 1)) (drop (i + 1) names) ≡ drop (i + 1) names = take_all (length names - (i + 1)) (drop (i + 1) names) (omega (arith, length-drop (i + 1) names)) in
    first_false (is_among (take i names) n) (is_among (drop (i + 1) names) n) s (sym f ∙ e) (rest ∙ ap (λ xs. is_among xs n) all) ∙ sym (is_among_others names i n within)

-- ---- a row without an entry names none

last_fill : (w : ℕ) → is_between 1 254 (get_or (replicate w 255) (length {A = ℕ} (replicate w 255) - 1) 0) ≡ false
last_fill zero = refl
last_fill (suc w) =
    let at : length {A = ℕ} (replicate (suc w) 255) - 1 ≡ w = omega (arith, length-replicate {A = ℕ} (suc w) 255) in
    rw at (rw (get_or-replicate {A = ℕ} (suc w) w 255 0 (omega arith)) refl)

and_first : (a b : Bool) → a ≡ false → (a && b) ≡ false
and_first true b e = cc
and_first false b e = refl

none_by : (b : Bool) (n : ℕ) → b ≡ false → cond b (Some n) None ≡ None
none_by true n e = cc
none_by false n e = refl

none_either : (b : Bool) (x : Option ℕ) → x ≡ None → cond b None x ≡ None
none_either true x e = refl
none_either false x e = e

pub named_extension-fill : (ext : List (List ℕ)) (w : ℕ) → named_extension ext (replicate w 255) ≡ None
named_extension-fill ext w =
    let last = get_or (replicate w 255) (length {A = ℕ} (replicate w 255) - 1) 0 in
    none_either (is_free (book_row ext (replicate w 255))) (named_number ext (replicate w 255))
    (none_by _ last (and_first (is_between 1 254 last) (nat_le last (length ext)) (last_fill w)))

-- some row but this one names the number
pub is_named_without : (ext rows : List (List ℕ)) (i w n : ℕ) → is_named ext (set rows i (replicate w 255)) n ≡ is_among (set (names_of ext rows) i None) n
is_named_without ext rows i w n =
    is_named_names ext (set rows i (replicate w 255)) n
    ∙ ap (λ names. is_among names n) (map-set (named_extension ext) rows i (replicate w 255))
    ∙ ap (λ name. is_among (set (names_of ext rows) i name) n) (named_extension-fill ext w)

-- ---- marks

or_false : (a b : Bool) → b ≡ false → a ≡ (a || b)
or_false true b e = refl
or_false false b e = sym e

or_true : (a b : Bool) → b ≡ true → true ≡ (a || b)
or_true true b e = refl
or_true false b e = sym e

marked-at : (marks : List Bool) (m n : ℕ) → length marks ≡ 256 → n < 256 → (b : Bool) → (m == n) ≡ b → get_or (set marks m true) n true ≡ (get_or marks n true || (m == n))
marked-at marks m n len small true e =
    let same : m ≡ n = eqb-true m n e in
    get_or-set_at marks m n true true (sym same) (omega arith) ∙ or_true (get_or marks n true) (m == n) e
marked-at marks m n len small false e =
    let other : n ≢ m = grind (arith, nat_tests) in
    get_or-set_other marks m n true true other ∙ or_false (get_or marks n true) (m == n) e

marked-get : (marks : List Bool) (name : Option ℕ) (n : ℕ) → length marks ≡ 256 → n < 256 → get_or (marked marks name) n true ≡ (get_or marks n true || has_value (λ m. m == n) name)
marked-get marks None n len small = or_false (get_or marks n true) false refl
marked-get marks (Some m) n len small = marked-at marks m n len small (m == n) refl

-- the marks tell the names so far, and with one more name too
pub marked_more : (names : List (Option ℕ)) (marks : List Bool) (i : ℕ) → length marks ≡ 256 → i < length names → ((n : ℕ) → n < 256 → get_or marks n true ≡ is_among (take i names) n)
    → (n : ℕ) → n < 256 → get_or (marked marks (get_or names i None)) n true ≡ is_among (take (i + 1) names) n
marked_more names marks i len within so_far n small =
    marked-get marks (get_or names i None) n len small
    ∙ ap (λ b. b || has_value (λ m. m == n) (get_or names i None)) (so_far n small)
    ∙ sym (list_any_more (has_value (λ m. m == n)) names i None within)

-- ---- the loop over the main rows

next : (rows : List (List ℕ)) (i : ℕ) (row : List ℕ) → slice_get rows i ≡ Some row → drop i rows ≡ row ∷ drop (i + 1) rows
next rows i row e = drop_more rows i row (slice_get_within rows i row e) ∙ ap (λ y. y ∷ drop (i + 1) rows) (get_or_from_slice_get rows i row row e)

left : (rows : List (List ℕ)) (i : ℕ) → slice_get rows i ≡ None → drop i rows ≡ []
left [] i e = drop_of_length-le [] (omega arith)
left (row ∷ rows) zero e = absurd (none-some row (sym e))
left (row ∷ rows) (suc i) e = left rows i e

-- one name more
pub name_read : (ext rows : List (List ℕ)) (names new : List (Option ℕ)) (row : List ℕ)
    → names_of ext rows ≡ names ++ names_of ext (drop (length names) rows) → slice_get rows (length names) ≡ Some row → new ≡ names ++ named_extension ext row ∷ []
    → names_of ext rows ≡ new ++ names_of ext (drop (length new) rows)
name_read ext rows names new row before is more =
    before
    ∙ ap (λ xs. names ++ names_of ext xs) (next rows (length names) row is)
    ∙ sym (append_assoc names (named_extension ext row ∷ []) (names_of ext (drop (length names + 1) rows)))
    ∙ ap (λ n. (names ++ named_extension ext row ∷ []) ++ names_of ext (drop n rows)) (sym (length-append names (named_extension ext row ∷ [])))
    ∙ ap (λ (xs : List (Option ℕ)). xs ++ names_of ext (drop (length xs) rows)) (sym more)

-- no row is left
pub names_read : (ext rows : List (List ℕ)) (names : List (Option ℕ))
    → names_of ext rows ≡ names ++ names_of ext (drop (length names) rows) → slice_get rows (length names) ≡ None → names ≡ names_of ext rows
names_read ext rows names before none = sym (before ∙ ap (λ xs. names ++ names_of ext xs) (left rows (length names) none) ∙ append-nil names)
