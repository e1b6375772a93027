-- A book behind an update of one row.
use Rattle.std.proofs.Common.{◌≡◌, ◌≢◌, ◌<◌, ◌≤◌, ◌+◌, ◌-◌, ◌==◌, ◌&&◌, ℕ, zero, suc, Bool, true, false, cond, nat_lt, nat_le, List, [], ◌∷◌, ◌++◌, length, take, drop, get_or, map, Option, Some, None, refl, sym, ap, subst, ◌∙◌, arith, rules, eq-eqb}
use Rattle.std.proofs.Math.ListN.{set}
use Rattle.std.proofs.lemmas.List.{get_or-drop, map-set, length-append, append_assoc}
use Rattle.std.proofs.lemmas.Bool.Decides.{nat_tests}
use Rattle.std.specs.Prelude.{slice_get}
use Rattle.apdu.specs.Words.{is_between, is_empty}
use Rattle.fcp.specs.Content.{Content, with_row, is_linear}
use Rattle.alpha.specs.Names.{decode_name}
use Rattle.bcd.specs.Digits.{read_digits}
use Rattle.adn.specs.declared.entry.BookRow.{BookRow}
use Rattle.adn.specs.declared.entry.BookRow.TheVariants.{Unreadable}
use Rattle.adn.specs.declared.update.Renewed.{Renewed}
use Rattle.adn.specs.Book.{own_bytes, is_international, extension_row, extension_rows, additional_of, signed_digits, entry_row, book_row, main_rows, decode_book}
use Rattle.adn.proofs.Rows.{next, left}
use Rattle.adn.specs.Changed.{WasBook, ends_in, renewed_from, with_renewed}

-- ---- rows of files

rows_by : (b : Bool) (rows : List (List ℕ)) (i : ℕ) (r : List ℕ) → cond b (set rows i r) [] ≡ set (cond b rows []) i r
rows_by true rows i r = refl
rows_by false rows i r = refl

ext_with : (ext : Content) (i : ℕ) (r : List ℕ) → extension_rows (with_row i r ext) ≡ set (extension_rows ext) i r
ext_with ext i r = rows_by (is_linear ext.kind && nat_le 13 ext.width) ext.rows i r

main_with : (main : Content) (i : ℕ) (r : List ℕ) → main_rows (with_row i r main) ≡ set (main_rows main) i r
main_with main i r = rows_by (is_linear main.kind) main.rows i r

get_other : (xs : List (List ℕ)) (i j : ℕ) (y : List ℕ) → i ≢ j → slice_get (set xs i y) j ≡ slice_get xs j
get_other [] i j y apart = refl
get_other (x ∷ xs) zero zero y apart = absurd (apart refl)
get_other (x ∷ xs) zero (suc j) y apart = refl
get_other (x ∷ xs) (suc i) zero y apart = refl
get_other (x ∷ xs) (suc i) (suc j) y apart = get_other xs i j y (λ same. apart (ap suc same))

pub set_past : {A : Type 0} (xs : List A) (i : ℕ) (y : A) → length xs ≤ i → set xs i y ≡ xs
set_past [] i y h = refl
set_past (x ∷ xs) zero y h = absurd (omega arith)
set_past (x ∷ xs) (suc i) y h = ap (λ ys. x ∷ ys) (set_past xs i y (omega arith))

-- ---- a main row that ends in another number

first_and : (a b : Bool) → (a && b) ≡ true → a ≡ true
first_and true b e = refl
first_and false b e = absurd (cc)

at_least : (k : ℕ) → is_between 1 254 k ≡ true → 1 ≤ k
at_least k e = let first = first_and (nat_le 1 k) (nat_le k 254) e in grind (arith, nat_tests)

row_by : (ext : List (List ℕ)) (n k : ℕ) (r : List ℕ) → 1 ≤ n → k ≢ n → (b : Bool) → is_between 1 254 k ≡ b → cond b (slice_get (set ext (n - 1) r) (k - 1)) None ≡ cond b (slice_get ext (k - 1)) None
row_by ext n k r first apart false e = refl
row_by ext n k r first apart true e =
    let some : 1 ≤ k = at_least k e in
    get_other ext (n - 1) (k - 1) r (λ same. apart (omega arith))

last_of : (row : List ℕ) → nat_lt (length row) 14 ≡ false → get_or (drop (length row - 14) row) 13 0 ≡ get_or row (length row - 1) 0
last_of row long =
    let len : 14 ≤ length row = grind (arith, nat_tests) in
    let at : length row - 14 + 13 ≡ length row - 1 = omega arith in
    get_or-drop (length row - 14) row 13 0 ∙ ap (λ i. get_or row i 0) at

-- what a row is whose extension row is this
with_found : List ℕ → Option (List ℕ) → BookRow
with_found row found =
    let f = drop (length row - 14) row in
    cond (is_between 12 254 (get_or f 0 0)) Unreadable
    (entry_row (record {
      name = decode_name (take (length row - 14) row);
      number = cond (is_empty (read_digits (own_bytes f))) [] (signed_digits (is_international f) (read_digits (own_bytes f)) (read_digits (additional_of found)));
    }))

found_row : (ext : List (List ℕ)) (row : List ℕ) → book_row ext row ≡ cond (nat_lt (length row) 14) Unreadable (with_found row (extension_row ext (get_or (drop (length row - 14) row) 13 0)))
unfolding with_found
found_row ext row = refl

kept_by : (ext : List (List ℕ)) (n : ℕ) (r row : List ℕ) → 1 ≤ n → ends_in n row ≡ false → (short : Bool) → nat_lt (length row) 14 ≡ short
    → cond short Unreadable (with_found row (extension_row (set ext (n - 1) r) (get_or (drop (length row - 14) row) 13 0))) ≡ cond short Unreadable (with_found row (extension_row ext (get_or (drop (length row - 14) row) 13 0)))
kept_by ext n r row first other true s = refl
kept_by ext n r row first other false s =
    let last = get_or row (length row - 1) 0 in
    let apart : last ≢ n = λ same. let there : (last == n) ≡ true = eq-eqb last n same in absurd (cc) in
    let other_last : get_or (drop (length row - 14) row) 13 0 ≢ n = λ same. apart (sym (last_of row s) ∙ same) in
    ap (with_found row) (row_by ext n (get_or (drop (length row - 14) row) 13 0) r first other_last (is_between 1 254 (get_or (drop (length row - 14) row) 13 0)) refl)

kept_row : (ext : List (List ℕ)) (n : ℕ) (r row : List ℕ) → 1 ≤ n → ends_in n row ≡ false → book_row (set ext (n - 1) r) row ≡ book_row ext row
kept_row ext n r row first other =
    found_row (set ext (n - 1) r) row ∙ kept_by ext n r row first other (nat_lt (length row) 14) refl ∙ sym (found_row ext row)

-- ---- the renewed rows in their places

set_seam : {A : Type 0} (done xs : List A) (x y : A) → set ((done ++ x ∷ []) ++ xs) (length done) y ≡ done ++ y ∷ xs
set_seam [] xs x y = refl
set_seam (d ∷ done) xs x y = ap (λ ys. d ∷ ys) (set_seam done xs x y)

module _ (ext : List (List ℕ)) (number : ℕ) (f : List ℕ → BookRow) (same : (row : List ℕ) → ends_in number row ≡ false → f row ≡ book_row ext row) where
  put_step : (done : List BookRow) (row : List ℕ) (rows : List (List ℕ)) (b : Bool) → ends_in number row ≡ b
      → with_renewed ((done ++ f row ∷ []) ++ map f rows) (renewed_from ext number (length done + 1) rows) ≡ (done ++ f row ∷ []) ++ map (book_row ext) rows
      → with_renewed (done ++ f row ∷ map f rows) (cond b (record { index = length done; row = book_row ext row } ∷ renewed_from ext number (length done + 1) rows) (renewed_from ext number (length done + 1) rows)) ≡ done ++ book_row ext row ∷ map (book_row ext) rows
  put_step done row rows true is rest =
      ap (λ book. set (with_renewed book (renewed_from ext number (length done + 1) rows)) (length done) (book_row ext row)) (sym (append_assoc done (f row ∷ []) (map f rows)))
      ∙ ap (λ book. set book (length done) (book_row ext row)) rest
      ∙ set_seam done (map (book_row ext) rows) (f row) (book_row ext row)
  put_step done row rows false is rest =
      ap (λ book. with_renewed book (renewed_from ext number (length done + 1) rows)) (sym (append_assoc done (f row ∷ []) (map f rows)))
      ∙ rest
      ∙ append_assoc done (f row ∷ []) (map (book_row ext) rows)
      ∙ ap (λ x. done ++ x ∷ map (book_row ext) rows) (same row is)

  put_from : (done : List BookRow) (rows : List (List ℕ)) → with_renewed (done ++ map f rows) (renewed_from ext number (length done) rows) ≡ done ++ map (book_row ext) rows
  put_from done [] = refl
  put_from done (row ∷ rows) =
      let rest = subst (λ n. with_renewed ((done ++ f row ∷ []) ++ map f rows) (renewed_from ext number n rows) ≡ (done ++ f row ∷ []) ++ map (book_row ext) rows)
      (length-append done (f row ∷ [])) (put_from (done ++ f row ∷ []) rows) in
      put_step done row rows (ends_in number row) refl rest

pub all_put : (ext : List (List ℕ)) (n : ℕ) (r : List ℕ) (rows : List (List ℕ)) → 1 ≤ n
    → with_renewed (map (book_row ext) rows) (renewed_from (set ext (n - 1) r) n 0 rows) ≡ map (book_row (set ext (n - 1) r)) rows
all_put ext n r rows first = put_from (set ext (n - 1) r) n (book_row ext) (λ row other. sym (kept_row ext n r row first other)) [] rows

pub last_put : (book : List BookRow) (list : List Renewed) (r : Renewed) → with_renewed book (list ++ r ∷ []) ≡ with_renewed (set book r.index r.row) list
last_put book [] r = refl
last_put book (x ∷ list) r = ap (λ b. set b x.index x.row) (last_put book list r)

renewed_first : (ext : List (List ℕ)) (n i : ℕ) (row : List ℕ) (rows : List (List ℕ)) (b : Bool) → ends_in n row ≡ b
    → cond b (record { index = i; row = book_row ext row } ∷ renewed_from ext n (i + 1) rows) (renewed_from ext n (i + 1) rows) ≡ cond b (record { index = i; row = book_row ext row } ∷ []) [] ++ renewed_from ext n (i + 1) rows
renewed_first ext n i row rows true e = refl
renewed_first ext n i row rows false e = refl

-- one row more
pub renewed_more : (ext : List (List ℕ)) (n i : ℕ) (rows : List (List ℕ)) (all list new : List Renewed) (row : List ℕ)
    → all ≡ list ++ renewed_from ext n i (drop i rows) → slice_get rows i ≡ Some row → new ≡ list ++ renewed_from ext n i (row ∷ [])
    → all ≡ new ++ renewed_from ext n (i + 1) (drop (i + 1) rows)
renewed_more ext n i rows all list new row before is more =
    before
    ∙ ap (λ rest. list ++ renewed_from ext n i rest) (next rows i row is)
    ∙ ap (λ rest. list ++ rest) (renewed_first ext n i row (drop (i + 1) rows) (ends_in n row) refl)
    ∙ sym (append_assoc list (renewed_from ext n i (row ∷ [])) (renewed_from ext n (i + 1) (drop (i + 1) rows)))
    ∙ ap (λ xs. xs ++ renewed_from ext n (i + 1) (drop (i + 1) rows)) (sym more)

-- no row is left
pub renewed_all : (ext : List (List ℕ)) (n i : ℕ) (rows : List (List ℕ)) (all list : List Renewed)
    → all ≡ list ++ renewed_from ext n i (drop i rows) → slice_get rows i ≡ None → list ≡ all
renewed_all ext n i rows all list before none = sym (before ∙ ap (λ rest. list ++ renewed_from ext n i rest) (left rows i none) ∙ search rules)

-- ---- books

-- behind an update of a main row
main_book : (main ext : Content) (i : ℕ) (r : List ℕ) → decode_book (with_row i r main) ext ≡ set (decode_book main ext) i (book_row (extension_rows ext) r)
main_book main ext i r = ap (map (book_row (extension_rows ext))) (main_with main i r) ∙ map-set (book_row (extension_rows ext)) (main_rows main) i r

get_same : (xs : List (List ℕ)) (i : ℕ) (x y : List ℕ) → slice_get (set xs i y) i ≡ Some x → x ≡ y
get_same [] i x y e = absurd (cc)
get_same (z ∷ xs) zero x y e = cc
get_same (z ∷ xs) (suc i) x y e = get_same xs i x y e

get_none : (xs : List (List ℕ)) (i : ℕ) (y : List ℕ) → slice_get (set xs i y) i ≡ None → length xs ≤ i
get_none [] i y e = omega arith
get_none (z ∷ xs) zero y e = absurd (cc)
get_none (z ∷ xs) (suc i) y e = let rest = get_none xs i y e in omega arith

-- the row's new bytes were decoded and put in its place
pub row_redecoded : (main ext : Content) (n : ℕ) (book : List BookRow) (row : List ℕ) → WasBook 0 n main ext book → slice_get main.rows (n - 1) ≡ Some row → set book (n - 1) (book_row (extension_rows ext) row) ≡ decode_book main ext
row_redecoded main ext n book row w is =
    let same : row ≡ w.bytes = get_same w.main_before.rows (n - 1) row w.bytes (ap (λ (c : Content). slice_get c.rows (n - 1)) (sym w.main) ∙ is) in
    let e : ext ≡ w.ext_before = w.ext in
    ap (λ b. set b (n - 1) (book_row (extension_rows ext) row)) w.decoded
    ∙ ap (λ r. set (decode_book w.main_before w.ext_before) (n - 1) (book_row (extension_rows ext) r)) same
    ∙ ap (λ (c : Content). set (decode_book w.main_before c) (n - 1) (book_row (extension_rows ext) w.bytes)) (sym e)
    ∙ sym (main_book w.main_before ext (n - 1) w.bytes)
    ∙ ap (λ (c : Content). decode_book c ext) (sym w.main)

-- there is no such row
pub none_redecoded : (main ext : Content) (n : ℕ) (book : List BookRow) → WasBook 0 n main ext book → slice_get main.rows (n - 1) ≡ None → book ≡ decode_book main ext
none_redecoded main ext n book w none =
    let past : length w.main_before.rows ≤ n - 1 = get_none w.main_before.rows (n - 1) w.bytes (ap (λ (c : Content). slice_get c.rows (n - 1)) (sym w.main) ∙ none) in
    let same : with_row (n - 1) w.bytes w.main_before ≡ w.main_before =
    ap (λ rows. let c : Content = record { kind = w.main_before.kind; width = w.main_before.width; rows = rows } in c) (set_past w.main_before.rows (n - 1) w.bytes past) in
    w.decoded ∙ ap (λ (c : Content). decode_book w.main_before c) (sym w.ext) ∙ ap (λ (c : Content). decode_book c ext) (sym (w.main ∙ same))

linear_rows : (main : Content) → is_linear main.kind ≡ true → main_rows main ≡ main.rows
linear_rows main e = by (is_linear main.kind) e
  where
    by : (b : Bool) → b ≡ true → cond b main.rows [] ≡ main.rows
    by true h = refl
    by false h = absurd (cc)

no_rows : (main : Content) → is_linear main.kind ≡ false → main_rows main ≡ []
no_rows main e = by (is_linear main.kind) e
  where
    by : (b : Bool) → b ≡ false → cond b main.rows [] ≡ []
    by true h = absurd (cc)
    by false h = refl

-- the main rows that end in the number of the extension row were decoded and put in their places
pub naming_redecoded : (main ext : Content) (n : ℕ) (book : List BookRow) → 1 ≤ n → WasBook 1 n main ext book → is_linear main.kind ≡ true → with_renewed book (renewed_from (extension_rows ext) n 0 main.rows) ≡ decode_book main ext
naming_redecoded main ext n book first w linear =
    let rows : List (List ℕ) = main_rows main in
    let same : main ≡ w.main_before = w.main in
    let behind : extension_rows ext ≡ set (extension_rows w.ext_before) (n - 1) w.bytes = ap extension_rows w.ext ∙ ext_with w.ext_before (n - 1) w.bytes in
    ap (λ b. with_renewed b (renewed_from (extension_rows ext) n 0 main.rows)) (w.decoded ∙ ap (λ (c : Content). map (book_row (extension_rows w.ext_before)) (main_rows c)) (sym same))
    ∙ ap (λ r. with_renewed (map (book_row (extension_rows w.ext_before)) rows) (renewed_from (extension_rows ext) n 0 r)) (sym (linear_rows main linear))
    ∙ ap (λ e. with_renewed (map (book_row (extension_rows w.ext_before)) rows) (renewed_from e n 0 rows)) behind
    ∙ all_put (extension_rows w.ext_before) n w.bytes rows first
    ∙ ap (λ e. map (book_row e) rows) (sym behind)

-- a main file that is not linear has no rows
pub nothing_redecoded : (main ext : Content) (n : ℕ) (book : List BookRow) → WasBook 1 n main ext book → is_linear main.kind ≡ false → book ≡ decode_book main ext
nothing_redecoded main ext n book w other =
    let same : main ≡ w.main_before = w.main in
    w.decoded
    ∙ ap (λ (c : Content). map (book_row (extension_rows w.ext_before)) (main_rows c)) (sym same)
    ∙ ap (map (book_row (extension_rows w.ext_before))) (no_rows main other)
    ∙ ap (map (book_row (extension_rows ext))) (sym (no_rows main other))

pub was_extension : (file n : ℕ) (main ext : Content) (book : List BookRow) → (file == 0) ≡ false → WasBook file n main ext book → WasBook 1 n main ext book
was_extension file n main ext book other w = record {
  main_before = w.main_before;
  ext_before = w.ext_before;
  bytes = w.bytes;
  decoded = w.decoded;
  main = w.main ∙ by (file == 0) (with_row (n - 1) w.bytes w.main_before) w.main_before other;
  ext = w.ext ∙ by (file == 0) w.ext_before (with_row (n - 1) w.bytes w.ext_before) other;
}
  where
    by : {A : Type 0} (b : Bool) (x y : A) → b ≡ false → cond b x y ≡ y
    by true x y h = absurd (cc)
    by false x y h = refl

pub none_within : {A : Type 0} (xs : List A) (i : ℕ) → slice_get xs i ≡ None → i < length xs → ⊥
none_within [] i none within = omega arith
none_within (x ∷ xs) zero none within = absurd (cc)
none_within (x ∷ xs) (suc i) none within = none_within xs i none (omega arith)
