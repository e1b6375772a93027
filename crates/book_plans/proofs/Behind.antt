-- The book behind each update of a plan.
use Rattle.std.proofs.Common.{◌≡◌, ◌≢◌, ◌<◌, ◌≤◌, ◌+◌, ◌-◌, ◌==◌, ◌&&◌, ◌||◌, not, ℕ, zero, suc, Bool, true, false, cond, List, [], ◌∷◌, ◌++◌, length, get_or, map, Option, Some, None, refl, sym, ap, subst, ◌∙◌, arith}
use Rattle.std.proofs.Math.ListN.{set}
use Rattle.std.proofs.lemmas.List.{map-set, length-set, length-append, get_or-append-add}
use Rattle.std.proofs.lemmas.Bool.{eqb-true}
use Rattle.std.proofs.lemmas.Bool.Decides.{nat_tests}
use Rattle.std.specs.Prelude.{slice_get, nat_le, unwrap_or}
use Rattle.apdu.specs.Words.{has_value, is_between, is_one_of}
use Rattle.fcp.specs.Content.{Content, with_row, is_linear}
use Rattle.adn.specs.declared.entry.BookRow.{BookRow}
use Rattle.adn.specs.Book.{extension_rows, main_rows, book_row, decode_book}
use Rattle.families.specs.Plans.{is_free, named_number, named_extension, is_named, is_free_extension, first_free, free_extension, extension_type, if_released, released_extension, main_row, without_row}
use Rattle.book_plans.specs.Phonebook.{names_of, is_among}
use Rattle.book_plans.proofs.Names.{is_named_names, is_named_without}
use Rattle.book_plans.proofs.Apart.{cond_true, cond_false, and_parts, kept_rows}

-- ---- a row of a file

rows_by : (b : Bool) (rows : List (List ℕ)) (i : ℕ) (r : List ℕ) → cond b (set rows i r) [] ≡ set (cond b rows []) i r
rows_by true rows i r = refl
rows_by false rows i r = refl

pub ext_with : (ext : Content) (i : ℕ) (r : List ℕ) → extension_rows (with_row i r ext) ≡ set (extension_rows ext) i r
ext_with ext i r = rows_by (is_linear ext.kind && nat_le 13 ext.width) ext.rows i r

pub main_with : (main : Content) (i : ℕ) (r : List ℕ) → main_rows (with_row i r main) ≡ set (main_rows main) i r
main_with main i r = rows_by (is_linear main.kind) main.rows i r

pub get_same : (xs : List (List ℕ)) (i : ℕ) (y : List ℕ) → i < length xs → slice_get (set xs i y) i ≡ Some y
get_same [] i y h = absurd (omega arith)
get_same (x ∷ xs) zero y h = refl
get_same (x ∷ xs) (suc i) y h = get_same xs i y (omega arith)

-- ---- a free extension row

record IsFound (main ext : Content) (k : ℕ) (rows : List (List ℕ)) (n : ℕ) : Type 0 where
  at : ℕ
  place : n ≡ k + at
  within : at < length rows
  free : is_free_extension main ext n (unwrap_or (slice_get rows at) []) ≡ true

found_step : (main ext : Content) (k : ℕ) (row : List ℕ) (rows : List (List ℕ)) (n : ℕ) → (first_free main ext (k + 1) rows ≡ Some n → IsFound main ext (k + 1) rows n)
    → (b : Bool) → is_free_extension main ext k row ≡ b → first_free main ext k (row ∷ rows) ≡ Some n → IsFound main ext k (row ∷ rows) n
found_step main ext k row rows n rest true is e =
    let found : Some k ≡ Some n = sym (cond_true (is_free_extension main ext k row) (Some k) (first_free main ext (k + 1) rows) is) ∙ e in
    let same : k ≡ n = cc in
    record { at = 0; place = omega arith; within = omega arith; free = subst (λ m. is_free_extension main ext m row ≡ true) same is }
found_step main ext k row rows n rest false is e =
    let r = rest (sym (cond_false (is_free_extension main ext k row) (Some k) (first_free main ext (k + 1) rows) is) ∙ e) in
    let p = r.place in
    let w = r.within in
    record { at = suc r.at; place = omega arith; within = omega arith; free = r.free }

found_by : (main ext : Content) (k : ℕ) (rows : List (List ℕ)) (n : ℕ) → first_free main ext k rows ≡ Some n → IsFound main ext k rows n
found_by main ext k [] n e = absurd (cc)
found_by main ext k (row ∷ rows) n e = found_step main ext k row rows n (found_by main ext (k + 1) rows n) (is_free_extension main ext k row) refl e

not_true : (b : Bool) → not b ≡ true → b ≡ false
not_true true e = absurd (cc)
not_true false e = refl

pub record IsFree (main ext : Content) (n : ℕ) : Type 0 where
  pub range : is_between 1 254 n ≡ true
  pub within : n ≤ length (extension_rows ext)
  pub kind : is_one_of (extension_type ext n) (0x00 ∷ 0xFF ∷ []) ≡ true
  pub unnamed : is_named (extension_rows ext) (main_rows main) n ≡ false

pub free_is : (main ext : Content) (n : ℕ) → free_extension main ext ≡ Some n → IsFree main ext n
free_is main ext n e =
    let r = found_by main ext 1 (extension_rows ext) n e in
    let p = r.place in
    let w = r.within in
    let at : r.at ≡ n - 1 = omega arith in
    let row = unwrap_or (slice_get (extension_rows ext) r.at) [] in
    let outer = and_parts (is_between 1 254 n && is_one_of (get_or row 0 0) (0x00 ∷ 0xFF ∷ [])) (not (is_named (extension_rows ext) (main_rows main) n)) r.free in
    let inner = and_parts (is_between 1 254 n) (is_one_of (get_or row 0 0) (0x00 ∷ 0xFF ∷ [])) outer.0 in
    record {
      range = inner.0;
      within = omega arith;
      kind = subst (λ i. is_one_of (get_or (unwrap_or (slice_get (extension_rows ext) i) []) 0 0) (0x00 ∷ 0xFF ∷ []) ≡ true) at inner.1;
      unnamed = not_true (is_named (extension_rows ext) (main_rows main) n) outer.1;
    }

-- ---- a row that is released

named_by : (b t : Bool) (last m : ℕ) → cond b None (cond t (Some last) None) ≡ Some m → (t ≡ true) × (last ≡ m)
named_by true t last m e = absurd (cc)
named_by false true last m e = (refl, cc)
named_by false false last m e = absurd (cc)

-- a number that a row names is that of an extension row
named_within : (ext : List (List ℕ)) (row : List ℕ) (m : ℕ) → named_extension ext row ≡ Some m → (is_between 1 254 m ≡ true) × (m ≤ length ext)
named_within ext row m e =
    let last = get_or row (length row - 1) 0 in
    let is = named_by (is_free (book_row ext row)) (is_between 1 254 last && nat_le last (length ext)) last m e in
    let parts = and_parts (is_between 1 254 last) (nat_le last (length ext)) is.0 in
    let low : nat_le m (length ext) ≡ true = subst (λ k. nat_le k (length ext) ≡ true) is.1 parts.1 in
    (subst (λ k. is_between 1 254 k ≡ true) is.1 parts.0, grind (arith, nat_tests))

pub record IsReleased (main ext : Content) (at m : ℕ) : Type 0 where
  pub range : is_between 1 254 m ≡ true
  pub within : m ≤ length (extension_rows ext)
  pub kind : extension_type ext m ≡ 0x02
  pub alone : is_named (extension_rows ext) (without_row main at) m ≡ false

released_test : (main ext : Content) (at k m : ℕ) → named_extension (extension_rows ext) (main_row main at) ≡ Some k
    → (b : Bool) → ((extension_type ext k == 0x02) && not (is_named (extension_rows ext) (without_row main at) k)) ≡ b → cond b (Some k) None ≡ Some m → IsReleased main ext at m
released_test main ext at k m named true is e =
    let same : k ≡ m = cc in
    let there = named_within (extension_rows ext) (main_row main at) k named in
    let parts = and_parts (extension_type ext k == 0x02) (not (is_named (extension_rows ext) (without_row main at) k)) is in
    let P : ℕ → Type 0 = λ n. IsReleased main ext at n in
    subst P same (record { range = there.0; within = there.1; kind = eqb-true (extension_type ext k) 0x02 parts.0; alone = not_true (is_named (extension_rows ext) (without_row main at) k) parts.1 })
released_test main ext at k m named false is e = absurd (cc)

released_by : (main ext : Content) (at m : ℕ) (found : Option ℕ) → named_extension (extension_rows ext) (main_row main at) ≡ found → if_released main ext at found ≡ Some m → IsReleased main ext at m
released_by main ext at m None named e = absurd (cc)
released_by main ext at m (Some k) named e = released_test main ext at k m named ((extension_type ext k == 0x02) && not (is_named (extension_rows ext) (without_row main at) k)) refl e

pub released_is : (main ext : Content) (at m : ℕ) → released_extension main ext at ≡ Some m → IsReleased main ext at m
released_is main ext at m e = released_by main ext at m (named_extension (extension_rows ext) (main_row main at)) refl e

-- ---- behind the update before

-- the book and the count of extension rows are as they were
pub record IsBehind (main ext ext1 : Content) : Type 0 where
  pub book : decode_book main ext1 ≡ decode_book main ext
  pub count : length (extension_rows ext1) ≡ length (extension_rows ext)

pub filled_behind : (main ext : Content) (n : ℕ) (r : List ℕ) → IsFree main ext n → IsBehind main ext (with_row (n - 1) r ext)
filled_behind main ext n r free = record {
  book = ap (λ rows. map (book_row rows) (main_rows main)) (ext_with ext (n - 1) r) ∙ kept_rows (extension_rows ext) (main_rows main) n r free.range free.within free.unnamed;
  count = ap (λ (rows : List (List ℕ)). length rows) (ext_with ext (n - 1) r) ∙ length-set (extension_rows ext) (n - 1) r;
}

-- ---- behind the deciding update

pub decided_book : (main ext ext1 : Content) (i : ℕ) (bytes : List ℕ) (row : BookRow) → IsBehind main ext ext1 → book_row (extension_rows ext1) bytes ≡ row
    → decode_book (with_row i bytes main) ext1 ≡ set (decode_book main ext) i row
decided_book main ext ext1 i bytes row behind is =
    ap (map (book_row (extension_rows ext1))) (main_with main i bytes)
    ∙ map-set (book_row (extension_rows ext1)) (main_rows main) i bytes
    ∙ ap (λ book. set book i (book_row (extension_rows ext1) bytes)) behind.book
    ∙ ap (set (decode_book main ext) i) is

-- ---- behind the update after

names_same : (ext ext1 rows : List (List ℕ)) → length ext1 ≡ length ext → map (book_row ext1) rows ≡ map (book_row ext) rows → names_of ext1 rows ≡ names_of ext rows
names_same ext ext1 [] count same = refl
names_same ext ext1 (row ∷ rows) count same =
    let first : book_row ext1 row ≡ book_row ext row = cc in
    let rest : map (book_row ext1) rows ≡ map (book_row ext) rows = cc in
    let last = get_or row (length row - 1) 0 in
    let name : named_extension ext1 row ≡ named_extension ext row =
    ap (λ b. cond (is_free b) None (named_number ext1 row)) first ∙ ap (λ n. cond (is_free (book_row ext row)) None (cond (is_between 1 254 last && nat_le last n) (Some last) None)) count in
    let names : names_of ext1 rows ≡ names_of ext rows = names_same ext ext1 rows count rest in
    cc

set_among : (names : List (Option ℕ)) (i m : ℕ) (name : Option ℕ) → has_value (λ k. k == m) name ≡ false → is_among (set names i name) m ≡ is_among (set names i None) m
set_among [] i m name e = refl
set_among (x ∷ names) zero m name e = ap (λ b. b || is_among names m) e
set_among (x ∷ names) (suc i) m name e = ap (λ b. has_value (λ k. k == m) x || b) (set_among names i m name e)

other_named : (b t : Bool) (last m : ℕ) → last ≢ m → has_value (λ k. k == m) (cond b None (cond t (Some last) None)) ≡ false
other_named true t last m apart = refl
other_named false true last m apart = grind (arith, nat_tests)
other_named false false last m apart = refl

-- a row whose last byte is another names it not
pub names_other : (ext : List (List ℕ)) (row : List ℕ) (m : ℕ) → get_or row (length row - 1) 0 ≢ m → has_value (λ k. k == m) (named_extension ext row) ≡ false
names_other ext row m apart =
    let last = get_or row (length row - 1) 0 in
    other_named (is_free (book_row ext row)) (is_between 1 254 last && nat_le last (length ext)) last m apart

pub last_of : (name f : List ℕ) → length f ≡ 14 → get_or (name ++ f) (length (name ++ f) - 1) 0 ≡ get_or f 13 0
last_of name f wide =
    let all : length (name ++ f) ≡ length name + length f = length-append name f in
    let at : length (name ++ f) - 1 ≡ length name + 13 = omega arith in
    ap (λ i. get_or (name ++ f) i 0) at ∙ get_or-append-add name f 13 0

pub after_book : (main ext ext1 : Content) (at m : ℕ) (bytes r : List ℕ) → IsBehind main ext ext1 → IsReleased main ext at m → has_value (λ k. k == m) (named_extension (extension_rows ext1) bytes) ≡ false
    → decode_book (with_row (at - 1) bytes main) (with_row (m - 1) r ext1) ≡ decode_book (with_row (at - 1) bytes main) ext1
after_book main ext ext1 at m bytes r behind released other =
    let rows : List (List ℕ) = extension_rows ext in
    let rows1 : List (List ℕ) = extension_rows ext1 in
    let mains : List (List ℕ) = main_rows main in
    let unnamed : is_named (extension_rows ext1) (set (main_rows main) (at - 1) bytes) m ≡ false =
    is_named_names rows1 (set mains (at - 1) bytes) m
    ∙ ap (λ names. is_among names m) (map-set (named_extension rows1) mains (at - 1) bytes)
    ∙ set_among (names_of rows1 mains) (at - 1) m (named_extension rows1 bytes) other
    ∙ ap (λ names. is_among (set names (at - 1) None) m) (names_same rows rows1 mains behind.count behind.book)
    ∙ sym (is_named_without rows mains (at - 1) main.width m)
    ∙ released.alone in
    let c = behind.count in
    let w = released.within in
    let within : m ≤ length (extension_rows ext1) = omega arith in
    ap (λ xs. map (book_row xs) (main_rows (with_row (at - 1) bytes main))) (ext_with ext1 (m - 1) r)
    ∙ ap (map (book_row (set rows1 (m - 1) r))) (main_with main (at - 1) bytes)
    ∙ kept_rows rows1 (set mains (at - 1) bytes) m r released.range within unnamed
    ∙ sym (ap (map (book_row rows1)) (main_with main (at - 1) bytes))
