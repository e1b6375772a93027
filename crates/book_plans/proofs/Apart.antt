-- What stands in an extension row that a main row does not name is nothing to it.
use Rattle.std.proofs.Common.{◌≡◌, ◌≢◌, ◌≤◌, ◌+◌, ◌-◌, ◌==◌, ◌&&◌, ◌||◌, ℕ, zero, suc, Bool, true, false, cond, nat_lt, List, [], ◌∷◌, ◌++◌, length, take, drop, get_or, map, Option, Some, None, refl, sym, ap, subst, ◌∙◌, arith, eq-eqb}
use Rattle.std.proofs.Math.ListN.{set}
use Rattle.std.proofs.lemmas.List.{get_or-drop}
use Rattle.std.proofs.lemmas.Bool.Decides.{nat_tests}
use Rattle.std.specs.Prelude.{slice_get, nat_le}
use Rattle.apdu.specs.Words.{has_value, is_between, is_empty}
use Rattle.alpha.specs.Names.{decode_name}
use Rattle.bcd.specs.Digits.{read_digits}
use Rattle.adn.specs.declared.entry.AdnEntry.{AdnEntry}
use Rattle.adn.specs.declared.entry.BookRow.{BookRow}
use Rattle.adn.specs.declared.entry.BookRow.TheVariants.{Free, Entry, Unreadable}
use Rattle.adn.specs.Book.{own_bytes, is_international, extension_row, additional_of, signed_digits, entry_row, book_row}
use Rattle.families.specs.Plans.{is_free, named_number, named_extension, is_named}

-- ---- choices

pub cond_true : {A : Type 0} (b : Bool) (x y : A) → b ≡ true → cond b x y ≡ x
cond_true true x y e = refl
cond_true false x y e = absurd (cc)

pub cond_false : {A : Type 0} (b : Bool) (x y : A) → b ≡ false → cond b x y ≡ y
cond_false true x y e = absurd (cc)
cond_false false x y e = refl

pub or_parts : (a b : Bool) → (a || b) ≡ false → (a ≡ false) × (b ≡ false)
or_parts true b e = absurd (cc)
or_parts false b e = (refl, e)

pub and_parts : (a b : Bool) → (a && b) ≡ true → (a ≡ true) × (b ≡ true)
and_parts true b e = (refl, e)
and_parts false b e = absurd (cc)

pub and_both : (a b : Bool) → a ≡ true → b ≡ true → (a && b) ≡ true
and_both true b e f = f
and_both false b e f = absurd (cc)

pub and_second : (a b : Bool) → b ≡ false → (a && b) ≡ false
and_second true b e = e
and_second false b e = refl

-- ---- another row of the extension file

pub get_other : (xs : List (List ℕ)) (i j : ℕ) (y : List ℕ) → i ≢ j → slice_get (set xs i y) j ≡ slice_get xs j
get_other [] i j y apart = refl
get_other (x ∷ xs) zero zero y apart = absurd (apart refl)
get_other (x ∷ xs) zero (suc j) y apart = refl
get_other (x ∷ xs) (suc i) zero y apart = refl
get_other (x ∷ xs) (suc i) (suc j) y apart = get_other xs i j y (λ same. apart (ap suc same))

pub range_parts : (low high n : ℕ) → is_between low high n ≡ true → (low ≤ n) × (n ≤ high)
range_parts low high n e = let parts = and_parts (nat_le low n) (nat_le n high) e in let a = parts.0 in let b = parts.1 in (grind (arith, nat_tests), grind (arith, nat_tests))

row_by : (ext : List (List ℕ)) (n k : ℕ) (r : List ℕ) → is_between 1 254 n ≡ true → k ≢ n → (b : Bool) → is_between 1 254 k ≡ b → extension_row (set ext (n - 1) r) k ≡ extension_row ext k
row_by ext n k r range apart true e =
    let n_in = range_parts 1 254 n range in
    let k_in = range_parts 1 254 k e in
    cond_true (is_between 1 254 k) (slice_get (set ext (n - 1) r) (k - 1)) None e
    ∙ get_other ext (n - 1) (k - 1) r (λ same. apart (omega arith))
    ∙ sym (cond_true (is_between 1 254 k) (slice_get ext (k - 1)) None e)
row_by ext n k r range apart false e =
    cond_false (is_between 1 254 k) (slice_get (set ext (n - 1) r) (k - 1)) None e ∙ sym (cond_false (is_between 1 254 k) (slice_get ext (k - 1)) None e)

-- ---- the number of a row

abbrev pub footer : List ℕ → List ℕ
footer row = drop (length row - 14) row

-- what a row is that has this number
abbrev pub with_number : List ℕ → List ℕ → BookRow
with_number row number =
    cond (nat_lt (length row) 14) Unreadable (cond (is_between 12 254 (get_or (footer row) 0 0)) Unreadable (entry_row (record { name = decode_name (take (length row - 14) row); number = number })))

abbrev pub number_by : List ℕ → Option (List ℕ) → List ℕ
number_by f found =
    cond (is_empty (read_digits (own_bytes f))) [] (signed_digits (is_international f) (read_digits (own_bytes f)) (read_digits (additional_of found)))

pub book_row-number : (ext : List (List ℕ)) (row : List ℕ) → book_row ext row ≡ with_number row (number_by (footer row) (extension_row ext (get_or (footer row) 13 0)))
book_row-number ext row = refl

-- ---- a row with digits is not free

signed_is_some : (sign own further : List ℕ) → is_empty own ≡ false → is_empty (sign ++ own ++ further) ≡ false
signed_is_some [] [] further e = absurd (cc)
signed_is_some [] (d ∷ own) further e = refl
signed_is_some (c ∷ sign) own further e = refl

number_is_some : (f : List ℕ) (found : Option (List ℕ)) → is_empty (read_digits (own_bytes f)) ≡ false → is_empty (number_by f found) ≡ false
number_is_some f found e =
    let own = read_digits (own_bytes f) in
    let further = read_digits (additional_of found) in
    ap is_empty (cond_false (is_empty own) [] (signed_digits (is_international f) own further) e)
    ∙ signed_is_some (cond (is_international f) (43 ∷ []) []) own further e

unreadable_or : (b : Bool) (row : BookRow) → is_free row ≡ false → is_free (cond b Unreadable row) ≡ false
unreadable_or true row e = refl
unreadable_or false row e = e

entry_by : (b : Bool) (entry : AdnEntry) → b ≡ false → is_free (cond b Free (Entry entry)) ≡ false
entry_by true entry e = absurd (cc)
entry_by false entry e = refl

pub not_free : (row number : List ℕ) → is_empty number ≡ false → is_free (with_number row number) ≡ false
not_free row number e =
    let entry : AdnEntry = record { name = decode_name (take (length row - 14) row); number = number } in
    unreadable_or (nat_lt (length row) 14) (cond (is_between 12 254 (get_or (footer row) 0 0)) Unreadable (entry_row entry))
    (unreadable_or (is_between 12 254 (get_or (footer row) 0 0)) (entry_row entry)
    (entry_by (is_empty (decode_name (take (length row - 14) row)) && is_empty number) entry (and_second (is_empty (decode_name (take (length row - 14) row))) (is_empty number) e)))

-- ---- a row that names another extension row, or none

hit : (b : Bool) (n : ℕ) → b ≡ true → has_value (λ m. m == n) (cond b (Some n) None) ≡ true
hit true n e = eq-eqb n n refl
hit false n e = absurd (cc)

last_other : (last n len : ℕ) → is_between 1 254 n ≡ true → n ≤ len → has_value (λ m. m == n) (cond (is_between 1 254 last && nat_le last len) (Some last) None) ≡ false → last ≢ n
last_other last n len range within other same =
    let below : nat_le n len ≡ true = grind (arith, nat_tests) in
    let P : ℕ → Type 0 = λ k. has_value (λ m. m == n) (cond (is_between 1 254 k && nat_le k len) (Some k) None) ≡ false in
    let there : has_value (λ m. m == n) (cond (is_between 1 254 n && nat_le n len) (Some n) None) ≡ false = subst P same other in
    let found : has_value (λ m. m == n) (cond (is_between 1 254 n && nat_le n len) (Some n) None) ≡ true = hit (is_between 1 254 n && nat_le n len) n (and_both (is_between 1 254 n) (nat_le n len) range below) in
    let clash : true ≡ false = sym found ∙ there in
    absurd (cc)

last_byte : (row : List ℕ) → nat_lt (length row) 14 ≡ false → get_or (footer row) 13 0 ≡ get_or row (length row - 1) 0
last_byte row long =
    let len : 14 ≤ length row = grind (arith, nat_tests) in
    let at : length row - 14 + 13 ≡ length row - 1 = omega arith in
    get_or-drop (length row - 14) row 13 0 ∙ ap (λ i. get_or row i 0) at

kept_by : (ext : List (List ℕ)) (n : ℕ) (r row : List ℕ) → is_between 1 254 n ≡ true → n ≤ length ext → has_value (λ m. m == n) (named_extension ext row) ≡ false
    → (short none : Bool) → nat_lt (length row) 14 ≡ short → is_empty (read_digits (own_bytes (footer row))) ≡ none → book_row (set ext (n - 1) r) row ≡ book_row ext row
kept_by ext n r row range within other true none s e =
    cond_true (nat_lt (length row) 14) Unreadable _ s ∙ sym (cond_true (nat_lt (length row) 14) Unreadable _ s)
kept_by ext n r row range within other false true s e =
    ap (with_number row)
    (cond_true (is_empty (read_digits (own_bytes (footer row)))) [] _ e ∙ sym (cond_true (is_empty (read_digits (own_bytes (footer row)))) [] _ e))
kept_by ext n r row range within other false false s e =
    let last = get_or row (length row - 1) 0 in
    let kept : is_free (book_row ext row) ≡ false = not_free row (number_by (footer row) (extension_row ext (get_or (footer row) 13 0))) (number_is_some (footer row) (extension_row ext (get_or (footer row) 13 0)) e) in
    let named : named_extension ext row ≡ named_number ext row = cond_false (is_free (book_row ext row)) None (named_number ext row) kept in
    let apart : last ≢ n = last_other last n (length ext) range within (sym (ap (has_value (λ m. m == n)) named) ∙ other) in
    let other_last : get_or (footer row) 13 0 ≢ n = λ same. apart (sym (last_byte row s) ∙ same) in
    ap (λ found. with_number row (number_by (footer row) found)) (row_by ext n (get_or (footer row) 13 0) r range other_last (is_between 1 254 (get_or (footer row) 13 0)) refl)

-- a main row that does not name it
pub kept_row : (ext : List (List ℕ)) (n : ℕ) (r row : List ℕ) → is_between 1 254 n ≡ true → n ≤ length ext → has_value (λ m. m == n) (named_extension ext row) ≡ false → book_row (set ext (n - 1) r) row ≡ book_row ext row
kept_row ext n r row range within other = kept_by ext n r row range within other (nat_lt (length row) 14) (is_empty (read_digits (own_bytes (footer row)))) refl refl

-- all main rows
pub kept_rows : (ext rows : List (List ℕ)) (n : ℕ) (r : List ℕ) → is_between 1 254 n ≡ true → n ≤ length ext → is_named ext rows n ≡ false → map (book_row (set ext (n - 1) r)) rows ≡ map (book_row ext) rows
kept_rows ext [] n r range within none = refl
kept_rows ext (row ∷ rows) n r range within none =
    let parts = or_parts (has_value (λ m. m == n) (named_extension ext row)) (is_named ext rows n) none in
    let first : book_row (set ext (n - 1) r) row ≡ book_row ext row = kept_row ext n r row range within parts.0 in
    let rest : map (book_row (set ext (n - 1) r)) rows ≡ map (book_row ext) rows = kept_rows ext rows n r range within parts.1 in
    cc
