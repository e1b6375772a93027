-- What the rows that a plan writes are read as.
use Rattle.std.proofs.Common.{◌≡◌, ◌≤◌, ◌+◌, ◌-◌, ◌*◌, ◌==◌, ◌||◌, ◌/◌, ◌%◌, ℕ, zero, suc, Bool, true, false, cond, not, nat_lt, List, [], ◌∷◌, ◌++◌, length, take, drop, get_or, map, replicate, Some, None, refl, sym, ap, subst, ◌∙◌, arith, append_assoc}
use Rattle.std.proofs.lemmas.List.{replicate-append-replicate, length-replicate, length-append, take-append-drop, take-map, drop-map, length-map}
use Rattle.std.proofs.Math.Seq.{take-append_seam, drop-append_seam, get_or-append_seam}
use Rattle.std.proofs.lemmas.List.Folds.{list_any-append}
use Rattle.std.proofs.lemmas.Bool.Decides.{nat_tests}
use Rattle.std.specs.List.{list_any, position, position_or_len}
use Rattle.std.specs.Option.{is_none}
use Rattle.std.specs.Prelude.{unwrap_or}
use Rattle.apdu.specs.Words.{is_between, is_empty, filled_to}
use Rattle.alpha.specs.Names.{decode_name}
use Rattle.bcd.specs.Digits.{read_digits, written_digits, bad_digit, half_of, paired}
use Rattle.bcd.proofs.Digits.{read_digits_written}
use Rattle.adn.specs.declared.entry.BookRow.TheVariants.{Free, Unreadable}
use Rattle.adn.specs.Book.{own_bytes, is_international, extension_row, additional_of, signed_digits, number_of, entry_row, book_row}
use Rattle.families.specs.Plans.{number_bytes}
use Rattle.book_plans.proofs.Apart.{cond_true, cond_false, or_parts}

-- ---- a row that is written

-- the bytes of a name, and those behind it
pub parted_row : (ext : List (List ℕ)) (name f number : List ℕ) → length f ≡ 14 → is_between 12 254 (get_or f 0 0) ≡ false → number_of ext f ≡ number
    → book_row ext (name ++ f) ≡ entry_row (record { name = decode_name name; number = number })
parted_row ext name f number len readable is =
    let all : length (name ++ f) ≡ length name + length f = length-append name f in
    let room : length (name ++ f) - 14 ≡ length name = omega arith in
    let long : nat_lt (length (name ++ f)) 14 ≡ false = grind (arith, nat_tests) in
    cond_false (nat_lt (length (name ++ f)) 14) Unreadable _ long
    ∙ ap (λ n. cond (is_between 12 254 (get_or (drop n (name ++ f)) 0 0)) Unreadable (entry_row (record { name = decode_name (take n (name ++ f)); number = number_of ext (drop n (name ++ f)) }))) room
    ∙ ap (λ g. cond (is_between 12 254 (get_or g 0 0)) Unreadable (entry_row (record { name = decode_name (take (length name) (name ++ f)); number = number_of ext g }))) (drop-append_seam name f)
    ∙ cond_false (is_between 12 254 (get_or f 0 0)) Unreadable _ readable
    ∙ ap (λ n. entry_row (record { name = decode_name n; number = number_of ext f })) (take-append_seam name f)
    ∙ ap (λ n. entry_row (record { name = decode_name name; number = n })) is

-- ---- a row that is freed

unnamed : (k : ℕ) → decode_name (replicate k 255) ≡ []
unnamed zero = refl
unnamed (suc k) = refl

-- a row of FF is free
pub freed_row : (ext : List (List ℕ)) (w : ℕ) → 14 ≤ w → book_row ext (replicate w 255) ≡ Free
freed_row ext w wide =
    let all : w - 14 + 14 ≡ w = omega arith in
    let parts : replicate (w - 14) 255 ++ replicate 14 255 ≡ replicate w 255 = replicate-append-replicate (w - 14) 14 255 ∙ ap (λ n. replicate n 255) all in
    ap (book_row ext) (sym parts)
    ∙ parted_row ext (replicate (w - 14) 255) (replicate 14 255) [] refl refl refl
    ∙ ap (λ name. entry_row (record { name = name; number = [] })) (unnamed (w - 14))

-- ---- halves of digits

halves_within : (hs : List ℕ) (k : ℕ) → length hs ≤ 2 * k → length (paired hs) ≤ k
halves_within [] k h = omega arith
halves_within (low ∷ []) zero h = absurd (omega arith)
halves_within (low ∷ []) (suc k) h = omega arith
halves_within (low ∷ high ∷ rest) zero h = absurd (omega arith)
halves_within (low ∷ high ∷ rest) (suc k) h = let r = halves_within rest k (omega arith) in omega arith

paired-take : (k : ℕ) (hs : List ℕ) → 2 * k ≤ length hs → take k (paired hs) ≡ paired (take (2 * k) hs)
paired-take zero hs h = refl
paired-take (suc k) [] h = absurd (omega arith)
paired-take (suc k) (low ∷ []) h = absurd (omega arith)
paired-take (suc k) (low ∷ high ∷ rest) h =
    let at : 2 * suc k ≡ suc (suc (2 * k)) = omega arith in
    ap (λ more. (high * 16 + low) ∷ more) (paired-take k rest (omega arith)) ∙ ap (λ n. paired (take n (low ∷ high ∷ rest))) (sym at)

paired-drop : (k : ℕ) (hs : List ℕ) → 2 * k ≤ length hs → drop k (paired hs) ≡ paired (drop (2 * k) hs)
paired-drop zero hs h = refl
paired-drop (suc k) [] h = absurd (omega arith)
paired-drop (suc k) (low ∷ []) h = absurd (omega arith)
paired-drop (suc k) (low ∷ high ∷ rest) h =
    let at : 2 * suc k ≡ suc (suc (2 * k)) = omega arith in
    paired-drop k rest (omega arith) ∙ ap (λ n. paired (drop n (low ∷ high ∷ rest))) (sym at)

-- ---- digits that can be written, in two parts

first_test : (b : Bool) (k n : ℕ) → cond (nat_lt (cond (not b) (1 + k) 0) (suc n)) (Some (cond (not b) (1 + k) 0)) None ≡ None → (b ≡ false) × (cond (nat_lt k n) (Some k) None ≡ None)
first_test true k n e = grind (arith, nat_tests)
first_test false k n e = grind (arith, nat_tests)

none_behind : (b : Bool) (k n : ℕ) → b ≡ false → cond (nat_lt k n) (Some k) None ≡ None → cond (nat_lt (cond (not b) (1 + k) 0) (suc n)) (Some (cond (not b) (1 + k) 0)) None ≡ None
none_behind true k n e f = absurd (cc)
none_behind false k n e f = grind (arith, nat_tests)

or_neither : (a b : Bool) → a ≡ false → b ≡ false → (a || b) ≡ false
or_neither true b e f = absurd (cc)
or_neither false b e f = f

none_passes : (p : ℕ → Bool) (xs : List ℕ) → position p xs ≡ None → list_any p xs ≡ false
none_passes p [] e = refl
none_passes p (x ∷ xs) e = let parts = first_test (p x) (position_or_len p xs) (length xs) e in or_neither (p x) (list_any p xs) parts.0 (none_passes p xs parts.1)

no_place : (p : ℕ → Bool) (xs : List ℕ) → list_any p xs ≡ false → position p xs ≡ None
no_place p [] e = refl
no_place p (x ∷ xs) e = let parts = or_parts (p x) (list_any p xs) e in none_behind (p x) (position_or_len p xs) (length xs) parts.0 (no_place p xs parts.1)

split_any : (p : ℕ → Bool) (n : ℕ) (xs : List ℕ) → list_any p xs ≡ false → (list_any p (take n xs) ≡ false) × (list_any p (drop n xs) ≡ false)
split_any p n xs e =
    let joined : (list_any p (take n xs) || list_any p (drop n xs)) ≡ false = sym (list_any-append p (take n xs) (drop n xs)) ∙ ap (list_any p) (take-append-drop n xs) ∙ e in
    or_parts (list_any p (take n xs)) (list_any p (drop n xs)) joined

take_written : (k : ℕ) (digits : List ℕ) → 2 * k ≤ length digits → take k (written_digits digits) ≡ written_digits (take (2 * k) digits)
take_written k digits h =
    let f : ℕ → ℕ = λ text. unwrap_or (half_of text) 0 in
    paired-take k (map f digits) (subst (λ n. 2 * k ≤ n) (sym (length-map digits f)) h) ∙ ap paired (take-map f (2 * k) digits)

drop_written : (k : ℕ) (digits : List ℕ) → 2 * k ≤ length digits → drop k (written_digits digits) ≡ written_digits (drop (2 * k) digits)
drop_written k digits h =
    let f : ℕ → ℕ = λ text. unwrap_or (half_of text) 0 in
    paired-drop k (map f digits) (subst (λ n. 2 * k ≤ n) (sym (length-map digits f)) h) ∙ ap paired (drop-map f (2 * k) digits)

pub length_written : (k : ℕ) (digits : List ℕ) → length digits ≤ 2 * k → length (written_digits digits) ≤ k
length_written k digits h =
    let f : ℕ → ℕ = λ text. unwrap_or (half_of text) 0 in
    halves_within (map f digits) k (subst (λ n. n ≤ 2 * k) (sym (length-map digits f)) h)

pub read_take : (k : ℕ) (digits : List ℕ) → bad_digit digits ≡ None → 2 * k ≤ length digits → read_digits (take k (written_digits digits)) ≡ take (2 * k) digits
read_take k digits e h =
    let p : ℕ → Bool = λ text. is_none (half_of text) in
    ap read_digits (take_written k digits h) ∙ read_digits_written (take (2 * k) digits) (no_place p (take (2 * k) digits) (split_any p (2 * k) digits (none_passes p digits e)).0)

pub read_drop : (k : ℕ) (digits : List ℕ) → bad_digit digits ≡ None → 2 * k ≤ length digits → read_digits (drop k (written_digits digits)) ≡ drop (2 * k) digits
read_drop k digits e h =
    let p : ℕ → Bool = λ text. is_none (half_of text) in
    ap read_digits (drop_written k digits h) ∙ read_digits_written (drop (2 * k) digits) (no_place p (drop (2 * k) digits) (split_any p (2 * k) digits (none_passes p digits e)).1)

-- ---- what stands behind the name

is_read_type : (international : Bool) → (((cond international 0x91 0x81) / 16) % 8 == 1) ≡ international
is_read_type true = refl
is_read_type false = refl

is_unread : (n : ℕ) → n ≤ 11 → is_between 12 254 n ≡ false
is_unread n h = grind (arith, nat_tests)

is_count : (n : ℕ) → 2 ≤ n → n ≤ 11 → is_between 2 11 n ≡ true
is_count n h k = grind (arith, nat_tests)

-- the bytes of a number with digits, before the extension row
abbrev counted : Bool → List ℕ → List ℕ
counted international own = (length own + 1) ∷ cond international 0x91 0x81 ∷ own

-- with the fill
abbrev filled : Bool → List ℕ → List ℕ
filled international own = filled_to 0xFF 13 (counted international own)

pub filled_to_length : (bytes : List ℕ) (n : ℕ) → length bytes ≤ n → length (filled_to 255 n bytes) ≡ n
filled_to_length bytes n h =
    let all : length (bytes ++ replicate (n - length bytes) 255) ≡ length bytes + length {A = ℕ} (replicate (n - length bytes) 255) = length-append bytes (replicate (n - length bytes) 255) in
    let fill : length {A = ℕ} (replicate (n - length bytes) 255) ≡ n - length bytes = length-replicate {A = ℕ} (n - length bytes) 255 in
    omega (arith, all, fill)

filled_length : (international : Bool) (own : List ℕ) → length own ≤ 10 → length (filled international own) ≡ 13
filled_length international own h = filled_to_length (counted international own) 13 (let front : length (counted international own) ≡ suc (suc (length own)) = refl in omega arith)

-- what is read of these bytes
pub record IsFooter (f own : List ℕ) (international : Bool) (x : ℕ) : Type 0 where
  pub wide : length f ≡ 14
  pub readable : is_between 12 254 (get_or f 0 0) ≡ false
  pub digits : own_bytes f ≡ own
  pub sign : is_international f ≡ international
  pub last : get_or f 13 0 ≡ x

pub number_footer : (international : Bool) (own : List ℕ) (x : ℕ) → is_empty own ≡ false → length own ≤ 10 → IsFooter (number_bytes international own x) own international x
number_footer international [] x some h = absurd (cc)
number_footer international (d ∷ more) x some h =
    let own : List ℕ = d ∷ more in
    let len : length (filled international (d ∷ more)) ≡ 13 = filled_length international (d ∷ more) h in
    let all = length-append (filled international (d ∷ more)) (x ∷ []) in
    let one : length (x ∷ []) ≡ 1 = refl in
    let count : is_between 2 11 (length (d ∷ more) + 1) ≡ true = is_count (length (d ∷ more) + 1) (omega arith) (omega arith) in
    let own_len : length (d ∷ more) + 1 - 1 ≡ length (d ∷ more) = omega arith in
    record {
      wide = omega arith;
      readable = is_unread (length (d ∷ more) + 1) (omega arith);
      digits =
          cond_true (is_between 2 11 (length (d ∷ more) + 1)) (take (length (d ∷ more) + 1 - 1) (((d ∷ more) ++ replicate (13 - length (counted international (d ∷ more))) 0xFF) ++ x ∷ [])) [] count
          ∙ ap (λ n. take n (((d ∷ more) ++ replicate (13 - length (counted international (d ∷ more))) 0xFF) ++ x ∷ [])) own_len
          ∙ ap (take (length (d ∷ more))) (append_assoc (d ∷ more) (replicate (13 - length (counted international (d ∷ more))) 0xFF) (x ∷ []))
          ∙ take-append_seam (d ∷ more) (replicate (13 - length (counted international (d ∷ more))) 0xFF ++ x ∷ []);
      sign = is_read_type international;
      last = ap (λ n. get_or (filled international (d ∷ more) ++ x ∷ []) n 0) (sym len) ∙ get_or-append_seam (filled international (d ∷ more)) x [] 0;
    }

pub number_wide : (international : Bool) (own : List ℕ) (x : ℕ) → length own ≤ 10 → length (number_bytes international own x) ≡ 14
number_wide international [] x h = refl
number_wide international (d ∷ more) x h = (number_footer international (d ∷ more) x refl h).wide

-- the number that is read of it
pub number_read : (ext : List (List ℕ)) (international : Bool) (own : List ℕ) (x : ℕ) → is_empty own ≡ false → length own ≤ 10 → is_empty (read_digits own) ≡ false
    → number_of ext (number_bytes international own x) ≡ signed_digits international (read_digits own) (read_digits (additional_of (extension_row ext x)))
number_read ext international own x some short digits =
    let f : List ℕ = number_bytes international own x in
    let is = number_footer international own x some short in
    let P : List ℕ → Bool → ℕ → List ℕ = λ own s k. cond (is_empty (read_digits own)) [] (signed_digits s (read_digits own) (read_digits (additional_of (extension_row ext k)))) in
    ap (λ o. P o (is_international f) (get_or f 13 0)) is.digits
    ∙ ap (λ s. P own s (get_or f 13 0)) is.sign
    ∙ ap (λ k. P own international k) is.last
    ∙ cond_false (is_empty (read_digits own)) [] _ digits
