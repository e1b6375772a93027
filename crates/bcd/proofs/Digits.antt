-- The digits' texts and their halves, and that written digits are read back.
use Rattle.std.proofs.Common.{◌≡◌, ℕ, suc, zero, ◌+◌, ◌*◌, ◌/◌, ◌%◌, ◌<◌, ◌≤◌, ◌==◌, nat_lt, cond, not, Bool, true, false, Option, Some, None, List, [], ◌∷◌, ◌++◌, length, get_or, drop, refl, sym, ap, ◌∙◌, arith, append_assoc, append-nil}
use Rattle.std.specs.List.{slice_get, position, position_or_len, list_all}
use Rattle.std.specs.Option.{is_none, unwrap_or}
use Rattle.std.proofs.lemmas.Bool.{eqb-true}
use Rattle.std.proofs.lemmas.Bool.Decides.{nat_tests}
use Rattle.std.proofs.lemmas.Grind.{common_steps}
use Rattle.std.proofs.lemmas.List.{drop_more, at_drop_all}
use Rattle.std.proofs.lemmas.Option.{slice_get-get_or, slice_get_within, get_or_from_slice_get}
use Rattle.std.proofs.lemmas.List.Quantifiers.{position-Some}
use Rattle.apdu.specs.Words.{high_half}
use Rattle.bcd.specs.Digits.{digit_texts, halves, digits_of, read_digits, half_of, bad_digit, written_digits}

below_all : (xs : List ℕ) (i x : ℕ) → list_all (λ y. nat_lt y 128) xs ≡ true → slice_get xs i ≡ Some x → x < 128
below_all [] i x all e = cc
below_all (y ∷ ys) zero x all e = grind (arith, nat_tests)
below_all (y ∷ ys) (suc i) x all e = below_all ys i x (grind (arith, nat_tests)) e

pub is_ascii_text : (h t : ℕ) → slice_get digit_texts h ≡ Some t → t < 128
is_ascii_text h t e = below_all digit_texts h t refl e

pub is_digit_half : (text h : ℕ) → half_of text ≡ Some h → h < 14
is_digit_half text h e = (position-Some (λ t. t == text) digit_texts h 0 e).0

-- ---- reading

pub digits_of-text : (h t : ℕ) (rest : List ℕ) → slice_get digit_texts h ≡ Some t → digits_of (h ∷ rest) ≡ t ∷ digits_of rest
digits_of-text h t rest e =
    let within : h < 14 = slice_get_within digit_texts h t e in
    let text : get_or digit_texts h 0 ≡ t = get_or_from_slice_get digit_texts h t 0 e in
    let passes : nat_lt h 14 ≡ true = grind (arith, nat_tests) in
    grind (arith, common_steps, nat_tests)

pub digits_of-end : (h : ℕ) (rest : List ℕ) → slice_get digit_texts h ≡ None → digits_of (h ∷ rest) ≡ []
digits_of-end h rest e =
    let past : 14 ≤ h = grind (arith, nat_tests, slice_get-get_or digit_texts h 0) in
    let fails : nat_lt h 14 ≡ false = grind (arith, nat_tests) in
    rw fails refl

read_digits-byte : (b low high : ℕ) (rest : List ℕ) → slice_get digit_texts (b % 16) ≡ Some low → slice_get digit_texts (b / 16) ≡ Some high → read_digits (b ∷ rest) ≡ low ∷ high ∷ read_digits rest
read_digits-byte b low high rest e f = digits_of-text (b % 16) low (high_half b ∷ halves rest) e ∙ ap (λ ts. low ∷ ts) (digits_of-text (b / 16) high (halves rest) f)

-- what `before` comes to, where it has the digits of the bytes before i
pub after_byte : (bytes before : List ℕ) (i low high : ℕ) → i < length bytes → Some low ≡ slice_get digit_texts (get_or bytes i 0 % 16) → Some high ≡ slice_get digit_texts (get_or bytes i 0 / 16)
    → read_digits bytes ≡ before ++ read_digits (drop i bytes) → read_digits bytes ≡ ((before ++ low ∷ []) ++ high ∷ []) ++ read_digits (drop (i + 1) bytes)
after_byte bytes before i low high within e f so_far =
    rw (so_far, drop_more bytes i 0 within, read_digits-byte _ _ _ (drop (i + 1) bytes) (sym e) (sym f)) (simp append_assoc)

pub after_all : (bytes before : List ℕ) (i : ℕ) → length bytes ≤ i → read_digits bytes ≡ before ++ read_digits (drop i bytes) → before ≡ read_digits bytes
after_all bytes before i past so_far = sym (so_far ∙ ap (λ rest. before ++ rest) (at_drop_all read_digits bytes i past) ∙ append-nil before)

pub after_low_end : (bytes before : List ℕ) (i : ℕ) → i < length bytes → None ≡ slice_get digit_texts (get_or bytes i 0 % 16) → read_digits bytes ≡ before ++ read_digits (drop i bytes) → before ≡ read_digits bytes
after_low_end bytes before i within e so_far =
    rw (so_far, drop_more bytes i 0 within, digits_of-end (get_or bytes i 0 % 16) (high_half (get_or bytes i 0) ∷ halves (drop (i + 1) bytes)) (sym e)) (sym (append-nil before))

pub after_high_end : (bytes before : List ℕ) (i low : ℕ) → i < length bytes → Some low ≡ slice_get digit_texts (get_or bytes i 0 % 16) → None ≡ slice_get digit_texts (get_or bytes i 0 / 16)
    → read_digits bytes ≡ before ++ read_digits (drop i bytes) → before ++ low ∷ [] ≡ read_digits bytes
after_high_end bytes before i low within e f so_far =
    let b = get_or bytes i 0 in
    rw (so_far, drop_more bytes i 0 within, digits_of-text (b % 16) low (high_half b ∷ halves (drop (i + 1) bytes)) (sym e), digits_of-end (b / 16) (halves (drop (i + 1) bytes)) (sym f)) refl

-- ---- writing

text_of_half : (text h : ℕ) → half_of text ≡ Some h → slice_get digit_texts h ≡ Some text
text_of_half text h e =
    let found = position-Some (λ t. t == text) digit_texts h 0 e in
    slice_get-get_or digit_texts h 0 found.0 ∙ ap (λ x. Some x) (eqb-true _ _ found.1)

first_test : (b : Bool) (k n : ℕ) → cond (nat_lt (cond (not b) (1 + k) 0) (suc n)) (Some (cond (not b) (1 + k) 0)) None ≡ None → (b ≡ false) × (cond (nat_lt k n) (Some k) None ≡ None)
first_test true k n e = grind (arith, nat_tests)
first_test false k n e = grind (arith, nat_tests)

-- where no element passes, the first does not, nor does one of the rest
position-None : (p : ℕ → Bool) (x : ℕ) (xs : List ℕ) → position p (x ∷ xs) ≡ None → (p x ≡ false) × (position p xs ≡ None)
position-None p x xs e = first_test (p x) (position_or_len p xs) (length xs) e

some_value : (found : Option ℕ) → is_none found ≡ false → found ≡ Some (unwrap_or found 0)
some_value None e = cc
some_value (Some x) e = refl

-- the half that a digit's text is written as reads as that text
IsWritten : ℕ → Type 0
IsWritten text = (unwrap_or (half_of text) 0 < 14) × (slice_get digit_texts (unwrap_or (half_of text) 0) ≡ Some text)

written_as_half : (text : ℕ) → is_none (half_of text) ≡ false → IsWritten text
unfolding IsWritten
written_as_half text e =
    let half = some_value (half_of text) e in
    (is_digit_half text _ half, text_of_half text _ half)

read_digits-last : (half text : ℕ) → half < 14 → slice_get digit_texts half ≡ Some text → read_digits ((0xF * 16 + half) ∷ []) ≡ text ∷ []
read_digits-last half text small e =
    let low : (0xF * 16 + half) % 16 ≡ half = omega arith in
    let high : (0xF * 16 + half) / 16 ≡ 15 = omega arith in
    rw (low, high, digits_of-text half text (15 ∷ []) e) (ap (λ ts. text ∷ ts) (digits_of-end 15 [] refl))

read_digits-pair : (low high text next : ℕ) (rest : List ℕ) → low < 14 → slice_get digit_texts low ≡ Some text → slice_get digit_texts high ≡ Some next → read_digits ((high * 16 + low) ∷ rest) ≡ text ∷ next ∷ read_digits rest
read_digits-pair low high text next rest small e f =
    let low_is : (high * 16 + low) % 16 ≡ low = omega arith in
    let high_is : (high * 16 + low) / 16 ≡ high = omega arith in
    read_digits-byte (high * 16 + low) text next rest (rw low_is e) (rw high_is f)

bad_digit-cons : (digit : ℕ) (rest : List ℕ) → bad_digit (digit ∷ rest) ≡ None → (is_none (half_of digit) ≡ false) × (bad_digit rest ≡ None)
bad_digit-cons digit rest e = position-None (λ text. is_none (half_of text)) digit rest e

pub read_digits_written : (digits : List ℕ) → bad_digit digits ≡ None → read_digits (written_digits digits) ≡ digits
unfolding IsWritten
read_digits_written [] e = refl
read_digits_written (last ∷ []) e =
    let written = written_as_half last (bad_digit-cons last [] e).0 in
    read_digits-last _ last written.0 written.1
read_digits_written (low ∷ high ∷ rest) e =
    let first = bad_digit-cons low (high ∷ rest) e in
    let second = bad_digit-cons high rest first.1 in
    let written = written_as_half low first.0 in
    read_digits-pair _ _ low high (written_digits rest) written.0 written.1 (written_as_half high second.0).1 ∙ ap (λ ts. low ∷ high ∷ ts) (read_digits_written rest second.1)
