-- Numbers that are spelt as those of a command, and how clap reads them.
use Rattle.std.proofs.Common.{◌≡◌, ℕ, ◌==◌, ◌&&◌, ◌<◌, ◌≤◌, ◌^◌, Bool, true, false, refl, ap, arith, List, [], ◌∷◌, length, Option, Some, None, Result, Ok, Err, nat_lt, nat_le, lt-ltb, ltb-true}
use Rattle.std.specs.Prelude.{pos, option_and_then}
use Rattle.std.specs.List.{list_all}
use Rattle.std.specs.Char.{digit_value, is_ascii_digit}
use Rattle.std.specs.Str.Parse.{AllDigits, ExplainsUnsignedError, HasUnsignedDigitsIfOk, ParsesUnsigned, digits_value, starts_with_minus, without_leading_plus}
use Rattle.std.specs.declared.num.ParseIntError.{ParseIntError}
use Rattle.std.proofs.lemmas.Bool.{leb-true, le-leb, ne_eqb}
use native.Mathlib.Nat.{pow-le-pow_right}
use Rattle.std.proofs.lemmas.Str.Parse.{IsNumeralModel, numerals_by_value, digits_value_short}
use Rattle.apdu.specs.Words.{is_between}
use Rattle.clap.specs.Words.{ReadsOne, Text}
use Rattle.clap.specs.ValueTests.{accepts, is_numeral}
use Rattle.clap.specs.declared.builder.value_parser.ValueParser.TheVariants.{Signed}
use Rattle.clap.proofs.WalkLemmas.{both}
use Rattle.subcommands.specs.Subcommands.{spells_number}
use Rattle.subcommands.specs.Spelling.{spells_name}
use Rattle.subcommands.specs.CommandLine.{read_number}

-- ---- what `get_one` gives

digits_pass : (ds : List ℕ) → AllDigits 10 ds → list_all (λ d. nat_lt (digit_value d) 10) ds ≡ true
digits_pass [] h = refl
digits_pass (d ∷ ds) h = rw (lt-ltb (digit_value d) 10 h.0) (digits_pass ds h.1)

digits_from : (ds : List ℕ) → list_all (λ d. nat_lt (digit_value d) 10) ds ≡ true → AllDigits 10 ds
digits_from [] e = tt
digits_from (d ∷ ds) e =
    let parts = both _ _ e in
    (ltb-true _ _ parts.0, digits_from ds parts.1)

-- what `u32` and `u16` say of a text and what they read of it
abbrev FromText : ℕ → List ℕ → Result ℕ ParseIntError → Type 0
FromText bits text r = ParsesUnsigned bits 10 text r × ExplainsUnsignedError 10 text r × HasUnsignedDigitsIfOk text r

module _ (bits : ℕ) where
  abbrev is_read : List ℕ → Bool
  is_read ds = is_numeral ds && nat_lt (digits_value 10 ds) (2 ^ bits)

  read_some : (text : Text) (n : ℕ) → ParsesUnsigned {E = ParseIntError} bits 10 text (Ok n) → Some n ≡ read_number bits text
  read_some text n h =
      let ds = without_leading_plus text in
      rw (lt-ltb 0 (length ds) h.0.0.0, digits_pass ds h.0.0.1, lt-ltb (digits_value 10 ds) (2 ^ bits) h.0.1) (ap Some h.1)

  read_none : (text : Text) (e : ParseIntError) → ParsesUnsigned {E = ParseIntError} bits 10 text (Err e) → None ≡ read_number bits text
  read_none text e h = go (is_read (without_leading_plus text)) refl
    where
      go : (b : Bool) → is_read (without_leading_plus text) ≡ b → None ≡ read_number bits text
      go false t = rw t refl
      go true t =
          let outer = both _ _ t in
          let inner = both _ _ outer.0 in
          absurd (h ((ltb-true _ _ inner.0, digits_from (without_leading_plus text) inner.1), ltb-true _ _ outer.1))

  reads : (text : Text) (r : Option ℕ) → ReadsOne (FromText bits) text r → r ≡ read_number bits text
  reads text (Some n) h = read_some text n h.0
  reads text None h = read_none text h.0 h.1.0

  pub reads_one : (text : Option Text) (r : Option ℕ) → (text ≡ None → r ≡ None) → ((t : Text) → text ≡ Some t → ReadsOne (FromText bits) t r)
      → r ≡ option_and_then (read_number bits) text
  reads_one None r none some = none refl
  reads_one (Some t) r none some = reads t r (some t refl)

-- ---- the numbers of a command

are_digits : IsNumeralModel (λ ds. list_all is_ascii_digit ds ≡ true) (digits_value 10)
are_digits = numerals_by_value _ (record {
  empty = refl;
  parts = λ c cs e. let k = both (is_ascii_digit c) _ e in let m = both (nat_le 48 c) _ k.0 in ((leb-true 48 c m.0, leb-true c 57 m.1), k.1);
  more = λ c cs k e. rw (le-leb 48 c k.0, le-leb c 57 k.1) e;
})

module _ (most : ℕ) (text : Text) (spelt : spells_number most text ≡ true) where
  pub some_digits : (1 ≤ length text) × (length text ≤ most) × (list_all is_ascii_digit text ≡ true)
  some_digits =
      let all = both _ _ spelt in
      let long = both _ _ all.0 in
      (leb-true _ _ long.0, leb-true _ _ long.1, all.1)

  pub is_numeral_text : is_numeral text ≡ true
  is_numeral_text = rw (lt-ltb 0 (length text) (omega (arith, some_digits.0)), digits_pass text (are_digits.to text some_digits.2)) refl

  pub below : digits_value 10 text < 10 ^ most
  below = digits_value_short are_digits text most some_digits.2 some_digits.1

digit_is_no_sign : (c : ℕ) → is_ascii_digit c ≡ true → ((c == 45) ≡ false) × ((c == 43) ≡ false)
digit_is_no_sign c e =
    let m = both (nat_le 48 c) _ e in
    let least = leb-true 48 c m.0 in
    (ne_eqb c 45 (λ h. omega arith), ne_eqb c 43 (λ h. omega arith))

-- no sign stands first
pub no_signs : (text : Text) → list_all is_ascii_digit text ≡ true
    → (starts_with_minus text ≡ false) × (without_leading_plus text ≡ text) × (spells_name text ≡ true)
no_signs [] e = (refl, refl, refl)
no_signs (c ∷ cs) e =
    let other = digit_is_no_sign c (both (is_ascii_digit c) _ e).0 in
    (other.0, rw (other.1) refl, rw (other.0) refl)

module _ (most : ℕ) (text : Text) (spelt : spells_number most text ≡ true) where
  unsigned : (starts_with_minus text ≡ false) × (without_leading_plus text ≡ text) × (spells_name text ≡ true)
  unsigned = no_signs text (some_digits most text spelt).2

  pub number_is_name : spells_name text ≡ true
  number_is_name = unsigned.2

  pub accepted : most ≤ 18 → (low high : ℕ) → accepts false (Signed (pos low) (pos high)) text ≡ is_between low high (digits_value 10 text)
  accepted few low high =
      let fits : nat_lt (digits_value 10 text) (2 ^ 63) ≡ true = lt-ltb _ _ (omega (arith, below most text spelt, pow-le-pow_right {n = 10} (omega arith) few)) in
      simp (unsigned.0, unsigned.1, is_numeral_text most text spelt, fits) refl

  pub number_read : (bits : ℕ) → digits_value 10 text < 2 ^ bits → read_number bits text ≡ Some (digits_value 10 text)
  number_read bits fits = simp (unsigned.1, is_numeral_text most text spelt, lt-ltb _ _ fits) refl
