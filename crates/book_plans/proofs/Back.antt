-- An entry that was written is read back.
use Rattle.std.proofs.Common.{◌≡◌, ◌≢◌, ◌<◌, ◌≤◌, ◌-◌, ◌==◌, ◌&&◌, ℕ, Bool, true, false, cond, nat_lt, List, [], ◌∷◌, ◌++◌, length, take, drop, get_or, replicate, Option, Some, None, refl, sym, ap, ◌∙◌, arith, append_assoc, append-nil}
use Rattle.std.proofs.Math.ListN.{drop_of_length-le}
use Rattle.std.proofs.lemmas.List.{take_all, take-append-drop, length-take}
use Rattle.std.proofs.Math.Seq.{take-append_seam}
use Rattle.std.proofs.lemmas.Bool.{eqb-true}
use Rattle.std.proofs.lemmas.Bool.Decides.{nat_tests}
use Rattle.std.specs.Prelude.{nat_le}
use Rattle.apdu.specs.Words.{is_between, is_empty}
use Rattle.bcd.specs.Digits.{read_digits, written_digits, digit_refusal, bad_digit}
use Rattle.bcd.specs.declared.DigitError.{DigitError}
use Rattle.bcd.specs.declared.DigitError.TheVariants.{BadDigit, TooMany}
use Rattle.bcd.proofs.Digits.{read_digits_written}
use Rattle.adn.specs.Book.{extension_row, additional_bytes, additional_of, signed_digits, number_of}
use Rattle.families.specs.Plans.{number_bytes, extension_bytes, has_plus, without_plus}
use Rattle.book_plans.proofs.Apart.{cond_true}
use Rattle.book_plans.proofs.Written.{number_footer, number_read, read_take, read_drop, length_written}

-- ---- the sign

signed_by : (c : ℕ) (text : List ℕ) (b : Bool) → (c == 43) ≡ b → cond (c == 43) (43 ∷ []) [] ++ cond (c == 43) (drop 1 (c ∷ text)) (c ∷ text) ≡ c ∷ text
signed_by c text true e = ap (λ b. cond b (43 ∷ []) [] ++ cond b (drop 1 (c ∷ text)) (c ∷ text)) e ∙ ap (λ k. k ∷ text) (sym (eqb-true c 43 e))
signed_by c text false e = ap (λ b. cond b (43 ∷ []) [] ++ cond b (drop 1 (c ∷ text)) (c ∷ text)) e

signed_text : (text : List ℕ) → cond (has_plus text) (43 ∷ []) [] ++ without_plus text ≡ text
signed_text [] = refl
signed_text (c ∷ text) = signed_by c text (c == 43) refl

-- ---- digits in two parts

refusal_by : (found : Option ℕ) (count : ℕ) → (let r : Option DigitError = elim found [ Some at ↦ Some (BadDigit at) | None ↦ cond (nat_lt 40 count) (Some (TooMany count)) None ] in r) ≡ None → (found ≡ None) × (count ≤ 40)
refusal_by (Some at) count e = absurd (cc)
refusal_by None count e = (refl, few (nat_lt 40 count) refl e)
  where
    few : (b : Bool) → nat_lt 40 count ≡ b → cond b (Some (TooMany count)) None ≡ None → count ≤ 40
    few true is e = absurd (cc)
    few false is e = grind (arith, nat_tests)

pub can_write : (digits : List ℕ) → digit_refusal digits ≡ None → (bad_digit digits ≡ None) × (length digits ≤ 40)
can_write digits e = refusal_by (bad_digit digits) (length digits) e

-- the bytes in the row itself, and those behind
pub record HasParts (digits : List ℕ) : Type 0 where
  pub some : is_empty (take 10 (written_digits digits)) ≡ false
  pub own : is_empty (read_digits (take 10 (written_digits digits))) ≡ false
  pub short : length (take 10 (written_digits digits)) ≤ 10
  pub both : read_digits (take 10 (written_digits digits)) ++ read_digits (drop 10 (written_digits digits)) ≡ digits

written_is_some : (d : ℕ) (more : List ℕ) → is_empty (take 10 (written_digits (d ∷ more))) ≡ false
written_is_some d [] = refl
written_is_some d (e ∷ more) = refl

pub short_part : (bytes : List ℕ) → length (take 10 bytes) ≤ 10
short_part bytes = omega (arith, length-take 10 bytes)

parts_by : (d : ℕ) (more : List ℕ) → bad_digit (d ∷ more) ≡ None → (b : Bool) → nat_le (length (d ∷ more)) 20 ≡ b → HasParts (d ∷ more)
parts_by d more e true few =
    let bytes : List ℕ = written_digits (d ∷ more) in
    let low : length (d ∷ more) ≤ 20 = grind (arith, nat_tests) in
    let short : length (written_digits (d ∷ more)) ≤ 10 = length_written 10 (d ∷ more) (omega arith) in
    let all : take 10 (written_digits (d ∷ more)) ≡ written_digits (d ∷ more) = take_all 10 (written_digits (d ∷ more)) short in
    let none : drop 10 (written_digits (d ∷ more)) ≡ [] = drop_of_length-le (written_digits (d ∷ more)) short in
    let own : read_digits (take 10 (written_digits (d ∷ more))) ≡ d ∷ more = ap read_digits all ∙ read_digits_written (d ∷ more) e in
    record {
      some = written_is_some d more;
      own = ap is_empty own;
      short = short_part (written_digits (d ∷ more));
      both = ap (λ own. own ++ read_digits (drop 10 (written_digits (d ∷ more)))) own ∙ ap (λ rest. (d ∷ more) ++ read_digits rest) none ∙ append-nil (d ∷ more);
    }
parts_by d more e false many =
    let high : 20 < length (d ∷ more) = grind (arith, nat_tests) in
    let own : read_digits (take 10 (written_digits (d ∷ more))) ≡ take 20 (d ∷ more) = read_take 10 (d ∷ more) e (omega arith) in
    let rest : read_digits (drop 10 (written_digits (d ∷ more))) ≡ drop 20 (d ∷ more) = read_drop 10 (d ∷ more) e (omega arith) in
    record {
      some = written_is_some d more;
      own = ap is_empty own;
      short = short_part (written_digits (d ∷ more));
      both = ap (λ own. own ++ read_digits (drop 10 (written_digits (d ∷ more)))) own ∙ ap (λ rest. take 20 (d ∷ more) ++ rest) rest ∙ take-append-drop 20 (d ∷ more);
    }

-- ---- the number

-- what stands behind the name, and what is read of it beside the extension row that it names
pub record IsBack (ext : List (List ℕ)) (text f : List ℕ) (x : ℕ) : Type 0 where
  pub wide : length f ≡ 14
  pub readable : is_between 12 254 (get_or f 0 0) ≡ false
  pub number : number_of ext f ≡ text
  pub others : (m : ℕ) → m ≢ x → m ≢ 255 → get_or f 13 0 ≢ m

back_by : (ext : List (List ℕ)) (text : List ℕ) (x : ℕ) (digits : List ℕ) → digits ≡ without_plus text → bad_digit digits ≡ None → (has_plus text && is_empty digits) ≡ false
    → additional_of (extension_row ext x) ≡ drop 10 (written_digits digits) → IsBack ext text (number_bytes (has_plus text) (take 10 (written_digits digits)) x) x
back_by ext text x [] is e some further =
    let unsigned : has_plus text ≡ false = alone (has_plus text) some in
    record {
      wide = refl;
      readable = refl;
      number = ap (λ b. cond b (43 ∷ []) [] ++ []) (sym unsigned) ∙ ap (λ digits. cond (has_plus text) (43 ∷ []) [] ++ digits) is ∙ signed_text text;
      others = λ m named filled same. filled (sym same);
    }
  where
    alone : (b : Bool) → (b && true) ≡ false → b ≡ false
    alone true e = absurd (cc)
    alone false e = refl
back_by ext text x (d ∷ more) is e some further =
    let parts : HasParts (d ∷ more) = parts_by d more e (nat_le (length (d ∷ more)) 20) refl in
    let own : List ℕ = take 10 (written_digits (d ∷ more)) in
    let read = number_footer (has_plus text) own x parts.some parts.short in
    let sign : List ℕ = cond (has_plus text) (43 ∷ []) [] in
    record {
      wide = read.wide;
      readable = read.readable;
      number =
          number_read ext (has_plus text) own x parts.some parts.short parts.own
          ∙ ap (λ rest. signed_digits (has_plus text) (read_digits own) (read_digits rest)) further
          ∙ append_assoc sign (read_digits own) (read_digits (drop 10 (written_digits (d ∷ more))))
          ∙ ap (λ digits. sign ++ digits) (parts.both ∙ is)
          ∙ signed_text text;
      others = λ m named filled same. named (sym same ∙ read.last);
    }

pub number_back : (ext : List (List ℕ)) (text : List ℕ) (x : ℕ) → digit_refusal (without_plus text) ≡ None → (has_plus text && is_empty (without_plus text)) ≡ false
    → additional_of (extension_row ext x) ≡ drop 10 (written_digits (without_plus text)) → IsBack ext text (number_bytes (has_plus text) (take 10 (written_digits (without_plus text))) x) x
number_back ext text x e some further = back_by ext text x (without_plus text) refl (can_write (without_plus text) e).0 some further

-- ---- the extension row

pub additional_back : (w : ℕ) (further : List ℕ) → length further ≤ 10 → additional_bytes (extension_bytes w further) ≡ further
additional_back w further h =
    let count : nat_le (length further) 10 ≡ true = grind (arith, nat_tests) in
    cond_true (nat_le (length further) 10) (take (length further) (further ++ replicate (w - length (0x02 ∷ length further ∷ further)) 255)) [] count
    ∙ take-append_seam further (replicate (w - length (0x02 ∷ length further ∷ further)) 255)
