-- Digits of a number, two to a byte and the low half first: 3GPP TS 31.102 clause 4.4.2.3.
use Rattle.std.specs.Prelude.{ℕ, ◌+◌, ◌*◌, ◌==◌, nat_lt, if◌then◌else◌, List, [], ◌∷◌, length, position, take_while, flat_map, map, slice_index, Option, Some, None, is_none, unwrap_or, codes}
use Rattle.apdu.specs.Words.{low_half, high_half}
use Rattle.bcd.specs.declared.DigitError.{DigitError}
use Rattle.bcd.specs.declared.DigitError.TheVariants.{BadDigit, TooMany}

-- ---- reading

-- the texts of the halves 0 to D: C, the pause, is written `,`, and D, the wild value, `N`
abbrev pub digit_texts : List ℕ
digit_texts = codes "0123456789*#,N"

-- the two halves of each byte, the low one first
abbrev pub halves : List ℕ → List ℕ
halves bytes = flat_map (λ b. low_half b ∷ high_half b ∷ []) bytes

-- the texts of the halves before the first E or F
abbrev pub digits_of : List ℕ → List ℕ
digits_of all = map (λ h. slice_index digit_texts h) (take_while (λ h. nat_lt h 0xE) all)

abbrev pub read_digits : List ℕ → List ℕ
read_digits bytes = digits_of (halves bytes)

-- ---- writing

-- the half that a text stands for
abbrev pub half_of : ℕ → Option ℕ
half_of text = position (λ t. t == text) digit_texts

-- two halves to a byte, and an odd count filled with F
abbrev pub paired : List ℕ → List ℕ
paired [] = []
paired (low ∷ []) = (0xF * 16 + low) ∷ []
paired (low ∷ high ∷ rest) = (high * 16 + low) ∷ paired rest

abbrev pub written_digits : List ℕ → List ℕ
written_digits digits = paired (map (λ text. unwrap_or (half_of text) 0) digits)

-- the place of the first byte that is no digit's text
abbrev pub bad_digit : List ℕ → Option ℕ
bad_digit digits = position (λ text. is_none (half_of text)) digits

-- why digits cannot be written: a byte that is no digit's text, or else more than 40 of them
abbrev pub digit_refusal : List ℕ → Option DigitError
digit_refusal digits = elim (bad_digit digits) [
  | Some at ↦ Some (BadDigit at)
  | None ↦ if nat_lt 40 (length digits) then Some (TooMany (length digits)) else None
]
