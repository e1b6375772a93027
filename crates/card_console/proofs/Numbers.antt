-- What decimal digits write behind those of a number.
use Rattle.std.proofs.Common.{◌≡◌, ℕ, ◌<◌, ◌==◌, Bool, false, if◌then◌else◌, List, [], ◌∷◌, Option, Some, None, length, drop, get_or, suc, refl, ap, ◌∙◌, drop-cons}
use Rattle.card_console.specs.Lines.{with_digit, number_behind, has_leading_zero, number_of}

-- behind digits that write no number none do
none_behind : (digits : List ℕ) → number_behind None digits ≡ None
none_behind [] = refl
none_behind (digit ∷ digits) = refl

pub some_digits : (digits : List ℕ) → (length digits == 0) ≡ false → has_leading_zero digits ≡ false → number_of digits ≡ number_behind (Some 0) digits
some_digits [] none plain = absurd (let no = none in cc)
some_digits (digit ∷ digits) some plain = ap (λ (zero : Bool). if zero then None else number_behind (Some 0) (digit ∷ digits)) plain

-- where a digit can not be added there is no number
pub no_number : (digits : List ℕ) (n i : ℕ) → (length digits == 0) ≡ false → has_leading_zero digits ≡ false → number_behind (Some 0) digits ≡ number_behind (Some n) (drop i digits)
    → i < length digits → with_digit n (get_or digits i 0) ≡ None → number_of digits ≡ None
no_number digits n i some plain so_far within none =
    some_digits digits some plain ∙ so_far ∙ ap (λ (xs : List ℕ). number_behind (Some n) xs) (drop-cons digits i 0 within)
    ∙ ap (λ (x : Option ℕ). number_behind x (drop (suc i) digits)) none ∙ none_behind (drop (suc i) digits)
