-- Numbers are read back from their bytes.
use Rattle.std.proofs.Common.{◌≡◌, ◌<◌, ◌≤◌, ◌+◌, ◌-◌, ◌^◌, ◌/◌, ◌%◌, ℕ, zero, suc, false, List, [], ◌∷◌, ◌++◌, length, append_assoc, append-nil, length-append, Option, Some, None, IfSome, refl, sym, ap, ◌∙◌, arith, get_or, inl, inr}
use Rattle.std.specs.Int.{Width, w16, w32, w64, to_be_bytes, from_be_bytes}
use Rattle.std.specs.Prelude.{nat_lt}
use Rattle.std.proofs.Math.Nat.{one-le-pow, pow-suc}
use Rattle.std.specs.Fmt.{decimal}
use Rattle.std.proofs.lemmas.Fmt.{decimal_by_steps}
use Rattle.std.proofs.lemmas.Bool.{cases_lt, lt-ltb, le-ltb, ne_eqb}
use Rattle.std.proofs.lemmas.List.{take_at, drop_at}
use Rattle.std.proofs.lemmas.Nat.{from_be_bytes-to_be_bytes_2, from_be_bytes-to_be_bytes_4, from_be_bytes-to_be_bytes_8}
use Rattle.report.specs.Texts.{number_text}
use Rattle.report.specs.Kept.{number_bytes, numbers_bytes, place_bytes, shown_bytes, word, behind_word, first_number, behind_number, second_number, first_place, behind_place, words_of, places_of, numbers_of, shown_of}

-- ---- words

module _ (len : ℕ) (front rest : List ℕ) (is : length front ≡ len) where
  enough : nat_lt (length (front ++ rest)) len ≡ false
  enough = le-ltb (length (front ++ rest)) len (omega (arith, length-append front rest))

  word_at : (w : Width) → word w len (front ++ rest) ≡ from_be_bytes w front
  word_at w = rw enough (ap (from_be_bytes w) (take_at front rest len is))

  behind_word_at : behind_word len (front ++ rest) ≡ rest
  behind_word_at = rw enough (drop_at front rest len is)

-- ---- the bytes of a number, by its size

bytes_1 : (n : ℕ) → n < 253 → number_bytes n ≡ n ∷ []
unfolding number_bytes
bytes_1 n small = rw (lt-ltb n 253 small) refl

bytes_3 : (n : ℕ) → 253 ≤ n → n < 0x1_0000 → number_bytes n ≡ 253 ∷ to_be_bytes w16 n
unfolding number_bytes
bytes_3 n large small = rw (le-ltb n 253 large, lt-ltb n 0x1_0000 small) refl

bytes_5 : (n : ℕ) → 0x1_0000 ≤ n → n < 0x1_0000_0000 → number_bytes n ≡ 254 ∷ to_be_bytes w32 n
unfolding number_bytes
bytes_5 n large small = rw (le-ltb n 253 (omega arith), le-ltb n 0x1_0000 large, lt-ltb n 0x1_0000_0000 small) refl

bytes_9 : (n : ℕ) → 0x1_0000_0000 ≤ n → number_bytes n ≡ 255 ∷ to_be_bytes w64 n
unfolding number_bytes
bytes_9 n large = rw (le-ltb n 253 (omega arith), le-ltb n 0x1_0000 (omega arith), le-ltb n 0x1_0000_0000 large) refl

-- ---- a number read, by its mark

first_plain : (n : ℕ) (rest : List ℕ) → n < 253 → first_number (n ∷ rest) ≡ n
unfolding first_number
first_plain n rest small = rw (ne_eqb n 253 (λ e. omega arith), ne_eqb n 254 (λ e. omega arith), ne_eqb n 255 (λ e. omega arith)) refl

first_253 : (rest : List ℕ) → first_number (253 ∷ rest) ≡ word w16 2 rest
unfolding first_number
first_253 rest = refl

first_254 : (rest : List ℕ) → first_number (254 ∷ rest) ≡ word w32 4 rest
unfolding first_number
first_254 rest = refl

first_255 : (rest : List ℕ) → first_number (255 ∷ rest) ≡ word w64 8 rest
unfolding first_number
first_255 rest = refl

behind_plain : (n : ℕ) (rest : List ℕ) → n < 253 → behind_number (n ∷ rest) ≡ rest
unfolding behind_number
behind_plain n rest small = rw (ne_eqb n 253 (λ e. omega arith), ne_eqb n 254 (λ e. omega arith), ne_eqb n 255 (λ e. omega arith)) refl

behind_253 : (rest : List ℕ) → behind_number (253 ∷ rest) ≡ behind_word 2 rest
unfolding behind_number
behind_253 rest = refl

behind_254 : (rest : List ℕ) → behind_number (254 ∷ rest) ≡ behind_word 4 rest
unfolding behind_number
behind_254 rest = refl

behind_255 : (rest : List ℕ) → behind_number (255 ∷ rest) ≡ behind_word 8 rest
unfolding behind_number
behind_255 rest = refl

-- ---- a number written is read

module _ (n : ℕ) (rest : List ℕ) where
  first_1 : n < 253 → first_number (number_bytes n ++ rest) ≡ n
  first_1 small = ap (λ (bytes : List ℕ). first_number (bytes ++ rest)) (bytes_1 n small) ∙ first_plain n rest small

  first_3 : 253 ≤ n → n < 0x1_0000 → first_number (number_bytes n ++ rest) ≡ n
  first_3 large small =
      ap (λ (bytes : List ℕ). first_number (bytes ++ rest)) (bytes_3 n large small)
      ∙ first_253 (to_be_bytes w16 n ++ rest)
      ∙ word_at 2 (to_be_bytes w16 n) rest refl w16
      ∙ from_be_bytes-to_be_bytes_2 n (omega arith)

  first_5 : 0x1_0000 ≤ n → n < 0x1_0000_0000 → first_number (number_bytes n ++ rest) ≡ n
  first_5 large small =
      ap (λ (bytes : List ℕ). first_number (bytes ++ rest)) (bytes_5 n large small)
      ∙ first_254 (to_be_bytes w32 n ++ rest)
      ∙ word_at 4 (to_be_bytes w32 n) rest refl w32
      ∙ from_be_bytes-to_be_bytes_4 n (omega arith)

  first_9 : 0x1_0000_0000 ≤ n → n < 2 ^ 64 → first_number (number_bytes n ++ rest) ≡ n
  first_9 large fits =
      ap (λ (bytes : List ℕ). first_number (bytes ++ rest)) (bytes_9 n large)
      ∙ first_255 (to_be_bytes w64 n ++ rest)
      ∙ word_at 8 (to_be_bytes w64 n) rest refl w64
      ∙ from_be_bytes-to_be_bytes_8 n fits

  pub first_back : n < 2 ^ 64 → first_number (number_bytes n ++ rest) ≡ n
  first_back fits = elim (cases_lt n 253) [
    | inl small ↦ first_1 small
    | inr large ↦ elim (cases_lt n 0x1_0000) [
      | inl small ↦ first_3 large small
      | inr larger ↦ elim (cases_lt n 0x1_0000_0000) [
        | inl small ↦ first_5 larger small
        | inr largest ↦ first_9 largest fits
      ]
    ]
  ]

  behind_1 : n < 253 → behind_number (number_bytes n ++ rest) ≡ rest
  behind_1 small = ap (λ (bytes : List ℕ). behind_number (bytes ++ rest)) (bytes_1 n small) ∙ behind_plain n rest small

  behind_3 : 253 ≤ n → n < 0x1_0000 → behind_number (number_bytes n ++ rest) ≡ rest
  behind_3 large small =
      ap (λ (bytes : List ℕ). behind_number (bytes ++ rest)) (bytes_3 n large small)
      ∙ behind_253 (to_be_bytes w16 n ++ rest)
      ∙ behind_word_at 2 (to_be_bytes w16 n) rest refl

  behind_5 : 0x1_0000 ≤ n → n < 0x1_0000_0000 → behind_number (number_bytes n ++ rest) ≡ rest
  behind_5 large small =
      ap (λ (bytes : List ℕ). behind_number (bytes ++ rest)) (bytes_5 n large small)
      ∙ behind_254 (to_be_bytes w32 n ++ rest)
      ∙ behind_word_at 4 (to_be_bytes w32 n) rest refl

  behind_9 : 0x1_0000_0000 ≤ n → behind_number (number_bytes n ++ rest) ≡ rest
  behind_9 large =
      ap (λ (bytes : List ℕ). behind_number (bytes ++ rest)) (bytes_9 n large)
      ∙ behind_255 (to_be_bytes w64 n ++ rest)
      ∙ behind_word_at 8 (to_be_bytes w64 n) rest refl

  pub behind_back : behind_number (number_bytes n ++ rest) ≡ rest
  behind_back = elim (cases_lt n 253) [
    | inl small ↦ behind_1 small
    | inr large ↦ elim (cases_lt n 0x1_0000) [
      | inl small ↦ behind_3 large small
      | inr larger ↦ elim (cases_lt n 0x1_0000_0000) [
        | inl small ↦ behind_5 larger small
        | inr largest ↦ behind_9 largest
      ]
    ]
  ]

pub sole_back : (n : ℕ) → n < 2 ^ 64 → first_number (number_bytes n) ≡ n
sole_back n fits = ap first_number (sym (append-nil (number_bytes n))) ∙ first_back n [] fits

pub second_back : (m n : ℕ) (rest : List ℕ) → n < 2 ^ 64 → second_number (number_bytes m ++ (number_bytes n ++ rest)) ≡ n
second_back m n rest fits = ap first_number (behind_back m (number_bytes n ++ rest)) ∙ first_back n rest fits

pub second_sole_back : (m n : ℕ) → n < 2 ^ 64 → second_number (number_bytes m ++ number_bytes n) ≡ n
second_sole_back m n fits = ap first_number (behind_back m (number_bytes n)) ∙ sole_back n fits

pub behind_both : (m n : ℕ) (rest : List ℕ) → behind_number (behind_number (number_bytes m ++ (number_bytes n ++ rest))) ≡ rest
behind_both m n rest = ap behind_number (behind_back m (number_bytes n ++ rest)) ∙ behind_back n rest

pub place_back : (p : Option ℕ) (rest : List ℕ) → IfSome p (λ n. n < 2 ^ 64) → first_place (place_bytes p ++ rest) ≡ p
place_back None rest fits = refl
place_back (Some n) rest fits = ap Some (first_back n rest fits)

pub behind_place_back : (p : Option ℕ) (rest : List ℕ) → behind_place (place_bytes p ++ rest) ≡ rest
behind_place_back None rest = refl
behind_place_back (Some n) rest = behind_back n rest

-- ---- lists of numbers

-- each number fits eight bytes
abbrev pub Fit : List ℕ → Type 0
Fit xs = (k : ℕ) → k < length xs → get_or xs k 0 < 2 ^ 64

words_back : (xs : List ℕ) → Fit xs → words_of (length xs) (numbers_bytes xs) ≡ xs
words_back [] fit = refl
words_back (x ∷ xs) fit =
    ap (λ (n : ℕ). n ∷ words_of (length xs) (behind_number (number_bytes x ++ numbers_bytes xs))) (first_back x (numbers_bytes xs) (fit 0 (omega arith)))
    ∙ ap (λ (rest : List ℕ). x ∷ words_of (length xs) rest) (behind_back x (numbers_bytes xs))
    ∙ ap (λ (ns : List ℕ). x ∷ ns) (words_back xs (λ k lt. fit (suc k) (omega arith)))

pub numbers_back : (xs : List ℕ) → length xs ≤ 64 → Fit xs → numbers_of (length xs) (numbers_bytes xs) ≡ Some xs
numbers_back xs few fit = rw (le-ltb 64 (length xs) few) (ap Some (words_back xs fit))

abbrev pub FitPlaces : List (Option ℕ) → Type 0
FitPlaces xs = (k : ℕ) → k < length xs → IfSome (get_or xs k None) (λ n. n < 2 ^ 64)

places_back : (xs : List (Option ℕ)) → FitPlaces xs → places_of (length xs) (shown_bytes xs) ≡ xs
places_back [] fit = refl
places_back (x ∷ xs) fit =
    ap (λ (p : Option ℕ). p ∷ places_of (length xs) (behind_place (place_bytes x ++ shown_bytes xs))) (place_back x (shown_bytes xs) (fit 0 (omega arith)))
    ∙ ap (λ (rest : List ℕ). x ∷ places_of (length xs) rest) (behind_place_back x (shown_bytes xs))
    ∙ ap (λ (ps : List (Option ℕ)). x ∷ ps) (places_back xs (λ k lt. fit (suc k) (omega arith)))

pub shown_back : (xs : List (Option ℕ)) → length xs ≤ 8 → FitPlaces xs → shown_of (length xs) (shown_bytes xs) ≡ Some xs
shown_back xs few fit = rw (le-ltb 8 (length xs) few) (ap Some (places_back xs fit))

-- ---- the loops

pub words_step : (bytes items items' rest behind : List ℕ) (count n : ℕ) → length items < count → words_of count bytes ≡ items ++ words_of (count - length items) rest → n ≡ first_number rest → behind ≡ behind_number rest → items' ≡ items ++ n ∷ [] → words_of count bytes ≡ items' ++ words_of (count - length items') behind
words_step bytes items items' rest behind count n more before is is_behind is' =
    let one_more : length items' ≡ length items + 1 = ap length is' ∙ length-append items (n ∷ []) in
    let left : count - length items ≡ suc (count - length items') = omega arith in
    before ∙ ap (λ (k : ℕ). items ++ words_of k rest) left
    ∙ ap (λ (m : ℕ). items ++ m ∷ words_of (count - length items') (behind_number rest)) (sym is)
    ∙ ap (λ (b : List ℕ). items ++ n ∷ words_of (count - length items') b) (sym is_behind)
    ∙ sym (append_assoc items (n ∷ []) _)
    ∙ ap (λ (front : List ℕ). front ++ words_of (count - length items') behind) (sym is')

pub words_end : (bytes items rest : List ℕ) (count : ℕ) → count ≤ 64 → count ≤ length items → words_of count bytes ≡ items ++ words_of (count - length items) rest → Some items ≡ numbers_of count bytes
words_end bytes items rest count few full before =
    let none_left : count - length items ≡ 0 = omega arith in
    let all : words_of count bytes ≡ items = before ∙ ap (λ (k : ℕ). items ++ words_of k rest) none_left ∙ append-nil items in
    rw (le-ltb 64 count few) (ap Some (sym all))

pub places_step : (bytes rest behind : List ℕ) (items items' : List (Option ℕ)) (count : ℕ) (p : Option ℕ) → length items < count → places_of count bytes ≡ items ++ places_of (count - length items) rest → p ≡ first_place rest → behind ≡ behind_place rest → items' ≡ items ++ p ∷ [] → places_of count bytes ≡ items' ++ places_of (count - length items') behind
places_step bytes rest behind items items' count p more before is is_behind is' =
    let one_more : length items' ≡ length items + 1 = ap length is' ∙ length-append items (p ∷ []) in
    let left : count - length items ≡ suc (count - length items') = omega arith in
    before ∙ ap (λ (k : ℕ). items ++ places_of k rest) left
    ∙ ap (λ (q : Option ℕ). items ++ q ∷ places_of (count - length items') (behind_place rest)) (sym is)
    ∙ ap (λ (b : List ℕ). items ++ p ∷ places_of (count - length items') b) (sym is_behind)
    ∙ sym (append_assoc items (p ∷ []) _)
    ∙ ap (λ (front : List (Option ℕ)). front ++ places_of (count - length items') behind) (sym is')

pub places_end : (bytes rest : List ℕ) (items : List (Option ℕ)) (count : ℕ) → count ≤ 8 → count ≤ length items → places_of count bytes ≡ items ++ places_of (count - length items) rest → Some items ≡ shown_of count bytes
places_end bytes rest items count few full before =
    let none_left : count - length items ≡ 0 = omega arith in
    let all : places_of count bytes ≡ items = before ∙ ap (λ (k : ℕ). items ++ places_of k rest) none_left ∙ append-nil items in
    rw (le-ltb 8 count few) (ap Some (sym all))

-- ---- the bytes of a number are no more than its word of text

least_one : (n : ℕ) → n < 10 → (k : ℕ) → 10 ^ k ≤ n → k < length ((48 + n) ∷ [])
least_one n small zero le = omega arith
least_one n small (suc k) le = absurd (omega (arith, pow-suc 10 k, one-le-pow k 10 (omega arith)))

least_more : (n : ℕ) (ds : List ℕ) → 10 ≤ n → ((k : ℕ) → 10 ^ k ≤ n / 10 → k < length ds) → (k : ℕ) → 10 ^ k ≤ n → k < length (ds ++ (48 + n % 10) ∷ [])
least_more n ds large shorter zero le = omega (arith, length-append ds ((48 + n % 10) ∷ []))
least_more n ds large shorter (suc k) le =
    let below : 10 ^ k ≤ n / 10 = omega (arith, pow-suc 10 k) in
    omega (arith, shorter k below, length-append ds ((48 + n % 10) ∷ []))

digits_least : (n : ℕ) → n < 2 ^ 64 → (k : ℕ) → 10 ^ k ≤ n → k < length (decimal n)
digits_least = decimal_by_steps (λ n ds. (k : ℕ) → 10 ^ k ≤ n → k < length ds) least_one least_more

small_1 : (n : ℕ) → n < 253 → length (number_bytes n) ≤ length (number_text n)
small_1 n small = let e : length (number_bytes n) ≡ 1 = ap length (bytes_1 n small) in omega arith

small_3 : (n : ℕ) → n < 2 ^ 64 → 253 ≤ n → n < 0x1_0000 → length (number_bytes n) ≤ length (number_text n)
small_3 n fits large small =
    let e : length (number_bytes n) ≡ 3 = ap length (bytes_3 n large small) in
    let d : 1 < length (decimal n) = digits_least n fits 1 (omega arith) in
    omega arith

small_5 : (n : ℕ) → n < 2 ^ 64 → 0x1_0000 ≤ n → n < 0x1_0000_0000 → length (number_bytes n) ≤ length (number_text n)
small_5 n fits large small =
    let e : length (number_bytes n) ≡ 5 = ap length (bytes_5 n large small) in
    let d : 3 < length (decimal n) = digits_least n fits 3 (omega arith) in
    omega arith

small_9 : (n : ℕ) → n < 2 ^ 64 → 0x1_0000_0000 ≤ n → length (number_bytes n) ≤ length (number_text n)
small_9 n fits large =
    let e : length (number_bytes n) ≡ 9 = ap length (bytes_9 n large) in
    let d : 7 < length (decimal n) = digits_least n fits 7 (omega arith) in
    omega arith

pub number_small : (n : ℕ) → n < 2 ^ 64 → length (number_bytes n) ≤ length (number_text n)
number_small n fits = elim (cases_lt n 253) [
  | inl small ↦ small_1 n small
  | inr large ↦ elim (cases_lt n 0x1_0000) [
    | inl small ↦ small_3 n fits large small
    | inr larger ↦ elim (cases_lt n 0x1_0000_0000) [
      | inl small ↦ small_5 n fits larger small
      | inr largest ↦ small_9 n fits largest
    ]
  ]
]
