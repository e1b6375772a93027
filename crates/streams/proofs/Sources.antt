-- What was read so far is the front of what the source had, and how much the source gave.
use Rattle.std.proofs.Common.{◌≡◌, ◌≤◌, ◌<◌, ℕ, ◌+◌, ◌-◌, ◌^◌, min, ◌⊎◌, inl, inr, List, [], ◌++◌, length, take, drop, Option, Some, None, IfSome, sym, ap, ◌∙◌, subst, arith, length-append, length-drop}
use Rattle.std.proofs.lemmas.List.{append-nil, drop-drop, take-append-drop}
use Rattle.std.proofs.Math.Seq.{take-add}
use Rattle.std.proofs.lemmas.List.{length-take-le}
use Rattle.apdu.specs.Stream.{Reads}

-- a source that gave n bytes since it had given so many; the number stops at the last value of a u64
pub record HasGiven (before now n : ℕ) : Type 0 where
  pub none : n ≡ 0 → now ≡ before
  pub some : 0 < n → now ≡ min (before + n) (2 ^ 64 - 1)

min_more : (a b m : ℕ) → min (min a m + b) m ≡ min (a + b) m
min_more a b m = grind arith

gave : (before now after n more : ℕ) → HasGiven before now n → after ≡ min (now + more) (2 ^ 64 - 1) → (n ≡ 0) ⊎ (0 < n) → after ≡ min (before + (n + more)) (2 ^ 64 - 1)
gave before now after n more h is (inl zero) =
    is ∙ ap (λ (k : ℕ). min (k + more) (2 ^ 64 - 1)) (h.none zero) ∙ ap (λ (k : ℕ). min (before + k) (2 ^ 64 - 1)) (omega (arith, zero))
gave before now after n more h is (inr some) =
    is ∙ ap (λ (k : ℕ). min (k + more) (2 ^ 64 - 1)) (h.some some) ∙ min_more (before + n) more (2 ^ 64 - 1) ∙ ap (λ (k : ℕ). min k (2 ^ 64 - 1)) (omega arith)

some_or_none : (n : ℕ) → (n ≡ 0) ⊎ (0 < n)
some_or_none n = grind arith

pub gave_more : (before now after n more whole : ℕ) → HasGiven before now n → after ≡ min (now + more) (2 ^ 64 - 1) → 0 < more → whole ≡ n + more → HasGiven before after whole
gave_more before now after n more whole h is some sum = record {
  none = λ zero. absurd (omega (arith, zero, some, sum));
  some = λ _. gave before now after n more h is (some_or_none n) ∙ ap (λ (k : ℕ). min (before + k) (2 ^ 64 - 1)) (sym sum);
}

-- the read that answers the end gives nothing more
pub gave_all : (before now after n more : ℕ) → HasGiven before now n → after ≡ min (now + more) (2 ^ 64 - 1) → more ≡ 0 → after ≡ min (before + n) (2 ^ 64 - 1)
gave_all before now after n more h is none =
    gave before now after n more h is (some_or_none n) ∙ ap (λ (k : ℕ). min (before + k) (2 ^ 64 - 1)) (omega (arith, none))

abbrev pub Told : Option (List ℕ) → Option (List ℕ) → List ℕ → Type 0
Told left now bytes = IfSome left (λ before. (now ≡ Some (drop (length bytes) before)) × (bytes ≡ take (length bytes) before) × (length bytes ≤ length before))

told_at : (old new : Option (List ℕ)) (n : ℕ) (into before : List ℕ) → old ≡ Some before → Reads old new n into
    → (new ≡ Some (drop n before)) × (take n into ≡ take n before) × (n ≤ length before) × (n ≡ 0 → 0 < length into → before ≡ [])
told_at old new n into before e h =
    subst (λ (o : Option (List ℕ)). IfSome o (λ b. (new ≡ Some (drop n b)) × (take n into ≡ take n b) × (n ≤ length b) × (n ≡ 0 → 0 < length into → b ≡ []))) e h.told

whole : (k : ℕ) (xs : List ℕ) → drop k xs ≡ [] → xs ≡ take k xs
whole k xs none = sym (take-append-drop k xs) ∙ ap (λ (rest : List ℕ). take k xs ++ rest) none ∙ append-nil (take k xs)

pub at_end : (left now new : Option (List ℕ)) (bytes into : List ℕ) (n : ℕ) → Told left now bytes → Reads now new n into → n ≡ 0 → 0 < length into → IfSome left (λ before. before ≡ bytes)
at_end None now new bytes into n told reads zero room = tt
at_end (Some before) now new bytes into n told reads zero room =
    whole (length bytes) before ((told_at now new n into (drop (length bytes) before) told.0 reads).3 zero room) ∙ sym told.1

pub more_length : (bytes into more : List ℕ) (n : ℕ) → n ≤ length into → more ≡ bytes ++ take n into → length more ≡ length bytes + n
more_length bytes into more n room is = ap length is ∙ length-append bytes (take n into) ∙ ap (λ (m : ℕ). length bytes + m) (length-take-le n into room)

pub goes_on : (left now new : Option (List ℕ)) (bytes more into : List ℕ) (n : ℕ) → Told left now bytes → Reads now new n into → n ≤ length into → more ≡ bytes ++ take n into → Told left new more
goes_on None now new bytes more into n told reads room is = tt
goes_on (Some before) now new bytes more into n told reads room is =
    let got = told_at now new n into (drop (length bytes) before) told.0 reads in
    let len : length more ≡ length bytes + n = ap length is ∙ length-append bytes (take n into) ∙ ap (λ (m : ℕ). length bytes + m) (length-take-le n into room) in
    let fits : n ≤ length before - length bytes = subst (λ (m : ℕ). n ≤ m) (length-drop (length bytes) before) got.2 in (
      rw len (got.0 ∙ ap Some (drop-drop n (length bytes) before)),
      rw len (is ∙ ap (λ (xs : List ℕ). xs ++ take n into) told.1 ∙ ap (λ (xs : List ℕ). take (length bytes) before ++ xs) got.1 ∙ sym (take-add (length bytes) n before)),
      (let short = told.2 in omega arith),
    )
