-- Somebody's turn would move until the run is finished, and nobody's once it is.
use Rattle.std.proofs.Common.{◌≡◌, ◌≤◌, ◌<◌, ℕ, zero, suc, ◌+◌, ◌==◌, not, Bool, true, false, List, [], ◌∷◌, length, Option, Some, None, is_none, refl, sym, ap, ◌∙◌, subst, arith, true≢false}
use Rattle.std.proofs.lemmas.Bool.{eqb-true, and_parts}
use Rattle.script_reader.specs.declared.types.Operation.{Operation}
use Rattle.rules.specs.Work.{has_work, has_operations_left, first_actor, all_answered}
use Rattle.performed.specs.Laws.{NobodyMoves}

-- ---- the first actor that passes a test

-- the number, where its test is passed
abbrev pub picked : ℕ → Bool → Option ℕ → Option ℕ
picked n b o = elim b [ true ↦ Some n | false ↦ o ]

found_none : (test : ℕ → Bool) (i : ℕ) (rest : List (List Operation)) (b : Bool) → test (i + 1) ≡ b → picked (i + 1) b (first_actor test (i + 1) rest) ≡ None → (test (i + 1) ≡ false) × (first_actor test (i + 1) rest ≡ None)
found_none test i rest true h e = absurd (cc)
found_none test i rest false h e = (h, e)

nothing_between : (i n : ℕ) → i < n → n ≤ i + 0 → ⊥
nothing_between i n low high = omega arith

-- where there is none, none passes
pub none_passes : (test : ℕ → Bool) (i : ℕ) (xs : List (List Operation)) → first_actor test i xs ≡ None → (n : ℕ) → i < n → n ≤ i + length xs → test n ≡ false
none_passes test i [] e n low high = absurd (nothing_between i n low high)
none_passes test i (ops ∷ rest) e n low high =
    let q = found_none test i rest (test (i + 1)) refl e in
    by_place (n == i + 1) refl q.0 (λ h. none_passes test (i + 1) rest q.1 n (further h) within)
  where
    further : (n == i + 1) ≡ false → i + 1 < n
    further h = grind arith

    within : n ≤ i + 1 + length rest
    within = grind arith

    by_place : (b : Bool) → (n == i + 1) ≡ b → test (i + 1) ≡ false → ((n == i + 1) ≡ false → test n ≡ false) → test n ≡ false
    by_place true h f g = ap test (eqb-true n (i + 1) h) ∙ f
    by_place false h f g = g h

-- and where there is one, it passes
pub record Found (test : ℕ → Bool) (last a : ℕ) : Type 0 where
  pub before : ℕ
  pub is : a ≡ suc before
  pub within : a ≤ last
  pub passes : test a ≡ true

the_same : (a b : ℕ) → Some a ≡ Some b → a ≡ b
the_same a b e = cc

suc_of : (i : ℕ) → i + 1 ≡ suc i
suc_of i = grind arith

first_within : (i : ℕ) (ops : List Operation) (rest : List (List Operation)) → i + 1 ≤ i + length (ops ∷ rest)
first_within i ops rest = grind arith

later_within : (i a : ℕ) (ops : List Operation) (rest : List (List Operation)) → a ≤ i + 1 + length rest → a ≤ i + length (ops ∷ rest)
later_within i a ops rest h = grind arith

pub one_passes : (test : ℕ → Bool) (i : ℕ) (xs : List (List Operation)) (a : ℕ) → first_actor test i xs ≡ Some a → Found test (i + length xs) a
one_passes test i [] a e = absurd (cc)
one_passes test i (ops ∷ rest) a e = by_first (test (i + 1)) refl e (one_passes test (i + 1) rest a)
  where
    here : i + 1 ≡ a → test (i + 1) ≡ true → Found test (i + length (ops ∷ rest)) a
    here same h = subst (λ (n : ℕ). Found test (i + length (ops ∷ rest)) n) same (record { before = i; is = suc_of i; within = first_within i ops rest; passes = h })

    later : Found test (i + 1 + length rest) a → Found test (i + length (ops ∷ rest)) a
    later f = record { before = f.before; is = f.is; within = later_within i a ops rest f.within; passes = f.passes }

    by_first : (b : Bool) → test (i + 1) ≡ b → picked (i + 1) b (first_actor test (i + 1) rest) ≡ Some a → (first_actor test (i + 1) rest ≡ Some a → Found test (i + 1 + length rest) a) → Found test (i + length (ops ∷ rest)) a
    by_first true h g f = here (the_same (i + 1) a g) h
    by_first false h g f = later (f g)

-- ---- nobody

none_there : {A : Type 0} (o : Option A) → is_none o ≡ true → o ≡ None
none_there None h = refl
none_there (Some x) h = absurd (true≢false (sym h))

pub nobody : NobodyMoves
nobody s k zero n h = rw h refl
nobody s k (suc a) n h = rw (none_passes (has_operations_left s k) 0 s.actors (none_there (first_actor (has_operations_left s k) 0 s.actors) (and_parts (all_answered s k) (not (has_work k)) h).0) (suc a) (some_before a) (up n)) refl
  where
    some_before : (m : ℕ) → 0 < suc m
    some_before m = omega arith

    up : suc a ≤ length s.actors → suc a ≤ 0 + length s.actors
    up m = omega arith
