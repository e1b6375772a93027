-- Lists of numbers, each once, and how many there can be.
use Rattle.std.proofs.Common.{◌≡◌, ℕ, zero, suc, ◌+◌, ◌<◌, ◌≤◌, ◌==◌, Bool, true, false, ◌||◌, Option, Some, None, List, [], ◌∷◌, ◌++◌, length, refl, ap, sym, ◌∙◌, subst, arith, if◌then◌else◌}
use Rattle.std.specs.Prelude.{nat_lt, not, position, cond}
use Rattle.std.specs.List.{remove, position_or_len}
use Rattle.std.proofs.lemmas.Bool.{eqb-true}
use Rattle.apdu.specs.Words.{is_one_of, is_between}
use Rattle.card_effects.specs.Numbers.{AllApart}
use Rattle.channel_table.specs.Values.{IsNumber, AllBetween, AreHeld, without}

-- ---- one of a list

pub one_first : (n x : ℕ) (xs : List ℕ) → (x == n) ≡ true → is_one_of n (x ∷ xs) ≡ true
one_first n x xs e = rw e refl

pub one_behind : (n x : ℕ) (xs : List ℕ) → (x == n) ≡ false → is_one_of n (x ∷ xs) ≡ is_one_of n xs
one_behind n x xs e = rw e refl

pub not_first : (a b : Bool) → (a || b) ≡ false → (a ≡ false) × (b ≡ false)
not_first false b h = (refl, h)
not_first true b h = absurd (cc)

pub one_appended : (n m : ℕ) (xs : List ℕ) → is_one_of n (xs ++ m ∷ []) ≡ ((m == n) || is_one_of n xs)
one_appended n m [] = refl
one_appended n m (x ∷ xs) = by_first (x == n) (m == n) (is_one_of n xs) (one_appended n m xs)
  where
    by_first : (a b c : Bool) → is_one_of n (xs ++ m ∷ []) ≡ (b || c) → (a || is_one_of n (xs ++ m ∷ [])) ≡ (b || (a || c))
    by_first false b c h = h
    by_first true true c h = refl
    by_first true false c h = refl

-- ---- a number taken out

pub without_other : (n m : ℕ) (xs : List ℕ) → (m == n) ≡ false → is_one_of m (without n xs) ≡ is_one_of m xs
without_other n m [] e = refl
without_other n m (x ∷ xs) e = by_test (without_other n m xs e) (x == n) refl
  where
    by_test : is_one_of m (without n xs) ≡ is_one_of m xs → (b : Bool) → (x == n) ≡ b → is_one_of m (if b then xs else x ∷ without n xs) ≡ is_one_of m (x ∷ xs)
    by_test g true h = let same : x ≡ n = eqb-true x n h in sym (one_behind m x xs (grind arith))
    by_test g false h = ap (λ b. (x == m) || b) g

pub fewer : (n m : ℕ) (xs : List ℕ) → is_one_of m xs ≡ false → is_one_of m (without n xs) ≡ false
fewer n m [] h = refl
fewer n m (x ∷ xs) h = let q = not_first (x == m) (is_one_of m xs) h in by_test q (fewer n m xs q.1) (x == n)
  where
    by_test : ((x == m) ≡ false) × (is_one_of m xs ≡ false) → is_one_of m (without n xs) ≡ false → (b : Bool) → is_one_of m (if b then xs else x ∷ without n xs) ≡ false
    by_test q g true = q.1
    by_test q g false = one_behind m x (without n xs) q.0 ∙ g

pub apart_without : (n : ℕ) (xs : List ℕ) → AllApart xs → AllApart (without n xs)
apart_without n [] a = a
apart_without n (x ∷ xs) a = by_test (apart_without n xs a.1) (x == n)
  where
    by_test : AllApart (without n xs) → (b : Bool) → AllApart (if b then xs else x ∷ without n xs)
    by_test g true = a.1
    by_test g false = (fewer n x xs a.0, g)

pub gone : (n : ℕ) (xs : List ℕ) → AllApart xs → is_one_of n (without n xs) ≡ false
gone n [] a = refl
gone n (x ∷ xs) a = by_test (gone n xs a.1) (x == n) refl
  where
    by_test : is_one_of n (without n xs) ≡ false → (b : Bool) → (x == n) ≡ b → is_one_of n (if b then xs else x ∷ without n xs) ≡ false
    by_test g true h = let same : x ≡ n = eqb-true x n h in subst (λ y. is_one_of y xs ≡ false) same a.0
    by_test g false h = one_behind n x (without n xs) h ∙ g

pub all_without : (low high n : ℕ) (xs : List ℕ) → AllBetween low high xs → AllBetween low high (without n xs)
all_without low high n [] a = a
all_without low high n (x ∷ xs) a = by_test (all_without low high n xs a.1) (x == n)
  where
    by_test : AllBetween low high (without n xs) → (b : Bool) → AllBetween low high (if b then xs else x ∷ without n xs)
    by_test g true = a.1
    by_test g false = (a.0, g)

pub held_without : (n : ℕ) (xs : List ℕ) → AreHeld xs → AreHeld (without n xs)
held_without n xs h = record { numbers = all_without 1 19 n xs h.numbers; apart = apart_without n xs h.apart }

one_less : (n : ℕ) (xs : List ℕ) → length xs ≤ suc (length (without n xs))
one_less n [] = grind arith
one_less n (x ∷ xs) = by_test (one_less n xs) (x == n)
  where
    by_test : length xs ≤ suc (length (without n xs)) → (b : Bool) → suc (length xs) ≤ suc (length (if b then xs else x ∷ without n xs))
    by_test h true = grind arith
    by_test h false = omega (arith, h)

one_fewer : (n : ℕ) (xs : List ℕ) → is_one_of n xs ≡ true → length xs ≡ suc (length (without n xs))
one_fewer n [] h = absurd (cc)
one_fewer n (x ∷ xs) h = by_test (one_fewer n xs) (x == n) refl
  where
    by_test : (is_one_of n xs ≡ true → length xs ≡ suc (length (without n xs))) → (b : Bool) → (x == n) ≡ b → suc (length xs) ≡ suc (length (if b then xs else x ∷ without n xs))
    by_test g true e = refl
    by_test g false e = ap suc (g (sym (one_behind n x xs e) ∙ h))

-- the place of a number
none_at : (n : ℕ) (xs : List ℕ) → nat_lt (position_or_len (λ x. x == n) xs) (length xs) ≡ false → without n xs ≡ xs
none_at n [] h = refl
none_at n (x ∷ xs) h = by_test (none_at n xs) (x == n) h
  where
    by_test : (nat_lt (position_or_len (λ x. x == n) xs) (length xs) ≡ false → without n xs ≡ xs) → (b : Bool) → nat_lt (cond (not b) (1 + position_or_len (λ x. x == n) xs) 0) (suc (length xs)) ≡ false → (if b then xs else x ∷ without n xs) ≡ x ∷ xs
    by_test g true e = absurd (grind arith)
    by_test g false e = ap (λ (ys : List ℕ). x ∷ ys) (g (grind arith))

at_place : (n : ℕ) (xs : List ℕ) → remove xs (position_or_len (λ x. x == n) xs) ≡ without n xs
at_place n [] = refl
at_place n (x ∷ xs) = by_test (at_place n xs) (x == n)
  where
    by_test : remove xs (position_or_len (λ x. x == n) xs) ≡ without n xs → (b : Bool) → remove (x ∷ xs) (cond (not b) (1 + position_or_len (λ x. x == n) xs) 0) ≡ (if b then xs else x ∷ without n xs)
    by_test g true = refl
    by_test g false = let e : 1 + position_or_len (λ x. x == n) xs ≡ suc (position_or_len (λ x. x == n) xs) = grind arith in ap (remove (x ∷ xs)) e ∙ ap (λ (ys : List ℕ). x ∷ ys) g

pub none_out : (n : ℕ) (xs : List ℕ) → position (λ x. x == n) xs ≡ None → without n xs ≡ xs
none_out n xs h = none_at n xs (not_there (nat_lt (position_or_len (λ x. x == n) xs) (length xs)) h)
  where
    not_there : (b : Bool) → cond b (Some (position_or_len (λ x. x == n) xs)) None ≡ None → b ≡ false
    not_there true e = absurd (cc)
    not_there false e = refl

pub one_out : (n i : ℕ) (xs : List ℕ) → position (λ x. x == n) xs ≡ Some i → remove xs i ≡ without n xs
one_out n i xs h = ap (remove xs) (sym (place (nat_lt (position_or_len (λ x. x == n) xs) (length xs)) h)) ∙ at_place n xs
  where
    place : (b : Bool) → cond b (Some (position_or_len (λ x. x == n) xs)) None ≡ Some i → position_or_len (λ x. x == n) xs ≡ i
    place true e = cc
    place false e = absurd (cc)

-- ---- how many there can be

below : (k x : ℕ) → is_between 1 (suc k) x ≡ true → (x == suc k) ≡ false → is_between 1 k x ≡ true
below k x h e = grind arith

all_below : (k : ℕ) (xs : List ℕ) → AllBetween 1 (suc k) xs → is_one_of (suc k) xs ≡ false → AllBetween 1 k xs
all_below k [] a h = a
all_below k (x ∷ xs) a h = let q = not_first (x == suc k) (is_one_of (suc k) xs) h in (below k x a.0 q.0, all_below k xs a.1 q.1)

-- each once of the numbers from 1 to k: at most k
pub at_most : (k : ℕ) (xs : List ℕ) → AllApart xs → AllBetween 1 k xs → length xs ≤ k
at_most zero [] p a = grind arith
at_most zero (x ∷ xs) p a = absurd (let h : is_between 1 0 x ≡ true = a.0 in grind arith)
at_most (suc k) xs p a =
    let less = at_most k (without (suc k) xs) (apart_without (suc k) xs p) (all_below k (without (suc k) xs) (all_without 1 (suc k) (suc k) xs a) (gone (suc k) xs p)) in
    let step = one_less (suc k) xs in omega (arith, less, step)

-- each of the numbers below k is there: at least k
pub at_least : (k : ℕ) (xs : List ℕ) → ((m : ℕ) → m < k → is_one_of m xs ≡ true) → k ≤ length xs
at_least zero xs h = grind arith
at_least (suc k) xs h =
    let less = at_least k (without k xs) (λ m l. without_other k m xs (grind arith) ∙ h m (omega (arith, l))) in
    let step = one_fewer k xs (h k (grind arith)) in omega (arith, less, step)

-- ---- one more held

pub room : (n : ℕ) (xs : List ℕ) → AreHeld xs → IsNumber n → is_one_of n xs ≡ false → length xs < 19
room n xs h k free = let most : length (n ∷ xs) ≤ 19 = at_most 19 (n ∷ xs) (free, h.apart) (k, h.numbers) in omega (arith, most)

all_appended : (n : ℕ) (xs : List ℕ) → IsNumber n → AllBetween 1 19 xs → AllBetween 1 19 (xs ++ n ∷ [])
all_appended n [] k a = (k, a)
all_appended n (x ∷ xs) k a = (a.0, all_appended n xs k a.1)

pub apart_appended : (m : ℕ) (xs : List ℕ) → is_one_of m xs ≡ false → AllApart xs → AllApart (xs ++ m ∷ [])
apart_appended m [] h a = (refl, _)
apart_appended m (x ∷ xs) h a =
    let q = not_first (x == m) (is_one_of m xs) h in
    (one_appended x m xs ∙ rw (unlike x m q.0) a.0, apart_appended m xs q.1 a.1)
  where
    unlike : (x m : ℕ) → (x == m) ≡ false → (m == x) ≡ false
    unlike x m e = grind arith

pub held_more : (n : ℕ) (xs : List ℕ) → AreHeld xs → IsNumber n → is_one_of n xs ≡ false → AreHeld (xs ++ n ∷ [])
held_more n xs h k free = record { numbers = all_appended n xs k h.numbers; apart = apart_appended n xs free h.apart }

pub not_some : (o : Option ℕ) → ((i : ℕ) → o ≡ Some i → ⊥) → o ≡ None
not_some None h = refl
not_some (Some i) h = absurd (h i refl)
