-- A card's numbers, and those that are wanted beside the basic one.
use Rattle.std.proofs.Common.{◌≡◌, ℕ, ◌==◌, ◌&&◌, ◌||◌, Bool, true, false, List, [], ◌∷◌, ◌++◌, refl, ap, sym, ◌∙◌, subst, arith}
use Rattle.std.specs.List.{list_all}
use Rattle.std.proofs.lemmas.Bool.{and_from, or_parts, eqb-true}
use Rattle.apdu.specs.Words.{is_one_of}
use Rattle.channels.specs.Channels.{same_channels}

-- the card's numbers are the basic one and these
abbrev pub Matches : List ℕ → List ℕ → Type 0
Matches ns xs = (m : ℕ) → is_one_of m ns ≡ ((m == 0) || is_one_of m xs)

one_added : (m n : ℕ) (xs : List ℕ) → is_one_of m (xs ++ n ∷ []) ≡ (is_one_of m xs || (n == m))
one_added m n [] = or_none (n == m)
  where
    or_none : (b : Bool) → (b || false) ≡ b
    or_none true = refl
    or_none false = refl
one_added m n (x ∷ xs) = ap (λ (b : Bool). (x == m) || b) (one_added m n xs) ∙ or_or (x == m) (is_one_of m xs) (n == m)
  where
    or_or : (a b c : Bool) → (a || (b || c)) ≡ ((a || b) || c)
    or_or true b c = refl
    or_or false b c = refl

-- one that was added may stand first or last
pub matches_added : (ns xs : List ℕ) (n : ℕ) → Matches ns xs → Matches (ns ++ n ∷ []) (n ∷ xs)
matches_added ns xs n h m = one_added m n ns ∙ ap (λ (b : Bool). b || (n == m)) (h m) ∙ moved (m == 0) (is_one_of m xs) (n == m)
  where
    moved : (a b c : Bool) → ((a || b) || c) ≡ (a || (c || b))
    moved true b c = refl
    moved false true true = refl
    moved false true false = refl
    moved false false true = refl
    moved false false false = refl

pub matches_last : (ns xs : List ℕ) (n : ℕ) → Matches ns (n ∷ xs) → Matches ns (xs ++ n ∷ [])
matches_last ns xs n h m = h m ∙ ap (λ (b : Bool). (m == 0) || b) (swapped (n == m) (is_one_of m xs) ∙ sym (one_added m n xs))
  where
    swapped : (a b : Bool) → (a || b) ≡ (b || a)
    swapped true true = refl
    swapped true false = refl
    swapped false true = refl
    swapped false false = refl

-- what a close leaves
pub record Dropped (n : ℕ) (before after : List ℕ) : Type 0 where
  pub others : (m : ℕ) → (n == m) ≡ false → is_one_of m after ≡ is_one_of m before
  pub gone : is_one_of n after ≡ false

-- where these are those without it
pub matches_dropped : (ns after xs ys : List ℕ) (n : ℕ) → Matches ns xs → Dropped n ns after → (n == 0) ≡ false → is_one_of n ys ≡ false → ((m : ℕ) → (n == m) ≡ false → is_one_of m ys ≡ is_one_of m xs) → Matches after ys
matches_dropped ns after xs ys n h d beside out same m = by_same (n == m) refl
  where
    here : n ≡ m → is_one_of m after ≡ ((m == 0) || is_one_of m ys)
    here e = subst (λ (x : ℕ). is_one_of x after ≡ ((x == 0) || is_one_of x ys)) e (d.gone ∙ sym (ap (λ (b : Bool). b || is_one_of n ys) beside ∙ out))

    by_same : (b : Bool) → (n == m) ≡ b → is_one_of m after ≡ ((m == 0) || is_one_of m ys)
    by_same true e = here (eqb-true n m e)
    by_same false e = d.others m e ∙ h m ∙ ap (λ (b : Bool). (m == 0) || b) (sym (same m e))

-- the same where the same numbers are wanted
pub matches_same : (ns xs ys : List ℕ) → ((m : ℕ) → is_one_of m ys ≡ is_one_of m xs) → Matches ns xs → Matches ns ys
matches_same ns xs ys e h m = h m ∙ ap (λ (b : Bool). (m == 0) || b) (sym (e m))

pub has_basic : (ns xs : List ℕ) → Matches ns xs → is_one_of 0 ns ≡ true
has_basic ns xs h = h 0

pub has_wanted : (ns xs : List ℕ) (n : ℕ) → Matches ns xs → is_one_of n xs ≡ true → is_one_of n ns ≡ true
has_wanted ns xs n h e = h n ∙ ap (λ (b : Bool). (n == 0) || b) e ∙ or_true (n == 0)
  where
    or_true : (b : Bool) → (b || true) ≡ true
    or_true true = refl
    or_true false = refl

-- a number that the card has not is none of these
pub not_wanted : (ns xs : List ℕ) (n : ℕ) → Matches ns xs → is_one_of n ns ≡ false → is_one_of n xs ≡ false
not_wanted ns xs n h e = (or_parts (n == 0) (is_one_of n xs) (sym (h n) ∙ e)).1

-- ---- as the rule says it

all_in : (test : ℕ → Bool) (xs : List ℕ) → ((m : ℕ) → is_one_of m xs ≡ true → test m ≡ true) → list_all test xs ≡ true
all_in test [] h = refl
all_in test (x ∷ xs) h = and_from (test x) (list_all test xs) (h x (first x xs)) (all_in test xs (λ m e. h m (ap (λ (b : Bool). (x == m) || b) e ∙ or_true (x == m))))
  where
    first : (x : ℕ) (xs : List ℕ) → is_one_of x (x ∷ xs) ≡ true
    first x xs = ap (λ (b : Bool). b || is_one_of x xs) (let e : (x == x) ≡ true = grind arith in e)

    or_true : (b : Bool) → (b || true) ≡ true
    or_true true = refl
    or_true false = refl

pub same_by_match : (ns xs : List ℕ) → Matches ns xs → same_channels ns xs ≡ true
same_by_match ns xs h =
    and_from (is_one_of 0 ns && list_all (λ n. (n == 0) || is_one_of n xs) ns) (list_all (λ n. is_one_of n ns) xs)
    (and_from (is_one_of 0 ns) (list_all (λ n. (n == 0) || is_one_of n xs) ns) (h 0) (all_in (λ n. (n == 0) || is_one_of n xs) ns (λ m e. sym (h m) ∙ e)))
    (all_in (λ n. is_one_of n ns) xs (λ m e. has_wanted ns xs m h e))
