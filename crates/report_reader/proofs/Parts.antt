-- Texts that are cut at a byte, and put together again.
use Rattle.std.proofs.Common.{◌≡◌, ℕ, ◌+◌, ◌<◌, ◌==◌, Bool, true, false, List, [], ◌∷◌, ◌++◌, take, drop, cond, if◌then◌else◌, refl, ap, ◌∙◌, add-one, arith}
use Rattle.std.specs.Prelude.{⊤}
use Rattle.std.specs.List.{onto_first, AllByRecursion}
use Rattle.std.proofs.lemmas.Bool.{and_parts, eqb-true, eq-eqb, ne_eqb}
use Rattle.apdu.specs.Words.{same_bytes, is_empty}
use Rattle.report_reader.specs.Words.{parts_of, first_len, first_word, behind_word}

-- ---- the same text

pub same_text : (a b : List ℕ) → same_bytes a b ≡ true → a ≡ b
same_text [] [] h = refl
same_text [] (y ∷ ys) h = absurd (cc)
same_text (x ∷ xs) [] h = absurd (cc)
same_text (x ∷ xs) (y ∷ ys) h =
    let parts = and_parts (x == y) (same_bytes xs ys) h in
    let first : x ≡ y = eqb-true x y parts.0 in
    let rest : xs ≡ ys = same_text xs ys parts.1 in
    rw (first, rest) refl

pub same_self : (xs : List ℕ) → same_bytes xs xs ≡ true
same_self [] = refl
same_self (x ∷ xs) = rw (eq-eqb x x refl, same_self xs) refl

-- ---- texts without a byte

abbrev pub Lacks : ℕ → List ℕ → Type 0
Lacks at [] = ⊤
Lacks at (b ∷ text) = ((b == at) ≡ false) × Lacks at text

pub lacks_both : (at : ℕ) (xs ys : List ℕ) → Lacks at xs → Lacks at ys → Lacks at (xs ++ ys)
lacks_both at [] ys h k = k
lacks_both at (x ∷ xs) ys h k = (h.0, lacks_both at xs ys h.1 k)

-- a byte above is another one
pub above : (at b : ℕ) → at < b → (b == at) ≡ false
above at b h = ne_eqb b at (λ e. omega (arith, h, e))

-- ---- parts

pub last_part : (at : ℕ) (part : List ℕ) → Lacks at part → parts_of at part ≡ part ∷ []
last_part at [] h = refl
last_part at (b ∷ part) h = rw (h.0, last_part at part h.1) refl

pub next_part : (at : ℕ) (part rest : List ℕ) → Lacks at part → parts_of at (part ++ at ∷ rest) ≡ part ∷ parts_of at rest
next_part at [] rest h = rw (eq-eqb at at refl) refl
next_part at (b ∷ part) rest h = rw (h.0, next_part at part rest h.1) refl

-- the parts with the byte between them
abbrev pub joined : ℕ → List (List ℕ) → List ℕ
joined at [] = []
joined at (part ∷ []) = part
joined at (part ∷ next ∷ parts) = part ++ at ∷ joined at (next ∷ parts)

join_onto : (at b : ℕ) (parts : List (List ℕ)) → joined at (onto_first b parts) ≡ b ∷ joined at parts
join_onto at b [] = refl
join_onto at b (part ∷ []) = refl
join_onto at b (part ∷ next ∷ parts) = refl

-- there is one part at least
abbrev pub HasFirst : {A : Type 0} → List A → Type 0
HasFirst [] = ⊥
HasFirst (x ∷ xs) = ⊤

onto_some : (b : ℕ) (parts : List (List ℕ)) → HasFirst (onto_first b parts)
onto_some b [] = tt
onto_some b (part ∷ parts) = tt

either_some : (test : Bool) (xs ys : List (List ℕ)) → HasFirst xs → HasFirst ys → HasFirst (cond test xs ys)
either_some true xs ys h k = h
either_some false xs ys h k = k

pub parts_some : (at : ℕ) (bytes : List ℕ) → HasFirst (parts_of at bytes)
parts_some at [] = tt
parts_some at (b ∷ bytes) = either_some (b == at) ([] ∷ parts_of at bytes) (onto_first b (parts_of at bytes)) tt (onto_some b (parts_of at bytes))

-- the byte stands in no part
onto_lacks : (at b : ℕ) (parts : List (List ℕ)) → (b == at) ≡ false → AllByRecursion (Lacks at) parts → AllByRecursion (Lacks at) (onto_first b parts)
onto_lacks at b [] h each = ((h, tt), tt)
onto_lacks at b (part ∷ parts) h each = ((h, each.0), each.1)

pub parts_lack : (at : ℕ) (bytes : List ℕ) → AllByRecursion (Lacks at) (parts_of at bytes)
parts_lack at [] = (tt, tt)
parts_lack at (b ∷ bytes) = by (b == at) refl (parts_lack at bytes)
  where
    by : (test : Bool) → (b == at) ≡ test → AllByRecursion (Lacks at) (parts_of at bytes) → AllByRecursion (Lacks at) (cond test ([] ∷ parts_of at bytes) (onto_first b (parts_of at bytes)))
    by true e each = (tt, each)
    by false e each = onto_lacks at b (parts_of at bytes) e each

pub not_empty : (parts : List (List ℕ)) → HasFirst parts → is_empty parts ≡ false
not_empty [] h = absurd h
not_empty (part ∷ parts) h = refl

join_blank : (at : ℕ) (parts : List (List ℕ)) → HasFirst parts → joined at ([] ∷ parts) ≡ at ∷ joined at parts
join_blank at [] h = absurd h
join_blank at (part ∷ parts) h = refl

pub join_next : (at : ℕ) (part : List ℕ) (parts : List (List ℕ)) → HasFirst parts → joined at (part ∷ parts) ≡ part ++ at ∷ joined at parts
join_next at part [] h = absurd h
join_next at part (next ∷ parts) h = refl

pub join_parts : (at : ℕ) (bytes : List ℕ) → joined at (parts_of at bytes) ≡ bytes
join_parts at [] = refl
join_parts at (b ∷ bytes) = by (b == at) refl (join_parts at bytes)
  where
    by : (test : Bool) → (b == at) ≡ test → joined at (parts_of at bytes) ≡ bytes → joined at (cond test ([] ∷ parts_of at bytes) (onto_first b (parts_of at bytes))) ≡ b ∷ bytes
    by true e back =
        let same : b ≡ at = eqb-true b at e in
        rw (join_blank at (parts_of at bytes) (parts_some at bytes), back, same) refl
    by false e back = rw (join_onto at b (parts_of at bytes), back) refl

-- ---- the first word, and what stands behind it

pub first_next : (word rest : List ℕ) → Lacks 32 word → first_word (word ++ 32 ∷ rest) ≡ word
first_next [] rest h = refl
first_next (b ∷ word) rest h = rw (h.0, add-one) (ap (λ (xs : List ℕ). b ∷ xs) (first_next word rest h.1))

pub behind_next : (word rest : List ℕ) → Lacks 32 word → behind_word (word ++ 32 ∷ rest) ≡ rest
behind_next [] rest h = refl
behind_next (b ∷ word) rest h = rw (h.0, add-one (first_len (word ++ 32 ∷ rest) + 1)) (behind_next word rest h.1)

pub first_some : (line : List ℕ) → HasFirst (first_word line) → HasFirst line
first_some [] h = absurd h
first_some (b ∷ line) h = tt

pub behind_some : (line : List ℕ) → HasFirst (behind_word line) → HasFirst line
behind_some [] h = absurd h
behind_some (b ∷ line) h = tt

-- where the first space stands
abbrev place : List ℕ → Bool → ℕ
place line test = if test then 0 else first_len line + 1

-- a text that has something behind its first space
pub cut : (line : List ℕ) → HasFirst (behind_word line) → first_word line ++ 32 ∷ behind_word line ≡ line
cut [] h = absurd h
cut (b ∷ line) h = by (b == 32) refl h (cut line)
  where
    by : (test : Bool) → (b == 32) ≡ test → HasFirst (drop (place line test + 1) (b ∷ line)) → (HasFirst (behind_word line) → first_word line ++ 32 ∷ behind_word line ≡ line) → take (place line test) (b ∷ line) ++ 32 ∷ drop (place line test + 1) (b ∷ line) ≡ b ∷ line
    by true e h same =
        let space : b ≡ 32 = eqb-true b 32 e in
        rw space refl
    by false e h same =
        let k : HasFirst (behind_word line) = rw (add-one (first_len line + 1)) at h in
        let front : take (first_len line + 1) (b ∷ line) ≡ b ∷ first_word line = rw (add-one (first_len line)) refl in
        rw (add-one (first_len line + 1)) (ap (λ (xs : List ℕ). xs ++ 32 ∷ behind_word line) front ∙ ap (λ (xs : List ℕ). b ∷ xs) (same k))
