-- The first rows, one by one.
use Rattle.std.proofs.Common.{◌≡◌, ◌≢◌, ℕ, zero, suc, true, false, List, replicate, ap, ◌+◌, ◌%◌, [], ◌∷◌, ◌++◌, refl, add-one, subst}
use Rattle.std.proofs.lemmas.Bool.{eq-eqb, ne_eqb}
use Rattle.std.specs.Prelude.{nat_eq}
use Rattle.script_generator.specs.Generated.{behind_row, behind_rows, book_row, book_rows, turns}
use Rattle.script_generator.specs.Draws.{next, behind, draw}

pub rows_more : (seed n : ℕ) → book_rows seed (n + 1) ≡ book_rows seed n ++ book_row (n + 1) (behind_rows seed n) ∷ []
rows_more seed n = ap (book_rows seed) (add-one n)

pub behind_more : (seed n : ℕ) → behind_rows seed (n + 1) ≡ behind_row (behind_rows seed n)
behind_more seed n = rw (add-one n) refl

pub turns_more : (state n : ℕ) → turns state (n + 1) ≡ turns state n ++ (draw state (n + 1) % 3) ∷ []
turns_more state n = rw (add-one n) refl

pub states_more : (state n : ℕ) → behind state (n + 1) ≡ next (behind state n)
states_more state n = rw (add-one n) refl

-- one more of the same rows
again : (n : ℕ) (row : List ℕ) → replicate (suc n) row ≡ replicate n row ++ row ∷ []
again zero row = refl
again (suc n) row = ap (λ (rows : List (List ℕ)). row ∷ rows) (again n row)

pub one_more : (n : ℕ) (row : List ℕ) → replicate (n + 1) row ≡ replicate n row ++ row ∷ []
one_more n row = rw (add-one n) (again n row)

pub odd_is_free : (state value : ℕ) → value ≡ draw state 1 → value % 2 ≡ 1 → nat_eq (draw state 1 % 2) 1 ≡ true
odd_is_free state value e odd = eq-eqb (draw state 1 % 2) 1 (subst (λ (v : ℕ). v % 2 ≡ 1) e odd)

pub even_is_entry : (state value : ℕ) → value ≡ draw state 1 → value % 2 ≢ 1 → nat_eq (draw state 1 % 2) 1 ≡ false
even_is_entry state value e even = ne_eqb (draw state 1 % 2) 1 (subst (λ (v : ℕ). v % 2 ≢ 1) e even)
