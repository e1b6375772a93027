-- The place of a row among rising rows.
use Rattle.std.specs.List.{insert}
use Rattle.std.proofs.lemmas.Bool.Decides.{nat_tests}
use Rattle.std.specs.Prelude.{nat_le, nat_lt}
use Rattle.std.proofs.Common.{arith, ◌≡◌, ◌+◌, ◌<◌, ◌≤◌, ◌-◌, ◌==◌, subst, ℕ, zero, suc, length, drop, slice_index, Bool, true, false, not, cond, List, [], ◌∷◌, ◌++◌, filter, refl, ap, sym, ◌∙◌, if◌then◌else◌}
use Rattle.editor.specs.declared.editing.Decided.{Decided}
use Rattle.editor.specs.declared.editing.Editing.{Editing}
use Rattle.editor.specs.Editing.{with_row, rising, names_row, left_rows, unreleased, after_of}
use Rattle.editor.specs.Rows.{place_of, is_row_at, rows_onto, row_onto, marked_onto}

there_by : (r x : ℕ) (xs : List ℕ) (b : Bool) → nat_le r x ≡ b → is_row_at r (x ∷ xs) (if b then 0 else suc (place_of r xs)) ≡ true → (is_row_at r xs (place_of r xs) ≡ true → with_row r xs ≡ xs) → with_row r (x ∷ xs) ≡ x ∷ xs
there_by r x xs true le e rest = let same : (r == x) ≡ true = grind (arith, nat_tests) in rw (with_row, same) refl
there_by r x xs false le e rest = let other : (r == x) ≡ false = grind (arith, nat_tests) in let above : nat_lt r x ≡ false = grind (arith, nat_tests) in rw (with_row, other, above) (ap (λ ys. x ∷ ys) (rest e))

-- a row that stands in its place
pub is_there : (r : ℕ) (xs : List ℕ) → is_row_at r xs (place_of r xs) ≡ true → with_row r xs ≡ xs
is_there r [] e = absurd (cc)
is_there r (x ∷ xs) e = there_by r x xs (nat_le r x) refl e (is_there r xs)

put_by : (r x : ℕ) (xs : List ℕ) (b : Bool) → nat_le r x ≡ b → is_row_at r (x ∷ xs) (if b then 0 else suc (place_of r xs)) ≡ false → (is_row_at r xs (place_of r xs) ≡ false → insert xs (place_of r xs) r ≡ with_row r xs) → insert (x ∷ xs) (if b then 0 else suc (place_of r xs)) r ≡ with_row r (x ∷ xs)
put_by r x xs true le e rest = let other : (r == x) ≡ false = grind (arith, nat_tests) in let below : nat_lt r x ≡ true = grind (arith, nat_tests) in rw (with_row, other, below) refl
put_by r x xs false le e rest = let other : (r == x) ≡ false = grind (arith, nat_tests) in let above : nat_lt r x ≡ false = grind (arith, nat_tests) in rw (with_row, other, above) (ap (λ ys. x ∷ ys) (rest e))

-- and one that does not
pub is_put : (r : ℕ) (xs : List ℕ) → is_row_at r xs (place_of r xs) ≡ false → insert xs (place_of r xs) r ≡ with_row r xs
is_put r [] e = refl
is_put r (x ∷ xs) e = put_by r x xs (nat_le r x) refl e (is_put r xs)

-- ---- the rows that stay marked

marked_step : (d : Decided) (r : ℕ) (named : Bool) (rest rows : List ℕ) → rising rest ≡ rows → rising (cond (not named) (r ∷ rest) rest) ≡ (if named then rows else with_row r rows)
marked_step d r true rest rows e = e
marked_step d r false rest rows e = ap (with_row r) e

append_cond : (b : Bool) (r : ℕ) (rest xs : List ℕ) → cond b (r ∷ rest) rest ++ xs ≡ cond b (r ∷ rest ++ xs) (rest ++ xs)
append_cond true r rest xs = refl
append_cond false r rest xs = refl

marked_rising : (d : Decided) (rs xs : List ℕ) → rising (filter (λ row. not (names_row d row)) rs ++ xs) ≡ marked_onto d rs (rising xs)
marked_rising d [] xs = refl
marked_rising d (r ∷ rs) xs =
    ap rising (append_cond (not (names_row d r)) r (filter (λ row. not (names_row d row)) rs) xs)
    ∙ marked_step d r (names_row d r) (filter (λ row. not (names_row d row)) rs ++ xs) (marked_onto d rs (rising xs)) (marked_rising d rs xs)

rising_onto : (rs : List ℕ) → rising rs ≡ rows_onto rs []
rising_onto [] = refl
rising_onto (r ∷ rs) = ap (with_row r) (rising_onto rs)

-- the rows that stay marked are put one by one
pub left_onto : (e : Editing) (d : Decided) → marked_onto d e.marked (rows_onto (unreleased d.released (after_of e.attempt)) []) ≡ left_rows e d
left_onto e d = sym (marked_rising d e.marked (unreleased d.released (after_of e.attempt)) ∙ ap (marked_onto d e.marked) (rising_onto (unreleased d.released (after_of e.attempt))))

one_put : (d : Decided) (xs : List ℕ) (i : ℕ) (rows : List ℕ) → i < length xs → marked_onto d (drop i xs) rows ≡ row_onto d (slice_index xs i) (marked_onto d (drop (suc i) xs) rows)
one_put d [] i rows h = absurd (omega arith)
one_put d (x ∷ xs) zero rows h = refl
one_put d (x ∷ xs) (suc i) rows h = one_put d xs i rows (omega arith)

-- the last of the rows that were not put yet
pub last_put : (d : Decided) (xs : List ℕ) (left : ℕ) (rows : List ℕ) → zero < left → left ≤ length xs → marked_onto d (drop (left - 1) xs) rows ≡ row_onto d (slice_index xs (left - 1)) (marked_onto d (drop left xs) rows)
last_put d xs left rows some within =
    let e : suc (left - 1) ≡ left = omega arith in
    subst (λ n. marked_onto d (drop (left - 1) xs) rows ≡ row_onto d (slice_index xs (left - 1)) (marked_onto d (drop n xs) rows)) e (one_put d xs (left - 1) rows (omega arith))
