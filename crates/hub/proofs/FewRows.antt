-- An edit leaves few rows marked: their numbers are bytes, and each stands once.
use Rattle.std.proofs.Common.{◌≡◌, ◌≤◌, ◌+◌, ◌&&◌, ◌==◌, ℕ, not, Bool, true, false, nat_le, nat_lt, if◌then◌else◌, List, [], ◌∷◌, ◌++◌, length, Option, Some, None, refl, sym, ◌∙◌, true≢false, arith, leb-true, eq-eqb, ltb-true, ltb-false}
use Rattle.std.specs.Prelude.{filter}
use Rattle.std.specs.List.{list_all}
use Rattle.std.proofs.lemmas.Bool.{and_parts}
use Rattle.adn.specs.declared.edit.Plan.{Plan}
use Rattle.adn.specs.declared.edit.RowUpdate.{RowUpdate}
use Rattle.families.specs.Plans.{plan_updates, some_first}
use Rattle.report.specs.declared.answer.Answer.TheVariants as answer
use Rattle.report.specs.Room.{most_of_answer}
use Rattle.editor.specs.declared.editing.Attempt.{Attempt}
use Rattle.editor.specs.declared.editing.Decided.{Decided}
use Rattle.editor.specs.declared.editing.Editing.{Editing}
use Rattle.editor.specs.Editing.{after_of, left_rows, names_row, rising, unreleased, with_row}
use Rattle.planner.specs.Room.{is_short, update_fits}
use Rattle.hub.specs.Short.{is_row_number, is_short_attempt, is_short_editing}

-- ---- rising bytes

-- rising from this number on, and below 256
Rising : ℕ → List ℕ → Type 0
Rising low [] = low ≤ 256
Rising low (x ∷ xs) = (low ≤ x) × (x ≤ 255) × Rising (x + 1) xs

few_rising : (low : ℕ) (xs : List ℕ) → Rising low xs → length xs + low ≤ 256
unfolding Rising
few_rising low [] h = omega arith
few_rising low (x ∷ xs) h =
    let rest = few_rising (x + 1) xs h.2 in
    let first = h.0 in
    omega arith

sooner : (low high : ℕ) (xs : List ℕ) → low ≤ high → Rising high xs → Rising low xs
unfolding Rising
sooner low high [] less h = omega arith
sooner low high (x ∷ xs) less h = let first = h.0 in (omega arith, h.1, h.2)

row_rises : (low r : ℕ) (xs : List ℕ) → low ≤ r → r ≤ 255 → Rising low xs → Rising low (with_row r xs)
unfolding Rising
row_rises low r [] first byte h = (first, byte, omega arith)
row_rises low r (x ∷ xs) first byte h = by (r == x) (nat_lt r x) refl refl (λ less. row_rises (x + 1) r xs less byte h.2)
  where
    above : (b : Bool) → nat_lt x r ≡ b → (r == x) ≡ false → nat_lt r x ≡ false → x + 1 ≤ r
    above true e same less = let high = ltb-true x r e in omega arith
    above false e same less =
        let low1 = ltb-false x r e in
        let low2 = ltb-false r x less in
        let at : r ≡ x = omega arith in
        absurd (true≢false (sym (eq-eqb r x at) ∙ same))

    by : (same less : Bool) → (r == x) ≡ same → nat_lt r x ≡ less → (x + 1 ≤ r → Rising (x + 1) (with_row r xs)) → Rising low (if same then x ∷ xs else if less then r ∷ x ∷ xs else x ∷ with_row r xs)
    by true less g e rest = h
    by false true g e rest = let below = ltb-true r x e in (first, byte, (omega arith, h.1, h.2))
    by false false g e rest = (h.0, h.1, rest (above (nat_lt x r) refl g e))

all_rise : (xs : List ℕ) → list_all is_row_number xs ≡ true → Rising 0 (rising xs)
unfolding Rising
all_rise [] h = omega arith
all_rise (x ∷ xs) h =
    let parts = and_parts (is_row_number x) (list_all is_row_number xs) h in
    row_rises 0 x (rising xs) (omega arith) (leb-true x 255 parts.0) (all_rise xs parts.1)

-- ---- the rows that an edit leaves marked

both : (a b : Bool) → a ≡ true → b ≡ true → (a && b) ≡ true
both true b e f = f
both false b e f = absurd (true≢false (sym e))

all_filter : (p q : ℕ → Bool) (xs : List ℕ) → list_all p xs ≡ true → list_all p (filter q xs) ≡ true
all_filter p q [] h = refl
all_filter p q (x ∷ xs) h =
    let parts = and_parts (p x) (list_all p xs) h in
    by (q x) parts.0 (all_filter p q xs parts.1)
  where
    by : (b : Bool) → p x ≡ true → list_all p (filter q xs) ≡ true → list_all p (if b then x ∷ filter q xs else filter q xs) ≡ true
    by true own rest = both (p x) (list_all p (filter q xs)) own rest
    by false own rest = rest

all_append : (p : ℕ → Bool) (xs ys : List ℕ) → list_all p xs ≡ true → list_all p ys ≡ true → list_all p (xs ++ ys) ≡ true
all_append p [] ys h g = g
all_append p (x ∷ xs) ys h g = let parts = and_parts (p x) (list_all p xs) h in both (p x) (list_all p (xs ++ ys)) parts.0 (all_append p xs ys parts.1 g)

row_short : (u : RowUpdate) → is_short u ≡ true → is_row_number u.row ≡ true
row_short u h = (and_parts (update_fits u) (nat_le u.row 255) h).1

unreleased_short : (released : Bool) (o : Option RowUpdate) → list_all is_short (some_first o []) ≡ true → list_all is_row_number (unreleased released o) ≡ true
unreleased_short released None h = refl
unreleased_short true (Some u) h = refl
unreleased_short false (Some u) h = both (is_row_number u.row) true (row_short u (and_parts (is_short u) true h).0) refl

rest_short : (p : Plan) (o : Option RowUpdate) → list_all is_short (some_first o (p.deciding ∷ some_first p.after [])) ≡ true → list_all is_short (some_first p.after []) ≡ true
rest_short p None h = (and_parts (is_short p.deciding) (list_all is_short (some_first p.after [])) h).1
rest_short p (Some u) h = (and_parts (is_short p.deciding) (list_all is_short (some_first p.after [])) (and_parts (is_short u) _ h).1).1

after_short : (n : ℕ) (released : Bool) (a : Option Attempt) → is_short_attempt n a ≡ true → list_all is_row_number (unreleased released (after_of a)) ≡ true
after_short n released None h = refl
after_short n released (Some a) h = unreleased_short released a.plan.after (rest_short a.plan a.plan.before (and_parts (list_all is_short (plan_updates a.plan)) (nat_le a.sent n) h).0)

pub few_rows : (n : ℕ) (e : Editing) (d : Decided) → is_short_editing n e ≡ true → length (left_rows e d) ≤ 256
few_rows n e d h =
    let parts = and_parts (is_short_attempt n e.attempt) (list_all is_row_number e.marked) h in
    let rows = few_rising 0 (left_rows e d) (all_rise (filter (λ row. not (names_row d row)) e.marked ++ unreleased d.released (after_of e.attempt))
    (all_append is_row_number (filter (λ row. not (names_row d row)) e.marked) (unreleased d.released (after_of e.attempt))
    (all_filter is_row_number (λ row. not (names_row d row)) e.marked parts.1)
    (after_short n d.released e.attempt parts.0))) in
    omega arith

-- so the answer that lists them is short
pub short_done : (n : ℕ) (e : Editing) (d : Decided) → is_short_editing n e ≡ true → most_of_answer (answer.Done d.event None (left_rows e d)) ≤ 608
short_done n e d h = let few = few_rows n e d h in omega arith
