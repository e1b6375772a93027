-- A generated script keeps every rule.
use Rattle.std.proofs.Common.{◌≡◌, ℕ, zero, suc, ◌+◌, ◌*◌, ◌%◌, ◌<◌, ◌≤◌, Bool, true, false, ◌&&◌, ◌==◌, List, [], ◌∷◌, ◌++◌, length, replicate, refl, ap, arith, inl, inr}
use Rattle.std.specs.Prelude.{nat_le}
use Rattle.std.specs.List.{list_all}
use Rattle.std.proofs.lemmas.Bool.{le-leb, cases_lt}
use Rattle.std.proofs.lemmas.List.{length-append}
use Rattle.std.proofs.lemmas.List.Folds.{list_all-append}
use Rattle.script_reader.specs.declared.types.Script.{Script}
use Rattle.script_reader.specs.Rules.{cards_keep_rules, changes_keep_rules, actors_keep_rules, is_turn, schedule_keeps_rules, faults_keep_rules, budget_keeps_rules, keeps_rules}
use Rattle.script_generator.specs.Draws.{behind, draw}
use Rattle.script_generator.specs.Generated.{name, number, is_free, book_row, behind_rows, book_rows, usual_card, turns, schedule, generated}
use Rattle.script_generator.proofs.Names.{one_digit, two_digits, three_digits}

both : (a b : Bool) → a ≡ true → b ≡ true → (a && b) ≡ true
both a b p q = rw (p, q) refl

-- ---- rows of the phonebook

name_below_100 : (i : ℕ) → i < 100 → length (name i) ≡ 14
name_below_100 i small = elim (cases_lt i 10) [
  | inl few ↦ ap length (one_digit i few)
  | inr more ↦ ap length (two_digits i more small)
]

name_room : (i : ℕ) → i < 256 → length (name i) ≡ 14
name_room i small = elim (cases_lt i 100) [
  | inl few ↦ name_below_100 i few
  | inr more ↦ ap length (three_digits i more small)
]

entry_width : (n : List ℕ) (state : ℕ) → length n ≡ 14 → length (n ++ (6 ∷ 0x81 ∷ []) ++ number state ++ replicate 7 0xFF) ≡ 28
entry_width n state e =
    rw (length-append (n ++ (6 ∷ 0x81 ∷ []) ++ number state) (replicate 7 0xFF), length-append (n ++ (6 ∷ 0x81 ∷ [])) (number state), length-append n (6 ∷ 0x81 ∷ []), e) refl

is_wide : List ℕ → Bool
is_wide row = length row == 28

row_width_by : (free : Bool) (i state : ℕ) → i < 256 → is_free state ≡ free → length (book_row i state) ≡ 28
row_width_by true i state small e = rw e refl
row_width_by false i state small e = rw e (entry_width (name i) (behind state 1) (name_room i small))

row_width : (i state : ℕ) → i < 256 → length (book_row i state) ≡ 28
row_width i state small = row_width_by (is_free state) i state small refl

rows_wide : (seed n : ℕ) → n < 256 → list_all (λ (row : List ℕ). length row == 28) (book_rows seed n) ≡ true
rows_wide seed zero small = refl
rows_wide seed (suc n) small =
    rw (list_all-append (λ (row : List ℕ). length row == 28) (book_rows seed n) (book_row (n + 1) (behind_rows seed n) ∷ []), rows_wide seed n (omega (arith, small)), row_width (n + 1) (behind_rows seed n) (omega (arith, small))) refl

pub rows_count : (seed n : ℕ) → length (book_rows seed n) ≡ n
rows_count seed zero = refl
rows_count seed (suc n) =
    rw (length-append (book_rows seed n) (book_row (n + 1) (behind_rows seed n) ∷ []), rows_count seed n) (omega arith)

cards_keep : (rows : List (List ℕ)) → nat_le (length rows) 254 ≡ true → list_all (λ (row : List ℕ). length row == 28) rows ≡ true → cards_keep_rules (usual_card rows ∷ []) ≡ true
cards_keep rows few wide = rw (few, wide) refl

-- ---- turns

turns_good : (state n : ℕ) → list_all (is_turn 2) (turns state n) ≡ true
turns_good state zero = refl
turns_good state (suc n) =
    rw (list_all-append (is_turn 2) (turns state n) ((draw state (suc n) % 3) ∷ []), turns_good state n, le-leb (draw state (suc n) % 3) 2 (omega arith)) refl

turns_count : (state n : ℕ) → length (turns state n) ≡ n
turns_count state zero = refl
turns_count state (suc n) =
    rw (length-append (turns state n) ((draw state (suc n) % 3) ∷ []), turns_count state n) (omega arith)

schedule_count : (state size : ℕ) → size ≤ 250 → length (schedule state size) ≤ 10000
schedule_count state size most =
    let whole = length-append (1 ∷ 0 ∷ 0 ∷ 1 ∷ []) (turns state (4 * size)) in
    let count = turns_count state (4 * size) in
    omega (arith, whole, count, most)

schedule_good : (state size : ℕ) → list_all (is_turn 2) (schedule state size) ≡ true
schedule_good state size = turns_good state (4 * size)

schedule_keeps : (state size : ℕ) → size ≤ 250 → schedule_keeps_rules 2 (schedule state size) ≡ true
schedule_keeps state size most =
    both (nat_le (length (schedule state size)) 10000) (list_all (is_turn 2) (schedule state size)) (le-leb (length (schedule state size)) 10000 (schedule_count state size most)) (schedule_good state size)

-- ---- the whole

each_part : (a b c d e f g : Bool) → a ≡ true → b ≡ true → c ≡ true → d ≡ true → e ≡ true → f ≡ true → g ≡ true → (a && b && c && d && e && f && g) ≡ true
each_part a b c d e f g p q r s t u v = rw (p, q, r, s, t, u, v) refl

few_rows : (seed size : ℕ) → size ≤ 250 → nat_le (length (book_rows seed size)) 254 ≡ true
few_rows seed size most =
    let count = rows_count seed size in
    le-leb (length (book_rows seed size)) 254 (omega (arith, count, most))

pub generated_keeps_rules : (seed size : ℕ) → size ≤ 250 → keeps_rules (generated seed size) ≡ true
generated_keeps_rules seed size most =
    let s : Script = generated seed size in
    each_part (s.version == 1) (cards_keep_rules s.cards) (changes_keep_rules s.changes) (actors_keep_rules (length s.cards) (length s.changes) s.actors) (schedule_keeps_rules (length s.actors) s.schedule) (faults_keep_rules s.faults) (budget_keeps_rules s.budget)
    refl (cards_keep (book_rows seed size) (few_rows seed size most) (rows_wide seed size (omega (arith, most)))) refl refl (schedule_keeps (behind_rows seed size) size most) refl refl
