-- What a turn leaves to do.
use Rattle.std.proofs.Common.{◌≡◌, ◌⊎◌, inl, inr, ℕ, ◌+◌, ◌-◌, ◌*◌, ◌<◌, ◌≤◌, not, Bool, true, false, nat_lt, List, [], ◌∷◌, length, refl, ap, sym, ◌∙◌, arith}
use Rattle.std.proofs.lemmas.Bool.{and_parts, ltb-true}
use Rattle.std.proofs.lemmas.List.{length-map}
use borrow.Author.Count.{below_more}
use Rattle.script_reader.specs.declared.types.Script.{Script}
use Rattle.report.specs.declared.line.Line.{Line}
use Rattle.rules.specs.declared.kept.Kept.{Kept}
use Rattle.rules.specs.declared.standing.Standing.{Standing}
use Rattle.rules.specs.After.{kept_of}
use Rattle.rules.specs.Kept.{actor_count}
use Rattle.rules.specs.Standing.{is_stale}
use Rattle.rules.specs.Work.{is_finished, is_idle}
use Rattle.performed.specs.Measure.{one_if}
use Rattle.performed.specs.Progress.{operations_left, stale_count, Moves}
use Rattle.performed.specs.Laws.{LeavesOpen, IsAwake}
use Rattle.replay.specs.Budget.{budget_of}
use Rattle.replay.specs.Rounds.{goes_on, work_left, AdvancesBy}

-- ---- three families

one_small : (b : Bool) → one_if b ≤ 1
one_small true = omega arith
one_small false = omega arith

stale_few : (xs : List Standing) → stale_count xs ≤ length xs
stale_few [] = omega arith
stale_few (x ∷ xs) = omega (arith, stale_few xs, one_small (is_stale x))

three_standings : (s : Script) (lines : List Line) → length (kept_of s lines).standings ≡ 3
three_standings s [] = refl
three_standings s (l ∷ earlier) = length-map _ _ ∙ three_standings s earlier

three_stale : (s : Script) (lines : List Line) → stale_count (kept_of s lines).standings ≤ 3
three_stale s lines = omega (arith, stale_few (kept_of s lines).standings, three_standings s lines)

-- ---- a turn

denied : (b : Bool) → not b ≡ true → b ≡ false
denied true h = absurd (cc)
denied false h = refl

pub is_unfinished : (s : Script) (k : Kept) → goes_on s k ≡ true → is_finished s k ≡ false
is_unfinished s k going = denied (is_finished s k) (and_parts (not (is_finished s k)) (nat_lt k.history.events (budget_of s)) going).0

pub is_unspent : (s : Script) (k : Kept) → goes_on s k ≡ true → nat_lt k.history.events (budget_of s) ≡ true
is_unspent s k going = (and_parts (not (is_finished s k)) (nat_lt k.history.events (budget_of s)) going).1

-- the events, the operations left and the stale families, before and after, and the budget
moves_less : (e o t e2 o2 t2 b : ℕ) → e < b → t2 ≤ 3 → e ≤ e2 → o2 ≤ o → (e ≡ e2 → t2 ≤ t) → (e < e2) ⊎ ((o2 < o) ⊎ (t2 < t)) → 4 * ((b - e2) + o2) + t2 < 4 * ((b - e) + o) + t
moves_less e o t e2 o2 t2 b few three events operations stale (inl more) = omega arith
moves_less e o t e2 o2 t2 b few three events operations stale (inr (inl less)) = omega arith
moves_less e o t e2 o2 t2 b few three events operations stale (inr (inr less)) = omega arith

pub moved_less : (s : Script) (before after : List Line) → goes_on s (kept_of s before) ≡ true → Moves s (kept_of s before) (kept_of s after) → work_left s (kept_of s after) < work_left s (kept_of s before)
moved_less s before after going m =
    moves_less (kept_of s before).history.events (operations_left s (kept_of s before)) (stale_count (kept_of s before).standings) (kept_of s after).history.events (operations_left s (kept_of s after)) (stale_count (kept_of s after).standings)
    (budget_of s) (ltb-true _ _ (is_unspent s (kept_of s before) going)) (three_stale s after) m.events m.operations m.stale m.moved

-- ---- a round so far

same_kept : (s : Script) (k : Kept) → LeavesOpen s k k
same_kept s k = record { events = refl; operations = refl; stale = refl; finished = refl; idle = λ actor. refl }

same_still : (s : Script) (k0 k k2 : Kept) → LeavesOpen s k0 k → LeavesOpen s k k2 → LeavesOpen s k0 k2
same_still s k0 k k2 h then = record {
  events = then.events ∙ h.events;
  operations = then.operations ∙ h.operations;
  stale = then.stale ∙ h.stale;
  finished = then.finished ∙ h.finished;
  idle = λ actor. then.idle actor ∙ h.idle actor;
}

same_left : (s : Script) (k k2 : Kept) → LeavesOpen s k k2 → work_left s k2 ≡ work_left s k
same_left s k k2 h = omega (arith, h.events, h.operations, ap stale_count h.stale)

-- each of the first so many actors waits, or has nothing left, and nothing that is open has changed
pub record IdleSoFar (s : Script) (before after : Kept) (n : ℕ) : Type 0 where
  pub same : LeavesOpen s before after
  pub idle : (actor : ℕ) → actor < n → is_idle s before actor ≡ true

abbrev pub SoFar : Script → Kept → Kept → ℕ → Type 0
SoFar s before after n = (work_left s after < work_left s before) ⊎ IdleSoFar s before after n

pub so_far_none : (s : Script) (k : Kept) → SoFar s k k 0
so_far_none s k = inr (record { same = same_kept s k; idle = λ actor below. absurd (omega arith) })

pub so_far_more : (s : Script) (k0 k k2 : Kept) (a : ℕ) (idle : Bool) → is_idle s k a ≡ idle → AdvancesBy idle s k k2 → SoFar s k0 k a → SoFar s k0 k2 (a + 1)
so_far_more s k0 k k2 a true is same (inl less) = inl (let left = same_left s k k2 same in omega arith)
so_far_more s k0 k k2 a true is same (inr h) = inr (record { same = same_still s k0 k k2 h.same same; idle = below_more _ a h.idle (sym (h.same.idle a) ∙ is) })
so_far_more s k0 k k2 a false is less2 (inl less) = inl (omega arith)
so_far_more s k0 k k2 a false is less2 (inr h) = inl (let left = same_left s k0 k h.same in omega arith)

-- all actors had their turns, of whom one had something to do
pub gone_round : (s : Script) (k0 k : Kept) (n : ℕ) → actor_count s < n → IsAwake s k0 → SoFar s k0 k n → work_left s k < work_left s k0
gone_round s k0 k n all awake (inl less) = less
gone_round s k0 k n all awake (inr h) =
    let valid = awake.valid in
    let idle : is_idle s k0 awake.actor ≡ true = h.idle awake.actor (omega arith) in
    let moves : is_idle s k0 awake.actor ≡ false = awake.moves in
    absurd (cc)
