-- The mark of a turn, and the lines behind it, which are no marks.
use Rattle.std.proofs.Common.{◌≡◌, ℕ, ◌+◌, ◌&&◌, not, Bool, true, false, List, [], ◌∷◌, ◌++◌, refl, ap, ◌∙◌, nat_lt}
use Rattle.std.proofs.lemmas.Bool.{eq-eqb}
use Rattle.std.proofs.Math.Bool.{or-true}
use Rattle.std.specs.Cmp.Derive.{both_true}
use Rattle.epoch_cache.specs.Past.{counted}
use Rattle.script_reader.specs.declared.types.Script.{Script}
use Rattle.report.specs.declared.line.Mode.{Mode}
use Rattle.report.specs.declared.line.Mode.TheVariants.{Replay as in_replay}
use Rattle.report.specs.declared.line.Line.{Line}
use Rattle.report.specs.declared.line.Line.TheVariants as line
use Rattle.rules.specs.declared.kept.Kept.{Kept}
use Rattle.rules.specs.After.{is_mark, kept_of}
use Rattle.rules.specs.Rules.{scheduled_actor}
use Rattle.performed.specs.Laws.{has_no_mark}
use Rattle.performed.specs.Placed.{is_placed, are_placed}
use Rattle.replay.specs.Budget.{budget_of, begins_within, within_budget}

-- ---- lines that are no marks

unmarked : (b c : Bool) → (not b && c) ≡ true → (b ≡ false) × (c ≡ true)
unmarked false c h = (refl, h)
unmarked true c h = absurd (cc)

pub added_marks : (s : Script) (added earlier : List Line) → has_no_mark added ≡ true → (kept_of s (added ++ earlier)).marks ≡ (kept_of s earlier).marks
added_marks s [] earlier h = refl
added_marks s (l ∷ added) earlier h =
    let parts = unmarked (is_mark l) (has_no_mark added) h in
    ap (λ (b : Bool). counted b (kept_of s (added ++ earlier)).marks) parts.0 ∙ added_marks s added earlier parts.1

placed_beside : (s : Script) (m : Mode) (k : Kept) (l : Line) → is_mark l ≡ false → is_placed s m k l ≡ true
placed_beside s m k (line.Turn a) h = absurd (cc)
placed_beside s m k (line.Begin a i) h = refl
placed_beside s m k (line.Exchange a c r) h = refl
placed_beside s m k (line.Failed a c acted) h = refl
placed_beside s m k (line.Reset a) h = refl
placed_beside s m k (line.ResetFailed a) h = refl
placed_beside s m k (line.World a e) h = refl
placed_beside s m k (line.Published number f e n text) h = refl
placed_beside s m k (line.EpochEnd number e n) h = refl
placed_beside s m k (line.Refused f n) h = refl
placed_beside s m k (line.Answered a i given) h = refl

pub added_placed : (s : Script) (m : Mode) (added earlier : List Line) → has_no_mark added ≡ true → are_placed s m earlier ≡ true → are_placed s m (added ++ earlier) ≡ true
added_placed s m [] earlier h placed = placed
added_placed s m (l ∷ added) earlier h placed =
    let parts = unmarked (is_mark l) (has_no_mark added) h in
    both_true (added_placed s m added earlier parts.1 placed) (placed_beside s m (kept_of s (added ++ earlier)) l parts.0)

within_beside : (s : Script) (k : Kept) (l : Line) → is_mark l ≡ false → begins_within s k l ≡ true
within_beside s k (line.Turn a) h = absurd (cc)
within_beside s k (line.Begin a i) h = refl
within_beside s k (line.Exchange a c r) h = refl
within_beside s k (line.Failed a c acted) h = refl
within_beside s k (line.Reset a) h = refl
within_beside s k (line.ResetFailed a) h = refl
within_beside s k (line.World a e) h = refl
within_beside s k (line.Published number f e n text) h = refl
within_beside s k (line.EpochEnd number e n) h = refl
within_beside s k (line.Refused f n) h = refl
within_beside s k (line.Answered a i given) h = refl

pub added_within : (s : Script) (added earlier : List Line) → has_no_mark added ≡ true → within_budget s earlier ≡ true → within_budget s (added ++ earlier) ≡ true
added_within s [] earlier h within = within
added_within s (l ∷ added) earlier h within =
    let parts = unmarked (is_mark l) (has_no_mark added) h in
    both_true (added_within s added earlier parts.1 within) (within_beside s (kept_of s (added ++ earlier)) l parts.0)

-- ---- the mark

pub mark_marks : (s : Script) (a : ℕ) (earlier : List Line) → (kept_of s (line.Turn a ∷ earlier)).marks ≡ (kept_of s earlier).marks + 1
mark_marks s a earlier = refl

pub mark_placed : (s : Script) (a : ℕ) (earlier : List Line) → a ≡ scheduled_actor s (kept_of s earlier).marks → are_placed s in_replay earlier ≡ true → are_placed s in_replay (line.Turn a ∷ earlier) ≡ true
mark_placed s a earlier scheduled placed =
    both_true placed (both_true (eq-eqb a (scheduled_actor s (kept_of s earlier).marks) scheduled) (or-true (not (kept_of s earlier).turn.bare)))

pub mark_within : (s : Script) (a : ℕ) (earlier : List Line) → nat_lt (kept_of s earlier).history.events (budget_of s) ≡ true → within_budget s earlier ≡ true → within_budget s (line.Turn a ∷ earlier) ≡ true
mark_within s a earlier few within = both_true within few
