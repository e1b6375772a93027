-- A turn of a replay, by what the hub's turn came to.
use Rattle.std.proofs.Common.{◌≡◌, ◌⊎◌, inl, inr, ℕ, ◌||◌, Bool, true, false, List, ◌∷◌, Option, Some, None, refl, ap, sym, ◌∙◌, subst}
use Rattle.std.specs.Prelude.{is_some}
use Rattle.script_reader.specs.declared.types.Script.{Script}
use Rattle.report.specs.declared.line.Mode.TheVariants.{Replay as in_replay}
use Rattle.report.specs.declared.line.Line.{Line}
use Rattle.report.specs.declared.line.Line.TheVariants as line
use Rattle.rules.specs.declared.kept.Kept.{Kept}
use Rattle.rules.specs.After.{kept_of}
use Rattle.rules.specs.Rules.{scheduled_actor}
use Rattle.rules.specs.Work.{is_idle, has_ended, waits_on}
use Rattle.performed.specs.Laws.{MarksLeaveOpen}
use Rattle.performed.specs.Placed.{are_placed}
use Rattle.performed.specs.Progress.{Moves}
use Rattle.hub.specs.Hub.{HubValue, TakesTurn, turn_answer, waits_or_moves}
use Rattle.hub.specs.declared.turn.Turn.{Turn}
use Rattle.hub.specs.declared.turn.Turn.TheVariants.{Moved, Waits, Ended}
use Rattle.replay.specs.Budget.{within_budget}
use Rattle.replay.specs.Rounds.{goes_on, IsUnderWay, AdvancesBy, HasTurned}
use Rattle.replay.specs.declared.run.Run.{Run}
use Rattle.replay.proofs.Marks.{added_marks, added_placed, added_within, mark_placed, mark_within}
use Rattle.replay.proofs.Left.{is_unspent, moved_less}

-- ---- what a turn answers

moved_by : (ended : Bool) (waits : Option ℕ) → Moved ≡ elim ended [ true ↦ Ended | false ↦ waits_or_moves waits ] → (ended || is_some waits) ≡ false
moved_by true waits h = absurd (cc)
moved_by false (Some on) h = absurd (cc)
moved_by false None h = refl

pub is_awake : (s : Script) (k : Kept) (a : ℕ) → Moved ≡ turn_answer s k a → is_idle s k a ≡ false
is_awake s k a h = moved_by (has_ended s k a) (waits_on s k a) h

waits_by : (ended : Bool) (waits : Option ℕ) (on : ℕ) → Waits on ≡ elim ended [ true ↦ Ended | false ↦ waits_or_moves waits ] → (ended || is_some waits) ≡ true
waits_by true waits on h = refl
waits_by false (Some other) on h = refl
waits_by false None on h = absurd (cc)

is_waiting : (s : Script) (k : Kept) (a on : ℕ) → Waits on ≡ turn_answer s k a → is_idle s k a ≡ true
is_waiting s k a on h = waits_by (has_ended s k a) (waits_on s k a) on h

ended_by : (ended : Bool) (waits : Option ℕ) → Ended ≡ elim ended [ true ↦ Ended | false ↦ waits_or_moves waits ] → (ended || is_some waits) ≡ true
ended_by true waits h = refl
ended_by false (Some on) h = absurd (cc)
ended_by false None h = absurd (cc)

is_ended : (s : Script) (k : Kept) (a : ℕ) → Ended ≡ turn_answer s k a → is_idle s k a ≡ true
is_ended s k a h = ended_by (has_ended s k a) (waits_on s k a) h

pub is_resting : (s : Script) (k : Kept) (a : ℕ) (t : Turn) → ((on : ℕ) × (t ≡ Waits on)) ⊎ (t ≡ Ended) → t ≡ turn_answer s k a → is_idle s k a ≡ true
is_resting s k a t (inl waits) h = is_waiting s k a waits.0 (sym waits.1 ∙ h)
is_resting s k a t (inr ended) h = is_ended s k a (sym ended ∙ h)

-- ---- the run behind it

abbrev pub run : HubValue → ℕ → Run
run h b = record { hub = h; budget = b }

pub took_turn : (a : ℕ) (h h2 : HubValue) (b : ℕ) → IsUnderWay h.script (run h b) → goes_on h.script (kept_of h.script h.lines) ≡ true → a ≡ scheduled_actor h.script (kept_of h.script h.lines).marks
    → is_idle h.script (kept_of h.script h.lines) a ≡ false → TakesTurn a h h2 → HasTurned a h.script (run h b) (run h2 b)
took_turn a h h2 b u going scheduled awake t =
    let s = h.script in
    let unspent = is_unspent s (kept_of s h.lines) going in
    let moves : Moves s (kept_of s h.lines) (kept_of s h2.lines) = subst (λ (x : Script). Moves s (kept_of s h.lines) (kept_of x h2.lines)) t.stays.script (t.moves u.told) in
    record {
      under_way = record {
        script = t.stays.script;
        budget = u.budget;
        rules = u.rules;
        whole = t.whole;
        told = t.stays.world ∙ u.told;
        placed = subst (λ (ls : List Line). are_placed s in_replay ls ≡ true) (sym t.turn.lines)
            (added_placed s in_replay t.turn.added (line.Turn a ∷ h.lines) t.turn.own (mark_placed s a h.lines scheduled u.placed));
        within = subst (λ (ls : List Line). within_budget s ls ≡ true) (sym t.turn.lines)
            (added_within s t.turn.added (line.Turn a ∷ h.lines) t.turn.own (mark_within s a h.lines unspent u.within));
      };
      marks = ap (λ (ls : List Line). (kept_of s ls).marks) t.turn.lines ∙ added_marks s t.turn.added (line.Turn a ∷ h.lines) t.turn.own;
      advances = subst (λ (idle : Bool). AdvancesBy idle s (kept_of s h.lines) (kept_of s h2.lines)) (sym awake) (moved_less s h.lines h2.lines going moves);
    }

abbrev pub with_mark : ℕ → HubValue → HubValue
with_mark a h = record h { lines = line.Turn a ∷ h.lines }

marked : MarksLeaveOpen → (a : ℕ) (h : HubValue) (b : ℕ) → IsUnderWay h.script (run h b) → goes_on h.script (kept_of h.script h.lines) ≡ true → a ≡ scheduled_actor h.script (kept_of h.script h.lines).marks
    → is_idle h.script (kept_of h.script h.lines) a ≡ true → HasTurned a h.script (run h b) (run (with_mark a h) b)
marked laws a h b u going scheduled idle =
    let s = h.script in
    record {
      under_way = record {
        script = refl;
        budget = u.budget;
        rules = u.rules;
        whole = u.whole;
        told = u.told;
        placed = mark_placed s a h.lines scheduled u.placed;
        within = mark_within s a h.lines (is_unspent s (kept_of s h.lines) going) u.within;
      };
      marks = refl;
      advances = subst (λ (b2 : Bool). AdvancesBy b2 s (kept_of s h.lines) (kept_of s (line.Turn a ∷ h.lines))) (sym idle) (laws s (kept_of s h.lines) a);
    }

pub took_mark : MarksLeaveOpen → (a : ℕ) (h h1 h2 : HubValue) (b : ℕ) → IsUnderWay h.script (run h b) → goes_on h.script (kept_of h.script h.lines) ≡ true → a ≡ scheduled_actor h.script (kept_of h.script h.lines).marks
    → is_idle h.script (kept_of h.script h.lines) a ≡ true → h1 ≡ h → h2 ≡ with_mark a h1 → HasTurned a h.script (run h b) (run h2 b)
took_mark laws a h h1 h2 b u going scheduled idle same is =
    subst (λ (x : HubValue). HasTurned a h.script (run h b) (run x b)) (sym (is ∙ ap (with_mark a) same)) (marked laws a h b u going scheduled idle)
