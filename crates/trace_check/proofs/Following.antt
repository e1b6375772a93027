-- What a line that breaks no rule says, and does to the world.
use Rattle.std.proofs.Common.{◌≡◌, ◌==◌, ◌&&◌, ◌+◌, ℕ, Bool, true, false, if◌then◌else◌, Option, Some, None, List, [], ◌∷◌, refl, ap, sym, ◌∙◌, eqb-true}
use Rattle.std.specs.Prelude.{is_some, is_none}
use Rattle.std.proofs.lemmas.Bool.{and_parts}
use Rattle.apdu.specs.Words.{has_value}
use Rattle.card_model.specs.declared.world.World.{World}
use Rattle.card_model.specs.declared.world.WorldEvent.{WorldEvent}
use Rattle.card_model.specs.declared.world.WorldEvent.TheVariants as world_event
use Rattle.card_model.specs.Slot.{refusal_of}
use Rattle.script_reader.specs.declared.types.Script.{Script}
use Rattle.report.specs.declared.line.Mode.{Mode}
use Rattle.report.specs.declared.line.Line.{Line}
use Rattle.report.specs.declared.line.Line.TheVariants as line
use Rattle.rules.specs.declared.kept.Kept.{Kept}
use Rattle.rules.specs.Due.{due_event, event_by, tried_event}
use Rattle.rules.specs.Legal.{Tests, all_pass, first_false, lowest_broken, line_tests}
use Rattle.rules.specs.Rules.{has_right_response, same_event, is_turn_of, is_event_right, is_snapshot_right}
use Rattle.rules.specs.State.{State, shown_in, same_shown}
use Rattle.trace_check.specs.declared.behind.Behind.{Behind}
use Rattle.trace_check.specs.Judging.{is_sent, is_refused, tests_now}

-- a line that is no exchange has no response
pub no_response : (world : World) (l : Line) → is_sent l ≡ false → has_right_response world l ≡ true
no_response world (line.Exchange a c r) h = absurd (cc)
no_response world (line.Failed a c d) h = absurd (cc)
no_response world (line.Turn a) h = refl
no_response world (line.Begin a i) h = refl
no_response world (line.Reset a) h = refl
no_response world (line.ResetFailed a) h = refl
no_response world (line.World a e) h = refl
no_response world (line.Published k f e n text) h = refl
no_response world (line.EpochEnd k e n) h = refl
no_response world (line.Refused f n) h = refl
no_response world (line.Answered a i given) h = refl

-- ---- tests that pass

abbrev all_true : List Bool → Bool
all_true [] = true
all_true (b ∷ []) = b
all_true (b ∷ c ∷ bs) = b && all_true (c ∷ bs)

none_false : (n : ℕ) (bs : List Bool) → is_none (first_false n bs) ≡ all_true bs
none_false n [] = refl
none_false n (false ∷ []) = refl
none_false n (true ∷ []) = refl
none_false n (false ∷ c ∷ bs) = refl
none_false n (true ∷ c ∷ bs) = none_false (n + 1) (c ∷ bs)

none_broken : (t : Tests) → is_none (lowest_broken t) ≡ all_pass t
none_broken t = none_false 1 (t.responses ∷ t.snapshots ∷ t.edits ∷ t.channels ∷ t.rest ∷ t.answers ∷ t.verifications ∷ t.turns ∷ t.ending ∷ t.faults ∷ [])

passes : (t : Tests) → lowest_broken t ≡ None → all_pass t ≡ true
passes t h = sym (none_broken t) ∙ ap is_none h

behind_responses : (t : Tests) → all_pass t ≡ true → (t.snapshots && (t.edits && (t.channels && (t.rest && (t.answers && (t.verifications && (t.turns && (t.ending && t.faults)))))))) ≡ true
behind_responses t h = (and_parts t.responses _ h).1

pub snapshots_pass : (t : Tests) → lowest_broken t ≡ None → t.snapshots ≡ true
snapshots_pass t h = (and_parts t.snapshots (t.edits && (t.channels && (t.rest && (t.answers && (t.verifications && (t.turns && (t.ending && t.faults))))))) (behind_responses t (passes t h))).0

pub turns_pass : (t : Tests) → lowest_broken t ≡ None → t.turns ≡ true
turns_pass t h =
    let p1 = and_parts t.snapshots (t.edits && (t.channels && (t.rest && (t.answers && (t.verifications && (t.turns && (t.ending && t.faults))))))) (behind_responses t (passes t h)) in
    let p2 = and_parts t.edits (t.channels && (t.rest && (t.answers && (t.verifications && (t.turns && (t.ending && t.faults)))))) p1.1 in
    let p3 = and_parts t.channels (t.rest && (t.answers && (t.verifications && (t.turns && (t.ending && t.faults))))) p2.1 in
    let p4 = and_parts t.rest (t.answers && (t.verifications && (t.turns && (t.ending && t.faults)))) p3.1 in
    let p5 = and_parts t.answers (t.verifications && (t.turns && (t.ending && t.faults))) p4.1 in
    let p6 = and_parts t.verifications (t.turns && (t.ending && t.faults)) p5.1 in
    (and_parts t.turns (t.ending && t.faults) p6.1).0

-- ---- events of the world

event_is : (a b : WorldEvent) → same_event a b ≡ true → a ≡ b
event_is (world_event.Arm i) (world_event.Arm j) h = ap world_event.Arm (eqb-true i j h)
event_is (world_event.Arm i) world_event.Out h = absurd (cc)
event_is (world_event.Arm i) (world_event.Insert j) h = absurd (cc)
event_is world_event.Out (world_event.Arm j) h = absurd (cc)
event_is world_event.Out world_event.Out h = refl
event_is world_event.Out (world_event.Insert j) h = absurd (cc)
event_is (world_event.Insert i) (world_event.Arm j) h = absurd (cc)
event_is (world_event.Insert i) world_event.Out h = absurd (cc)
event_is (world_event.Insert i) (world_event.Insert j) h = ap world_event.Insert (eqb-true i j h)

by_refusal : (w : World) (e tried : WorldEvent) (b : Bool) → is_some (refusal_of w tried) ≡ b → has_value (same_event e) (if b then None else Some tried) ≡ true → is_some (refusal_of w e) ≡ false
by_refusal w e tried true q h = absurd (cc)
by_refusal w e tried false q h = ap (λ x. is_some (refusal_of w x)) (event_is e tried h) ∙ q

by_tried : (w : World) (e : WorldEvent) (o : Option WorldEvent) → has_value (same_event e) (event_by w o) ≡ true → is_some (refusal_of w e) ≡ false
by_tried w e None h = absurd (cc)
by_tried w e (Some tried) h = by_refusal w e tried (is_some (refusal_of w tried)) refl h

event_taken : (w : World) (k : Kept) (a : ℕ) (e : WorldEvent) → is_event_right w k a e ≡ true → is_some (refusal_of w e) ≡ false
event_taken w k a e h = by_tried w e (tried_event k) (and_parts (is_turn_of a k.turn) (has_value (same_event e) (due_event w k)) h).1

-- the slot takes the event of a line that breaks no rule
pub never_refused : (s : Script) (m : Mode) (l : Line) (b : Behind) → lowest_broken (tests_now s m l b) ≡ None → is_refused b.slot.world l ≡ false
never_refused s m (line.World a e) b h = event_taken b.slot.world b.tracker a e (turns_pass (tests_now s m (line.World a e) b) h)
never_refused s m (line.Exchange a c r) b h = refl
never_refused s m (line.Failed a c d) b h = refl
never_refused s m (line.Turn a) b h = refl
never_refused s m (line.Begin a i) b h = refl
never_refused s m (line.Reset a) b h = refl
never_refused s m (line.ResetFailed a) b h = refl
never_refused s m (line.Published k f e n text) b h = refl
never_refused s m (line.EpochEnd k e n) b h = refl
never_refused s m (line.Refused f n) b h = refl
never_refused s m (line.Answered a i given) b h = refl

-- ---- publications

numbered : (w : World) (k : Kept) (n f e p : ℕ) (text : List ℕ) → is_snapshot_right w k n f e p text ≡ true → n ≡ k.publications + 1
numbered w k n f e p text h =
    let q1 = and_parts ((n == k.publications + 1) && k.history.living && (e == k.history.epoch) && (p == k.history.events)) (same_shown (shown_in w f) (Some text)) h in
    let q2 = and_parts ((n == k.publications + 1) && k.history.living && (e == k.history.epoch)) (p == k.history.events) q1.0 in
    let q3 = and_parts ((n == k.publications + 1) && k.history.living) (e == k.history.epoch) q2.0 in
    let q4 = and_parts (n == k.publications + 1) k.history.living q3.0 in
    eqb-true n (k.publications + 1) q4.0

-- a publication that breaks no rule has the next number
pub number_is : (s : Script) (m : Mode) (changed : ℕ → ℕ) (st : State) (n f e p : ℕ) (text : List ℕ) → lowest_broken (line_tests s m changed st (line.Published n f e p text)) ≡ None → n ≡ st.kept.publications + 1
number_is s m changed st n f e p text h = numbered st.world st.kept n f e p text (snapshots_pass (line_tests s m changed st (line.Published n f e p text)) h)
