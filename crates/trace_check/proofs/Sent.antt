-- The tests of an exchange, done or failed, and what stands behind a line that was tested.
use Rattle.std.proofs.Common.{◌≡◌, ◌&&◌, ◌+◌, ℕ, Bool, true, false, Option, Some, None, List, [], ◌∷◌, refl, ap, sym, subst, ◌∙◌}
use Rattle.std.specs.Prelude.{is_some, Result, IfOk}
use Rattle.apdu.specs.Values.{CommandValue, ResponseValue}
use Rattle.card_model.specs.declared.world.World.{World}
use Rattle.card_model.specs.Step.{step, card_inside}
use Rattle.script_reader.specs.declared.types.Script.{Script}
use Rattle.report.specs.declared.line.Mode.{Mode}
use Rattle.report.specs.declared.line.Line.{Line}
use Rattle.report.specs.declared.line.Line.TheVariants as line
use Rattle.rules.specs.declared.kept.Kept.{Kept}
use Rattle.planner.specs.Room.{handles_fit}
use Rattle.rules.specs.After.{is_mark, kept_after}
use Rattle.rules.specs.State.{State, world_after}
use Rattle.rules.specs.Rules.{EditTurn, edit_turn, is_outside_raw, is_sent_right, is_book_right, is_lost_book_right, is_response_right, has_right_edit, world_failed}
use Rattle.rules.specs.Legal.{lowest_broken, other_tests, first_false}
use Rattle.link.specs.Commands.{continued}
use Rattle.tracker.specs.Room.{HasRoom}
use Rattle.trace_check.specs.declared.behind.Behind.{Behind}
use Rattle.trace_check.specs.declared.edits.Update.{Update}
use Rattle.trace_check.specs.declared.edits.Update.TheVariants.{Free}
use Rattle.trace_check.specs.declared.judge.Sent.{Sent}
use Rattle.trace_check.specs.Edits.{update_by, update_before, is_right_behind, is_right_lost}
use Rattle.trace_check.specs.Judging.{is_sent, sent_tests, lowest_sent, is_refused, boards_behind, displays_behind, world_tested, world_followed, state_now, mark_tests_now, tests_now, Tested, MayFollow, Followed, Follows, IsReady, HasSpace}
use Rattle.trace_check.specs.Displays.{AreShown}
use Rattle.trace_check.specs.declared.displays.Displays.{Displays}
use Rattle.trace_check.proofs.Following.{never_refused}
use Rattle.trace_check.proofs.Still.{shown_tested}

-- ---- the rule of edits

edit_by : (w : World) (k : Kept) (c : CommandValue) (r : ResponseValue) (o : Bool) (t : Option EditTurn) → is_right_behind (step w c).0 r (elim o [ true ↦ update_by w k c t | false ↦ Free ]) ≡ elim o [ true ↦ elim t [ None ↦ false | Some e ↦ is_sent_right w k e c (continued c k.chain) && is_book_right w k e c r ] | false ↦ true ]
edit_by w k c r false t = refl
edit_by w k c r true None = refl
edit_by w k c r true (Some e) = refl

edit_test : (s : Script) (w : World) (k : Kept) (a : ℕ) (c : CommandValue) (r : ResponseValue) → is_right_behind (step w c).0 r (update_before s w k c) ≡ has_right_edit s w k (line.Exchange a c r)
edit_test s w k a c r = edit_by w k c r (is_outside_raw s k c) (edit_turn s k)

lost_by : (w behind : World) (k : Kept) (c : CommandValue) (o : Bool) (t : Option EditTurn) → is_right_lost behind (elim o [ true ↦ update_by w k c t | false ↦ Free ]) ≡ elim o [ true ↦ elim t [ None ↦ false | Some e ↦ is_sent_right w k e c (continued c k.chain) && is_lost_book_right w behind k e ] | false ↦ true ]
lost_by w behind k c false t = refl
lost_by w behind k c true None = refl
lost_by w behind k c true (Some e) = refl

lost_test : (s : Script) (w : World) (k : Kept) (a : ℕ) (c : CommandValue) (d : Bool) → is_right_lost (world_failed w c d) (update_before s w k c) ≡ has_right_edit s w k (line.Failed a c d)
lost_test s w k a c d = lost_by w (world_failed w c d) k c (is_outside_raw s k c) (edit_turn s k)

-- ---- all tests

broken_first : (b : Bool) (tests : List Bool) → b ≡ false → first_false 1 (b ∷ tests) ≡ Some 1
broken_first true tests h = absurd (cc)
broken_first false tests h = refl

passed_first : (b : Bool) (tests : List Bool) → b ≡ true → first_false 1 (true ∷ tests) ≡ first_false 1 (b ∷ tests)
passed_first true tests h = refl
passed_first false tests h = absurd (cc)

-- a wrong response breaks the rule of responses
pub exchange_broken : (s : Script) (m : Mode) (st : State) (l : Line) (a : ℕ) (c : CommandValue) (r : ResponseValue) → l ≡ line.Exchange a c r → is_response_right st.world c r ≡ false → lowest_broken (other_tests s m st l) ≡ Some 1
exchange_broken s m st l a c r e h =
    let t = other_tests s m st (line.Exchange a c r) in
    ap (λ (x : Line). lowest_broken (other_tests s m st x)) e
    ∙ broken_first (is_response_right st.world c r) (t.snapshots ∷ t.edits ∷ t.channels ∷ t.rest ∷ t.answers ∷ t.verifications ∷ t.turns ∷ t.ending ∷ t.faults ∷ []) h

exchange_lowest : (s : Script) (m : Mode) (st : State) (l : Line) (a : ℕ) (c : CommandValue) (r : ResponseValue) → l ≡ line.Exchange a c r → is_response_right st.world c r ≡ true → lowest_sent (is_right_behind (step st.world c).0 r (update_before s st.world st.kept c)) (sent_tests s m st l) ≡ lowest_broken (other_tests s m st l)
exchange_lowest s m st l a c r e h =
    let t = other_tests s m st (line.Exchange a c r) in
    ap (λ (x : Line). lowest_sent (is_right_behind (step st.world c).0 r (update_before s st.world st.kept c)) (sent_tests s m st x)) e
    ∙ ap (λ (b : Bool). lowest_sent b (sent_tests s m st (line.Exchange a c r))) (edit_test s st.world st.kept a c r)
    ∙ passed_first (is_response_right st.world c r) (t.snapshots ∷ t.edits ∷ t.channels ∷ t.rest ∷ t.answers ∷ t.verifications ∷ t.turns ∷ t.ending ∷ t.faults ∷ []) h
    ∙ ap (λ (x : Line). lowest_broken (other_tests s m st x)) (sym e)

-- the update before the card has the command, where the world and what is kept are these
abbrev update_in : Script → CommandValue → World → Kept → Update
update_in s c w k = update_before s w k c

before_is : (s : Script) (c : CommandValue) (st : State) (w : World) (k : Kept) (update : Update) → w ≡ st.world → k ≡ st.kept → update ≡ update_before s w k c → update ≡ update_before s st.world st.kept c
before_is s c st w k update e h u = u ∙ ap (λ (x : World). update_in s c x k) e ∙ ap (λ (x : Kept). update_in s c st.world x) h

-- the tests of an exchange, by what stands behind the test of its response
pub exchange_said : (s : Script) (m : Mode) (st : State) (l : Line) (a : ℕ) (c : CommandValue) (r : ResponseValue) (w : World) (k : Kept) (behind : World) (update : Update) (sent : Sent) (edits : Bool) (said : Option ℕ) → l ≡ line.Exchange a c r → w ≡ st.world → k ≡ st.kept → is_response_right st.world c r ≡ true → behind ≡ (step st.world c).0 → update ≡ update_before s w k c → sent ≡ sent_tests s m st l → edits ≡ is_right_behind behind r update → said ≡ lowest_sent edits sent → said ≡ lowest_broken (other_tests s m st l)
exchange_said s m st l a c r w k behind update sent edits said e world kept h v u t b q =
    q
    ∙ ap (λ (x : Bool). lowest_sent x sent) b
    ∙ ap (λ (x : World). lowest_sent (is_right_behind x r update) sent) v
    ∙ ap (λ (x : Update). lowest_sent (is_right_behind (step st.world c).0 r x) sent) (before_is s c st w k update world kept u)
    ∙ ap (λ (x : Sent). lowest_sent (is_right_behind (step st.world c).0 r (update_before s st.world st.kept c)) x) t
    ∙ exchange_lowest s m st l a c r e h

pub failed_broken : (s : Script) (m : Mode) (st : State) (l : Line) (a : ℕ) (c : CommandValue) (d : Bool) → l ≡ line.Failed a c d → is_some (card_inside st.world) ≡ false → lowest_broken (other_tests s m st l) ≡ Some 1
failed_broken s m st l a c d e h =
    let t = other_tests s m st (line.Failed a c d) in
    ap (λ (x : Line). lowest_broken (other_tests s m st x)) e
    ∙ broken_first (is_some (card_inside st.world)) (t.snapshots ∷ t.edits ∷ t.channels ∷ t.rest ∷ t.answers ∷ t.verifications ∷ t.turns ∷ t.ending ∷ t.faults ∷ []) h

failed_lowest : (s : Script) (m : Mode) (st : State) (l : Line) (a : ℕ) (c : CommandValue) (d : Bool) → l ≡ line.Failed a c d → is_some (card_inside st.world) ≡ true → lowest_sent (is_right_lost (world_failed st.world c d) (update_before s st.world st.kept c)) (sent_tests s m st l) ≡ lowest_broken (other_tests s m st l)
failed_lowest s m st l a c d e h =
    let t = other_tests s m st (line.Failed a c d) in
    ap (λ (x : Line). lowest_sent (is_right_lost (world_failed st.world c d) (update_before s st.world st.kept c)) (sent_tests s m st x)) e
    ∙ ap (λ (b : Bool). lowest_sent b (sent_tests s m st (line.Failed a c d))) (lost_test s st.world st.kept a c d)
    ∙ passed_first (is_some (card_inside st.world)) (t.snapshots ∷ t.edits ∷ t.channels ∷ t.rest ∷ t.answers ∷ t.verifications ∷ t.turns ∷ t.ending ∷ t.faults ∷ []) h
    ∙ ap (λ (x : Line). lowest_broken (other_tests s m st x)) (sym e)

-- the same where the answer was lost
pub failed_said : (s : Script) (m : Mode) (st : State) (l : Line) (a : ℕ) (c : CommandValue) (d : Bool) (w : World) (k : Kept) (behind : World) (update : Update) (sent : Sent) (edits : Bool) (said : Option ℕ) → l ≡ line.Failed a c d → w ≡ st.world → k ≡ st.kept → is_some (card_inside st.world) ≡ true → behind ≡ world_failed st.world c d → update ≡ update_before s w k c → sent ≡ sent_tests s m st l → edits ≡ is_right_lost behind update → said ≡ lowest_sent edits sent → said ≡ lowest_broken (other_tests s m st l)
failed_said s m st l a c d w k behind update sent edits said e world kept h v u t b q =
    q
    ∙ ap (λ (x : Bool). lowest_sent x sent) b
    ∙ ap (λ (x : World). lowest_sent (is_right_lost x update) sent) v
    ∙ ap (λ (x : Update). lowest_sent (is_right_lost (world_failed st.world c d) x) sent) (before_is s c st w k update world kept u)
    ∙ ap (λ (x : Sent). lowest_sent (is_right_lost (world_failed st.world c d) (update_before s st.world st.kept c)) x) t
    ∙ failed_lowest s m st l a c d e h

-- ---- marks, and lines that are neither marks nor exchanges

pub mark_said : {E : Type 0} (s : Script) (m : Mode) (l : Line) (b : Behind) (r : Result (Option ℕ) E) → is_mark l ≡ true → IfOk r (λ broken. broken ≡ lowest_broken (mark_tests_now s m l b)) → IfOk r (λ broken. broken ≡ lowest_broken (tests_now s m l b))
mark_said s m l b r h said = subst (λ (x : Bool). IfOk r (λ broken. broken ≡ lowest_broken (elim x [ true ↦ mark_tests_now s m l b | false ↦ other_tests s m (state_now b) l ]))) (sym h) said

pub other_said : {E : Type 0} (s : Script) (m : Mode) (l : Line) (b : Behind) (r : Result (Option ℕ) E) → is_mark l ≡ false → IfOk r (λ broken. broken ≡ lowest_broken (other_tests s m (state_now b) l)) → IfOk r (λ broken. broken ≡ lowest_broken (tests_now s m l b))
other_said s m l b r h said = subst (λ (x : Bool). IfOk r (λ broken. broken ≡ lowest_broken (elim x [ true ↦ mark_tests_now s m l b | false ↦ other_tests s m (state_now b) l ]))) (sym h) said

still_by : (x : Bool) (l : Line) (w : World) → x ≡ false → w ≡ elim x [ true ↦ world_after l w | false ↦ w ]
still_by true l w h = absurd (cc)
still_by false l w h = refl

-- the test of an exchange is its step
pub exchange_tested : (l : Line) (a : ℕ) (c : CommandValue) (r : ResponseValue) (old new : Behind) → l ≡ line.Exchange a c r → new.slot.world ≡ (step old.slot.world c).0 → new.slot.plan.faults ≡ [] → new.tracker ≡ old.tracker → new.boards ≡ old.boards → new.displays ≡ old.displays → Tested l old new
exchange_tested l a c r old new e w faults kept boards displays = record {
  world = w ∙ sym (ap (λ (x : Line). world_tested x old.slot.world) e);
  faults = faults;
  kept = kept;
  boards = boards;
  displays = displays;
}

failed_world : (a : ℕ) (w : World) (c : CommandValue) (d : Bool) → world_failed w c d ≡ world_after (line.Failed a c d) w
failed_world a w c true = refl
failed_world a w c false = refl

pub failed_tested : (l : Line) (a : ℕ) (c : CommandValue) (d : Bool) (old new : Behind) → l ≡ line.Failed a c d → new.slot.world ≡ world_failed old.slot.world c d → new.slot.plan.faults ≡ [] → new.tracker ≡ old.tracker → new.boards ≡ old.boards → new.displays ≡ old.displays → Tested l old new
failed_tested l a c d old new e w faults kept boards displays = record {
  world = w ∙ failed_world a old.slot.world c d ∙ sym (ap (λ (x : Line). world_tested x old.slot.world) e);
  faults = faults;
  kept = kept;
  boards = boards;
  displays = displays;
}

-- the test of a line that is no exchange changes nothing
pub tested_still : (l : Line) (b : Behind) → is_sent l ≡ false → IsReady b → Tested l b b
tested_still l b h ready = record { world = still_by (is_sent l) l b.slot.world h; faults = ready.faults; kept = refl; boards = refl; displays = refl }

-- ---- behind a line that was tested

world_follows : (l : Line) (w : World) → world_followed l (world_tested l w) ≡ world_after l w
world_follows (line.Exchange a c r) w = refl
world_follows (line.Failed a c d) w = refl
world_follows (line.Turn a) w = refl
world_follows (line.Begin a i) w = refl
world_follows (line.Reset a) w = refl
world_follows (line.ResetFailed a) w = refl
world_follows (line.World a e) w = refl
world_follows (line.Published k f e n text) w = refl
world_follows (line.EpochEnd k e n) w = refl
world_follows (line.Refused f n) w = refl
world_follows (line.Answered a i given) w = refl

taken_by : (l : Line) (w : World) → is_refused w l ≡ false → is_refused (world_tested l w) l ≡ false
taken_by (line.World a e) w h = h
taken_by (line.Exchange a c r) w h = refl
taken_by (line.Failed a c d) w h = refl
taken_by (line.Turn a) w h = refl
taken_by (line.Begin a i) w h = refl
taken_by (line.Reset a) w h = refl
taken_by (line.ResetFailed a) w h = refl
taken_by (line.Published k f e n text) w h = refl
taken_by (line.EpochEnd k e n) w h = refl
taken_by (line.Refused f n) w h = refl
taken_by (line.Answered a i given) w h = refl

-- what was changed part by part is what follows the test
pub followed_by : (s : Script) (l : Line) (old new : Behind) (before behind : Kept) (event : ℕ) (world : World) → before ≡ old.tracker → event ≡ before.history.events + 1 → new.slot.world ≡ world_followed l old.slot.world → new.slot.plan.faults ≡ [] → world ≡ new.slot.world → new.displays ≡ displays_behind l event world old.displays → new.tracker ≡ kept_after s l old.tracker → behind ≡ new.tracker → new.boards ≡ boards_behind l behind old.boards → Followed s l old new
followed_by s l old new before behind event world b n w faults v d k q boards = record {
  world = w;
  faults = faults;
  kept = k;
  boards = boards ∙ ap (λ (x : Kept). boards_behind l x old.boards) (q ∙ k);
  displays = d
      ∙ ap (λ (x : ℕ). displays_behind l x world old.displays) (n ∙ ap (λ (x : Kept). x.history.events + 1) b)
      ∙ ap (λ (x : World). displays_behind l (old.tracker.history.events + 1) x old.displays) (v ∙ w);
}

-- a line that breaks no rule can be followed behind its test
pub tested_follow : (s : Script) (m : Mode) (l : Line) (old mid : Behind) → HasSpace old → lowest_broken (tests_now s m l old) ≡ None → Tested l old mid → MayFollow l mid
tested_follow s m l old mid h none t = record {
  faults = t.faults;
  taken = ap (λ (w : World). is_refused w l) t.world ∙ taken_by l old.slot.world (never_refused s m l old none);
  shown = λ q. shown_tested l old.slot.world mid.slot.world mid.displays t.world (subst (λ (d : Displays). AreShown old.slot.world d) (sym t.displays) h.ready.shown) q;
  room = subst HasRoom (sym t.kept) h.room;
  handles = ap (λ (k : Kept). handles_fit k.handles) t.kept ∙ h.handles;
}

pub tested_follows : (s : Script) (l : Line) (old mid new : Behind) → Tested l old mid → Followed s l mid new → Follows s l old new
tested_follows s l old mid new t f =
    let world : world_followed l mid.slot.world ≡ world_after l old.slot.world = ap (world_followed l) t.world ∙ world_follows l old.slot.world in
    record {
      world = f.world ∙ world;
      faults = f.faults;
      kept = f.kept ∙ ap (kept_after s l) t.kept;
      boards = f.boards ∙ ap (λ (k : Kept). boards_behind l (kept_after s l k) mid.boards) t.kept ∙ ap (boards_behind l (kept_after s l old.tracker)) t.boards;
      displays = f.displays
          ∙ ap (λ (k : Kept). displays_behind l (k.history.events + 1) (world_followed l mid.slot.world) mid.displays) t.kept
          ∙ ap (λ (w : World). displays_behind l (old.tracker.history.events + 1) w mid.displays) world
          ∙ ap (displays_behind l (old.tracker.history.events + 1) (world_after l old.slot.world)) t.displays;
    }
