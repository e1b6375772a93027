-- What stands behind the lines gives the tests of the rules.
use Rattle.std.proofs.Common.{◌≡◌, ◌&&◌, ℕ, Bool, true, false, Option, Some, None, List, [], ◌∷◌, length, refl, ap, sym, subst, ◌∙◌, arith}
use Rattle.std.specs.Prelude.{reverse, slice_get, max, nat_lt, IfSome}
use Rattle.std.specs.List.{list_all}
use Rattle.apdu.specs.Words.{has_value}
use Rattle.card_model.specs.declared.world.World.{World}
use Rattle.script_reader.specs.declared.types.Script.{Script}
use Rattle.report.specs.declared.answer.Answer.{Answer}
use Rattle.report.specs.declared.answer.Answer.TheVariants as answer
use Rattle.report.specs.declared.line.Mode.{Mode}
use Rattle.report.specs.declared.line.Line.{Line}
use Rattle.report.specs.declared.line.Line.TheVariants as line
use Rattle.rules.specs.declared.kept.Kept.{Kept}
use Rattle.rules.specs.declared.standing.Standing.{Standing}
use Rattle.rules.specs.Work.{is_quiet, is_finished}
use Rattle.rules.specs.After.{kept_of}
use Rattle.rules.specs.State.{State, world_of, boards_of, texts_of, text_of, shown_in, same_shown, state_of}
use Rattle.rules.specs.Rules as rules
use Rattle.rules.specs.Rules.{has_right_place}
use Rattle.rules.specs.Legal.{Tests, mark_tests, other_tests, line_tests, end_tests, changed_in, lowest_broken}
use Rattle.trace_check.proofs.States.{state_world, state_kept, state_boards, state_texts}
use Rattle.trace_check.specs.declared.behind.Behind.{Behind}
use Rattle.trace_check.specs.declared.displays.Display.{Display}
use Rattle.trace_check.specs.declared.displays.Displays.{Displays}
use Rattle.trace_check.specs.Behind.{TellsShown, Tells, IsDisplay, AreDisplays, IsBehind}
use Rattle.trace_check.specs.Displays as spec
use Rattle.trace_check.specs.Judging.{state_now, mark_tests_now, end_tests_now, tests_now}

-- ---- no test of a place looks at the texts

abbrev with_texts : World → Kept → List (List (Option ℕ)) → List (List ℕ) → State
with_texts w k boards texts = record { world = w; kept = k; boards = boards; texts = texts }

answer_place : (s : Script) (m : Mode) (w : World) (k : Kept) (bs : List (List (Option ℕ))) (t u : List (List ℕ)) (a i : ℕ) (g : Answer) → has_right_place s m (with_texts w k bs t) (line.Answered a i g) ≡ has_right_place s m (with_texts w k bs u) (line.Answered a i g)
answer_place s m w k bs t u a i answer.Moved = refl
answer_place s m w k bs t u a i answer.SlotFull = refl
answer_place s m w k bs t u a i answer.SlotEmpty = refl
answer_place s m w k bs t u a i answer.ArmFull = refl
answer_place s m w k bs t u a i answer.Absent = refl
answer_place s m w k bs t u a i (answer.EpochEnded e n b) = refl
answer_place s m w k bs t u a i (answer.Status sw n) = refl
answer_place s m w k bs t u a i (answer.Loop n) = refl
answer_place s m w k bs t u a i (answer.BadFcp n) = refl
answer_place s m w k bs t u a i (answer.Loaded n) = refl
answer_place s m w k bs t u a i (answer.Done n p l) = refl
answer_place s m w k bs t u a i (answer.NeedsPin n) = refl
answer_place s m w k bs t u a i (answer.BadFile n) = refl
answer_place s m w k bs t u a i (answer.NoRecord n) = refl
answer_place s m w k bs t u a i (answer.Full n) = refl
answer_place s m w k bs t u a i (answer.NotWritable n) = refl
answer_place s m w k bs t u a i (answer.NameTooLong n r) = refl
answer_place s m w k bs t u a i (answer.BadDigit n) = refl
answer_place s m w k bs t u a i (answer.NumberTooLong n) = refl
answer_place s m w k bs t u a i (answer.ExtFull n) = refl
answer_place s m w k bs t u a i (answer.Opened n) = refl
answer_place s m w k bs t u a i (answer.Exhausted n) = refl
answer_place s m w k bs t u a i (answer.Raw r) = refl
answer_place s m w k bs t u a i (answer.RawRefused n) = refl
answer_place s m w k bs t u a i (answer.NotHeldRef n) = refl
answer_place s m w k bs t u a i (answer.NotHeldKey n) = refl
answer_place s m w k bs t u a i answer.Closed = refl
answer_place s m w k bs t u a i answer.Verified = refl
answer_place s m w k bs t u a i answer.Ended = refl
answer_place s m w k bs t u a i answer.Polled = refl
answer_place s m w k bs t u a i (answer.Look seen) = refl
answer_place s m w k bs t u a i answer.Watching = refl
answer_place s m w k bs t u a i (answer.Notices d ns) = refl

place_same : (s : Script) (m : Mode) (w : World) (k : Kept) (bs : List (List (Option ℕ))) (t u : List (List ℕ)) (l : Line) → has_right_place s m (with_texts w k bs t) l ≡ has_right_place s m (with_texts w k bs u) l
place_same s m w k bs t u (line.Turn a) = refl
place_same s m w k bs t u (line.Begin a i) = refl
place_same s m w k bs t u (line.Exchange a c r) = refl
place_same s m w k bs t u (line.Failed a c d) = refl
place_same s m w k bs t u (line.Reset a) = refl
place_same s m w k bs t u (line.ResetFailed a) = refl
place_same s m w k bs t u (line.World a e) = refl
place_same s m w k bs t u (line.Published n f e v text) = refl
place_same s m w k bs t u (line.EpochEnd n e v) = refl
place_same s m w k bs t u (line.Refused f n) = refl
place_same s m w k bs t u (line.Answered a i g) = answer_place s m w k bs t u a i g

other_same : (s : Script) (m : Mode) (w : World) (k : Kept) (bs : List (List (Option ℕ))) (t u : List (List ℕ)) (l : Line) → other_tests s m (with_texts w k bs t) l ≡ other_tests s m (with_texts w k bs u) l
other_same s m w k bs t u l = ap (λ (p : Bool). record {
  responses = rules.has_right_response w l;
  snapshots = rules.has_right_snapshot w k l;
  edits = rules.has_right_edit s w k l;
  channels = true;
  rest = true;
  answers = rules.has_right_answer s w k l;
  verifications = rules.has_right_verify s k l;
  turns = p;
  ending = true;
  faults = rules.has_right_fault s w k l;
}) (place_same s m w k bs t u l)

-- ---- the rule of rest

shown_right : (s : Script) (lines : List Line) (f : ℕ) (d : Display) (st : Standing) (o : Option ℕ) → IsDisplay s lines f d → st.family ≡ f → st.shown ≡ o → IfSome o (TellsShown (kept_of s lines).publications (texts_of lines) d.told) → spec.is_shown_right st d o ≡ rules.is_shown_right (world_of s lines) (λ n. text_of (kept_of s lines).publications n (texts_of lines)) (changed_in s lines) st o
shown_right s lines f d st None h family e tells = refl
shown_right s lines f d st (Some n) h family e tells =
    let text : d.told ≡ text_of (kept_of s lines).publications n (texts_of lines) = sym tells.text in
    let shown : d.shown ≡ shown_in (world_of s lines) st.family = h.shown ∙ ap (shown_in (world_of s lines)) (sym family) in
    let changed : d.changed ≡ changed_in s lines st.family = h.changed ∙ ap (changed_in s lines) (sym family) in
    ap (λ (x : Option (List ℕ)). elim (same_shown x (Some d.told)) [ true ↦ true | false ↦ has_value (nat_lt (max st.renewed d.changed)) st.refused ]) shown
    ∙ ap (λ (x : List ℕ). elim (same_shown (shown_in (world_of s lines) st.family) (Some x)) [ true ↦ true | false ↦ has_value (nat_lt (max st.renewed d.changed)) st.refused ]) text
    ∙ ap (λ (x : ℕ). elim (same_shown (shown_in (world_of s lines) st.family) (Some (text_of (kept_of s lines).publications n (texts_of lines)))) [ true ↦ true | false ↦ has_value (nat_lt (max st.renewed x)) st.refused ]) changed

standing_right : (s : Script) (lines : List Line) (f : ℕ) (d : Display) (st : Standing) → IsDisplay s lines f d → slice_get (kept_of s lines).standings f ≡ Some st → spec.is_standing_right st d ≡ rules.is_standing_right (world_of s lines) (λ n. text_of (kept_of s lines).publications n (texts_of lines)) (changed_in s lines) st
standing_right s lines f d st h e =
    let tells : Tells (kept_of s lines).publications (texts_of lines) f d.told st = subst (λ o. IfSome o (Tells (kept_of s lines).publications (texts_of lines) f d.told)) e h.told in
    shown_right s lines f d st st.shown h tells.family refl tells.shown

three_and : (a b c a' b' c' : Bool) → a ≡ a' → b ≡ b' → c ≡ c' → a && b && c ≡ a' && (b' && (c' && true))
three_and true true true a' b' c' p q r = rw (← p, ← q, ← r) refl
three_and true true false a' b' c' p q r = rw (← p, ← q, ← r) refl
three_and true false c a' b' c' p q r = rw (← p, ← q) refl
three_and false b c a' b' c' p q r = rw (← p) refl

standings_right : (s : Script) (lines : List Line) (d : Displays) (standings : List Standing) → AreDisplays s lines d → (kept_of s lines).standings ≡ standings → length standings ≡ 3 → spec.are_standings_right standings d ≡ list_all (rules.is_standing_right (world_of s lines) (λ n. text_of (kept_of s lines).publications n (texts_of lines)) (changed_in s lines)) standings
standings_right s lines d [] h e n = absurd (cc)
standings_right s lines d (r ∷ []) h e n = absurd (cc)
standings_right s lines d (r ∷ p ∷ []) h e n = absurd (cc)
standings_right s lines d (r ∷ p ∷ f ∷ []) h e n =
    let all : ℕ → Option Standing = slice_get (r ∷ p ∷ f ∷ []) in
    three_and _ _ _ _ _ _
    (standing_right s lines 0 d.records r h.records (ap (λ xs. slice_get xs 0) e))
    (standing_right s lines 1 d.phonebook p h.phonebook (ap (λ xs. slice_get xs 1) e))
    (standing_right s lines 2 d.fixed f h.fixed (ap (λ xs. slice_get xs 2) e))
standings_right s lines d (r ∷ p ∷ f ∷ g ∷ more) h e n = absurd (omega arith)

-- the rule of rest by what is kept is the rule
rest_right : (s : Script) (lines : List Line) (d : Displays) → AreDisplays s lines d → length (kept_of s lines).standings ≡ 3 → spec.is_rest_right (kept_of s lines) d ≡ rules.is_rest_right (with_texts (world_of s lines) (kept_of s lines) (boards_of s lines) (texts_of lines)) (changed_in s lines)
rest_right s lines d h n = ap (λ (b : Bool). elim (is_quiet (kept_of s lines)) [ false ↦ true | true ↦ b ]) (standings_right s lines d (kept_of s lines).standings h refl n)

-- ---- all of it

state_is : (s : Script) (lines : List Line) → state_of s lines ≡ with_texts (world_of s lines) (kept_of s lines) (boards_of s lines) (texts_of lines)
state_is s lines = with_parts (state_of s lines) (world_of s lines) (kept_of s lines) (boards_of s lines) (texts_of lines) (state_world s lines) (state_kept s lines) (state_boards s lines) (state_texts s lines)
  where
    with_parts : (st : State) (w : World) (k : Kept) (bs : List (List (Option ℕ))) (t : List (List ℕ)) → st.world ≡ w → st.kept ≡ k → st.boards ≡ bs → st.texts ≡ t → st ≡ with_texts w k bs t
    with_parts st w k bs t p q r u = rw (← p, ← q, ← r, ← u) refl

now_is : (s : Script) (lines : List Line) (b : Behind) → IsBehind s lines b → state_now b ≡ with_texts (world_of s lines) (kept_of s lines) (boards_of s lines) []
now_is s lines b h =
    ap (λ (w : World). with_texts w b.tracker (reverse b.boards) []) h.world
    ∙ ap (λ (k : Kept). with_texts (world_of s lines) k (reverse b.boards) []) h.kept
    ∙ ap (λ (bs : List (List (Option ℕ))). with_texts (world_of s lines) (kept_of s lines) bs []) h.boards

other_now : (s : Script) (m : Mode) (l : Line) (lines : List Line) (b : Behind) → IsBehind s lines b → other_tests s m (state_now b) l ≡ other_tests s m (state_of s lines) l
other_now s m l lines b h =
    ap (λ (st : State). other_tests s m st l) (now_is s lines b h)
    ∙ other_same s m (world_of s lines) (kept_of s lines) (boards_of s lines) [] (texts_of lines) l
    ∙ ap (λ (st : State). other_tests s m st l) (sym (state_is s lines))

rest_now : (s : Script) (lines : List Line) (b : Behind) → IsBehind s lines b → spec.is_rest_right b.tracker b.displays ≡ rules.is_rest_right (state_of s lines) (changed_in s lines)
rest_now s lines b h =
    ap (λ (k : Kept). spec.is_rest_right k b.displays) h.kept
    ∙ rest_right s lines b.displays h.displays h.three
    ∙ ap (λ (st : State). rules.is_rest_right st (changed_in s lines)) (sym (state_is s lines))

abbrev mark_with : Script → Mode → ℕ → World → Kept → Bool → Tests
mark_with s m a w k rest = record {
  responses = true;
  snapshots = true;
  edits = true;
  channels = rules.are_channels_right w k;
  rest = rest;
  answers = rules.are_answers_given s w k;
  verifications = true;
  turns = rules.is_mark_right s m w k a;
  ending = true;
  faults = rules.is_end_published k.turn;
}

mark_now : (s : Script) (m : Mode) (a : ℕ) (lines : List Line) (b : Behind) → IsBehind s lines b → mark_tests_now s m (line.Turn a) b ≡ mark_tests s m (changed_in s lines) (state_of s lines) (line.Turn a)
mark_now s m a lines b h =
    ap (λ (r : Bool). mark_with s m a b.slot.world b.tracker r) (rest_now s lines b h)
    ∙ ap (λ (w : World). mark_with s m a w b.tracker (rules.is_rest_right (state_of s lines) (changed_in s lines))) (h.world ∙ sym (state_world s lines))
    ∙ ap (λ (k : Kept). mark_with s m a (state_of s lines).world k (rules.is_rest_right (state_of s lines) (changed_in s lines))) (h.kept ∙ sym (state_kept s lines))

tests_are : (s : Script) (m : Mode) (l : Line) (lines : List Line) (b : Behind) → IsBehind s lines b → tests_now s m l b ≡ line_tests s m (changed_in s lines) (state_of s lines) l
tests_are s m (line.Turn a) lines b h = mark_now s m a lines b h
tests_are s m (line.Begin a i) lines b h = other_now s m (line.Begin a i) lines b h
tests_are s m (line.Exchange a c r) lines b h = other_now s m (line.Exchange a c r) lines b h
tests_are s m (line.Failed a c d) lines b h = other_now s m (line.Failed a c d) lines b h
tests_are s m (line.Reset a) lines b h = other_now s m (line.Reset a) lines b h
tests_are s m (line.ResetFailed a) lines b h = other_now s m (line.ResetFailed a) lines b h
tests_are s m (line.World a e) lines b h = other_now s m (line.World a e) lines b h
tests_are s m (line.Published n f e v text) lines b h = other_now s m (line.Published n f e v text) lines b h
tests_are s m (line.EpochEnd n e v) lines b h = other_now s m (line.EpochEnd n e v) lines b h
tests_are s m (line.Refused f n) lines b h = other_now s m (line.Refused f n) lines b h
tests_are s m (line.Answered a i g) lines b h = other_now s m (line.Answered a i g) lines b h

-- the tests at a line
pub lowest_now : (s : Script) (m : Mode) (l : Line) (lines : List Line) (b : Behind) → IsBehind s lines b → lowest_broken (tests_now s m l b) ≡ lowest_broken (line_tests s m (changed_in s lines) (state_of s lines) l)
lowest_now s m l lines b h = ap lowest_broken (tests_are s m l lines b h)

abbrev end_with : Script → Mode → World → Kept → Bool → Tests
end_with s m w k rest = record {
  responses = true;
  snapshots = true;
  edits = true;
  channels = rules.are_channels_right w k;
  rest = rest;
  answers = rules.are_answers_given s w k;
  verifications = true;
  turns = rules.is_turn_right m w k;
  ending = is_finished s k;
  faults = rules.is_end_published k.turn;
}

-- and those at the end
pub lowest_at_end : (s : Script) (m : Mode) (lines : List Line) (b : Behind) → IsBehind s lines b → lowest_broken (end_tests_now s m b) ≡ lowest_broken (end_tests s m (changed_in s lines) (state_of s lines))
lowest_at_end s m lines b h = ap lowest_broken (
    ap (λ (r : Bool). end_with s m b.slot.world b.tracker r) (rest_now s lines b h)
    ∙ ap (λ (w : World). end_with s m w b.tracker (rules.is_rest_right (state_of s lines) (changed_in s lines))) (h.world ∙ sym (state_world s lines))
    ∙ ap (λ (k : Kept). end_with s m (state_of s lines).world k (rules.is_rest_right (state_of s lines) (changed_in s lines))) (h.kept ∙ sym (state_kept s lines)))
