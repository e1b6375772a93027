-- Lines that are due are legal, and so is the report of a run that is finished.
use Rattle.std.proofs.Common.{◌≡◌, ℕ, ◌&&◌, not, true, List, [], ◌∷◌, refl, sym, ap, ◌∙◌, subst}
use Rattle.std.specs.Prelude.{nat_le}
use Rattle.std.proofs.lemmas.Bool.{and_parts, and_from}
use Rattle.card_model.specs.declared.world.World.{World}
use Rattle.script_reader.specs.declared.types.Script.{Script}
use Rattle.script_reader.specs.Rules.{keeps_rules}
use Rattle.report.specs.declared.line.Line.{Line}
use Rattle.report.specs.declared.line.Line.TheVariants as line
use Rattle.report.specs.declared.line.Mode.{Mode}
use Rattle.rules.specs.declared.kept.Kept.{Kept}
use Rattle.rules.specs.Kept.{actor_count}
use Rattle.rules.specs.Work.{is_finished}
use Rattle.rules.specs.After.{kept_after, kept_of}
use Rattle.rules.specs.Due.{due}
use Rattle.rules.specs.State.{world_of, boards_after, boards_of, State, state_after, state_of}
use Rattle.rules.specs.Agreement.{are_responses_right}
use Rattle.rules.specs.Laws.{KeptAgrees, PlansForCard, ShowsCard, KeptLooksBack}
use Rattle.book_plans.specs.Law.{PlansMakeEdits}
use Rattle.rules.specs.Legal.{Tests, all_pass, mark_tests, other_tests, line_tests, end_tests, changed_in, is_legal_line, are_legal_lines, is_legal_end}
use Rattle.rules.specs.Performed.{ends_turn, does_due, performed_of}
use Rattle.rules.specs.Rules.{has_right_response, has_right_edit, are_channels_right, is_rest_right, has_right_verify, has_right_place}
use Rattle.performed.specs.Names.{has_utf8_names}
use Rattle.performed.specs.Followed.{is_followed, are_followed}
use Rattle.performed.specs.Told.{is_told, are_told}
use Rattle.performed.specs.Placed.{is_turn_allowed, is_placed, are_placed}
use Rattle.performed.specs.Laws.{LinesAreLegal, LinesArePerformed, MarksMove, RunIsLegal}
use Rattle.performed.proofs.CalmCards.{channels_right}
use Rattle.performed.proofs.CalmGiven.{given_of}
use Rattle.performed.proofs.CalmAnswers.{responses_right}
use Rattle.performed.proofs.CalmRest.{rest_right}
use Rattle.performed.proofs.CalmLent.{state_world, state_kept, state_texts}
use Rattle.performed.proofs.CalmEdits.{edits_right}
use Rattle.performed.proofs.CalmVerify.{verify_right}
use Rattle.performed.proofs.LegalDue.{does_line}
use Rattle.performed.proofs.LegalLines.{ends_done}
use Rattle.performed.proofs.LegalPlaces.{known, turn_right, line_placed, snapshot_right, line_answers, line_fails}

-- ---- the state behind the lines

state_boards : (s : Script) (lines : List Line) → (state_of s lines).boards ≡ boards_of s lines
state_boards s [] = refl
state_boards s (l ∷ earlier) =
    ap (λ (k : Kept). boards_after l (kept_after s l k) (state_of s earlier).boards) (state_kept s earlier)
    ∙ ap (boards_after l (kept_after s l (kept_of s earlier))) (state_boards s earlier)

state_known : (s : Script) (lines : List Line) → state_of s lines ≡ known s lines
state_known s lines =
    ap (λ (w : World). record (state_of s lines) { world = w }) (state_world s lines)
    ∙ ap (λ (k : Kept). record (state_of s lines) { world = world_of s lines; kept = k }) (state_kept s lines)
    ∙ ap (λ boards. record (known s lines) { boards = boards; texts = (state_of s lines).texts }) (state_boards s lines)
    ∙ ap (λ texts. record (known s lines) { texts = texts }) (state_texts s lines)

-- ---- each line is what is due

performed_state : (s : Script) (lines : List Line) → (performed_of s lines).state ≡ state_of s lines
performed_state s [] = refl
performed_state s (l ∷ earlier) = ap (state_after s l) (performed_state s earlier)

pub lines_are_performed : LinesArePerformed
lines_are_performed s [] f t = refl
lines_are_performed s (l ∷ earlier) f t =
    let k : Kept = kept_of s earlier in
    let w : World = world_of s earlier in
    let qf = and_parts (are_followed s earlier) (is_followed s k l) f in
    let qt = and_parts (are_told s earlier) (is_told s w k l) t in
    and_from (does_due s (performed_of s earlier).state l) (performed_of s earlier).due
    (subst (λ (st : State). does_due s st l ≡ true) (sym (performed_state s earlier ∙ state_known s earlier)) (does_line s w k l qf.1 qt.1))
    (lines_are_performed s earlier qf.0 qt.0)

-- ---- the rules of edits, verifications, channels and rest

record Others (s : Script) : Type 0 where
  pub edits : (earlier : List Line) (l : Line) → are_followed s (l ∷ earlier) ≡ true → are_told s (l ∷ earlier) ≡ true → has_right_edit s (world_of s earlier) (kept_of s earlier) l ≡ true
  pub verifications : (earlier : List Line) (l : Line) → are_followed s (l ∷ earlier) ≡ true → are_told s (l ∷ earlier) ≡ true → has_right_verify s (kept_of s earlier) l ≡ true
  pub channels : (lines : List Line) → are_followed s lines ≡ true → are_told s lines ≡ true → ends_turn (due s (kept_of s lines)) ≡ true → are_channels_right (world_of s lines) (kept_of s lines) ≡ true
  pub rest : (lines : List Line) → are_followed s lines ≡ true → are_told s lines ≡ true → ends_turn (due s (kept_of s lines)) ≡ true → is_rest_right (state_of s lines) (changed_in s lines) ≡ true

-- ---- tests that pass

pass : (t : Tests) → t.responses ≡ true → t.snapshots ≡ true → t.edits ≡ true → t.channels ≡ true → t.rest ≡ true → t.answers ≡ true → t.verifications ≡ true → t.turns ≡ true → t.ending ≡ true → t.faults ≡ true → all_pass t ≡ true
pass t r1 r2 r3 r4 r5 r6 r7 r8 r9 r10 = rw (r1, r2, r3, r4, r5, r6, r7, r8, r9, r10) refl

module _ (moves : MarksMove) (shows : ShowsCard) (looks : KeptLooksBack) (s : Script) (m : Mode) (rules : keeps_rules s ≡ true) (v : has_utf8_names s ≡ true) (others : Others s) where
  -- a turn that ends
  module _ (lines : List Line) (f : are_followed s lines ≡ true) (t : are_told s lines ≡ true) (e : ends_turn (due s (kept_of s lines)) ≡ true) where
    rest_known : is_rest_right (known s lines) (changed_in s lines) ≡ true
    rest_known = subst (λ (st : State). is_rest_right st (changed_in s lines) ≡ true) (state_known s lines) (others.rest lines f t e)

    end_known : is_turn_allowed m (kept_of s lines).turn ≡ true → is_finished s (kept_of s lines) ≡ true → all_pass (end_tests s m (changed_in s lines) (known s lines)) ≡ true
    end_known allowed finished =
        let done = ends_done s (kept_of s lines) e (world_of s lines) in
        pass (end_tests s m (changed_in s lines) (known s lines)) refl refl refl (others.channels lines f t e) rest_known done.0 refl
        (turn_right moves s m lines rules v f t e allowed) finished done.2

    mark_known : (a : ℕ) → has_right_place s m (known s lines) (line.Turn a) ≡ true → all_pass (mark_tests s m (changed_in s lines) (known s lines) (line.Turn a)) ≡ true
    mark_known a place =
        let done = ends_done s (kept_of s lines) e (world_of s lines) in
        pass (mark_tests s m (changed_in s lines) (known s lines) (line.Turn a)) refl refl refl (others.channels lines f t e) rest_known done.0 refl place refl done.2

  -- a line
  module _ (earlier : List Line) (f : are_followed s earlier ≡ true) (t : are_told s earlier ≡ true) where
    other_known : (l : Line) → is_followed s (kept_of s earlier) l ≡ true → is_told s (world_of s earlier) (kept_of s earlier) l ≡ true → is_placed s m (kept_of s earlier) l ≡ true → all_pass (other_tests s m (known s earlier) l) ≡ true
    other_known l h told p =
        let k : Kept = kept_of s earlier in
        let w : World = world_of s earlier in
        let all_f : are_followed s (l ∷ earlier) ≡ true = and_from (are_followed s earlier) (is_followed s k l) f h in
        let all_t : are_told s (l ∷ earlier) ≡ true = and_from (are_told s earlier) (is_told s w k l) t told in
        pass (other_tests s m (known s earlier) l)
        (and_parts (are_responses_right s earlier) (has_right_response w l) (responses_right s (l ∷ earlier) all_t)).1
        (snapshot_right moves shows looks s rules v m earlier f t l h)
        (others.edits earlier l all_f all_t) refl refl
        (line_answers s w k l h told)
        (others.verifications earlier l all_f all_t)
        (line_placed moves shows looks s rules v m earlier f t l h told p) refl
        (line_fails s w k l h told)

    line_known : (l : Line) → is_followed s (kept_of s earlier) l ≡ true → is_told s (world_of s earlier) (kept_of s earlier) l ≡ true → is_placed s m (kept_of s earlier) l ≡ true → all_pass (line_tests s m (changed_in s earlier) (known s earlier) l) ≡ true
    line_known (line.Turn a) h told p =
        let k : Kept = kept_of s earlier in
        mark_known earlier f t (and_parts (ends_turn (due s k)) (not (is_finished s k)) (and_parts (ends_turn (due s k) && not (is_finished s k)) (nat_le a (actor_count s)) h).0).0 a
        (line_placed moves shows looks s rules v m earlier f t (line.Turn a) h told p)
    line_known l h told p = other_known l h told p

  lines_legal : (lines : List Line) → are_followed s lines ≡ true → are_told s lines ≡ true → are_placed s m lines ≡ true → are_legal_lines s m lines ≡ true
  lines_legal [] f t p = refl
  lines_legal (l ∷ earlier) f t p =
      let k : Kept = kept_of s earlier in
      let w : World = world_of s earlier in
      let qf = and_parts (are_followed s earlier) (is_followed s k l) f in
      let qt = and_parts (are_told s earlier) (is_told s w k l) t in
      let qp = and_parts (are_placed s m earlier) (is_placed s m k l) p in
      and_from (is_legal_line s m l earlier) (are_legal_lines s m earlier)
      (subst (λ (st : State). all_pass (line_tests s m (changed_in s earlier) st l) ≡ true) (sym (state_known s earlier)) (line_known earlier qf.0 qt.0 l qf.1 qt.1 qp.1))
      (lines_legal earlier qf.0 qt.0 qp.0)

  end_legal : (lines : List Line) → are_followed s lines ≡ true → are_told s lines ≡ true → is_turn_allowed m (kept_of s lines).turn ≡ true → ends_turn (due s (kept_of s lines)) ≡ true → is_finished s (kept_of s lines) ≡ true → is_legal_end s m lines ≡ true
  end_legal lines f t allowed e finished =
      subst (λ (st : State). all_pass (end_tests s m (changed_in s lines) st) ≡ true) (sym (state_known s lines)) (end_known lines f t e allowed finished)

-- ---- the laws

others : KeptAgrees → KeptLooksBack → PlansForCard → PlansMakeEdits → ShowsCard → (s : Script) → keeps_rules s ≡ true → has_utf8_names s ≡ true → Others s
others agrees looks plans makes shows s rules v = record {
  edits = λ earlier l f t. edits_right agrees plans makes s earlier l rules v f t;
  verifications = λ earlier l f t. verify_right s earlier l rules v f t;
  channels = λ lines f t e. channels_right s (given_of s rules v) lines f t e;
  rest = λ lines f t e. rest_right agrees looks plans makes shows s lines rules v f t e;
}

pub lines_are_legal : MarksMove → KeptAgrees → PlansForCard → PlansMakeEdits → ShowsCard → KeptLooksBack → LinesAreLegal
lines_are_legal moves agrees plans makes shows looks s m lines rules v f t p = lines_legal moves shows looks s m rules v (others agrees looks plans makes shows s rules v) lines f t p

pub run_is_legal : MarksMove → KeptAgrees → PlansForCard → PlansMakeEdits → ShowsCard → KeptLooksBack → RunIsLegal
run_is_legal moves agrees plans makes shows looks r rules v f t p allowed e finished =
    and_from (are_legal_lines r.script r.mode r.lines) (is_legal_end r.script r.mode r.lines)
    (lines_are_legal moves agrees plans makes shows looks r.script r.mode r.lines rules v f t p)
    (end_legal moves shows looks r.script r.mode rules v (others agrees looks plans makes shows r.script rules v) r.lines f t allowed e finished)
