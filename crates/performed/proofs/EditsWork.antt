-- The turn of an edit does what edits decide: it reads, writes, or rests, and tries no event.
use Rattle.std.proofs.Common.{◌≡◌, inl, inr, ℕ, zero, suc, true, false, Option, Some, None, List, [], ◌∷◌, refl, sym, ap, ◌∙◌, subst, true≢false}
use Rattle.std.proofs.lemmas.Bool.{and_parts, eq-eqb}
use Rattle.adn.specs.declared.edit.Edit.{Edit}
use Rattle.script_reader.specs.declared.types.Script.{Script}
use Rattle.report.specs.declared.line.Line.{Line}
use Rattle.report.specs.declared.line.Line.TheVariants as line
use Rattle.rules.specs.declared.kept.Begun.{Begun}
use Rattle.rules.specs.declared.kept.Facts.{Facts}
use Rattle.rules.specs.declared.kept.Kept.{Kept}
use Rattle.rules.specs.declared.kept.Stage.{Stage}
use Rattle.rules.specs.declared.kept.Stage.TheVariants.{Fresh as fresh, Next as next, Resetting as resetting, Over as over}
use Rattle.rules.specs.declared.kept.Work.{Work}
use Rattle.rules.specs.Channels.{held_numbers}
use Rattle.rules.specs.Kept.{begun_of, begun_operation, job_of, operation_at, operation_now}
use Rattle.rules.specs.After.{decision_of_begun, edit_of, facts_of, fresh_begun, jobs_beside, refused_of, kept_after, kept_of}
use Rattle.rules.specs.Due.{event_by_stage, event_of, tried_event}
use Rattle.rules.specs.Work.{work_of_operation}
use Rattle.rules.specs.Editing.{family_edit}
use Rattle.script_reader.specs.declared.types.Operation.{Operation}
use Rattle.script_reader.specs.declared.types.Operation.TheVariants as operation
use Rattle.performed.specs.Followed.{is_followed, are_followed}
use Rattle.performed.proofs.CalmLines.{exchanged_actor}
use Rattle.performed.proofs.EditsBegun.{Came, stays, marks, begins, exchanges, fails, came}
use Rattle.performed.proofs.EditsDecides.{OfEdits, work_passes}
use Rattle.performed.proofs.EditsLines.{turn_work}
use Rattle.performed.proofs.EditsScript.{Edits, sets, clears, edits_by, edit_is}
use Rattle.performed.proofs.EpochFamily.{old_by, is_begin}
use Rattle.performed.proofs.TurnsSays.{begins_now}

module _ (P : Work → Type 0) (each : OfEdits P) where
  -- what an edit decides
  begun_works : (k : Kept) (a : ℕ) (b : Begun) (o : Option Operation) (f : ℕ) (e : Edit) → edit_of o ≡ Some (f, e) → P (decision_of_begun k a (Some b) o).work
  begun_works k a b o f e h =
      let x = edit_is o f e h in
      subst (λ (y : Option Operation). P (decision_of_begun k a (Some b) y).work) (sym x.is) (by_op x.op (edits_by x.op f e x.edits))
    where
      by_op : (op : Operation) → Edits op f e → P (work_of_operation k a b op).work
      by_op op (sets at name number is) = subst (λ (y : Operation). P (work_of_operation k a b y).work) (sym is) (work_passes P each k a b (family_edit (operation.Set f at name number)))
      by_op op (clears at is) = subst (λ (y : Operation). P (work_of_operation k a b y).work) (sym is) (work_passes P each k a b (family_edit (operation.Clear f at)))

  -- in the turn of an edit
  abbrev pub EditWorks : Script → Kept → Type 0
  EditWorks s k = (i f : ℕ) (b : Begun) (e : Edit) → k.turn.actor ≡ Some i → begun_of i k.jobs ≡ Some b → edit_of (operation_at s i b.index) ≡ Some (f, e) → P k.turn.work

  module _ (s : Script) (k : Kept) (t : EditWorks s k) where
    -- the turn goes on
    goes_on : (l : Line) → is_begin l ≡ false → (kept_after s l k).turn.actor ≡ k.turn.actor → (kept_after s l k).turn.work ≡ k.turn.work → EditWorks s (kept_after s l k)
    goes_on l none actor work i f b e who here op =
        let old = old_by s l k i b none (came s l k i b here) in
        subst P (sym work) (t i f old.old e (sym actor ∙ who) old.here (ap (λ (n : ℕ). edit_of (operation_at s i n)) (sym old.index) ∙ op))

    marked : (a : ℕ) → EditWorks s (kept_after s (line.Turn a) k)
    marked zero i f b e who here op = absurd (let same : 0 ≡ i = cc in let none : edit_of (operation_at s 0 b.index) ≡ Some (f, e) = ap (λ (j : ℕ). edit_of (operation_at s j b.index)) same ∙ op in cc)
    marked (suc a) i f b e who here op =
        let same : suc a ≡ i = cc in
        let l : Line = line.Turn (suc a) in
        let old = old_by s l k i b refl (came s l k i b here) in
        let begun : begun_of (suc a) k.jobs ≡ Some old.old = ap (λ (j : ℕ). begun_of j k.jobs) same ∙ old.here in
        let at : operation_at s (suc a) old.old.index ≡ operation_at s i b.index = ap (λ (j : ℕ). operation_at s j old.old.index) same ∙ ap (operation_at s i) (sym old.index) in
        subst P (sym (ap (λ (o : Option Begun). (decision_of_begun k (suc a) o (begun_operation s (suc a) o)).work) begun)) (begun_works k (suc a) old.old (operation_at s (suc a) old.old.index) f e (ap edit_of at ∙ op))

    began : (a n : ℕ) → is_followed s k (line.Begin a n) ≡ true → EditWorks s (kept_after s (line.Begin a n) k)
    began a n h i f b e who here op =
        let x = begins_now s k a n h in
        let turn : Some a ≡ Some i = ap (λ (j : ℕ). Some j) x.same ∙ sym x.begins.turn ∙ who in
        let same : a ≡ i = cc in
        by_came same (came s (line.Begin a n) k i b here)
      where
        by_came : a ≡ i → Came s (line.Begin a n) k i b → P (kept_after s (line.Begin a n) k).turn.work
        by_came same (begins a0 n0 mine is become) =
            let number : n ≡ n0 = cc in
            let at : operation_at s a n ≡ operation_at s i b.index = ap (λ (j : ℕ). operation_at s j n) same ∙ ap (operation_at s i) (number ∙ sym (ap (λ (y : Begun). y.index) become)) in
            begun_works k a (fresh_begun n k.history) (operation_at s a n) f e (ap edit_of at ∙ op)
        by_came same (stays old there (inl other) is) = absurd (true≢false (sym (eq-eqb a i same) ∙ other))
        by_came same (stays old there (inr mark) is) = absurd (cc)
        by_came same (marks a0 old mine is there become) = absurd (cc)
        by_came same (exchanges a0 c r old mine is there become) = absurd (cc)
        by_came same (fails a0 c d old mine is there become) = absurd (cc)

    line_works : (l : Line) → is_followed s k l ≡ true → EditWorks s (kept_after s l k)
    line_works (line.Turn a) h = marked a
    line_works (line.Begin a n) h = began a n h
    line_works (line.Exchange a c r) h =
        let l : Line = line.Exchange a c r in
        let facts : Facts = facts_of s l k in
        goes_on l refl
        (exchanged_actor (operation_now s a k.jobs) (job_of a (kept_after s l k).jobs) (held_numbers k.history k.handles) facts (refused_of k.selected (jobs_beside l k.history.epoch facts k.selected k.jobs) facts.answered) k.turn facts.answered)
        (turn_work (operation_now s a k.jobs) (job_of a (kept_after s l k).jobs) (held_numbers k.history k.handles) facts (refused_of k.selected (jobs_beside l k.history.epoch facts k.selected k.jobs) facts.answered) k.turn facts.answered)
    line_works (line.Failed a c d) h = goes_on (line.Failed a c d) refl refl refl
    line_works (line.Reset a) h = goes_on (line.Reset a) refl refl refl
    line_works (line.ResetFailed a) h = goes_on (line.ResetFailed a) refl refl refl
    line_works (line.World a e) h = goes_on (line.World a e) refl refl refl
    line_works (line.Published n f e v text) h = goes_on (line.Published n f e v text) refl refl refl
    line_works (line.EpochEnd n e v) h = goes_on (line.EpochEnd n e v) refl refl refl
    line_works (line.Refused f n) h = goes_on (line.Refused f n) refl refl refl
    line_works (line.Answered a n given) h = goes_on (line.Answered a n given) refl refl refl

  pub edit_works : (s : Script) (lines : List Line) → are_followed s lines ≡ true → EditWorks s (kept_of s lines)
  edit_works s [] h = λ i f b e who here op. absurd (cc)
  edit_works s (l ∷ earlier) h =
      let p = and_parts (are_followed s earlier) (is_followed s (kept_of s earlier) l) h in
      line_works s (kept_of s earlier) (edit_works s earlier p.0) l p.1

-- ---- so it tries no event

tries_none : OfEdits (λ (w : Work). event_of w ≡ None)
tries_none = record { writing = refl; reading = λ path. refl; resting = refl; lacking = λ key. refl; refusing = λ refusal. refl }

none_by : (w : Work) (stage : Stage) → event_of w ≡ None → event_by_stage w stage ≡ None
none_by w fresh h = h
none_by w (next c) h = refl
none_by w resetting h = refl
none_by w over h = refl

pub edit_untried : (s : Script) (lines : List Line) → are_followed s lines ≡ true → (i f : ℕ) (b : Begun) (e : Edit) → (kept_of s lines).turn.actor ≡ Some i → begun_of i (kept_of s lines).jobs ≡ Some b → edit_of (operation_at s i b.index) ≡ Some (f, e) → tried_event (kept_of s lines) ≡ None
edit_untried s lines h i f b e who here op = none_by (kept_of s lines).turn.work (kept_of s lines).turn.stage (edit_works (λ (w : Work). event_of w ≡ None) tries_none s lines h i f b e who here op)
