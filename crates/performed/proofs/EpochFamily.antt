-- The turn of an edit publishes no family but that of the edit.
use Rattle.std.proofs.Common.{◌≡◌, inl, inr, ℕ, zero, suc, Bool, true, false, if◌then◌else◌, Option, Some, None, List, [], ◌∷◌, refl, sym, ap, ◌∙◌, true≢false}
use Rattle.std.proofs.lemmas.Bool.{and_parts, eq-eqb}
use Rattle.script_reader.specs.declared.types.Script.{Script}
use Rattle.script_reader.specs.declared.types.Operation.{Operation}
use Rattle.script_reader.specs.declared.types.Operation.TheVariants as operation
use Rattle.report.specs.declared.line.Line.{Line}
use Rattle.report.specs.declared.line.Line.TheVariants as line
use Rattle.loader.specs.declared.reading.RefusedReading.{RefusedReading}
use Rattle.adn.specs.declared.edit.Edit.{Edit}
use Rattle.rules.specs.declared.kept.Begun.{Begun}
use Rattle.rules.specs.declared.kept.Facts.{Facts}
use Rattle.rules.specs.declared.kept.Kept.{Kept}
use Rattle.rules.specs.History.{lives_in}
use Rattle.rules.specs.Channels.{held_numbers}
use Rattle.rules.specs.Editing.{family_edit}
use Rattle.rules.specs.Kept.{begun_of, begun_operation, job_of, operation_at, operation_now}
use Rattle.rules.specs.Work.{family_of_edit, family_of_operation, is_edit_over}
use Rattle.rules.specs.After.{edit_of, facts_of, family_of_begun, fresh_begun, jobs_beside, kept_after, kept_of, refused_of}
use Rattle.performed.specs.Followed.{are_followed, is_followed}
use Rattle.performed.proofs.CalmLines.{exchanged_actor}
use Rattle.performed.proofs.EditsBegun.{Came, came, stays, marks, begins, exchanges, fails}
use Rattle.performed.proofs.TurnsSays.{begins_now}
use Rattle.performed.proofs.WantedFamilies.{exchanged_family}

-- ---- the operation that an actor has begun was so before the line

abbrev pub is_begin : Line → Bool
is_begin (line.Begin a n) = true
is_begin l = false

pub record IsOld (k : Kept) (i : ℕ) (now : Begun) : Type 0 where
  pub old : Begun
  pub here : begun_of i k.jobs ≡ Some old
  pub index : now.index ≡ old.index

pub old_by : (s : Script) (l : Line) (k : Kept) (i : ℕ) (now : Begun) → is_begin l ≡ false → Came s l k i now → IsOld k i now
old_by s l k i now none (stays b here other is) = record { old = b; here = here; index = ap (λ (x : Begun). x.index) is }
old_by s l k i now none (marks a b own e here is) = record { old = b; here = here; index = ap (λ (x : Begun). x.index) is }
old_by s l k i now none (begins a n own e is) = absurd (true≢false (sym (ap is_begin e) ∙ none))
old_by s l k i now none (exchanges a c r b own e here is) = record { old = b; here = here; index = ap (λ (x : Begun). x.index) is }
old_by s l k i now none (fails a c d b own e here is) = record { old = b; here = here; index = ap (λ (x : Begun). x.index) is }

-- ---- what is published for an operation

pub one_pair : (p q : ℕ × Edit) → Some p ≡ Some q → p ≡ q
one_pair p q h = cc

edit_family : (b : Begun) (q : Option (ℕ × Edit)) (f g : ℕ) (e : Edit) → q ≡ Some (g, e) → family_of_edit b q ≡ Some f → f ≡ g
edit_family b None f g e is h = absurd (cc)
edit_family b (Some (f0, e0)) f g e is h = by_over (is_edit_over b.editing) h
  where
    by_over : (x : Bool) → (if x then Some f0 else None) ≡ Some f → f ≡ g
    by_over true q =
        let same : f0 ≡ f = cc in
        sym same ∙ ap (λ (x : ℕ × Edit). x.0) (one_pair (f0, e0) (g, e) is)
    by_over false q = absurd (cc)

operation_family : (b : Begun) (op : Operation) (f g : ℕ) (e : Edit) → family_edit op ≡ Some (g, e) → family_of_operation b op ≡ Some f → f ≡ g
operation_family b (operation.Set x at name number) f g e is h = edit_family b (family_edit (operation.Set x at name number)) f g e is h
operation_family b (operation.Clear x at) f g e is h = edit_family b (family_edit (operation.Clear x at)) f g e is h
operation_family b (operation.Insert card) f g e is h = absurd (cc)
operation_family b operation.Out f g e is h = absurd (cc)
operation_family b (operation.Arm change) f g e is h = absurd (cc)
operation_family b (operation.Load x) f g e is h = absurd (cc)
operation_family b (operation.OpenChannel handle aid) f g e is h = absurd (cc)
operation_family b (operation.Raw handle apdu) f g e is h = absurd (cc)
operation_family b (operation.Close handle) f g e is h = absurd (cc)
operation_family b (operation.Verify key pin) f g e is h = absurd (cc)
operation_family b operation.Poll f g e is h = absurd (cc)
operation_family b (operation.End key) f g e is h = absurd (cc)
operation_family b operation.Look f g e is h = absurd (cc)
operation_family b (operation.Watch mask) f g e is h = absurd (cc)
operation_family b operation.Notices f g e is h = absurd (cc)

begun_family : (k : Kept) (b : Begun) (o : Option Operation) (f g : ℕ) (e : Edit) → edit_of o ≡ Some (g, e) → family_of_begun k (Some b) o ≡ Some f → f ≡ g
begun_family k b None f g e is h = absurd (cc)
begun_family k b (Some op) f g e is h = by_lives (lives_in k.history b.epoch) h
  where
    by_lives : (x : Bool) → (if x then family_of_operation b op else None) ≡ Some f → f ≡ g
    by_lives true q = operation_family b op f g e is q
    by_lives false q = absurd (cc)

-- ---- every line

abbrev pub TurnEdits : Script → Kept → Type 0
TurnEdits s k = (i f g : ℕ) (b : Begun) (e : Edit) → k.turn.actor ≡ Some i → k.turn.family ≡ Some f → begun_of i k.jobs ≡ Some b → edit_of (operation_at s i b.index) ≡ Some (g, e) → f ≡ g

module _ (s : Script) (k : Kept) (t : TurnEdits s k) where
  -- the turn goes on
  goes_on : (l : Line) → is_begin l ≡ false → (kept_after s l k).turn.actor ≡ k.turn.actor → (kept_after s l k).turn.family ≡ k.turn.family → TurnEdits s (kept_after s l k)
  goes_on l none actor family i f g b e who what here op =
      let old = old_by s l k i b none (came s l k i b here) in
      t i f g old.old e (sym actor ∙ who) (sym family ∙ what) old.here (ap (λ (n : ℕ). edit_of (operation_at s i n)) (sym old.index) ∙ op)

  marked : (a : ℕ) → TurnEdits s (kept_after s (line.Turn a) k)
  marked zero i f g b e who what here op = absurd (let same : 0 ≡ i = cc in let none : edit_of (operation_at s 0 b.index) ≡ Some (g, e) = ap (λ (j : ℕ). edit_of (operation_at s j b.index)) same ∙ op in cc)
  marked (suc a) i f g b e who what here op =
      let same : suc a ≡ i = cc in
      let l : Line = line.Turn (suc a) in
      let old = old_by s l k i b refl (came s l k i b here) in
      let begun : begun_of (suc a) k.jobs ≡ Some old.old = ap (λ (j : ℕ). begun_of j k.jobs) same ∙ old.here in
      let at : operation_at s (suc a) old.old.index ≡ operation_at s i b.index = ap (λ (j : ℕ). operation_at s j old.old.index) same ∙ ap (operation_at s i) (sym old.index) in
      begun_family k old.old (operation_at s (suc a) old.old.index) f g e (ap edit_of at ∙ op)
      (sym (ap (λ (o : Option Begun). family_of_begun k o (begun_operation s (suc a) o)) begun) ∙ what)

  began : (a n : ℕ) → is_followed s k (line.Begin a n) ≡ true → TurnEdits s (kept_after s (line.Begin a n) k)
  began a n h i f g b e who what here op =
      let x = begins_now s k a n h in
      let turn : Some a ≡ Some i = ap (λ (j : ℕ). Some j) x.same ∙ sym x.begins.turn ∙ who in
      let same : a ≡ i = cc in
      by_came same (came s (line.Begin a n) k i b here)
    where
      by_came : a ≡ i → Came s (line.Begin a n) k i b → f ≡ g
      by_came same (begins a0 n0 own is become) =
          let number : n ≡ n0 = cc in
          let at : operation_at s a n ≡ operation_at s i b.index = ap (λ (j : ℕ). operation_at s j n) same ∙ ap (operation_at s i) (number ∙ sym (ap (λ (y : Begun). y.index) become)) in
          begun_family k (fresh_begun n k.history) (operation_at s a n) f g e (ap edit_of at ∙ op) what
      by_came same (stays old there (inl other) is) = absurd (true≢false (sym (eq-eqb a i same) ∙ other))
      by_came same (stays old there (inr mark) is) = absurd (cc)
      by_came same (marks a0 old own is there become) = absurd (cc)
      by_came same (exchanges a0 c r old own is there become) = absurd (cc)
      by_came same (fails a0 c d old own is there become) = absurd (cc)

  line_edits : (l : Line) → is_followed s k l ≡ true → TurnEdits s (kept_after s l k)
  line_edits (line.Turn a) h = marked a
  line_edits (line.Begin a n) h = began a n h
  line_edits (line.Exchange a c r) h =
      let l : Line = line.Exchange a c r in
      let facts : Facts = facts_of s l k in
      let refused : Option RefusedReading = refused_of k.selected (jobs_beside l k.history.epoch facts k.selected k.jobs) facts.answered in
      goes_on l refl
      (exchanged_actor (operation_now s a k.jobs) (job_of a (kept_after s l k).jobs) (held_numbers k.history k.handles) facts refused k.turn facts.answered)
      (exchanged_family (operation_now s a k.jobs) (job_of a (kept_after s l k).jobs) (held_numbers k.history k.handles) facts refused k.turn facts.answered refl)
  line_edits (line.Failed a c d) h = goes_on (line.Failed a c d) refl refl refl
  line_edits (line.Reset a) h = goes_on (line.Reset a) refl refl refl
  line_edits (line.ResetFailed a) h = goes_on (line.ResetFailed a) refl refl refl
  line_edits (line.World a e) h = goes_on (line.World a e) refl refl refl
  line_edits (line.Published n f e v text) h = goes_on (line.Published n f e v text) refl refl refl
  line_edits (line.EpochEnd n e v) h = goes_on (line.EpochEnd n e v) refl refl refl
  line_edits (line.Refused f n) h = goes_on (line.Refused f n) refl refl refl
  line_edits (line.Answered a n given) h = λ i f g b e who what here op. absurd (cc)

pub turn_edits : (s : Script) (lines : List Line) → are_followed s lines ≡ true → TurnEdits s (kept_of s lines)
turn_edits s [] h = λ i f g b e who what here op. absurd (cc)
turn_edits s (l ∷ earlier) h =
    let p = and_parts (are_followed s earlier) (is_followed s (kept_of s earlier) l) h in
    line_edits s (kept_of s earlier) (turn_edits s earlier p.0) l p.1
