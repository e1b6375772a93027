-- The rows that an edit leaves marked are those that were made ready, while no event came.
use Rattle.std.proofs.Common.{◌≡◌, ◌≤◌, ◌<◌, ◌+◌, ◌==◌, ◌&&◌, ◌⊎◌, inl, inr, ℕ, zero, suc, Bool, true, false, nat_lt, if◌then◌else◌, List, [], ◌∷◌, Option, Some, None, IfSome, is_some, refl, sym, ap, ◌∙◌, subst, true≢false, arith, eq-eqb, ltb-true, ltb-false}
use Rattle.std.specs.Prelude.{option_map, slice_get, unwrap_or}
use Rattle.std.proofs.lemmas.Bool.{and_parts}
use Rattle.script_reader.specs.declared.types.Script.{Script}
use Rattle.script_reader.specs.declared.types.Operation.{Operation}
use Rattle.script_reader.specs.declared.types.Operation.TheVariants as operation
use Rattle.adn.specs.declared.edit.Edit.{Edit}
use Rattle.adn.specs.declared.edit.Edit.TheVariants as edit
use Rattle.report.specs.declared.line.Line.{Line}
use Rattle.report.specs.declared.line.Line.TheVariants as line
use Rattle.epoch_cache.specs.Past.{counted}
use Rattle.epoch_cache.specs.declared.cached.Touch.{Touch}
use Rattle.epoch_cache.specs.declared.cached.Written.TheVariants as written
use Rattle.epoch_cache.specs.Cache.{moves_one}
use Rattle.editor.specs.declared.editing.Attempt.{Attempt}
use Rattle.editor.specs.declared.editing.Decided.{Decided}
use Rattle.editor.specs.declared.editing.Editing.{Editing}
use Rattle.editor.specs.Editing.{attempt_behind, left_rows, moved_attempt, moved_editing, with_attempt}
use Rattle.rules.specs.declared.due.Due.{Due}
use Rattle.rules.specs.declared.due.Due.TheVariants.{Give as give}
use Rattle.rules.specs.declared.kept.Begun.{Begun}
use Rattle.rules.specs.declared.kept.Decision.{Decision}
use Rattle.rules.specs.declared.kept.Job.{Job}
use Rattle.rules.specs.declared.kept.Kept.{Kept}
use Rattle.rules.specs.declared.kept.Work.TheVariants.{Rests as rests}
use Rattle.rules.specs.Kept.{begun_of, first_job, job_of, operation_now}
use Rattle.rules.specs.History.{is_event, lives_in}
use Rattle.rules.specs.After.{begun_beside, begun_with, decision_at, decision_of_begun, facts_of, fresh_begun, is_mark, job_beside, kept_after, own_job}
use Rattle.rules.specs.Due.{due}
use Rattle.rules.specs.Rules.{is_turn_of}
use Rattle.rules.specs.Performed.{begins_as, is_end_told, is_published, is_refusal_told}
use Rattle.rules.specs.Work.{decides, edit_work, work_of_operation}
use Rattle.planner.specs.Room.{AreLeft, is_decided, is_given}
use Rattle.tracker.specs.Lines.{is_answered}
use Rattle.performed.specs.Followed.{is_followed}
use Rattle.performed.proofs.TurnsPhase.{some_number}
use Rattle.performed.proofs.TurnsJobs.{behind_job, is_own, job_behind}
use Rattle.performed.proofs.TurnsKept.{goes_on}
use Rattle.hub.specs.Settled.{HasLeft}
use Rattle.hub.proofs.Refusals.{same_actor}

-- the rows that it leaves marked, where it is decided
left_value : Option Begun → Option (List ℕ)
left_value None = None
left_value (Some b) = option_map (left_rows b.editing) b.editing.decided

Fits : Option (List ℕ) → Option (List ℕ) → Type 0
Fits ready value = IfSome ready (λ rows. IfSome value (λ left. rows ≡ left))

ready_fits : (o : Option Begun) (ready : Option (List ℕ)) → AreLeft o ready → Fits ready (left_value o)
unfolding left_value Fits
ready_fits None None h = tt
ready_fits None (Some rows) h = tt
ready_fits (Some b) None h = tt
ready_fits (Some b) (Some rows) h = by b.editing.decided h
  where
    by : (d : Option Decided) → IfSome d (λ x. rows ≡ left_rows b.editing x) → IfSome (option_map (left_rows b.editing) d) (λ left. rows ≡ left)
    by None g = tt
    by (Some d) g = g

fits_ready : (o : Option Begun) (ready : Option (List ℕ)) → Fits ready (left_value o) → AreLeft o ready
unfolding left_value Fits
fits_ready None ready h = tt
fits_ready (Some b) None h = tt
fits_ready (Some b) (Some rows) h = by b.editing.decided h
  where
    by : (d : Option Decided) → IfSome (option_map (left_rows b.editing) d) (λ left. rows ≡ left) → IfSome d (λ x. rows ≡ left_rows b.editing x)
    by None g = tt
    by (Some d) g = g

decided_value : (o : Option Begun) → is_decided o ≡ is_some (left_value o)
unfolding left_value
decided_value None = refl
decided_value (Some b) = by b.editing.decided
  where
    by : (d : Option Decided) → is_some d ≡ is_some (option_map (left_rows b.editing) d)
    by None = refl
    by (Some d) = refl

-- the same rows, or the edit is over
Same : Option Begun → Option Begun → Type 0
Same old new = (left_value new ≡ left_value old) ⊎ (left_value new ≡ None)

fits_on : (ready value value2 : Option (List ℕ)) → (value2 ≡ value) ⊎ (value2 ≡ None) → Fits ready value → Fits ready value2
unfolding Fits
fits_on ready value value2 (inl same) h = subst (λ v. IfSome ready (λ rows. IfSome v (λ left. rows ≡ left))) (sym same) h
fits_on None value value2 (inr none) h = tt
fits_on (Some rows) value value2 (inr none) h = subst (λ v. IfSome v (λ left. rows ≡ left)) (sym none) tt

left_on : (old new : Option Begun) (ready : Option (List ℕ)) → Same old new → AreLeft old ready → AreLeft new ready
unfolding Same
left_on old new ready same h = fits_ready new ready (fits_on ready (left_value old) (left_value new) same (ready_fits old ready h))

decided_on : (old new : Option Begun) → Same old new → is_decided new ≡ true → is_decided old ≡ true
unfolding Same
decided_on old new (inl same) h = decided_value old ∙ ap is_some (sym same) ∙ sym (decided_value new) ∙ h
decided_on old new (inr none) h = absurd (true≢false (sym h ∙ decided_value new ∙ ap is_some none))

-- ---- where nothing moves

quiet_touch : Touch
quiet_touch = record { begins = false; written = written.Nothing; refresh = None }

moves_none : (paths : List (List ℕ)) → moves_one quiet_touch paths ≡ false
unfolding quiet_touch
moves_none [] = refl
moves_none (p ∷ paths) = moves_none paths

still_attempt : (d : Option Decided) (a : Option Attempt) → attempt_behind quiet_touch d a ≡ a
still_attempt d None = refl
still_attempt d (Some a) = ap (λ (b : Bool). let x : Option Attempt = (if b then moved_attempt d a else Some a) in x) (moves_none a.paths)

rows_with : Editing → Option Attempt → Decided → List ℕ
rows_with e a d = left_rows (record e { attempt = a }) d

beside_value : (l : Line) (s : Script) (k : Kept) (o : Option Begun) → (facts_of s l k).touch ≡ quiet_touch → left_value (option_map (begun_beside l k.history.epoch (facts_of s l k)) o) ≡ left_value o
unfolding left_value
beside_value l s k None e = refl
beside_value l s k (Some b) e =
    ap (λ (t : Touch). option_map (left_rows (moved_editing t b.editing)) b.editing.decided) e
    ∙ ap (λ (a : Option Attempt). option_map (left_rows (record b.editing { attempt = a })) b.editing.decided) (still_attempt b.editing.decided b.editing.attempt)

fresh_value : (a : Option Attempt) (b : Begun) → b.editing.decided ≡ None → left_value (Some (begun_with a b)) ≡ None
unfolding left_value
fresh_value None b e = ap (option_map (left_rows b.editing)) e
fresh_value (Some a) b e = ap (option_map (left_rows (with_attempt (Some a) b.editing))) e

-- ---- one job

module _ (s : Script) (k : Kept) (i : ℕ) (x : Job) where
  quiet_job : (l : Line) → is_event l ≡ false → is_mark l ≡ false → (own : Bool) → Same x.begun (let j : Job = (if own then own_job s l k (facts_of s l k) (decision_at s l k).attempt (job_beside l k.history.epoch (facts_of s l k) k.selected x) else job_beside l k.history.epoch (facts_of s l k) k.selected x) in j).begun
  unfolding Same quiet_touch left_value
  quiet_job (line.Turn a) e m own = absurd (true≢false m)
  quiet_job (line.Begin a n) e m true = inr (fresh_value (decision_at s (line.Begin a n) k).attempt (fresh_begun n k.history) refl)
  quiet_job (line.Begin a n) e m false = inl (beside_value (line.Begin a n) s k x.begun refl)
  quiet_job (line.Exchange a c r) e m own = absurd (true≢false e)
  quiet_job (line.Failed a c d) e m own = absurd (true≢false e)
  quiet_job (line.Reset a) e m own = absurd (true≢false e)
  quiet_job (line.ResetFailed a) e m own = absurd (true≢false e)
  quiet_job (line.World a event) e m own = absurd (true≢false e)
  quiet_job (line.Published n f h v text) e m true = inl (beside_value (line.Published n f h v text) s k x.begun refl)
  quiet_job (line.Published n f h v text) e m false = inl (beside_value (line.Published n f h v text) s k x.begun refl)
  quiet_job (line.EpochEnd n h v) e m true = inl (beside_value (line.EpochEnd n h v) s k x.begun refl)
  quiet_job (line.EpochEnd n h v) e m false = inl (beside_value (line.EpochEnd n h v) s k x.begun refl)
  quiet_job (line.Refused f n) e m true = inl (beside_value (line.Refused f n) s k x.begun refl)
  quiet_job (line.Refused f n) e m false = inl (beside_value (line.Refused f n) s k x.begun refl)
  quiet_job (line.Answered a n given) e m true = inr (over refl)
    where
      over : left_value None ≡ None → left_value None ≡ None
      over h = h
  quiet_job (line.Answered a n given) e m false = inl (beside_value (line.Answered a n given) s k x.begun refl)

-- ---- a mark

decided_work_of : (k : Kept) (a : ℕ) (b : Begun) (f : ℕ) (ed : Edit) (lives : Bool) (d : Option Decided) → is_some d ≡ true → b.editing.decided ≡ d → (let r : Decision = elim lives [ true ↦ edit_work k a f ed b.editing | false ↦ decides rests ] in r).attempt ≡ None
decided_work_of k a b f ed false d some e = refl
decided_work_of k a b f ed true None some e = absurd (true≢false (sym some))
decided_work_of k a b f ed true (Some d) some e = by b.editing.decided e
  where
    by : (o : Option Decided) → o ≡ Some d → (let r : Decision = edit_work k a f ed (record b.editing { decided = o }) in r).attempt ≡ None
    by None g = absurd (cc)
    by (Some x) g = refl

no_attempt : (k : Kept) (a : ℕ) (b : Begun) (op : Operation) → is_some b.editing.decided ≡ true → (work_of_operation k a b op).attempt ≡ None
no_attempt k a b (operation.Insert card) h = refl
no_attempt k a b operation.Out h = refl
no_attempt k a b (operation.Arm change) h = refl
no_attempt k a b (operation.Load f) h = refl
no_attempt k a b (operation.Set f at name number) h = decided_work_of k a b f (edit.Set at (record { name = name; number = number })) (lives_in k.history b.epoch) b.editing.decided h refl
no_attempt k a b (operation.Clear f at) h = decided_work_of k a b f (edit.Clear at) (lives_in k.history b.epoch) b.editing.decided h refl
no_attempt k a b (operation.OpenChannel handle aid) h = refl
no_attempt k a b (operation.Raw handle apdu) h = refl
no_attempt k a b (operation.Close handle) h = refl
no_attempt k a b (operation.Verify key pin) h = refl
no_attempt k a b (operation.End key) h = refl
no_attempt k a b operation.Poll h = refl
no_attempt k a b operation.Look h = refl
no_attempt k a b (operation.Watch mask) h = refl
no_attempt k a b operation.Notices h = refl

decides_none : (k : Kept) (a : ℕ) (b : Begun) (op : Option Operation) → is_some b.editing.decided ≡ true → (decision_of_begun k a (Some b) op).attempt ≡ None
decides_none k a b None h = refl
decides_none k a b (Some op) h = no_attempt k a b op h

marked_value : (att : Option Attempt) (o : Option Begun) → ((b : Begun) → o ≡ Some b → is_some b.editing.decided ≡ true → att ≡ None) → Same o (option_map (begun_with att) o)
unfolding Same left_value
marked_value att None h = inl refl
marked_value att (Some b) h = by b.editing.decided refl
  where
    by : (d : Option Decided) → b.editing.decided ≡ d → (left_value (Some (begun_with att b)) ≡ left_value (Some b)) ⊎ (left_value (Some (begun_with att b)) ≡ None)
    by None e = inr (fresh_value att b e)
    by (Some d) e = inl (ap (λ (a : Option Attempt). left_value (Some (begun_with a b))) (h b refl (ap is_some e)))

then_same : (a b c : Option Begun) → left_value b ≡ left_value a → Same b c → Same a c
unfolding Same
then_same a b c e (inl same) = inl (same ∙ e)
then_same a b c e (inr none) = inr none

beside_decided : (l : Line) (s : Script) (k : Kept) (o : Option Begun) (b : Begun) → option_map (begun_beside l k.history.epoch (facts_of s l k)) o ≡ Some b → is_some b.editing.decided ≡ true → (c : Begun) → o ≡ Some c → is_some c.editing.decided ≡ true
beside_decided l s k o b e h c is =
    let now : begun_beside l k.history.epoch (facts_of s l k) c ≡ b = let x : Some (begun_beside l k.history.epoch (facts_of s l k) c) ≡ Some b = sym (ap (option_map (begun_beside l k.history.epoch (facts_of s l k))) is) ∙ e in cc in
    ap (λ (y : Begun). is_some y.editing.decided) now ∙ h

module _ (s : Script) (k : Kept) (a : ℕ) where
  mark_own : (i : ℕ) (x : Job) → begun_of (suc i) k.jobs ≡ x.begun → (o : Option Begun) → x.begun ≡ o
      → (b : Begun) → option_map (begun_beside (line.Turn (suc i)) k.history.epoch (facts_of s (line.Turn (suc i)) k)) o ≡ Some b → is_some b.editing.decided ≡ true → (decision_at s (line.Turn (suc i)) k).attempt ≡ None
  mark_own i x here None is b e h = absurd (cc)
  mark_own i x here (Some c) is b e h =
      ap (λ (y : Option Begun). (decision_of_begun k (suc i) y (operation_now s (suc i) k.jobs)).attempt) (here ∙ is)
      ∙ decides_none k (suc i) c (operation_now s (suc i) k.jobs) (beside_decided (line.Turn (suc i)) s k (Some c) b e h c refl)

  mark_job : (n : ℕ) (x : Job) → (n ≡ a → begun_of a k.jobs ≡ x.begun) → (own : Bool) → (own ≡ true → n ≡ a) → Same x.begun (let j : Job = (if own then own_job s (line.Turn n) k (facts_of s (line.Turn n) k) (decision_at s (line.Turn n) k).attempt (job_beside (line.Turn n) k.history.epoch (facts_of s (line.Turn n) k) k.selected x) else job_beside (line.Turn n) k.history.epoch (facts_of s (line.Turn n) k) k.selected x) in j).begun
  unfolding Same quiet_touch
  mark_job n x here false own = inl (beside_value (line.Turn n) s k x.begun refl)
  mark_job zero x here true own = inl (beside_value (line.Turn zero) s k x.begun refl)
  mark_job (suc n) x here true own =
      let at : suc n ≡ a = own refl in
      then_same x.begun _ _ (beside_value (line.Turn (suc n)) s k x.begun refl)
      (marked_value (decision_at s (line.Turn (suc n)) k).attempt (option_map (begun_beside (line.Turn (suc n)) k.history.epoch (facts_of s (line.Turn (suc n)) k)) x.begun)
      (mark_own n x (ap (λ (m : ℕ). begun_of m k.jobs) at ∙ here at) x.begun refl))

-- ---- the begun of a place

begun_at : (s : Script) (l : Line) (k : Kept) (i : ℕ) → ((x : Job) → slice_get k.jobs i ≡ Some x → Same x.begun (behind_job s l k i x).begun) → Same (begun_of i k.jobs) (begun_of i (kept_after s l k).jobs)
unfolding Same
begun_at s l k i each = by (slice_get k.jobs i) refl
  where
    job_is : (o : Option Job) → slice_get k.jobs i ≡ o → job_of i (kept_after s l k).jobs ≡ unwrap_or (option_map (behind_job s l k i) o) first_job
    job_is o e = ap (λ (p : Option Job). unwrap_or p first_job) (job_behind s l k i ∙ ap (option_map (behind_job s l k i)) e)

    moved : (x y : Option Begun) (p q : Option Begun) → x ≡ p → y ≡ q → Same p q → Same x y
    moved x y p q e f h = subst (λ z. Same z y) (sym e) (subst (λ z. Same p z) (sym f) h)

    by : (o : Option Job) → slice_get k.jobs i ≡ o → Same (begun_of i k.jobs) (begun_of i (kept_after s l k).jobs)
    by None e = moved _ _ None None (ap (λ (p : Option Job). (unwrap_or p first_job).begun) e) (ap (λ (j : Job). j.begun) (job_is None e)) (inl refl)
    by (Some x) e = moved _ _ x.begun (behind_job s l k i x).begun (ap (λ (p : Option Job). (unwrap_or p first_job).begun) e) (ap (λ (j : Job). j.begun) (job_is (Some x) e)) (each x e)

-- ---- from the mark on

pub left_marked : (s : Script) (k : Kept) (a : ℕ) (ready : Option (List ℕ)) → AreLeft (begun_of a k.jobs) ready → (is_decided (begun_of a k.jobs) ≡ true → is_some ready ≡ true) → HasLeft a k.history.events ready (kept_after s (line.Turn a) k)
left_marked s k a ready rows some =
    let same = begun_at s (line.Turn a) k a (λ x e. mark_job s k a a x (λ n. ap (λ (p : Option Job). (unwrap_or p first_job).begun) e) (a == a) (λ o. refl)) in
    record {
      rows = left_on _ _ ready same rows;
      some = λ h. inl (some (decided_on _ _ same h));
    }

-- ---- a line of the turn

given_none : (s : Script) (k : Kept) (a i : ℕ) (d : Due) → due s k ≡ d → is_given d ≡ true → (is_turn_of a k.turn && begins_as i (due s k)) ≡ true → ⊥
given_none s k a i (give x) h g f = let p = and_parts (is_turn_of a k.turn) (begins_as i (due s k)) f in true≢false (sym p.1 ∙ ap (begins_as i) h)
given_none s k a i d h g f = true≢false (sym g)

given_unpublished : (s : Script) (k : Kept) (n f e v : ℕ) (text : List ℕ) (d : Due) → due s k ≡ d → is_given d ≡ true → is_published k n f e v text (due s k) ≡ true → ⊥
given_unpublished s k n f e v text (give x) h g p = true≢false (sym p ∙ ap (is_published k n f e v text) h)
given_unpublished s k n f e v text d h g p = true≢false (sym g)

given_untold : (s : Script) (k : Kept) (n e v : ℕ) (d : Due) → due s k ≡ d → is_given d ≡ true → is_end_told k n e v (due s k) ≡ true → ⊥
given_untold s k n e v (give x) h g p = true≢false (sym p ∙ ap (is_end_told k n e v) h)
given_untold s k n e v d h g p = true≢false (sym g)

given_unrefused : (s : Script) (k : Kept) (f n : ℕ) (d : Due) → due s k ≡ d → is_given d ≡ true → (is_turn_of 0 k.turn && is_refusal_told f n (due s k)) ≡ true → ⊥
given_unrefused s k f n (give x) h g p = let q = and_parts (is_turn_of 0 k.turn) (is_refusal_told f n (due s k)) p in true≢false (sym q.1 ∙ ap (is_refusal_told f n) h)
given_unrefused s k f n d h g p = true≢false (sym g)

-- what is followed by another line than an answer is no answer
not_given : (s : Script) (k : Kept) (l : Line) → is_event l ≡ false → is_mark l ≡ false → is_answered l ≡ false → is_followed s k l ≡ true → is_given (due s k) ≡ true → ⊥
not_given s k (line.Turn a) e m n f g = true≢false m
not_given s k (line.Begin a i) e m n f g = given_none s k a i (due s k) refl g f
not_given s k (line.Exchange a c r) e m n f g = true≢false e
not_given s k (line.Failed a c w) e m n f g = true≢false e
not_given s k (line.Reset a) e m n f g = true≢false e
not_given s k (line.ResetFailed a) e m n f g = true≢false e
not_given s k (line.World a w) e m n f g = true≢false e
not_given s k (line.Published i h v p text) e m n f g = given_unpublished s k i h v p text (due s k) refl g f
not_given s k (line.EpochEnd i v p) e m n f g = given_untold s k i v p (due s k) refl g f
not_given s k (line.Refused h i) e m n f g = given_unrefused s k h i (due s k) refl g f
not_given s k (line.Answered a i given) e m n f g = true≢false n

none_left : (o : Option Begun) → AreLeft o None
none_left None = tt
none_left (Some b) = tt

-- an answer ends the operation of the turn's actor
answered_over : (s : Script) (k : Kept) (l : Line) (a : ℕ) → k.turn.actor ≡ Some a → is_answered l ≡ true → is_followed s k l ≡ true → begun_of a (kept_after s l k).jobs ≡ None
answered_over s k (line.Answered b i given) a actor n f = over (b == a) refl
  where
    turn : k.turn.actor ≡ Some b
    turn = same_actor k.turn.actor b (and_parts (is_turn_of b k.turn) _ f).0

    at : b ≡ a
    at = some_number b a (sym turn ∙ actor)

    by : (o : Option Job) → (b == a) ≡ true → (unwrap_or (option_map (λ (x : Job). let j : Job = (if b == a then own_job s (line.Answered b i given) k (facts_of s (line.Answered b i given) k) (decision_at s (line.Answered b i given) k).attempt (job_beside (line.Answered b i given) k.history.epoch (facts_of s (line.Answered b i given) k) k.selected x) else job_beside (line.Answered b i given) k.history.epoch (facts_of s (line.Answered b i given) k) k.selected x) in j) o) first_job).begun ≡ None
    by None e = refl
    by (Some x) e = ap (λ (own : Bool). (let j : Job = (if own then own_job s (line.Answered b i given) k (facts_of s (line.Answered b i given) k) (decision_at s (line.Answered b i given) k).attempt (job_beside (line.Answered b i given) k.history.epoch (facts_of s (line.Answered b i given) k) k.selected x) else job_beside (line.Answered b i given) k.history.epoch (facts_of s (line.Answered b i given) k) k.selected x) in j).begun) e

    over : (e : Bool) → (b == a) ≡ e → begun_of a (kept_after s (line.Answered b i given) k).jobs ≡ None
    over true e = ap (λ (p : Option Job). (unwrap_or p first_job).begun) (job_behind s (line.Answered b i given) k a) ∙ by (slice_get k.jobs a) e
    over false e = absurd (true≢false (sym (eq-eqb b a at) ∙ e))
answered_over s k (line.Turn b) a actor n f = absurd (true≢false (sym n))
answered_over s k (line.Begin b i) a actor n f = absurd (true≢false (sym n))
answered_over s k (line.Exchange b c r) a actor n f = absurd (true≢false (sym n))
answered_over s k (line.Failed b c d) a actor n f = absurd (true≢false (sym n))
answered_over s k (line.Reset b) a actor n f = absurd (true≢false (sym n))
answered_over s k (line.ResetFailed b) a actor n f = absurd (true≢false (sym n))
answered_over s k (line.World b e) a actor n f = absurd (true≢false (sym n))
answered_over s k (line.Published m g e v text) a actor n f = absurd (true≢false (sym n))
answered_over s k (line.EpochEnd m e v) a actor n f = absurd (true≢false (sym n))
answered_over s k (line.Refused g m) a actor n f = absurd (true≢false (sym n))

no_event : (s : Script) (l : Line) (k : Kept) (events : ℕ) (b : Bool) → is_event l ≡ b → events ≤ k.history.events → (kept_after s l k).history.events ≤ events → b ≡ false
no_event s l k events false e low high = refl
no_event s l k events true e low high =
    let more : (kept_after s l k).history.events ≡ k.history.events + 1 = ap (λ (x : Bool). counted x k.history.events) e in
    absurd (omega arith)

module _ (s : Script) (k : Kept) (l : Line) (a events : ℕ) (ready ready2 : Option (List ℕ)) (own : is_mark l ≡ false) (follow : is_followed s k l ≡ true) (actor : k.turn.actor ≡ Some a)
    (kept : is_given (due s k) ≡ false → ready2 ≡ ready) (low : events ≤ k.history.events) (h : HasLeft a events ready k) where
  some_on : is_some ready2 ≡ is_some ready → (is_some ready ≡ true) ⊎ (events < k.history.events) → (is_some ready2 ≡ true) ⊎ (events < (kept_after s l k).history.events)
  some_on same (inl there) = inl (same ∙ there)
  some_on same (inr moved) = let on = (goes_on s l k).events in inr (omega arith)

  ungiven : is_event l ≡ false → is_answered l ≡ false → (b : Bool) → is_given (due s k) ≡ b → ready2 ≡ ready
  ungiven e n true g = absurd (not_given s k l e own n follow g)
  ungiven e n false g = kept g

  quiet_left : is_event l ≡ false → (b : Bool) → is_answered l ≡ b → HasLeft a events ready2 (kept_after s l k)
  quiet_left e true n =
      let over = answered_over s k l a actor n follow in
      record {
        rows = subst (λ (o : Option Begun). AreLeft o ready2) (sym over) tt;
        some = λ d. absurd (true≢false (sym d ∙ ap is_decided over));
      }
  quiet_left e false n =
      let stays : ready2 ≡ ready = ungiven e n (is_given (due s k)) refl in
      let same = begun_at s l k a (λ x g. quiet_job s k a x l e own (is_own a l)) in
      record {
        rows = subst (AreLeft (begun_of a (kept_after s l k).jobs)) (sym stays) (left_on _ _ ready same h.rows);
        some = λ d. some_on (ap is_some stays) (h.some (decided_on _ _ same d));
      }

  pub left_step : (b : Bool) → nat_lt events (kept_after s l k).history.events ≡ b → HasLeft a events (if b then None else ready2) (kept_after s l k)
  left_step true e = record { rows = none_left (begun_of a (kept_after s l k).jobs); some = λ d. inr (ltb-true events (kept_after s l k).history.events e) }
  left_step false e =
      let high = ltb-false events (kept_after s l k).history.events e in
      quiet_left (no_event s l k events (is_event l) refl low (omega arith)) (is_answered l) refl
