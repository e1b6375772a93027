-- The operation of an actor behind a line, and where no command is due.
use Rattle.std.proofs.Common.{◌≡◌, ◌⊎◌, inl, inr, ℕ, zero, suc, ◌==◌, Bool, true, false, if◌then◌else◌, Option, Some, None, refl, ap, sym, ◌∙◌, arith, true≢false}
use Rattle.std.specs.Prelude.{option_map, slice_get, unwrap_or}
use Rattle.apdu.specs.Values.{CommandValue}
use Rattle.script_reader.specs.declared.types.Script.{Script}
use Rattle.script_reader.specs.declared.types.Operation.{Operation}
use Rattle.report.specs.declared.answer.Answer.{Answer}
use Rattle.report.specs.declared.line.Line.{Line}
use Rattle.report.specs.declared.line.Line.TheVariants as line
use Rattle.editor.specs.declared.editing.Attempt.{Attempt}
use Rattle.rules.specs.declared.due.Due.{Due}
use Rattle.rules.specs.declared.due.Due.TheVariants.{TellEnd as tell_end, Send as send}
use Rattle.rules.specs.declared.kept.Begun.{Begun}
use Rattle.rules.specs.declared.kept.Facts.{Facts}
use Rattle.rules.specs.declared.kept.Job.{Job}
use Rattle.rules.specs.declared.kept.Kept.{Kept}
use Rattle.rules.specs.Kept.{first_job, job_of, begun_of, begun_operation, operation_at, operation_now}
use Rattle.rules.specs.Due.{due, due_by_end, due_by_command, due_command}
use Rattle.rules.specs.After.{begun_beside, begun_with, begun_exchanged, begun_failed, edit_of, job_beside, own_job, decision_at, facts_of, kept_after}
use Rattle.performed.proofs.TurnsJobs.{is_own, behind_job, job_behind}

abbrev index_of : Begun → ℕ
index_of b = b.index

abbrev begun_index : Job → Option ℕ
begun_index job = option_map index_of job.begun

abbrev op_at : Script → ℕ → Option ℕ → Option Operation
op_at s a None = None
op_at s a (Some i) = operation_at s a i

now_by : (s : Script) (a : ℕ) (o : Option Begun) → begun_operation s a o ≡ op_at s a (option_map index_of o)
now_by s a None = refl
now_by s a (Some b) = refl

now_at : (s : Script) (a : ℕ) (k : Kept) → operation_now s a k.jobs ≡ op_at s a (begun_index (job_of a k.jobs))
now_at s a k = now_by s a (begun_of a k.jobs)

-- the line neither begins nor answers an operation
abbrev pub keeps_begun : Line → Bool
keeps_begun (line.Begin a i) = false
keeps_begun (line.Answered a i given) = false
keeps_begun l = true

index_map : (f : Begun → Begun) → ((b : Begun) → (f b).index ≡ b.index) → (o : Option Begun) → option_map index_of (option_map f o) ≡ option_map index_of o
index_map f h None = refl
index_map f h (Some b) = ap (λ (n : ℕ). Some n) (h b)

module _ (s : Script) (k : Kept) where
  own_index : (l : Line) (facts : Facts) (attempt : Option Attempt) (x : Job) → keeps_begun l ≡ true → begun_index (own_job s l k facts attempt x) ≡ begun_index x
  own_index (line.Turn zero) facts attempt x h = refl
  own_index (line.Turn (suc a)) facts attempt x h = index_map (begun_with attempt) (λ b. refl) x.begun
  own_index (line.Exchange a c r) facts attempt x h = index_map (begun_exchanged (edit_of (operation_now s a k.jobs)) k.selected k.chain facts.event c r) (λ b. refl) x.begun
  own_index (line.Failed a c d) facts attempt x h = index_map (begun_failed (edit_of (operation_now s a k.jobs)) k.selected k.chain facts.event c) (λ b. refl) x.begun
  own_index (line.Begin a i) facts attempt x h = absurd (true≢false (sym h))
  own_index (line.Answered a i given) facts attempt x h = absurd (true≢false (sym h))
  own_index (line.Reset a) facts attempt x h = refl
  own_index (line.ResetFailed a) facts attempt x h = refl
  own_index (line.World a e) facts attempt x h = refl
  own_index (line.Published n f e v text) facts attempt x h = refl
  own_index (line.EpochEnd n e v) facts attempt x h = refl
  own_index (line.Refused f n) facts attempt x h = refl

  near_index : (l : Line) (facts : Facts) (x : Job) → begun_index (job_beside l k.history.epoch facts k.selected x) ≡ begun_index x
  near_index l facts x = index_map (begun_beside l k.history.epoch facts) (λ b. refl) x.begun

  either : (b : Bool) (x y z : Job) → begun_index y ≡ begun_index x → begun_index z ≡ begun_index x → begun_index (if b then y else z) ≡ begun_index x
  either true x y z h g = h
  either false x y z h g = g

  place_index : (l : Line) (i : ℕ) (o : Option Job) → keeps_begun l ≡ true → begun_index (unwrap_or (option_map (behind_job s l k i) o) first_job) ≡ begun_index (unwrap_or o first_job)
  place_index l i None h = refl
  place_index l i (Some x) h =
      let n = near_index l (facts_of s l k) x in
      let near : Job = job_beside l k.history.epoch (facts_of s l k) k.selected x in
      either (is_own i l) x (own_job s l k (facts_of s l k) (decision_at s l k).attempt near) near (own_index l (facts_of s l k) (decision_at s l k).attempt near h ∙ n) n

  pub same_operation : (l : Line) (i : ℕ) → keeps_begun l ≡ true → operation_now s i (kept_after s l k).jobs ≡ operation_now s i k.jobs
  same_operation l i h =
      now_at s i (kept_after s l k)
      ∙ ap (op_at s i) (ap (λ (o : Option Job). begun_index (unwrap_or o first_job)) (job_behind s l k i) ∙ place_index l i (slice_get k.jobs i) h)
      ∙ sym (now_at s i k)

  -- one that begins is its actor's
  self : (n : ℕ) → (n == n) ≡ true
  self n = grind arith

  begin_job : (a i : ℕ) (b : Bool) (x : Job) → b ≡ true → begun_index (if b then own_job s (line.Begin a i) k (facts_of s (line.Begin a i) k) (decision_at s (line.Begin a i) k).attempt x else x) ≡ Some i
  begin_job a i true x e = refl
  begin_job a i false x e = absurd (true≢false (sym e))

  begin_place : (a i : ℕ) (o : Option Job) → (begun_index (unwrap_or (option_map (behind_job s (line.Begin a i) k a) o) first_job) ≡ Some i) ⊎ (begun_index (unwrap_or (option_map (behind_job s (line.Begin a i) k a) o) first_job) ≡ None)
  begin_place a i None = inr refl
  begin_place a i (Some x) = inl (begin_job a i (a == a) (job_beside (line.Begin a i) k.history.epoch (facts_of s (line.Begin a i) k) k.selected x) (self a))

  pub begun_now : (a i : ℕ) → (operation_now s a (kept_after s (line.Begin a i) k).jobs ≡ operation_at s a i) ⊎ (operation_now s a (kept_after s (line.Begin a i) k).jobs ≡ None)
  begun_now a i =
      let k' : Kept = kept_after s (line.Begin a i) k in
      let e = now_at s a k' ∙ ap (λ (o : Option Job). op_at s a (begun_index (unwrap_or o first_job))) (job_behind s (line.Begin a i) k a) in
      elim (begin_place a i (slice_get k.jobs a)) [
        | inl q ↦ inl (e ∙ ap (op_at s a) q)
        | inr q ↦ inr (e ∙ ap (op_at s a) q)
      ]

  -- one that is answered is no more
  answer_job : (a i : ℕ) (given : Answer) (b : Bool) (x : Job) → b ≡ true → begun_index (if b then own_job s (line.Answered a i given) k (facts_of s (line.Answered a i given) k) (decision_at s (line.Answered a i given) k).attempt x else x) ≡ None
  answer_job a i given true x e = refl
  answer_job a i given false x e = absurd (true≢false (sym e))

  answer_place : (a i : ℕ) (given : Answer) (o : Option Job) → begun_index (unwrap_or (option_map (behind_job s (line.Answered a i given) k a) o) first_job) ≡ None
  answer_place a i given None = refl
  answer_place a i given (Some x) = answer_job a i given (a == a) (job_beside (line.Answered a i given) k.history.epoch (facts_of s (line.Answered a i given) k) k.selected x) (self a)

  pub answered_now : (a i : ℕ) (given : Answer) → operation_now s a (kept_after s (line.Answered a i given) k).jobs ≡ None
  answered_now a i given =
      now_at s a (kept_after s (line.Answered a i given) k)
      ∙ ap (λ (o : Option Job). op_at s a (begun_index (unwrap_or o first_job))) (job_behind s (line.Answered a i given) k a)
      ∙ ap (op_at s a) (answer_place a i given (slice_get k.jobs a))

  -- ---- no command is due

  abbrev pub comes_first : Due → Bool
  comes_first (tell_end epoch event) = true
  comes_first (send c) = true
  comes_first d = false

  unsent_by : (o : Option CommandValue) (p : Option (ℕ × ℕ)) → due_command k ≡ o → k.turn.ended ≡ p → comes_first (due s k) ≡ false → o ≡ None
  unsent_by None p e t h = refl
  unsent_by (Some c) None e t h = absurd (true≢false (sym (ap comes_first (ap (due_by_end s k) t ∙ ap (due_by_command s k) e)) ∙ h))
  unsent_by (Some c) (Some (epoch, event)) e t h = absurd (true≢false (sym (ap comes_first (ap (due_by_end s k) t)) ∙ h))

  pub unsent : comes_first (due s k) ≡ false → due_command k ≡ None
  unsent h = unsent_by (due_command k) k.turn.ended refl refl h
