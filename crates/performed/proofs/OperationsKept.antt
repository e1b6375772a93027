-- The operation that an actor has begun is the same behind each line that begins and answers none.
use Rattle.std.proofs.Common.{◌≡◌, ℕ, zero, suc, Bool, true, false, List, Option, Some, None, refl, sym, ap, ◌∙◌, true≢false}
use Rattle.std.specs.Prelude.{option_map}
use Rattle.script_reader.specs.declared.types.Script.{Script}
use Rattle.report.specs.declared.line.Line.{Line}
use Rattle.report.specs.declared.line.Line.TheVariants as line
use Rattle.rules.specs.declared.kept.Begun.{Begun}
use Rattle.rules.specs.declared.kept.Job.{Job}
use Rattle.rules.specs.declared.kept.Kept.{Kept}
use Rattle.rules.specs.Kept.{job_of, begun_operation, operation_at, operation_now, change_at}
use Rattle.rules.specs.After.{begun_beside, begun_exchanged, begun_failed, begun_with, edit_of, job_beside, jobs_beside, own_job, decision_at, facts_of, kept_after}
use Rattle.performed.proofs.ProgressJobs.{changed, mapped}

index_kept : (s : Script) (a : ℕ) (f : Begun → Begun) → ((b : Begun) → (f b).index ≡ b.index) → (o : Option Begun) → begun_operation s a (option_map f o) ≡ begun_operation s a o
index_kept s a f keeps None = refl
index_kept s a f keeps (Some b) = ap (operation_at s a) (keeps b)

-- it begins and answers none
abbrev pub keeps_operations : Line → Bool
keeps_operations (line.Begin a i) = false
keeps_operations (line.Answered a i given) = false
keeps_operations l = true

module _ (s : Script) (k : Kept) where
  abbrev StaysAt : ℕ → Job → Type 0
  StaysAt i job = begun_operation s i job.begun ≡ operation_now s i k.jobs

  abbrev beside : Line → List Job
  beside l = jobs_beside l k.history.epoch (facts_of s l k) k.selected k.jobs

  abbrev own : Line → Job → Job
  own l = own_job s l k (facts_of s l k) (decision_at s l k).attempt

  beside_stays : (l : Line) (i : ℕ) → StaysAt i (job_of i (beside l))
  beside_stays l i =
      mapped (job_beside l k.history.epoch (facts_of s l k) k.selected) StaysAt StaysAt k.jobs (λ (j : ℕ). refl)
      (λ (j : ℕ) (x : Job) p. index_kept s j (begun_beside l k.history.epoch (facts_of s l k)) (λ b. refl) x.begun ∙ p)
      (λ (j : ℕ) p. p) i

  own_stays : (l : Line) (a : ℕ) → ((x : Job) → begun_operation s a (own l x).begun ≡ begun_operation s a x.begun) → (i : ℕ) → StaysAt i (job_of i (change_at a (own l) (beside l)))
  own_stays l a same i = changed (own l) StaysAt (beside l) a (λ (x : Job) p. same x ∙ p) (beside_stays l) i

  marked_same : (a : ℕ) (x : Job) → begun_operation s a (own (line.Turn a) x).begun ≡ begun_operation s a x.begun
  marked_same zero x = refl
  marked_same (suc a) x = index_kept s (suc a) (begun_with (decision_at s (line.Turn (suc a)) k).attempt) (λ b. refl) x.begun

  pub operation_stays : (l : Line) → keeps_operations l ≡ true → (i : ℕ) → operation_now s i (kept_after s l k).jobs ≡ operation_now s i k.jobs
  operation_stays (line.Turn a) h i = own_stays (line.Turn a) a (marked_same a) i
  operation_stays (line.Exchange a c r) h i = own_stays (line.Exchange a c r) a (λ x. index_kept s a (begun_exchanged (edit_of (operation_now s a k.jobs)) k.selected k.chain (facts_of s (line.Exchange a c r) k).event c r) (λ b. refl) x.begun) i
  operation_stays (line.Failed a c d) h i = own_stays (line.Failed a c d) a (λ x. index_kept s a (begun_failed (edit_of (operation_now s a k.jobs)) k.selected k.chain (facts_of s (line.Failed a c d) k).event c) (λ b. refl) x.begun) i
  operation_stays (line.Reset a) h i = beside_stays (line.Reset a) i
  operation_stays (line.ResetFailed a) h i = beside_stays (line.ResetFailed a) i
  operation_stays (line.World a e) h i = beside_stays (line.World a e) i
  operation_stays (line.Published n f e v text) h i = beside_stays (line.Published n f e v text) i
  operation_stays (line.EpochEnd n e v) h i = beside_stays (line.EpochEnd n e v) i
  operation_stays (line.Refused f n) h i = beside_stays (line.Refused f n) i
  operation_stays (line.Begin a n) h i = absurd (true≢false (sym h))
  operation_stays (line.Answered a n given) h i = absurd (true≢false (sym h))
