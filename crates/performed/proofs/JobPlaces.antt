-- Each actor has a place among the jobs, so an operation that begins is the actor's.
use Rattle.std.proofs.Common.{◌≡◌, ℕ, zero, suc, ◌+◌, true, List, [], ◌∷◌, length, Option, Some, None, is_some, refl, sym, ap, ◌∙◌, arith, true≢false, length-set}
use Rattle.std.proofs.lemmas.List.{length-map, length-replicate}
use Rattle.std.specs.Prelude.{slice_get, nat_lt, unwrap_or}
use Rattle.script_reader.specs.declared.types.Script.{Script}
use Rattle.script_reader.specs.declared.types.Operation.{Operation}
use Rattle.report.specs.declared.line.Line.{Line}
use Rattle.report.specs.declared.line.Line.TheVariants as line
use Rattle.editor.specs.declared.editing.Attempt.{Attempt}
use Rattle.rules.specs.declared.kept.Facts.{Facts}
use Rattle.rules.specs.declared.kept.Job.{Job}
use Rattle.rules.specs.declared.kept.Kept.{Kept}
use Rattle.rules.specs.Kept.{actor_count, first_job, operation_at, job_of, begun_of, begun_operation, operation_now, changed_at}
use Rattle.rules.specs.Work.{has_operations_left}
use Rattle.rules.specs.After.{begun_with, fresh_begun, facts_of, decision_at, job_beside, jobs_beside, own_job, actor_of, jobs_of_actor, kept_after, kept_of}
use Rattle.performed.proofs.ProgressJobs.{changed_here}
use Rattle.performed.proofs.ProgressBegins.{Starts, nothing_below, some_below}

changed_length : (n : ℕ) (f : Job → Job) (xs : List Job) (o : Option Job) → length (changed_at n f xs o) ≡ length xs
changed_length n f xs None = refl
changed_length n f xs (Some x) = length-set xs n (f x)

own_length : (s : Script) (l : Line) (k : Kept) (facts : Facts) (attempt : Option Attempt) (o : Option ℕ) (xs : List Job) → length (jobs_of_actor s l k facts attempt o xs) ≡ length xs
own_length s l k facts attempt None xs = refl
own_length s l k facts attempt (Some a) xs = changed_length a (own_job s l k facts attempt) xs (slice_get xs a)

-- each actor has a job
pub job_count : (s : Script) (lines : List Line) → length (kept_of s lines).jobs ≡ actor_count s + 1
job_count s [] = length-replicate (actor_count s + 1) first_job
job_count s (l ∷ e) =
    own_length s l (kept_of s e) (facts_of s l (kept_of s e)) (decision_at s l (kept_of s e)).attempt (actor_of l) (jobs_beside l (kept_of s e).history.epoch (facts_of s l (kept_of s e)) (kept_of s e).selected (kept_of s e).jobs)
    ∙ length-map (kept_of s e).jobs (job_beside l (kept_of s e).history.epoch (facts_of s l (kept_of s e)) (kept_of s e).selected)
    ∙ job_count s e

first_below : (n : ℕ) → nat_lt 0 (suc n) ≡ true
first_below n = grind arith

next_below : (b n : ℕ) → nat_lt b n ≡ true → nat_lt (suc b) (suc n) ≡ true
next_below b n h = grind arith

actor_there : (xs : List (List Operation)) (b n : ℕ) → nat_lt n (length (unwrap_or (slice_get xs b) [])) ≡ true → nat_lt b (length xs) ≡ true
actor_there [] b n h = absurd (nothing_below n h)
actor_there (ops ∷ xs) zero n h = first_below (length xs)
actor_there (ops ∷ xs) (suc b) n h = next_below b (length xs) (actor_there xs b n h)

below_one_more : (b n : ℕ) → nat_lt b n ≡ true → nat_lt (suc b) (n + 1) ≡ true
below_one_more b n h = grind arith

-- an actor that has operations left
has_place : (s : Script) (k : Kept) (a : ℕ) → has_operations_left s k a ≡ true → nat_lt a (actor_count s + 1) ≡ true
has_place s k zero h = absurd (nothing_below (job_of zero k.jobs).answered h)
has_place s k (suc a) h = below_one_more a (actor_count s) (actor_there s.actors a (job_of (suc a) k.jobs).answered h)

module _ (s : Script) (k : Kept) (a i : ℕ) (t : Starts s k a i) where
  abbrev beside_begin : List Job
  beside_begin = jobs_beside (line.Begin a i) k.history.epoch (facts_of s (line.Begin a i) k) k.selected k.jobs

  begun_by : (o : Option Job) → slice_get beside_begin a ≡ o → is_some o ≡ true → operation_now s a (kept_after s (line.Begin a i) k).jobs ≡ operation_at s a i
  begun_by None e h = absurd (true≢false (sym h))
  begun_by (Some x) e h = ap (λ (job : Job). begun_operation s a job.begun) (changed_here (own_job s (line.Begin a i) k (facts_of s (line.Begin a i) k) (decision_at s (line.Begin a i) k).attempt) beside_begin a x e)

  -- the operation that begins is the actor's
  pub begun_place : length k.jobs ≡ actor_count s + 1 → operation_now s a (kept_after s (line.Begin a i) k).jobs ≡ operation_at s a i
  begun_place count =
      let long : length beside_begin ≡ actor_count s + 1 = length-map k.jobs (job_beside (line.Begin a i) k.history.epoch (facts_of s (line.Begin a i) k) k.selected) ∙ count in
      begun_by (slice_get beside_begin a) refl (some_below beside_begin a (ap (nat_lt a) long ∙ has_place s k a t.left))

  there_by : (o : Option Job) → slice_get beside_begin a ≡ o → is_some o ≡ true → begun_of a (kept_after s (line.Begin a i) k).jobs ≡ Some (begun_with (decision_at s (line.Begin a i) k).attempt (fresh_begun i k.history))
  there_by None e h = absurd (true≢false (sym h))
  there_by (Some x) e h = ap (λ (job : Job). job.begun) (changed_here (own_job s (line.Begin a i) k (facts_of s (line.Begin a i) k) (decision_at s (line.Begin a i) k).attempt) beside_begin a x e)

  -- it has begun
  pub begun_there : length k.jobs ≡ actor_count s + 1 → begun_of a (kept_after s (line.Begin a i) k).jobs ≡ Some (begun_with (decision_at s (line.Begin a i) k).attempt (fresh_begun i k.history))
  begun_there count =
      let long : length beside_begin ≡ actor_count s + 1 = length-map k.jobs (job_beside (line.Begin a i) k.history.epoch (facts_of s (line.Begin a i) k) k.selected) ∙ count in
      there_by (slice_get beside_begin a) refl (some_below beside_begin a (ap (nat_lt a) long ∙ has_place s k a t.left))
