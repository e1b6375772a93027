-- Which actors have an operation under way, behind a line.
use Rattle.std.proofs.Common.{◌≡◌, ℕ, zero, suc, Bool, false, List, [], ◌∷◌, Option, Some, None, is_some, unwrap_or, option_map, slice_get, slice_set, refl, ap, ◌∙◌}
use Rattle.std.proofs.lemmas.Option.{slice_get-map}
use Rattle.apdu.specs.Values.{CommandValue, ResponseValue}
use Rattle.script_reader.specs.declared.types.Script.{Script}
use Rattle.report.specs.declared.answer.Answer.{Answer}
use Rattle.report.specs.declared.line.Line.{Line}
use Rattle.report.specs.declared.line.Line.TheVariants as line
use Rattle.rules.specs.declared.kept.Job.{Job}
use Rattle.rules.specs.declared.kept.Kept.{Kept}
use Rattle.rules.specs.Kept.{first_job, begun_of, changed_at, change_at, operation_at, operation_now}
use Rattle.rules.specs.After.{begun_beside, job_beside, jobs_beside, begun_exchanged, begun_failed, job_answered, own_job, edit_of, decision_at, facts_of, kept_after}
use Rattle.performed.specs.Measure.{is_begun}

abbrev has_begun : Option Job → Bool
has_begun o = is_some (unwrap_or o first_job).begun

some_map : {A B : Type 0} (g : A → B) (o : Option A) → is_some (option_map g o) ≡ is_some o
some_map g None = refl
some_map g (Some x) = refl

begun_map : (f : Job → Job) → ((job : Job) → is_some (f job).begun ≡ is_some job.begun) → (o : Option Job) → has_begun (option_map f o) ≡ has_begun o
begun_map f keeps None = refl
begun_map f keeps (Some job) = keeps job

-- a job is written over
set_same : (jobs : List Job) (a i : ℕ) (x y : Job) → slice_get jobs a ≡ Some x → is_some y.begun ≡ is_some x.begun → is_some (begun_of i (slice_set jobs a y)) ≡ is_some (begun_of i jobs)
set_same [] a i x y h e = absurd (cc)
set_same (z ∷ zs) zero zero x y h e = let same : x ≡ z = cc in e ∙ ap (λ (job : Job). is_some job.begun) same
set_same (z ∷ zs) zero (suc i) x y h e = refl
set_same (z ∷ zs) (suc a) zero x y h e = refl
set_same (z ∷ zs) (suc a) (suc i) x y h e = set_same zs a i x y h e

set_there : (jobs : List Job) (a : ℕ) (x y : Job) → slice_get jobs a ≡ Some x → is_some (begun_of a (slice_set jobs a y)) ≡ is_some y.begun
set_there [] a x y h = absurd (cc)
set_there (z ∷ zs) zero x y h = refl
set_there (z ∷ zs) (suc a) x y h = set_there zs a x y h

changed_same : (f : Job → Job) → ((job : Job) → is_some (f job).begun ≡ is_some job.begun) → (jobs : List Job) (a i : ℕ) (o : Option Job) → slice_get jobs a ≡ o → is_some (begun_of i (changed_at a f jobs o)) ≡ is_some (begun_of i jobs)
changed_same f keeps jobs a i None h = refl
changed_same f keeps jobs a i (Some x) h = set_same jobs a i x (f x) h (keeps x)

changed_ended : (f : Job → Job) → ((job : Job) → is_some (f job).begun ≡ false) → (jobs : List Job) (a : ℕ) (o : Option Job) → slice_get jobs a ≡ o → is_some (begun_of a (changed_at a f jobs o)) ≡ false
changed_ended f ends jobs a None h = ap has_begun h
changed_ended f ends jobs a (Some x) h = set_there jobs a x (f x) h ∙ ends x

module _ (s : Script) (l : Line) (k : Kept) where
  abbrev beside : List Job
  beside = jobs_beside l k.history.epoch (facts_of s l k) k.selected k.jobs

  pub begun_beside_line : (i : ℕ) → is_some (begun_of i beside) ≡ is_some (begun_of i k.jobs)
  begun_beside_line i =
      ap has_begun (slice_get-map (job_beside l k.history.epoch (facts_of s l k) k.selected) k.jobs i)
      ∙ begun_map (job_beside l k.history.epoch (facts_of s l k) k.selected) (λ job. some_map (begun_beside l k.history.epoch (facts_of s l k)) job.begun) (slice_get k.jobs i)

  begun_own : ((job : Job) → is_some (own_job s l k (facts_of s l k) (decision_at s l k).attempt job).begun ≡ is_some job.begun) → (a i : ℕ) → is_some (begun_of i (change_at a (own_job s l k (facts_of s l k) (decision_at s l k).attempt) beside)) ≡ is_some (begun_of i k.jobs)
  begun_own keeps a i = changed_same (own_job s l k (facts_of s l k) (decision_at s l k).attempt) keeps beside a i (slice_get beside a) refl ∙ begun_beside_line i

module _ (s : Script) (k : Kept) (a : ℕ) where
  pub begun_exchange : (c : CommandValue) (r : ResponseValue) (i : ℕ) → is_some (begun_of i (kept_after s (line.Exchange a c r) k).jobs) ≡ is_some (begun_of i k.jobs)
  begun_exchange c r i = begun_own s (line.Exchange a c r) k (λ job. some_map (begun_exchanged (edit_of (operation_now s a k.jobs)) k.selected k.chain (facts_of s (line.Exchange a c r) k).event c r) job.begun) a i

  pub begun_failure : (c : CommandValue) (d : Bool) (i : ℕ) → is_some (begun_of i (kept_after s (line.Failed a c d) k).jobs) ≡ is_some (begun_of i k.jobs)
  begun_failure c d i = begun_own s (line.Failed a c d) k (λ job. some_map (begun_failed (edit_of (operation_now s a k.jobs)) k.selected k.chain (facts_of s (line.Failed a c d) k).event c) job.begun) a i

-- the actor's operation is answered
pub begun_answer : (s : Script) (k : Kept) (a i : ℕ) (given : Answer) → is_some (begun_of a (kept_after s (line.Answered a i given) k).jobs) ≡ false
begun_answer s k a i given =
    let jobs : List Job = beside s (line.Answered a i given) k in
    changed_ended (job_answered (operation_at s a i) given k.publications) (λ job. refl) jobs a (slice_get jobs a) refl

-- ---- of the turn's actor

pub same_turn : (jobs new : List Job) → ((i : ℕ) → is_some (begun_of i new) ≡ is_some (begun_of i jobs)) → (o : Option ℕ) → is_begun o new ≡ is_begun o jobs
same_turn jobs new h None = refl
same_turn jobs new h (Some a) = h a
