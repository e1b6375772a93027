-- The job of an actor behind a line, of the one before it.
use Rattle.std.proofs.Common.{◌≡◌, ℕ, zero, suc, ◌==◌, Bool, true, false, if◌then◌else◌, List, [], ◌∷◌, Option, Some, None, refl, sym, ap, ◌∙◌, arith}
use Rattle.std.specs.Prelude.{option_map, replicate, slice_get, slice_set, unwrap_or}
use Rattle.std.proofs.lemmas.Bool.{eqb-true}
use Rattle.std.proofs.lemmas.Option.{slice_get-map}
use Rattle.apdu.specs.Words.{has_value}
use Rattle.script_reader.specs.declared.types.Script.{Script}
use Rattle.report.specs.declared.line.Line.{Line}
use Rattle.rules.specs.declared.kept.Job.{Job}
use Rattle.rules.specs.declared.kept.Kept.{Kept}
use Rattle.rules.specs.Kept.{first_job, changed_at}
use Rattle.rules.specs.After.{job_beside, jobs_beside, own_job, actor_of, jobs_of_actor, decision_at, facts_of, kept_after}

-- ---- an item is written over

zero_suc : (i : ℕ) → (0 == suc i) ≡ false
zero_suc i = grind arith

suc_zero : (i : ℕ) → (suc i == 0) ≡ false
suc_zero i = grind arith

suc_suc : (n i : ℕ) → (suc n == suc i) ≡ (n == i)
suc_suc n i = grind arith

set_at : (xs : List Job) (n i : ℕ) (x y : Job) → slice_get xs n ≡ Some x → slice_get (slice_set xs n y) i ≡ (if n == i then Some y else slice_get xs i)
set_at [] n i x y h = absurd (cc)
set_at (z ∷ zs) zero zero x y h = refl
set_at (z ∷ zs) zero (suc i) x y h = rw (zero_suc i) refl
set_at (z ∷ zs) (suc n) zero x y h = rw (suc_zero n) refl
set_at (z ∷ zs) (suc n) (suc i) x y h = rw (suc_suc n i) (set_at zs n i x y h)

module _ (f : Job → Job) where
  by_place : (b : Bool) (x : Job) (o : Option Job) → (b ≡ true → o ≡ Some x) → (if b then Some (f x) else o) ≡ (if b then option_map f o else o)
  by_place true x o h = ap (option_map f) (sym (h refl))
  by_place false x o h = refl

  none_there : (b : Bool) (o : Option Job) → (b ≡ true → o ≡ None) → o ≡ (if b then option_map f o else o)
  none_there true o h = h refl ∙ ap (option_map f) (sym (h refl))
  none_there false o h = refl

  there : (xs : List Job) (n i : ℕ) (o : Option Job) → slice_get xs n ≡ o → n == i ≡ true → slice_get xs i ≡ o
  there xs n i o h e = ap (slice_get xs) (sym (eqb-true n i e)) ∙ h

  changed : (xs : List Job) (n i : ℕ) (o : Option Job) → slice_get xs n ≡ o → slice_get (changed_at n f xs o) i ≡ (if n == i then option_map f (slice_get xs i) else slice_get xs i)
  changed xs n i None h = none_there (n == i) (slice_get xs i) (there xs n i None h)
  changed xs n i (Some x) h = set_at xs n i x (f x) h ∙ by_place (n == i) x (slice_get xs i) (there xs n i (Some x) h)

-- ---- a line

-- the line is about the actor's job
abbrev pub is_own : ℕ → Line → Bool
is_own i l = has_value (λ a. a == i) (actor_of l)

-- the actor's job behind the line, of that before it
abbrev pub behind_job : Script → Line → Kept → ℕ → Job → Job
behind_job s l k i x =
    if is_own i l then own_job s l k (facts_of s l k) (decision_at s l k).attempt (job_beside l k.history.epoch (facts_of s l k) k.selected x)
    else job_beside l k.history.epoch (facts_of s l k) k.selected x

module _ (s : Script) (l : Line) (k : Kept) (i : ℕ) where
  own_place : (o : Option ℕ) (xs : List Job) → slice_get (jobs_of_actor s l k (facts_of s l k) (decision_at s l k).attempt o xs) i ≡ (if has_value (λ a. a == i) o then option_map (own_job s l k (facts_of s l k) (decision_at s l k).attempt) (slice_get xs i) else slice_get xs i)
  own_place None xs = refl
  own_place (Some a) xs = changed (own_job s l k (facts_of s l k) (decision_at s l k).attempt) xs a i (slice_get xs a) refl

  both_maps : (b : Bool) (f g : Job → Job) (o : Option Job) → (if b then option_map f (option_map g o) else option_map g o) ≡ option_map (λ x. if b then f (g x) else g x) o
  both_maps true f g None = refl
  both_maps true f g (Some x) = refl
  both_maps false f g o = refl

  -- the job at a place is the one there before, behind the line
  pub job_behind : slice_get (kept_after s l k).jobs i ≡ option_map (behind_job s l k i) (slice_get k.jobs i)
  job_behind =
      own_place (actor_of l) (jobs_beside l k.history.epoch (facts_of s l k) k.selected k.jobs)
      ∙ ap (λ o. if is_own i l then option_map (own_job s l k (facts_of s l k) (decision_at s l k).attempt) o else o) (slice_get-map (job_beside l k.history.epoch (facts_of s l k) k.selected) k.jobs i)
      ∙ both_maps (is_own i l) (own_job s l k (facts_of s l k) (decision_at s l k).attempt) (job_beside l k.history.epoch (facts_of s l k) k.selected) (slice_get k.jobs i)

  -- the job before the line, and what it became
  pub record Before (y : Job) : Type 0 where
    pub job : Job
    pub here : slice_get k.jobs i ≡ Some job
    pub became : y ≡ behind_job s l k i job

  found : (y : Job) (o : Option Job) → slice_get k.jobs i ≡ o → option_map (behind_job s l k i) o ≡ Some y → Before y
  found y None h e = absurd (cc)
  found y (Some x) h e = record { job = x; here = h; became = sym (ap (λ (q : Option Job). unwrap_or q first_job) e) }

  pub before : (y : Job) → slice_get (kept_after s l k).jobs i ≡ Some y → Before y
  before y h = found y (slice_get k.jobs i) refl (sym job_behind ∙ h)

pub first_jobs : (n i : ℕ) (y : Job) → slice_get (replicate n first_job) i ≡ Some y → y ≡ first_job
first_jobs zero i y h = absurd (cc)
first_jobs (suc n) zero y h = sym (ap (λ (q : Option Job). unwrap_or q first_job) h)
first_jobs (suc n) (suc i) y h = first_jobs n i y h
