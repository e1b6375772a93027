-- What is kept of an actor's answers, and of what it had seen, is what looking back says.
use Rattle.std.proofs.Common.{◌≡◌, ℕ, zero, suc, ◌+◌, ◌==◌, Bool, true, false, if◌then◌else◌, List, [], ◌∷◌, length, Option, Some, None, is_some, refl, sym, ap, ◌∙◌, arith}
use Rattle.std.specs.Prelude.{filter, option_map, replicate, slice_get, slice_set}
use Rattle.std.proofs.lemmas.Option.{slice_get-map}
use Rattle.script_reader.specs.declared.types.Script.{Script}
use Rattle.report.specs.declared.line.Line.{Line}
use Rattle.report.specs.declared.line.Line.TheVariants as line
use Rattle.editor.specs.declared.editing.Attempt.{Attempt}
use Rattle.rules.specs.declared.kept.Facts.{Facts}
use Rattle.rules.specs.declared.kept.Job.{Job}
use Rattle.rules.specs.declared.kept.Kept.{Kept}
use Rattle.rules.specs.Kept.{actor_count, first_job, changed_at, change_at}
use Rattle.rules.specs.After.{job_beside, jobs_beside, own_job, actor_of, jobs_of_actor, decision_at, facts_of, kept_of}
use Rattle.rules.specs.LookingBack.{publication_count, answers_of, answer_count, seen_before}
use Rattle.rules.proofs.Looking.{history}

-- how many operations were answered, and how many publications there were before the last answer
abbrev tally : Job → ℕ × ℕ
tally job = (job.answered, job.seen)

abbrev tally_at : ℕ → List Job → Option (ℕ × ℕ)
tally_at a jobs = option_map tally (slice_get jobs a)

-- ---- an item is written over

zero_suc : (i : ℕ) → (0 == suc i) ≡ false
zero_suc i = grind arith

suc_zero : (i : ℕ) → (suc i == 0) ≡ false
suc_zero i = grind arith

suc_suc : (n i : ℕ) → (suc n == suc i) ≡ (n == i)
suc_suc n i = grind arith

pub set_at : (xs : List Job) (n i : ℕ) (x y : Job) → slice_get xs n ≡ Some x → slice_get (slice_set xs n y) i ≡ (if n == i then Some y else slice_get xs i)
set_at [] n i x y h = absurd (cc)
set_at (z ∷ zs) zero zero x y h = refl
set_at (z ∷ zs) zero (suc i) x y h = rw (zero_suc i) refl
set_at (z ∷ zs) (suc n) zero x y h = rw (suc_zero n) refl
set_at (z ∷ zs) (suc n) (suc i) x y h = rw (suc_suc n i) (set_at zs n i x y h)

-- a job is changed, by what makes its tally another one
module _ (f : Job → Job) (g : ℕ × ℕ → ℕ × ℕ) (gives : (job : Job) → tally (f job) ≡ g (tally job)) where
  by_place : (b : Bool) (x : Job) (o : Option Job) → (b ≡ true → o ≡ Some x) → option_map tally (if b then Some (f x) else o) ≡ (if b then option_map g (option_map tally o) else option_map tally o)
  by_place true x o h = ap (λ t. Some t) (gives x) ∙ ap (λ p. option_map g (option_map tally p)) (sym (h refl))
  by_place false x o h = refl

  same_place : (xs : List Job) (n i : ℕ) (o : Option Job) → slice_get xs n ≡ o → n == i ≡ true → slice_get xs i ≡ o
  same_place xs n i o h e = ap (slice_get xs) (sym (equal n i e)) ∙ h
    where
      equal : (m k : ℕ) → (m == k) ≡ true → m ≡ k
      equal m k h = grind arith

  none_changed : (b : Bool) (o : Option Job) → (b ≡ true → o ≡ None) → option_map tally o ≡ (if b then option_map g (option_map tally o) else option_map tally o)
  none_changed true o h = ap (option_map tally) (h refl) ∙ ap (λ p. option_map g (option_map tally p)) (sym (h refl))
  none_changed false o h = refl

  tally_changed : (xs : List Job) (n i : ℕ) (o : Option Job) → slice_get xs n ≡ o → tally_at i (changed_at n f xs o) ≡ (if n == i then option_map g (tally_at i xs) else tally_at i xs)
  tally_changed xs n i None h = none_changed (n == i) (slice_get xs i) (same_place xs n i None h)
  tally_changed xs n i (Some x) h =
      ap (option_map tally) (set_at xs n i x (f x) h) ∙ by_place (n == i) x (slice_get xs i) (same_place xs n i (Some x) h)

  pub tally_change : (xs : List Job) (n i : ℕ) → tally_at i (change_at n f xs) ≡ (if n == i then option_map g (tally_at i xs) else tally_at i xs)
  tally_change xs n i = tally_changed xs n i (slice_get xs n) refl

-- ---- a line

tally_beside : (l : Line) (epoch : ℕ) (facts : Facts) (selected : Option (List ℕ)) (jobs : List Job) (i : ℕ) → tally_at i (jobs_beside l epoch facts selected jobs) ≡ tally_at i jobs
tally_beside l epoch facts selected jobs i = ap (option_map tally) (slice_get-map (job_beside l epoch facts selected) jobs i) ∙ by_job (slice_get jobs i)
  where
    by_job : (o : Option Job) → option_map tally (option_map (job_beside l epoch facts selected) o) ≡ option_map tally o
    by_job None = refl
    by_job (Some job) = refl

same_option : (b : Bool) (o : Option (ℕ × ℕ)) → (if b then option_map (λ (t : ℕ × ℕ). t) o else o) ≡ o
same_option true None = refl
same_option true (Some t) = refl
same_option false o = refl

-- one operation more is answered
abbrev one_more : ℕ → ℕ × ℕ → ℕ × ℕ
one_more publications t = (t.0 + 1, publications)

module _ (s : Script) (k : Kept) (facts : Facts) (attempt : Option Attempt) (jobs : List Job) (i : ℕ) where
  kept_same : (l : Line) (a : ℕ) → ((job : Job) → tally (own_job s l k facts attempt job) ≡ tally job) → tally_at i (change_at a (own_job s l k facts attempt) jobs) ≡ tally_at i jobs
  kept_same l a h = tally_change (own_job s l k facts attempt) (λ (t : ℕ × ℕ). t) h jobs a i ∙ same_option (a == i) (tally_at i jobs)

  marked_same : (a : ℕ) → tally_at i (jobs_of_actor s (line.Turn a) k facts attempt (Some a) jobs) ≡ tally_at i jobs
  marked_same zero = kept_same (line.Turn zero) zero (λ job. refl)
  marked_same (suc a) = kept_same (line.Turn (suc a)) (suc a) (λ job. refl)

  tally_line : (l : Line) → tally_at i (jobs_of_actor s l k facts attempt (actor_of l) jobs) ≡ (if answers_of i l then option_map (one_more k.publications) (tally_at i jobs) else tally_at i jobs)
  tally_line (line.Answered a op given) = tally_change (own_job s (line.Answered a op given) k facts attempt) (one_more k.publications) (λ job. refl) jobs a i
  tally_line (line.Turn a) = marked_same a
  tally_line (line.Begin a op) = kept_same (line.Begin a op) a (λ job. refl)
  tally_line (line.Exchange a c r) = kept_same (line.Exchange a c r) a (λ job. refl)
  tally_line (line.Failed a c d) = kept_same (line.Failed a c d) a (λ job. refl)
  tally_line (line.Reset a) = refl
  tally_line (line.ResetFailed a) = refl
  tally_line (line.World a e) = refl
  tally_line (line.Published n f e v text) = refl
  tally_line (line.EpochEnd n e v) = refl
  tally_line (line.Refused f n) = refl

-- ---- all lines

-- the actor has a job
abbrev present : Script → ℕ → Bool
present s actor = is_some (slice_get (replicate (actor_count s + 1) first_job) actor)

first_tallies : (n i : ℕ) → tally_at i (replicate n first_job) ≡ (if is_some (slice_get (replicate n first_job) i) then Some (0, 0) else None)
first_tallies zero i = refl
first_tallies (suc n) zero = refl
first_tallies (suc n) (suc i) = first_tallies n i

by_line : (p b : Bool) (n m v : ℕ) → (if b then option_map (one_more v) (if p then Some (n, m) else None) else (if p then Some (n, m) else None)) ≡ (if p then Some ((if b then n + 1 else n), (if b then v else m)) else None)
by_line true true n m v = refl
by_line true false n m v = refl
by_line false true n m v = refl
by_line false false n m v = refl

counted : (b : Bool) (l : Line) (lines : List Line) → (if b then length lines + 1 else length lines) ≡ length (if b then l ∷ lines else lines)
counted true l lines = grind arith
counted false l lines = refl

tallies : (s : Script) (lines : List Line) (i : ℕ) → tally_at i (kept_of s lines).jobs ≡ (if present s i then Some (answer_count i lines, seen_before i lines) else None)
tallies s [] i = first_tallies (actor_count s + 1) i
tallies s (l ∷ earlier) i =
    let k : Kept = kept_of s earlier in
    tally_line s k (facts_of s l k) (decision_at s l k).attempt (jobs_beside l k.history.epoch (facts_of s l k) k.selected k.jobs) i l
    ∙ ap (λ o. if answers_of i l then option_map (one_more k.publications) o else o) (tally_beside l k.history.epoch (facts_of s l k) k.selected k.jobs i ∙ tallies s earlier i)
    ∙ by_line (present s i) (answers_of i l) (answer_count i earlier) (seen_before i earlier) k.publications
    ∙ ap (λ (n : ℕ). if present s i then Some ((if answers_of i l then answer_count i earlier + 1 else answer_count i earlier), (if answers_of i l then n else seen_before i earlier)) else None) (history s earlier).publications
    ∙ ap (λ (n : ℕ). if present s i then Some (n, (if answers_of i l then publication_count earlier else seen_before i earlier)) else None) (counted (answers_of i l) l (filter (answers_of i) earlier))

first_or : Option (ℕ × ℕ) → ℕ × ℕ
first_or None = (0, 0)
first_or (Some t) = t

pub answers : (s : Script) (lines : List Line) (actor : ℕ) (job : Job) → slice_get (kept_of s lines).jobs actor ≡ Some job → (job.answered ≡ answer_count actor lines) × (job.seen ≡ seen_before actor lines)
unfolding first_or
answers s lines actor job h = by_present (present s actor) (sym (ap (option_map tally) h) ∙ tallies s lines actor)
  where
    by_present : (b : Bool) → Some (tally job) ≡ (if b then Some (answer_count actor lines, seen_before actor lines) else None) → (job.answered ≡ answer_count actor lines) × (job.seen ≡ seen_before actor lines)
    by_present true e = (ap (λ o. (first_or o).0) e, ap (λ o. (first_or o).1) e)
    by_present false e = absurd (cc)
