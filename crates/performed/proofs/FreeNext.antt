-- The operation that an actor has under way is the one behind those that it has answered, and each answer adds one to these.
use Rattle.std.proofs.Common.{◌≡◌, ℕ, zero, suc, ◌+◌, ◌==◌, Bool, true, false, if◌then◌else◌, List, [], ◌∷◌, replicate, Option, Some, None, refl, sym, ap, ◌∙◌, subst, arith, true≢false}
use Rattle.std.specs.Prelude.{option_map, slice_get, unwrap_or}
use Rattle.std.proofs.lemmas.Bool.{and_parts, eqb-true}
use Rattle.script_reader.specs.declared.types.Script.{Script}
use Rattle.report.specs.declared.answer.Answer.{Answer}
use Rattle.report.specs.declared.line.Line.{Line}
use Rattle.report.specs.declared.line.Line.TheVariants as line
use Rattle.rules.specs.declared.kept.Begun.{Begun}
use Rattle.rules.specs.declared.kept.Job.{Job}
use Rattle.rules.specs.declared.kept.Kept.{Kept}
use Rattle.rules.specs.Kept.{actor_count, first_job, job_of, operation_now}
use Rattle.rules.specs.After.{facts_of, decision_at, begun_beside, begun_with, begun_exchanged, begun_failed, edit_of, job_beside, own_job, kept_after, kept_of}
use Rattle.performed.specs.Followed.{is_followed, are_followed}
use Rattle.performed.proofs.TurnsJobs.{is_own, behind_job, job_behind}
use Rattle.performed.proofs.ProgressBegins.{starts}

abbrev pub IsNextOption : ℕ → Option Begun → Type 0
IsNextOption answered None = Unit {0}
IsNextOption answered (Some b) = b.index ≡ answered

abbrev pub IsNext : Job → Type 0
IsNext job = IsNextOption job.answered job.begun

-- the line is the actor's answer
abbrev pub answers : ℕ → Line → Bool
answers i (line.Answered a op given) = a == i
answers i l = false

itself : (n : ℕ) → (n == n) ≡ true
itself n = grind arith

next_mapped : (f : Begun → Begun) → ((b : Begun) → (f b).index ≡ b.index) → (n : ℕ) (o : Option Begun) → IsNextOption n o → IsNextOption n (option_map f o)
next_mapped f same n None p = tt
next_mapped f same n (Some b) p = same b ∙ p

module _ (s : Script) (k : Kept) where
  abbrev beside : Line → Job → Job
  beside l x = job_beside l k.history.epoch (facts_of s l k) k.selected x

  abbrev own : Line → Job → Job
  own l = own_job s l k (facts_of s l k) (decision_at s l k).attempt

  -- ---- the operation under way

  beside_next : (l : Line) (x : Job) → IsNext x → IsNext (beside l x)
  beside_next l x p = next_mapped (begun_beside l k.history.epoch (facts_of s l k)) (λ b. refl) x.answered x.begun p

  marked_next : (a : ℕ) (x : Job) → IsNext x → IsNext (own (line.Turn a) x)
  marked_next zero x p = p
  marked_next (suc a) x p = next_mapped (begun_with (decision_at s (line.Turn (suc a)) k).attempt) (λ b. refl) x.answered x.begun p

  begins_next : (a i op : ℕ) (x : Job) → is_followed s k (line.Begin a op) ≡ true → (a == i) ≡ true → slice_get k.jobs i ≡ Some x → op ≡ x.answered
  begins_next a i op x h own here =
      (starts s k op a h).index
      ∙ ap (λ (n : ℕ). (job_of n k.jobs).answered) (eqb-true a i own)
      ∙ ap (λ (o : Option Job). (unwrap_or o first_job).answered) here

  own_next : (l : Line) (i : ℕ) (x : Job) → is_followed s k l ≡ true → is_own i l ≡ true → slice_get k.jobs i ≡ Some x → IsNext (beside l x) → IsNext (own l (beside l x))
  own_next (line.Turn a) i x h mine here p = marked_next a (beside (line.Turn a) x) p
  own_next (line.Begin a op) i x h mine here p = begins_next a i op x h mine here
  own_next (line.Exchange a c r) i x h mine here p = next_mapped (begun_exchanged (edit_of (operation_now s a k.jobs)) k.selected k.chain (facts_of s (line.Exchange a c r) k).event c r) (λ b. refl) x.answered (beside (line.Exchange a c r) x).begun p
  own_next (line.Failed a c d) i x h mine here p = next_mapped (begun_failed (edit_of (operation_now s a k.jobs)) k.selected k.chain (facts_of s (line.Failed a c d) k).event c) (λ b. refl) x.answered (beside (line.Failed a c d) x).begun p
  own_next (line.Answered a op given) i x h mine here p = tt
  own_next l i x h mine here p = p

  by_own : (b : Bool) (l : Line) (i : ℕ) (x : Job) → is_own i l ≡ b → is_followed s k l ≡ true → slice_get k.jobs i ≡ Some x → IsNext x → IsNext (if b then own l (beside l x) else beside l x)
  by_own true l i x mine h here p = own_next l i x h mine here (beside_next l x p)
  by_own false l i x mine h here p = beside_next l x p

  by_place : (l : Line) (i : ℕ) (o : Option Job) → slice_get k.jobs i ≡ o → is_followed s k l ≡ true → IsNext (unwrap_or o first_job) → IsNext (unwrap_or (option_map (behind_job s l k i) o) first_job)
  by_place l i None here h p = tt
  by_place l i (Some x) here h p = by_own (is_own i l) l i x refl h here p

  next_step : (l : Line) → is_followed s k l ≡ true → ((i : ℕ) → IsNext (job_of i k.jobs)) → (i : ℕ) → IsNext (job_of i (kept_after s l k).jobs)
  next_step l h each i = subst (λ (o : Option Job). IsNext (unwrap_or o first_job)) (sym (job_behind s l k i)) (by_place l i (slice_get k.jobs i) refl h (each i))

  -- ---- how many it has answered

  own_answered : (l : Line) (i : ℕ) (x : Job) → is_own i l ≡ true → answers i l ≡ false → (own l (beside l x)).answered ≡ x.answered
  own_answered (line.Turn zero) i x mine other = refl
  own_answered (line.Turn (suc a)) i x mine other = refl
  own_answered (line.Answered a op given) i x mine other = absurd (true≢false (sym mine ∙ other))
  own_answered l i x mine other = refl

  answered_own : (b : Bool) (l : Line) (i : ℕ) (x : Job) → is_own i l ≡ b → answers i l ≡ false → (if b then own l (beside l x) else beside l x).answered ≡ x.answered
  answered_own true l i x mine other = own_answered l i x mine other
  answered_own false l i x mine other = refl

  answered_place : (l : Line) (i : ℕ) (o : Option Job) → answers i l ≡ false → (unwrap_or (option_map (behind_job s l k i) o) first_job).answered ≡ (unwrap_or o first_job).answered
  answered_place l i None other = refl
  answered_place l i (Some x) other = answered_own (is_own i l) l i x refl other

  -- each line but its own answers leaves it
  pub answered_stays : (l : Line) (i : ℕ) → answers i l ≡ false → (job_of i (kept_after s l k).jobs).answered ≡ (job_of i k.jobs).answered
  answered_stays l i other = ap (λ (o : Option Job). (unwrap_or o first_job).answered) (job_behind s l k i) ∙ answered_place l i (slice_get k.jobs i) other

  one_answered : (b : Bool) (a op : ℕ) (given : Answer) (x : Job) → b ≡ true → (if b then own (line.Answered a op given) (beside (line.Answered a op given) x) else beside (line.Answered a op given) x).answered ≡ x.answered + 1
  one_answered true a op given x e = refl
  one_answered false a op given x e = absurd (true≢false (sym e))

  pub answered_more : (a op : ℕ) (given : Answer) (x : Job) → slice_get k.jobs a ≡ Some x → (job_of a (kept_after s (line.Answered a op given) k).jobs).answered ≡ x.answered + 1
  answered_more a op given x here =
      ap (λ (o : Option Job). (unwrap_or o first_job).answered) (job_behind s (line.Answered a op given) k a)
      ∙ ap (λ (o : Option Job). (unwrap_or (option_map (behind_job s (line.Answered a op given) k a) o) first_job).answered) here
      ∙ one_answered (a == a) a op given x (itself a)

first_next : (n i : ℕ) → IsNext (job_of i (replicate n first_job))
first_next zero i = tt
first_next (suc n) zero = tt
first_next (suc n) (suc i) = first_next n i

pub next_of : (s : Script) (lines : List Line) → are_followed s lines ≡ true → (i : ℕ) → IsNext (job_of i (kept_of s lines).jobs)
next_of s [] h i = first_next (actor_count s + 1) i
next_of s (l ∷ earlier) h i =
    let q = and_parts (are_followed s earlier) (is_followed s (kept_of s earlier) l) h in
    next_step s (kept_of s earlier) l q.1 (next_of s earlier q.0) i
