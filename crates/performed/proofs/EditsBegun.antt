-- What a line makes of the operation that an actor has begun.
use Rattle.std.proofs.Common.{◌≡◌, ◌⊎◌, inl, inr, ℕ, zero, suc, ◌+◌, ◌==◌, Bool, true, false, if◌then◌else◌, Option, Some, None, refl, sym, ap, ◌∙◌, true≢false}
use Rattle.std.specs.Prelude.{option_map, slice_get, unwrap_or}
use Rattle.std.proofs.lemmas.Bool.{eqb-true, eq-eqb}
use Rattle.apdu.specs.Values.{CommandValue, ResponseValue}
use Rattle.script_reader.specs.declared.types.Script.{Script}
use Rattle.report.specs.declared.line.Line.{Line}
use Rattle.report.specs.declared.line.Line.TheVariants as line
use Rattle.rules.specs.declared.kept.Begun.{Begun}
use Rattle.rules.specs.declared.kept.Job.{Job}
use Rattle.rules.specs.declared.kept.Kept.{Kept}
use Rattle.rules.specs.Kept.{first_job, job_of, begun_of, operation_now}
use Rattle.rules.specs.After.{begun_beside, begun_with, begun_exchanged, begun_failed, job_beside, own_job, edit_of, decision_at, fresh_begun, facts_of, kept_after}
use Rattle.performed.proofs.TurnsJobs.{is_own, behind_job, job_behind}

-- behind what the line does to every operation
abbrev pub near : Script → Line → Kept → Begun → Begun
near s l k b = begun_beside l k.history.epoch (facts_of s l k) b

-- what it was before the line, and what the line is to it
pub data Came (s : Script) (l : Line) (k : Kept) (i : ℕ) (now : Begun) : Type 0 where
  stays : (b : Begun) → begun_of i k.jobs ≡ Some b → (is_own i l ≡ false) ⊎ (l ≡ line.Turn zero) → now ≡ near s l k b → Came s l k i now
  marks : (a : ℕ) (b : Begun) → suc a ≡ i → l ≡ line.Turn (suc a) → begun_of i k.jobs ≡ Some b → now ≡ begun_with (decision_at s l k).attempt (near s l k b) → Came s l k i now
  begins : (a n : ℕ) → a ≡ i → l ≡ line.Begin a n → now ≡ begun_with (decision_at s l k).attempt (fresh_begun n k.history) → Came s l k i now
  exchanges : (a : ℕ) (c : CommandValue) (r : ResponseValue) (b : Begun) → a ≡ i → l ≡ line.Exchange a c r → begun_of i k.jobs ≡ Some b → now ≡ begun_exchanged (edit_of (operation_now s a k.jobs)) k.selected k.chain (k.history.events + 1) c r (near s l k b) → Came s l k i now
  fails : (a : ℕ) (c : CommandValue) (d : Bool) (b : Begun) → a ≡ i → l ≡ line.Failed a c d → begun_of i k.jobs ≡ Some b → now ≡ begun_failed (edit_of (operation_now s a k.jobs)) k.selected k.chain (k.history.events + 1) c (near s l k b) → Came s l k i now

-- a begun that is one before, changed
record Changed (f : Begun → Begun) (o : Option Begun) (now : Begun) : Type 0 where
  old : Begun
  there : o ≡ Some old
  became : now ≡ f old

changed_of : (f : Begun → Begun) (o : Option Begun) (now : Begun) → option_map f o ≡ Some now → Changed f o now
changed_of f None now h = absurd (cc)
changed_of f (Some b) now h = let same : f b ≡ now = cc in record { old = b; there = refl; became = sym same }

twice : (f g : Begun → Begun) (o : Option Begun) → option_map f (option_map g o) ≡ option_map (λ b. f (g b)) o
twice f g None = refl
twice f g (Some b) = refl

module _ (s : Script) (k : Kept) (i : ℕ) (x : Job) (here : job_of i k.jobs ≡ x) where
  begun_is : begun_of i k.jobs ≡ x.begun
  begun_is = ap (λ (j : Job). j.begun) here

  stays_by : (l : Line) (now : Begun) → (is_own i l ≡ false) ⊎ (l ≡ line.Turn zero) → option_map (near s l k) x.begun ≡ Some now → Came s l k i now
  stays_by l now other h = let c = changed_of (near s l k) x.begun now h in stays c.old (begun_is ∙ c.there) other c.became

  changed_by : (l : Line) (f : Begun → Begun) (now : Begun) → option_map f (option_map (near s l k) x.begun) ≡ Some now → Changed (λ b. f (near s l k b)) x.begun now
  changed_by l f now h = changed_of (λ b. f (near s l k b)) x.begun now (sym (twice f (near s l k) x.begun) ∙ h)

  own_by : (l : Line) (now : Begun) → is_own i l ≡ true → (own_job s l k (facts_of s l k) (decision_at s l k).attempt (job_beside l k.history.epoch (facts_of s l k) k.selected x)).begun ≡ Some now → Came s l k i now
  own_by (line.Turn zero) now own h = stays_by (line.Turn zero) now (inr refl) h
  own_by (line.Turn (suc a)) now own h =
      let c = changed_by (line.Turn (suc a)) (begun_with (decision_at s (line.Turn (suc a)) k).attempt) now h in
      marks a c.old (eqb-true (suc a) i own) refl (begun_is ∙ c.there) c.became
  own_by (line.Begin a n) now own h =
      let new : Begun = begun_with (decision_at s (line.Begin a n) k).attempt (fresh_begun n k.history) in
      let same : new ≡ now = cc in
      begins a n (eqb-true a i own) refl (sym same)
  own_by (line.Exchange a c r) now own h =
      let g = changed_by (line.Exchange a c r) (begun_exchanged (edit_of (operation_now s a k.jobs)) k.selected k.chain (k.history.events + 1) c r) now h in
      exchanges a c r g.old (eqb-true a i own) refl (begun_is ∙ g.there) g.became
  own_by (line.Failed a c d) now own h =
      let g = changed_by (line.Failed a c d) (begun_failed (edit_of (operation_now s a k.jobs)) k.selected k.chain (k.history.events + 1) c) now h in
      fails a c d g.old (eqb-true a i own) refl (begun_is ∙ g.there) g.became
  own_by (line.Answered a n given) now own h = absurd (cc)
  own_by (line.Reset a) now own h = absurd (true≢false (sym own))
  own_by (line.ResetFailed a) now own h = absurd (true≢false (sym own))
  own_by (line.World a e) now own h = absurd (true≢false (sym own))
  own_by (line.Published n f e v text) now own h = absurd (true≢false (sym own))
  own_by (line.EpochEnd n e v) now own h = absurd (true≢false (sym own))
  own_by (line.Refused f n) now own h = absurd (true≢false (sym own))

  abbrev own : Line → Job
  own l = own_job s l k (facts_of s l k) (decision_at s l k).attempt (job_beside l k.history.epoch (facts_of s l k) k.selected x)

  abbrev beside : Line → Job
  beside l = job_beside l k.history.epoch (facts_of s l k) k.selected x

  by_own : (l : Line) (now : Begun) (b : Bool) → is_own i l ≡ b → (if b then own l else beside l).begun ≡ Some now → Came s l k i now
  by_own l now true e h = own_by l now e h
  by_own l now false e h = stays_by l now (inl e) h

pub came : (s : Script) (l : Line) (k : Kept) (i : ℕ) (now : Begun) → begun_of i (kept_after s l k).jobs ≡ Some now → Came s l k i now
came s l k i now h = by_place (slice_get k.jobs i) refl (sym (ap (λ (o : Option Job). (unwrap_or o first_job).begun) (job_behind s l k i)) ∙ h)
  where
    by_place : (o : Option Job) → slice_get k.jobs i ≡ o → (unwrap_or (option_map (behind_job s l k i) o) first_job).begun ≡ Some now → Came s l k i now
    by_place None e h = absurd (cc)
    by_place (Some x) e h = by_own s k i x (ap (λ (o : Option Job). unwrap_or o first_job) e) l now (is_own i l) refl h

-- one that an actor has begun, behind a mark of another, or where it stays
pub begun_stays : (s : Script) (l : Line) (k : Kept) (i : ℕ) (b : Begun) → is_own i l ≡ false → begun_of i k.jobs ≡ Some b → begun_of i (kept_after s l k).jobs ≡ Some (near s l k b)
begun_stays s l k i b other h = ap (λ (o : Option Job). (unwrap_or o first_job).begun) (job_behind s l k i) ∙ by_place (slice_get k.jobs i) h
  where
    by_own : (y z : Job) (t : Bool) → t ≡ false → (if t then y else z).begun ≡ z.begun
    by_own y z true e = absurd (true≢false e)
    by_own y z false e = refl

    by_place : (o : Option Job) → (unwrap_or o first_job).begun ≡ Some b → (unwrap_or (option_map (behind_job s l k i) o) first_job).begun ≡ Some (near s l k b)
    by_place None h = absurd (cc)
    by_place (Some x) h =
        by_own (own_job s l k (facts_of s l k) (decision_at s l k).attempt (job_beside l k.history.epoch (facts_of s l k) k.selected x)) (job_beside l k.history.epoch (facts_of s l k) k.selected x) (is_own i l) other
        ∙ ap (option_map (near s l k)) h

-- what its actor's own line makes of it
own_begun : (s : Script) (l : Line) (k : Kept) (i : ℕ) (b : Begun) → is_own i l ≡ true → begun_of i k.jobs ≡ Some b → (x : Job) × ((x.begun ≡ Some b) × (begun_of i (kept_after s l k).jobs ≡ (own_job s l k (facts_of s l k) (decision_at s l k).attempt (job_beside l k.history.epoch (facts_of s l k) k.selected x)).begun))
own_begun s l k i b own h = by_place (slice_get k.jobs i) refl h
  where
    by_own : (y z : Job) (t : Bool) → t ≡ true → (if t then y else z).begun ≡ y.begun
    by_own y z true e = refl
    by_own y z false e = absurd (true≢false (sym e))

    by_place : (o : Option Job) → slice_get k.jobs i ≡ o → (unwrap_or o first_job).begun ≡ Some b → (x : Job) × ((x.begun ≡ Some b) × (begun_of i (kept_after s l k).jobs ≡ (own_job s l k (facts_of s l k) (decision_at s l k).attempt (job_beside l k.history.epoch (facts_of s l k) k.selected x)).begun))
    by_place None e q = absurd (cc)
    by_place (Some x) e q = (
      x,
      (
        q,
        ap (λ (o : Option Job). (unwrap_or o first_job).begun) (job_behind s l k i)
            ∙ ap (λ (o : Option Job). (unwrap_or (option_map (behind_job s l k i) o) first_job).begun) e
            ∙ by_own (own_job s l k (facts_of s l k) (decision_at s l k).attempt (job_beside l k.history.epoch (facts_of s l k) k.selected x)) (job_beside l k.history.epoch (facts_of s l k) k.selected x) (is_own i l) own,
      ),
    )

self : (n : ℕ) → (n == n) ≡ true
self n = eq-eqb n n refl

pub begun_exchanges : (s : Script) (k : Kept) (a : ℕ) (c : CommandValue) (r : ResponseValue) (b : Begun) → begun_of a k.jobs ≡ Some b → begun_of a (kept_after s (line.Exchange a c r) k).jobs ≡ Some (begun_exchanged (edit_of (operation_now s a k.jobs)) k.selected k.chain (k.history.events + 1) c r (near s (line.Exchange a c r) k b))
begun_exchanges s k a c r b h =
    let l : Line = line.Exchange a c r in
    let o = own_begun s l k a b (self a) h in
    o.1.1 ∙ ap (λ (x : Option Begun). option_map (begun_exchanged (edit_of (operation_now s a k.jobs)) k.selected k.chain (k.history.events + 1) c r) (option_map (near s l k) x)) o.1.0

pub begun_marks : (s : Script) (k : Kept) (a : ℕ) (b : Begun) → begun_of (suc a) k.jobs ≡ Some b → begun_of (suc a) (kept_after s (line.Turn (suc a)) k).jobs ≡ Some (begun_with (decision_at s (line.Turn (suc a)) k).attempt (near s (line.Turn (suc a)) k b))
begun_marks s k a b h =
    let l : Line = line.Turn (suc a) in
    let o = own_begun s l k (suc a) b (self (suc a)) h in
    o.1.1 ∙ ap (λ (x : Option Begun). option_map (begun_with (decision_at s l k).attempt) (option_map (near s l k) x)) o.1.0

-- ---- a line that is no mark, begins nothing and sends nothing

abbrev pub keeps_begun : Line → Bool
keeps_begun (line.Turn x) = false
keeps_begun (line.Begin x n) = false
keeps_begun (line.Exchange x c r) = false
keeps_begun (line.Failed x c d) = false
keeps_begun (line.Reset x) = true
keeps_begun (line.ResetFailed x) = true
keeps_begun (line.World x e) = true
keeps_begun (line.Published n f e v text) = true
keeps_begun (line.EpochEnd n e v) = true
keeps_begun (line.Refused f n) = true
keeps_begun (line.Answered x n given) = true

pub record IsNear (s : Script) (l : Line) (k : Kept) (i : ℕ) (now : Begun) : Type 0 where
  pub old : Begun
  pub here : begun_of i k.jobs ≡ Some old
  pub is : now ≡ near s l k old

pub near_of : (s : Script) (l : Line) (k : Kept) (i : ℕ) (now : Begun) → keeps_begun l ≡ true → Came s l k i now → IsNear s l k i now
near_of s l k i now kept (stays b here other is) = record { old = b; here = here; is = is }
near_of s l k i now kept (marks a b mine e here is) = absurd (true≢false (sym kept ∙ ap keeps_begun e))
near_of s l k i now kept (begins a n mine e is) = absurd (true≢false (sym kept ∙ ap keeps_begun e))
near_of s l k i now kept (exchanges a c r b mine e here is) = absurd (true≢false (sym kept ∙ ap keeps_begun e))
near_of s l k i now kept (fails a c d b mine e here is) = absurd (true≢false (sym kept ∙ ap keeps_begun e))
