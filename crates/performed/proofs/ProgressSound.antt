-- The operation that an actor has under way is one of its own, and its epoch lives or has an end.
use Rattle.std.proofs.Common.{◌≡◌, ℕ, zero, suc, ◌+◌, ◌==◌, ◌&&◌, ◌||◌, not, Bool, true, false, if◌then◌else◌, List, [], ◌∷◌, replicate, Option, Some, None, is_some, refl, sym, ◌∙◌, subst, arith, true≢false}
use Rattle.std.specs.Prelude.{option_map}
use Rattle.std.proofs.lemmas.Bool.{and_parts, or_right}
use Rattle.script_reader.specs.declared.types.Script.{Script}
use Rattle.report.specs.declared.line.Line.{Line}
use Rattle.report.specs.declared.line.Line.TheVariants as line
use Rattle.editor.specs.declared.editing.Attempt.{Attempt}
use Rattle.epoch_cache.specs.declared.past.Past.{Past}
use Rattle.epoch_cache.specs.Past.{counted}
use Rattle.rules.specs.declared.kept.Begun.{Begun}
use Rattle.rules.specs.declared.kept.Job.{Job}
use Rattle.rules.specs.declared.kept.Kept.{Kept}
use Rattle.rules.specs.History.{begins_epoch, stops_epoch, ends_epoch, history_after, is_living}
use Rattle.rules.specs.Kept.{actor_count, first_job, operation_at, job_of, begun_of}
use Rattle.rules.specs.After.{facts_of, decision_at, ended_by, begun_beside, begun_with, fresh_begun, begun_exchanged, begun_failed, edit_of, job_beside, jobs_beside, own_job, kept_after, kept_of}
use Rattle.rules.specs.Kept.{operation_now, change_at}
use Rattle.performed.specs.Followed.{is_followed, are_followed}
use Rattle.performed.proofs.ProgressJobs.{changed, mapped}
use Rattle.performed.proofs.ProgressBegins.{Starts, starts, operation_there}

-- its epoch lives, or has an end
abbrev pub lives_or_ended : Past → Option ℕ → Option ℕ → Bool
lives_or_ended h None ended = true
lives_or_ended h (Some e) ended = is_living h e || is_some ended

pub record IsSoundBegun (s : Script) (h : Past) (actor : ℕ) (b : Begun) : Type 0 where
  pub there : is_some (operation_at s actor b.index) ≡ true
  pub lives : lives_or_ended h b.epoch b.ended ≡ true

abbrev pub IsSoundOption : Script → Past → ℕ → Option Begun → Type 0
IsSoundOption s h actor None = Unit {0}
IsSoundOption s h actor (Some b) = IsSoundBegun s h actor b

abbrev pub IsSoundJob : Script → Past → ℕ → Job → Type 0
IsSoundJob s h actor job = IsSoundOption s h actor job.begun

-- ---- an epoch's end

flip : (a b : ℕ) → (a == b) ≡ (b == a)
flip a b = grind arith

some_either : (b : Bool) (v n : ℕ) → is_some (if b then Some v else Some n) ≡ true
some_either true v n = refl
some_either false v n = refl

some_if : (b : Bool) (v : ℕ) → b ≡ true → is_some (if b then Some v else None) ≡ true
some_if true v h = refl
some_if false v h = absurd (true≢false (sym h))

and_true : (a b : Bool) → a ≡ true → b ≡ true → a && b ≡ true
and_true true b ha hb = hb
and_true false b ha hb = absurd (true≢false (sym ha))

or_false : (b : Bool) → (b || false) ≡ true → b ≡ true
or_false true h = refl
or_false false h = h

or_true : (b : Bool) → b ≡ true → (b || false) ≡ true
or_true true h = refl
or_true false h = h

-- an epoch that lived lives on, or the line ends it
goes_on : (begins stops living : Bool) (epoch e event : ℕ) → living ≡ true → (epoch == e) ≡ true → (((begins || (not stops && living)) && (counted begins epoch == e)) || is_some (if ((begins || stops) && living) && (e == epoch) then Some event else None)) ≡ true
goes_on begins stops false epoch e event l h = absurd (true≢false (sym l))
goes_on true stops true epoch e event l h = or_right (epoch + 1 == e) (is_some (if e == epoch then Some event else None)) (some_if (e == epoch) event (flip e epoch ∙ h))
goes_on false true true epoch e event l h = some_if (e == epoch) event (flip e epoch ∙ h)
goes_on false false true epoch e event l h = or_true (epoch == e) h

lives_by : (l : Line) (h : Past) (e : ℕ) (ended : Option ℕ) → (is_living h e || is_some ended) ≡ true → (is_living (history_after l h) e || is_some (ended_by (ends_epoch l h) h.epoch (h.events + 1) (Some e) ended)) ≡ true
lives_by l h e (Some n) p = or_right (is_living (history_after l h) e) (is_some (ended_by (ends_epoch l h) h.epoch (h.events + 1) (Some e) (Some n))) (some_either (ends_epoch l h && (e == h.epoch)) (h.events + 1) n)
lives_by l h e None p =
    let q = and_parts h.living (h.epoch == e) (or_false (is_living h e) p) in
    goes_on (begins_epoch l) (stops_epoch l) h.living h.epoch e (h.events + 1) q.0 q.1

pub lives_step : (l : Line) (h : Past) (o ended : Option ℕ) → lives_or_ended h o ended ≡ true → lives_or_ended (history_after l h) o (ended_by (ends_epoch l h) h.epoch (h.events + 1) o ended) ≡ true
lives_step l h None ended p = refl
lives_step l h (Some e) ended p = lives_by l h e ended p

-- a fresh operation's epoch is the one that lives
living_now : (h : Past) (living : Bool) (epoch : ℕ) → h.living ≡ living → h.epoch ≡ epoch → lives_or_ended h (if living then Some epoch else None) None ≡ true
living_now h true epoch l e = or_true (is_living h epoch) (and_true h.living (h.epoch == epoch) l (same h.epoch epoch e))
  where
    same : (a b : ℕ) → a ≡ b → (a == b) ≡ true
    same a b p = grind arith
living_now h false epoch l e = refl

pub fresh_lives : (i : ℕ) (h : Past) → lives_or_ended h (fresh_begun i h).epoch None ≡ true
fresh_lives i h = living_now h h.living h.epoch refl refl

-- ---- a line

begun_kept : (s : Script) (h : Past) (actor : ℕ) (g : Begun → Begun) → ((b : Begun) → IsSoundBegun s h actor b → IsSoundBegun s h actor (g b)) → (o : Option Begun) → IsSoundOption s h actor o → IsSoundOption s h actor (option_map g o)
begun_kept s h actor g step None p = tt
begun_kept s h actor g step (Some b) p = step b p

module _ (s : Script) (k : Kept) (each : (i : ℕ) → IsSoundJob s k.history i (job_of i k.jobs)) where
  begun_step : (l : Line) (i : ℕ) (o : Option Begun) → IsSoundOption s k.history i o → IsSoundOption s (history_after l k.history) i (option_map (begun_beside l k.history.epoch (facts_of s l k)) o)
  begun_step l i None p = tt
  begun_step l i (Some b) p = record { there = p.there; lives = lives_step l k.history b.epoch b.ended p.lives }

  beside_sound : (l : Line) (i : ℕ) → IsSoundJob s (history_after l k.history) i (job_of i (jobs_beside l k.history.epoch (facts_of s l k) k.selected k.jobs))
  beside_sound l i =
      mapped (job_beside l k.history.epoch (facts_of s l k) k.selected) (λ (j : ℕ) (job : Job). IsSoundJob s k.history j job) (λ (j : ℕ) (job : Job). IsSoundJob s (history_after l k.history) j job) k.jobs each
      (λ (j : ℕ) (x : Job). begun_step l j x.begun)
      (λ (j : ℕ) p. tt) i

  own_sound : (l : Line) (a : ℕ) → ((x : Job) → IsSoundJob s (history_after l k.history) a x → IsSoundJob s (history_after l k.history) a (own_job s l k (facts_of s l k) (decision_at s l k).attempt x)) → (i : ℕ) → IsSoundJob s (history_after l k.history) i (job_of i (change_at a (own_job s l k (facts_of s l k) (decision_at s l k).attempt) (jobs_beside l k.history.epoch (facts_of s l k) k.selected k.jobs)))
  own_sound l a own i =
      changed (own_job s l k (facts_of s l k) (decision_at s l k).attempt) (λ (j : ℕ) (job : Job). IsSoundJob s (history_after l k.history) j job)
      (jobs_beside l k.history.epoch (facts_of s l k) k.selected k.jobs) a own (beside_sound l) i

  turn_sound : (a : ℕ) (attempt : Option Attempt) (x : Job) → IsSoundJob s k.history a x → IsSoundJob s k.history a (own_job s (line.Turn a) k (facts_of s (line.Turn a) k) attempt x)
  turn_sound zero attempt x p = p
  turn_sound (suc a) attempt x p = begun_kept s k.history (suc a) (begun_with attempt) (λ b q. record { there = q.there; lives = q.lives }) x.begun p

  fresh_sound : (a i : ℕ) (attempt : Option Attempt) → Starts s k a i → IsSoundBegun s k.history a (begun_with attempt (fresh_begun i k.history))
  fresh_sound a i attempt t = record { there = operation_there s k a i t; lives = fresh_lives i k.history }

  step : (l : Line) → is_followed s k l ≡ true → (i : ℕ) → IsSoundJob s (kept_after s l k).history i (job_of i (kept_after s l k).jobs)
  step (line.Turn a) h i = own_sound (line.Turn a) a (turn_sound a (decision_at s (line.Turn a) k).attempt) i
  step (line.Begin a op) h i = own_sound (line.Begin a op) a (λ x p. fresh_sound a op (decision_at s (line.Begin a op) k).attempt (starts s k op a h)) i
  step (line.Exchange a c r) h i = own_sound (line.Exchange a c r) a (λ x p. begun_kept s (history_after (line.Exchange a c r) k.history) a (begun_exchanged (edit_of (operation_now s a k.jobs)) k.selected k.chain (facts_of s (line.Exchange a c r) k).event c r) (λ b q. record { there = q.there; lives = q.lives }) x.begun p) i
  step (line.Failed a c d) h i = own_sound (line.Failed a c d) a (λ x p. begun_kept s (history_after (line.Failed a c d) k.history) a (begun_failed (edit_of (operation_now s a k.jobs)) k.selected k.chain (facts_of s (line.Failed a c d) k).event c) (λ b q. record { there = q.there; lives = q.lives }) x.begun p) i
  step (line.Answered a op given) h i = own_sound (line.Answered a op given) a (λ x p. tt) i
  step (line.Reset a) h i = beside_sound (line.Reset a) i
  step (line.ResetFailed a) h i = beside_sound (line.ResetFailed a) i
  step (line.World a e) h i = beside_sound (line.World a e) i
  step (line.Published n f e v text) h i = beside_sound (line.Published n f e v text) i
  step (line.EpochEnd n e v) h i = beside_sound (line.EpochEnd n e v) i
  step (line.Refused f n) h i = beside_sound (line.Refused f n) i

-- ---- all lines

first_begun : (n i : ℕ) → begun_of i (replicate n first_job) ≡ None
first_begun zero i = refl
first_begun (suc n) zero = refl
first_begun (suc n) (suc i) = first_begun n i

pub sound : (s : Script) (lines : List Line) → are_followed s lines ≡ true → (i : ℕ) → IsSoundJob s (kept_of s lines).history i (job_of i (kept_of s lines).jobs)
sound s [] h i = subst (λ (o : Option Begun). IsSoundOption s (kept_of s []).history i o) (sym (first_begun (actor_count s + 1) i)) tt
sound s (l ∷ earlier) h i =
    let q = and_parts (are_followed s earlier) (is_followed s (kept_of s earlier) l) h in
    step s (kept_of s earlier) (sound s earlier q.0) l q.1 i
