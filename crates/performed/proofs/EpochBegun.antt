-- What is known of an operation whose epoch lives: no end of it is kept, and none was told.
use Rattle.std.proofs.Common.{◌≡◌, ℕ, zero, suc, ◌+◌, ◌==◌, ◌&&◌, Bool, true, false, if◌then◌else◌, List, [], ◌∷◌, replicate, Option, Some, None, is_some, refl, sym, ap, ◌∙◌, subst, true≢false}
use Rattle.std.specs.Prelude.{option_map}
use Rattle.std.proofs.lemmas.Bool.{and_parts, eqb-true, eq-eqb}
use Rattle.apdu.specs.Values.{CommandValue, ResponseValue}
use Rattle.apdu.specs.Words.{same_number}
use Rattle.card_model.specs.declared.world.WorldEvent.{WorldEvent}
use Rattle.card_model.specs.declared.world.WorldEvent.TheVariants as world_event
use Rattle.script_reader.specs.declared.types.Script.{Script}
use Rattle.report.specs.declared.line.Line.{Line}
use Rattle.report.specs.declared.line.Line.TheVariants as line
use Rattle.rules.specs.declared.due.Due.{Due}
use Rattle.rules.specs.declared.due.Due.TheVariants.{TellEnd as tell_end}
use Rattle.rules.specs.declared.kept.Begun.{Begun}
use Rattle.rules.specs.declared.kept.Facts.{Facts}
use Rattle.rules.specs.declared.kept.Job.{Job}
use Rattle.rules.specs.declared.kept.Kept.{Kept}
use Rattle.rules.specs.History.{ends_epoch, lives_in}
use Rattle.rules.specs.Channels.{held_numbers}
use Rattle.rules.specs.Kept.{actor_count, first_job, job_of, begun_of, operation_now, change_at}
use Rattle.rules.specs.After.{begun_beside, begun_exchanged, begun_failed, begun_with, decision_at, edit_of, facts_of, job_beside, jobs_beside, own_job, refused_of, told_by, kept_after, kept_of}
use Rattle.rules.specs.Due.{due}
use Rattle.rules.specs.Performed.{is_end_told, is_reset, is_sent}
use Rattle.rules.specs.Rules.{is_turn_of}
use Rattle.performed.specs.Followed.{is_tried, are_followed, is_followed}
use Rattle.performed.specs.Laws.{ended_at}
use Rattle.performed.proofs.EpochEnds.{led_ended}
use Rattle.performed.proofs.EpochLives.{impossible, none_ended, reset_no_end, sent_no_end, tried_no_end}
use Rattle.performed.proofs.EpochNames.{EndBegun, begun_ends, none_ended as unended}
use Rattle.performed.proofs.ProgressJobs.{changed, mapped}
use Rattle.performed.proofs.TurnsSays.{says_of}

-- ---- the end that a turn has to tell happened

abbrev pub EndTurn : Script → List Line → Option (ℕ × ℕ) → Type 0
EndTurn s lines None = Unit {0}
EndTurn s lines (Some (e, n)) = ended_at s e lines ≡ Some n

module _ (s : Script) (earlier : List Line) (t : EndTurn s earlier (kept_of s earlier).turn.ended) where
  abbrev k : Kept
  k = kept_of s earlier

  none_turn : (lines : List Line) (o : Option (ℕ × ℕ)) → o ≡ None → EndTurn s lines o
  none_turn lines None h = tt
  none_turn lines (Some (e, n)) h = absurd (cc)

  -- a line that ends no epoch
  still_turn : (l : Line) → ends_epoch l k.history ≡ false → (o : Option (ℕ × ℕ)) → EndTurn s earlier o → EndTurn s (l ∷ earlier) o
  still_turn l stays None h = tt
  still_turn l stays (Some (e, n)) h = ap (λ (b : Bool). if b && (k.history.epoch == e) then Some (k.history.events + 1) else ended_at s e earlier) stays ∙ h

  -- an event
  ends_turn_by : (l : Line) (b : Bool) → ends_epoch l k.history ≡ b → k.turn.ended ≡ None → EndTurn s (l ∷ earlier) (if b then Some (k.history.epoch, k.history.events + 1) else k.turn.ended)
  ends_turn_by l true e none = ap (λ (x : Bool). if x && (k.history.epoch == k.history.epoch) then Some (k.history.events + 1) else ended_at s k.history.epoch earlier) e ∙ ap (λ (x : Bool). if x then Some (k.history.events + 1) else ended_at s k.history.epoch earlier) (eq-eqb k.history.epoch k.history.epoch refl)
  ends_turn_by l false e none = none_turn (l ∷ earlier) k.turn.ended none

  event_turn : (l : Line) → k.turn.ended ≡ None → (kept_after s l k).turn.ended ≡ (if ends_epoch l k.history then Some (k.history.epoch, k.history.events + 1) else k.turn.ended) → EndTurn s (l ∷ earlier) (kept_after s l k).turn.ended
  event_turn l none is = subst (λ (o : Option (ℕ × ℕ)). EndTurn s (l ∷ earlier) o) (sym is) (ends_turn_by l (ends_epoch l k.history) refl none)

  exchange_turn : (a : ℕ) (c : CommandValue) (r : ResponseValue) → EndTurn s (line.Exchange a c r ∷ earlier) (kept_after s (line.Exchange a c r) k).turn.ended
  exchange_turn a c r =
      let l : Line = line.Exchange a c r in
      let facts : Facts = facts_of s l k in
      let same : (kept_after s l k).turn.ended ≡ k.turn.ended = led_ended (operation_now s a k.jobs) (job_of a (kept_after s l k).jobs) (held_numbers k.history k.handles) facts.touch.refresh (refused_of k.selected (jobs_beside l k.history.epoch facts k.selected k.jobs) facts.answered) k.turn facts.answered in
      subst (λ (o : Option (ℕ × ℕ)). EndTurn s (l ∷ earlier) o) (sym same) (still_turn l refl k.turn.ended t)

  world_turn : (a : ℕ) (e : WorldEvent) → k.turn.ended ≡ None → EndTurn s (line.World a e ∷ earlier) (kept_after s (line.World a e) k).turn.ended
  world_turn a (world_event.Insert j) none = event_turn (line.World a (world_event.Insert j)) none refl
  world_turn a world_event.Out none = event_turn (line.World a world_event.Out) none refl
  world_turn a (world_event.Arm i) none = event_turn (line.World a (world_event.Arm i)) none refl

  line_turn : (l : Line) → is_followed s k l ≡ true → EndTurn s (l ∷ earlier) (kept_after s l k).turn.ended
  line_turn (line.Turn a) h = tt
  line_turn (line.Begin a i) h = still_turn (line.Begin a i) refl k.turn.ended t
  line_turn (line.Exchange a c r) h = exchange_turn a c r
  line_turn (line.Failed a c d) h = event_turn (line.Failed a c d) (none_ended s k (sent_no_end (due s k) (line.Failed a c d) (and_parts (is_turn_of a k.turn) (is_sent (due s k) (line.Failed a c d)) h).1)) refl
  line_turn (line.Reset a) h = event_turn (line.Reset a) (none_ended s k (reset_no_end (due s k) (and_parts (is_turn_of a k.turn) (is_reset (due s k)) h).1)) refl
  line_turn (line.ResetFailed a) h = event_turn (line.ResetFailed a) (none_ended s k (reset_no_end (due s k) (and_parts (is_turn_of a k.turn) (is_reset (due s k)) h).1)) refl
  line_turn (line.World a e) h = world_turn a e (none_ended s k (tried_no_end e (due s k) (and_parts (is_turn_of a k.turn) (is_tried e (due s k)) h).1))
  line_turn (line.Published n f e v text) h = still_turn (line.Published n f e v text) refl k.turn.ended t
  line_turn (line.EpochEnd n e v) h = tt
  line_turn (line.Refused f n) h = still_turn (line.Refused f n) refl k.turn.ended t
  line_turn (line.Answered a i given) h = still_turn (line.Answered a i given) refl k.turn.ended t

pub turn_ends : (s : Script) (lines : List Line) → are_followed s lines ≡ true → EndTurn s lines (kept_of s lines).turn.ended
turn_ends s [] h = tt
turn_ends s (l ∷ earlier) h =
    let p = and_parts (are_followed s earlier) (is_followed s (kept_of s earlier) l) h in
    line_turn s earlier (turn_ends s earlier p.0) l p.1

-- ---- what was told of the epoch of an operation happened

-- the publication that tells its end comes behind that end
abbrev pub ToldBegun : Option Begun → Type 0
ToldBegun None = Unit {0}
ToldBegun (Some b) = is_some b.told ≡ true → is_some b.ended ≡ true

abbrev ToldJob : ℕ → Job → Type 0
ToldJob i job = ToldBegun job.begun

told_map : (f : Begun → Begun) → ((b : Begun) → (f b).told ≡ b.told) → ((b : Begun) → (f b).ended ≡ b.ended) → (o : Option Begun) → ToldBegun o → ToldBegun (option_map f o)
told_map f told ended None p = tt
told_map f told ended (Some b) p = λ h. ap is_some (ended b) ∙ p (sym (ap is_some (told b)) ∙ h)

some_either : (b : Bool) (n : ℕ) (o : Option ℕ) → is_some o ≡ true → is_some (if b then Some n else o) ≡ true
some_either true n o h = refl
some_either false n o h = h

module _ (s : Script) (earlier : List Line) (followed : are_followed s earlier ≡ true) (each : (i : ℕ) → ToldJob i (job_of i (kept_of s earlier).jobs)) where
  abbrev kept : Kept
  kept = kept_of s earlier

  -- behind a line that tells no end
  quiet_told : (l : Line) → ((epoch told : Option ℕ) → told_by l epoch told ≡ told) → (i : ℕ) (o : Option Begun) → ToldBegun o → ToldBegun (option_map (begun_beside l kept.history.epoch (facts_of s l kept)) o)
  quiet_told l same i None p = tt
  quiet_told l same i (Some b) p = λ h.
      some_either ((facts_of s l kept).ends && same_number b.epoch (Some kept.history.epoch)) (kept.history.events + 1) b.ended (p (sym (ap is_some (same b.epoch b.told)) ∙ h))

  beside_told : (l : Line) → ((i : ℕ) (o : Option Begun) → o ≡ begun_of i kept.jobs → ToldBegun o → ToldBegun (option_map (begun_beside l kept.history.epoch (facts_of s l kept)) o)) → (i : ℕ) → ToldJob i (job_of i (jobs_beside l kept.history.epoch (facts_of s l kept) kept.selected kept.jobs))
  beside_told l near i =
      mapped (job_beside l kept.history.epoch (facts_of s l kept) kept.selected) (λ (j : ℕ) (x : Job). (x.begun ≡ begun_of j kept.jobs) × ToldBegun x.begun) ToldJob kept.jobs (λ (j : ℕ). (refl, each j))
      (λ (j : ℕ) (x : Job) p. near j x.begun p.0 p.1)
      (λ (j : ℕ) p. tt) i

  quiet_beside : (l : Line) → ((epoch told : Option ℕ) → told_by l epoch told ≡ told) → (i : ℕ) → ToldJob i (job_of i (jobs_beside l kept.history.epoch (facts_of s l kept) kept.selected kept.jobs))
  quiet_beside l same i = beside_told l (λ j o e p. quiet_told l same j o p) i

  own_told : (l : Line) (a : ℕ) → ((x : Job) → ToldJob a x → ToldJob a (own_job s l kept (facts_of s l kept) (decision_at s l kept).attempt x)) → ((epoch told : Option ℕ) → told_by l epoch told ≡ told) → (i : ℕ) → ToldJob i (job_of i (change_at a (own_job s l kept (facts_of s l kept) (decision_at s l kept).attempt) (jobs_beside l kept.history.epoch (facts_of s l kept) kept.selected kept.jobs)))
  own_told l a own same i =
      changed (own_job s l kept (facts_of s l kept) (decision_at s l kept).attempt) ToldJob
      (jobs_beside l kept.history.epoch (facts_of s l kept) kept.selected kept.jobs) a own (quiet_beside l same) i

  marked_told : (a : ℕ) (x : Job) → ToldJob a x → ToldJob a (own_job s (line.Turn a) kept (facts_of s (line.Turn a) kept) (decision_at s (line.Turn a) kept).attempt x)
  marked_told zero x p = p
  marked_told (suc a) x p = told_map (begun_with (decision_at s (line.Turn (suc a)) kept).attempt) (λ b. refl) (λ b. refl) x.begun p

  -- the line that tells the end of an epoch
  end_of : (number e n : ℕ) (d : Due) → due s kept ≡ d → is_end_told kept number e n d ≡ true → ended_at s e earlier ≡ Some n
  end_of number e n (tell_end g m) is h =
      let q = and_parts ((number == kept.publications + 1) && (e == g)) (n == m) h in
      let p = and_parts (number == kept.publications + 1) (e == g) q.0 in
      ap (λ (x : ℕ). ended_at s x earlier) (eqb-true e g p.1)
      ∙ subst (λ (o : Option (ℕ × ℕ)). EndTurn s earlier o) (says_of s kept (tell_end g m) is) (turn_ends s earlier followed)
      ∙ ap (λ (x : ℕ). Some x) (sym (eqb-true n m q.1))
  end_of number e n d is h = impossible h

  told_now : (number e n : ℕ) (b : Begun) → ended_at s e earlier ≡ Some n → EndBegun s earlier (Some b) → (x : Bool) → same_number b.epoch (Some e) ≡ x → (is_some b.told ≡ true → is_some b.ended ≡ true) → is_some (if x then Some number else b.told) ≡ true → is_some b.ended ≡ true
  told_now number e n b ends known true at p h = by_epoch b.epoch at known
    where
      by_epoch : (o : Option ℕ) → same_number o (Some e) ≡ true → EndBegun s earlier (Some (record b { epoch = o })) → is_some b.ended ≡ true
      by_epoch None q y = impossible q
      by_epoch (Some m) q y = ap is_some (y ∙ ap (λ (x : ℕ). ended_at s x earlier) (eqb-true m e q) ∙ ends)
  told_now number e n b ends known false at p h = p h

  end_told : (number e n : ℕ) → is_followed s kept (line.EpochEnd number e n) ≡ true → (i : ℕ) (o : Option Begun) → o ≡ begun_of i kept.jobs → ToldBegun o → ToldBegun (option_map (begun_beside (line.EpochEnd number e n) kept.history.epoch (facts_of s (line.EpochEnd number e n) kept)) o)
  end_told number e n f i None is p = tt
  end_told number e n f i (Some b) is p =
      told_now number e n b (end_of number e n (due s kept) refl f) (subst (λ (o : Option Begun). EndBegun s earlier o) (sym is) (begun_ends s earlier i)) (same_number b.epoch (Some e)) refl p

  line_told : (l : Line) → is_followed s kept l ≡ true → (i : ℕ) → ToldJob i (job_of i (kept_after s l kept).jobs)
  line_told (line.Turn a) f i = own_told (line.Turn a) a (marked_told a) (λ e t. refl) i
  line_told (line.Begin a op) f i = own_told (line.Begin a op) a (λ x p h. impossible h) (λ e t. refl) i
  line_told (line.Exchange a c r) f i = own_told (line.Exchange a c r) a (λ x p. told_map (begun_exchanged (edit_of (operation_now s a kept.jobs)) kept.selected kept.chain (facts_of s (line.Exchange a c r) kept).event c r) (λ b. refl) (λ b. refl) x.begun p) (λ e t. refl) i
  line_told (line.Failed a c d) f i = own_told (line.Failed a c d) a (λ x p. told_map (begun_failed (edit_of (operation_now s a kept.jobs)) kept.selected kept.chain (facts_of s (line.Failed a c d) kept).event c) (λ b. refl) (λ b. refl) x.begun p) (λ e t. refl) i
  line_told (line.Answered a op given) f i = own_told (line.Answered a op given) a (λ x p. tt) (λ e t. refl) i
  line_told (line.Reset a) f i = quiet_beside (line.Reset a) (λ e t. refl) i
  line_told (line.ResetFailed a) f i = quiet_beside (line.ResetFailed a) (λ e t. refl) i
  line_told (line.World a e) f i = quiet_beside (line.World a e) (λ x t. refl) i
  line_told (line.Published n g e v text) f i = quiet_beside (line.Published n g e v text) (λ x t. refl) i
  line_told (line.Refused g n) f i = quiet_beside (line.Refused g n) (λ e t. refl) i
  line_told (line.EpochEnd n e v) f i = beside_told (line.EpochEnd n e v) (end_told n e v f) i

pub first_begun : (n i : ℕ) → begun_of i (replicate n first_job) ≡ None
first_begun zero i = refl
first_begun (suc n) zero = refl
first_begun (suc n) (suc i) = first_begun n i

pub told_begun : (s : Script) (lines : List Line) → are_followed s lines ≡ true → (i : ℕ) → ToldJob i (job_of i (kept_of s lines).jobs)
told_begun s [] f i = subst (λ (o : Option Begun). ToldBegun o) (sym (first_begun (actor_count s + 1) i)) tt
told_begun s (l ∷ earlier) f i =
    let p = and_parts (are_followed s earlier) (is_followed s (kept_of s earlier) l) f in
    line_told s earlier p.0 (told_begun s earlier p.0) l p.1 i

-- ---- so of an operation whose epoch lives no end is kept, and none was told

pub record IsUnended (b : Begun) : Type 0 where
  pub ended : b.ended ≡ None
  pub told : b.told ≡ None

no_value : (o : Option ℕ) → (is_some o ≡ true → ⊥) → o ≡ None
no_value None h = refl
no_value (Some n) h = absurd (h refl)

pub living_unended : (s : Script) (lines : List Line) → are_followed s lines ≡ true → (i : ℕ) (b : Begun) → begun_of i (kept_of s lines).jobs ≡ Some b → lives_in (kept_of s lines).history b.epoch ≡ true → IsUnended b
living_unended s lines f i b is lives =
    let known : EndBegun s lines (Some b) = subst (λ (o : Option Begun). EndBegun s lines o) is (begun_ends s lines i) in
    let told : ToldBegun (Some b) = subst (λ (o : Option Begun). ToldBegun o) is (told_begun s lines f i) in
    let none : b.ended ≡ None = ended_none b.epoch lives known in
    record { ended = none; told = no_value b.told (λ h. true≢false (sym (told h) ∙ ap is_some none)) }
  where
    ended_none : (o : Option ℕ) → lives_in (kept_of s lines).history o ≡ true → EndBegun s lines (Some (record b { epoch = o })) → b.ended ≡ None
    ended_none None h p = impossible h
    ended_none (Some e) h p = p ∙ unended s e lines h
