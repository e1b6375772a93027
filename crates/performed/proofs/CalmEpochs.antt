-- The epoch of an operation that lives has no end; and in the turn of an open that has sent its MANAGE CHANNEL, or is to send it, the
-- operation's epoch lives while any does.
use Rattle.std.proofs.Common.{◌≡◌, ◌≤◌, ℕ, zero, suc, ◌+◌, ◌==◌, ◌&&◌, ◌||◌, not, Bool, true, false, if◌then◌else◌, List, [], ◌∷◌, replicate, Option, Some, None, is_none, refl, sym, ap, ◌∙◌, subst, arith, true≢false}
use Rattle.std.specs.Prelude.{option_map}
use Rattle.std.proofs.lemmas.Bool.{and_parts, and_from, eqb-true, eq-eqb}
use Rattle.apdu.specs.Values.{CommandValue, ResponseValue}
use Rattle.apdu.specs.Apdu.{manage_channel_ins, verify_ins}
use Rattle.card_model.specs.declared.world.WorldEvent.{WorldEvent}
use Rattle.channels.specs.Channels.{open_command}
use Rattle.script_reader.specs.declared.types.Script.{Script}
use Rattle.script_reader.specs.declared.types.Operation.{Operation}
use Rattle.script_reader.specs.declared.types.Operation.TheVariants as operation
use Rattle.script_reader.specs.Rules.{keeps_rules}
use Rattle.report.specs.declared.answer.Answer.{Answer}
use Rattle.report.specs.declared.line.Line.{Line}
use Rattle.report.specs.declared.line.Line.TheVariants as line
use Rattle.epoch_cache.specs.declared.past.Past.{Past}
use Rattle.epoch_cache.specs.Past.{counted}
use Rattle.loader.specs.declared.reading.RefusedReading.{RefusedReading}
use Rattle.link.specs.declared.chain.Final.{Final}
use Rattle.rules.specs.declared.due.Due.{Due}
use Rattle.rules.specs.declared.due.Due.TheVariants.{ResetCard as reset_card, TryEvent as try_event}
use Rattle.rules.specs.declared.holdings.Handle.{Handle}
use Rattle.rules.specs.declared.kept.Begun.{Begun}
use Rattle.rules.specs.declared.kept.Facts.{Facts}
use Rattle.rules.specs.declared.kept.Job.{Job}
use Rattle.rules.specs.declared.kept.Kept.{Kept}
use Rattle.rules.specs.declared.kept.Stage.{Stage}
use Rattle.rules.specs.declared.kept.Stage.TheVariants.{Fresh as fresh, Next as next, Resetting as resetting, Over as over}
use Rattle.rules.specs.declared.kept.Turn.{Turn}
use Rattle.rules.specs.declared.kept.Work.{Work}
use Rattle.rules.specs.declared.kept.Work.TheVariants.{Rests as rests, Sends as sends}
use Rattle.rules.specs.History.{begins_epoch, stops_epoch, ends_epoch, history_after, is_living, lives_in}
use Rattle.rules.specs.Channels.{held_numbers}
use Rattle.rules.specs.Kept.{actor_count, first_job, job_of, begun_of, operation_now, change_at}
use Rattle.rules.specs.After.{ended_by, begun_beside, begun_with, begun_exchanged, begun_failed, edit_of, job_beside, jobs_beside, jobs_of_actor, own_job, decision_of_begun, decision_at, facts_of, refused_of, kept_after, kept_of}
use Rattle.rules.specs.Due.{due, is_reset_due, event_by_stage, is_lost, with_ended, with_card}
use Rattle.rules.specs.Performed.{is_reset}
use Rattle.rules.specs.Rules.{is_turn_of}
use Rattle.performed.specs.Names.{has_utf8_names}
use Rattle.performed.specs.Followed.{is_tried, is_followed, are_followed}
use Rattle.performed.proofs.CalmBehind.{actor_is, none_of_framework}
use Rattle.performed.proofs.CalmKinds.{SendsFirst, WorkFits, Sends}
use Rattle.performed.proofs.CalmOps.{same_operation}
use Rattle.performed.proofs.CalmSends.{raw_other}
use Rattle.performed.proofs.CalmLines.{sends_of, turn_by, exchanged_actor}
use Rattle.performed.proofs.CalmState.{OpensAlive}
use Rattle.performed.proofs.LegalResets.{CalmTurn, turn_calm, resets_framework}
use Rattle.performed.proofs.MeasureSays.{stands_of}
use Rattle.performed.proofs.ProgressJobs.{changed, mapped}
use Rattle.performed.proofs.TurnsSays.{BeginsNow, begins_now}

-- ---- an epoch and its end

-- it has begun, and while it lives it has no end
record IsSince (h : Past) (e : ℕ) (ended : Option ℕ) : Type 0 where
  pub since : e ≤ h.epoch
  pub unended : is_living h e ≡ true → ended ≡ None

abbrev SinceOption : Past → Option ℕ → Option ℕ → Type 0
SinceOption h None ended = Unit {0}
SinceOption h (Some e) ended = IsSince h e ended

abbrev SinceBegun : Past → Option Begun → Type 0
SinceBegun h None = Unit {0}
SinceBegun h (Some b) = SinceOption h b.epoch b.ended

abbrev SinceJob : Past → ℕ → Job → Type 0
SinceJob h i job = SinceBegun h job.begun

later : (begins : Bool) (epoch e : ℕ) → e ≤ epoch → e ≤ counted begins epoch
later true epoch e h = omega (arith, h)
later false epoch e h = h

unlike_next : (epoch e : ℕ) → e ≤ epoch → (epoch + 1 == e) ≡ true → ⊥
unlike_next epoch e h q = let same : epoch + 1 ≡ e = eqb-true (epoch + 1) e q in omega (arith, h, same)

-- one that lives behind a line lived before it, and the line does not end it
unended_by : (begins stops living : Bool) (epoch e event : ℕ) (ended : Option ℕ) → e ≤ epoch → ((living && (epoch == e)) ≡ true → ended ≡ None) → ((begins || (not stops && living)) && (counted begins epoch == e)) ≡ true → (if ((begins || stops) && living) && (e == epoch) then Some event else ended) ≡ None
unended_by true stops living epoch e event ended since before lives = absurd (unlike_next epoch e since lives)
unended_by false true living epoch e event ended since before lives = absurd (true≢false (sym lives))
unended_by false false living epoch e event ended since before lives = before lives

since_step : (l : Line) (h : Past) (o ended : Option ℕ) → SinceOption h o ended → SinceOption (history_after l h) o (ended_by (ends_epoch l h) h.epoch (h.events + 1) o ended)
since_step l h None ended p = tt
since_step l h (Some e) ended p = record {
  since = later (begins_epoch l) h.epoch e p.since;
  unended = unended_by (begins_epoch l) (stops_epoch l) h.living h.epoch e (h.events + 1) ended p.since p.unended;
}

itself : (n : ℕ) → n ≤ n
itself n = omega arith

fresh_by : (living : Bool) (h : Past) → SinceOption h (if living then Some h.epoch else None) None
fresh_by true h = record { since = itself h.epoch; unended = λ lives. refl }
fresh_by false h = tt

since_map : (h : Past) (f : Begun → Begun) → ((b : Begun) → SinceOption h b.epoch b.ended → SinceOption h (f b).epoch (f b).ended) → (o : Option Begun) → SinceBegun h o → SinceBegun h (option_map f o)
since_map h f keeps None p = tt
since_map h f keeps (Some b) p = keeps b p

module _ (s : Script) (k : Kept) (each : (i : ℕ) → SinceJob k.history i (job_of i k.jobs)) where
  begun_since : (l : Line) (o : Option Begun) → SinceBegun k.history o → SinceBegun (history_after l k.history) (option_map (begun_beside l k.history.epoch (facts_of s l k)) o)
  begun_since l None p = tt
  begun_since l (Some b) p = since_step l k.history b.epoch b.ended p

  beside_since : (l : Line) (i : ℕ) → SinceJob (history_after l k.history) i (job_of i (jobs_beside l k.history.epoch (facts_of s l k) k.selected k.jobs))
  beside_since l i =
      mapped (job_beside l k.history.epoch (facts_of s l k) k.selected) (SinceJob k.history) (SinceJob (history_after l k.history)) k.jobs each
      (λ (j : ℕ) (x : Job). begun_since l x.begun)
      (λ (j : ℕ) p. tt) i

  own_since : (l : Line) (a : ℕ) → ((x : Job) → SinceJob (history_after l k.history) a x → SinceJob (history_after l k.history) a (own_job s l k (facts_of s l k) (decision_at s l k).attempt x)) → (i : ℕ) → SinceJob (history_after l k.history) i (job_of i (change_at a (own_job s l k (facts_of s l k) (decision_at s l k).attempt) (jobs_beside l k.history.epoch (facts_of s l k) k.selected k.jobs)))
  own_since l a own i =
      changed (own_job s l k (facts_of s l k) (decision_at s l k).attempt) (SinceJob (history_after l k.history))
      (jobs_beside l k.history.epoch (facts_of s l k) k.selected k.jobs) a own (beside_since l) i

  marked_since : (a : ℕ) (x : Job) → SinceJob k.history a x → SinceJob k.history a (own_job s (line.Turn a) k (facts_of s (line.Turn a) k) (decision_at s (line.Turn a) k).attempt x)
  marked_since zero x p = p
  marked_since (suc a) x p = since_map k.history (begun_with (decision_at s (line.Turn (suc a)) k).attempt) (λ b q. q) x.begun p

  line_since : (l : Line) (i : ℕ) → SinceJob (kept_after s l k).history i (job_of i (kept_after s l k).jobs)
  line_since (line.Turn a) i = own_since (line.Turn a) a (marked_since a) i
  line_since (line.Begin a op) i = own_since (line.Begin a op) a (λ x p. fresh_by k.history.living k.history) i
  line_since (line.Exchange a c r) i = own_since (line.Exchange a c r) a (λ x p. since_map (history_after (line.Exchange a c r) k.history) (begun_exchanged (edit_of (operation_now s a k.jobs)) k.selected k.chain (facts_of s (line.Exchange a c r) k).event c r) (λ b q. q) x.begun p) i
  line_since (line.Failed a c d) i = own_since (line.Failed a c d) a (λ x p. since_map (history_after (line.Failed a c d) k.history) (begun_failed (edit_of (operation_now s a k.jobs)) k.selected k.chain (facts_of s (line.Failed a c d) k).event c) (λ b q. q) x.begun p) i
  line_since (line.Answered a op given) i = own_since (line.Answered a op given) a (λ x p. tt) i
  line_since (line.Reset a) i = beside_since (line.Reset a) i
  line_since (line.ResetFailed a) i = beside_since (line.ResetFailed a) i
  line_since (line.World a e) i = beside_since (line.World a e) i
  line_since (line.Published n f e v text) i = beside_since (line.Published n f e v text) i
  line_since (line.EpochEnd n e v) i = beside_since (line.EpochEnd n e v) i
  line_since (line.Refused f n) i = beside_since (line.Refused f n) i

first_begun : (n i : ℕ) → begun_of i (replicate n first_job) ≡ None
first_begun zero i = refl
first_begun (suc n) zero = refl
first_begun (suc n) (suc i) = first_begun n i

since_of : (s : Script) (lines : List Line) (i : ℕ) → SinceJob (kept_of s lines).history i (job_of i (kept_of s lines).jobs)
since_of s [] i = subst (λ (o : Option Begun). SinceBegun (kept_of s []).history o) (sym (first_begun (actor_count s + 1) i)) tt
since_of s (l ∷ earlier) i = line_since s (kept_of s earlier) (since_of s earlier) l i

-- ---- only an open begins with its command

record IsOpen (op : Option Operation) : Type 0 where
  pub handle : ℕ
  pub aid : List ℕ
  pub is : op ≡ Some (operation.OpenChannel handle aid)

first_opens : (alive : ℕ → Bool) (handles : List Handle) (actor : Option ℕ) (op : Option Operation) → SendsFirst alive handles actor op open_command → IsOpen op
first_opens alive handles actor None h = absurd (true≢false (sym h))
first_opens alive handles actor (Some (operation.OpenChannel handle aid)) h = record { handle = handle; aid = aid; is = refl }
first_opens alive handles actor (Some (operation.Raw handle apdu)) h = absurd (raw_other manage_channel_ins apdu.ins refl h.allowed (ap (λ (c : CommandValue). c.ins == manage_channel_ins) (sym h.is)))
first_opens alive handles actor (Some (operation.Close handle)) h = absurd (true≢false (ap (λ (c : CommandValue). c.p1 == 0) h.is))
first_opens alive handles actor (Some (operation.Verify key pin)) h = absurd (true≢false (ap (λ (c : CommandValue). c.ins == verify_ins) (sym h)))
first_opens alive handles actor (Some operation.Poll) h = absurd (true≢false (ap (λ (c : CommandValue). c.ins == manage_channel_ins) h))
first_opens alive handles actor (Some op) h = absurd h

-- the turn's command is that of an open
abbrev opens : Turn → Type 0
opens t = t.work ≡ sends open_command

marked_opens : (s : Script) (k : Kept) (a : ℕ) → Sends s (kept_after s (line.Turn a) k) → opens (kept_after s (line.Turn a) k).turn → IsOpen (operation_now s a k.jobs)
marked_opens s k a t work =
    let new : Kept = kept_after s (line.Turn a) k in
    let first : SendsFirst (is_living new.history) new.handles (Some a) (operation_now s a new.jobs) open_command = subst (λ (w : Work). WorkFits (is_living new.history) new.handles (Some a) (operation_now s a new.jobs) w) work t.fits.1 in
    let is : IsOpen (operation_now s a new.jobs) = first_opens (is_living new.history) new.handles (Some a) (operation_now s a new.jobs) first in
    record { handle = is.handle; aid = is.aid; is = sym (same_operation s k (line.Turn a) a refl) ∙ is.is }

framework_marked : (s : Script) (k : Kept) → Sends s (kept_after s (line.Turn zero) k) → opens (kept_after s (line.Turn zero) k).turn → ⊥
framework_marked s k t work =
    let is : IsOpen (operation_now s 0 k.jobs) = marked_opens s k 0 t work in
    absurd (let e : None ≡ Some (operation.OpenChannel is.handle is.aid) = sym (none_of_framework s k) ∙ is.is in cc)

-- ---- the turn stays

exchanged_work : (op : Option Operation) (job : Job) (held : List ℕ) (facts : Facts) (refused : Option RefusedReading) (t : Turn) (o : Option Final) → (turn_by op job held facts refused t o).work ≡ t.work
exchanged_work op job held facts refused t None = refl
exchanged_work op job held facts refused t (Some f) = refl

record SameTurn (s : Script) (k : Kept) (l : Line) : Type 0 where
  pub actor : (kept_after s l k).turn.actor ≡ k.turn.actor
  pub work : (kept_after s l k).turn.work ≡ k.turn.work

exchange_same : (s : Script) (k : Kept) (a : ℕ) (c : CommandValue) (r : ResponseValue) → SameTurn s k (line.Exchange a c r)
exchange_same s k a c r =
    let l : Line = line.Exchange a c r in
    let facts : Facts = facts_of s l k in
    let beside : List Job = jobs_beside l k.history.epoch facts k.selected k.jobs in
    let job : Job = job_of a (jobs_of_actor s l k facts (decision_at s l k).attempt (Some a) beside) in
    let refused : Option RefusedReading = refused_of k.selected beside facts.answered in
    record {
      actor = exchanged_actor (operation_now s a k.jobs) job (held_numbers k.history k.handles) facts refused k.turn facts.answered;
      work = exchanged_work (operation_now s a k.jobs) job (held_numbers k.history k.handles) facts refused k.turn facts.answered;
    }

-- ---- the framework opens nothing

abbrev FrameworkOpens : Kept → Type 0
FrameworkOpens k = k.turn.actor ≡ Some zero → opens k.turn → ⊥

module _ (s : Script) (k : Kept) (before : FrameworkOpens k) where
  same_never : (l : Line) → SameTurn s k l → FrameworkOpens (kept_after s l k)
  same_never l same actor work = before (sym same.actor ∙ actor) (sym same.work ∙ work)

  begin_never : (a i : ℕ) → BeginsNow s k a i → FrameworkOpens (kept_after s (line.Begin a i) k)
  begin_never a i begins actor work = absurd (let e : Some (suc begins.begins.actor) ≡ Some zero = sym begins.begins.turn ∙ actor in cc)

  line_never : (l : Line) → Sends s (kept_after s l k) → is_followed s k l ≡ true → FrameworkOpens (kept_after s l k)
  line_never (line.Turn zero) t h actor work = framework_marked s k t work
  line_never (line.Turn (suc a)) t h actor work = absurd (cc)
  line_never (line.Begin a i) t h actor work = begin_never a i (begins_now s k a i h) actor work
  line_never (line.Exchange a c r) t h actor work = same_never (line.Exchange a c r) (exchange_same s k a c r) actor work
  line_never (line.Failed a c d) t h actor work = same_never (line.Failed a c d) (record { actor = refl; work = refl }) actor work
  line_never (line.Reset a) t h actor work = same_never (line.Reset a) (record { actor = refl; work = refl }) actor work
  line_never (line.ResetFailed a) t h actor work = same_never (line.ResetFailed a) (record { actor = refl; work = refl }) actor work
  line_never (line.World a e) t h actor work = same_never (line.World a e) (record { actor = refl; work = refl }) actor work
  line_never (line.Published n f e v text) t h actor work = same_never (line.Published n f e v text) (record { actor = refl; work = refl }) actor work
  line_never (line.EpochEnd n e v) t h actor work = same_never (line.EpochEnd n e v) (record { actor = refl; work = refl }) actor work
  line_never (line.Refused f n) t h actor work = same_never (line.Refused f n) (record { actor = refl; work = refl }) actor work
  line_never (line.Answered a i given) t h actor work = same_never (line.Answered a i given) (record { actor = refl; work = refl }) actor work

framework_never : (s : Script) (lines : List Line) → has_utf8_names s ≡ true → are_followed s lines ≡ true → FrameworkOpens (kept_of s lines)
framework_never s [] served followed actor work = absurd (cc)
framework_never s (l ∷ earlier) served followed actor work =
    let p = and_parts (are_followed s earlier) (is_followed s (kept_of s earlier) l) followed in
    line_never s (kept_of s earlier) (framework_never s earlier served p.0) l (sends_of s (l ∷ earlier) served followed) p.1 actor work

-- ---- in the turn of an open its epoch lives

abbrev Lives : Past → Option Begun → Type 0
Lives h None = Unit {0}
Lives h (Some b) = lives_in h b.epoch ≡ true

lives_map : (h : Past) (f : Begun → Begun) → ((b : Begun) → (f b).epoch ≡ b.epoch) → (o : Option Begun) → Lives h o → Lives h (option_map f o)
lives_map h f keeps None p = tt
lives_map h f keeps (Some b) p = ap (lives_in h) (keeps b) ∙ p

-- while any does
epoch_moved : (before after : Past) → after.living ≡ true → after.epoch ≡ before.epoch → (o : Option ℕ) → lives_in before o ≡ true → lives_in after o ≡ true
epoch_moved before after living epoch None p = p
epoch_moved before after living epoch (Some e) p = and_from after.living (after.epoch == e) living (ap (λ (n : ℕ). n == e) epoch ∙ (and_parts before.living (before.epoch == e) p).1)

lives_moved : (before after : Past) → after.living ≡ true → after.epoch ≡ before.epoch → (o : Option Begun) → Lives before o → Lives after o
lives_moved before after living epoch None p = tt
lives_moved before after living epoch (Some b) p = epoch_moved before after living epoch b.epoch p

abbrev OpensAt : Turn → Past → ℕ → Job → Type 0
OpensAt t h i job = t.actor ≡ Some i → opens t → h.living ≡ true → Lives h job.begun

lived : (begins stops living : Bool) → begins ≡ false → (begins || (not stops && living)) ≡ true → living ≡ true
lived true stops living e h = absurd (true≢false e)
lived false true living e h = absurd (true≢false (sym h))
lived false false living e h = h

fresh_alive : (living : Bool) (h : Past) → h.living ≡ living → living ≡ true → lives_in h (if living then Some h.epoch else None) ≡ true
fresh_alive true h e l = and_from h.living (h.epoch == h.epoch) e (eq-eqb h.epoch h.epoch refl)
fresh_alive false h e l = absurd (true≢false (sym l))

-- what an open does at its mark
if_sends : (b : Bool) → (if b then sends open_command else rests) ≡ sends open_command → b ≡ true
if_sends true e = refl
if_sends false e = absurd (cc)

decided_lives : (k : Kept) (a : ℕ) (b : Option Begun) (handle : ℕ) (aid : List ℕ) → (decision_of_begun k a b (Some (operation.OpenChannel handle aid))).work ≡ sends open_command → Lives k.history b
decided_lives k a None handle aid e = tt
decided_lives k a (Some b) handle aid e = if_sends (lives_in k.history b.epoch) e

none_lives : (h : Past) (o : Option Begun) → is_none o ≡ true → Lives h o
none_lives h None e = tt
none_lives h (Some b) e = absurd (true≢false (sym e))

some_number : (n m : ℕ) → Some n ≡ Some m → n ≡ m
some_number n m e = cc

module _ (s : Script) (k : Kept) (each : (i : ℕ) → OpensAt k.turn k.history i (job_of i k.jobs)) where
  -- behind what the line does to every job
  abbrev Beside : Line → Type 0
  Beside l = (i : ℕ) → OpensAt (kept_after s l k).turn (kept_after s l k).history i (job_of i (jobs_beside l k.history.epoch (facts_of s l k) k.selected k.jobs))

  abbrev Behind : Line → Type 0
  Behind l = (i : ℕ) → OpensAt (kept_after s l k).turn (kept_after s l k).history i (job_of i (kept_after s l k).jobs)

  beside_lives : (l : Line) (h : Past) (o : Option Begun) → Lives h o → Lives h (option_map (begun_beside l k.history.epoch (facts_of s l k)) o)
  beside_lives l h o p = lives_map h (begun_beside l k.history.epoch (facts_of s l k)) (λ b. refl) o p

  -- the turn stays, and no epoch begins in it
  beside_same : (l : Line) → SameTurn s k l → (opens k.turn → begins_epoch l ≡ false) → Beside l
  beside_same l same begins i =
      mapped (job_beside l k.history.epoch (facts_of s l k) k.selected) (OpensAt k.turn k.history) (OpensAt (kept_after s l k).turn (kept_after s l k).history) k.jobs each
      (λ (j : ℕ) (x : Job) p actor work living. moved j x p (sym same.actor ∙ actor) (sym same.work ∙ work) living)
      (λ (j : ℕ) p actor work living. tt) i
    where
      moved : (j : ℕ) (x : Job) → OpensAt k.turn k.history j x → k.turn.actor ≡ Some j → opens k.turn → (history_after l k.history).living ≡ true → Lives (history_after l k.history) (job_beside l k.history.epoch (facts_of s l k) k.selected x).begun
      moved j x p actor work living =
          let none : begins_epoch l ≡ false = begins work in
          let before : Lives k.history x.begun = p actor work (lived (begins_epoch l) (stops_epoch l) k.history.living none living) in
          beside_lives l (history_after l k.history) x.begun (lives_moved k.history (history_after l k.history) living (ap (λ (b : Bool). counted b k.history.epoch) none) x.begun before)

  -- of the jobs before the line
  beside_by : (l : Line) → ((i : ℕ) → (kept_after s l k).turn.actor ≡ Some i → opens (kept_after s l k).turn → (kept_after s l k).history.living ≡ true → Lives (kept_after s l k).history (begun_of i k.jobs)) → Beside l
  beside_by l lives i =
      mapped (job_beside l k.history.epoch (facts_of s l k) k.selected) (λ (j : ℕ) (x : Job). x.begun ≡ begun_of j k.jobs) (OpensAt (kept_after s l k).turn (kept_after s l k).history) k.jobs (λ (j : ℕ). refl)
      (λ (j : ℕ) (x : Job) e actor work living. beside_lives l (kept_after s l k).history x.begun (subst (λ (o : Option Begun). Lives (kept_after s l k).history o) (sym e) (lives j actor work living)))
      (λ (j : ℕ) p actor work living. tt) i

  own_opens : (l : Line) (a : ℕ) → ((x : Job) → (kept_after s l k).history.living ≡ true → Lives (kept_after s l k).history x.begun → Lives (kept_after s l k).history (own_job s l k (facts_of s l k) (decision_at s l k).attempt x).begun) → Beside l → (i : ℕ) → OpensAt (kept_after s l k).turn (kept_after s l k).history i (job_of i (change_at a (own_job s l k (facts_of s l k) (decision_at s l k).attempt) (jobs_beside l k.history.epoch (facts_of s l k) k.selected k.jobs)))
  own_opens l a own beside i =
      changed (own_job s l k (facts_of s l k) (decision_at s l k).attempt) (OpensAt (kept_after s l k).turn (kept_after s l k).history)
      (jobs_beside l k.history.epoch (facts_of s l k) k.selected k.jobs) a (λ (x : Job) p actor work living. own x living (p actor work living)) beside i

  -- a mark
  framework_opens : Sends s (kept_after s (line.Turn zero) k) → Behind (line.Turn zero)
  framework_opens t i actor work living = absurd (framework_marked s k t work)

  marked : (a : ℕ) → Sends s (kept_after s (line.Turn (suc a)) k) → (i : ℕ) → Some (suc a) ≡ Some i → opens (kept_after s (line.Turn (suc a)) k).turn → Lives k.history (begun_of i k.jobs)
  marked a t i actor work =
      let is : IsOpen (operation_now s (suc a) k.jobs) = marked_opens s k (suc a) t work in
      let decided : (decision_of_begun k (suc a) (begun_of (suc a) k.jobs) (Some (operation.OpenChannel is.handle is.aid))).work ≡ sends open_command = sym (ap (λ (o : Option Operation). (decision_of_begun k (suc a) (begun_of (suc a) k.jobs) o).work) is.is) ∙ work in
      subst (λ (n : ℕ). Lives k.history (begun_of n k.jobs)) (some_number (suc a) i actor) (decided_lives k (suc a) (begun_of (suc a) k.jobs) is.handle is.aid decided)

  turn_opens : (a : ℕ) → Sends s (kept_after s (line.Turn (suc a)) k) → Behind (line.Turn (suc a))
  turn_opens a t i =
      let l : Line = line.Turn (suc a) in
      own_opens l (suc a) (λ x living p. lives_map k.history (begun_with (decision_at s l k).attempt) (λ b. refl) x.begun p) (beside_by l (λ j actor work living. marked a t j actor work)) i

  -- an operation begins of an actor that has none under way
  begin_opens : (a n : ℕ) → BeginsNow s k a n → Behind (line.Begin a n)
  begin_opens a n begins i =
      let l : Line = line.Begin a n in
      own_opens l a (λ x living p. fresh_alive k.history.living k.history refl living)
      (beside_by l (λ j actor work living. none_lives k.history (begun_of j k.jobs) (subst (λ (m : ℕ). is_none (begun_of m k.jobs) ≡ true) (some_number (suc begins.begins.actor) j (sym begins.begins.turn ∙ actor)) begins.begins.free))) i

  same_turn : (l : Line) → SameTurn s k l → begins_epoch l ≡ false → Beside l
  same_turn l same begins = beside_same l same (λ work. begins)

  -- no reset and no event comes in the turn of an open
  module _ (calm : CalmTurn s k) (framework : FrameworkOpens k) where
    reset_due : (d : Due) → due s k ≡ d → is_reset d ≡ true → is_reset_due k ≡ true
    reset_due reset_card e h = stands_of s k reset_card e
    reset_due d e h = absurd (true≢false (sym h))

    no_reset : (a : ℕ) → is_turn_of a k.turn && is_reset (due s k) ≡ true → opens k.turn → ⊥
    no_reset a h work =
        let q = and_parts (is_turn_of a k.turn) (is_reset (due s k)) h in
        let zero_is : a ≡ 0 = resets_framework s k a calm (reset_due (due s k) refl q.1) q.0 in
        framework (actor_is k a q.0 ∙ ap (λ (n : ℕ). Some n) zero_is) work

    no_event_by : (work : Work) (stage : Stage) (e : WorldEvent) → work ≡ sends open_command → event_by_stage work stage ≡ Some e → ⊥
    no_event_by work stage e w h = never stage (sym (ap (λ (x : Work). event_by_stage x stage) w) ∙ h)
      where
        never : (stage : Stage) → event_by_stage (sends open_command) stage ≡ Some e → ⊥
        never fresh q = absurd (cc)
        never (next c) q = absurd (cc)
        never resetting q = absurd (cc)
        never over q = absurd (cc)

    event_due : (d : Due) (e : WorldEvent) → due s k ≡ d → is_tried e d ≡ true → opens k.turn → ⊥
    event_due (try_event x) e is h work = no_event_by k.turn.work k.turn.stage x work (stands_of s k (try_event x) is)
    event_due d e is h work = absurd (true≢false (sym h))

    reset_opens : (a : ℕ) → is_turn_of a k.turn && is_reset (due s k) ≡ true → Behind (line.Reset a)
    reset_opens a h i = beside_same (line.Reset a) (record { actor = refl; work = refl }) (λ work. absurd (no_reset a h work)) i

    world_opens : (a : ℕ) (e : WorldEvent) → is_turn_of a k.turn && is_tried e (due s k) ≡ true → Behind (line.World a e)
    world_opens a e h i = beside_same (line.World a e) (record { actor = refl; work = refl }) (λ work. absurd (event_due (due s k) e refl (and_parts (is_turn_of a k.turn) (is_tried e (due s k)) h).1 work)) i

    line_opens : (l : Line) → Sends s (kept_after s l k) → is_followed s k l ≡ true → Behind l
    line_opens (line.Turn zero) t h i = framework_opens t i
    line_opens (line.Turn (suc a)) t h i = turn_opens a t i
    line_opens (line.Begin a n) t h i = begin_opens a n (begins_now s k a n h) i
    line_opens (line.Exchange a c r) t h i = own_opens (line.Exchange a c r) a (λ x living p. lives_map (history_after (line.Exchange a c r) k.history) (begun_exchanged (edit_of (operation_now s a k.jobs)) k.selected k.chain (facts_of s (line.Exchange a c r) k).event c r) (λ b. refl) x.begun p) (same_turn (line.Exchange a c r) (exchange_same s k a c r) refl) i
    line_opens (line.Failed a c d) t h i = own_opens (line.Failed a c d) a (λ x living p. lives_map (history_after (line.Failed a c d) k.history) (begun_failed (edit_of (operation_now s a k.jobs)) k.selected k.chain (facts_of s (line.Failed a c d) k).event c) (λ b. refl) x.begun p) (same_turn (line.Failed a c d) (record { actor = refl; work = refl }) refl) i
    line_opens (line.Reset a) t h i = reset_opens a h i
    line_opens (line.ResetFailed a) t h i = same_turn (line.ResetFailed a) (record { actor = refl; work = refl }) refl i
    line_opens (line.World a e) t h i = world_opens a e h i
    line_opens (line.Published n f e v text) t h i = same_turn (line.Published n f e v text) (record { actor = refl; work = refl }) refl i
    line_opens (line.EpochEnd n e v) t h i = same_turn (line.EpochEnd n e v) (record { actor = refl; work = refl }) refl i
    line_opens (line.Refused f n) t h i = same_turn (line.Refused f n) (record { actor = refl; work = refl }) refl i
    line_opens (line.Answered a n given) t h i = own_opens (line.Answered a n given) a (λ x living p. tt) (same_turn (line.Answered a n given) (record { actor = refl; work = refl }) refl) i

opens_of : (s : Script) (lines : List Line) → keeps_rules s ≡ true → has_utf8_names s ≡ true → are_followed s lines ≡ true → (i : ℕ) → OpensAt (kept_of s lines).turn (kept_of s lines).history i (job_of i (kept_of s lines).jobs)
opens_of s [] rules served followed i = λ actor work living. absurd (cc)
opens_of s (l ∷ earlier) rules served followed i =
    let p = and_parts (are_followed s earlier) (is_followed s (kept_of s earlier) l) followed in
    line_opens s (kept_of s earlier) (opens_of s earlier rules served p.0) (turn_calm s earlier rules served p.0) (framework_never s earlier served p.0) l (sends_of s (l ∷ earlier) served followed) p.1 i

-- ---- so no end of its epoch answers it

alive_by : (h : Past) (b : Begun) (o : Option ℕ) (other : Option Answer) → lives_in h o ≡ true → SinceOption h o b.ended → with_card o b other ≡ other
alive_by h b None other lives p = absurd (true≢false (sym lives))
alive_by h b (Some e) other lives p = ap (λ (o : Option ℕ). with_ended e o (is_lost o b.editing.lost) other) (p.unended lives)

pub alive_of : (s : Script) (lines : List Line) → keeps_rules s ≡ true → has_utf8_names s ≡ true → are_followed s lines ≡ true → OpensAlive (kept_of s lines)
alive_of s lines rules served followed a b begun actor work living other =
    let k : Kept = kept_of s lines in
    let lives : lives_in k.history b.epoch ≡ true = subst (λ (o : Option Begun). Lives k.history o) begun (opens_of s lines rules served followed a actor work living) in
    let since : SinceOption k.history b.epoch b.ended = subst (λ (o : Option Begun). SinceBegun k.history o) begun (since_of s lines a) in
    alive_by k.history b b.epoch other lives since
