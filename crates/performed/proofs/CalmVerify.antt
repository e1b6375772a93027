-- Over a script each VERIFY is that of a verification, and it sends no other: behind it the answer is due.
use Rattle.std.proofs.Common.{◌≡◌, ◌⊎◌, inl, inr, ℕ, zero, suc, ◌+◌, ◌-◌, ◌==◌, ◌&&◌, ◌||◌, not, Bool, true, false, if◌then◌else◌, List, [], ◌∷◌, replicate, Option, Some, None, is_some, refl, ap, sym, ◌∙◌, subst, true≢false}
use Rattle.std.specs.Prelude.{option_map, nat_lt, nat_le}
use Rattle.std.proofs.lemmas.Bool.{and_parts, and_from, eq-eqb}
use Rattle.apdu.specs.Values.{CommandValue, ResponseValue}
use Rattle.apdu.specs.Words.{has_value, or_else, same_number}
use Rattle.apdu.specs.Apdu.{same_command, verify_ins, is_success, wants_more}
use Rattle.card_effects.proofs.Same.{same_bytes_self}
use Rattle.card_model.specs.declared.world.WorldEvent.{WorldEvent}
use Rattle.script_reader.specs.declared.types.Script.{Script}
use Rattle.script_reader.specs.declared.types.Operation.{Operation}
use Rattle.script_reader.specs.declared.types.Operation.TheVariants as operation
use Rattle.script_reader.specs.Rules.{keeps_rules}
use Rattle.report.specs.declared.answer.Answer.{Answer}
use Rattle.report.specs.declared.line.Line.{Line}
use Rattle.report.specs.declared.line.Line.TheVariants as line
use Rattle.link.specs.declared.chain.Final.{Final}
use Rattle.link.specs.Commands.{asks_more, chain_count, chain_first, most_exchanges, follow_up}
use Rattle.editor.specs.declared.editing.Attempt.{Attempt}
use Rattle.loader.specs.declared.reading.RefusedReading.{RefusedReading}
use Rattle.refresh_cmd.specs.Values.{ProactiveValue}
use Rattle.channels.specs.Channels.{open_command, close_command}
use Rattle.rules.specs.declared.due.Due.{Due}
use Rattle.rules.specs.declared.due.Due.TheVariants.{ResetCard as reset_card, TryEvent as try_event}
use Rattle.rules.specs.declared.holdings.Handle.{Handle}
use Rattle.rules.specs.declared.kept.Begun.{Begun}
use Rattle.rules.specs.declared.kept.Facts.{Facts}
use Rattle.rules.specs.declared.kept.Job.{Job}
use Rattle.rules.specs.declared.kept.Kept.{Kept}
use Rattle.rules.specs.declared.kept.Stage.{Stage}
use Rattle.rules.specs.declared.kept.Stage.TheVariants.{Over as over}
use Rattle.rules.specs.declared.kept.Turn.{Turn}
use Rattle.rules.specs.declared.kept.Work.{Work}
use Rattle.rules.specs.declared.kept.Work.TheVariants.{Rests as rests, Refuses as refuses, Lacks as lacks, Sends as sends, Reads as reads, Writes as writes, Resets as resets, Happens as happens}
use Rattle.rules.specs.Channels.{held_numbers}
use Rattle.rules.specs.Sessions.{verify_command}
use Rattle.rules.specs.Kept.{actor_count, first_job, job_of, begun_of, begun_operation, operation_now, change_at}
use Rattle.rules.specs.After.{facts_of, decision_at, edit_of, begun_beside, begun_with, begun_exchanged, begun_failed, job_beside, jobs_beside, jobs_of_actor, own_job, opened_behind, outcome_of, refused_of, stage_after, kept_after, kept_of}
use Rattle.rules.specs.Due.{command_by_chain, command_by_stage, due, due_answer, due_command, event_by_stage, is_reset_due, reset_by_stage, tried_event, answer_of_actor, answer_of_begun, answer_of_outcome, outcome_answer, with_card, with_ended, is_lost}
use Rattle.rules.specs.Performed.{ends_turn, is_reset, is_sent}
use Rattle.rules.specs.Rules.{is_turn_of, turn_operation, begun_in_turn, has_verified, has_right_verify, is_verify_of, operation_in_turn}
use Rattle.performed.specs.Names.{has_utf8_names}
use Rattle.performed.specs.Followed.{begins_turn, is_followed, are_followed, is_tried}
use Rattle.performed.specs.Told.{are_told}
use Rattle.performed.proofs.MeasureSays.{stands_of}
use Rattle.performed.proofs.CalmLent.{sent_of, lost_of}
use Rattle.performed.proofs.CalmKinds.{WorkFits, Sends, Kind, calm, application, opens, gives_up, closes, updates, verifies, IsOfTurn}
use Rattle.performed.proofs.CalmSends.{unlike, never, no_verify, form_ins, raw_other, work_there, exchange_of_turn, failed_of_turn, exchange_kind, failed_kind}
use Rattle.performed.proofs.CalmLines.{turn_of, turn_by, exchanged_actor, exchanged_bare, index_kept, refit, sends_of, beside_stays}
use Rattle.performed.proofs.ProgressBegins.{starts}
use Rattle.performed.proofs.ProgressGoes.{goes_by_answer}
use Rattle.performed.proofs.ProgressJobs.{changed, mapped}
use Rattle.performed.proofs.ProgressSound.{IsSoundOption, IsSoundJob, lives_or_ended, sound}
use Rattle.rules.specs.declared.kept.Outcome.{Outcome}
use Rattle.rules.specs.declared.kept.Outcome.TheVariants as outcome
use Rattle.rules.specs.Work.{is_finished}
use Rattle.rules.specs.History.{is_living}

-- ---- a VERIFY that follows

record IsVerification (s : Script) (k : Kept) (c : CommandValue) : Type 0 where
  key : ℕ
  pin : List ℕ
  operation : turn_operation s k ≡ Some (operation.Verify key pin)
  is : c ≡ verify_command key pin

abbrev is_verify : ℕ → Bool
is_verify ins = ins == verify_ins

kind_verify : (s : Script) (k : Kept) (c : CommandValue) → Kind s k c → (c.ins == verify_ins) ≡ true → IsVerification s k c
kind_verify s k c (calm x) h = absurd (true≢false (sym h ∙ no_verify c.ins x))
kind_verify s k c (application handle apdu first e r f) h = absurd (raw_other verify_ins apdu.ins refl r.allowed (form_ins c first apdu.ins verify_ins f (ap (λ (x : CommandValue). x.ins) r.is) h))
kind_verify s k c (opens handle aid e stage opened f) h = unlike is_verify c open_command f refl h
kind_verify s k c (gives_up handle aid number e stage opened f) h = unlike is_verify c (close_command number) f refl h
kind_verify s k c (closes handle x e stage held f) h = unlike is_verify c (close_command x.number) f refl h
kind_verify s k c (updates writer work ins) h = never (sym (ap is_verify ins) ∙ h)
kind_verify s k c (verifies key pin e stage is) h = record { key = key; pin = pin; operation = e; is = is }

-- ---- an operation whose VERIFY was sent

-- its turn goes no further, and its answer has its cause
record HasSent (k : Kept) (i : ℕ) (op : Option Operation) : Type 0 where
  key : ℕ
  pin : List ℕ
  is : op ≡ Some (operation.Verify key pin)
  actor : k.turn.actor ≡ Some i
  bare : k.turn.bare ≡ false
  stage : k.turn.stage ≡ over
  chain : k.chain ≡ None
  cause : (k.history.living ≡ false) ⊎ (is_some k.turn.outcome ≡ true)

abbrev Spent : Script → Kept → ℕ → Job → Type 0
Spent s k i job = has_verified job.begun ≡ true → HasSent k i (begun_operation s i job.begun)

abbrev Once : Script → Kept → Type 0
Once s k = (i : ℕ) → Spent s k i (job_of i k.jobs)

abbrev Nobody : Kept → Type 0
Nobody k = (i : ℕ) → has_verified (begun_of i k.jobs) ≡ true → ⊥

-- ---- its answer

ended_or : (epoch : ℕ) (ended : Option ℕ) (unsure : Bool) (other : Option Answer) → (is_some ended ≡ true) ⊎ (is_some other ≡ true) → is_some (with_ended epoch ended unsure other) ≡ true
ended_or epoch (Some n) unsure other h = refl
ended_or epoch None unsure other (inl h) = never h
ended_or epoch None unsure other (inr h) = h

card_or : (e : Option ℕ) (b : Begun) (other : Option Answer) → ((n : ℕ) → e ≡ Some n → (is_some b.ended ≡ true) ⊎ (is_some other ≡ true)) → is_some (with_card e b other) ≡ true
card_or None b other h = refl
card_or (Some n) b other h = ended_or n b.ended (is_lost b.ended b.editing.lost) other (h n refl)

dead_ended : (living same ended : Bool) → living ≡ false → ((living && same) || ended) ≡ true → ended ≡ true
dead_ended true same ended d h = absurd (true≢false d)
dead_ended false same ended d h = h

some_mapped : {A B : Type 0} (f : A → B) (o : Option A) → is_some o ≡ true → is_some (option_map f o) ≡ true
some_mapped f None h = never h
some_mapped f (Some x) h = refl

cause_of : (k : Kept) (b : Begun) (n : ℕ) → b.epoch ≡ Some n → lives_or_ended k.history b.epoch b.ended ≡ true → (k.history.living ≡ false) ⊎ (is_some k.turn.outcome ≡ true) → (is_some b.ended ≡ true) ⊎ (is_some (outcome_answer k.turn) ≡ true)
cause_of k b n e lives (inl dead) = inl (dead_ended k.history.living (k.history.epoch == n) (is_some b.ended) dead (sym (ap (λ (o : Option ℕ). lives_or_ended k.history o b.ended) e) ∙ lives))
cause_of k b n e lives (inr came) = inr (some_mapped answer_of_outcome k.turn.outcome came)

module _ (s : Script) (k : Kept) (i : ℕ) where
  begun_answers : (o : Option Begun) → begun_of i k.jobs ≡ o → IsSoundOption s k.history i o → has_verified o ≡ true → (t : HasSent k i (begun_operation s i (begun_of i k.jobs))) → is_some (answer_of_begun k i o (operation_now s i k.jobs)) ≡ true
  begun_answers None e lives h t = never h
  begun_answers (Some b) e lives h t = ap (λ (op : Option Operation). is_some (answer_of_begun k i (Some b) op)) t.is ∙ card_or b.epoch b (outcome_answer k.turn) (λ n epoch. cause_of k b n epoch lives.lives t.cause)

  sent_answers : IsSoundJob s k.history i (job_of i k.jobs) → Once s k → has_verified (begun_of i k.jobs) ≡ true → is_some (due_answer s k) ≡ true
  sent_answers lives once h =
      let t : HasSent k i (begun_operation s i (begun_of i k.jobs)) = once i h in
      ap (λ (o : Option ℕ). is_some (answer_of_actor s k o)) t.actor ∙ begun_answers (begun_of i k.jobs) refl lives h t

-- ---- behind it comes no command, no reset, no event, and no turn before the answer

module _ (s : Script) (k : Kept) (once : Once s k) where
  no_command : (i : ℕ) → has_verified (begun_of i k.jobs) ≡ true → due_command k ≡ None
  no_command i h = ap (command_by_chain k) (once i h).chain ∙ ap (command_by_stage k) (once i h).stage

  none_exchanges : (a : ℕ) (c : CommandValue) (r : ResponseValue) → is_followed s k (line.Exchange a c r) ≡ true → Nobody k
  none_exchanges a c r h i v = true≢false (sym (sent_of s k a c r (and_parts (is_turn_of a k.turn) (is_sent (due s k) (line.Exchange a c r)) h).1) ∙ ap (has_value (same_command c)) (no_command i v))

  none_fails : (a : ℕ) (c : CommandValue) (d : Bool) → is_followed s k (line.Failed a c d) ≡ true → Nobody k
  none_fails a c d h i v = true≢false (sym (lost_of s k a c d (and_parts (is_turn_of a k.turn) (is_sent (due s k) (line.Failed a c d)) h).1) ∙ ap (has_value (same_command c)) (no_command i v))

  reset_due : (d : Due) → due s k ≡ d → is_reset d ≡ true → is_reset_due k ≡ true
  reset_due reset_card e h = stands_of s k reset_card e
  reset_due d e h = never h

  none_resets : (a : ℕ) → is_turn_of a k.turn && is_reset (due s k) ≡ true → Nobody k
  none_resets a h i v = true≢false (sym (reset_due (due s k) refl (and_parts (is_turn_of a k.turn) (is_reset (due s k)) h).1) ∙ ap (reset_by_stage k.turn.work) (once i v).stage)

  event_tried : (e : WorldEvent) (d : Due) → due s k ≡ d → is_tried e d ≡ true → is_some (tried_event k) ≡ true
  event_tried e (try_event x) is h = ap (λ (o : Option WorldEvent). is_some o) (stands_of s k (try_event x) is)
  event_tried e d is h = never h

  none_happens : (a : ℕ) (e : WorldEvent) → is_turn_of a k.turn && is_tried e (due s k) ≡ true → Nobody k
  none_happens a e h i v = true≢false (sym (event_tried e (due s k) refl (and_parts (is_turn_of a k.turn) (is_tried e (due s k)) h).1) ∙ ap (λ (st : Stage). is_some (event_by_stage k.turn.work st)) (once i v).stage)

  none_begins : (a i : ℕ) → is_followed s k (line.Begin a i) ≡ true → Nobody k
  none_begins a i h j v = true≢false (sym (starts s k i a h).bare ∙ (once j v).bare)

  none_turns : ((i : ℕ) → IsSoundJob s k.history i (job_of i k.jobs)) → ends_turn (due s k) ≡ true → Nobody k
  none_turns lives ends i v = true≢false (sym ends ∙ goes_by_answer s k (sent_answers s k i (lives i) once v))

-- ---- lines

verified_kept : (f : Begun → Begun) → ((b : Begun) → (f b).verified ≡ b.verified) → (o : Option Begun) → has_verified (option_map f o) ≡ has_verified o
verified_kept f keeps None = refl
verified_kept f keeps (Some b) = keeps b

module _ (s : Script) (k : Kept) where
  abbrev Unsent : ℕ → Job → Type 0
  Unsent i job = has_verified job.begun ≡ true → ⊥

  beside_verified : (l : Line) (job : Job) → has_verified (job_beside l k.history.epoch (facts_of s l k) k.selected job).begun ≡ has_verified job.begun
  beside_verified l job = verified_kept (begun_beside l k.history.epoch (facts_of s l k)) (λ b. refl) job.begun

  nobody_beside : (l : Line) → Nobody k → (i : ℕ) → Unsent i (job_of i (jobs_beside l k.history.epoch (facts_of s l k) k.selected k.jobs))
  nobody_beside l nobody i =
      mapped (job_beside l k.history.epoch (facts_of s l k) k.selected) Unsent Unsent k.jobs nobody
      (λ (j : ℕ) (x : Job) p h. p (sym (beside_verified l x) ∙ h)) (λ (j : ℕ) p. p) i

  nobody_own : (l : Line) (a : ℕ) → ((x : Job) → Unsent a x → Unsent a (own_job s l k (facts_of s l k) (decision_at s l k).attempt x)) → Nobody k → (i : ℕ) → Unsent i (job_of i (change_at a (own_job s l k (facts_of s l k) (decision_at s l k).attempt) (jobs_beside l k.history.epoch (facts_of s l k) k.selected k.jobs)))
  nobody_own l a own nobody i = changed (own_job s l k (facts_of s l k) (decision_at s l k).attempt) Unsent (jobs_beside l k.history.epoch (facts_of s l k) k.selected k.jobs) a own (nobody_beside l nobody) i

  marked_unsent : (a : ℕ) (attempt : Option Attempt) (x : Job) → Unsent a x → Unsent a (own_job s (line.Turn a) k (facts_of s (line.Turn a) k) attempt x)
  marked_unsent zero attempt x p h = p h
  marked_unsent (suc a) attempt x p h = p (sym (verified_kept (begun_with attempt) (λ b. refl) x.begun) ∙ h)

  -- the turn stays as it was
  module _ (new : Kept) (keeps : (i : ℕ) (op : Option Operation) → HasSent k i op → HasSent new i op) where
    beside_spent : (l : Line) → Once s k → (i : ℕ) → Spent s new i (job_of i (jobs_beside l k.history.epoch (facts_of s l k) k.selected k.jobs))
    beside_spent l once i =
        mapped (job_beside l k.history.epoch (facts_of s l k) k.selected) (Spent s k) (Spent s new) k.jobs once
        (λ (j : ℕ) (x : Job) p h. subst (λ (op : Option Operation). HasSent new j op) (sym (index_kept s j (begun_beside l k.history.epoch (facts_of s l k)) (λ b. refl) x.begun)) (keeps j (begun_operation s j x.begun) (p (sym (beside_verified l x) ∙ h))))
        (λ (j : ℕ) p h. never h) i

  published_spent : (n f e v : ℕ) (text : List ℕ) (i : ℕ) (op : Option Operation) → HasSent k i op → HasSent (kept_after s (line.Published n f e v text) k) i op
  published_spent n f e v text i op t = record { key = t.key; pin = t.pin; is = t.is; actor = t.actor; bare = refl; stage = refl; chain = refl; cause = t.cause }

  told_spent : (n e v : ℕ) (i : ℕ) (op : Option Operation) → HasSent k i op → HasSent (kept_after s (line.EpochEnd n e v) k) i op
  told_spent n e v i op t = record { key = t.key; pin = t.pin; is = t.is; actor = t.actor; bare = refl; stage = t.stage; chain = refl; cause = t.cause }

  refused_spent : (f n : ℕ) (i : ℕ) (op : Option Operation) → HasSent k i op → HasSent (kept_after s (line.Refused f n) k) i op
  refused_spent f n i op t = record { key = t.key; pin = t.pin; is = t.is; actor = t.actor; bare = refl; stage = t.stage; chain = refl; cause = t.cause }

  answered_spent : (a n : ℕ) (given : Answer) (i : ℕ) (op : Option Operation) → HasSent k i op → HasSent (kept_after s (line.Answered a n given) k) i op
  answered_spent a n given i op t = record { key = t.key; pin = t.pin; is = t.is; actor = t.actor; bare = refl; stage = refl; chain = refl; cause = t.cause }

-- ---- the VERIFY itself

-- the turn behind a final response to it
came : (success : Bool) (good bad : Option Outcome) → is_some good ≡ true → is_some bad ≡ true → is_some (if success then good else bad) ≡ true
came true good bad h g = h
came false good bad h g = g

or_came : (o p : Option Outcome) → is_some p ≡ true → is_some (or_else o p) ≡ true
or_came None p h = h
or_came (Some x) p h = refl

module _ (key : ℕ) (pin : List ℕ) where
  abbrev verification : Option Operation
  verification = Some (operation.Verify key pin)

  verify_over : (alive : ℕ → Bool) (handles : List Handle) (actor : Option ℕ) (work : Work) (opened : Option ℕ) (job : Job) (refresh : Option ProactiveValue) (f : Final) → WorkFits alive handles actor verification work → stage_after work verification opened job refresh f ≡ over
  verify_over alive handles actor (sends c) opened job refresh f w = refl
  verify_over alive handles actor (reads path) opened job refresh f w = absurd w
  verify_over alive handles actor writes opened job refresh f w = never w
  verify_over alive handles actor rests opened job refresh f w = refl
  verify_over alive handles actor (refuses r) opened job refresh f w = refl
  verify_over alive handles actor (lacks k) opened job refresh f w = refl
  verify_over alive handles actor resets opened job refresh f w = refl
  verify_over alive handles actor (happens e) opened job refresh f w = refl

  verify_came : (opened : Option ℕ) (f : Final) → is_some (outcome_of verification opened f) ≡ true
  verify_came opened f = came (is_success f.response.sw) (Some outcome.Verified) (Some (outcome.Status (record { 0 = f.response.sw }) f.event)) refl refl

record IsAnswered (t : Turn) : Type 0 where
  stage : t.stage ≡ over
  outcome : is_some t.outcome ≡ true

module _ (alive : ℕ → Bool) (handles : List Handle) (actor : Option ℕ) (job : Job) (held : List ℕ) (facts : Facts) (refused : Option RefusedReading) (t : Turn) where
  verify_turn : (key : ℕ) (pin : List ℕ) (o : Option Final) (f : Final) → o ≡ Some f → WorkFits alive handles actor (Some (operation.Verify key pin)) t.work → IsAnswered (turn_by (Some (operation.Verify key pin)) job held facts refused t o)
  verify_turn key pin None f e w = absurd (cc)
  verify_turn key pin (Some g) f e w = record {
    stage = verify_over key pin alive handles actor t.work (opened_behind held g t.opened) job facts.touch.refresh g w;
    outcome = or_came t.outcome (outcome_of (verification key pin) (opened_behind held g t.opened) g) (verify_came key pin (opened_behind held g t.opened) g);
  }

no_more : (a b c : Bool) → c ≡ true → (a && b && not c) ≡ false
no_more true true true h = refl
no_more true false true h = refl
no_more false b true h = refl
no_more a b false h = absurd (true≢false (sym h))

none_if : {A : Type 0} (b : Bool) (x : A) → b ≡ false → (if b then Some x else None) ≡ None
none_if true x h = absurd (true≢false h)
none_if false x h = refl

some_if : {A : Type 0} (b : Bool) (x : A) → b ≡ false → (if b then None else Some x) ≡ Some x
some_if true x h = absurd (true≢false h)
some_if false x h = refl

or_verify : (sent verify : Bool) → (sent || verify) ≡ true → (sent ≡ true) ⊎ (verify ≡ true)
or_verify true verify h = inl refl
or_verify false verify h = inr h

-- a command of the operation under way
sent_now : (f : Begun → Begun) (verify : Bool) → ((b : Begun) → (f b).verified ≡ (b.verified || verify)) → (o : Option Begun) → has_verified (option_map f o) ≡ true → (has_verified o ≡ true) ⊎ (verify ≡ true)
sent_now f verify keeps None h = never h
sent_now f verify keeps (Some b) h = or_verify b.verified verify (sym (keeps b) ∙ h)

module _ (s : Script) (k : Kept) (t : Sends s k) (nobody : Nobody k) (a : ℕ) (turn : k.turn.actor ≡ Some a) (c : CommandValue) (sent : IsOfTurn k.turn.work k.turn.stage c) (kind : Kind s k c) where
  abbrev now : Option Operation
  now = operation_now s a k.jobs

  -- what is known behind the line of an operation under way, and so of each job
  abbrev FollowsAt : Kept → ℕ → Option Begun → Type 0
  FollowsAt new i o = (begun_operation s i o ≡ operation_now s i k.jobs) × (has_verified o ≡ true → HasSent new i (begun_operation s i o))

  abbrev Follows : Kept → ℕ → Job → Type 0
  Follows new i job = FollowsAt new i job.begun

  beside_follows : (l : Line) (new : Kept) (i : ℕ) → Follows new i (job_of i (jobs_beside l k.history.epoch (facts_of s l k) k.selected k.jobs))
  beside_follows l new i = (beside_stays s k l i, λ h. absurd (nobody_beside s k l nobody i h))

  -- the job of the line's actor
  own_follows : (new : Kept) (f : Begun → Begun) → ((b : Begun) → (f b).index ≡ b.index) → ((b : Begun) → (f b).verified ≡ (b.verified || (c.ins == verify_ins))) → ((c.ins == verify_ins) ≡ true → HasSent new a now) → (x : Option Begun) → FollowsAt new a x → FollowsAt new a (option_map f x)
  own_follows new f index verified here x p =
      let same : begun_operation s a (option_map f x) ≡ begun_operation s a x = index_kept s a f index x in
      (same ∙ p.0, λ h. by_sent same (sent_now f (c.ins == verify_ins) verified x h))
    where
      by_sent : begun_operation s a (option_map f x) ≡ begun_operation s a x → (has_verified x ≡ true) ⊎ ((c.ins == verify_ins) ≡ true) → HasSent new a (begun_operation s a (option_map f x))
      by_sent same (inl h) = subst (λ (op : Option Operation). HasSent new a op) (sym same) (p.1 h)
      by_sent same (inr h) = subst (λ (op : Option Operation). HasSent new a op) (sym (same ∙ p.0)) (here h)

  verification_now : (v : IsVerification s k c) → now ≡ Some (operation.Verify v.key v.pin)
  verification_now v = sym (ap (operation_in_turn s k) turn) ∙ v.operation

  work_now : (v : IsVerification s k c) → WorkFits (is_living k.history) k.handles (Some a) (Some (operation.Verify v.key v.pin)) k.turn.work
  work_now v =
      let op : Option Operation = Some (operation.Verify v.key v.pin) in
      work_there (is_living k.history) k.handles (Some a) op k.turn.opened k.turn.work k.turn.stage c sent
      (refit (is_living k.history) k.handles k.turn.actor (Some a) (turn_operation s k) op k.turn.opened k.turn.work k.turn.stage turn v.operation t.fits)

  failed_spent : (d : Bool) → IsVerification s k c → HasSent (kept_after s (line.Failed a c d) k) a now
  failed_spent d v = record { key = v.key; pin = v.pin; is = verification_now v; actor = turn; bare = refl; stage = refl; chain = refl; cause = inl refl }

  failed_once : (d : Bool) → Once s (kept_after s (line.Failed a c d) k)
  failed_once d i =
      let l : Line = line.Failed a c d in
      (changed (own_job s l k (facts_of s l k) (decision_at s l k).attempt) (Follows (kept_after s l k)) (jobs_beside l k.history.epoch (facts_of s l k) k.selected k.jobs) a
      (λ (x : Job) p. own_follows (kept_after s l k) (begun_failed (edit_of now) k.selected k.chain (facts_of s l k).event c) (λ b. refl) (λ b. refl) (λ h. failed_spent d (kind_verify s k c kind h)) x.begun p)
      (beside_follows l (kept_after s l k)) i).1

  exchanged_spent : (r : ResponseValue) → (c.ins == verify_ins) ≡ true → IsVerification s k c → HasSent (kept_after s (line.Exchange a c r) k) a now
  exchanged_spent r h v =
      let l : Line = line.Exchange a c r in
      let facts : Facts = facts_of s l k in
      let beside : List Job = jobs_beside l k.history.epoch facts k.selected k.jobs in
      let job : Job = job_of a (jobs_of_actor s l k facts (decision_at s l k).attempt (Some a) beside) in
      let held : List ℕ = held_numbers k.history k.handles in
      let refused : Option RefusedReading = refused_of k.selected beside facts.answered in
      let count : ℕ = chain_count c k.chain + 1 in
      let final : Final = record { actor = a; command = chain_first c k.chain; response = r; event = k.history.events + 1; first_event = k.history.events + 1 - chain_count c k.chain } in
      let ends : asks_more count c r ≡ false = no_more (wants_more r.sw) (nat_lt count most_exchanges) (c.ins == verify_ins) h in
      let answered : facts.answered ≡ Some final = some_if (asks_more count c r) final ends in
      let over_now : IsAnswered (turn_by (Some (operation.Verify v.key v.pin)) job held facts refused k.turn facts.answered) = verify_turn (is_living k.history) k.handles (Some a) job held facts refused k.turn v.key v.pin facts.answered final answered (work_now v) in
      let behind : IsAnswered (kept_after s l k).turn = subst (λ (op : Option Operation). IsAnswered (turn_by op job held facts refused k.turn facts.answered)) (sym (verification_now v)) over_now in
      record {
        key = v.key;
        pin = v.pin;
        is = verification_now v;
        actor = exchanged_actor now job held facts refused k.turn facts.answered ∙ turn;
        bare = exchanged_bare now job held facts refused k.turn facts.answered;
        stage = behind.stage;
        chain = none_if (asks_more count c r) (record { first = chain_first c k.chain; count = count; next = follow_up c r }) ends;
        cause = inr behind.outcome;
      }

  exchanged_once : (r : ResponseValue) → Once s (kept_after s (line.Exchange a c r) k)
  exchanged_once r i =
      let l : Line = line.Exchange a c r in
      (changed (own_job s l k (facts_of s l k) (decision_at s l k).attempt) (Follows (kept_after s l k)) (jobs_beside l k.history.epoch (facts_of s l k) k.selected k.jobs) a
      (λ (x : Job) p. own_follows (kept_after s l k) (begun_exchanged (edit_of now) k.selected k.chain (facts_of s l k).event c r) (λ b. refl) (λ b. refl) (λ h. exchanged_spent r h (kind_verify s k c kind h)) x.begun p)
      (beside_follows l (kept_after s l k)) i).1

-- ---- every line

module _ (s : Script) (k : Kept) (t : Sends s k) (lives : (i : ℕ) → IsSoundJob s k.history i (job_of i k.jobs)) (once : Once s k) where
  -- where nobody has sent one
  by_nobody : (new : Kept) → Nobody new → Once s new
  by_nobody new nobody i h = absurd (nobody i h)

  answered_once : (a i : ℕ) (given : Answer) → Once s (kept_after s (line.Answered a i given) k)
  answered_once a i given =
      let l : Line = line.Answered a i given in
      changed (own_job s l k (facts_of s l k) (decision_at s l k).attempt) (Spent s (kept_after s l k)) (jobs_beside l k.history.epoch (facts_of s l k) k.selected k.jobs) a
      (λ (x : Job) p h. never h)
      (beside_spent s k (kept_after s l k) (answered_spent s k a i given) l once)

  same_actor : (a : ℕ) → is_turn_of a k.turn ≡ true → k.turn.actor ≡ Some a
  same_actor a h = turn_of a k.turn.actor h

  line_once : (l : Line) → is_followed s k l ≡ true → Once s (kept_after s l k)
  line_once (line.Turn a) h = by_nobody (kept_after s (line.Turn a) k) (nobody_own s k (line.Turn a) a (marked_unsent s k a (decision_at s (line.Turn a) k).attempt) (none_turns s k once lives (turn_ends h)))
    where
      turn_ends : begins_turn s k (due s k) a ≡ true → ends_turn (due s k) ≡ true
      turn_ends g = (and_parts (ends_turn (due s k)) (not (is_finished s k)) (and_parts (ends_turn (due s k) && not (is_finished s k)) (nat_le a (actor_count s)) g).0).0
  line_once (line.Begin a i) h = by_nobody (kept_after s (line.Begin a i) k) (nobody_own s k (line.Begin a i) a (λ (x : Job) p g. never g) (none_begins s k once a i h))
  line_once (line.Exchange a c r) h = exchanged_once s k t (none_exchanges s k once a c r h) a (same_actor a (and_parts (is_turn_of a k.turn) (is_sent (due s k) (line.Exchange a c r)) h).0) c (exchange_of_turn s k a c r t h) (exchange_kind s k a c r t h) r
  line_once (line.Failed a c d) h = failed_once s k t (none_fails s k once a c d h) a (same_actor a (and_parts (is_turn_of a k.turn) (is_sent (due s k) (line.Failed a c d)) h).0) c (failed_of_turn s k a c d t h) (failed_kind s k a c d t h) d
  line_once (line.Reset a) h = by_nobody (kept_after s (line.Reset a) k) (nobody_beside s k (line.Reset a) (none_resets s k once a h))
  line_once (line.ResetFailed a) h = by_nobody (kept_after s (line.ResetFailed a) k) (nobody_beside s k (line.ResetFailed a) (none_resets s k once a h))
  line_once (line.World a e) h = by_nobody (kept_after s (line.World a e) k) (nobody_beside s k (line.World a e) (none_happens s k once a e h))
  line_once (line.Published n f e v text) h = beside_spent s k (kept_after s (line.Published n f e v text) k) (published_spent s k n f e v text) (line.Published n f e v text) once
  line_once (line.EpochEnd n e v) h = beside_spent s k (kept_after s (line.EpochEnd n e v) k) (told_spent s k n e v) (line.EpochEnd n e v) once
  line_once (line.Refused f n) h = beside_spent s k (kept_after s (line.Refused f n) k) (refused_spent s k f n) (line.Refused f n) once
  line_once (line.Answered a i given) h = answered_once a i given

first_unsent : (n i : ℕ) → has_verified (begun_of i (replicate n first_job)) ≡ true → ⊥
first_unsent zero i h = never h
first_unsent (suc n) zero h = never h
first_unsent (suc n) (suc i) h = first_unsent n i h

once_of : (s : Script) (lines : List Line) → has_utf8_names s ≡ true → are_followed s lines ≡ true → Once s (kept_of s lines)
once_of s [] served h = λ i v. absurd (first_unsent (actor_count s + 1) i v)
once_of s (l ∷ earlier) served h =
    let p = and_parts (are_followed s earlier) (is_followed s (kept_of s earlier) l) h in
    line_once s (kept_of s earlier) (sends_of s earlier served p.0) (sound s earlier p.0) (once_of s earlier served p.0) l p.1

-- ---- the rule of verifications

number_itself : (o : Option ℕ) → same_number o o ≡ true
number_itself None = refl
number_itself (Some n) = eq-eqb n n refl

command_itself : (c : CommandValue) → same_command c c ≡ true
command_itself c = rw (eq-eqb c.class c.class refl, eq-eqb c.ins c.ins refl, eq-eqb c.p1 c.p1 refl, eq-eqb c.p2 c.p2 refl, same_bytes_self c.body, number_itself c.le) refl

verify_by : (b x : Bool) → (b ≡ true → x ≡ true) → elim b [ false ↦ true | true ↦ x ] ≡ true
verify_by false x h = refl
verify_by true x h = h refl

is_its_command : (s : Script) (k : Kept) (c : CommandValue) → IsVerification s k c → is_verify_of (turn_operation s k) c ≡ true
is_its_command s k c v = ap (λ (op : Option Operation). is_verify_of op c) v.operation ∙ ap (λ (x : CommandValue). same_command x (verify_command v.key v.pin)) v.is ∙ command_itself (verify_command v.key v.pin)

unsent : (k : Kept) → Nobody k → (o : Option ℕ) → not (has_verified (begun_in_turn k o)) ≡ true
unsent k nobody None = refl
unsent k nobody (Some a) = by_sent (has_verified (begun_of a k.jobs)) (nobody a)
  where
    by_sent : (b : Bool) → (b ≡ true → ⊥) → not b ≡ true
    by_sent true h = absurd (h refl)
    by_sent false h = refl

sent_right : (s : Script) (k : Kept) (c : CommandValue) → Nobody k → Kind s k c → (c.ins == verify_ins) ≡ true → is_verify_of (turn_operation s k) c && not (has_verified (begun_in_turn k k.turn.actor)) ≡ true
sent_right s k c nobody kind h = and_from (is_verify_of (turn_operation s k) c) (not (has_verified (begun_in_turn k k.turn.actor))) (is_its_command s k c (kind_verify s k c kind h)) (unsent k nobody k.turn.actor)

line_verify : (s : Script) (k : Kept) (l : Line) → Sends s k → Once s k → is_followed s k l ≡ true → has_right_verify s k l ≡ true
line_verify s k (line.Exchange a c r) t once h = verify_by (c.ins == verify_ins) (is_verify_of (turn_operation s k) c && not (has_verified (begun_in_turn k k.turn.actor))) (sent_right s k c (none_exchanges s k once a c r h) (exchange_kind s k a c r t h))
line_verify s k (line.Failed a c d) t once h = verify_by (c.ins == verify_ins) (is_verify_of (turn_operation s k) c && not (has_verified (begun_in_turn k k.turn.actor))) (sent_right s k c (none_fails s k once a c d h) (failed_kind s k a c d t h))
line_verify s k (line.Turn a) t once h = refl
line_verify s k (line.Begin a i) t once h = refl
line_verify s k (line.Reset a) t once h = refl
line_verify s k (line.ResetFailed a) t once h = refl
line_verify s k (line.World a e) t once h = refl
line_verify s k (line.Published n f e v text) t once h = refl
line_verify s k (line.EpochEnd n e v) t once h = refl
line_verify s k (line.Refused f n) t once h = refl
line_verify s k (line.Answered a i given) t once h = refl

-- each VERIFY is its operation's command, and its first
pub verify_right : (s : Script) (earlier : List Line) (l : Line) → keeps_rules s ≡ true → has_utf8_names s ≡ true → are_followed s (l ∷ earlier) ≡ true → are_told s (l ∷ earlier) ≡ true → has_right_verify s (kept_of s earlier) l ≡ true
verify_right s earlier l rules served followed told =
    let p = and_parts (are_followed s earlier) (is_followed s (kept_of s earlier) l) followed in
    line_verify s (kept_of s earlier) l (sends_of s earlier served p.0) (once_of s earlier served p.0) p.1
