-- What is kept of lines whose responses are right agrees with the card: the selection, the current files and every partial reading.
use Rattle.std.proofs.Common.{◌≡◌, ℕ, zero, suc, Bool, true, false, Option, Some, None, List, [], ◌∷◌, map, refl, sym, subst}
use Rattle.std.specs.Prelude.{not}
use Rattle.std.proofs.lemmas.Bool.{and_parts, cond_both}
use Rattle.apdu.specs.Values.{CommandValue, ResponseValue}
use Rattle.apdu.specs.Words.{same_number}
use Rattle.card_model.specs.declared.world.CardState.{CardState}
use Rattle.card_model.specs.declared.world.World.{World}
use Rattle.card_model.specs.declared.world.WorldEvent.TheVariants.{Arm, Out, Insert}
use Rattle.card_model.specs.Card.{file_at}
use Rattle.card_model.specs.Step.{on_card, card_inside, step}
use Rattle.card_effects.specs.Effect.{Effect}
use Rattle.card_effects.proofs.Basic.{basic_effect, effect_aids}
use Rattle.card_effects.proofs.Effects.{effect}
use Rattle.script_reader.specs.declared.types.Script.{Script}
use Rattle.report.specs.declared.answer.Answer.{Answer}
use Rattle.report.specs.declared.line.Line.{Line}
use Rattle.report.specs.declared.line.Line.TheVariants as line
use Rattle.link.specs.declared.chain.Final.{Final}
use Rattle.link.specs.Commands.{final_after}
use Rattle.epoch_cache.specs.declared.cached.CachedFile.{CachedFile}
use Rattle.epoch_cache.specs.declared.cached.Touch.{Touch}
use Rattle.epoch_cache.specs.Cache.{forgotten, is_spoiled}
use Rattle.loader.specs.Values.{ReadingValue}
use Rattle.loader.specs.Reading.{unspoiled}
use Rattle.editor.specs.declared.editing.Attempt.{Attempt}
use Rattle.rules.specs.declared.kept.Facts.{Facts}
use Rattle.rules.specs.declared.kept.Job.{Job}
use Rattle.rules.specs.declared.kept.Kept.{Kept}
use Rattle.rules.specs.Kept.{change_at}
use Rattle.rules.specs.Cache.{touch_of}
use Rattle.rules.specs.Work.{family_read}
use Rattle.rules.specs.After.{facts_of, is_raw_line, is_started, decision_at, job_beside, jobs_beside, own_job, framework_marked, kept_after, kept_of}
use Rattle.rules.specs.Rules.{has_right_response}
use Rattle.rules.specs.State.{world_of, world_after}
use Rattle.rules.specs.Agreement.{are_responses_right, IsSelected, FilesTrue, ReadingsTrue, JobsTrue, Tied, TiedInside}
use Rattle.rules.proofs.Sane.{FineChanges}
use Rattle.rules.proofs.Worlds.{Alike, arm_alike}
use Rattle.rules.proofs.Selected.{answers_right, basic_alike, selected_step, keeps_current}
use Rattle.rules.proofs.Chains.{chain_tied}
use Rattle.rules.proofs.Truth.{FineCard}
use Rattle.rules.proofs.Readings.{filter_true}
use Rattle.rules.proofs.Current.{forgotten_true, unspoiled_true}
use Rattle.rules.proofs.Missing.{no_file_true}
use Rattle.rules.proofs.Started.{started_same, started_step}
use Rattle.rules.proofs.Exchanged.{jobs_map, jobs_change, FinalTied, final_tied, beside_true, own_true, files_true}

-- ---- an epoch's border: nothing is kept

abbrev pub beginning : Touch
beginning = touch_of false None (line.Reset 0)

abbrev pub quiet_touch : Touch
quiet_touch = touch_of false None (line.Turn 0)

pub forgotten_all : (files : List CachedFile) → forgotten beginning files ≡ []
forgotten_all [] = refl
forgotten_all (file ∷ files) = forgotten_all files

unspoiled_all : (selected : Option (List ℕ)) (gs : List ReadingValue) → unspoiled beginning selected gs ≡ []
unspoiled_all selected [] = refl
unspoiled_all selected (g ∷ gs) = unspoiled_all selected gs

jobs_none : (card : CardState) (change : Job → Job) → ((job : Job) → (change job).readings ≡ []) → (jobs : List Job) → JobsTrue card (map change jobs)
jobs_none card change none [] = tt
jobs_none card change none (job ∷ jobs) = (subst (λ (gs : List ReadingValue). ReadingsTrue card gs) (sym (none job)) tt, jobs_none card change none jobs)

-- ---- a line that tells nothing of the card

module _ (old new : CardState) (alike : Alike old new) where
  same_at : (path : List ℕ) → file_at path new ≡ file_at path old
  same_at path = let f = alike.files in rw f refl

  quiet_files : (files : List CachedFile) → FilesTrue old files → FilesTrue new (forgotten quiet_touch files)
  quiet_files files t = forgotten_true old new alike.aids quiet_touch (λ path h. same_at path) files t

  quiet_readings : (selected : Option (List ℕ)) (gs : List ReadingValue) → ReadingsTrue old gs → ReadingsTrue new (unspoiled quiet_touch selected gs)
  quiet_readings selected gs t = unspoiled_true old new alike.aids quiet_touch selected (λ path h. same_at path) gs t

  quiet_selected : (selected : Option (List ℕ)) → IsSelected old selected → IsSelected new selected
  quiet_selected selected t = keeps_current old new selected (basic_alike old new alike) alike.aids t

itself_alike : (card : CardState) → Alike card card
itself_alike card = record { files = refl; channels = refl; aids = refl; waiting = refl }

marked_true : (card : CardState) (family : Option ℕ) (job : Job) → ReadingsTrue card job.readings → ReadingsTrue card (framework_marked family job).readings
marked_true card family job t = cond_both (same_number family job.family) job.readings [] (ReadingsTrue card) (λ h. t) (λ h. tt)

-- ---- what is asked of the worlds: their files and changes are fine; and that start-up, where it is finished, has selected the USIM

pub record FineWorld (w : World) : Type 0 where
  pub changes : FineChanges w.changes
  pub card : (card : CardState) → card_inside w ≡ Some card → FineCard card

pub record FineLine (s : Script) (w : World) (l : Line) (k : Kept) : Type 0 where
  pub before : FineWorld w
  pub behind : FineWorld (world_after l w)

abbrev pub FineLines : Script → List Line → Type 0
FineLines s [] = Unit {0}
FineLines s (l ∷ earlier) = FineLines s earlier × FineLine s (world_of s earlier) l (kept_of s earlier)

-- ---- an exchange

module _ (s : Script) (w : World) (a : ℕ) (c : CommandValue) (k : Kept) (card : CardState) (inside : card_inside w ≡ Some card) (t : Tied card k) (fine : FineLine s w (line.Exchange a c (on_card w.changes card c).1) k) (behind : card_inside (step w c).0 ≡ Some (on_card w.changes card c).0) where
  abbrev p : CardState × ResponseValue
  p = on_card w.changes card c

  abbrev l : Line
  l = line.Exchange a c p.1

  abbrev facts : Facts
  facts = facts_of s l k

  abbrev raw : Bool
  raw = is_raw_line s l k.jobs

  abbrev attempt : Option Attempt
  attempt = (decision_at s l k).attempt

  abbrev beside : List Job
  beside = jobs_beside l k.history.epoch facts k.selected k.jobs

  does : Effect w.changes card c p
  does = effect w.changes card c

  final_is : FinalTied card c p.1 k.selected (final_after a c p.1 k.history.events k.chain)
  final_is = final_tied card c p.1 k.selected k.chain a k.history.events t.chain

  fine_card : FineCard card
  fine_card = fine.before.card card inside

  fine_new : FineCard p.0
  fine_new = fine.behind.card p.0 behind

  besides : JobsTrue p.0 beside
  besides = jobs_map card p.0 (job_beside l k.history.epoch facts k.selected) (λ job r. beside_true w.changes card c p does fine.before.changes fine_card fine_new k.selected t.selected raw job.readings r) k.jobs t.jobs

  besides_before : JobsTrue card beside
  besides_before = jobs_map card card (job_beside l k.history.epoch facts k.selected) (λ job r. filter_true card (λ (g : ReadingValue). not (is_spoiled facts.touch k.selected g.path)) job.readings r) k.jobs t.jobs

  pub exchange_tied : Tied p.0 (kept_after s l k)
  exchange_tied = record {
    selected = selected_step card c p (effect_aids w.changes card c p does) k.selected (basic_effect card c p w.changes does) t.selected;
    chain = chain_tied w.changes card c p does k.selected k.chain t.chain;
    files = files_true w.changes card c p does fine.before.changes fine_card fine_new k.selected t.selected raw (is_started k.startup) facts.answered final_is beside besides_before k.files t.files (λ f h n. let q = subst (λ (o : Option Final). FinalTied card c p.1 k.selected o) h final_is in no_file_true w.changes card c p does k.selected f q.0 q.1 (is_started k.startup) t.started n);
    jobs = jobs_change card p.0 a (own_job s l k facts attempt) beside (λ job r u. own_true w.changes card c p does fine.before.changes fine_card fine_new k.selected t.selected raw facts.answered final_is job.readings r u) besides_before besides;
    started = started_step w.changes card c p does k.selected facts.answered k.startup final_is t.started;
  }

-- ---- every line

module _ (s : Script) (w : World) (k : Kept) (h : TiedInside w k) where
  abbrev besides_of : Line → List Job
  besides_of l = jobs_beside l k.history.epoch (facts_of s l k) k.selected k.jobs

  abbrev own_of : Line → Job → Job
  own_of l job = own_job s l k (facts_of s l k) (decision_at s l k).attempt job

  stopped : (card : CardState) (l : Line) → ((job : Job) → (job_beside l k.history.epoch (facts_of s l k) k.selected job).readings ≡ []) → JobsTrue card (besides_of l)
  stopped card l none = jobs_none card (job_beside l k.history.epoch (facts_of s l k) k.selected) none k.jobs

  failed_holds : (a : ℕ) (c : CommandValue) (d : Bool) → TiedInside (world_after (line.Failed a c d) w) (kept_after s (line.Failed a c d) k)
  failed_holds a c d card inside =
      let empty : JobsTrue card (besides_of (line.Failed a c d)) = stopped card (line.Failed a c d) (λ job. refl) in
      record { selected = tt; chain = tt; files = tt; started = λ q. absurd (cc); jobs = jobs_change card card a (own_of (line.Failed a c d)) (besides_of (line.Failed a c d)) (λ job r u. u) empty empty }

  reset_failed_holds : (a : ℕ) → TiedInside (world_after (line.ResetFailed a) w) (kept_after s (line.ResetFailed a) k)
  reset_failed_holds a card inside = record { selected = tt; chain = tt; files = tt; started = λ q. absurd (cc); jobs = stopped card (line.ResetFailed a) (λ job. refl) }

  out_holds : (a : ℕ) → TiedInside (world_after (line.World a Out) w) (kept_after s (line.World a Out) k)
  out_holds a card inside = record { selected = tt; chain = tt; files = tt; started = λ q. absurd (cc); jobs = stopped card (line.World a Out) (λ job. refl) }

  reset_holds : (a : ℕ) → TiedInside (world_after (line.Reset a) w) (kept_after s (line.Reset a) k)
  reset_holds a card inside = record { selected = tt; chain = tt; files = subst (λ (x : List CachedFile). FilesTrue card x) (sym (forgotten_all k.files)) tt; started = λ q. absurd (cc); jobs = stopped card (line.Reset a) (λ job. unspoiled_all k.selected job.readings) }

  inserted_holds : (a j : ℕ) → TiedInside (world_after (line.World a (Insert j)) w) (kept_after s (line.World a (Insert j)) k)
  inserted_holds a j card inside = record { selected = tt; chain = tt; files = subst (λ (x : List CachedFile). FilesTrue card x) (sym (forgotten_all k.files)) tt; started = λ q. absurd (cc); jobs = stopped card (line.World a (Insert j)) (λ job. unspoiled_all k.selected job.readings) }

  -- a line that moves nothing, on a card with the same files
  quiet_jobs : (old new : CardState) → Alike old new → (l : Line) → ((job : Job) → (job_beside l k.history.epoch (facts_of s l k) k.selected job).readings ≡ unspoiled quiet_touch k.selected job.readings) → JobsTrue old k.jobs → JobsTrue new (besides_of l)
  quiet_jobs old new alike l same t = jobs_map old new (job_beside l k.history.epoch (facts_of s l k) k.selected) (λ job r. subst (λ (gs : List ReadingValue). ReadingsTrue new gs) (sym (same job)) (quiet_readings old new alike k.selected job.readings r)) k.jobs t

  quiet_own : (card : CardState) → (l : Line) (a : ℕ) → ((job : Job) → (job_beside l k.history.epoch (facts_of s l k) k.selected job).readings ≡ unspoiled quiet_touch k.selected job.readings) → ((job : Job) → ReadingsTrue card job.readings → ReadingsTrue card (own_of l job).readings) → JobsTrue card k.jobs → JobsTrue card (change_at a (own_of l) (besides_of l))
  quiet_own card l a same own t =
      let beside : JobsTrue card (besides_of l) = quiet_jobs card card (itself_alike card) l same t in
      jobs_change card card a (own_of l) (besides_of l) (λ job r u. own job u) beside beside

  arm_holds : (a i : ℕ) → TiedInside (world_after (line.World a (Arm i)) w) (kept_after s (line.World a (Arm i)) k)
  arm_holds a i card inside =
      let q = arm_alike w i card inside in
      let t = h q.0 q.1 in
      record { selected = quiet_selected q.0 card q.2 k.selected t.selected; started = λ r. started_same q.0 card q.2.aids (basic_alike q.0 card q.2) (t.started r); chain = tt; files = quiet_files q.0 card q.2 k.files t.files; jobs = quiet_jobs q.0 card q.2 (line.World a (Arm i)) (λ job. refl) t.jobs }

  turn_own : (a : ℕ) (card : CardState) (job : Job) → ReadingsTrue card job.readings → ReadingsTrue card (own_of (line.Turn a) job).readings
  turn_own zero card job r = marked_true card (family_read k) job r
  turn_own (suc a) card job r = r

  turn_holds : (a : ℕ) → TiedInside w (kept_after s (line.Turn a) k)
  turn_holds a card inside = let t = h card inside in record { selected = t.selected; started = t.started; chain = tt; files = quiet_files card card (itself_alike card) k.files t.files; jobs = quiet_own card (line.Turn a) a (λ job. refl) (turn_own a card) t.jobs }

  begin_holds : (a i : ℕ) → TiedInside w (kept_after s (line.Begin a i) k)
  begin_holds a i card inside = let t = h card inside in record { selected = t.selected; started = t.started; chain = tt; files = quiet_files card card (itself_alike card) k.files t.files; jobs = quiet_own card (line.Begin a i) a (λ job. refl) (λ job r. tt) t.jobs }

  published_holds : (n f e v : ℕ) (text : List ℕ) → TiedInside w (kept_after s (line.Published n f e v text) k)
  published_holds n f e v text card inside = let t = h card inside in record { selected = t.selected; started = t.started; chain = tt; files = quiet_files card card (itself_alike card) k.files t.files; jobs = quiet_jobs card card (itself_alike card) (line.Published n f e v text) (λ job. refl) t.jobs }

  epoch_end_holds : (n e v : ℕ) → TiedInside w (kept_after s (line.EpochEnd n e v) k)
  epoch_end_holds n e v card inside = let t = h card inside in record { selected = t.selected; started = t.started; chain = tt; files = quiet_files card card (itself_alike card) k.files t.files; jobs = quiet_jobs card card (itself_alike card) (line.EpochEnd n e v) (λ job. refl) t.jobs }

  refused_holds : (f n : ℕ) → TiedInside w (kept_after s (line.Refused f n) k)
  refused_holds f n card inside = let t = h card inside in record { selected = t.selected; started = t.started; chain = tt; files = quiet_files card card (itself_alike card) k.files t.files; jobs = quiet_jobs card card (itself_alike card) (line.Refused f n) (λ job. refl) t.jobs }

  answered_holds : (a i : ℕ) (given : Answer) → TiedInside w (kept_after s (line.Answered a i given) k)
  answered_holds a i given card inside = let t = h card inside in record { selected = t.selected; started = t.started; chain = tt; files = quiet_files card card (itself_alike card) k.files t.files; jobs = quiet_own card (line.Answered a i given) a (λ job. refl) (λ job r. tt) t.jobs }

exchange_holds : (s : Script) (w : World) (k : Kept) (a : ℕ) (c : CommandValue) (r : ResponseValue) → has_right_response w (line.Exchange a c r) ≡ true → FineLine s w (line.Exchange a c r) k → TiedInside w k → TiedInside (step w c).0 (kept_after s (line.Exchange a c r) k)
exchange_holds s w k a c r right fine h new inside =
    let t = answers_right w a c r right in
    let q = on_card w.changes t.card c in
    let fine_q : FineLine s w (line.Exchange a c q.1) k = subst (λ (x : ResponseValue). FineLine s w (line.Exchange a c x) k) t.response fine in
    let same : q.0 ≡ new = let b = t.behind in cc in
    subst (λ (x : ResponseValue). Tied new (kept_after s (line.Exchange a c x) k)) (sym t.response)
    (subst (λ (x : CardState). Tied x (kept_after s (line.Exchange a c q.1) k)) same
    (exchange_tied s w a c k t.card t.inside (h t.card t.inside) fine_q t.behind))

pub sound : (s : Script) (lines : List Line) → are_responses_right s lines ≡ true → FineLines s lines → TiedInside (world_of s lines) (kept_of s lines)
sound s [] h fine = λ card inside. absurd (cc)
sound s (line.Exchange a c r ∷ e) h fine = let q = and_parts (are_responses_right s e) (has_right_response (world_of s e) (line.Exchange a c r)) h in exchange_holds s (world_of s e) (kept_of s e) a c r q.1 fine.1 (sound s e q.0 fine.0)
sound s (line.Failed a c d ∷ e) h fine = failed_holds s (world_of s e) (kept_of s e) (sound s e ((and_parts (are_responses_right s e) (has_right_response (world_of s e) (line.Failed a c d)) h).0) fine.0) a c d
sound s (line.Reset a ∷ e) h fine = reset_holds s (world_of s e) (kept_of s e) (sound s e ((and_parts (are_responses_right s e) true h).0) fine.0) a
sound s (line.ResetFailed a ∷ e) h fine = reset_failed_holds s (world_of s e) (kept_of s e) (sound s e ((and_parts (are_responses_right s e) true h).0) fine.0) a
sound s (line.World a Out ∷ e) h fine = out_holds s (world_of s e) (kept_of s e) (sound s e ((and_parts (are_responses_right s e) true h).0) fine.0) a
sound s (line.World a (Insert j) ∷ e) h fine = inserted_holds s (world_of s e) (kept_of s e) (sound s e ((and_parts (are_responses_right s e) true h).0) fine.0) a j
sound s (line.World a (Arm i) ∷ e) h fine = arm_holds s (world_of s e) (kept_of s e) (sound s e ((and_parts (are_responses_right s e) true h).0) fine.0) a i
sound s (line.Turn a ∷ e) h fine = turn_holds s (world_of s e) (kept_of s e) (sound s e ((and_parts (are_responses_right s e) true h).0) fine.0) a
sound s (line.Begin a i ∷ e) h fine = begin_holds s (world_of s e) (kept_of s e) (sound s e ((and_parts (are_responses_right s e) true h).0) fine.0) a i
sound s (line.Published n f v m text ∷ e) h fine = published_holds s (world_of s e) (kept_of s e) (sound s e ((and_parts (are_responses_right s e) true h).0) fine.0) n f v m text
sound s (line.EpochEnd n v m ∷ e) h fine = epoch_end_holds s (world_of s e) (kept_of s e) (sound s e ((and_parts (are_responses_right s e) true h).0) fine.0) n v m
sound s (line.Refused f n ∷ e) h fine = refused_holds s (world_of s e) (kept_of s e) (sound s e ((and_parts (are_responses_right s e) true h).0) fine.0) f n
sound s (line.Answered a i given ∷ e) h fine = answered_holds s (world_of s e) (kept_of s e) (sound s e ((and_parts (are_responses_right s e) true h).0) fine.0) a i given
