-- One exchange: what is kept agrees with the card behind it.
use Rattle.std.proofs.Common.{◌≡◌, ℕ, zero, suc, ◌+◌, ◌-◌, Bool, true, Option, Some, None, List, [], ◌∷◌, refl, subst}
use Rattle.std.specs.Prelude.{map, slice_get, slice_set, option_map, unwrap_or}
use Rattle.std.proofs.lemmas.Bool.{cond_both}
use Rattle.apdu.specs.Values.{CommandValue, ResponseValue}
use Rattle.card_model.specs.declared.world.Change.{Change}
use Rattle.card_model.specs.declared.world.CardState.{CardState}
use Rattle.card_effects.specs.Effect.{Effect}
use Rattle.card_effects.proofs.Basic.{effect_aids}
use Rattle.link.specs.declared.chain.Chain.{Chain}
use Rattle.link.specs.declared.chain.Final.{Final}
use Rattle.link.specs.Commands.{named_path, asks_more, chain_count, chain_first, final_after}
use Rattle.epoch_cache.specs.declared.cached.CachedFile.{CachedFile}
use Rattle.epoch_cache.specs.declared.cached.Touch.{Touch}
use Rattle.epoch_cache.specs.Cache.{touch_exchanged, files_exchanged, forgotten, written_files}
use Rattle.loader.specs.Values.{ReadingValue}
use Rattle.loader.specs.Reading.{reading_after, file_of_complete, unspoiled, tells_no_file, no_file}
use Rattle.rules.specs.declared.kept.Job.{Job}
use Rattle.rules.specs.Kept.{first_job, job_of, changed_at, change_at}
use Rattle.rules.specs.After.{completed_of}
use Rattle.loader.specs.Load.{readings_exchanged}
use Rattle.rules.specs.Agreement.{IsSelected, Stands, ChainTied, FilesTrue, ReadingsTrue, JobsTrue}
use Rattle.rules.proofs.Sane.{FineChanges}
use Rattle.rules.proofs.Chains.{stands_first}
use Rattle.rules.proofs.Truth.{FineCard}
use Rattle.rules.proofs.Readings.{CompletedTrue, goes_true, file_complete_true, readings_after_true}
use Rattle.rules.proofs.Spared.{spared}
use Rattle.rules.proofs.Current.{files_kept, unspoiled_true, completed_put}

-- ---- the readings of all jobs

pub jobs_map : (old new : CardState) (change : Job → Job) → ((job : Job) → ReadingsTrue old job.readings → ReadingsTrue new (change job).readings) → (jobs : List Job) → JobsTrue old jobs → JobsTrue new (map change jobs)
jobs_map old new change each [] t = tt
jobs_map old new change each (job ∷ jobs) t = (each job t.0, jobs_map old new change each jobs t.1)

jobs_set : (card : CardState) (jobs : List Job) (a : ℕ) (job : Job) → JobsTrue card jobs → ReadingsTrue card job.readings → JobsTrue card (slice_set jobs a job)
jobs_set card [] a job t r = tt
jobs_set card (x ∷ jobs) zero job t r = (r, t.1)
jobs_set card (x ∷ jobs) (suc a) job t r = (t.0, jobs_set card jobs a job t.1 r)

job_there : (card : CardState) (jobs : List Job) (a : ℕ) (job : Job) → slice_get jobs a ≡ Some job → JobsTrue card jobs → ReadingsTrue card job.readings
job_there card [] a job h t = absurd (cc)
job_there card (x ∷ jobs) zero job h t = let same : x ≡ job = cc in subst (λ (y : Job). ReadingsTrue card y.readings) same t.0
job_there card (x ∷ jobs) (suc a) job h t = job_there card jobs a job h t.1

jobs_changed : (old new : CardState) (a : ℕ) (change : Job → Job) (jobs : List Job) → ((job : Job) → ReadingsTrue old job.readings → ReadingsTrue new job.readings → ReadingsTrue new (change job).readings) → JobsTrue old jobs → JobsTrue new jobs → (o : Option Job) → slice_get jobs a ≡ o → JobsTrue new (changed_at a change jobs o)
jobs_changed old new a change jobs each t u None h = u
jobs_changed old new a change jobs each t u (Some job) h = jobs_set new jobs a (change job) u (each job (job_there old jobs a job h t) (job_there new jobs a job h u))

pub jobs_change : (old new : CardState) (a : ℕ) (change : Job → Job) (jobs : List Job) → ((job : Job) → ReadingsTrue old job.readings → ReadingsTrue new job.readings → ReadingsTrue new (change job).readings) → JobsTrue old jobs → JobsTrue new jobs → JobsTrue new (change_at a change jobs)
jobs_change old new a change jobs each t u = jobs_changed old new a change jobs each t u (slice_get jobs a) refl

job_readings : (card : CardState) (jobs : List Job) (a : ℕ) → JobsTrue card jobs → (o : Option Job) → slice_get jobs a ≡ o → ReadingsTrue card (unwrap_or o first_job).readings
job_readings card jobs a t None h = tt
job_readings card jobs a t (Some job) h = job_there card jobs a job h t

-- ---- the final response

abbrev pub FinalTied : CardState → CommandValue → ResponseValue → Option (List ℕ) → Option Final → Type 0
FinalTied card c r selected None = Unit {0}
FinalTied card c r selected (Some f) = Stands card selected f.command c × (f.response ≡ r)

pub final_tied : (card : CardState) (c : CommandValue) (r : ResponseValue) (selected : Option (List ℕ)) (before : Option Chain) (a events : ℕ) → ChainTied card selected before → FinalTied card c r selected (final_after a c r events before)
final_tied card c r selected before a events t = cond_both (asks_more (chain_count c before + 1) c r) None (Some (record { actor = a; command = chain_first c before; response = r; event = events + 1; first_event = events + 1 - chain_count c before })) (FinalTied card c r selected)
    (λ h. tt)
    (λ h. (stands_first card selected c before t, refl))

module _ (changes : List Change) (card : CardState) (c : CommandValue) (p : CardState × ResponseValue) (e : Effect changes card c p) (fines : FineChanges changes) (fine : FineCard card) (fine_new : FineCard p.0) (selected : Option (List ℕ)) (here : IsSelected card selected) (raw : Bool) where
  abbrev touch : Touch
  touch = touch_exchanged raw selected c p.1

  -- every job's readings, less what is spoiled; and then those of the actor
  pub beside_true : (gs : List ReadingValue) → ReadingsTrue card gs → ReadingsTrue p.0 (unspoiled touch selected gs)
  beside_true gs r = unspoiled_true card p.0 (effect_aids changes card c p e) touch selected (spared changes card c p e fines selected here raw) gs r

  pub own_true : (o : Option Final) → FinalTied card c p.1 selected o → (gs : List ReadingValue) → ReadingsTrue card gs → ReadingsTrue p.0 gs → ReadingsTrue p.0 (readings_exchanged selected o gs)
  own_true None t gs r u = u
  own_true (Some f) t gs r u = readings_after_true p.0 f selected gs (goes_true changes card c p e fine fine_new f t.1 selected here t.0 gs r) u

  -- the files
  completed_true : (started : Bool) (o : Option Final) → FinalTied card c p.1 selected o → (jobs : List Job) → JobsTrue card jobs → ((f : Final) → o ≡ Some f → tells_no_file started f ≡ true → CompletedTrue p.0 (option_map no_file (named_path f.command))) → CompletedTrue p.0 (completed_of started selected jobs o)
  completed_true started None t jobs r none = tt
  completed_true started (Some f) t jobs r none = cond_both (tells_no_file started f) (option_map no_file (named_path f.command)) (file_of_complete (reading_after f selected (job_of f.actor jobs).readings)) (CompletedTrue p.0)
      (λ h. none f refl h)
      (λ h. file_complete_true p.0 fine_new (reading_after f selected (job_of f.actor jobs).readings) (goes_true changes card c p e fine fine_new f t.1 selected here t.0 (job_of f.actor jobs).readings (job_readings card jobs f.actor r (slice_get jobs f.actor) refl)))

  pub files_true : (started : Bool) (o : Option Final) → FinalTied card c p.1 selected o → (jobs : List Job) → JobsTrue card jobs → (files : List CachedFile) → FilesTrue card files → ((f : Final) → o ≡ Some f → tells_no_file started f ≡ true → CompletedTrue p.0 (option_map no_file (named_path f.command))) → FilesTrue p.0 (files_exchanged touch selected c (completed_of started selected jobs o) files)
  files_true started o t jobs r files h none = completed_put p.0 (completed_of started selected jobs o) (forgotten touch (written_files selected c files touch.written)) (completed_true started o t jobs r none) (files_kept changes card c p e fines fine selected here raw files h)
