-- A turn of a load, exchange by exchange.
--
-- It reads one path, the first that is not current. A path that it does not read yet it selects, which asks for the control parameters, and
-- then sends the first READ. Later it sends the next READ, behind a SELECT without an answer where another file is current. What follows a
-- response 61XX or 6CXX is sent at once. A turn ends behind its READ, behind a SELECT that leaves no READ, behind a refusal, and behind an
-- exchange that failed.
use Rattle.std.specs.Prelude.{◌≡◌, ◌≤◌, ℕ, ◌+◌, ◌&&◌, Bool, true, false, if◌then◌else◌, List, [], ◌∷◌, Option, Some, None, option_and_then, Result, Ok, Err}
use Rattle.apdu.specs.Values.{CommandValue, ResponseValue}
use Rattle.apdu.specs.Apdu.{is_success, wants_more}
use Rattle.apdu.specs.Stream.{Rose}
use Rattle.fcp.specs.Control.{read_fcp}
use Rattle.fcp.specs.declared.control.Fcp.{Fcp}
use Rattle.fcp.specs.declared.control.FcpError.{FcpError}
use Rattle.card_model.specs.declared.slot.SlotFault.{SlotFault}
use Rattle.card_model.specs.declared.trail.Step.{Step}
use Rattle.link.specs.declared.chain.Chain.{Chain}
use Rattle.link.specs.declared.chain.Final.{Final}
use Rattle.link.specs.Commands.{chain_after, final_after, selection_after, is_at, is_refused, is_path_select, is_reading_select, select_for_reading, select_only}
use Rattle.epoch_cache.specs.declared.cached.CachedFile.{CachedFile}
use Rattle.epoch_cache.specs.Cache.{with_completed, all_current}
use Rattle.loader.specs.declared.stage.Stage.{Stage}
use Rattle.loader.specs.declared.stage.Stage.TheVariants.{Fresh, Next, Over}
use Rattle.loader.specs.declared.stage.LoadError.{LoadError}
use Rattle.loader.specs.declared.stage.LoadError.TheVariants as error
use Rattle.loader.specs.declared.stage.LoadTurn.{LoadTurn}
use Rattle.loader.specs.declared.stage.LoadTurn.TheVariants.{Ready, Going}
use Rattle.loader.specs.declared.turning.Turning.{Turning}
use Rattle.loader.specs.Values.{ReadingValue}
use Rattle.loader.specs.Reading.{reading_of, next_read, readings_after, completed_by}

-- ---- the command that reads a path on

-- SELECT without an answer stands before a command exactly where another file is current on the basic channel
abbrev pub selected_first : Option (List ℕ) → List ℕ → CommandValue → CommandValue
selected_first selected path c = if is_at selected path then c else select_only path

-- the next READ, or else the reading is begun anew
abbrev pub next_or_select : Option (List ℕ) → List ℕ → Option CommandValue → CommandValue
next_or_select selected path None = select_for_reading path
next_or_select selected path (Some c) = selected_first selected path c

abbrev pub reading_command : Option (List ℕ) → List ℕ → Option ReadingValue → CommandValue
reading_command selected path None = select_for_reading path
reading_command selected path (Some g) = next_or_select selected path (next_read g)

-- ---- the state of a turn

pub record Load : Type 0 where
  -- the chain of exchanges of which the last is one
  pub chain : Option Chain
  pub stage : Stage
  -- current on the basic channel
  pub selected : Option (List ℕ)
  -- those that are current
  pub files : List CachedFile
  -- the readings under way
  pub readings : List ReadingValue
  -- how many events there were
  pub events : ℕ
  -- why the last command was refused
  pub refused : Option LoadError

-- the command that is due
abbrev pub due_by_stage : List ℕ → Load → Stage → Option CommandValue
due_by_stage path l Fresh = Some (reading_command l.selected path (reading_of path l.readings))
due_by_stage path l (Next c) = Some c
due_by_stage path l Over = None

abbrev pub due_by_chain : List ℕ → Load → Option Chain → Option CommandValue
due_by_chain path l (Some chain) = Some chain.next
due_by_chain path l None = due_by_stage path l l.stage

abbrev pub load_due : List ℕ → Load → Option CommandValue
load_due path l = due_by_chain path l l.chain

-- ---- behind an exchange

abbrev pub next_or_over : Option CommandValue → Stage
next_or_over None = Over
next_or_over (Some c) = Next c

abbrev pub is_selected : Final → Bool
is_selected f = is_path_select f.command && is_success f.response.sw

-- behind a SELECT comes the next READ of the path; `readings` are those behind the SELECT
abbrev pub read_behind : List ℕ → List ReadingValue → Final → Option CommandValue
read_behind path readings f = if is_selected f then option_and_then next_read (reading_of path readings) else None

abbrev pub stage_behind : List ℕ → List ReadingValue → Option Final → Stage → Stage
stage_behind path readings None before = before
stage_behind path readings (Some f) before = next_or_over (read_behind path readings f)

abbrev pub readings_exchanged : Option (List ℕ) → Option Final → List ReadingValue → List ReadingValue
readings_exchanged selected None readings = readings
readings_exchanged selected (Some f) readings = readings_after f selected readings

-- start-up is finished wherever a load reads
abbrev pub completed_behind : Option Final → Option (List ℕ) → List ReadingValue → Option CachedFile
completed_behind None selected readings = None
completed_behind (Some f) selected readings = completed_by true f selected readings

abbrev pub bad_fcp : Result Fcp FcpError → Option LoadError
bad_fcp (Ok control) = None
bad_fcp (Err e) = Some (error.BadFcp e)

-- the final response loops, refuses, or is of a SELECT whose body is no template of control parameters
abbrev pub refusal_of : Final → Option LoadError
refusal_of f =
    if wants_more f.response.sw then Some (error.Loop (record { 0 = f.response.sw }))
    else if is_refused f then Some (error.Status (record { 0 = f.response.sw }))
    else elim (is_reading_select f.command && is_success f.response.sw) [ true ↦ bad_fcp (read_fcp f.response.body) | false ↦ None ]

abbrev pub load_by_final : List ℕ → Option Final → CommandValue → ResponseValue → Load → Load
load_by_final path answered c r l = record {
  chain = chain_after c r l.chain;
  stage = stage_behind path (readings_exchanged l.selected answered l.readings) answered l.stage;
  selected = selection_after c r l.selected;
  files = with_completed (completed_behind answered l.selected l.readings) l.files;
  readings = readings_exchanged l.selected answered l.readings;
  events = l.events + 1;
  refused = option_and_then refusal_of answered;
}

-- the epoch has ended
abbrev pub load_failed : Load → Load
load_failed l = record l { chain = None; stage = Over; selected = None; events = l.events + 1; refused = Some error.Slot }

abbrev pub load_by : List ℕ → CommandValue → Result ResponseValue SlotFault → Load → Load
load_by path c (Ok r) l = load_by_final path (final_after 0 c r l.events l.chain) c r l
load_by path c (Err fault) l = load_failed l

-- behind steps in their order
abbrev pub load_after : List ℕ → List Step → Load → Load
load_after path [] l = l
load_after path (step ∷ steps) l = load_after path steps (load_by path step.command step.outcome l)

-- ---- a turn

-- each step's command was the one that was due
abbrev pub AreDue : List ℕ → List Step → Load → Type 0
AreDue path [] l = Unit {0}
AreDue path (step ∷ steps) l = (load_due path l ≡ Some step.command) × AreDue path steps (load_by path step.command step.outcome l)

abbrev pub load_begun : Option (List ℕ) → List CachedFile → List ReadingValue → ℕ → Load
load_begun selected files readings events = record { chain = None; stage = Fresh; selected = selected; files = files; readings = readings; events = events; refused = None }

-- behind the steps of a turn that reads this path; nothing is sent where there is none
abbrev pub load_behind : Option (List ℕ) → List Step → Load → Load
load_behind None steps l = l
load_behind (Some path) steps l = load_after path steps l

-- each step was due, of which there are none where no path is to be read
abbrev pub IsDue : Option (List ℕ) → List Step → Load → Type 0
IsDue None steps l = steps ≡ []
IsDue (Some path) steps l = AreDue path steps l

-- no further command is due
abbrev pub IsOver : Option (List ℕ) → Load → Type 0
IsOver None l = Unit {0}
IsOver (Some path) l = load_due path l ≡ None

-- a command that is due behind another is no SELECT
abbrev pub IsReadNext : Stage → Type 0
IsReadNext Fresh = ⊥
IsReadNext (Next c) = is_path_select c ≡ false
IsReadNext Over = Unit {0}

abbrev pub due_next : Stage → Option CommandValue
due_next Fresh = None
due_next (Next c) = Some c
due_next Over = None

-- what a turn answers: why it was refused, or else whether all is current
abbrev pub load_answer : List (List ℕ) → Option LoadError → List CachedFile → Result LoadTurn LoadError
load_answer paths (Some e) files = Err e
load_answer paths None files = if all_current files paths then Ok Ready else Ok Going

-- where memory did not run out
abbrev pub HadMemory : Result LoadTurn LoadError → Type 0 → Type 0
HadMemory (Ok turn) fact = fact
HadMemory (Err error.Memory) fact = Unit {0}
HadMemory (Err error.Slot) fact = fact
HadMemory (Err (error.Status sw)) fact = fact
HadMemory (Err (error.BadFcp e)) fact = fact
HadMemory (Err (error.Loop sw)) fact = fact

-- a turn has come to this state, in which nothing more is due, and answers what that comes to
pub record HasTurned (path : Option (List ℕ)) (paths : List (List ℕ)) (l : Load) (new_files : List CachedFile) (new_readings : List ReadingValue) (result : Result LoadTurn LoadError) : Type 0 where
  pub files : new_files ≡ l.files
  pub readings : new_readings ≡ l.readings
  pub over : IsOver path l
  pub answer : result ≡ load_answer paths l.refused l.files

-- it answers a fault only where the count of faults rose
pub record FaultHasCause (before now : ℕ) (result : Result LoadTurn LoadError) : Type 0 where
  pub later : before ≤ now
  pub failed : result ≡ Err error.Slot → Rose before now

-- ---- a turn of the code

abbrev pub load_of : Turning → List CachedFile → List ReadingValue → Load
load_of t files readings = record { chain = t.chain; stage = t.stage; selected = t.selection; files = files; readings = readings; events = t.events; refused = t.refused }
