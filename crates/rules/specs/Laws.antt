-- Laws of the rules that a reader would want of them.
use Rattle.std.specs.Prelude.{◌≡◌, ℕ, Bool, true, nat_lt, List, [], ◌∷◌, Some, is_none, map, option_map, slice_get, false}
use Rattle.apdu.specs.Words.{is_one_of}
use Rattle.card_model.specs.declared.world.CardState.{CardState}
use Rattle.card_model.specs.declared.world.World.{World}
use Rattle.card_model.specs.Step.{card_inside}
use Rattle.script_reader.specs.declared.types.Script.{Script}
use Rattle.report.specs.declared.line.Mode.{Mode}
use Rattle.report.specs.declared.line.Line.{Line}
use Rattle.report.specs.declared.lines.Report.{Report}
use Rattle.families.specs.Plans.{plan_updates}
use Rattle.families.specs.Families.{View, all_families, shown, phonebook, fixed}
use Rattle.rules.specs.declared.due.Due.TheVariants.{Publish as publish}
use Rattle.epoch_cache.specs.declared.cached.CachedFile.{CachedFile}
use Rattle.editor.specs.declared.editing.Attempt.{Attempt}
use Rattle.rules.specs.declared.kept.Job.{Job}
use Rattle.rules.specs.declared.kept.Kept.{Kept}
use Rattle.epoch_cache.specs.Cache.{taken, is_current}
use Rattle.rules.specs.Due.{due, kept_text}
use Rattle.rules.specs.After.{decision_at, kept_of}
use Rattle.rules.specs.State.{world_of, view_in, shown_in, same_shown}
use Rattle.rules.specs.Agreement.{are_responses_right, TiedInside, edit_at, IsPlanned, is_application, is_planned}
use Rattle.adn.specs.declared.edit.Edit.{Edit}
use Rattle.script_reader.specs.Rules.{keeps_rules}
use Rattle.link.specs.Selected.{FollowsInside}
use Rattle.rules.specs.declared.holdings.Session.{Session}
use Rattle.rules.specs.declared.standing.Standing.{Standing}
use Rattle.rules.specs.Editing.{attempt_of}
use Rattle.rules.specs.Channels.{handle_of}
use Rattle.rules.specs.Sessions.{session_of}
use Rattle.rules.specs.LookingBack.{event_count, call_count, epoch_number, lives, is_reset_owed, open_announcement, publication_count, mark_count, is_wanted, stale_since, board_shows, was_completed, number_and_epoch, held_as, session_since, answer_count, seen_before, attempt_since, updates_sent, was_moved, updates_planned}
use Rattle.rules.specs.Legal.{are_legal_lines, legal, first_broken}

-- ---- judging

-- the two ways to judge a report agree
abbrev pub JudgesReports : Type 0
JudgesReports = (r : Report) → is_none (first_broken r) ≡ legal r

-- ---- publications

-- each current file is kept as the view has it, beside one at the directory of the application
pub record Agrees (files : List CachedFile) (view : View) : Type 0 where
  pub same : (path : List ℕ) (file : CachedFile) → is_application path ≡ false → taken path files ≡ Some file → file.content ≡ view path

-- a publication that is due tells what the card shows
abbrev pub TellsTruth : Type 0
TellsTruth = (s : Script) (k : Kept) (world : World) (f : ℕ) → Agrees k.files (view_in world) → is_one_of f all_families ≡ true → due s k ≡ publish f → kept_text f k ≡ shown f (view_in world)

-- ---- the selection

-- over legal lines the kept selection follows the card
abbrev pub TracksSelection : Type 0
TracksSelection = (s : Script) (m : Mode) (lines : List Line) → are_legal_lines s m lines ≡ true → FollowsInside (card_inside (world_of s lines)) (kept_of s lines).selected

-- ---- what is kept, and the card; over every list of lines whose responses are right

-- the responses of legal lines are
abbrev pub AnswersRight : Type 0
AnswersRight = (s : Script) (m : Mode) (lines : List Line) → are_legal_lines s m lines ≡ true → are_responses_right s lines ≡ true

-- what is kept agrees with the card in the slot
abbrev pub KeptAgrees : Type 0
KeptAgrees = (s : Script) (lines : List Line) → keeps_rules s ≡ true → are_responses_right s lines ≡ true → TiedInside (world_of s lines) (kept_of s lines)

-- a publication that is due tells what the card in the slot shows
abbrev pub ShowsCard : Type 0
ShowsCard = (s : Script) (lines : List Line) (f : ℕ) → keeps_rules s ≡ true → are_responses_right s lines ≡ true → is_one_of f all_families ≡ true → due s (kept_of s lines) ≡ publish f → same_shown (shown_in (world_of s lines) f) (Some (kept_text f (kept_of s lines))) ≡ true

-- what an edit decides behind them by a plan, it decides by the plan for the card in the slot
abbrev pub PlansForCard : Type 0
PlansForCard = (s : Script) (lines : List Line) (l : Line) (card : CardState) (f : ℕ) (e : Edit) → keeps_rules s ≡ true → are_responses_right s lines ≡ true → card_inside (world_of s lines) ≡ Some card → is_one_of f (phonebook ∷ fixed ∷ []) ≡ true → edit_at s l (kept_of s lines) ≡ Some (f, e) → is_planned (decision_at s l (kept_of s lines)) ≡ true → IsPlanned card (kept_of s lines) f e (decision_at s l (kept_of s lines))

-- ---- what is kept, and looking back; over every list of lines

pub record KeepsHistory (s : Script) (lines : List Line) : Type 0 where
  pub events : (kept_of s lines).history.events ≡ event_count lines
  pub calls : (kept_of s lines).history.calls ≡ call_count lines
  pub epoch : (kept_of s lines).history.epoch ≡ epoch_number lines
  pub living : (kept_of s lines).history.living ≡ lives lines
  pub owes_reset : (kept_of s lines).history.owes_reset ≡ is_reset_owed lines
  pub announced : (kept_of s lines).history.announced ≡ open_announcement lines
  pub publications : (kept_of s lines).publications ≡ publication_count lines
  pub marks : (kept_of s lines).marks ≡ mark_count lines

-- how a family is said to stand
pub record Stands (s : Script) (lines : List Line) (f : ℕ) (standing : Standing) : Type 0 where
  pub family : standing.family ≡ f
  pub wanted : standing.wanted ≡ is_wanted s f lines
  pub stale : standing.stale ≡ stale_since s f lines
  pub shown : standing.shown ≡ board_shows f lines

-- of each family
pub record KeepsStandings (s : Script) (lines : List Line) : Type 0 where
  pub standing : ℕ → Standing
  pub all : (kept_of s lines).standings ≡ map standing all_families
  pub stands : (f : ℕ) → Stands s lines f (standing f)

-- a path is current where a reading of it was completed and nothing cleared it since
abbrev pub KeepsPaths : Script → List Line → Type 0
KeepsPaths s lines = (path : List ℕ) → is_current (kept_of s lines).files path ≡ was_completed s path lines

-- what an actor holds
abbrev pub KeepsHandles : Script → List Line → Type 0
KeepsHandles s lines = (actor handle : ℕ) → option_map number_and_epoch (handle_of actor handle (kept_of s lines).handles) ≡ held_as s actor handle lines

abbrev pub KeepsSessions : Script → List Line → Type 0
KeepsSessions s lines = (actor key : ℕ) → option_map (λ (p : Session). p.epoch) (session_of actor key (kept_of s lines).sessions) ≡ session_since s actor key lines

-- what the actor of a job was answered, and had seen
abbrev pub KeepsAnswers : Script → List Line → Type 0
KeepsAnswers s lines = (actor : ℕ) (job : Job) → slice_get (kept_of s lines).jobs actor ≡ Some job → (job.answered ≡ answer_count actor lines) × (job.seen ≡ seen_before actor lines)

-- an attempt is the one that began last, with the updates that were sent since, and whether a path of it moved since
abbrev pub as_of : ℕ → Bool → Attempt → Attempt
as_of sent moved a = record a { sent = sent; moved = moved }

abbrev pub KeepsAttempts : Script → List Line → Type 0
KeepsAttempts s lines = (actor : ℕ) (job : Job) → slice_get (kept_of s lines).jobs actor ≡ Some job → attempt_of job.begun ≡ option_map (as_of (updates_sent s actor lines) (was_moved s actor lines)) (attempt_since s actor lines)

pub record LooksBack (s : Script) (lines : List Line) : Type 0 where
  pub history : KeepsHistory s lines
  pub standings : KeepsStandings s lines
  pub paths : KeepsPaths s lines
  pub handles : KeepsHandles s lines
  pub sessions : KeepsSessions s lines
  pub answers : KeepsAnswers s lines
  pub attempts : KeepsAttempts s lines

abbrev pub KeptLooksBack : Type 0
KeptLooksBack = (s : Script) (lines : List Line) → LooksBack s lines

-- ---- plans

-- over legal lines the updates of an attempt, of which one was sent, are those of the plan for the card as it was before the first
abbrev pub UpdatesFollowPlan : Type 0
UpdatesFollowPlan = (s : Script) (m : Mode) (lines : List Line) → are_legal_lines s m lines ≡ true → (actor : ℕ) (job : Job) (a : Attempt) → slice_get (kept_of s lines).jobs actor ≡ Some job → attempt_of job.begun ≡ Some a → nat_lt 0 a.sent ≡ true → plan_updates a.plan ≡ updates_planned s actor lines
