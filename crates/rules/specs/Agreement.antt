-- What is kept agrees with the card in the slot: its selection, the exchanges of a command, current files and readings.
use Rattle.std.specs.Prelude.{◌≡◌, ◌⊎◌, ◌==◌, ◌&&◌, ◌||◌, ℕ, Bool, true, false, List, [], ◌∷◌, Option, Some, None, option_and_then, is_some, Ok, Err}
use Rattle.apdu.specs.Values.{CommandValue}
use Rattle.apdu.specs.Words.{same_bytes}
use Rattle.apdu.specs.Apdu.{select_ins, get_response_ins, read_binary_ins}
use Rattle.fcp.specs.declared.control.ArrRef.{ArrRef}
use Rattle.card_model.specs.declared.world.FileState.{FileState}
use Rattle.card_model.specs.declared.world.ChannelState.{ChannelState}
use Rattle.card_model.specs.declared.world.CardState.{CardState}
use Rattle.card_model.specs.declared.world.World.{World}
use Rattle.card_model.specs.Card.{application_id, usim_of, file_at, file_of, rows_of, fields_of_file, current_parameters}
use Rattle.card_model.specs.Step.{card_inside}
use Rattle.card_effects.specs.Effect.{basic, IsMisfit}
use Rattle.card_effects.specs.Basic.{HasCurrent}
use Rattle.card_effects.specs.Rows.{RowsTrue}
use Rattle.script_reader.specs.declared.types.Script.{Script}
use Rattle.report.specs.declared.line.Line.{Line}
use Rattle.report.specs.declared.line.Line.TheVariants as line
use Rattle.adn.specs.declared.edit.Edit.{Edit}
use Rattle.adn.specs.declared.edit.PlanError.{PlanError}
use Rattle.families.specs.Families.{family_path, family_plan}
use Rattle.link.specs.declared.chain.Chain.{Chain}
use Rattle.link.specs.Commands.{is_basic_select, named_path}
use Rattle.epoch_cache.specs.declared.cached.CachedFile.{CachedFile}
use Rattle.loader.specs.Values.{ReadingValue}
use Rattle.rules.specs.declared.kept.Job.{Job}
use Rattle.rules.specs.declared.kept.Kept.{Kept}
use Rattle.rules.specs.declared.kept.Decision.{Decision}
use Rattle.rules.specs.declared.kept.Work.{Work}
use Rattle.rules.specs.declared.kept.Work.TheVariants.{Rests as rests, Refuses as refuses, Lacks as lacks, Sends as sends, Reads as reads, Writes as writes, Resets as resets, Happens as happens}
use Rattle.editor.specs.declared.editing.Attempt.{Attempt}
use Rattle.editor.specs.Editing.{update_need, card_need}
use Rattle.rules.specs.Kept.{operation_at, operation_now}
use Rattle.rules.specs.After.{is_started, edit_of}
use Rattle.rules.specs.State.{world_of}
use Rattle.rules.specs.Rules.{has_right_response}

-- ---- the lines

-- the card in the slot gave each response
abbrev pub are_responses_right : Script → List Line → Bool
are_responses_right s [] = true
are_responses_right s (l ∷ earlier) = are_responses_right s earlier && has_right_response (world_of s earlier) l

-- ---- the selection

-- the kept selection is none, or current
abbrev pub IsSelected : CardState → Option (List ℕ) → Type 0
IsSelected card None = Unit {0}
IsSelected card (Some path) = HasCurrent card path

-- where start-up is finished, the basic channel's application is the USIM, if the card has one
abbrev pub IsStarted : CardState → Type 0
IsStarted card = (channel : ChannelState) → basic card ≡ Some channel → (usim_of card ≡ None) ⊎ (channel.app ≡ usim_of card)

-- ---- the exchanges of a command

-- two commands that differ in Le at most
pub record SameButLe (a b : CommandValue) : Type 0 where
  pub class : a.class ≡ b.class
  pub ins : a.ins ≡ b.ins
  pub p1 : a.p1 ≡ b.p1
  pub p2 : a.p2 ≡ b.p2
  pub body : a.body ≡ b.body

-- what a SELECT by path named is selected
pub record IsNamed (selected : Option (List ℕ)) (first : CommandValue) : Type 0 where
  pub path : List ℕ
  pub is_selected : selected ≡ Some path
  pub named : named_path first ≡ Some path

-- the control parameters of what is current on the basic channel wait for this GET RESPONSE
pub record BasicWaits (card : CardState) (selected : Option (List ℕ)) (first c : CommandValue) : Type 0 where
  pub class : c.class ≡ 0
  pub channel : ChannelState
  pub found : basic card ≡ Some channel
  pub number : channel.number ≡ 0
  pub asks : first.p2 ≡ 0x04
  pub waiting : card.waiting ≡ Some (record { channel = 0; bytes = current_parameters card channel })
  pub named : (first.p1 == 0x08) ≡ true → IsNamed selected first

-- a READ BINARY on the basic channel that could not be answered in its first form
abbrev pub IsLong : CardState → CommandValue → Type 0
IsLong card first = (first.class == 0) ≡ true → (first.ins == read_binary_ins) ≡ true → (channel : ChannelState) → basic card ≡ Some channel → IsMisfit card channel first

-- the first form of a command, and what is sent of it next
pub data Stands (card : CardState) (selected : Option (List ℕ)) (first c : CommandValue) : Type 0 where
  itself : first ≡ c → Stands card selected first c
  again : SameButLe first c → IsLong card first → Stands card selected first c
  waits : first.ins ≡ select_ins → c.ins ≡ get_response_ins → (is_basic_select first ≡ true → BasicWaits card selected first c) → Stands card selected first c

abbrev pub ChainTied : CardState → Option (List ℕ) → Option Chain → Type 0
ChainTied card selected None = Unit {0}
ChainTied card selected (Some chain) = Stands card selected chain.first chain.next

-- ---- current files

-- the directory of the application, where one channel may see a file and another none; no family has it
abbrev pub is_application : List ℕ → Bool
is_application path = same_bytes path (application_id ∷ [])

abbrev pub arr_at : List ℕ → CardState → Option ArrRef
arr_at path card = option_and_then (λ (f : FileState). f.arr) (file_of path card)

-- a current file has the card's rows, and the reference to its rule
pub record HasFile (card : CardState) (file : CachedFile) : Type 0 where
  pub content : file.content ≡ rows_of file.path card
  pub arr : file.arr ≡ arr_at file.path card

abbrev pub FileTrue : CardState → CachedFile → Type 0
FileTrue card file = is_application file.path ≡ false → HasFile card file

abbrev pub FilesTrue : CardState → List CachedFile → Type 0
FilesTrue card [] = Unit {0}
FilesTrue card (file ∷ files) = FileTrue card file × FilesTrue card files

-- ---- readings

-- a reading has the control parameters of the card's file, and its rows begin the file's
pub record HasReading (card : CardState) (g : ReadingValue) : Type 0 where
  pub file : FileState
  pub at : file_at g.path card ≡ Some file
  pub seen : file_of g.path card ≡ file_at g.path card
  pub control : g.control ≡ fields_of_file file
  pub rows : RowsTrue file.rows g.rows

abbrev pub ReadingTrue : CardState → ReadingValue → Type 0
ReadingTrue card g = is_application g.path ≡ false → HasReading card g

abbrev pub ReadingsTrue : CardState → List ReadingValue → Type 0
ReadingsTrue card [] = Unit {0}
ReadingsTrue card (g ∷ gs) = ReadingTrue card g × ReadingsTrue card gs

abbrev pub JobsTrue : CardState → List Job → Type 0
JobsTrue card [] = Unit {0}
JobsTrue card (job ∷ jobs) = ReadingsTrue card job.readings × JobsTrue card jobs

-- ---- all of it

pub record Tied (card : CardState) (k : Kept) : Type 0 where
  pub selected : IsSelected card k.selected
  pub chain : ChainTied card k.selected k.chain
  pub files : FilesTrue card k.files
  pub jobs : JobsTrue card k.jobs
  pub started : is_started k.startup ≡ true → IsStarted card

-- of a card that may be in the slot
abbrev pub TiedInside : World → Kept → Type 0
TiedInside w k = (card : CardState) → card_inside w ≡ Some card → Tied card k

-- ---- the plan of an attempt

-- the edit of the operation whose turn begins here
abbrev pub edit_at : Script → Line → Kept → Option (ℕ × Edit)
edit_at s (line.Turn a) k = edit_of (operation_now s a k.jobs)
edit_at s (line.Begin a i) k = edit_of (operation_at s a i)
edit_at s l k = None

-- it rests on a plan
abbrev pub is_work_planned : Work → Bool
is_work_planned (refuses refusal) = true
is_work_planned (lacks key) = true
is_work_planned rests = false
is_work_planned (sends c) = false
is_work_planned (reads path) = false
is_work_planned writes = false
is_work_planned resets = false
is_work_planned (happens event) = false

abbrev pub is_planned : Decision → Bool
is_planned d = is_some d.attempt || is_work_planned d.work

-- what is decided here has the plan for the card, or its refusal, and what its updates ask for is what the card asks for
pub record IsPlanned (card : CardState) (k : Kept) (f : ℕ) (e : Edit) (d : Decision) : Type 0 where
  pub plan : (a : Attempt) → d.attempt ≡ Some a → family_plan f e (λ path. rows_of path card) ≡ Ok a.plan
  pub refusal : (r : PlanError) → d.work ≡ refuses r → family_plan f e (λ path. rows_of path card) ≡ Err r
  pub main_need : update_need k.files (family_path f 0) ≡ card_need card (family_path f 0)
  pub extension_need : update_need k.files (family_path f 1) ≡ card_need card (family_path f 1)
