-- The parts of a script, in the order in which they are read: the first item that breaks a rule is named.
use Rattle.std.specs.Prelude.{ℕ, ◌==◌, nat_lt, nat_le, List, [], ◌∷◌, ◌++◌, ◌-◌, slice_get, length, Option, Some, None, option_and_then, Result, Ok, Err, codes}
use Rattle.apdu.specs.Words.{◌>>=◌, is_between}
use Rattle.card_model.specs.declared.world.Fault.{Fault}
use Rattle.serde_json.specs.Data.{Data}
use Rattle.serde_json.specs.Find.{get}
use Rattle.script_reader.specs.declared.error.Part.{Part}
use Rattle.script_reader.specs.declared.error.Part.TheVariants as part
use Rattle.script_reader.specs.declared.error.Why.{Why}
use Rattle.script_reader.specs.declared.error.Why.TheVariants as why
use Rattle.script_reader.specs.declared.types.CardSpec.{CardSpec}
use Rattle.script_reader.specs.declared.types.ChangeSpec.{ChangeSpec}
use Rattle.script_reader.specs.declared.types.Operation.{Operation}
use Rattle.script_reader.specs.Reading.{rule, Refusal, refusal}
use Rattle.script_reader.specs.Fields.{flag, whole, whole_to, list_of, field, optional, only, has_only}
use Rattle.script_reader.specs.Cards.{card_item, change_item}
use Rattle.script_reader.specs.Operations.{actor_item}

-- ---- items

abbrev pub at_item : {A : Type 0} → Part → ℕ → Result A Why → Result A Refusal
at_item p index (Ok x) = Ok x
at_item p index (Err word) = Err (refusal p index word)

-- the items of a part, each read behind those before it
abbrev pub items_from : {A : Type 0} → (List A → Data → Result A Why) → Part → List A → List Data → Result (List A) Refusal
items_from read p before [] = Ok before
items_from read p before (d ∷ ds) = do
  x ← at_item p (length before) (read before d)
  items_from read p (before ++ x ∷ []) ds

-- at least one item
abbrev pub some_items : {A : Type 0} → (List A → Data → Result A Why) → Part → List Data → Result (List A) Refusal
some_items read p [] = Err (refusal p 0 why.Limit)
some_items read p (d ∷ ds) = items_from read p [] (d ∷ ds)

abbrev pub required_list : {A : Type 0} → (List A → Data → Result A Why) → Part → Option (List Data) → Result (List A) Refusal
required_list read p None = Err (refusal p 0 why.Form)
required_list read p (Some ds) = some_items read p ds

-- a list that has to be there and to have an item
abbrev pub required_part : {A : Type 0} → (List A → Data → Result A Why) → Part → List ℕ → Data → Result (List A) Refusal
required_part read p name d = required_list read p (option_and_then list_of (get name d))

abbrev pub present_list : {A : Type 0} → (List A → Data → Result A Why) → Part → Option (List Data) → Result (List A) Refusal
present_list read p None = Err (refusal p 0 why.Form)
present_list read p (Some ds) = items_from read p [] ds

abbrev pub optional_list : {A : Type 0} → (List A → Data → Result A Why) → Part → Option Data → Result (List A) Refusal
optional_list read p None = Ok []
optional_list read p (Some d) = present_list read p (list_of d)

-- a list that may be left out
abbrev pub optional_part : {A : Type 0} → (List A → Data → Result A Why) → Part → List ℕ → Data → Result (List A) Refusal
optional_part read p name d = optional_list read p (get name d)

-- ---- turns and faults

-- an entry of the schedule: 0, or the number of an actor
unfoldable pub turn_item : ℕ → List ℕ → Data → Result ℕ Why
turn_item actors before d = do
  actor ← whole d
  limit ← rule why.Limit (nat_lt (length before) 10000)
  target ← rule why.Target (nat_le actor actors)
  Ok actor

abbrev pub call_of : Option Fault → ℕ
call_of None = 0
call_of (Some fault) = fault.at

-- the number of the last call that fails, or 0
abbrev pub last_call : List Fault → ℕ
last_call faults = call_of (slice_get faults (length faults - 1))

abbrev pub fault_form : Data → Result Fault Why
fault_form d = do
  known ← only (codes "acted" ∷ codes "at" ∷ []) d
  call ← field (whole_to 4294967295) (codes "at") d
  acted ← field flag (codes "acted") d
  Ok (record { at = call; acted = acted })

-- a fault, at a call behind those before it
unfoldable pub fault_item : List Fault → Data → Result Fault Why
fault_item before d = do
  fault ← fault_form d
  later ← rule why.Form (nat_lt (last_call before) fault.at)
  limit ← rule why.Limit (nat_lt (length before) 100)
  Ok fault

-- ---- parts that are no lists

abbrev pub version_form : Data → Result ℕ Why
version_form d = do
  version ← field (whole_to 255) (codes "version") d
  one ← rule why.Form (version == 1)
  Ok version

abbrev pub version_part : Data → Result ℕ Refusal
version_part d = at_item part.Version 0 (version_form d)

-- a limit on the events is 1 to 20,000,000
abbrev pub budget_item : Data → Result ℕ Why
budget_item d = do
  events ← whole d
  limit ← rule why.Limit (is_between 1 20000000 events)
  Ok events

abbrev pub budget_part : Data → Result (Option ℕ) Refusal
budget_part d = at_item part.Budget 0 (optional budget_item (codes "budget") d)

abbrev pub script_fields : List (List ℕ)
script_fields = codes "actors" ∷ codes "budget" ∷ codes "cards" ∷ codes "changes" ∷ codes "faults" ∷ codes "schedule" ∷ codes "version" ∷ []

-- a script has no field beside these
abbrev pub other_part : Data → Result (Unit {0}) Refusal
other_part d = at_item part.Other 0 (rule why.Form (has_only script_fields d))

-- ---- parts that are lists

abbrev pub cards_part : Data → Result (List CardSpec) Refusal
cards_part d = required_part card_item part.Cards (codes "cards") d

abbrev pub changes_part : Data → Result (List ChangeSpec) Refusal
changes_part d = optional_part change_item part.Changes (codes "changes") d

-- the actors, where there are so many cards and changes
abbrev pub actors_part : ℕ → ℕ → Data → Result (List (List Operation)) Refusal
actors_part cards changes d = required_part (actor_item cards changes) part.Actors (codes "actors") d

-- the schedule, where there are so many actors
abbrev pub schedule_part : ℕ → Data → Result (List ℕ) Refusal
schedule_part actors d = optional_part (turn_item actors) part.Schedule (codes "schedule") d

abbrev pub faults_part : Data → Result (List Fault) Refusal
faults_part d = optional_part fault_item part.Faults (codes "faults") d
