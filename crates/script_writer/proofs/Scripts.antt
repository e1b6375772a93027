-- A script that keeps every rule is read back from what is written of it.
use Rattle.std.proofs.Common.{◌≡◌, ℕ, ◌==◌, true, List, [], ◌∷◌, length, Option, Some, None, All, Ok, refl}
use Rattle.std.specs.Prelude.{option_and_then}
use Rattle.std.specs.Str.{is_utf8}
use Rattle.card_model.specs.declared.world.Fault.{Fault}
use Rattle.serde_json.specs.Read.{read}
use Rattle.script_reader.specs.declared.error.Part.TheVariants as part
use Rattle.script_reader.specs.declared.types.CardSpec.{CardSpec}
use Rattle.script_reader.specs.declared.types.ChangeSpec.{ChangeSpec}
use Rattle.script_reader.specs.declared.types.Operation.{Operation}
use Rattle.script_reader.specs.declared.types.Script.{Script}
use Rattle.script_reader.specs.Fields.{list_of}
use Rattle.script_reader.specs.Cards.{card_item, change_item}
use Rattle.script_reader.specs.Operations.{actor_item}
use Rattle.script_reader.specs.Parts.{required_list, turn_item, fault_item}
use Rattle.script_reader.specs.Scripts.{script_of_parts, script_of_data, script_of_bytes}
use Rattle.script_reader.specs.Rules.{budget_keeps_rules, keeps_rules}
use Rattle.script_reader.proofs.RulesKept.{kept_rules, some_cards, some_actors}
use Rattle.script_writer.specs.Writing.{number_data, list_data, card_data, change_data, fault_data, operation_data, script_data}
use Rattle.script_writer.specs.ReadBack.{IsNumberBack, IsCardBack, IsChangeBack, IsOperationBack, IsFaultBack, IsScriptBack}
use Rattle.script_writer.proofs.Parts.{IsPartBack, required_back, optional_back, cards_back, changes_back, actors_back, turns_back, faults_back}

record PartsBack (s : Script) : Type 0 where
  version : IsNumberBack 255 s.version
  one : (s.version == 1) ≡ true
  cards : required_list card_item part.Cards (option_and_then list_of (Some (list_data card_data s.cards))) ≡ Ok s.cards
  changes : IsPartBack change_item change_data part.Changes s.changes
  actors : required_list (actor_item (length s.cards) (length s.changes)) part.Actors (option_and_then list_of (Some (list_data (list_data operation_data) s.actors))) ≡ Ok s.actors
  schedule : IsPartBack (turn_item (length s.actors)) number_data part.Schedule s.schedule
  faults : IsPartBack fault_item fault_data part.Faults s.faults
  budget : budget_keeps_rules s.budget ≡ true

abbrev script_spec : ℕ → List CardSpec → List ChangeSpec → List (List Operation) → List ℕ → List Fault → Option ℕ → Script
script_spec version cards changes actors schedule faults budget = record { version = version; cards = cards; actors = actors; changes = changes; schedule = schedule; faults = faults; budget = budget }

abbrev AreRead : Script → Type 0
AreRead s = script_of_parts (script_data s) ≡ Ok s

script_back : (version : ℕ) (cards : List CardSpec) (changes : List ChangeSpec) (actors : List (List Operation)) (schedule : List ℕ) (faults : List Fault) (budget : Option ℕ)
    → PartsBack (script_spec version cards changes actors schedule faults budget) → AreRead (script_spec version cards changes actors schedule faults budget)
unfolding script_of_parts script_data
script_back version cards [] actors [] [] None p = rw (p.version, p.one, p.cards, p.actors) refl
script_back version cards [] actors [] [] (Some n) p = rw (p.version, p.one, p.cards, p.actors, p.budget) refl
script_back version cards [] actors [] (f ∷ others) None p = rw (p.version, p.one, p.cards, p.actors, p.faults) refl
script_back version cards [] actors [] (f ∷ others) (Some n) p = rw (p.version, p.one, p.cards, p.actors, p.faults, p.budget) refl
script_back version cards [] actors (b ∷ turns) [] None p = rw (p.version, p.one, p.cards, p.actors, p.schedule) refl
script_back version cards [] actors (b ∷ turns) [] (Some n) p = rw (p.version, p.one, p.cards, p.actors, p.schedule, p.budget) refl
script_back version cards [] actors (b ∷ turns) (f ∷ others) None p = rw (p.version, p.one, p.cards, p.actors, p.schedule, p.faults) refl
script_back version cards [] actors (b ∷ turns) (f ∷ others) (Some n) p = rw (p.version, p.one, p.cards, p.actors, p.schedule, p.faults, p.budget) refl
script_back version cards (a ∷ more) actors [] [] None p = rw (p.version, p.one, p.cards, p.changes, p.actors) refl
script_back version cards (a ∷ more) actors [] [] (Some n) p = rw (p.version, p.one, p.cards, p.changes, p.actors, p.budget) refl
script_back version cards (a ∷ more) actors [] (f ∷ others) None p = rw (p.version, p.one, p.cards, p.changes, p.actors, p.faults) refl
script_back version cards (a ∷ more) actors [] (f ∷ others) (Some n) p = rw (p.version, p.one, p.cards, p.changes, p.actors, p.faults, p.budget) refl
script_back version cards (a ∷ more) actors (b ∷ turns) [] None p = rw (p.version, p.one, p.cards, p.changes, p.actors, p.schedule) refl
script_back version cards (a ∷ more) actors (b ∷ turns) [] (Some n) p = rw (p.version, p.one, p.cards, p.changes, p.actors, p.schedule, p.budget) refl
script_back version cards (a ∷ more) actors (b ∷ turns) (f ∷ others) None p = rw (p.version, p.one, p.cards, p.changes, p.actors, p.schedule, p.faults) refl
script_back version cards (a ∷ more) actors (b ∷ turns) (f ∷ others) (Some n) p = rw (p.version, p.one, p.cards, p.changes, p.actors, p.schedule, p.faults, p.budget) refl

parts_back : (s : Script) → IsNumberBack 255 s.version → All IsCardBack s.cards → All IsChangeBack s.changes → All (All IsOperationBack) s.actors → All IsFaultBack s.faults → keeps_rules s ≡ true → PartsBack s
parts_back s version cards changes actors faults keeps =
    let kept = kept_rules s keeps in record {
      version = version;
      one = kept.version;
      cards = required_back card_item card_data part.Cards s.cards (some_cards s keeps) (cards_back s.cards cards kept.cards);
      changes = optional_back change_item change_data part.Changes s.changes (changes_back s.changes changes kept.changes);
      actors = required_back (actor_item (length s.cards) (length s.changes)) (list_data operation_data) part.Actors s.actors (some_actors s keeps) (actors_back (length s.cards) (length s.changes) s.actors actors kept.actors);
      schedule = optional_back (turn_item (length s.actors)) number_data part.Schedule s.schedule (turns_back (length s.actors) s.schedule kept.schedule);
      faults = optional_back fault_item fault_data part.Faults s.faults (faults_back s.faults faults kept.faults);
      budget = kept.budget;
    }

script_read : (s : Script) → AreRead s → script_of_data (script_data s) ≡ Ok s
unfolding script_of_data script_data
script_read s h = h

pub script_is_back : (s : Script) → IsNumberBack 255 s.version → All IsCardBack s.cards → All IsChangeBack s.changes → All (All IsOperationBack) s.actors → All IsFaultBack s.faults → IsScriptBack s
script_is_back s version cards changes actors faults keeps =
    script_read s (script_back s.version s.cards s.changes s.actors s.schedule s.faults s.budget (parts_back s version cards changes actors faults keeps))

-- the text that is read as what is written of a script is read as the script
pub text_back : (s : Script) (text : List ℕ) → is_utf8 text ≡ true → read text ≡ Some (script_data s) → script_of_data (script_data s) ≡ Ok s → script_of_bytes text ≡ Ok s
text_back s text utf8 is back = rw (utf8, is) back
