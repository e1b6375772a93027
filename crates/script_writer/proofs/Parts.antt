-- The parts of a script that keeps the rules are read back from what is written of them.
use Rattle.std.proofs.Common.{◌≡◌, ◌≤◌, ◌+◌, ℕ, Bool, true, ◌&&◌, List, [], ◌∷◌, ◌++◌, length, map, Some, All, Result, Ok, refl, sym, ap, subst, ◌∙◌, append_assoc, arith, rules}
use Rattle.std.specs.Prelude.{nat_lt, nat_le, option_and_then, ⊤}
use Rattle.std.specs.List.{list_all}
use Rattle.std.proofs.lemmas.Bool.{and_parts, leb-true, lt-ltb, le-leb}
use Rattle.std.proofs.lemmas.List.{length-append}
use Rattle.std.proofs.lemmas.List.Elements.{All-head, All-tail}
use Rattle.apdu.specs.Words.{is_between}
use Rattle.card_model.specs.declared.world.Fault.{Fault}
use Rattle.serde_json.specs.Data.{Data}
use Rattle.script_reader.specs.declared.error.Part.{Part}
use Rattle.script_reader.specs.declared.error.Part.TheVariants as part
use Rattle.script_reader.specs.declared.error.Why.{Why}
use Rattle.script_reader.specs.declared.error.Why.TheVariants as why
use Rattle.script_reader.specs.declared.types.FileSpec.{FileSpec}
use Rattle.script_reader.specs.declared.types.CardSpec.{CardSpec}
use Rattle.script_reader.specs.declared.types.ChangeSpec.{ChangeSpec}
use Rattle.script_reader.specs.declared.types.Operation.{Operation}
use Rattle.script_reader.specs.Reading.{all_of}
use Rattle.script_reader.specs.Fields.{list_of, list}
use Rattle.script_reader.specs.Files.{is_path, has_path, with_path, path_of, are_all_apart, are_files_within, are_placed, have_shape}
use Rattle.script_reader.specs.Cards.{are_tries, is_card_within, has_card_shape, checked_card, card_item, is_card, is_change_within, is_change_placed, is_honest, checked_change, change_item, is_change}
use Rattle.script_reader.specs.Operations.{operation_form, has_form, is_operation_within, has_target, operation_count, is_actor_within, actor_item, is_actor}
use Rattle.script_reader.specs.Pairing.{are_paired}
use Rattle.script_reader.specs.Parts.{items_from, some_items, required_list, optional_list, turn_item, last_call, fault_item}
use Rattle.script_reader.specs.Rules.{cards_keep_rules, changes_keep_rules, actors_keep_rules, is_turn, schedule_keeps_rules, are_calls_behind, faults_keep_rules}
use Rattle.script_reader.proofs.OperationsKept.{count_appended}
use Rattle.script_reader.proofs.RulesKept.{last_behind, last_call_is, is_call_behind}
use Rattle.script_writer.specs.Writing.{number_data, list_data, card_data, change_data, fault_data, operation_data}
use Rattle.script_writer.specs.ReadBack.{IsCardBack, IsChangeBack, IsOperationBack, IsFaultBack}
use Rattle.script_writer.proofs.Values.{item_list_of, list_back}

-- ---- the items of a part

-- each item is read back behind those before it
abbrev pub AreBack : {A : Type 0} → (List A → Data → Result A Why) → (A → Data) → List A → Type 0
AreBack {A} reading write whole = (before : List A) (x : A) (after : List A) → before ++ x ∷ after ≡ whole → reading before (write x) ≡ Ok x

items_back : {A : Type 0} (reading : List A → Data → Result A Why) (write : A → Data) (p : Part) (whole : List A) → AreBack reading write whole → (before after : List A) → before ++ after ≡ whole → items_from reading p before (map write after) ≡ Ok whole
items_back reading write p whole each before [] same =
    let alone : before ++ [] ≡ before = search rules in
    ap (λ (xs : List _). Ok xs) (sym alone ∙ same)
items_back reading write p whole each before (x ∷ after) same =
    rw (each before x after same) (items_back reading write p whole each (before ++ x ∷ []) after (append_assoc before (x ∷ []) after ∙ same))

required_listed : {A : Type 0} (reading : List A → Data → Result A Why) (write : A → Data) (p : Part) (xs : List A) → required_list reading p (option_and_then list_of (Some (list_data write xs))) ≡ some_items reading p (map write xs)
required_listed reading write p xs = rw (item_list_of (map write xs)) refl

optional_listed : {A : Type 0} (reading : List A → Data → Result A Why) (write : A → Data) (p : Part) (xs : List A) → optional_list reading p (Some (list_data write xs)) ≡ items_from reading p [] (map write xs)
optional_listed reading write p xs = rw (item_list_of (map write xs)) refl

-- a list that has an item
pub required_back : {A : Type 0} (reading : List A → Data → Result A Why) (write : A → Data) (p : Part) (xs : List A) → 1 ≤ length xs → AreBack reading write xs → required_list reading p (option_and_then list_of (Some (list_data write xs))) ≡ Ok xs
required_back reading write p [] some each = absurd (omega (arith, some))
required_back reading write p (x ∷ xs) some each = required_listed reading write p (x ∷ xs) ∙ items_back reading write p (x ∷ xs) each [] (x ∷ xs) refl

-- a list that is left out where it is empty
abbrev pub IsPartBack : {A : Type 0} → (List A → Data → Result A Why) → (A → Data) → Part → List A → Type 0
IsPartBack reading write p [] = ⊤
IsPartBack reading write p (x ∷ xs) = optional_list reading p (Some (list_data write (x ∷ xs))) ≡ Ok (x ∷ xs)

pub optional_back : {A : Type 0} (reading : List A → Data → Result A Why) (write : A → Data) (p : Part) (xs : List A) → AreBack reading write xs → IsPartBack reading write p xs
optional_back reading write p [] each = tt
optional_back reading write p (x ∷ xs) each = optional_listed reading write p (x ∷ xs) ∙ items_back reading write p (x ∷ xs) each [] (x ∷ xs) refl

-- ---- an item among the others

all_at : {A : Type 0} (P : A → Type 0) (before : List A) (x : A) (after : List A) → All P (before ++ x ∷ after) → P x
all_at P [] x after h = All-head P x after h
all_at P (b ∷ before) x after h = all_at P before x after (All-tail P b (before ++ x ∷ after) h)

passed_at : {A : Type 0} (test : A → Bool) (before : List A) (x : A) (after : List A) → list_all test (before ++ x ∷ after) ≡ true → test x ≡ true
passed_at test [] x after h = (and_parts (test x) (list_all test after) h).0
passed_at test (b ∷ before) x after h = passed_at test before x after (and_parts (test b) (list_all test (before ++ x ∷ after)) h).1

-- an item of a list of at most so many, each of which is so and passes a test
record Place {A : Type 0} (P : A → Type 0) (test : A → Bool) (most : ℕ) (before : List A) (x : A) : Type 0 where
  is : P x
  passed : test x ≡ true
  place : nat_lt (length before) most ≡ true

place_of : {A : Type 0} (P : A → Type 0) (test : A → Bool) (most : ℕ) (whole : List A) → All P whole → list_all test whole ≡ true → length whole ≤ most → (before : List A) (x : A) (after : List A) → before ++ x ∷ after ≡ whole → Place P test most before x
place_of P test most whole each passed few before x after same =
    let longer = length-append before (x ∷ after) in
    let long = ap (λ (xs : List _). length xs) same in
    record {
      is = all_at P before x after (subst (λ (xs : List _). All P xs) (sym same) each);
      passed = passed_at test before x after (subst (λ (xs : List _). list_all test xs ≡ true) (sym same) passed);
      place = lt-ltb (length before) most (omega (arith, longer, long, few));
    }

-- ---- paths

files_placed : (files : List FileSpec) → list_all has_path files ≡ true → all_of with_path files ≡ Ok files
files_placed [] h = refl
files_placed (file ∷ files) h =
    let parts = and_parts (has_path file) (list_all has_path files) h in
    rw (parts.0, files_placed files parts.1) refl

paths_placed : (paths : List (List ℕ)) → list_all is_path paths ≡ true → all_of path_of paths ≡ Ok paths
paths_placed [] h = refl
paths_placed (path ∷ paths) h =
    let parts = and_parts (is_path path) (list_all is_path paths) h in
    rw (parts.0, paths_placed paths parts.1) refl

-- ---- cards

card_checked : (before : List CardSpec) (card : CardSpec) → nat_lt (length before) 4 ≡ true → is_card card ≡ true → checked_card before card ≡ Ok card
card_checked before card place keeps =
    let within = is_card_within card in
    let placed = are_placed card.files in
    let shape = has_card_shape card in
    let to_shape = (and_parts (within && placed && shape) (list_all are_tries card.keys) keeps).0 in
    let shaped = and_parts (within && placed) shape to_shape in
    let parts = and_parts within placed shaped.0 in
    let paths = and_parts (list_all has_path card.files) (are_all_apart card.files) parts.1 in
    rw (place, parts.0, files_placed card.files paths.0, paths.1, shaped.1) refl

pub cards_back : (cards : List CardSpec) → All IsCardBack cards → cards_keep_rules cards ≡ true → AreBack card_item card_data cards
unfolding card_item
cards_back cards each keep before card after same =
    let parts = and_parts (is_between 1 4 (length cards)) (list_all is_card cards) keep in
    let few = leb-true (length cards) 4 (and_parts (nat_le 1 (length cards)) (nat_le (length cards) 4) parts.0).1 in
    let at = place_of IsCardBack is_card 4 cards each parts.1 few before card after same in
    let tries = (and_parts (is_card_within card && are_placed card.files && has_card_shape card) (list_all are_tries card.keys) at.passed).1 in
    rw (at.is tries) (card_checked before card at.place at.passed)

-- ---- changes

change_checked : (before : List ChangeSpec) (change : ChangeSpec) → nat_lt (length before) 64 ≡ true → is_change change ≡ true → checked_change before change ≡ Ok change
change_checked before change place keeps =
    let within = is_change_within change in
    let placed = is_change_placed change in
    let shape = have_shape change.files in
    let to_honest = and_parts (within && placed && shape) (is_honest change) keeps in
    let to_shape = and_parts (within && placed) shape to_honest.0 in
    let parts = and_parts within placed to_shape.0 in
    let limits = and_parts (nat_le (length change.list) 8) (are_files_within change.files) parts.0 in
    let paths = and_parts (list_all is_path change.list) (are_placed change.files) parts.1 in
    let files = and_parts (list_all has_path change.files) (are_all_apart change.files) paths.1 in
    rw (limits.0, place, limits.1, paths_placed change.list paths.0, files_placed change.files files.0, files.1, to_shape.1, to_honest.1) refl

pub changes_back : (changes : List ChangeSpec) → All IsChangeBack changes → changes_keep_rules changes ≡ true → AreBack change_item change_data changes
unfolding change_item
changes_back changes each keep before change after same =
    let parts = and_parts (nat_le (length changes) 64) (list_all is_change changes) keep in
    let at = place_of IsChangeBack is_change 64 changes each parts.1 (leb-true (length changes) 64 parts.0) before change after same in
    rw (at.is) (change_checked before change at.place at.passed)

-- ---- actors

actor_checked : (cards changes : ℕ) (before : List (List Operation)) (operations : List Operation) → is_actor_within before operations ≡ true → list_all (has_target cards changes) operations ≡ true → are_paired operations ≡ true
    → list operation_form (list_data operation_data operations) ≡ Ok operations → actor_item cards changes before (list_data operation_data operations) ≡ Ok operations
unfolding actor_item
actor_checked cards changes before operations within targets pairs read = rw (read, within, targets, pairs) refl

pub actors_back : (cards changes : ℕ) (actors : List (List Operation)) → All (All IsOperationBack) actors → actors_keep_rules cards changes actors ≡ true → AreBack (actor_item cards changes) (list_data operation_data) actors
actors_back cards changes actors each keep before operations after same =
    let each_actor = and_parts (is_between 1 8 (length actors) && nat_le (operation_count actors) 1000) (list_all (is_actor cards changes) actors) keep in
    let counts = and_parts (is_between 1 8 (length actors)) (nat_le (operation_count actors) 1000) each_actor.0 in
    let few = leb-true (length actors) 8 (and_parts (nat_le 1 (length actors)) (nat_le (length actors) 8) counts.0).1 in
    let at = place_of (All IsOperationBack) (is_actor cards changes) 8 actors each each_actor.1 few before operations after same in
    let total = leb-true (operation_count actors) 1000 counts.1 in
    let sum = count_appended before (operations ∷ after) in
    let whole = ap (λ (xs : List (List Operation)). operation_count xs) same in
    let count = le-leb (length operations + operation_count before) 1000 (omega (arith, total, sum, whole)) in
    let formed = list_all has_form operations in
    let within = list_all is_operation_within operations in
    let targeted = list_all (has_target cards changes) operations in
    let to_pairs = and_parts (formed && within && targeted) (are_paired operations) at.passed in
    let to_targets = and_parts (formed && within) targeted to_pairs.0 in
    let parts = and_parts formed within to_targets.0 in
    let limit : is_actor_within before operations ≡ true = rw (at.place, count, parts.1) refl in
    actor_checked cards changes before operations limit to_targets.1 to_pairs.1 (list_back operation_form operation_data has_form operations at.is parts.0)

-- ---- turns and faults

turn_checked : (actors : ℕ) (before : List ℕ) (turn : ℕ) → nat_lt (length before) 10000 ≡ true → is_turn actors turn ≡ true → turn_item actors before (number_data turn) ≡ Ok turn
unfolding turn_item
turn_checked actors before turn place target = rw (place, target) refl

abbrev anything : ℕ → Type 0
anything turn = ⊤

pub turns_back : (actors : ℕ) (turns : List ℕ) → schedule_keeps_rules actors turns ≡ true → AreBack (turn_item actors) number_data turns
turns_back actors turns keep before turn after same =
    let parts = and_parts (nat_le (length turns) 10000) (list_all (is_turn actors) turns) keep in
    let at = place_of anything (is_turn actors) 10000 turns (λ k d h. tt) parts.1 (leb-true (length turns) 10000 parts.0) before turn after same in
    turn_checked actors before turn at.place at.passed

fault_checked : (before : List Fault) (f : Fault) → IsFaultBack f → nat_lt (length before) 100 ≡ true → nat_lt (last_call before) f.at ≡ true → nat_le f.at 4294967295 ≡ true → fault_item before (fault_data f) ≡ Ok f
unfolding fault_item
fault_checked before f back place later small = rw (back small, later, place) refl

call_at : (call : ℕ) (before : List Fault) (f : Fault) (after : List Fault) → are_calls_behind call (before ++ f ∷ after) ≡ true → is_call_behind (last_behind call before) f ≡ true
call_at call [] f after h = (and_parts (is_call_behind call f) (are_calls_behind f.at after) h).0
call_at call (b ∷ before) f after h = call_at b.at before f after (and_parts (is_call_behind call b) (are_calls_behind b.at (before ++ f ∷ after)) h).1

pub faults_back : (faults : List Fault) → All IsFaultBack faults → faults_keep_rules faults ≡ true → AreBack fault_item fault_data faults
faults_back faults each keep before f after same =
    let parts = and_parts (nat_le (length faults) 100) (are_calls_behind 0 faults) keep in
    let few = leb-true (length faults) 100 parts.0 in
    let longer = length-append before (f ∷ after) in
    let long = ap (λ (xs : List Fault). length xs) same in
    let calls = subst (λ (xs : List Fault). are_calls_behind 0 xs ≡ true) (sym same) parts.1 in
    let call = and_parts (nat_lt (last_behind 0 before) f.at) (nat_le f.at 4294967295) (call_at 0 before f after calls) in
    fault_checked before f (all_at IsFaultBack before f after (subst (λ (xs : List Fault). All IsFaultBack xs) (sym same) each))
    (lt-ltb (length before) 100 (omega (arith, longer, long, few)))
    (subst (λ (n : ℕ). nat_lt n f.at ≡ true) (sym (last_call_is before)) call.0) call.1
