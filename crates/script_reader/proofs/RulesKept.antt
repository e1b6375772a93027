-- A script that bytes are keeps every rule.
use Rattle.std.proofs.Common.{◌≡◌, ◌≤◌, ◌+◌, ◌==◌, ℕ, Bool, true, false, ◌&&◌, if◌then◌else◌, List, [], ◌∷◌, ◌++◌, length, Option, Some, None, Result, Ok, Err, refl, ap, subst, ◌∙◌, arith}
use Rattle.std.specs.Prelude.{nat_lt, nat_le, is_some, option_and_then, slice_get, ◌-◌, codes, IfOk}
use Rattle.std.specs.List.{list_all}
use Rattle.std.proofs.lemmas.Bool.{and_parts, leb-true, ltb-true, le-leb}
use Rattle.std.proofs.lemmas.List.{length-append}
use Rattle.apdu.specs.Words.{is_between}
use Rattle.card_model.specs.declared.world.Fault.{Fault}
use Rattle.serde_json.specs.Data.{Data}
use Rattle.serde_json.specs.Find.{as_object, get}
use Rattle.script_reader.specs.declared.error.Part.{Part}
use Rattle.script_reader.specs.declared.error.Part.TheVariants as part
use Rattle.script_reader.specs.declared.error.Why.{Why}
use Rattle.script_reader.specs.declared.error.Why.TheVariants as why
use Rattle.script_reader.specs.declared.error.ScriptError.{ScriptError}
use Rattle.script_reader.specs.declared.types.CardSpec.{CardSpec}
use Rattle.script_reader.specs.declared.types.ChangeSpec.{ChangeSpec}
use Rattle.script_reader.specs.declared.types.Operation.{Operation}
use Rattle.script_reader.specs.declared.types.Script.{Script}
use Rattle.script_reader.specs.Fields.{flag, whole, whole_to, list_of, field, optional_in, optional, only}
use Rattle.script_reader.specs.Cards.{is_card, card_item, is_change, change_item}
use Rattle.script_reader.specs.Operations.{operation_count, is_actor, actor_item}
use Rattle.script_reader.specs.Parts.{items_from, required_list, present_list, optional_list, turn_item, call_of, last_call, fault_form, fault_item, version_form, version_part, budget_item, budget_part, other_part, cards_part, changes_part, actors_part, schedule_part, faults_part}
use Rattle.script_reader.specs.Scripts.{script_of_parts, script_of_data, no_json}
use Rattle.script_reader.specs.Rules.{cards_keep_rules, changes_keep_rules, actors_keep_rules, is_turn, schedule_keeps_rules, are_calls_behind, faults_keep_rules, budget_keeps_rules, keeps_rules}
use Rattle.script_reader.specs.Answers.{AnswersAs}
use Rattle.script_reader.proofs.Kept.{both, bind_gives, bind_then, rule_then, field_passes, number_passes, at_item_then, items_kept, AreAtMost, at_most_appended, card_added, change_added}
use Rattle.script_reader.proofs.OperationsKept.{AreActors, actor_added}

-- ---- parts

-- what stays as each further item is read
abbrev Stays : {A : Type 0} → (List A → Type 0) → (List A → Data → Result A Why) → Type 0
Stays {A} P reading = (before : List A) (d : Data) (x : A) → reading before d ≡ Ok x → P before → P (before ++ x ∷ [])

-- reading puts items behind
items_longer : {A : Type 0} (reading : List A → Data → Result A Why) (p : Part) (ds : List Data) (before xs : List A) → items_from reading p before ds ≡ Ok xs → length before ≤ length xs
items_longer reading p ds before xs e =
    items_kept (λ (ys : List _). length before ≤ length ys) reading p (λ ys d y of_y h. let longer = length-append ys (y ∷ []) in omega (arith, longer, h)) ds before xs e (omega arith)

-- a list that has an item
required_kept : {A : Type 0} (P : List A → Type 0) (reading : List A → Data → Result A Why) (p : Part) → Stays P reading → P [] → (o : Option (List Data)) (xs : List A) → required_list reading p o ≡ Ok xs → (1 ≤ length xs) × P xs
required_kept P reading p each none None xs e = absurd (cc)
required_kept P reading p each none (Some []) xs e = absurd (cc)
required_kept P reading p each none (Some (d ∷ ds)) xs e =
    let step = bind_then _ (λ (x : _). items_from reading p (x ∷ []) ds) xs e in
    (items_longer reading p ds (step.0 ∷ []) xs step.1.1, items_kept P reading p each (d ∷ ds) [] xs e none)

present_kept : {A : Type 0} (P : List A → Type 0) (reading : List A → Data → Result A Why) (p : Part) → Stays P reading → P [] → (o : Option (List Data)) (xs : List A) → present_list reading p o ≡ Ok xs → P xs
present_kept P reading p each none None xs e = absurd (cc)
present_kept P reading p each none (Some ds) xs e = items_kept P reading p each ds [] xs e none

optional_kept : {A : Type 0} (P : List A → Type 0) (reading : List A → Data → Result A Why) (p : Part) → Stays P reading → P [] → (o : Option Data) (xs : List A) → optional_list reading p o ≡ Ok xs → P xs
optional_kept P reading p each none None xs e =
    let same : [] ≡ xs = cc in
    subst P same none
optional_kept P reading p each none (Some d) xs e = present_kept P reading p each none (list_of d) xs e

version_kept : (d : Data) (version : ℕ) → version_part d ≡ Ok version → (version == 1) ≡ true
version_kept d version h =
    bind_gives (field (whole_to 255) (codes "version") d) _ version ((version == 1) ≡ true) (at_item_then part.Version 0 (version_form d) version h) (λ n of_n e.
    let one = rule_then why.Form (n == 1) (Ok n) version e in
    let same : n ≡ version = cc in
    subst (λ (m : ℕ). (m == 1) ≡ true) same one.0)

cards_kept : (d : Data) (cards : List CardSpec) → cards_part d ≡ Ok cards → cards_keep_rules cards ≡ true
cards_kept d cards e =
    let kept = required_kept (AreAtMost 4 is_card) card_item part.Cards card_added (refl, refl) (option_and_then list_of (get (codes "cards") d)) cards e in
    both (is_between 1 4 (length cards)) (list_all is_card cards) (both (nat_le 1 (length cards)) (nat_le (length cards) 4) (le-leb 1 (length cards) kept.0) kept.1.0) kept.1.1

changes_kept : (d : Data) (changes : List ChangeSpec) → changes_part d ≡ Ok changes → changes_keep_rules changes ≡ true
changes_kept d changes e =
    let kept = optional_kept (AreAtMost 64 is_change) change_item part.Changes change_added (refl, refl) (get (codes "changes") d) changes e in
    both (nat_le (length changes) 64) (list_all is_change changes) kept.0 kept.1

actors_kept : (cards changes : ℕ) (d : Data) (actors : List (List Operation)) → actors_part cards changes d ≡ Ok actors → actors_keep_rules cards changes actors ≡ true
actors_kept cards changes d actors e =
    let none : AreActors cards changes [] = record { few = refl; operations = refl; each = refl } in
    let kept = required_kept (AreActors cards changes) (actor_item cards changes) part.Actors (actor_added cards changes) none (option_and_then list_of (get (codes "actors") d)) actors e in
    let some = both (nat_le 1 (length actors)) (nat_le (length actors) 8) (le-leb 1 (length actors) kept.0) kept.1.few in
    both (is_between 1 8 (length actors) && nat_le (operation_count actors) 1000) (list_all (is_actor cards changes) actors)
    (both (is_between 1 8 (length actors)) (nat_le (operation_count actors) 1000) some kept.1.operations) kept.1.each

-- ---- turns

turn_added : (actors : ℕ) (before : List ℕ) (d : Data) (turn : ℕ) → turn_item actors before d ≡ Ok turn → AreAtMost 10000 (is_turn actors) before → AreAtMost 10000 (is_turn actors) (before ++ turn ∷ [])
unfolding turn_item
turn_added actors before d turn h turns =
    let form = bind_then (whole d) _ turn h in
    let limit = rule_then why.Limit (nat_lt (length before) 10000) _ turn form.1.1 in
    let target = rule_then why.Target (nat_le form.0 actors) (Ok form.0) turn limit.1 in
    let same : form.0 ≡ turn = cc in
    subst (λ (t : ℕ). AreAtMost 10000 (is_turn actors) (before ++ t ∷ [])) same (at_most_appended 10000 (is_turn actors) before form.0 limit.0 target.0 turns)

schedule_kept : (actors : ℕ) (d : Data) (turns : List ℕ) → schedule_part actors d ≡ Ok turns → schedule_keeps_rules actors turns ≡ true
schedule_kept actors d turns e =
    let kept = optional_kept (AreAtMost 10000 (is_turn actors)) (turn_item actors) part.Schedule (turn_added actors) (refl, refl) (get (codes "schedule") d) turns e in
    both (nat_le (length turns) 10000) (list_all (is_turn actors) turns) kept.0 kept.1

-- ---- faults

-- the call of the last fault, or another where there is none
abbrev pub last_behind : ℕ → List Fault → ℕ
last_behind call [] = call
last_behind call (fault ∷ faults) = last_behind fault.at faults

last_of_some : (fault : Fault) (faults : List Fault) → call_of (slice_get (fault ∷ faults) (length faults)) ≡ last_behind fault.at faults
last_of_some fault [] = refl
last_of_some fault (next ∷ faults) = last_of_some next faults

pub last_call_is : (faults : List Fault) → last_call faults ≡ last_behind 0 faults
last_call_is [] = refl
last_call_is (fault ∷ faults) =
    let place : length (fault ∷ faults) - 1 ≡ length faults = omega arith in
    ap (λ (n : ℕ). call_of (slice_get (fault ∷ faults) n)) place ∙ last_of_some fault faults

-- a fault's call is behind another, and its number has four bytes
abbrev pub is_call_behind : ℕ → Fault → Bool
is_call_behind call fault = nat_lt call fault.at && nat_le fault.at 4294967295

call_added : (call : ℕ) (before : List Fault) (fault : Fault) → is_call_behind (last_behind call before) fault ≡ true → are_calls_behind call before ≡ true → are_calls_behind call (before ++ fault ∷ []) ≡ true
call_added call [] fault behind calls = both (is_call_behind call fault) true behind refl
call_added call (first ∷ before) fault behind calls =
    let parts = and_parts (is_call_behind call first) (are_calls_behind first.at before) calls in
    both (is_call_behind call first) (are_calls_behind first.at (before ++ fault ∷ [])) parts.0 (call_added first.at before fault behind parts.1)

form_kept : (d : Data) (fault : Fault) → fault_form d ≡ Ok fault → nat_le fault.at 4294967295 ≡ true
form_kept d fault h =
    let P : Type 0 = nat_le fault.at 4294967295 ≡ true in
    bind_gives (only (codes "acted" ∷ codes "at" ∷ []) d) _ fault P h (λ known of_known e.
    bind_gives (field (whole_to 4294967295) (codes "at") d) _ fault P e (λ at of_at e1.
    bind_gives (field flag (codes "acted") d) _ fault P e1 (λ acted of_acted e2.
    let same : (record { at = at; acted = acted }) ≡ fault = cc in
    subst (λ (f : Fault). nat_le f.at 4294967295 ≡ true) same
    (field_passes (whole_to 4294967295) (λ n. nat_le n 4294967295) (codes "at") (number_passes 4294967295) d at of_at))))

abbrev AreFaults : List Fault → Type 0
AreFaults faults = (nat_le (length faults) 100 ≡ true) × (are_calls_behind 0 faults ≡ true)

fault_added : (before : List Fault) (d : Data) (fault : Fault) → fault_item before d ≡ Ok fault → AreFaults before → AreFaults (before ++ fault ∷ [])
unfolding fault_item
fault_added before d fault h faults =
    let form = bind_then (fault_form d) _ fault h in
    let later = rule_then why.Form (nat_lt (last_call before) form.0.at) _ fault form.1.1 in
    let limit = rule_then why.Limit (nat_lt (length before) 100) (Ok form.0) fault later.1 in
    let same : form.0 ≡ fault = cc in
    let room = ltb-true (length before) 100 limit.0 in
    let longer = length-append before (form.0 ∷ []) in
    let behind : nat_lt (last_behind 0 before) form.0.at ≡ true = subst (λ (call : ℕ). nat_lt call form.0.at ≡ true) (last_call_is before) later.0 in
    let call = both (nat_lt (last_behind 0 before) form.0.at) (nat_le form.0.at 4294967295) behind (form_kept d form.0 form.1.0) in
    subst (λ (f : Fault). AreFaults (before ++ f ∷ [])) same
    (le-leb (length (before ++ form.0 ∷ [])) 100 (omega (arith, room, longer)), call_added 0 before form.0 call faults.1)

faults_kept : (d : Data) (faults : List Fault) → faults_part d ≡ Ok faults → faults_keep_rules faults ≡ true
faults_kept d faults e =
    let kept = optional_kept AreFaults fault_item part.Faults fault_added (refl, refl) (get (codes "faults") d) faults e in
    both (nat_le (length faults) 100) (are_calls_behind 0 faults) kept.0 kept.1

-- ---- the script

budget_in : (o : Option Data) (budget : Option ℕ) → optional_in budget_item o ≡ Ok budget → budget_keeps_rules budget ≡ true
budget_in None budget e =
    let none : None ≡ budget = cc in
    subst (λ (b : Option ℕ). budget_keeps_rules b ≡ true) none refl
budget_in (Some d) budget e =
    bind_gives (budget_item d) _ budget (budget_keeps_rules budget ≡ true) e (λ n of_n e1.
    bind_gives (whole d) _ n (budget_keeps_rules budget ≡ true) of_n (λ m of_m e2.
    let within = rule_then why.Limit (is_between 1 20000000 m) (Ok m) n e2 in
    let same : Some m ≡ budget = cc in
    subst (λ (b : Option ℕ). budget_keeps_rules b ≡ true) same within.0))

abbrev IsKept : Script → Type 0
IsKept s = keeps_rules s ≡ true

seven : (a b c d e f g : Bool) → a ≡ true → b ≡ true → c ≡ true → d ≡ true → e ≡ true → f ≡ true → g ≡ true → (a && b && c && d && e && f && g) ≡ true
seven a b c d e f g p q r s t u v = rw (p, q, r, s, t, u, v) refl

parts_kept : (d : Data) (s : Script) → script_of_parts d ≡ Ok s → IsKept s
unfolding script_of_parts
parts_kept d s e =
    bind_gives (version_part d) _ s (IsKept s) e (λ version of_version e1.
    bind_gives (cards_part d) _ s (IsKept s) e1 (λ cards of_cards e2.
    bind_gives (changes_part d) _ s (IsKept s) e2 (λ changes of_changes e3.
    bind_gives (actors_part (length cards) (length changes) d) _ s (IsKept s) e3 (λ actors of_actors e4.
    bind_gives (schedule_part (length actors) d) _ s (IsKept s) e4 (λ schedule of_schedule e5.
    bind_gives (faults_part d) _ s (IsKept s) e5 (λ faults of_faults e6.
    bind_gives (budget_part d) _ s (IsKept s) e6 (λ budget of_budget e7.
    bind_gives (other_part d) _ s (IsKept s) e7 (λ others of_others e8.
    let whole : Script = record { version = version; cards = cards; actors = actors; changes = changes; schedule = schedule; faults = faults; budget = budget } in
    let same : whole ≡ s = cc in
    subst IsKept same (seven (version == 1) (cards_keep_rules cards) (changes_keep_rules changes) (actors_keep_rules (length cards) (length changes) actors)
    (schedule_keeps_rules (length actors) schedule) (faults_keep_rules faults) (budget_keeps_rules budget)
    (version_kept d version of_version) (cards_kept d cards of_cards) (changes_kept d changes of_changes)
    (actors_kept (length cards) (length changes) d actors of_actors) (schedule_kept (length actors) d schedule of_schedule) (faults_kept d faults of_faults)
    (budget_in (get (codes "budget") d) budget (at_item_then part.Budget 0 (optional budget_item (codes "budget") d) budget of_budget)))))))))))

object_kept : (b : Bool) (d : Data) (s : Script) → (if b then script_of_parts d else Err no_json) ≡ Ok s → IsKept s
object_kept true d s e = parts_kept d s e
object_kept false d s e = absurd (cc)

pub data_kept : (d : Data) (s : Script) → script_of_data d ≡ Ok s → IsKept s
unfolding script_of_data
data_kept d s e = object_kept (is_some (as_object d)) d s e

-- a reader that answers such a script
pub answer_kept : (d : Data) (result : Result Script ScriptError) → AnswersAs (script_of_data d) result → IfOk result IsKept
answer_kept d (Ok s) h = data_kept d s h
answer_kept d (Err error) h = tt

-- ---- the rules of a script that keeps all

pub record KeptRules (s : Script) : Type 0 where
  pub version : (s.version == 1) ≡ true
  pub cards : cards_keep_rules s.cards ≡ true
  pub changes : changes_keep_rules s.changes ≡ true
  pub actors : actors_keep_rules (length s.cards) (length s.changes) s.actors ≡ true
  pub schedule : schedule_keeps_rules (length s.actors) s.schedule ≡ true
  pub faults : faults_keep_rules s.faults ≡ true
  pub budget : budget_keeps_rules s.budget ≡ true

pub kept_rules : (s : Script) → IsKept s → KeptRules s
kept_rules s e =
    let version = s.version == 1 in
    let cards = cards_keep_rules s.cards in
    let changes = changes_keep_rules s.changes in
    let actors = actors_keep_rules (length s.cards) (length s.changes) s.actors in
    let schedule = schedule_keeps_rules (length s.actors) s.schedule in
    let faults = faults_keep_rules s.faults in
    let to_budget = and_parts (version && cards && changes && actors && schedule && faults) (budget_keeps_rules s.budget) e in
    let to_faults = and_parts (version && cards && changes && actors && schedule) faults to_budget.0 in
    let to_schedule = and_parts (version && cards && changes && actors) schedule to_faults.0 in
    let to_actors = and_parts (version && cards && changes) actors to_schedule.0 in
    let to_changes = and_parts (version && cards) changes to_actors.0 in
    let to_cards = and_parts version cards to_changes.0 in
    record { version = to_cards.0; cards = to_cards.1; changes = to_changes.1; actors = to_actors.1; schedule = to_schedule.1; faults = to_faults.1; budget = to_budget.1 }

pub kept_cards : (s : Script) → IsKept s → list_all is_card s.cards ≡ true
kept_cards s e = (and_parts (is_between 1 4 (length s.cards)) (list_all is_card s.cards) (kept_rules s e).cards).1

pub kept_changes : (s : Script) → IsKept s → list_all is_change s.changes ≡ true
kept_changes s e = (and_parts (nat_le (length s.changes) 64) (list_all is_change s.changes) (kept_rules s e).changes).1

pub few_changes : (s : Script) → IsKept s → length s.changes ≤ 64
few_changes s e = leb-true (length s.changes) 64 (and_parts (nat_le (length s.changes) 64) (list_all is_change s.changes) (kept_rules s e).changes).0

pub some_cards : (s : Script) → IsKept s → 1 ≤ length s.cards
some_cards s e =
    let count = (and_parts (is_between 1 4 (length s.cards)) (list_all is_card s.cards) (kept_rules s e).cards).0 in
    leb-true 1 (length s.cards) (and_parts (nat_le 1 (length s.cards)) (nat_le (length s.cards) 4) count).0

pub some_actors : (s : Script) → IsKept s → 1 ≤ length s.actors
some_actors s e =
    let each = list_all (is_actor (length s.cards) (length s.changes)) s.actors in
    let some = is_between 1 8 (length s.actors) in
    let count = nat_le (operation_count s.actors) 1000 in
    let counts = (and_parts (some && count) each (kept_rules s e).actors).0 in
    leb-true 1 (length s.actors) (and_parts (nat_le 1 (length s.actors)) (nat_le (length s.actors) 8) (and_parts some count counts).0).0
