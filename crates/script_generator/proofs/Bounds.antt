-- The work of a script that keeps the rules fits eight bytes.
use Rattle.std.proofs.Common.{◌≡◌, Fits, w64, ℕ, ◌+◌, ◌-◌, ◌*◌, ◌^◌, ◌<◌, ◌≤◌, Bool, true, false, ◌&&◌, ◌++◌, if◌then◌else◌, List, [], ◌∷◌, length, Option, Some, None, refl, arith, inl, inr}
use Rattle.std.specs.Prelude.{nat_le, nat_eq, count_by}
use Rattle.std.specs.List.{list_all}
use Rattle.std.proofs.lemmas.Bool.{leb-true, cases_lt}
use Rattle.std.proofs.lemmas.List.{length-append}
use Rattle.std.proofs.lemmas.List.Folds.{list_all-append}
use Rattle.std.proofs.lemmas.List.Sums.{sum_by-cons}
use Rattle.std.proofs.Math.Nat.{mul-le-mul}
use Rattle.apdu.specs.Words.{is_between, same_bytes, path_is_in}
use Rattle.fcp.specs.declared.control.ArrRef.{ArrRef}
use Rattle.script_reader.specs.declared.types.FileSpec.{FileSpec}
use Rattle.script_reader.specs.declared.types.KindSpec.{KindSpec}
use Rattle.script_reader.specs.declared.types.KindSpec.TheVariants.{Transparent, Linear}
use Rattle.script_reader.specs.declared.types.CardSpec.{CardSpec}
use Rattle.script_reader.specs.declared.types.ChangeSpec.{ChangeSpec}
use Rattle.script_reader.specs.declared.types.Operation.{Operation}
use Rattle.script_reader.specs.declared.types.Operation.TheVariants as operation
use Rattle.script_reader.specs.declared.types.Script.{Script}
use Rattle.script_reader.specs.Files.{is_kind_within, is_template_within, is_file_within, are_files_within, are_placed, have_shape}
use Rattle.script_reader.specs.Cards.{is_aid, is_card_within, has_card_shape, are_tries, is_card, is_change_within, is_change_placed, is_honest, is_change}
use Rattle.script_reader.specs.Operations.{operation_count, is_actor}
use Rattle.script_reader.specs.Rules.{cards_keep_rules, changes_keep_rules, actors_keep_rules, schedule_keeps_rules, are_calls_behind, faults_keep_rules, budget_keeps_rules, keeps_rules}
use Rattle.script_generator.specs.Working.{card_files, change_files, all_files, family_paths, is_rule_path, own_path, named_path, rule_paths, paths_read, reads_of, reads_at, most_reads, reading_sum, whole_reading, is_edit, is_move, count_all, disturbances, disturbances_of, work_of}

first : (a b : Bool) → (a && b) ≡ true → a ≡ true
first true b e = refl
first false b e = e

second : (a b : Bool) → (a && b) ≡ true → b ≡ true
second true b e = e
second false b e = absurd (cc)

-- ---- READs of a path

reads_few : (kind : KindSpec) → is_kind_within kind ≡ true → reads_of kind ≤ 254
reads_few (Transparent bytes) e =
    let few = leb-true (length bytes) 1024 e in
    omega (arith, few)
reads_few (Linear len rows) e = leb-true (length rows) 254 (second (is_between 1 255 len) (nat_le (length rows) 254) e)

none_else : (there : Bool) (reads : ℕ) → reads ≤ 254 → (if there then reads else 0) ≤ 254
none_else true reads few = few
none_else false reads few = omega arith

at_few : (path : List ℕ) (file : FileSpec) → is_file_within file ≡ true → reads_at path file ≤ 254
at_few path file e =
    none_else (same_bytes path file.path) (reads_of file.kind) (reads_few file.kind (first (is_kind_within file.kind) (is_template_within file.fcp) e))

most_few : (path : List ℕ) (files : List FileSpec) → list_all is_file_within files ≡ true → most_reads path files ≤ 254
most_few path [] e = omega arith
most_few path (file ∷ files) e =
    let now = at_few path file (first (is_file_within file) (list_all is_file_within files) e) in
    let later = most_few path files (second (is_file_within file) (list_all is_file_within files) e) in
    omega (arith, now, later)

-- ---- paths

none_or_one : (again : Bool) (reads : ℕ) → reads ≤ 254 → (if again then 0 else 1 + reads) ≤ 255
none_or_one true reads few = omega arith
none_or_one false reads few = omega (arith, few)

sum_few : (files : List FileSpec) (paths : List (List ℕ)) → list_all is_file_within files ≡ true → reading_sum files paths ≤ 255 * length paths
sum_few files [] e = omega arith
sum_few files (path ∷ paths) e =
    let now = none_or_one (path_is_in paths path) (most_reads path files) (most_few path files e) in
    let later = sum_few files paths e in
    omega (arith, now, later)

own_few_by : (own : Bool) (path : List ℕ) → length (if own then path ∷ [] else []) ≤ 1
own_few_by true path = omega arith
own_few_by false path = omega arith

named_few : (path : List ℕ) (arr : Option ArrRef) → length (named_path path arr) ≤ 1
named_few path None = omega arith
named_few path (Some arr) = omega arith

rules_few : (files : List FileSpec) → length (rule_paths files) ≤ 2 * length files
rules_few [] = omega arith
rules_few (file ∷ files) =
    let own = own_few_by (is_rule_path file.path) file.path in
    let named = named_few file.path file.arr in
    let later = rules_few files in
    let whole = length-append (own_path file.path ++ named_path file.path file.arr) (rule_paths files) in
    let front = length-append (own_path file.path) (named_path file.path file.arr) in
    omega (arith, own, named, later, whole, front)

-- ---- files

-- so many files, each within the limits
record FewFiles (files : List FileSpec) (many : ℕ) : Type 0 where
  few : length files ≤ many
  within : list_all is_file_within files ≡ true

few_of : (files : List FileSpec) → are_files_within files ≡ true → FewFiles files 64
few_of files e = record {
  few = leb-true (length files) 64 (first (nat_le (length files) 64) (list_all is_file_within files) e);
  within = second (nat_le (length files) 64) (list_all is_file_within files) e;
}

few_both : (xs ys : List FileSpec) (m n : ℕ) → FewFiles xs m → FewFiles ys n → FewFiles (xs ++ ys) (m + n)
few_both xs ys m n x y =
    let whole = length-append xs ys in
    let one = x.few in
    let other = y.few in
    record {
      few = omega (arith, whole, one, other);
      within = rw (list_all-append is_file_within xs ys, x.within, y.within) refl;
    }

files_of_card : (card : CardSpec) → is_card card ≡ true → are_files_within card.files ≡ true
files_of_card card e =
    let within = is_card_within card in
    let placed = are_placed card.files in
    let shape = has_card_shape card in
    let files = are_files_within card.files in
    let aids = nat_le (length card.aids) 8 in
    let each_aid = list_all is_aid card.aids in
    let keys = nat_le (length card.keys) 8 in
    let with_shape = first (within && placed && shape) (list_all are_tries card.keys) e in
    let alone = first within placed (first (within && placed) shape with_shape) in
    first files aids (first (files && aids) each_aid (first (files && aids && each_aid) keys (first (files && aids && each_aid && keys) (nat_le card.channels 3) alone)))

files_of_change : (change : ChangeSpec) → is_change change ≡ true → are_files_within change.files ≡ true
files_of_change change e =
    let within = is_change_within change in
    let placed = is_change_placed change in
    let shape = have_shape change.files in
    second (nat_le (length change.list) 8) (are_files_within change.files) (first within placed (first (within && placed) shape (first (within && placed && shape) (is_honest change) e)))

few_in_cards : (cards : List CardSpec) → list_all is_card cards ≡ true → FewFiles (card_files cards) (64 * length cards)
few_in_cards [] e = record { few = omega arith; within = refl }
few_in_cards (card ∷ cards) e =
    let now = few_of card.files (files_of_card card (first (is_card card) (list_all is_card cards) e)) in
    let later = few_in_cards cards (second (is_card card) (list_all is_card cards) e) in
    let all = few_both card.files (card_files cards) 64 (64 * length cards) now later in
    let few = all.few in
    record { few = omega (arith, few); within = all.within }

few_in_changes : (changes : List ChangeSpec) → list_all is_change changes ≡ true → FewFiles (change_files changes) (64 * length changes)
few_in_changes [] e = record { few = omega arith; within = refl }
few_in_changes (change ∷ changes) e =
    let now = few_of change.files (files_of_change change (first (is_change change) (list_all is_change changes) e)) in
    let later = few_in_changes changes (second (is_change change) (list_all is_change changes) e) in
    let all = few_both change.files (change_files changes) 64 (64 * length changes) now later in
    let few = all.few in
    record { few = omega (arith, few); within = all.within }

-- ---- parts of a script that keeps the rules

pub record Parts (s : Script) : Type 0 where
  pub cards : cards_keep_rules s.cards ≡ true
  pub changes : changes_keep_rules s.changes ≡ true
  pub actors : actors_keep_rules (length s.cards) (length s.changes) s.actors ≡ true
  pub faults : faults_keep_rules s.faults ≡ true

parts_of : (s : Script) → keeps_rules s ≡ true → Parts s
parts_of s e =
    let version = nat_eq s.version 1 in
    let cards = cards_keep_rules s.cards in
    let changes = changes_keep_rules s.changes in
    let actors = actors_keep_rules (length s.cards) (length s.changes) s.actors in
    let schedule = schedule_keeps_rules (length s.actors) s.schedule in
    let faults = faults_keep_rules s.faults in
    let to_faults = first (version && cards && changes && actors && schedule && faults) (budget_keeps_rules s.budget) e in
    let to_actors = first (version && cards && changes && actors) schedule (first (version && cards && changes && actors && schedule) faults to_faults) in
    let to_changes = first (version && cards && changes) actors to_actors in
    record {
      cards = second version cards (first (version && cards) changes to_changes);
      changes = second (version && cards) changes to_changes;
      actors = second (version && cards && changes) actors to_actors;
      faults = second (version && cards && changes && actors && schedule) faults to_faults;
    }

few_files : (s : Script) → Parts s → FewFiles (all_files s) 4352
few_files s p =
    let many = is_between 1 4 (length s.cards) in
    let cards = few_in_cards s.cards (second many (list_all is_card s.cards) p.cards) in
    let changes = few_in_changes s.changes (second (nat_le (length s.changes) 64) (list_all is_change s.changes) p.changes) in
    let all = few_both (card_files s.cards) (change_files s.changes) (64 * length s.cards) (64 * length s.changes) cards changes in
    let few = all.few in
    let some_cards = leb-true (length s.cards) 4 (second (nat_le 1 (length s.cards)) (nat_le (length s.cards) 4) (first many (list_all is_card s.cards) p.cards)) in
    let some_changes = leb-true (length s.changes) 64 (first (nat_le (length s.changes) 64) (list_all is_change s.changes) p.changes) in
    record { few = omega (arith, few, some_cards, some_changes); within = all.within }

reading_few_of : (s : Script) → Parts s → whole_reading s ≤ 2222325
unfolding whole_reading
reading_few_of s p =
    let files = few_files s p in
    let few = files.few in
    let rules = rules_few (all_files s) in
    let whole = length-append (rule_paths (all_files s)) family_paths in
    let sum = sum_few (all_files s) (paths_read s) files.within in
    omega (arith, few, rules, whole, sum)

pub reading_few : (s : Script) → keeps_rules s ≡ true → whole_reading s ≤ 2222325
reading_few s e = reading_few_of s (parts_of s e)

pub reading_fits : (s : Script) → keeps_rules s ≡ true → whole_reading s < 2 ^ 64
reading_fits s e =
    let few = reading_few s e in
    omega (arith, few)

-- ---- operations

one_kind : (op : Operation) → (if is_edit op then 1 else 0) + (if is_move op then 1 else 0) ≤ 1
one_kind (operation.Insert card) = omega arith
one_kind operation.Out = omega arith
one_kind (operation.Arm change) = omega arith
one_kind (operation.Load family) = omega arith
one_kind (operation.Set family at name number) = omega arith
one_kind (operation.Clear family at) = omega arith
one_kind (operation.OpenChannel handle aid) = omega arith
one_kind (operation.Raw handle command) = omega arith
one_kind (operation.Close handle) = omega arith
one_kind (operation.Verify key pin) = omega arith
one_kind (operation.End key) = omega arith
one_kind operation.Poll = omega arith
one_kind operation.Look = omega arith
one_kind (operation.Watch mask) = omega arith
one_kind operation.Notices = omega arith

kinds_few : (ops : List Operation) → count_by is_edit ops + count_by is_move ops ≤ length ops
kinds_few [] = omega arith
kinds_few (op ∷ ops) =
    let now = one_kind op in
    let later = kinds_few ops in
    let edits = sum_by-cons (λ (x : Operation). if is_edit x then 1 else 0) op ops in
    let moves = sum_by-cons (λ (x : Operation). if is_move x then 1 else 0) op ops in
    omega (arith, now, later, edits, moves)

all_few : (actors : List (List Operation)) → count_all is_edit actors + count_all is_move actors ≤ operation_count actors
all_few [] = omega arith
all_few (ops ∷ actors) =
    let now = kinds_few ops in
    let later = all_few actors in
    omega (arith, now, later)

operations_few_of : (s : Script) → Parts s → operation_count s.actors ≤ 1000
operations_few_of s p =
    let many = is_between 1 8 (length s.actors) in
    let few = nat_le (operation_count s.actors) 1000 in
    leb-true (operation_count s.actors) 1000 (second many few (first (many && few) (list_all (is_actor (length s.cards) (length s.changes)) s.actors) p.actors))

pub operations_few : (s : Script) → keeps_rules s ≡ true → operation_count s.actors ≤ 1000
operations_few s e = operations_few_of s (parts_of s e)

pub edits_few : (s : Script) → keeps_rules s ≡ true → count_all is_edit s.actors ≤ 1000
edits_few s e =
    let few = operations_few s e in
    let all = all_few s.actors in
    omega (arith, few, all)

pub moves_few : (s : Script) → keeps_rules s ≡ true → count_all is_move s.actors ≤ 1000
moves_few s e =
    let few = operations_few s e in
    let all = all_few s.actors in
    omega (arith, few, all)

pub faults_few : (s : Script) → keeps_rules s ≡ true → length s.faults ≤ 100
faults_few s e = leb-true (length s.faults) 100 (first (nat_le (length s.faults) 100) (are_calls_behind 0 s.faults) (parts_of s e).faults)

pub changes_few : (s : Script) → keeps_rules s ≡ true → count_all is_move s.actors + length s.faults + count_all is_edit s.actors ≤ 1100
changes_few s e =
    let few = operations_few s e in
    let all = all_few s.actors in
    let faults = faults_few s e in
    omega (arith, few, all, faults)

below : (n : ℕ) → n ≤ 1100 → n < 2 ^ 64
below n few = omega (arith, few)

pub edits_fit : (s : Script) → keeps_rules s ≡ true → count_all is_edit s.actors < 2 ^ 64
edits_fit s e =
    let few = edits_few s e in
    below (count_all is_edit s.actors) (omega (arith, few))

pub moves_fit : (s : Script) → keeps_rules s ≡ true → count_all is_move s.actors < 2 ^ 64
moves_fit s e =
    let few = moves_few s e in
    below (count_all is_move s.actors) (omega (arith, few))

pub moves_and_faults_fit : (s : Script) → keeps_rules s ≡ true → Fits w64 (count_all is_move s.actors + length s.faults)
moves_and_faults_fit s e =
    let few = moves_few s e in
    let faults = faults_few s e in
    omega (arith, few, faults)

-- ---- products

-- four times a product is at most the square of the sum
above : (a more : ℕ) → 4 * (a * (a + more)) ≤ (a + (a + more)) * (a + (a + more))
above a more = omega arith

above_by : (a b more : ℕ) → b ≡ a + more → 4 * (a * b) ≤ (a + b) * (a + b)
above_by a b more e = rw e (above a more)

square_above : (a b : ℕ) → 4 * (a * b) ≤ (a + b) * (a + b)
square_above a b = elim (cases_lt a b) [
  | inl less ↦ above_by a b (b - a) (omega (arith, less))
  | inr more ↦
      let other = above_by b a (a - b) (omega (arith, more)) in
      omega (arith, other)
]

pub disturbances_few : (moves edits : ℕ) → moves + edits ≤ 1100 → disturbances moves edits ≤ 909701
disturbances_few moves edits few =
    let a = 3 * moves + 3 in
    let b = 3 * edits + 1 in
    let small : a + b ≤ 3304 = omega (arith, few) in
    let square = square_above a b in
    let most : (a + b) * (a + b) ≤ 3304 * 3304 = mul-le-mul small small in
    omega (arith, square, most)

pub script_disturbed : (s : Script) → keeps_rules s ≡ true → disturbances_of s ≤ 909701
unfolding disturbances_of
script_disturbed s e =
    let few = operations_few s e in
    let all = all_few s.actors in
    let faults = faults_few s e in
    disturbances_few (count_all is_move s.actors + length s.faults) (count_all is_edit s.actors) (omega (arith, few, all, faults))

product_few : (x y z : ℕ) → x ≤ 17778632 → y ≤ 910703 → z ≤ 909702 → x * y * z < 2 ^ 64
product_few x y z few_x few_y few_z =
    let pair : x * y ≤ 17778632 * 910703 = mul-le-mul few_x few_y in
    let whole : x * y * z ≤ 17778632 * 910703 * 909702 = mul-le-mul pair few_z in
    omega (arith, whole)

pub work_fits : (reading operations disturbed : ℕ) → reading ≤ 2222325 → operations ≤ 1000 → disturbed ≤ 909701 → work_of reading operations disturbed < 2 ^ 64
work_fits reading operations disturbed r o d = product_few (8 * reading + 32) (operations + disturbed + 2) (disturbed + 1) (omega (arith, r)) (omega (arith, o, d)) (omega (arith, d))

pub front_fits : (reading operations disturbed : ℕ) → reading ≤ 2222325 → operations ≤ 1000 → disturbed ≤ 909701 → (8 * reading + 32) * (operations + disturbed + 2) < 2 ^ 64
front_fits reading operations disturbed r o d =
    let x : 8 * reading + 32 ≤ 17778632 = omega (arith, r) in
    let y : operations + disturbed + 2 ≤ 910703 = omega (arith, o, d) in
    let pair : (8 * reading + 32) * (operations + disturbed + 2) ≤ 17778632 * 910703 = mul-le-mul x y in
    omega (arith, pair)
