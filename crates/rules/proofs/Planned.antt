-- Where an attempt begins, its plan is that for the card in the slot.
use Rattle.std.proofs.Common.{◌≡◌, ℕ, zero, suc, ◌-◌, ◌==◌, Bool, true, false, ◌&&◌, ◌||◌, if◌then◌else◌, Option, Some, None, List, [], ◌∷◌, ◌++◌, refl, ap, sym, ◌∙◌, subst, true≢false}
use Rattle.std.specs.List.{filter_map, cons_option}
use Rattle.std.specs.Prelude.{not, is_some, is_none, nat_lt, slice_get, option_map, option_and_then, unwrap_or, Result, Ok, Err}
use Rattle.std.proofs.lemmas.Bool.{and_parts, and_from, eqb-true}
use Rattle.apdu.specs.Words.{is_one_of}
use Rattle.fcp.specs.Content.{Content, missing}
use Rattle.fcp.specs.declared.control.ArrRef.{ArrRef}
use Rattle.fcp.specs.declared.rule.Rule.{Rule}
use Rattle.adn.specs.declared.edit.Edit.{Edit}
use Rattle.adn.specs.declared.edit.Plan.{Plan}
use Rattle.adn.specs.declared.edit.PlanError.{PlanError}
use Rattle.card_model.specs.declared.world.FileState.{FileState}
use Rattle.card_model.specs.declared.world.CardState.{CardState}
use Rattle.card_model.specs.Card.{file_at, file_of, rows_of, rule_file_path, rule_of_record, record_at, is_in_application, usim_of}
use Rattle.card_effects.proofs.Same.{same_bytes_is}
use Rattle.script_reader.specs.declared.types.Script.{Script}
use Rattle.script_reader.specs.declared.types.Operation.{Operation}
use Rattle.script_reader.specs.declared.types.Operation.TheVariants as operation
use Rattle.report.specs.declared.line.Line.{Line}
use Rattle.report.specs.declared.line.Line.TheVariants as line
use Rattle.families.specs.Families.{View, phonebook, fixed, family_paths, family_path, family_plan}
use Rattle.families.specs.Plans.{plan_edit, plan_updates}
use Rattle.epoch_cache.specs.declared.cached.CachedFile.{CachedFile}
use Rattle.epoch_cache.specs.Cache.{is_of, taken, is_current, all_current, first_missing, view_of_files}
use Rattle.editor.specs.declared.editing.Attempt.{Attempt}
use Rattle.editor.specs.declared.editing.Decided.{Decided}
use Rattle.editor.specs.declared.editing.Editing.{Editing}
use Rattle.rules.specs.declared.kept.Begun.{Begun}
use Rattle.rules.specs.declared.kept.Decision.{Decision}
use Rattle.rules.specs.declared.kept.Kept.{Kept}
use Rattle.rules.specs.declared.kept.Work.{Work}
use Rattle.rules.specs.declared.kept.Work.TheVariants.{Rests as rests, Refuses as refuses, Lacks as lacks, Sends as sends, Reads as reads, Writes as writes, Resets as resets, Happens as happens}
use Rattle.rules.specs.History.{lives_in}
use Rattle.rules.specs.Kept.{begun_operation, begun_of, operation_now, operation_at}
use Rattle.editor.specs.Editing.{next_update, owed_update, rule_path, path_of_rule, edit_paths, planned, row_from_one, need_by_rule, need_of_taken, update_need, need_of_file, card_need}
use Rattle.rules.specs.Editing.{first_lack}
use Rattle.rules.specs.Work.{decides, reads_first, begins_plan, plans, attempts, undecided_work, decided_work, edit_work, work_of_edit, work_of_operation}
use Rattle.rules.specs.After.{edit_of, fresh_begun, decision_of_begun, decision_at}
use Rattle.rules.specs.Agreement.{is_application, FileTrue, FilesTrue, arr_at, edit_at, is_planned, IsPlanned}
use Rattle.rules.proofs.Publishing.{current-agrees}
use Rattle.rules.proofs.Told.{card_agrees}
use Rattle.rules.proofs.Truth.{found_path, find_passes}

-- ---- what a decision stands on

-- the framework has no operations
framework_none : (s : Script) (b : Option Begun) → edit_of (begun_operation s zero b) ≡ None
framework_none s None = refl
framework_none s (Some b) = refl

abbrev made : Plan → Result Plan PlanError
made plan = Ok plan

abbrev refused : PlanError → Result Plan PlanError
refused refusal = Err refusal

-- no plan, or that for the files as they are kept, which are all current
data Decides (k : Kept) (f : ℕ) (e : Edit) (d : Decision) : Type 0 where
  elsewhere : is_planned d ≡ false → Decides k f e d
  on_files : (actor : ℕ) → first_missing k.files (edit_paths k.files f) ≡ None → d ≡ plans k actor f e (edit_paths k.files f) → Decides k f e d

module _ (k : Kept) (f : ℕ) (e : Edit) where
  going : (b : Bool) → is_planned (decides (if b then writes else rests)) ≡ false
  going true = refl
  going false = refl

  attempts_by : (actor : ℕ) (o : Option Attempt) → first_missing k.files (edit_paths k.files f) ≡ None → Decides k f e (attempts k actor f e o (edit_paths k.files f))
  attempts_by actor (Some a) q = elsewhere (going (is_some (next_update a)))
  attempts_by actor None q = on_files actor q refl

  undecided_by : (actor : ℕ) (o : Option Attempt) (m : Option (List ℕ)) → first_missing k.files (edit_paths k.files f) ≡ m → Decides k f e (elim m [ Some path ↦ decides (reads path) | None ↦ attempts k actor f e o (edit_paths k.files f) ])
  undecided_by actor o (Some path) q = elsewhere refl
  undecided_by actor o None q = attempts_by actor o q

  reading : (m : Option (List ℕ)) → is_planned (decides (elim m [ None ↦ rests | Some path ↦ reads path ])) ≡ false
  reading None = refl
  reading (Some path) = refl

  decided : (editing : Editing) (b : Bool) → is_planned (decides (if b then writes else reads_first k.files (family_paths f))) ≡ false
  decided editing true = refl
  decided editing false = reading (first_missing k.files (family_paths f))

  edit_by : (actor : ℕ) (editing : Editing) (d : Option Decided) → Decides k f e (elim d [ None ↦ undecided_work k actor f e editing.attempt | Some d ↦ decides (decided_work k f editing) ])
  edit_by actor editing (Some d) = elsewhere (decided editing (is_some (owed_update true editing)))
  edit_by actor editing None = undecided_by actor editing.attempt (first_missing k.files (edit_paths k.files f)) refl

  living_by : (actor : ℕ) (b : Begun) (t : Bool) → Decides k f e (elim t [ true ↦ edit_work k actor f e b.editing | false ↦ decides rests ])
  living_by actor b false = elsewhere refl
  living_by actor b true = edit_by actor b.editing b.editing.decided

  work_by : (actor : ℕ) (b : Begun) (o : Option (ℕ × Edit)) → o ≡ Some (f, e) → Decides k f e (work_of_edit k actor b o)
  work_by actor b o q = subst (λ (x : Option (ℕ × Edit)). Decides k f e (work_of_edit k actor b x)) (sym q) (living_by actor b (lives_in k.history b.epoch))

  operation_by : (actor : ℕ) (b : Begun) (op : Operation) → edit_of (Some op) ≡ Some (f, e) → Decides k f e (work_of_operation k actor b op)
  operation_by actor b (operation.Set g at name number) q = work_by actor b (edit_of (Some (operation.Set g at name number))) q
  operation_by actor b (operation.Clear g at) q = work_by actor b (edit_of (Some (operation.Clear g at))) q
  operation_by actor b (operation.Insert card) q = absurd (cc)
  operation_by actor b operation.Out q = absurd (cc)
  operation_by actor b (operation.Arm change) q = absurd (cc)
  operation_by actor b (operation.Load g) q = absurd (cc)
  operation_by actor b (operation.OpenChannel handle aid) q = absurd (cc)
  operation_by actor b (operation.Raw handle apdu) q = absurd (cc)
  operation_by actor b (operation.Close handle) q = absurd (cc)
  operation_by actor b (operation.Verify key pin) q = absurd (cc)
  operation_by actor b (operation.End key) q = absurd (cc)
  operation_by actor b operation.Poll q = absurd (cc)
  operation_by actor b operation.Look q = absurd (cc)
  operation_by actor b (operation.Watch mask) q = absurd (cc)
  operation_by actor b operation.Notices q = absurd (cc)

  begun_by : (actor : ℕ) (b : Option Begun) (op : Option Operation) → edit_of op ≡ Some (f, e) → Decides k f e (decision_of_begun k actor b op)
  begun_by actor b None q = absurd (cc)
  begun_by actor None (Some op) q = elsewhere refl
  begun_by actor (Some b) (Some op) q = operation_by actor b op q

  line_by : (s : Script) (l : Line) → edit_at s l k ≡ Some (f, e) → Decides k f e (decision_at s l k)
  line_by s (line.Turn zero) q = absurd (let n = framework_none s (begun_of zero k.jobs) in cc)
  line_by s (line.Turn (suc n)) q = begun_by (suc n) (begun_of (suc n) k.jobs) (operation_now s (suc n) k.jobs) q
  line_by s (line.Begin n i) q = begun_by n (Some (fresh_begun i k.history)) (operation_at s n i) q
  line_by s (line.Exchange n c r) q = absurd (cc)
  line_by s (line.Failed n c d) q = absurd (cc)
  line_by s (line.Reset n) q = absurd (cc)
  line_by s (line.ResetFailed n) q = absurd (cc)
  line_by s (line.World n w) q = absurd (cc)
  line_by s (line.Published n g v p text) q = absurd (cc)
  line_by s (line.EpochEnd n v p) q = absurd (cc)
  line_by s (line.Refused g n) q = absurd (cc)
  line_by s (line.Answered n i given) q = absurd (cc)

-- ---- what a plan decides

abbrev Begins : Decision → Attempt → Type 0
Begins d a = d.attempt ≡ Some a

abbrev RefusesBy : Decision → PlanError → Type 0
RefusesBy d r = d.work ≡ refuses r

abbrev begins_with : ℕ → Plan → List (List ℕ) → Decision
begins_with f plan paths = record { work = writes; attempt = Some (planned f plan paths) }

refusal_in : Work → PlanError → PlanError
refusal_in (refuses x) r = x
refusal_in (lacks key) r = r
refusal_in rests r = r
refusal_in (sends c) r = r
refusal_in (reads path) r = r
refusal_in writes r = r
refusal_in resets r = r
refusal_in (happens event) r = r

module _ (k : Kept) (actor f : ℕ) (e : Edit) (paths : List (List ℕ)) where
  begins : (plan : Plan) (a : Attempt) (o : Option ℕ) → Begins (elim o [ Some key ↦ decides (lacks key) | None ↦ begins_with f plan paths ]) a → plan ≡ a.plan
  begins plan a (Some key) h = absurd (cc)
  begins plan a None h = let same : planned f plan paths ≡ a = cc in ap (λ (x : Attempt). x.plan) same

  pub planned_by : (a : Attempt) (r : Result Plan PlanError) → Begins (elim r [ Err refusal ↦ decides (refuses refusal) | Ok plan ↦ begins_plan k actor f plan paths ]) a → r ≡ Ok a.plan
  planned_by a (Err refusal) h = absurd (cc)
  planned_by a (Ok plan) h = ap made (begins plan a (first_lack k.history actor k.sessions k.files f (plan_updates plan)) h)

  never_refuses : (plan : Plan) (x : PlanError) (o : Option ℕ) → RefusesBy (elim o [ Some key ↦ decides (lacks key) | None ↦ begins_with f plan paths ]) x → ⊥
  never_refuses plan x (Some key) h = cc
  never_refuses plan x None h = cc

  pub refused_by : (x : PlanError) (r : Result Plan PlanError) → RefusesBy (elim r [ Err refusal ↦ decides (refuses refusal) | Ok plan ↦ begins_plan k actor f plan paths ]) x → r ≡ Err x
  unfolding refusal_in
  refused_by x (Err refusal) h = ap refused (ap (λ (w : Work). refusal_in w x) h)
  refused_by x (Ok plan) h = absurd (never_refuses plan x (first_lack k.history actor k.sessions k.files f (plan_updates plan)) h)

-- ---- current paths

none_fails : (files : List CachedFile) (path : List ℕ) (rest : Option (List ℕ)) (b : Bool) → (if not b then Some path else rest) ≡ None → (b ≡ true) × (rest ≡ None)
none_fails files path rest true h = (refl, h)
none_fails files path rest false h = absurd (cc)

none_missing : (files : List CachedFile) (paths : List (List ℕ)) → first_missing files paths ≡ None → all_current files paths ≡ true
none_missing files [] h = refl
none_missing files (path ∷ paths) h =
    let q = none_fails files path (first_missing files paths) (is_current files path) h in
    and_from (is_current files path) (all_current files paths) q.0 (none_missing files paths q.1)

front : (files : List CachedFile) (a b : List (List ℕ)) → all_current files (a ++ b) ≡ true → all_current files a ≡ true
front files [] b h = refl
front files (path ∷ a) b h = let q = and_parts (is_current files path) (all_current files (a ++ b)) h in and_from (is_current files path) (all_current files a) q.0 (front files a b q.1)

behind : (files : List CachedFile) (a b : List (List ℕ)) → all_current files (a ++ b) ≡ true → all_current files b ≡ true
behind files [] b h = h
behind files (path ∷ a) b h = behind files a b (and_parts (is_current files path) (all_current files (a ++ b)) h).1

pub member : (files : List CachedFile) (paths : List (List ℕ)) (i : ℕ) (path : List ℕ) → slice_get paths i ≡ Some path → all_current files paths ≡ true → is_current files path ≡ true
member files [] i path e h = absurd (cc)
member files (x ∷ paths) zero path e h = let same : x ≡ path = cc in subst (λ y. is_current files y ≡ true) same (and_parts (is_current files x) (all_current files paths) h).0
member files (x ∷ paths) (suc i) path e h = member files paths i path e (and_parts (is_current files x) (all_current files paths) h).1

-- ---- the family's two files

abbrev pub IsTwo : ℕ → Type 0
IsTwo f = (slice_get (family_paths f) 0 ≡ Some (family_path f 0)) × (slice_get (family_paths f) 1 ≡ Some (family_path f 1))

pub two_by : (f : ℕ) (a b c : Bool) → (0 == f) ≡ a → (1 == f) ≡ b → (2 == f) ≡ c → (a || (b || (c || false))) ≡ true → IsTwo f
two_by f true b c x y z h = subst IsTwo (eqb-true 0 f x) (refl, refl)
two_by f false true c x y z h = subst IsTwo (eqb-true 1 f y) (refl, refl)
two_by f false false true x y z h = subst IsTwo (eqb-true 2 f z) (refl, refl)
two_by f false false false x y z h = absurd (cc)

same_plan : (f : ℕ) (e : Edit) (v w : View) → v (family_path f 0) ≡ w (family_path f 0) → v (family_path f 1) ≡ w (family_path f 1) → family_plan f e v ≡ family_plan f e w
same_plan f e v w a b = ap (λ (x : Content). plan_edit e x (v (family_path f 1))) a ∙ ap (λ (x : Content). plan_edit e (w (family_path f 0)) x) b

-- ---- the rule of a file

none_there : List (List ℕ)
none_there = []

no_row : (n : ℕ) (b : Bool) → (if b then slice_get none_there (n - 1) else None) ≡ None
unfolding none_there
no_row n true = refl
no_row n false = refl

rows_at : (n : ℕ) (o : Option FileState) → row_from_one (unwrap_or (option_map (λ (x : FileState). x.rows) o) missing).rows n ≡ option_and_then (record_at n) o
unfolding none_there
rows_at n None = no_row n (nat_lt 0 n)
rows_at n (Some file) = refl

module _ (card : CardState) (files : List CachedFile) (t : FilesTrue card files) where
  taken_file : (path : List ℕ) (file : CachedFile) → taken path files ≡ Some file → FileTrue card file × (file.path ≡ path)
  taken_file path file h = by_list files t h
    where
      by_test : (x : CachedFile) (rest : Option CachedFile) → FileTrue card x → (rest ≡ Some file → FileTrue card file) → (b : Bool) → (if b then Some x else rest) ≡ Some file → FileTrue card file
      by_test x rest u next true e = let same : x ≡ file = cc in subst (FileTrue card) same u
      by_test x rest u next false e = next e

      by_true : (fs : List CachedFile) → FilesTrue card fs → taken path fs ≡ Some file → FileTrue card file
      by_true [] u e = absurd (cc)
      by_true (x ∷ fs) u e = by_test x (taken path fs) u.0 (λ q. by_true fs u.1 q) (is_of path x) e

      by_list : (fs : List CachedFile) → FilesTrue card fs → taken path fs ≡ Some file → FileTrue card file × (file.path ≡ path)
      by_list fs u e = (by_true fs u e, same_bytes_is file.path path (find_passes (is_of path) fs file e))

  view_is : (path : List ℕ) → is_application path ≡ false → is_current files path ≡ true → view_of_files files path ≡ rows_of path card
  view_is path n h = current-agrees files (λ path. rows_of path card) path (card_agrees card files t) n h

  cons_rest : (p : Option (List ℕ)) (rest : List (List ℕ)) → all_current files (cons_option p rest) ≡ true → all_current files rest ≡ true
  cons_rest None rest h = h
  cons_rest (Some path) rest h = (and_parts (is_current files path) (all_current files rest) h).1

  cons_first : (p : Option (List ℕ)) (rest : List (List ℕ)) (path : List ℕ) → p ≡ Some path → all_current files (cons_option p rest) ≡ true → is_current files path ≡ true
  cons_first None rest path e h = absurd (cc)
  cons_first (Some q) rest path e h = let same : q ≡ path = cc in subst (λ y. is_current files y ≡ true) same (and_parts (is_current files q) (all_current files rest) h).0

  named_current : (paths : List (List ℕ)) (i : ℕ) (path named : List ℕ) → slice_get paths i ≡ Some path → rule_path files path ≡ Some named → all_current files (filter_map (rule_path files) paths) ≡ true → is_current files named ≡ true
  named_current [] i path named e n h = absurd (cc)
  named_current (x ∷ paths) zero path named e n h = let same : x ≡ path = cc in cons_first (rule_path files x) (filter_map (rule_path files) paths) named (ap (rule_path files) same ∙ n) h
  named_current (x ∷ paths) (suc i) path named e n h = named_current paths i path named e n (cons_rest (rule_path files x) (filter_map (rule_path files) paths) h)

  module _ (path : List ℕ) (outside : is_application path ≡ false) (rules_outside : (arr : ArrRef) → is_application (rule_file_path path arr) ≡ false) (file : CachedFile) (found : taken path files ≡ Some file) (rules : (named : List ℕ) → rule_path files path ≡ Some named → is_current files named ≡ true) where
    rule_is : (arr : ArrRef) → file.arr ≡ Some arr → rule_of_record (row_from_one (view_of_files files (rule_file_path path arr)).rows arr.row) ≡ rule_of_record (option_and_then (record_at arr.row) (file_of (rule_file_path path arr) card))
    rule_is arr h =
        let named : rule_path files path ≡ Some (rule_file_path path arr) = ap (path_of_rule path) found ∙ ap (option_map (rule_file_path path)) h in
        let rows = view_is (rule_file_path path arr) (rules_outside arr) (rules (rule_file_path path arr) named) in
        ap (λ (x : Content). rule_of_record (row_from_one x.rows arr.row)) rows ∙ ap rule_of_record (rows_at arr.row (file_of (rule_file_path path arr) card))

    of_card : (o : Option FileState) → file_of path card ≡ o → file.arr ≡ option_and_then (λ (x : FileState). x.arr) o → need_by_rule files path file.arr ≡ need_of_file card o
    of_card None h e = rw e refl
    of_card (Some there) h e =
        let name : there.path ≡ path = there_path there h in
        by_arr file.arr refl there.arr refl (sym e) name
      where
        in_application : (b : Bool) (there : FileState) → (if b then None else file_at path card) ≡ Some there → file_at path card ≡ Some there
        in_application true there h = absurd (cc)
        in_application false there h = h

        there_path : (there : FileState) → file_of path card ≡ Some there → there.path ≡ path
        there_path there h = found_path path card there (in_application (is_in_application path && is_none (usim_of card)) there h)

        by_arr : (a : Option ArrRef) → file.arr ≡ a → (b : Option ArrRef) → there.arr ≡ b → there.arr ≡ file.arr → there.path ≡ path → need_by_rule files path file.arr ≡ need_of_file card (Some there)
        by_arr None x b y z name = rw x (let q : there.arr ≡ None = z ∙ x in rw q refl)
        by_arr (Some arr) x b y z name =
            let q : there.arr ≡ Some arr = z ∙ x in
            rw (x, q, name) (ap (λ (r : Rule). r.update) (rule_is arr x))

    pub need_is : update_need files path ≡ card_need card path
    need_is =
        let t = taken_file path file found in
        ap (need_of_taken files path) found ∙ of_card (file_of path card) refl ((t.0 (ap is_application t.1 ∙ outside)).arr ∙ ap (λ (x : List ℕ). arr_at x card) t.1)

  some_of : (path : List ℕ) (o : Option CachedFile) → taken path files ≡ o → is_some o ≡ true → (file : CachedFile) × (taken path files ≡ Some file)
  some_of path None h c = absurd (cc)
  some_of path (Some file) h c = (file, h)

  pub path_need : (paths : List (List ℕ)) (i : ℕ) (path : List ℕ) → is_application path ≡ false → ((arr : ArrRef) → is_application (rule_file_path path arr) ≡ false) → slice_get paths i ≡ Some path → all_current files (paths ++ filter_map (rule_path files) paths) ≡ true → update_need files path ≡ card_need card path
  path_need paths i path outside rules_outside e h =
      let here = member files paths i path e (front files paths (filter_map (rule_path files) paths) h) in
      let q = some_of path (taken path files) refl here in
      need_is path outside rules_outside q.0 q.1 (λ named n. named_current paths i path named e n (behind files paths (filter_map (rule_path files) paths) h))

-- ---- the books

pub record IsBook (f : ℕ) : Type 0 where
  pub main : slice_get (family_paths f) 0 ≡ Some (family_path f 0)
  pub extension : slice_get (family_paths f) 1 ≡ Some (family_path f 1)
  pub main_outside : is_application (family_path f 0) ≡ false
  pub extension_outside : is_application (family_path f 1) ≡ false
  pub main_rules : (arr : ArrRef) → is_application (rule_file_path (family_path f 0) arr) ≡ false
  pub extension_rules : (arr : ArrRef) → is_application (rule_file_path (family_path f 1) arr) ≡ false

rules_by : (path : List ℕ) (id : ℕ) → is_application (path ++ id ∷ []) ≡ false → (b : Bool) → is_application (if b then 0x2F06 ∷ [] else path ++ id ∷ []) ≡ false
rules_by path id h true = refl
rules_by path id h false = h

book_by : (f : ℕ) (b c : Bool) → (1 == f) ≡ b → (2 == f) ≡ c → (b || (c || false)) ≡ true → IsBook f
book_by f true c y z h = subst IsBook (eqb-true 1 f y) (record { main = refl; extension = refl; main_outside = refl; extension_outside = refl; main_rules = λ arr. rules_by (0x7F10 ∷ []) arr.file_id refl (arr.file_id == 0x2F06); extension_rules = λ arr. rules_by (0x7F10 ∷ []) arr.file_id refl (arr.file_id == 0x2F06) })
book_by f false true y z h = subst IsBook (eqb-true 2 f z) (record { main = refl; extension = refl; main_outside = refl; extension_outside = refl; main_rules = λ arr. rules_by (0x7FFF ∷ []) arr.file_id refl (arr.file_id == 0x2F06); extension_rules = λ arr. rules_by (0x7FFF ∷ []) arr.file_id refl (arr.file_id == 0x2F06) })
book_by f false false y z h = absurd (cc)

-- ---- the whole

on_card : (card : CardState) (k : Kept) (f : ℕ) (e : Edit) (d : Decision) (actor : ℕ) → FilesTrue card k.files → is_one_of f (phonebook ∷ fixed ∷ []) ≡ true → first_missing k.files (edit_paths k.files f) ≡ None → d ≡ plans k actor f e (edit_paths k.files f) → IsPlanned card k f e d
on_card card k f e d actor t one current is =
    let all = none_missing k.files (edit_paths k.files f) current in
    let own = front k.files (family_paths f) (filter_map (rule_path k.files) (family_paths f)) all in
    let book = book_by f (1 == f) (2 == f) refl refl one in
    let main = view_is card k.files t (family_path f 0) book.main_outside (member k.files (family_paths f) 0 (family_path f 0) book.main own) in
    let extension = view_is card k.files t (family_path f 1) book.extension_outside (member k.files (family_paths f) 1 (family_path f 1) book.extension own) in
    let same = sym (same_plan f e (view_of_files k.files) (λ path. rows_of path card) main extension) in
    record {
      plan = λ a h. same ∙ planned_by k actor f e (edit_paths k.files f) a (family_plan f e (view_of_files k.files)) (ap (λ (x : Decision). x.attempt) (sym is) ∙ h);
      refusal = λ r h. same ∙ refused_by k actor f e (edit_paths k.files f) r (family_plan f e (view_of_files k.files)) (ap (λ (x : Decision). x.work) (sym is) ∙ h);
      main_need = path_need card k.files t (family_paths f) 0 (family_path f 0) book.main_outside book.main_rules book.main all;
      extension_need = path_need card k.files t (family_paths f) 1 (family_path f 1) book.extension_outside book.extension_rules book.extension all;
    }

by_decision : (card : CardState) (k : Kept) (f : ℕ) (e : Edit) (d : Decision) → FilesTrue card k.files → is_one_of f (phonebook ∷ fixed ∷ []) ≡ true → is_planned d ≡ true → Decides k f e d → IsPlanned card k f e d
by_decision card k f e d t one h (elsewhere n) = absurd (true≢false (sym h ∙ n))
by_decision card k f e d t one h (on_files actor q is) = on_card card k f e d actor t one q is

pub planned_true : (s : Script) (card : CardState) (k : Kept) (l : Line) (f : ℕ) (e : Edit) → FilesTrue card k.files → is_one_of f (phonebook ∷ fixed ∷ []) ≡ true → edit_at s l k ≡ Some (f, e) → is_planned (decision_at s l k) ≡ true → IsPlanned card k f e (decision_at s l k)
planned_true s card k l f e t one edit h = by_decision card k f e (decision_at s l k) t one h (line_by k f e s l edit)
