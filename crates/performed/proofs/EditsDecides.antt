-- What a turn of an edit decides: it reads, writes, refuses its plan, lacks a key, or rests.
use Rattle.std.proofs.Common.{◌≡◌, ℕ, not, Bool, true, false, if◌then◌else◌, Option, Some, None, is_some, Result, Ok, Err, List, [], ◌∷◌, refl, subst}
use Rattle.std.proofs.lemmas.Bool.{and_from}
use Rattle.script_reader.specs.declared.types.Operation.{Operation}
use Rattle.script_reader.specs.declared.types.Operation.TheVariants as operation
use Rattle.adn.specs.declared.edit.Edit.{Edit}
use Rattle.adn.specs.declared.edit.Plan.{Plan}
use Rattle.adn.specs.declared.edit.PlanError.{PlanError}
use Rattle.families.specs.Families.{family_paths, family_plan}
use Rattle.families.specs.Plans.{plan_updates}
use Rattle.epoch_cache.specs.declared.cached.CachedFile.{CachedFile}
use Rattle.epoch_cache.specs.Cache.{all_current, first_missing, is_current, view_of_files}
use Rattle.editor.specs.declared.editing.Attempt.{Attempt}
use Rattle.editor.specs.declared.editing.Decided.{Decided}
use Rattle.editor.specs.declared.editing.Editing.{Editing}
use Rattle.editor.specs.Editing.{next_update, planned, edit_paths, owed_update}
use Rattle.rules.specs.declared.kept.Begun.{Begun}
use Rattle.rules.specs.declared.kept.Decision.{Decision}
use Rattle.rules.specs.declared.kept.Kept.{Kept}
use Rattle.rules.specs.declared.kept.Work.{Work}
use Rattle.rules.specs.declared.kept.Work.TheVariants.{Rests as rests, Refuses as refuses, Lacks as lacks, Reads as reads, Writes as writes}
use Rattle.rules.specs.History.{lives_in}
use Rattle.rules.specs.Editing.{family_edit, first_lack}
use Rattle.rules.specs.Work.{decides, reads_first, begins_plan, attempts, undecided_work, decided_work, edit_work, work_of_edit, work_of_operation}
use Rattle.rules.specs.After.{decision_of_begun}

-- no path is missing: all are current
present_or : (path : List ℕ) (rest : Option (List ℕ)) (b : Bool) → (if not b then Some path else rest) ≡ None → (b ≡ true) × (rest ≡ None)
present_or path rest true h = (refl, h)
present_or path rest false h = absurd (cc)

pub none_missing : (files : List CachedFile) (paths : List (List ℕ)) → first_missing files paths ≡ None → all_current files paths ≡ true
none_missing files [] h = refl
none_missing files (path ∷ paths) h =
    let q = present_or path (first_missing files paths) (is_current files path) h in
    and_from (is_current files path) (all_current files paths) q.0 (none_missing files paths q.1)

-- what holds of each of these holds of the work that an edit decides
pub record OfEdits (P : Work → Type 0) : Type 0 where
  pub writing : P writes
  pub reading : (path : List ℕ) → P (reads path)
  pub resting : P rests
  pub lacking : (key : ℕ) → P (lacks key)
  pub refusing : (refusal : PlanError) → P (refuses refusal)

module _ (P : Work → Type 0) (t : OfEdits P) (k : Kept) (actor : ℕ) where
  abbrev Passes : Decision → Type 0
  Passes d = P d.work

  begins_pass : (f : ℕ) (plan : Plan) (paths : List (List ℕ)) (o : Option ℕ) → Passes (elim o [ Some key ↦ decides (lacks key) | None ↦ record { work = writes; attempt = Some (planned f plan paths) } ])
  begins_pass f plan paths None = t.writing
  begins_pass f plan paths (Some key) = t.lacking key

  plans_pass : (f : ℕ) (paths : List (List ℕ)) (r : Result Plan PlanError) → Passes (elim r [ Err refusal ↦ decides (refuses refusal) | Ok plan ↦ begins_plan k actor f plan paths ])
  plans_pass f paths (Err refusal) = t.refusing refusal
  plans_pass f paths (Ok plan) = begins_pass f plan paths (first_lack k.history actor k.sessions k.files f (plan_updates plan))

  goes_pass : (b : Bool) → Passes (decides (if b then writes else rests))
  goes_pass true = t.writing
  goes_pass false = t.resting

  attempts_pass : (f : ℕ) (e : Edit) (a : Option Attempt) (paths : List (List ℕ)) → Passes (attempts k actor f e a paths)
  attempts_pass f e (Some a) paths = goes_pass (is_some (next_update a))
  attempts_pass f e None paths = plans_pass f paths (family_plan f e (view_of_files k.files))

  undecided_passes : (f : ℕ) (e : Edit) (a : Option Attempt) (o : Option (List ℕ)) → Passes (elim o [ Some path ↦ decides (reads path) | None ↦ attempts k actor f e a (edit_paths k.files f) ])
  undecided_passes f e a None = attempts_pass f e a (edit_paths k.files f)
  undecided_passes f e a (Some path) = t.reading path

  reads_by : (o : Option (List ℕ)) → P (elim o [ None ↦ rests | Some path ↦ reads path ])
  reads_by None = t.resting
  reads_by (Some path) = t.reading path

  pub reads_pass : (files : List CachedFile) (paths : List (List ℕ)) → P (reads_first files paths)
  reads_pass files paths = reads_by (first_missing files paths)

  decided_passes : (f : ℕ) (b : Bool) → Passes (decides (if b then writes else reads_first k.files (family_paths f)))
  decided_passes f true = t.writing
  decided_passes f false = reads_pass k.files (family_paths f)

  edit_passes : (f : ℕ) (e : Edit) (editing : Editing) (o : Option Decided) → Passes (elim o [ None ↦ undecided_work k actor f e editing.attempt | Some d ↦ decides (decided_work k f editing) ])
  edit_passes f e editing None = undecided_passes f e editing.attempt (first_missing k.files (edit_paths k.files f))
  edit_passes f e editing (Some d) = decided_passes f (is_some (owed_update true editing))

  living_passes : (f : ℕ) (e : Edit) (editing : Editing) (b : Bool) → Passes (elim b [ true ↦ edit_work k actor f e editing | false ↦ decides rests ])
  living_passes f e editing true = edit_passes f e editing editing.decided
  living_passes f e editing false = t.resting

  pub work_passes : (b : Begun) (o : Option (ℕ × Edit)) → Passes (work_of_edit k actor b o)
  work_passes b None = t.resting
  work_passes b (Some (f, e)) = living_passes f e b.editing (lives_in k.history b.epoch)

-- ---- an attempt that begins

-- it is made of the plan for the files as they are kept, where all paths of the edit are current
pub record IsMade (k : Kept) (x : Attempt) : Type 0 where
  pub family : ℕ
  pub edit : Edit
  pub plan : family_plan family edit (view_of_files k.files) ≡ Ok x.plan
  pub current : all_current k.files x.paths ≡ true
  pub unsent : x.sent ≡ 0

abbrev Makes : Kept → Decision → Type 0
Makes k d = (x : Attempt) → d.attempt ≡ Some x → IsMade k x

module _ (k : Kept) (a f : ℕ) (e : Edit) where
  begins_made : (plan : Plan) (list : List (List ℕ)) (o : Option ℕ) → family_plan f e (view_of_files k.files) ≡ Ok plan → all_current k.files list ≡ true → Makes k (elim o [ Some key ↦ decides (lacks key) | None ↦ record { work = writes; attempt = Some (planned f plan list) } ])
  begins_made plan list (Some key) is all x h = absurd (cc)
  begins_made plan list None is all x h =
      let same : planned f plan list ≡ x = cc in
      subst (IsMade k) same (record { family = f; edit = e; plan = is; current = all; unsent = refl })

  plans_made : (list : List (List ℕ)) (r : Result Plan PlanError) → family_plan f e (view_of_files k.files) ≡ r → all_current k.files list ≡ true → Makes k (elim r [ Err refusal ↦ decides (refuses refusal) | Ok plan ↦ begins_plan k a f plan list ])
  plans_made list (Err refusal) is all x h = absurd (cc)
  plans_made list (Ok plan) is all x h = begins_made plan list (first_lack k.history a k.sessions k.files f (plan_updates plan)) is all x h

  attempts_made : (o : Option Attempt) (list : List (List ℕ)) → all_current k.files list ≡ true → Makes k (attempts k a f e o list)
  attempts_made (Some y) list all x h = absurd (cc)
  attempts_made None list all x h = plans_made list (family_plan f e (view_of_files k.files)) refl all x h

  undecided_made : (y : Option Attempt) (list : List (List ℕ)) (o : Option (List ℕ)) → first_missing k.files list ≡ o → Makes k (elim o [ Some path ↦ decides (reads path) | None ↦ attempts k a f e y list ])
  undecided_made y list (Some path) is x h = absurd (cc)
  undecided_made y list None is x h = attempts_made y list (none_missing k.files list is) x h

  edit_made : (editing : Editing) (o : Option Decided) → Makes k (elim o [ None ↦ undecided_work k a f e editing.attempt | Some d ↦ decides (decided_work k f editing) ])
  edit_made editing None x h = undecided_made editing.attempt (edit_paths k.files f) (first_missing k.files (edit_paths k.files f)) refl x h
  edit_made editing (Some d) x h = absurd (cc)

  living_made : (editing : Editing) (b : Bool) → Makes k (elim b [ true ↦ edit_work k a f e editing | false ↦ decides rests ])
  living_made editing true x h = edit_made editing editing.decided x h
  living_made editing false x h = absurd (cc)

edits_made : (k : Kept) (a : ℕ) (b : Begun) (o : Option (ℕ × Edit)) → Makes k (work_of_edit k a b o)
edits_made k a b None x h = absurd (cc)
edits_made k a b (Some (f, e)) x h = living_made k a f e b.editing (lives_in k.history b.epoch) x h

operation_made : (k : Kept) (a : ℕ) (b : Begun) (op : Operation) → Makes k (work_of_operation k a b op)
operation_made k a b (operation.Set g at name number) x h = edits_made k a b (family_edit (operation.Set g at name number)) x h
operation_made k a b (operation.Clear g at) x h = edits_made k a b (family_edit (operation.Clear g at)) x h
operation_made k a b (operation.Insert card) x h = absurd (cc)
operation_made k a b operation.Out x h = absurd (cc)
operation_made k a b (operation.Arm change) x h = absurd (cc)
operation_made k a b (operation.Load g) x h = absurd (cc)
operation_made k a b (operation.OpenChannel handle aid) x h = absurd (cc)
operation_made k a b (operation.Raw handle apdu) x h = absurd (cc)
operation_made k a b (operation.Close handle) x h = absurd (cc)
operation_made k a b (operation.Verify key pin) x h = absurd (cc)
operation_made k a b (operation.End key) x h = absurd (cc)
operation_made k a b operation.Poll x h = absurd (cc)
operation_made k a b operation.Look x h = absurd (cc)
operation_made k a b (operation.Watch mask) x h = absurd (cc)
operation_made k a b operation.Notices x h = absurd (cc)

pub begun_made : (k : Kept) (a : ℕ) (b : Option Begun) (o : Option Operation) (x : Attempt) → (decision_of_begun k a b o).attempt ≡ Some x → IsMade k x
begun_made k a (Some b) (Some op) x h = operation_made k a b op x h
begun_made k a (Some b) None x h = absurd (cc)
begun_made k a None o x h = absurd (cc)
