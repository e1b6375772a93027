-- What an edit has to do in a turn whose beginning has done nothing yet.
use Rattle.std.proofs.Common.{◌≡◌, ℕ, ◌&&◌, ◌||◌, not, Bool, true, false, if◌then◌else◌, List, Option, Some, None, is_some, Result, Ok, Err, refl, sym, ap, ◌∙◌, subst, true≢false}
use Rattle.std.specs.Prelude.{is_none, slice_get, option_map}
use Rattle.apdu.specs.Words.{or_else}
use Rattle.script_reader.specs.declared.types.Script.{Script}
use Rattle.script_reader.specs.declared.types.Operation.{Operation}
use Rattle.report.specs.declared.answer.Answer.{Answer}
use Rattle.adn.specs.declared.edit.Edit.{Edit}
use Rattle.adn.specs.declared.edit.Plan.{Plan}
use Rattle.adn.specs.declared.edit.PlanError.{PlanError}
use Rattle.adn.specs.declared.edit.RowUpdate.{RowUpdate}
use Rattle.families.specs.Families.{family_paths, family_path, family_plan}
use Rattle.families.specs.Plans.{plan_updates}
use Rattle.epoch_cache.specs.declared.cached.CachedFile.{CachedFile}
use Rattle.epoch_cache.specs.declared.past.Past.{Past}
use Rattle.epoch_cache.specs.Cache.{first_missing, view_of_files}
use Rattle.editor.specs.declared.editing.Attempt.{Attempt}
use Rattle.editor.specs.declared.editing.Decided.{Decided}
use Rattle.editor.specs.declared.editing.Editing.{Editing}
use Rattle.editor.specs.Editing.{edit_paths, next_update, owed_of, owed_update, planned, update_command, with_attempt}
use Rattle.loader.specs.Load.{selected_first}
use Rattle.rules.specs.declared.kept.Begun.{Begun}
use Rattle.rules.specs.declared.kept.Decision.{Decision}
use Rattle.rules.specs.declared.kept.Kept.{Kept}
use Rattle.rules.specs.declared.kept.Turn.{Turn}
use Rattle.rules.specs.declared.kept.Work.{Work}
use Rattle.rules.specs.declared.kept.Work.TheVariants.{Rests as rests, Refuses as refuses, Lacks as lacks, Reads as reads, Writes as writes}
use Rattle.rules.specs.History.{lives_in}
use Rattle.rules.specs.Kept.{job_of, begun_operation}
use Rattle.rules.specs.Editing.{attempt_of, family_edit, first_lack}
use Rattle.rules.specs.Work.{decides, edit_work, undecided_work, decided_work, attempts, begins_plan, reads_first, is_edit_over, family_of_operation, work_of_operation}
use Rattle.rules.specs.After.{edit_of}
use Rattle.rules.specs.Due.{due, due_answer, first_command, writing_command, with_card, with_ended, is_lost, edit_answer, decided_answer, outcome_answer, planning_answer}
use Rattle.rules.specs.Performed.{ends_turn}
use Rattle.performed.proofs.CalmSends.{never}
use Rattle.performed.proofs.EditsLines.{decides_edit, edit_answers}
use Rattle.performed.proofs.EditsMarks.{card_some}
use Rattle.performed.proofs.EditsPlan.{HasFirst, has_first, next_at}
use Rattle.performed.proofs.EditsScript.{Edits, sets, clears, edits_by}
use Rattle.performed.proofs.ProgressGoes.{RunsAs, first_sent, goes_by_answer, goes_by_command, load_goes, reads_goes}
use Rattle.performed.proofs.ProgressSound.{lives_or_ended}

-- an attempt under way has an update to send, and the end of the epoch of a decided edit was told
pub record IsReady (h : Past) (b : Begun) : Type 0 where
  pub sends : (a : Attempt) → b.editing.attempt ≡ Some a → b.editing.decided ≡ None → lives_in h b.epoch ≡ true → is_some (next_update a) ≡ true
  pub told : is_some b.editing.decided ≡ true → lives_in h b.epoch ≡ false → is_some b.told ≡ true

-- ---- answers

second_some : (o p : Option Answer) → is_some p ≡ true → is_some (or_else o p) ≡ true
second_some None p h = h
second_some (Some x) p h = refl

-- an epoch that does not live has its end
card_ended : (h : Past) (b : Begun) (other : Option Answer) (o : Option ℕ) → lives_or_ended h o b.ended ≡ true → lives_in h o ≡ false → is_some (with_card o b other) ≡ true
card_ended h b other None sound dead = refl
card_ended h b other (Some e) sound dead = by_ended b.ended (is_lost b.ended b.editing.lost) (sym (ap (λ (x : Bool). x || is_some b.ended) dead) ∙ sound)
  where
    by_ended : (o : Option ℕ) (lost : Bool) → is_some o ≡ true → is_some (with_ended e o lost other) ≡ true
    by_ended None lost h2 = never h2
    by_ended (Some n) lost h2 = refl

pub told_done : (b : Begun) (d : Decided) (t : Turn) → is_some b.told ≡ true → is_some (decided_answer b d t) ≡ true
told_done b d t h = by_told b.told h
  where
    by_told : (o : Option ℕ) → is_some o ≡ true → is_some (decided_answer (record b { told = o }) d t) ≡ true
    by_told None q = never q
    by_told (Some n) q = refl

-- ---- commands

sent_some : (selected : Option (List ℕ)) (f : ℕ) (o : Option RowUpdate) → is_some o ≡ true → is_some (option_map (λ u. selected_first selected (family_path f u.file) (update_command u)) o) ≡ true
sent_some selected f None h = never h
sent_some selected f (Some u) h = refl

-- what is still owed is the next update
owed_next : (o : Option Attempt) → is_some (owed_of true o) ≡ true → (a : Attempt) × ((o ≡ Some a) × (is_some (next_update a) ≡ true))
owed_next None h = never h
owed_next (Some a) h = (a, (refl, by_moved a.moved h))
  where
    by_moved : (m : Bool) → is_some (if true && not m then next_update a else None) ≡ true → is_some (next_update a) ≡ true
    by_moved true q = never q
    by_moved false q = q

planned_next : (f : ℕ) (plan : Plan) (paths : List (List ℕ)) → is_some (next_update (planned f plan paths)) ≡ true
planned_next f plan paths =
    let first : HasFirst plan = has_first plan in
    ap is_some (ap (slice_get (plan_updates plan)) (sym first.sent) ∙ next_at plan first.place first.update first.at)

-- the family of an edit that is over
family_is : (b : Begun) (op : Operation) (f : ℕ) (e : Edit) → Edits op f e → is_edit_over b.editing ≡ true → family_of_operation b op ≡ Some f
family_is b op f e (sets at name number is) h = subst (λ (x : Operation). family_of_operation b x ≡ Some f) (sym is) (ap (λ (x : Bool). if x then Some f else None) h)
family_is b op f e (clears at is) h = subst (λ (x : Operation). family_of_operation b x ≡ Some f) (sym is) (ap (λ (x : Bool). if x then Some f else None) h)

-- ---- the edit

module _ (s : Script) (k before : Kept) (actor : ℕ) (b now : Begun) (op : Operation) (r : RunsAs s k before actor b now op) (f : ℕ) (e : Edit) (edits : family_edit op ≡ Some (f, e)) (ready : IsReady before.history b) where
  abbrev Goes : Type 0
  Goes = ends_turn (due s k) ≡ false

  abbrev decision : Decision
  decision = work_of_operation before actor b op

  decided_by : decision ≡ (elim (lives_in before.history b.epoch) [ true ↦ edit_work before actor f e b.editing | false ↦ decides rests ])
  decided_by = decides_edit before actor b (Some op) f e edits

  answer_is : due_answer s k ≡ edit_answer now k.turn now.editing.decided
  answer_is =
      edit_answers s k actor now f e r.turn.actor_is r.begun
      (ap edit_of (sym (ap (begun_operation s actor) r.begun) ∙ r.operation) ∙ edits)

  -- what it decides begins no other attempt
  module _ (d : Decision) (is : decision ≡ d) where
    work_is : k.turn.work ≡ d.work
    work_is = r.work ∙ ap (λ (x : Decision). x.work) is

    editing_is : now.editing ≡ with_attempt d.attempt b.editing
    editing_is = r.editing ∙ ap (λ (x : Decision). with_attempt x.attempt b.editing) is

  write_goes : (a : Attempt) → k.turn.work ≡ writes → now.editing.attempt ≡ Some a → is_some (next_update a) ≡ true → Goes
  write_goes a work there next =
      goes_by_command s k
      (first_sent s k actor r.turn
      ∙ ap (λ (w : Work). is_some (first_command k.selected (job_of actor k.jobs) w)) work
      ∙ ap (λ (o : Option Begun). is_some (writing_command k.selected (attempt_of o))) r.begun
      ∙ ap (λ (o : Option Attempt). is_some (writing_command k.selected o)) there
      ∙ sent_some k.selected a.family (next_update a) next)

  -- ---- no attempt under way

  -- what the plan refuses, or the actor lacks
  planning_goes : (w : Work) → k.turn.work ≡ w → is_some (planning_answer w) ≡ true → now.editing.decided ≡ None → Goes
  planning_goes w work h un =
      goes_by_answer s k
      (ap is_some answer_is
      ∙ ap (λ (o : Option Decided). is_some (edit_answer now k.turn o)) un
      ∙ card_some now.epoch now (or_else (outcome_answer k.turn) (planning_answer k.turn.work)) (second_some (outcome_answer k.turn) (planning_answer k.turn.work) (ap (λ (x : Work). is_some (planning_answer x)) work ∙ h)))

  undecided_now : (d : Decision) → decision ≡ d → d.attempt ≡ None → b.editing.decided ≡ None → now.editing.decided ≡ None
  undecided_now d is none un = ap (λ (x : Editing). x.decided) (editing_is d is ∙ ap (λ (o : Option Attempt). with_attempt o b.editing) none) ∙ un

  lack_goes : (plan : Plan) (paths : List (List ℕ)) (o : Option ℕ) → decision ≡ (elim o [ Some key ↦ decides (lacks key) | None ↦ record { work = writes; attempt = Some (planned f plan paths) } ]) → b.editing.decided ≡ None → Goes
  lack_goes plan paths (Some key) is un = planning_goes (lacks key) (work_is (decides (lacks key)) is) refl (undecided_now (decides (lacks key)) is refl un)
  lack_goes plan paths None is un =
      let d : Decision = record { work = writes; attempt = Some (planned f plan paths) } in
      write_goes (planned f plan paths) (work_is d is) (ap (λ (x : Editing). x.attempt) (editing_is d is)) (planned_next f plan paths)

  plan_goes : (paths : List (List ℕ)) (o : Result Plan PlanError) → decision ≡ (elim o [ Err refusal ↦ decides (refuses refusal) | Ok plan ↦ begins_plan before actor f plan paths ]) → b.editing.decided ≡ None → Goes
  plan_goes paths (Err refusal) is un = planning_goes (refuses refusal) (work_is (decides (refuses refusal)) is) refl (undecided_now (decides (refuses refusal)) is refl un)
  plan_goes paths (Ok plan) is un = lack_goes plan paths (first_lack before.history actor before.sessions before.files f (plan_updates plan)) is un

  -- ---- before the deciding success

  on_goes : (a : Attempt) (x : Bool) → is_some (next_update a) ≡ x → x ≡ true → b.editing.attempt ≡ Some a → decision ≡ decides (if x then writes else rests) → Goes
  on_goes a true next q there is = write_goes a (work_is (decides writes) is) (ap (λ (y : Editing). y.attempt) (editing_is (decides writes) is) ∙ there) next
  on_goes a false next q there is = never q

  attempt_goes : (o : Option Attempt) (paths : List (List ℕ)) → b.editing.attempt ≡ o → lives_in before.history b.epoch ≡ true → decision ≡ attempts before actor f e o paths → b.editing.decided ≡ None → Goes
  attempt_goes (Some a) paths there lives is un = on_goes a (is_some (next_update a)) refl (ready.sends a there un lives) there is
  attempt_goes None paths there lives is un = plan_goes paths (family_plan f e (view_of_files before.files)) is un

  missing_goes : (o : Option (List ℕ)) → lives_in before.history b.epoch ≡ true → decision ≡ (elim o [ Some path ↦ decides (reads path) | None ↦ attempts before actor f e b.editing.attempt (edit_paths before.files f) ]) → b.editing.decided ≡ None → Goes
  missing_goes (Some path) lives is un = reads_goes s k actor r.turn path (work_is (decides (reads path)) is)
  missing_goes None lives is un = attempt_goes b.editing.attempt (edit_paths before.files f) refl lives is un

  -- ---- behind it

  owed_goes : (x : Bool) → is_some (owed_update true b.editing) ≡ x → is_some b.editing.decided ≡ true → lives_in before.history b.epoch ≡ true → decision ≡ decides (if x then writes else reads_first before.files (family_paths f)) → Goes
  owed_goes true owed d lives is =
      let q = owed_next b.editing.attempt owed in
      write_goes q.0 (work_is (decides writes) is) (ap (λ (y : Editing). y.attempt) (editing_is (decides writes) is) ∙ q.1.0) q.1.1
  owed_goes false owed d lives is =
      load_goes s k actor r.turn f
      (work_is (decides (reads_first before.files (family_paths f))) is ∙ ap (λ (fs : List CachedFile). reads_first fs (family_paths f)) (sym r.files))
      (r.family ∙ ap (λ (x : Bool). if x then family_of_operation b op else None) lives ∙ family_is b op f e (edits_by op f e edits) finished)
    where
      none_owed : (o : Option RowUpdate) → is_some o ≡ false → is_none o ≡ true
      none_owed None z = refl
      none_owed (Some u) z = absurd (true≢false z)

      finished : is_edit_over b.editing ≡ true
      finished = ap (λ (x : Bool). x && is_none (owed_update true b.editing)) d ∙ none_owed (owed_update true b.editing) owed

  -- ---- all of it

  living_goes : (o : Option Decided) → b.editing.decided ≡ o → lives_in before.history b.epoch ≡ true → decision ≡ (elim o [ None ↦ undecided_work before actor f e b.editing.attempt | Some d ↦ decides (decided_work before f b.editing) ]) → Goes
  living_goes None un lives is = missing_goes (first_missing before.files (edit_paths before.files f)) lives is un
  living_goes (Some d) un lives is = owed_goes (is_some (owed_update true b.editing)) refl (ap is_some un) lives is

  resting_goes : (o : Option Decided) → b.editing.decided ≡ o → now.editing.decided ≡ o → lives_in before.history b.epoch ≡ false → Goes
  resting_goes None un same dead =
      goes_by_answer s k
      (ap is_some answer_is
      ∙ ap (λ (x : Option Decided). is_some (edit_answer now k.turn x)) same
      ∙ card_ended before.history now (or_else (outcome_answer k.turn) (planning_answer k.turn.work)) now.epoch r.lives (ap (lives_in before.history) r.epoch ∙ dead))
  resting_goes (Some d) un same dead =
      goes_by_answer s k
      (ap is_some answer_is
      ∙ ap (λ (x : Option Decided). is_some (edit_answer now k.turn x)) same
      ∙ told_done now d k.turn (ap is_some r.told ∙ ready.told (ap is_some un) dead))

  by_life : (x : Bool) → lives_in before.history b.epoch ≡ x → decision ≡ (elim x [ true ↦ edit_work before actor f e b.editing | false ↦ decides rests ]) → Goes
  by_life true lives is = living_goes b.editing.decided refl lives is
  by_life false lives is = resting_goes b.editing.decided refl (ap (λ (y : Editing). y.decided) (editing_is (decides rests) is)) lives

  pub edit_goes : Goes
  edit_goes = by_life (lives_in before.history b.epoch) refl decided_by
