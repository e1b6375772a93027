-- How far an edit is where its turn begins, and what that turn has to write.
use Rattle.std.proofs.Common.{◌≡◌, ◌⊎◌, inl, inr, ℕ, Bool, true, false, if◌then◌else◌, Option, Some, None, is_some, Result, Ok, Err, List, [], ◌∷◌, refl, sym, ap, ◌∙◌, subst, true≢false}
use Rattle.std.specs.Prelude.{slice_get, option_map}
use Rattle.std.specs.List.{filter_map}
use Rattle.apdu.specs.Words.{or_else}
use Rattle.fcp.specs.declared.rule.Need.{Need}
use Rattle.card_model.specs.declared.world.CardState.{CardState}
use Rattle.card_model.specs.declared.world.World.{World}
use Rattle.card_model.specs.Step.{card_inside}
use Rattle.script_reader.specs.declared.types.Script.{Script}
use Rattle.report.specs.declared.answer.Answer.{Answer}
use Rattle.adn.specs.declared.edit.Edit.{Edit}
use Rattle.adn.specs.declared.edit.RowUpdate.{RowUpdate}
use Rattle.adn.specs.declared.edit.Plan.{Plan}
use Rattle.adn.specs.declared.edit.PlanError.{PlanError}
use Rattle.families.specs.Families.{family_path, family_paths, family_plan}
use Rattle.families.specs.Plans.{plan_edit, plan_updates}
use Rattle.epoch_cache.specs.Cache.{first_missing, view_of_files}
use Rattle.editor.specs.declared.editing.Attempt.{Attempt}
use Rattle.editor.specs.declared.editing.Decided.{Decided}
use Rattle.editor.specs.declared.editing.Editing.{Editing}
use Rattle.editor.specs.Editing.{next_update, planned, edit_paths, rule_path, owed_update, update_need, card_need, with_attempt}
use Rattle.rules.specs.declared.kept.Begun.{Begun}
use Rattle.rules.specs.declared.kept.Decision.{Decision}
use Rattle.rules.specs.declared.kept.Kept.{Kept}
use Rattle.rules.specs.declared.kept.Outcome.{Outcome}
use Rattle.rules.specs.declared.kept.Stage.TheVariants.{Fresh as fresh}
use Rattle.rules.specs.declared.kept.Work.{Work}
use Rattle.rules.specs.declared.kept.Work.TheVariants.{Rests as rests, Refuses as refuses, Lacks as lacks, Sends as sends, Reads as reads, Writes as writes, Resets as resets, Happens as happens}
use Rattle.rules.specs.History.{lives_in}
use Rattle.rules.specs.Editing.{lacks_for, first_lack}
use Rattle.rules.specs.Sessions.{lacking_key}
use Rattle.rules.specs.Kept.{begun_of, operation_at}
use Rattle.rules.specs.Work.{decides, reads_first, begins_plan, attempts, undecided_work, decided_work, edit_work}
use Rattle.rules.specs.After.{edit_of}
use Rattle.rules.specs.Agreement.{IsPlanned, is_planned}
use Rattle.rules.specs.Due.{with_card, with_ended, is_lost, edit_answer, outcome_answer, answer_of_outcome, planning_answer}
use Rattle.rules.specs.State.{content_on}
use Rattle.performed.proofs.CalmSends.{never}
use Rattle.performed.proofs.EditsPlan.{next_at, HasFirst, has_first, plan_files}
use Rattle.performed.proofs.EditsSends.{is_book}
use Rattle.performed.proofs.EditsSteps.{file_of_place}
use Rattle.performed.proofs.EditsState.{files_in, is_over, IsFresh, IsWriting, EditAt, unplanned, writing, refused, finished, past, begins, Allowed, IsActive}
use Rattle.performed.proofs.EpochPast.{IsPast, past_dead}

-- ---- an edit that was refused owes an answer

pub card_some : (epoch : Option ℕ) (b : Begun) (o : Option Answer) → is_some o ≡ true → is_some (with_card epoch b o) ≡ true
card_some None b o h = refl
card_some (Some epoch) b o h = by_ended b.ended (is_lost b.ended b.editing.lost)
  where
    by_ended : (x : Option ℕ) (lost : Bool) → is_some (with_ended epoch x lost o) ≡ true
    by_ended None lost = h
    by_ended (Some n) lost = refl

or_some : (o p : Option Answer) → is_some o ≡ true → is_some (or_else o p) ≡ true
or_some None p h = never h
or_some (Some x) p h = refl

came_some : (o : Option Outcome) → is_some o ≡ true → is_some (option_map answer_of_outcome o) ≡ true
came_some None h = never h
came_some (Some x) h = refl

pub refused_answers : (k : Kept) (b : Begun) → b.editing.decided ≡ None → is_some k.turn.outcome ≡ true → is_some (edit_answer b k.turn b.editing.decided) ≡ true
refused_answers k b d h =
    ap (λ (o : Option Decided). is_some (edit_answer b k.turn o)) d
    ∙ card_some b.epoch b (or_else (outcome_answer k.turn) (planning_answer k.turn.work)) (or_some (outcome_answer k.turn) (planning_answer k.turn.work) (came_some k.turn.outcome h))

-- ---- the first update of a plan

first_lacks : (k : Kept) (i f : ℕ) (u : RowUpdate) (us : List RowUpdate) → first_lack k.history i k.sessions k.files f (u ∷ us) ≡ None → lacks_for k.history i k.sessions k.files f u ≡ None
first_lacks k i f u us h = by_key (lacks_for k.history i k.sessions k.files f u) h
  where
    by_key : (o : Option ℕ) → elim o as (λ x. Option ℕ) [ Some key ↦ Some key | None ↦ first_lack k.history i k.sessions k.files f us ] ≡ None → o ≡ None
    by_key None q = refl
    by_key (Some key) q = absurd (cc)

list_lacks : (k : Kept) (i f : ℕ) (u : RowUpdate) (us : List RowUpdate) → slice_get us 0 ≡ Some u → first_lack k.history i k.sessions k.files f us ≡ None → lacks_for k.history i k.sessions k.files f u ≡ None
list_lacks k i f u [] e h = absurd (cc)
list_lacks k i f u (x ∷ us) e h = let same : x ≡ u = cc in subst (λ (y : RowUpdate). lacks_for k.history i k.sessions k.files f y ≡ None) same (first_lacks k i f x us h)

plan_lacks : (k : Kept) (i f : ℕ) (p : Plan) (t : HasFirst p) → first_lack k.history i k.sessions k.files f (plan_updates p) ≡ None → lacks_for k.history i k.sessions k.files f t.update ≡ None
plan_lacks k i f p t h = list_lacks k i f t.update (plan_updates p) (ap (slice_get (plan_updates p)) (sym t.sent) ∙ next_at p t.place t.update t.at) h

-- ---- a turn that begins

abbrev is_writing : Work → Bool
is_writing writes = true
is_writing rests = false
is_writing (refuses r) = false
is_writing (lacks key) = false
is_writing (sends c) = false
is_writing (reads path) = false
is_writing resets = false
is_writing (happens event) = false

-- what is kept behind its first line
pub record IsBegun (s : Script) (w : World) (k new : Kept) (i f : ℕ) (e : Edit) (d : Decision) (old : Editing) (epoch : Option ℕ) (now : Begun) : Type 0 where
  pub actor : new.turn.actor ≡ Some i
  pub stage : new.turn.stage ≡ fresh
  pub chain : new.chain ≡ None
  pub came : new.turn.outcome ≡ None
  pub unsent : new.turn.updated ≡ false
  pub work : new.turn.work ≡ d.work
  pub lives : (o : Option ℕ) → lives_in new.history o ≡ lives_in k.history o
  pub over : (o : Option ℕ) → IsPast k.history o → IsPast new.history o
  pub lacks : (need : Need) → lacking_key new.history i new.sessions need ≡ lacking_key k.history i k.sessions need
  pub here : begun_of i new.jobs ≡ Some now
  pub editing : now.editing ≡ with_attempt d.attempt old
  pub since : now.epoch ≡ epoch
  pub op : edit_of (operation_at s i now.index) ≡ Some (f, e)
  pub decides : d ≡ elim (lives_in k.history epoch) [ true ↦ edit_work k i f e old | false ↦ decides rests ]
  pub planned : (card : CardState) → card_inside w ≡ Some card → is_planned d ≡ true → IsPlanned card k f e d
  pub inside : lives_in k.history epoch ≡ true → (card : CardState) × (card_inside w ≡ Some card)
  pub before : EditAt w k i f e epoch old
  pub unrefused : old.decided ≡ None → k.turn.actor ≡ Some i → is_some k.turn.outcome ≡ true → ⊥
  pub unfresh : IsFresh k.turn i → ⊥

module _ (s : Script) (w : World) (k new : Kept) (i f : ℕ) (e : Edit) (book : is_book f ≡ true) (d : Decision) (old : Editing) (epoch : Option ℕ) (now : Begun) (t : IsBegun s w k new i f e d old epoch now) where
  abbrev AtNew : Editing → Type 0
  AtNew editing = EditAt w new i f e epoch editing

  -- what it comes to
  pub record Begins : Type 0 where
    pub edit : EditAt w new i f e now.epoch now.editing
    pub active : d.work ≡ writes → IsActive s w new

  still_writing : (decided : Option Decided) (a : Attempt) → IsWriting w k i f e epoch decided a → IsWriting w new i f e epoch decided a
  still_writing decided a q = record {
    family = q.family;
    rest = q.rest;
    paths = q.paths;
    still = q.still;
    lives = t.lives epoch ∙ q.lives;
    place = q.place;
    update = q.update;
    at = q.at;
    sent = q.sent;
    behind = q.behind;
    old = q.old;
    plan = q.plan;
    now = q.now;
    fresh = λ h. absurd (t.unfresh (q.fresh h));
  }

  still_at : AtNew old
  still_at = by_edit t.before
    where
      by_edit : EditAt w k i f e epoch old → AtNew old
      by_edit (unplanned a x) = unplanned a x
      by_edit (writing a h q) = writing a h (still_writing old.decided a q)
      by_edit (refused x actor came) = absurd (t.unrefused x actor came)
      by_edit (finished x lives owed) = finished x (t.lives epoch ∙ lives) owed
      by_edit (past x) = past (t.over epoch x)

  -- no attempt begins
  editing_same : d.attempt ≡ None → now.editing ≡ old
  editing_same h = t.editing ∙ ap (λ (o : Option Attempt). with_attempt o old) h

  same_edit : d.attempt ≡ None → EditAt w new i f e now.epoch now.editing
  same_edit h = subst (λ (o : Option ℕ). EditAt w new i f e o now.editing) (sym t.since) (subst AtNew (sym (editing_same h)) still_at)

  no_writes : {X : Type 0} (work : Work) → d.work ≡ work → is_writing work ≡ false → d.work ≡ writes → X
  no_writes work e n h = absurd (true≢false (sym (ap is_writing h) ∙ ap is_writing e ∙ n))

  resting : (work : Work) → d ≡ decides work → is_writing work ≡ false → Begins
  resting work e n = record { edit = same_edit (ap (λ (x : Decision). x.attempt) e); active = no_writes work (ap (λ (x : Decision). x.work) e) n }

  -- an attempt under way goes on
  active_old : d.attempt ≡ None → (a : Attempt) → old.attempt ≡ Some a → IsWriting w k i f e epoch old.decided a → IsActive s w new
  active_old none a h q =
      let same : now.editing ≡ old = editing_same none in
      let write : IsWriting w new i f e now.epoch now.editing.decided a = subst (λ (o : Option ℕ). IsWriting w new i f e o now.editing.decided a) (sym t.since) (subst (λ (x : Editing). IsWriting w new i f e epoch x.decided a) (sym same) (still_writing old.decided a q)) in
      record {
        who = i;
        actor = t.actor;
        begun = now;
        here = t.here;
        family = f;
        edit = e;
        op = t.op;
        attempt = a;
        there = ap (λ (x : Editing). x.attempt) same ∙ h;
        write = write;
        came = t.came;
        unsent = t.unsent;
        allowed = λ z. absurd (t.unfresh (q.fresh z));
        phase = begins t.stage t.chain;
      }

  reading_by : (o : Option (List ℕ)) → d ≡ decides (elim o [ None ↦ rests | Some p ↦ reads p ]) → Begins
  reading_by None x = resting rests x refl
  reading_by (Some p) x = resting (reads p) x refl

  -- ---- behind the deciding success

  owed_by : (b : Bool) → is_some (owed_update true old) ≡ b → is_some old.decided ≡ true → lives_in k.history epoch ≡ true → d ≡ decides (if b then writes else reads_first k.files (family_paths f)) → Begins
  owed_by false o dec living x = reading_by (first_missing k.files (family_paths f)) x
  owed_by true o dec living x = record { edit = same_edit (ap (λ (y : Decision). y.attempt) x); active = λ q. by_edit t.before }
    where
      by_edit : EditAt w k i f e epoch old → IsActive s w new
      by_edit (unplanned z n) = never (sym (ap is_some n) ∙ dec)
      by_edit (writing z y q) = active_old (ap (λ (y : Decision). y.attempt) x) z y q
      by_edit (refused z actor came) = absurd (t.unrefused z actor came)
      by_edit (finished z lives owed) = never (sym (ap is_some owed) ∙ o)
      by_edit (past z) = never (sym (past_dead k.history epoch z) ∙ living)

  -- ---- before it

  module _ (none : old.decided ≡ None) where
    goes_by : (a : Attempt) → old.attempt ≡ Some a → lives_in k.history epoch ≡ true → (b : Bool) → d ≡ decides (if b then writes else rests) → Begins
    goes_by a h living true x = record { edit = same_edit (ap (λ (y : Decision). y.attempt) x); active = λ q. by_edit t.before }
      where
        by_edit : EditAt w k i f e epoch old → IsActive s w new
        by_edit (unplanned z n) = absurd (let q : Some a ≡ None = sym h ∙ z in cc)
        by_edit (writing z y q) = active_old (ap (λ (y : Decision). y.attempt) x) z y q
        by_edit (refused z actor came) = absurd (t.unrefused z actor came)
        by_edit (finished z lives owed) = never (sym (ap is_some none) ∙ z)
        by_edit (past z) = never (sym (past_dead k.history epoch z) ∙ living)
    goes_by a h living false x = resting rests x refl

    module _ (plan : Plan) (living : lives_in k.history epoch ≡ true) (x : d ≡ record { work = writes; attempt = Some (planned f plan (edit_paths k.files f)) }) (lack : first_lack k.history i k.sessions k.files f (plan_updates plan) ≡ None) where
      abbrev made : Attempt
      made = planned f plan (edit_paths k.files f)

      abbrev first : HasFirst plan
      first = has_first plan

      card_is : (card : CardState) × (card_inside w ≡ Some card)
      card_is = t.inside living

      for_card : IsPlanned card_is.0 k f e d
      for_card = t.planned card_is.0 card_is.1 (ap is_planned x)

      plan_is : plan_edit e (files_in w f).main (files_in w f).ext ≡ Ok plan
      plan_is =
          ap (λ (o : Option CardState). plan_edit e (content_on o (family_path f 0)) (content_on o (family_path f 1))) card_is.1
          ∙ for_card.plan made (ap (λ (y : Decision). y.attempt) x)

      file : (first.update.file ≡ 0) ⊎ (first.update.file ≡ 1)
      file = file_of_place e (files_in w f) plan (plan_files e (files_in w f).main (files_in w f).ext plan plan_is) first.place first.update first.at

      need_is : update_need k.files (family_path f first.update.file) ≡ card_need card_is.0 (family_path f first.update.file)
      need_is = by_file file
        where
          by_file : (first.update.file ≡ 0) ⊎ (first.update.file ≡ 1) → update_need k.files (family_path f first.update.file) ≡ card_need card_is.0 (family_path f first.update.file)
          by_file (inl n) = subst (λ (m : ℕ). update_need k.files (family_path f m) ≡ card_need card_is.0 (family_path f m)) (sym n) for_card.main_need
          by_file (inr n) = subst (λ (m : ℕ). update_need k.files (family_path f m) ≡ card_need card_is.0 (family_path f m)) (sym n) for_card.extension_need

      begun_work : new.turn.work ≡ writes
      begun_work = t.work ∙ ap (λ (y : Decision). y.work) x

      editing_is : now.editing ≡ record old { attempt = Some made }
      editing_is = t.editing ∙ ap (λ (y : Decision). with_attempt y.attempt old) x

      abbrev plan_writing : (decided : Option Decided) → decided ≡ None → IsWriting w new i f e now.epoch decided made
      plan_writing decided un = record {
        family = refl;
        rest = filter_map (rule_path k.files) (family_paths f);
        paths = refl;
        still = refl;
        lives = t.lives now.epoch ∙ ap (lives_in k.history) t.since ∙ living;
        place = first.place;
        update = first.update;
        at = first.at;
        sent = sym first.sent;
        behind = ap is_some un ∙ sym first.undecided;
        old = files_in w f;
        plan = plan_is;
        now = sym (first.files (files_in w f));
        fresh = λ z. record { actor = t.actor; work = begun_work; goes = ap is_over t.stage };
      }

      decided_none : now.editing.decided ≡ None
      decided_none = ap (λ (y : Editing). y.decided) editing_is ∙ none

      attempt_is : now.editing.attempt ≡ Some made
      attempt_is = ap (λ (y : Editing). y.attempt) editing_is

      plan_allowed : Allowed w new i (family_path f first.update.file)
      plan_allowed card inside =
          let same : Some card ≡ Some card_is.0 = sym inside ∙ card_is.1 in
          let is : card ≡ card_is.0 = cc in
          t.lacks (card_need card (family_path f first.update.file))
          ∙ ap (λ (y : CardState). lacking_key k.history i k.sessions (card_need y (family_path f first.update.file))) is
          ∙ ap (lacking_key k.history i k.sessions) (sym need_is)
          ∙ plan_lacks k i f plan first lack

      planned_begins : Begins
      planned_begins = record {
        edit = writing made attempt_is (plan_writing now.editing.decided decided_none);
        active = λ q. record {
          who = i;
          actor = t.actor;
          begun = now;
          here = t.here;
          family = f;
          edit = e;
          op = t.op;
          attempt = made;
          there = attempt_is;
          write = plan_writing now.editing.decided decided_none;
          came = t.came;
          unsent = t.unsent;
          allowed = λ z. plan_allowed;
          phase = begins t.stage t.chain;
        };
      }

    begins_by : (plan : Plan) (o : Option ℕ) → first_lack k.history i k.sessions k.files f (plan_updates plan) ≡ o → lives_in k.history epoch ≡ true → d ≡ elim o [ Some key ↦ decides (lacks key) | None ↦ record { work = writes; attempt = Some (planned f plan (edit_paths k.files f)) } ] → Begins
    begins_by plan (Some key) lack living x = resting (lacks key) x refl
    begins_by plan None lack living x = planned_begins plan living x lack

    plans_by : (r : Result Plan PlanError) → lives_in k.history epoch ≡ true → d ≡ elim r [ Err refusal ↦ decides (refuses refusal) | Ok plan ↦ begins_plan k i f plan (edit_paths k.files f) ] → Begins
    plans_by (Err refusal) living x = resting (refuses refusal) x refl
    plans_by (Ok plan) living x = begins_by plan (first_lack k.history i k.sessions k.files f (plan_updates plan)) refl living x

    attempts_by : (o : Option Attempt) → old.attempt ≡ o → lives_in k.history epoch ≡ true → d ≡ attempts k i f e o (edit_paths k.files f) → Begins
    attempts_by (Some a) h living x = goes_by a h living (is_some (next_update a)) x
    attempts_by None h living x = plans_by (family_plan f e (view_of_files k.files)) living x

    missing_by : (o : Option (List ℕ)) → lives_in k.history epoch ≡ true → d ≡ elim o [ Some p ↦ decides (reads p) | None ↦ attempts k i f e old.attempt (edit_paths k.files f) ] → Begins
    missing_by (Some p) living x = resting (reads p) x refl
    missing_by None living x = attempts_by old.attempt refl living x

  decided_by : (o : Option Decided) → old.decided ≡ o → lives_in k.history epoch ≡ true → d ≡ elim o [ None ↦ undecided_work k i f e old.attempt | Some q ↦ decides (decided_work k f old) ] → Begins
  decided_by None h living x = missing_by h (first_missing k.files (edit_paths k.files f)) living x
  decided_by (Some q) h living x = owed_by (is_some (owed_update true old)) refl (ap is_some h) living x

  living_by : (b : Bool) → lives_in k.history epoch ≡ b → d ≡ elim b [ true ↦ edit_work k i f e old | false ↦ decides rests ] → Begins
  living_by true h x = decided_by old.decided refl h x
  living_by false h x = resting rests x refl

  -- how far the edit is where its turn begins, and what its turn has to write
  pub turn_begins : Begins
  turn_begins = living_by (lives_in k.history epoch) refl t.decides
