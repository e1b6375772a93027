-- How far each edit is behind an exchange and behind every other line.
use Rattle.std.proofs.Common.{◌≡◌, ◌⊎◌, inl, inr, ℕ, suc, ◌==◌, ◌&&◌, ◌||◌, not, Bool, true, false, if◌then◌else◌, Option, Some, None, is_some, List, ◌++◌, refl, sym, ap, ◌∙◌, subst, arith, true≢false}
use Rattle.std.proofs.lemmas.Bool.{and_parts, eqb-true}
use Rattle.apdu.specs.Values.{CommandValue, ResponseValue}
use Rattle.apdu.specs.Words.{has_value}
use Rattle.apdu.specs.Apdu.{same_command, is_update_ins}
use Rattle.card_effects.specs.Basic.{HasCurrent}
use Rattle.card_model.specs.declared.world.World.{World}
use Rattle.card_model.specs.Step.{step}
use Rattle.script_reader.specs.declared.types.Script.{Script}
use Rattle.script_reader.specs.declared.types.Operation.{Operation}
use Rattle.script_reader.specs.declared.types.Operation.TheVariants as operation
use Rattle.script_reader.specs.Rules.{keeps_rules}
use Rattle.report.specs.declared.line.Line.{Line}
use Rattle.report.specs.declared.line.Line.TheVariants as line
use Rattle.adn.specs.declared.edit.Edit.{Edit}
use Rattle.families.specs.Families.{family_path, family_paths}
use Rattle.epoch_cache.specs.declared.past.Past.{Past}
use Rattle.rules.specs.Channels.{held_numbers}
use Rattle.epoch_cache.specs.Cache.{is_update, is_moved, is_moved_by, moves_one, touch_exchanged, is_raw_write, is_row_update}
use Rattle.epoch_cache.specs.declared.cached.Written.TheVariants as written
use Rattle.editor.specs.declared.editing.Attempt.{Attempt}
use Rattle.editor.specs.declared.editing.Decided.{Decided}
use Rattle.editor.specs.Editing.{attempt_behind, moved_editing, update_command}
use Rattle.rules.specs.declared.kept.Begun.{Begun}
use Rattle.rules.specs.declared.kept.Kept.{Kept}
use Rattle.rules.specs.declared.kept.Work.TheVariants.{Writes as writes}
use Rattle.rules.specs.History.{lives_in}
use Rattle.rules.specs.Kept.{begun_of, job_of, operation_at, operation_now}
use Rattle.rules.specs.After.{edit_of, is_raw, is_raw_line, facts_of, refused_of, jobs_beside, kept_after, kept_of}
use Rattle.rules.specs.Agreement.{IsSelected}
use Rattle.rules.specs.Laws.{KeptAgrees}
use Rattle.rules.specs.Due.{due_command, due}
use Rattle.rules.specs.Rules.{is_turn_of}
use Rattle.rules.specs.Performed.{is_sent}
use Rattle.rules.specs.State.{world_of}
use Rattle.performed.specs.Names.{has_utf8_names}
use Rattle.performed.specs.Followed.{is_followed, are_followed}
use Rattle.performed.specs.Told.{are_told}
use Rattle.performed.proofs.CalmKinds.{Sends}
use Rattle.performed.proofs.CalmLent.{sent_of}
use Rattle.performed.proofs.CalmLines.{sends_of, turn_of, turn_is}
use Rattle.performed.proofs.CalmAnswers.{responses_right}
use Rattle.performed.proofs.CalmSends.{never, exchange_of_turn, exchange_update}
use Rattle.performed.proofs.EditsBegun.{came}
use Rattle.performed.proofs.EditsCard.{Answered, answered_by, view_other, OnBasic}
use Rattle.performed.proofs.EditsPlan.{plan_files}
use Rattle.performed.proofs.EditsScript.{edit_book}
use Rattle.performed.proofs.EditsSends.{is_book, Does, writes_row, selects_file, does}
use Rattle.performed.proofs.EditsState.{files_in, is_over, IsFresh, IsWriting, EditAt, IsActive, Edited, Leaves, edit_left}
use Rattle.performed.proofs.EditsSteps.{books_apart, file_of_place, select_came_to}
use Rattle.performed.proofs.EpochPast.{past_stays}
use Rattle.performed.proofs.EpochLives.{lively, sent_lives}
use Rattle.performed.proofs.EpochFetch.{is_fetch, fetches, fetch_turn, fetches_first}
use Rattle.performed.proofs.EpochFiles.{files_left}
use Rattle.rules.specs.Rules.{has_right_response}
use Rattle.performed.proofs.EditsLines.{moves_book, files_by, sends_on, turn_work, turn_came}
use Rattle.performed.proofs.EditsState.{unplanned, writing, refused, finished, past}
use Rattle.apdu.specs.Apdu.{is_success}
use Rattle.epoch_cache.specs.Cache.{handed_refresh}
use Rattle.performed.proofs.CalmKinds.{IsUpdater}
use Rattle.performed.proofs.EditsState.{Phase, selecting, ready}
use Rattle.performed.proofs.EditsState as state
use Rattle.performed.proofs.EditsState.{Goes, finished_left}
use Rattle.performed.proofs.EditsPlan.{Place, counted, front, middle, back, sent_at, is_back}
use Rattle.performed.proofs.CalmLines.{exchanged_actor}
use Rattle.performed.proofs.EditsSends.{no_update, names_path}

-- some number
pub lives_some : (h : Past) (o : Option ℕ) → lives_in h o ≡ true → is_some o ≡ true
lives_some h None q = never q
lives_some h (Some n) q = refl

same_of : (i a : ℕ) → Some i ≡ Some a → i ≡ a
same_of i a h = cc

pub raw_edits : (o : Option Operation) (f : ℕ) (e : Edit) → has_value is_raw o ≡ true → edit_of o ≡ Some (f, e) → ⊥
raw_edits None f e h q = never h
raw_edits (Some (operation.Raw handle apdu)) f e h q = absurd (cc)
raw_edits (Some (operation.Insert card)) f e h q = never h
raw_edits (Some operation.Out) f e h q = never h
raw_edits (Some (operation.Arm change)) f e h q = never h
raw_edits (Some (operation.Load g)) f e h q = never h
raw_edits (Some (operation.Set g at name number)) f e h q = never h
raw_edits (Some (operation.Clear g at)) f e h q = never h
raw_edits (Some (operation.OpenChannel handle aid)) f e h q = never h
raw_edits (Some (operation.Close handle)) f e h q = never h
raw_edits (Some (operation.Verify key pin)) f e h q = never h
raw_edits (Some (operation.End key)) f e h q = never h
raw_edits (Some operation.Poll) f e h q = never h
raw_edits (Some operation.Look) f e h q = never h
raw_edits (Some (operation.Watch mask)) f e h q = never h
raw_edits (Some operation.Notices) f e h q = never h

-- an application's UPDATE that succeeded moves every path
raw_moves : (raw : Bool) (selected : Option (List ℕ)) (c : CommandValue) (r : ResponseValue) (path : List ℕ) → is_update c r ≡ true → raw ≡ true → is_moved (touch_exchanged raw selected c r) path ≡ true
raw_moves raw selected c r path h g = by_write (is_update c r) raw h g
  where
    by_write : (b raw : Bool) → b ≡ true → raw ≡ true → (false || is_raw_write (if not b then written.Nothing else if raw then written.Raw else if is_row_update c && is_some selected then written.Row else written.Unknown) || has_value (is_moved_by path) (handed_refresh c r)) ≡ true
    by_write true true e q = refl
    by_write true false e q = never q
    by_write false raw e q = never e

attempt_same : (m g : Attempt) {o : Option Attempt} → o ≡ Some m → o ≡ Some g → m ≡ g
attempt_same m g x y = let z : Some m ≡ Some g = sym x ∙ y in cc

suc_zero : (n : ℕ) → (suc n == 0) ≡ true → ⊥
suc_zero n h = let z : (suc n == 0) ≡ false = grind arith in true≢false (sym h ∙ z)

fresh_of : (s : Script) (w : World) (k : Kept) (t : IsActive s w k) → is_over k.turn.stage ≡ false
fresh_of s w k t = by_phase t.phase
  where
    by_phase : Phase k (family_path t.family t.write.update.file) t.write.update → is_over k.turn.stage ≡ false
    by_phase (state.begins stage chain) = ap is_over stage
    by_phase (selecting stage chain at q) = ap is_over stage
    by_phase (ready stage chain selected) = ap is_over stage

module _ (agrees : KeptAgrees) (s : Script) (rules : keeps_rules s ≡ true) (served : has_utf8_names s ≡ true) (earlier : List Line) (followed : are_followed s earlier ≡ true) (told : are_told s earlier ≡ true) (t : Edited s (world_of s earlier) (kept_of s earlier)) where
  abbrev k : Kept
  k = kept_of s earlier

  abbrev w : World
  w = world_of s earlier

  book_of_edit : (i n f : ℕ) (e : Edit) → edit_of (operation_at s i n) ≡ Some (f, e) → is_book f ≡ true
  book_of_edit = edit_book s rules

  -- ---- an exchange

  module _ (a : ℕ) (c : CommandValue) (r : ResponseValue) (h : is_followed s k (line.Exchange a c r) ≡ true) (right : has_right_response w (line.Exchange a c r) ≡ true) where
    abbrev l : Line
    l = line.Exchange a c r

    abbrev new : Kept
    new = kept_after s l k

    abbrev v : World
    v = (step w c).0

    split : (is_turn_of a k.turn ≡ true) × (is_sent (due s k) l ≡ true)
    split = and_parts (is_turn_of a k.turn) (is_sent (due s k) l) h

    pub turn : k.turn.actor ≡ Some a
    turn = turn_of a k.turn.actor split.0

    pub is_due : has_value (same_command c) (due_command k) ≡ true
    is_due = sent_of s k a c r split.1

    pub sends : Sends s k
    sends = sends_of s earlier served followed

    pub goes : is_over k.turn.stage ≡ false
    goes = sends_on k c (exchange_of_turn s k a c r sends h)

    pub lives : k.history.living ≡ true
    lives = sent_lives s k a l (lively s earlier followed) h

    answered : is_fetch c ≡ false → Answered w c r
    answered none = answered_by w a c r (ap (λ (b : Bool). b && is_success r.sw) none) right

    pub current : (card : Answered w c r) (path : List ℕ) → k.selected ≡ Some path → HasCurrent card.card path
    current card path e = subst (IsSelected card.card) e (agrees s earlier rules (responses_right s earlier told) card.card card.inside).selected

    -- ---- the edit's own

    module _ (work : k.turn.work ≡ writes) where
      abbrev pub own : IsActive s w k
      own = t.active work goes

      pub own_actor : own.who ≡ a
      own_actor = same_of own.who a (sym own.actor ∙ turn)

      pub own_book : is_book own.family ≡ true
      own_book = book_of_edit own.who own.begun.index own.family own.edit own.op

      pub own_does : Does s w k work own c
      own_does = does s w k work own c is_due

      pub own_file : (own.write.update.file ≡ 0) ⊎ (own.write.update.file ≡ 1)
      own_file = file_of_place own.edit own.write.old own.attempt.plan (plan_files own.edit own.write.old.main own.write.old.ext own.attempt.plan own.write.plan) own.write.place own.write.update own.write.at

      -- a FETCH stands in a turn of the framework
      pub own_card : Answered w c r
      own_card = answered (by_fetch (is_fetch c) refl)
        where
          by_fetch : (b : Bool) → is_fetch c ≡ b → b ≡ false
          by_fetch false e = refl
          by_fetch true e = never (sym (ap fetches work) ∙ (fetch_turn k (fetches_first s earlier followed) s a c r h e).0)

    -- an UPDATE of the turn writes the next row
    pub record Wrote : Type 0 where
      pub work : k.turn.work ≡ writes
      pub is : c ≡ update_command (own work).write.update
      pub selected : k.selected ≡ Some (family_path (own work).family (own work).write.update.file)
      pub chain : k.chain ≡ None

    pub wrote_by : (work : k.turn.work ≡ writes) → is_update_ins c.ins ≡ true → Wrote
    wrote_by work up = by_does (own_does work)
      where
        by_does : Does s w k work (own work) c → Wrote
        by_does (writes_row is selected chain) = record { work = work; is = is; selected = selected; chain = chain }
        by_does (selects_file first x waits stage) = never (sym (no_update (family_path (own work).family (own work).write.update.file) (names_path (own work).family (own work).write.update.file (own_book work) (own_file work)) c x k.selected waits r) ∙ up)

    pub data How : Type 0 where
      still : is_update_ins c.ins ≡ false → How
      by_raw : has_value is_raw (operation_now s a k.jobs) ≡ true → How
      by_edit : Wrote → How

    pub how : How
    how = by_ins (is_update_ins c.ins) refl
      where
        by_updater : is_update_ins c.ins ≡ true → IsUpdater s k c → How
        by_updater up (inl raw) = by_raw (sym (ap (has_value is_raw) (turn_is s k a c r h)) ∙ raw)
        by_updater up (inr e) = by_edit (wrote_by e.work up)

        by_ins : (b : Bool) → is_update_ins c.ins ≡ b → How
        by_ins false e = still e
        by_ins true e = by_updater e (exchange_update s k a c r sends h e)

    -- ---- the files of another's edit

    kept_by : is_update c r ≡ false → (f : ℕ) → is_book f ≡ true → (more : List (List ℕ)) → moves_one (facts_of s l k).touch (family_paths f ++ more) ≡ false → files_in v f ≡ files_in w f
    kept_by e f book more m = files_left s earlier a c r rules (responses_right s earlier told) right e f book more m

    -- another family's row
    other_files : (x : Wrote) (f : ℕ) → is_book f ≡ true → ((own x.work).family == f) ≡ false → is_update c r ≡ true → files_in v f ≡ files_in w f
    other_files x f book apart e =
        let o = own x.work in
        let card = own_card x.work in
        let path : List ℕ = family_path o.family o.write.update.file in
        let on : OnBasic w c r card path = record { class = ap (λ (d : CommandValue). d.class) x.is; ins = ap (λ (d : CommandValue). d.ins) x.is; now = current card path x.selected } in
        files_by w v f
        (view_other w c r card path on e (family_path f 0) (books_apart o.family f o.write.update.file 0 (own_book x.work) book apart (own_file x.work) (inl refl)))
        (view_other w c r card path on e (family_path f 1) (books_apart o.family f o.write.update.file 1 (own_book x.work) book apart (own_file x.work) (inr refl)))

    module _ (i : ℕ) (b : Begun) (f : ℕ) (e : Edit) (here : begun_of i k.jobs ≡ Some b) (op : edit_of (operation_at s i b.index) ≡ Some (f, e)) where
      book : is_book f ≡ true
      book = book_of_edit i b.index f e op

      pub same_family : (x : Wrote) → is_some b.epoch ≡ true → (own x.work).family ≡ f → i ≡ a
      same_family x some same =
          let o = own x.work in
          t.alone i o.who b o.begun f e o.edit here o.here op (o.op ∙ ap (λ (n : ℕ). Some (n, o.edit)) same) some (lives_some k.history o.begun.epoch o.write.lives) ∙ own_actor x.work

      files_of : (i ≡ a → ⊥) → is_some b.epoch ≡ true → (more : List (List ℕ)) → moves_one (facts_of s l k).touch (family_paths f ++ more) ≡ false → files_in v f ≡ files_in w f
      files_of apart some more m = by_how how
        where
          by_update : (x : Wrote) (u : Bool) → is_update c r ≡ u → files_in v f ≡ files_in w f
          by_update x false z = kept_by z f book more m
          by_update x true z = by_family ((own x.work).family == f) refl
            where
              by_family : (g : Bool) → ((own x.work).family == f) ≡ g → files_in v f ≡ files_in w f
              by_family true y = absurd (apart (same_family x some (eqb-true (own x.work).family f y)))
              by_family false y = other_files x f book y z

          by_raw_update : has_value is_raw (operation_now s a k.jobs) ≡ true → (u : Bool) → is_update c r ≡ u → files_in v f ≡ files_in w f
          by_raw_update raw false z = kept_by z f book more m
          by_raw_update raw true z = never (sym m ∙ moves_book (facts_of s l k).touch f more book (λ path. raw_moves (is_raw_line s l k.jobs) k.selected c r path z raw))

          by_how : How → files_in v f ≡ files_in w f
          by_how (still z) = kept_by (ap (λ (y : Bool). y && is_success r.sw) z) f book more m
          by_how (by_raw raw) = by_raw_update raw (is_update c r) refl
          by_how (by_edit x) = by_update x (is_update c r) refl

      leaves : (i ≡ a → ⊥) → is_some b.epoch ≡ true → Leaves s l w v k i f
      leaves apart some = record {
        files = files_of apart some;
        lives = λ o z. z;
        refused = λ actor came. absurd (apart (same_of i a (sym actor ∙ turn)));
      }

      -- another's edit
      pub other_edit : (i ≡ a → ⊥) → EditAt w k i f e b.epoch b.editing → EditAt v new i f e b.epoch (moved_editing (facts_of s l k).touch b.editing)
      other_edit apart (unplanned x d) = unplanned (ap (attempt_behind (facts_of s l k).touch b.editing.decided) x) d
      other_edit apart (refused d actor came) = absurd (apart (same_of i a (sym actor ∙ turn)))
      other_edit apart (past x) = past (past_stays l k.history b.epoch x)
      other_edit apart (writing x z y) = edit_left s l w v k i f e (leaves apart (lives_some k.history b.epoch y.lives)) b.epoch b.editing (λ g n m fr. absurd (apart (same_of i a (sym fr.actor ∙ turn)))) (writing x z y)
      other_edit apart (finished d lives owed) = edit_left s l w v k i f e (leaves apart (lives_some k.history b.epoch lives)) b.epoch b.editing (λ g n m fr. absurd (apart (same_of i a (sym fr.actor ∙ turn)))) (finished d lives owed)

      -- ---- the edit whose turn it is, behind a command that is no UPDATE

      module _ (mine : i ≡ a) (idle : is_update_ins c.ins ≡ false) where
        unwritten : is_update c r ≡ false
        unwritten = ap (λ (y : Bool). y && is_success r.sw) idle

        turn_same : new.turn.actor ≡ Some i
        turn_same =
            exchanged_actor (operation_now s a k.jobs) (job_of a new.jobs) (held_numbers k.history k.handles) (facts_of s l k) (refused_of k.selected (jobs_beside l k.history.epoch (facts_of s l k) k.selected k.jobs) (facts_of s l k).answered) k.turn (facts_of s l k).answered
            ∙ turn ∙ ap (λ (n : ℕ). Some n) (sym mine)

        came_same : is_some k.turn.outcome ≡ true → is_some new.turn.outcome ≡ true
        came_same z = turn_came (operation_now s a k.jobs) (job_of a new.jobs) (held_numbers k.history k.handles) (facts_of s l k) (refused_of k.selected (jobs_beside l k.history.epoch (facts_of s l k) k.selected k.jobs) (facts_of s l k).answered) k.turn (facts_of s l k).answered z

        work_same : new.turn.work ≡ k.turn.work
        work_same = turn_work (operation_now s a k.jobs) (job_of a new.jobs) (held_numbers k.history k.handles) (facts_of s l k) (refused_of k.selected (jobs_beside l k.history.epoch (facts_of s l k) k.selected k.jobs) (facts_of s l k).answered) k.turn (facts_of s l k).answered

        idle_leaves : Leaves s l w v k i f
        idle_leaves = record {
          files = λ more m. kept_by unwritten f book more m;
          lives = λ o z. z;
          refused = λ actor came. (turn_same, came_same came);
        }

        left : Goes s l w v k i f e idle_leaves b.epoch b.editing → EditAt w k i f e b.epoch b.editing → EditAt v new i f e b.epoch (moved_editing (facts_of s l k).touch b.editing)
        left going z = edit_left s l w v k i f e idle_leaves b.epoch b.editing going z

        -- where nothing of the attempt was sent, the turn goes on or its command was refused
        unsent_left : (g : Attempt) → b.editing.attempt ≡ Some g → IsWriting w k i f e b.epoch b.editing.decided g → (g.sent == 0) ≡ true → EditAt v new i f e b.epoch (moved_editing (facts_of s l k).touch b.editing)
        unsent_left g x y zero_sent = by_does (own_does work)
          where
            fresh_now : IsFresh k.turn i
            fresh_now = y.fresh zero_sent

            work : k.turn.work ≡ writes
            work = (y.fresh zero_sent).work

            undecided : (d : Option Decided) → b.editing.decided ≡ d → b.editing.decided ≡ None
            undecided None z = z
            undecided (Some d) z = by_place y.place y.sent (sym y.behind ∙ ap is_some z)
              where
                by_place : (place : Place) → g.sent ≡ sent_at g.plan place → is_back place ≡ true → b.editing.decided ≡ None
                by_place front sent n = never n
                by_place middle sent n = never n
                by_place back sent n = absurd (let z : (suc (counted g.plan.before) == 0) ≡ true = ap (λ (m : ℕ). m == 0) (sym sent) ∙ zero_sent in suc_zero (counted g.plan.before) z)

            by_does : Does s w k work (own work) c → EditAt v new i f e b.epoch (moved_editing (facts_of s l k).touch b.editing)
            by_does (writes_row is selected chain) = never (sym idle ∙ ap (λ (d : CommandValue). is_update_ins d.ins) is)
            by_does (selects_file first ex waits stage) = by_came (subst (λ (n : ℕ). IsActive s v (kept_after s (line.Exchange n c r) k) ⊎ ((is_over (kept_after s (line.Exchange n c r) k).turn.stage ≡ true) × (is_some (kept_after s (line.Exchange n c r) k).turn.outcome ≡ true))) (own_actor work)
                (select_came_to s w k work (own work) (own_book work) c r (own_card work) first ex waits stage))
              where
                by_came : IsActive s v new ⊎ ((is_over new.turn.stage ≡ true) × (is_some new.turn.outcome ≡ true)) → EditAt v new i f e b.epoch (moved_editing (facts_of s l k).touch b.editing)
                by_came (inl z) = left (λ m n o fr. record { actor = turn_same; work = work_same ∙ work; goes = fresh_of s v new z }) (writing g x y)
                by_came (inr z) = refused (undecided b.editing.decided refl) turn_same z.1

        pub idle_edit : EditAt w k i f e b.epoch b.editing → EditAt v new i f e b.epoch (moved_editing (facts_of s l k).touch b.editing)
        idle_edit (unplanned x d) = unplanned (ap (attempt_behind (facts_of s l k).touch b.editing.decided) x) d
        idle_edit (refused d actor came) = refused d turn_same (came_same came)
        idle_edit (finished d lives owed) = finished_left s l w v k i f e idle_leaves b.epoch b.editing d lives owed
        idle_edit (past x) = past (past_stays l k.history b.epoch x)
        idle_edit (writing g x y) = by_sent (g.sent == 0) refl
          where
            by_sent : (z : Bool) → (g.sent == 0) ≡ z → EditAt v new i f e b.epoch (moved_editing (facts_of s l k).touch b.editing)
            by_sent true n = unsent_left g x y n
            by_sent false n = left (λ m o p fr. absurd (let same : m ≡ g = attempt_same m g o x in true≢false (sym p ∙ ap (λ (q : Attempt). q.sent == 0) same ∙ n))) (writing g x y)
