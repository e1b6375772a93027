-- What an exchange of the turn of an edit leads to that has still to write.
use Rattle.std.proofs.Common.{◌≡◌, ◌⊎◌, inl, inr, ℕ, suc, ◌+◌, ◌-◌, ◌==◌, ◌&&◌, ◌||◌, not, Bool, true, false, if◌then◌else◌, Option, Some, None, is_some, List, refl, sym, ap, ◌∙◌, subst, arith, true≢false}
use Rattle.std.specs.Prelude.{slice_get, option_map, option_and_then, nat_lt}
use Rattle.std.proofs.lemmas.Bool.{eqb-true}
use Rattle.apdu.specs.Values.{CommandValue, ResponseValue}
use Rattle.apdu.specs.Words.{has_value, same_bytes, or_else}
use Rattle.apdu.specs.Apdu.{get_response_ins, is_update_ins, is_success, has_more}
use Rattle.refresh_cmd.specs.Values.{ProactiveValue}
use Rattle.card_effects.specs.Basic.{HasCurrent}
use Rattle.card_model.specs.declared.world.CardState.{CardState}
use Rattle.card_model.specs.declared.world.World.{World}
use Rattle.card_model.specs.Step.{on_card, step}
use Rattle.card_effects.proofs.Same.{same_bytes_self}
use Rattle.script_reader.specs.declared.types.Script.{Script}
use Rattle.script_reader.specs.declared.types.Operation.{Operation}
use Rattle.report.specs.declared.line.Line.{Line}
use Rattle.report.specs.declared.line.Line.TheVariants as line
use Rattle.adn.specs.declared.edit.Edit.{Edit}
use Rattle.adn.specs.declared.edit.RowUpdate.{RowUpdate}
use Rattle.adn.specs.declared.edit.Plan.{Plan}
use Rattle.families.specs.Families.{family_path}
use Rattle.families.specs.Plans.{plan_updates}
use Rattle.book_plans.specs.Phonebook.{Files}
use Rattle.fcp.specs.Content.{Content, with_row}
use Rattle.script_reader.specs.declared.types.Operation.TheVariants as operation
use Rattle.book_plans.specs.Law.{written, written_some}
use Rattle.link.specs.declared.chain.Chain.{Chain}
use Rattle.link.specs.declared.chain.Final.{Final}
use Rattle.link.specs.Commands.{select_only, is_at, chain_first, chain_count, follow_up, asks_more, named_path, is_path_select, is_reading_select, most_exchanges}
use Rattle.epoch_cache.specs.Cache.{is_update, is_moved, is_moved_by, is_row_update, is_raw_write, written_by}
use Rattle.epoch_cache.specs.declared.cached.Written.TheVariants as written
use Rattle.editor.specs.declared.editing.Attempt.{Attempt}
use Rattle.editor.specs.declared.editing.Decided.{Decided}
use Rattle.editor.specs.declared.editing.Editing.{Editing}
use Rattle.editor.specs.Editing.{next_update, update_command, sent_update, decided_by, extended_by, updated_by, moved_editing, owed_of, card_need}
use Rattle.rules.specs.declared.kept.Begun.{Begun}
use Rattle.rules.specs.declared.kept.Facts.{Facts}
use Rattle.rules.specs.declared.kept.Job.{Job}
use Rattle.rules.specs.declared.kept.Kept.{Kept}
use Rattle.rules.specs.declared.kept.Outcome.{Outcome}
use Rattle.rules.specs.declared.kept.Stage.TheVariants.{Fresh as fresh, Next as next, Over as over}
use Rattle.rules.specs.declared.kept.Turn.{Turn}
use Rattle.rules.specs.declared.kept.Work.{Work}
use Rattle.rules.specs.declared.kept.Work.TheVariants.{Writes as writes}
use Rattle.rules.specs.Channels.{held_numbers}
use Rattle.rules.specs.Sessions.{lacking_key}
use Rattle.fcp.specs.declared.rule.Need.{Need}
use Rattle.fcp.specs.declared.rule.Need.TheVariants.{Always, Never, Key}
use Rattle.rules.specs.Editing.{attempt_of}
use Rattle.rules.specs.Kept.{begun_of, job_of, operation_at, operation_now, begun_operation}
use Rattle.rules.specs.After.{is_raw, is_raw_line, edit_of, editing_sent, editing_answered, begun_exchanged, facts_of, opened_behind, next_or_over, stage_of_write, stage_after, outcome_of, refused_outcome, refused_of, jobs_beside, kept_after}
use Rattle.rules.specs.State.{view_in}
use Rattle.performed.proofs.CalmKinds.{IsExchangeOf}
use Rattle.performed.proofs.CalmLines.{turn_by, exchanged_actor}
use Rattle.performed.proofs.CalmSends.{never}
use Rattle.performed.proofs.EditsBegun.{near, begun_exchanges}
use Rattle.performed.proofs.EditsCard.{Answered, OnBasic, no_refresh, update_answered, view_same, need_same, view_written, view_other}
use Rattle.performed.proofs.EditsPlan.{Place, counted, front, middle, back, update_at, sent_at, is_back, files_at, none_behind, none_further, WritesFiles, plan_files}
use Rattle.performed.proofs.EditsSends.{is_book, names_path, selected_then, waits_then, follows, no_update, select_came, refused_came, edit_came}
use Rattle.performed.proofs.EditsState.{files_in, is_over, IsFresh, IsWriting, EditAt, writing, refused, finished, next_is, Phase, selecting, ready, Allowed, IsActive, unmoved_attempt}

-- ---- the paths of books

apart_by : (f g i j : ℕ) (a b c d : Bool) → (1 == f) ≡ a → (2 == f) ≡ b → (1 == g) ≡ c → (2 == g) ≡ d → (a || (b || false)) ≡ true → (c || (d || false)) ≡ true → (f == g) ≡ false → (i ≡ 0) ⊎ (i ≡ 1) → (j ≡ 0) ⊎ (j ≡ 1) → same_bytes (family_path f i) (family_path g j) ≡ false
apart_by f g i j true b true d x y z t h k n p q = absurd (let e : f ≡ 1 = sym (eqb-true 1 f x) in let v : g ≡ 1 = sym (eqb-true 1 g z) in never (sym n ∙ rw (e, v) refl))
apart_by f g i j false true false true x y z t h k n p q = absurd (let e : f ≡ 2 = sym (eqb-true 2 f y) in let v : g ≡ 2 = sym (eqb-true 2 g t) in never (sym n ∙ rw (e, v) refl))
apart_by f g i j true b false true x y z t h k n p q = let e : f ≡ 1 = sym (eqb-true 1 f x) in let v : g ≡ 2 = sym (eqb-true 2 g t) in by_files p q e v
  where
    by_files : (i ≡ 0) ⊎ (i ≡ 1) → (j ≡ 0) ⊎ (j ≡ 1) → f ≡ 1 → g ≡ 2 → same_bytes (family_path f i) (family_path g j) ≡ false
    by_files (inl a) (inl b) e v = rw (a, b, e, v) refl
    by_files (inl a) (inr b) e v = rw (a, b, e, v) refl
    by_files (inr a) (inl b) e v = rw (a, b, e, v) refl
    by_files (inr a) (inr b) e v = rw (a, b, e, v) refl
apart_by f g i j false true true d x y z t h k n p q = let e : f ≡ 2 = sym (eqb-true 2 f y) in let v : g ≡ 1 = sym (eqb-true 1 g z) in by_files p q e v
  where
    by_files : (i ≡ 0) ⊎ (i ≡ 1) → (j ≡ 0) ⊎ (j ≡ 1) → f ≡ 2 → g ≡ 1 → same_bytes (family_path f i) (family_path g j) ≡ false
    by_files (inl a) (inl b) e v = rw (a, b, e, v) refl
    by_files (inl a) (inr b) e v = rw (a, b, e, v) refl
    by_files (inr a) (inl b) e v = rw (a, b, e, v) refl
    by_files (inr a) (inr b) e v = rw (a, b, e, v) refl
apart_by f g i j false false c d x y z t h k n p q = never h
apart_by f g i j a b false false x y z t h k n p q = never k

-- files of two books are different files
pub books_apart : (f g i j : ℕ) → is_book f ≡ true → is_book g ≡ true → (f == g) ≡ false → (i ≡ 0) ⊎ (i ≡ 1) → (j ≡ 0) ⊎ (j ≡ 1) → same_bytes (family_path f i) (family_path g j) ≡ false
books_apart f g i j h k n p q = apart_by f g i j (1 == f) (2 == f) (1 == g) (2 == g) refl refl refl refl h k n p q

within_by : (f : ℕ) (a b : Bool) → (1 == f) ≡ a → (2 == f) ≡ b → (a || (b || false)) ≡ true → (same_bytes (family_path f 0) (family_path f 1) ≡ false) × (same_bytes (family_path f 1) (family_path f 0) ≡ false)
within_by f true b x y h = let e : f ≡ 1 = sym (eqb-true 1 f x) in (rw e refl, rw e refl)
within_by f false true x y h = let e : f ≡ 2 = sym (eqb-true 2 f y) in (rw e refl, rw e refl)
within_by f false false x y h = never h

-- and so are the two of one
pub main_apart : (f : ℕ) → is_book f ≡ true → same_bytes (family_path f 0) (family_path f 1) ≡ false
main_apart f h = (within_by f (1 == f) (2 == f) refl refl h).0

pub ext_apart : (f : ℕ) → is_book f ≡ true → same_bytes (family_path f 1) (family_path f 0) ≡ false
ext_apart f h = (within_by f (1 == f) (2 == f) refl refl h).1

-- ---- the file of an update

-- the deciding update alone writes the main file
pub file_of_place : (e : Edit) (old : Files) (p : Plan) → WritesFiles p → (place : Place) (u : RowUpdate) → update_at p place ≡ Some u → (u.file ≡ 0) ⊎ (u.file ≡ 1)
file_of_place e old p t front u h = inr (t.before u h)
file_of_place e old p t middle u h = let same : p.deciding ≡ u = cc in inl (ap (λ (x : RowUpdate). x.file) (sym same) ∙ t.deciding)
file_of_place e old p t back u h = inr (t.after u h)

-- ---- one row more

module _ (w v : World) (f : ℕ) (u : RowUpdate) where
  -- what the update wrote
  pub written_main : u.file ≡ 0 → view_in v (family_path f 0) ≡ with_row (u.row - 1) u.bytes (view_in w (family_path f 0)) → view_in v (family_path f 1) ≡ view_in w (family_path f 1) → files_in v f ≡ written (files_in w f) u
  written_main file row other =
      ap (λ (x : Content). record { main = x; ext = view_in v (family_path f 1) }) row
      ∙ ap (λ (x : Content). record { main = with_row (u.row - 1) u.bytes (view_in w (family_path f 0)); ext = x }) other
      ∙ sym (ap (λ (n : ℕ). if n == 0 then record { main = with_row (u.row - 1) u.bytes (view_in w (family_path f 0)); ext = view_in w (family_path f 1) } else record { main = view_in w (family_path f 0); ext = with_row (u.row - 1) u.bytes (view_in w (family_path f 1)) }) file)

  pub written_ext : u.file ≡ 1 → view_in v (family_path f 1) ≡ with_row (u.row - 1) u.bytes (view_in w (family_path f 1)) → view_in v (family_path f 0) ≡ view_in w (family_path f 0) → files_in v f ≡ written (files_in w f) u
  written_ext file row other =
      ap (λ (x : Content). record { main = view_in v (family_path f 0); ext = x }) row
      ∙ ap (λ (x : Content). record { main = x; ext = with_row (u.row - 1) u.bytes (view_in w (family_path f 1)) }) other
      ∙ sym (ap (λ (n : ℕ). if n == 0 then record { main = with_row (u.row - 1) u.bytes (view_in w (family_path f 0)); ext = view_in w (family_path f 1) } else record { main = view_in w (family_path f 0); ext = with_row (u.row - 1) u.bytes (view_in w (family_path f 1)) }) file)

-- ---- a command that is no UPDATE leaves the edit

pub exchanged_same : (edit : Option (ℕ × Edit)) (selected : Option (List ℕ)) (chain : Option Chain) (event : ℕ) (c : CommandValue) (r : ResponseValue) (e : Editing) → is_update_ins c.ins ≡ false → editing_answered edit selected event c r (editing_sent c chain e) ≡ e
exchanged_same edit selected chain event c r e h = answered_same edit ∙ sent_same chain
  where
    sent_same : (o : Option Chain) → editing_sent c o e ≡ e
    sent_same None = ap (λ (b : Bool). if b then sent_update e else e) h
    sent_same (Some x) = refl

    answered_same : (o : Option (ℕ × Edit)) → editing_answered o selected event c r (editing_sent c chain e) ≡ editing_sent c chain e
    answered_same None = refl
    answered_same (Some (f, d)) = ap (λ (b : Bool). if b && is_success r.sw then updated_by f selected event c (editing_sent c chain e) else editing_sent c chain e) h

same_lack : (s : Script) (k : Kept) (a : ℕ) (c : CommandValue) (r : ResponseValue) (i : ℕ) (need : Need) → lacking_key (kept_after s (line.Exchange a c r) k).history i (kept_after s (line.Exchange a c r) k).sessions need ≡ lacking_key k.history i k.sessions need
same_lack s k a c r i Always = refl
same_lack s k a c r i Never = refl
same_lack s k a c r i (Key key) = refl

more_than : (n : ℕ) → n + 1 ≡ suc n
more_than n = omega arith

not_zero : (n : ℕ) → (n + 1 == 0) ≡ false
not_zero n = grind arith

-- ---- an exchange of the turn

module _ (s : Script) (w : World) (k : Kept) (work : k.turn.work ≡ writes) (t : IsActive s w k) (book : is_book t.family ≡ true) (c : CommandValue) (r : ResponseValue) (card : Answered w c r) where
  abbrev l : Line
  l = line.Exchange t.who c r

  abbrev v : World
  v = (step w c).0

  abbrev new : Kept
  new = kept_after s l k

  abbrev path : List ℕ
  path = family_path t.family t.write.update.file

  abbrev u : RowUpdate
  u = t.write.update

  abbrev facts : Facts
  facts = facts_of s l k

  abbrev beside : List Job
  beside = jobs_beside l k.history.epoch facts k.selected k.jobs

  abbrev op : Option Operation
  op = operation_now s t.who k.jobs

  abbrev job : Job
  job = job_of t.who new.jobs

  -- the turn behind it, final or not
  abbrev turn : Option Final → Turn
  turn o = turn_by op job (held_numbers k.history k.handles) facts (refused_of k.selected beside facts.answered) k.turn o

  files : WritesFiles t.attempt.plan
  files = plan_files t.edit t.write.old.main t.write.old.ext t.attempt.plan t.write.plan

  file : (u.file ≡ 0) ⊎ (u.file ≡ 1)
  file = file_of_place t.edit t.write.old t.attempt.plan files t.write.place u t.write.at

  op_is : op ≡ operation_at s t.who t.begun.index
  op_is = ap (begun_operation s t.who) t.here

  op_edits : edit_of op ≡ Some (t.family, t.edit)
  op_edits = ap edit_of op_is ∙ t.op

  raw_by : (o : Option Operation) → edit_of o ≡ Some (t.family, t.edit) → has_value is_raw o ≡ false
  raw_by None h = refl
  raw_by (Some (operation.Raw handle apdu)) h = absurd (cc)
  raw_by (Some (operation.Insert x)) h = refl
  raw_by (Some operation.Out) h = refl
  raw_by (Some (operation.Arm x)) h = refl
  raw_by (Some (operation.Load x)) h = refl
  raw_by (Some (operation.Set x at name number)) h = refl
  raw_by (Some (operation.Clear x at)) h = refl
  raw_by (Some (operation.OpenChannel handle aid)) h = refl
  raw_by (Some (operation.Close handle)) h = refl
  raw_by (Some (operation.Verify key pin)) h = refl
  raw_by (Some (operation.End key)) h = refl
  raw_by (Some operation.Poll) h = refl
  raw_by (Some operation.Look) h = refl
  raw_by (Some (operation.Watch mask)) h = refl
  raw_by (Some operation.Notices) h = refl

  pub not_raw : is_raw_line s l k.jobs ≡ false
  not_raw = raw_by op op_edits

  -- it moves nothing
  no_write : (raw : Bool) → raw ≡ false → is_raw_write (written_by raw k.selected c r) ≡ false
  no_write true h = absurd (true≢false h)
  no_write false h = by_update (is_update c r) (is_row_update c && is_some k.selected)
    where
      by_update : (a b : Bool) → is_raw_write (if not a then written.Nothing else if false then written.Raw else if b then written.Row else written.Unknown) ≡ false
      by_update true true = refl
      by_update true false = refl
      by_update false b = refl

  pub moves_none : (p : List ℕ) → is_moved facts.touch p ≡ false
  moves_none p =
      ap (λ (b : Bool). (false || b) || has_value (is_moved_by p) facts.touch.refresh) (no_write (is_raw_line s l k.jobs) not_raw)
      ∙ ap (λ (o : Option ProactiveValue). has_value (is_moved_by p) o) (no_refresh w c r card)

  abbrev near_editing : Editing
  near_editing = moved_editing facts.touch t.begun.editing

  near_attempt : near_editing.attempt ≡ Some t.attempt
  near_attempt = unmoved_attempt facts.touch moves_none t.begun.editing.decided t.begun.editing.attempt ∙ t.there

  -- what its edit is behind it
  abbrev pub now_begun : Begun
  now_begun = begun_exchanged (edit_of op) k.selected k.chain (k.history.events + 1) c r (near s l k t.begun)

  pub now_there : begun_of t.who new.jobs ≡ Some now_begun
  now_there = begun_exchanges s k t.who c r t.begun t.here

  turn_actor : new.turn.actor ≡ Some t.who
  turn_actor = exchanged_actor op job (held_numbers k.history k.handles) facts (refused_of k.selected beside facts.answered) k.turn facts.answered ∙ t.actor

  abbrev final : Final
  final = record { actor = t.who; command = chain_first c k.chain; response = r; event = k.history.events + 1; first_event = k.history.events + 1 - chain_count c k.chain }

  abbrev more : Bool
  more = asks_more (chain_count c k.chain + 1) c r

  turn_is : (b : Bool) → more ≡ b → new.turn ≡ turn (if b then None else Some final)
  turn_is b e = ap (λ (x : Bool). turn (if x then None else Some final)) e

  chain_is : (b : Bool) → more ≡ b → new.chain ≡ (if b then Some (record { first = chain_first c k.chain; count = chain_count c k.chain + 1; next = follow_up c r }) else None)
  chain_is b e = ap (λ (x : Bool). if x then Some (record { first = chain_first c k.chain; count = chain_count c k.chain + 1; next = follow_up c r }) else None) e

  came_is : (f : Final) → (turn (Some f)).outcome ≡ refused_outcome f
  came_is f =
      ap (λ (o : Option Outcome). or_else o (outcome_of op (opened_behind (held_numbers k.history k.handles) f k.turn.opened) f)) t.came
      ∙ edit_came op t.family t.edit (opened_behind (held_numbers k.history k.handles) f k.turn.opened) f op_edits

  stage_is : (f : Final) → (turn (Some f)).stage ≡ stage_of_write (attempt_of job.begun) f
  stage_is f = ap (λ (x : Work). stage_after x op (opened_behind (held_numbers k.history k.handles) f k.turn.opened) job facts.touch.refresh f) work

  -- ---- the SELECT of its file

  module _ (first : chain_first c k.chain ≡ select_only path) (x : IsExchangeOf (select_only path) c) (waits : c.ins ≡ get_response_ins → k.selected ≡ Some path) (stage : k.turn.stage ≡ fresh) where
    named : named_path (select_only path) ≡ Some path
    named = names_path t.family u.file book file

    idle : is_update_ins c.ins ≡ false
    idle = no_update path named c x k.selected waits r

    unwritten : is_update c r ≡ false
    unwritten = ap (λ (b : Bool). b && is_success r.sw) idle

    editing_kept : now_begun.editing ≡ near_editing
    editing_kept = exchanged_same (edit_of op) k.selected k.chain (k.history.events + 1) c r near_editing idle

    pub kept_attempt : now_begun.editing.attempt ≡ Some t.attempt
    kept_attempt = ap (λ (e : Editing). e.attempt) editing_kept ∙ near_attempt

    kept_decided : now_begun.editing.decided ≡ t.begun.editing.decided
    kept_decided = ap (λ (e : Editing). e.decided) editing_kept

    files_kept : files_in v t.family ≡ files_in w t.family
    files_kept =
        ap (λ (y : Content). record { main = y; ext = view_in v (family_path t.family 1) }) (view_same w c r card unwritten (family_path t.family 0))
        ∙ ap (λ (y : Content). record { main = view_in w (family_path t.family 0); ext = y }) (view_same w c r card unwritten (family_path t.family 1))

    kept_writing : ((t.attempt.sent == 0) ≡ true → IsFresh new.turn t.who) → IsWriting v new t.who t.family t.edit now_begun.epoch now_begun.editing.decided t.attempt
    kept_writing going = record {
      family = t.write.family;
      rest = t.write.rest;
      paths = t.write.paths;
      still = t.write.still;
      lives = t.write.lives;
      place = t.write.place;
      update = t.write.update;
      at = t.write.at;
      sent = t.write.sent;
      behind = ap is_some kept_decided ∙ t.write.behind;
      old = t.write.old;
      plan = t.write.plan;
      now = files_kept ∙ t.write.now;
      fresh = going;
    }

    kept_allowed : (t.attempt.sent == 0) ≡ true → Allowed v new t.who path
    kept_allowed h other inside =
        let same : Some other ≡ Some (on_card w.changes card.card c).0 = sym inside ∙ card.behind in
        let is : other ≡ (on_card w.changes card.card c).0 = cc in
        same_lack s k t.who c r t.who (card_need other path)
        ∙ ap (λ (y : CardState). lacking_key k.history t.who k.sessions (card_need y path)) is
        ∙ ap (lacking_key k.history t.who k.sessions) (need_same w c r card unwritten path)
        ∙ t.allowed h card.card card.inside

    -- it goes on, or a command was refused
    abbrev SelectCame : Type 0
    SelectCame = IsActive s v new ⊎ ((is_over new.turn.stage ≡ true) × (is_some new.turn.outcome ≡ true))

    goes_fresh : is_over new.turn.stage ≡ false → IsFresh new.turn t.who
    goes_fresh g = record { actor = turn_actor; work = turn_work; goes = g }
      where
        turn_work : new.turn.work ≡ writes
        turn_work = by_answer facts.answered
          where
            by_answer : (o : Option Final) → (turn o).work ≡ writes
            by_answer None = work
            by_answer (Some f) = work

    active_with : is_over new.turn.stage ≡ false → new.turn.outcome ≡ None → new.turn.updated ≡ false → Phase new path u → IsActive s v new
    unfolding kept_writing
    active_with g came unsent phase = record {
      who = t.who;
      actor = turn_actor;
      begun = now_begun;
      here = now_there;
      family = t.family;
      edit = t.edit;
      op = t.op;
      attempt = t.attempt;
      there = kept_attempt;
      write = kept_writing (λ h. goes_fresh g);
      came = came;
      unsent = unsent;
      allowed = kept_allowed;
      phase = phase;
    }

    goes_more : more ≡ true → SelectCame
    goes_more e =
        let same = turn_is true e in
        inl (active_with
        (ap (λ (y : Turn). is_over y.stage) same ∙ ap is_over stage)
        (ap (λ (y : Turn). y.outcome) same ∙ t.came)
        (ap (λ (y : Turn). y.updated) same ∙ t.unsent)
        (selecting (ap (λ (y : Turn). y.stage) same ∙ stage) (record { first = chain_first c k.chain; count = chain_count c k.chain + 1; next = follow_up c r }) (chain_is true e) (record {
          first = first;
          next = follows path named c x k.selected waits r;
          waits = waits_then path named c x k.selected waits r;
        })))

    job_attempt : attempt_of job.begun ≡ Some t.attempt
    job_attempt = ap attempt_of now_there ∙ kept_attempt

    final_command : final.command ≡ select_only path
    final_command = first

    stage_by : (b : Bool) → is_success r.sw ≡ b → stage_of_write (attempt_of job.begun) final ≡ (if b then next (update_command u) else over)
    stage_by b e =
        ap (λ (d : CommandValue). if is_path_select d && is_success r.sw then next_or_over (option_map update_command (option_and_then next_update (attempt_of job.begun))) else over) first
        ∙ ap (λ (y : Bool). if y then next_or_over (option_map update_command (option_and_then next_update (attempt_of job.begun))) else over) e
        ∙ ap (λ (o : Option Attempt). if b then next_or_over (option_map update_command (option_and_then next_update o)) else over) job_attempt
        ∙ ap (λ (o : Option RowUpdate). if b then next_or_over (option_map update_command o) else over) (next_is w k t.who t.family t.edit t.begun.epoch t.begun.editing.decided t.attempt t.write)

    or_more : (a b : Bool) → a ≡ true → (a || b) ≡ true
    or_more true b e = refl
    or_more false b e = never e

    answered_by : more ≡ false → (b : Bool) → is_success r.sw ≡ b → SelectCame
    answered_by e true g =
        let same = turn_is false e in
        let st : new.turn.stage ≡ next (update_command u) = ap (λ (y : Turn). y.stage) same ∙ stage_is final ∙ stage_by true g in
        inl (active_with
        (ap is_over st)
        (ap (λ (y : Turn). y.outcome) same ∙ came_is final ∙ select_came final path first g)
        (ap (λ (y : Turn). y.updated) same ∙ ap (λ (b : Bool). b || is_update_ins (chain_first c k.chain).ins) t.unsent ∙ ap (λ (d : CommandValue). is_update_ins d.ins) first)
        (ready st (chain_is false e) (selected_then path named c x k.selected waits r (or_more (is_success r.sw) (has_more r.sw) g))))
    answered_by e false g =
        let same = turn_is false e in
        inr (
          ap (λ (y : Turn). is_over y.stage) same ∙ ap is_over (stage_is final ∙ stage_by false g),
          ap (λ (y : Turn). is_some y.outcome) same ∙ ap is_some (came_is final) ∙ refused_came final (ap is_reading_select first) g,
        )

    pub select_came_to : SelectCame
    select_came_to = by_more more refl
      where
        by_more : (b : Bool) → more ≡ b → SelectCame
        by_more true e = goes_more e
        by_more false e = answered_by e (is_success r.sw) refl

  -- ---- the update

  module _ (is : c ≡ update_command u) (selected : k.selected ≡ Some path) (unchained : k.chain ≡ None) where
    updates : is_update_ins c.ins ≡ true
    updates = ap (λ (d : CommandValue). is_update_ins d.ins) is

    final_update : chain_first c k.chain ≡ update_command u
    final_update = ap (chain_first c) unchained ∙ is

    no_more : more ≡ false
    no_more = ap (λ (b : Bool). b && nat_lt (chain_count c k.chain + 1) most_exchanges && not (c.ins == 0x20)) (update_answered w c r card updates)

    same_turn : new.turn ≡ turn (Some final)
    same_turn = turn_is false no_more

    -- its turn sends no more
    pub update_over : is_over new.turn.stage ≡ true
    update_over = ap (λ (y : Turn). is_over y.stage) same_turn ∙ ap is_over (stage_is final ∙ ap (λ (d : CommandValue). if is_path_select d && is_success r.sw then next_or_over (option_map update_command (option_and_then next_update (attempt_of job.begun))) else over) final_update)

    -- where it was refused, that is the cause of an answer
    refused_now : is_success r.sw ≡ false → is_some new.turn.outcome ≡ true
    refused_now h = ap (λ (y : Turn). is_some y.outcome) same_turn ∙ ap is_some (came_is final) ∙ refused_came final (ap is_reading_select final_update) h

    abbrev sent_now : Attempt
    sent_now = record t.attempt { sent = t.attempt.sent + 1 }

    editing_is : now_begun.editing ≡ (if is_update c r then updated_by t.family k.selected (k.history.events + 1) c (sent_update near_editing) else sent_update near_editing)
    editing_is =
        ap (λ (o : Option Chain). editing_answered (edit_of op) k.selected (k.history.events + 1) c r (editing_sent c o near_editing)) unchained
        ∙ ap (λ (b : Bool). editing_answered (edit_of op) k.selected (k.history.events + 1) c r (if b then sent_update near_editing else near_editing)) updates
        ∙ ap (λ (o : Option (ℕ × Edit)). editing_answered o k.selected (k.history.events + 1) c r (sent_update near_editing)) op_edits

    sent_attempt : (sent_update near_editing).attempt ≡ Some sent_now
    sent_attempt = ap (option_map (λ (a : Attempt). record a { sent = a.sent + 1 })) near_attempt

    abbrev At : Editing → Type 0
    At editing = EditAt v new t.who t.family t.edit t.begun.epoch editing

    -- nothing is left to send
    over_by : (editing : Editing) → is_some editing.decided ≡ true → editing.attempt ≡ Some sent_now → next_update sent_now ≡ None → At editing
    over_by editing d h none = finished d t.write.lives (ap (owed_of true) h ∙ ap (λ (b : Bool). if true && not b then next_update sent_now else None) t.write.still ∙ none)

    next_sent : (n : ℕ) → t.attempt.sent ≡ n → next_update sent_now ≡ slice_get (plan_updates t.attempt.plan) (suc n)
    next_sent n e = ap (λ (m : ℕ). slice_get (plan_updates t.attempt.plan) (m + 1)) e ∙ ap (slice_get (plan_updates t.attempt.plan)) (more_than n)

    module _ (place : Place) (here : t.write.place ≡ place) where
      at_is : update_at t.attempt.plan place ≡ Some u
      at_is = ap (update_at t.attempt.plan) (sym here) ∙ t.write.at

      sent_is : t.attempt.sent ≡ sent_at t.attempt.plan place
      sent_is = t.write.sent ∙ ap (sent_at t.attempt.plan) here

      behind_is : is_some t.begun.editing.decided ≡ is_back place
      behind_is = t.write.behind ∙ ap is_back here

      now_is : files_in w t.family ≡ files_at t.write.old t.attempt.plan place
      now_is = t.write.now ∙ ap (files_at t.write.old t.attempt.plan) here

    decided_by_place : (d : Option Decided) → t.begun.editing.decided ≡ d → t.write.place ≡ back → is_some d ≡ true
    decided_by_place d e here = ap is_some (sym e) ∙ behind_is back here

    last_sent : t.write.place ≡ back → next_update sent_now ≡ None
    last_sent here = next_sent (sent_at t.attempt.plan back) (sent_is back here) ∙ none_further t.attempt.plan u (at_is back here)

    -- it was refused
    failed_by : (d : Option Decided) → t.begun.editing.decided ≡ d → is_success r.sw ≡ false → At (sent_update near_editing)
    failed_by None e h = refused e turn_actor (refused_now h)
    failed_by (Some d) e h = by_place t.write.place refl
      where
        by_place : (place : Place) → t.write.place ≡ place → At (sent_update near_editing)
        by_place front here = absurd (true≢false (sym (ap is_some e) ∙ behind_is front here))
        by_place middle here = absurd (true≢false (sym (ap is_some e) ∙ behind_is middle here))
        by_place back here = over_by (sent_update near_editing) (ap is_some e) sent_attempt (last_sent here)

    -- ---- it succeeded

    module _ (current : HasCurrent card.card path) (h : is_update c r ≡ true) where
      on : OnBasic w c r card path
      on = record { class = ap (λ (d : CommandValue). d.class) is; ins = ap (λ (d : CommandValue). d.ins) is; now = current }

      row_is : view_in v path ≡ with_row (u.row - 1) u.bytes (view_in w path)
      row_is = view_written w c r card path on h ∙ ap (λ (d : CommandValue). with_row (d.p1 - 1) d.body (view_in w path)) is

      -- one row of the family's files was written
      pub files_written : files_in v t.family ≡ written (files_in w t.family) u
      files_written = by_file file
        where
          by_file : (u.file ≡ 0) ⊎ (u.file ≡ 1) → files_in v t.family ≡ written (files_in w t.family) u
          by_file (inl e) =
              let named : path ≡ family_path t.family 0 = ap (family_path t.family) e in
              written_main w v t.family u e
              (subst (λ (p : List ℕ). view_in v p ≡ with_row (u.row - 1) u.bytes (view_in w p)) named row_is)
              (view_other w c r card path on h (family_path t.family 1) (ap (λ (p : List ℕ). same_bytes p (family_path t.family 1)) named ∙ main_apart t.family book))
          by_file (inr e) =
              let named : path ≡ family_path t.family 1 = ap (family_path t.family) e in
              written_ext w v t.family u e
              (subst (λ (p : List ℕ). view_in v p ≡ with_row (u.row - 1) u.bytes (view_in w p)) named row_is)
              (view_other w c r card path on h (family_path t.family 0) (ap (λ (p : List ℕ). same_bytes p (family_path t.family 0)) named ∙ ext_apart t.family book))

      wrote : (place : Place) → t.write.place ≡ place → files_in v t.family ≡ written (files_at t.write.old t.attempt.plan place) u
      wrote place here = files_written ∙ ap (λ (x : Files). written x u) (now_is place here)

      -- the update of the next place
      next_writing : (editing : Editing) (place : Place) (y : RowUpdate) → editing.attempt ≡ Some sent_now → update_at t.attempt.plan place ≡ Some y → t.attempt.sent + 1 ≡ sent_at t.attempt.plan place → is_some editing.decided ≡ is_back place → files_in v t.family ≡ files_at t.write.old t.attempt.plan place → At editing
      next_writing editing place y q at sent behind now = writing sent_now q (record {
        family = t.write.family;
        rest = t.write.rest;
        paths = t.write.paths;
        still = t.write.still;
        lives = t.write.lives;
        place = place;
        update = y;
        at = at;
        sent = sent;
        behind = behind;
        old = t.write.old;
        plan = t.write.plan;
        now = now;
        fresh = λ z. absurd (true≢false (sym z ∙ not_zero t.attempt.sent));
      })

      abbrev updated : Editing
      updated = updated_by t.family k.selected (k.history.events + 1) c (sent_update near_editing)

      main_is : (b : Bool) → same_bytes (family_path t.family 0) path ≡ b → updated ≡ (if b then decided_by (k.history.events + 1) c (sent_update near_editing) else extended_by c t.begun.editing.decided (sent_update near_editing))
      main_is b e =
          ap (λ (o : Option (List ℕ)). if is_at o (family_path t.family 0) then decided_by (k.history.events + 1) c (sent_update near_editing) else extended_by c t.begun.editing.decided (sent_update near_editing)) selected
          ∙ ap (λ (x : Bool). if x then decided_by (k.history.events + 1) c (sent_update near_editing) else extended_by c t.begun.editing.decided (sent_update near_editing)) e

      on_main : u.file ≡ 0 → same_bytes (family_path t.family 0) path ≡ true
      on_main e = ap (λ (n : ℕ). same_bytes (family_path t.family 0) (family_path t.family n)) e ∙ same_bytes_self (family_path t.family 0)

      on_ext : u.file ≡ 1 → same_bytes (family_path t.family 0) path ≡ false
      on_ext e = ap (λ (n : ℕ). same_bytes (family_path t.family 0) (family_path t.family n)) e ∙ main_apart t.family book

      -- one of the main file decides
      pub decides_main : u.file ≡ 0 → is_some now_begun.editing.decided ≡ true
      decides_main e =
          ap (λ (x : Editing). is_some x.decided)
          (editing_is ∙ ap (λ (b : Bool). if b then updated_by t.family k.selected (k.history.events + 1) c (sent_update near_editing) else sent_update near_editing) h ∙ main_is true (on_main e))

      extended_is : u.file ≡ 1 → (d : Option Decided) → t.begun.editing.decided ≡ d → updated ≡ extended_by c d (sent_update near_editing)
      extended_is e d q = main_is false (on_ext e) ∙ ap (λ (o : Option Decided). extended_by c o (sent_update near_editing)) q

      plus : (n m : ℕ) → t.attempt.sent ≡ n → suc n ≡ m → t.attempt.sent + 1 ≡ m
      plus n m e q = more_than t.attempt.sent ∙ ap suc e ∙ q

      front_counts : (o : Option RowUpdate) → o ≡ Some u → suc 0 ≡ counted o
      front_counts None e = absurd (cc)
      front_counts (Some x) e = refl

      front_done : t.write.place ≡ front → (d : Option Decided) → t.begun.editing.decided ≡ d → At updated
      front_done here None e =
          let x = extended_is (files.before u (at_is front here)) None e in
          subst At (sym x) (next_writing (extended_by c None (sent_update near_editing)) middle t.attempt.plan.deciding sent_attempt refl
          (plus 0 (sent_at t.attempt.plan middle) (sent_is front here) (front_counts t.attempt.plan.before (at_is front here))) (ap is_some e)
          (wrote front here ∙ sym (ap (written_some t.write.old) (at_is front here))))
      front_done here (Some d) e = absurd (true≢false (sym (ap is_some e) ∙ behind_is front here))

      deciding_is : t.write.place ≡ middle → u ≡ t.attempt.plan.deciding
      deciding_is here = let q : Some t.attempt.plan.deciding ≡ Some u = at_is middle here in cc

      middle_done : t.write.place ≡ middle → (o : Option RowUpdate) → t.attempt.plan.after ≡ o → At updated
      middle_done here None e =
          let f : u.file ≡ 0 = ap (λ (y : RowUpdate). y.file) (deciding_is here) ∙ files.deciding in
          subst At (sym (main_is true (on_main f))) (over_by (decided_by (k.history.events + 1) c (sent_update near_editing)) refl sent_attempt
          (next_sent (sent_at t.attempt.plan middle) (sent_is middle here) ∙ none_behind t.attempt.plan e))
      middle_done here (Some y) e =
          let f : u.file ≡ 0 = ap (λ (x : RowUpdate). x.file) (deciding_is here) ∙ files.deciding in
          subst At (sym (main_is true (on_main f))) (next_writing (decided_by (k.history.events + 1) c (sent_update near_editing)) back y sent_attempt e
          (plus (sent_at t.attempt.plan middle) (sent_at t.attempt.plan back) (sent_is middle here) refl) refl
          (wrote middle here ∙ ap (written (files_at t.write.old t.attempt.plan middle)) (deciding_is here)))

      back_done : t.write.place ≡ back → (d : Option Decided) → t.begun.editing.decided ≡ d → At updated
      back_done here None e = absurd (true≢false (sym (behind_is back here) ∙ ap is_some e))
      back_done here (Some d) e =
          let x = extended_is (files.after u (at_is back here)) (Some d) e in
          subst At (sym x) (over_by (extended_by c (Some d) (sent_update near_editing)) refl sent_attempt (last_sent here))

      updated_at : At updated
      updated_at = by_place t.write.place refl
        where
          by_place : (place : Place) → t.write.place ≡ place → At updated
          by_place front here = front_done here t.begun.editing.decided refl
          by_place middle here = middle_done here t.attempt.plan.after refl
          by_place back here = back_done here t.begun.editing.decided refl

    success_of : (b : Bool) → is_update c r ≡ b → is_success r.sw ≡ b
    success_of b e = sym (ap (λ (x : Bool). x && is_success r.sw) updates) ∙ e

    -- how far the edit is behind its update
    pub updated_edit : HasCurrent card.card path → At now_begun.editing
    updated_edit current = by_update (is_update c r) refl
      where
        by_update : (b : Bool) → is_update c r ≡ b → At now_begun.editing
        by_update true e = subst At (sym (editing_is ∙ ap (λ (b : Bool). if b then updated_by t.family k.selected (k.history.events + 1) c (sent_update near_editing) else sent_update near_editing) e)) (updated_at current e)
        by_update false e = subst At (sym (editing_is ∙ ap (λ (b : Bool). if b then updated_by t.family k.selected (k.history.events + 1) c (sent_update near_editing) else sent_update near_editing) e)) (failed_by t.begun.editing.decided refl (success_of false e))
