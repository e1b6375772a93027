-- How far each edit is, line by line.
use Rattle.std.proofs.Common.{◌≡◌, inl, inr, ℕ, ◌==◌, ◌&&◌, ◌||◌, Bool, true, false, if◌then◌else◌, Option, Some, None, is_some, List, [], ◌∷◌, ◌++◌, refl, sym, ap, ◌∙◌, subst, true≢false}
use Rattle.std.proofs.lemmas.Bool.{and_parts, eqb-true}
use Rattle.apdu.specs.Values.{CommandValue}
use Rattle.apdu.specs.Words.{or_else}
use Rattle.rules.specs.declared.kept.Outcome.{Outcome}
use Rattle.fcp.specs.Content.{Content}
use Rattle.fcp.specs.declared.rule.Need.{Need}
use Rattle.fcp.specs.declared.rule.Need.TheVariants.{Always, Never, Key}
use Rattle.card_model.specs.declared.world.World.{World}
use Rattle.script_reader.specs.declared.types.Script.{Script}
use Rattle.script_reader.specs.declared.types.Operation.{Operation}
use Rattle.script_reader.specs.declared.types.Operation.TheVariants as operation
use Rattle.report.specs.declared.line.Line.{Line}
use Rattle.report.specs.declared.line.Line.TheVariants as line
use Rattle.adn.specs.declared.edit.Edit.{Edit}
use Rattle.adn.specs.declared.edit.Edit.TheVariants as edit
use Rattle.families.specs.Families.{family_path, family_paths}
use Rattle.epoch_cache.specs.declared.past.Past.{Past}
use Rattle.link.specs.declared.chain.Final.{Final}
use Rattle.loader.specs.declared.reading.RefusedReading.{RefusedReading}
use Rattle.rules.specs.declared.kept.Turn.{Turn}
use Rattle.rules.specs.Channels.{held_numbers}
use Rattle.epoch_cache.specs.declared.cached.Touch.{Touch}
use Rattle.epoch_cache.specs.Cache.{is_moved, moves_one}
use Rattle.rules.specs.declared.due.Due.{Due}
use Rattle.rules.specs.declared.due.Due.TheVariants.{TellEnd as tell_end, Send as send}
use Rattle.rules.specs.declared.kept.Begun.{Begun}
use Rattle.rules.specs.declared.kept.Facts.{Facts}
use Rattle.rules.specs.declared.kept.Job.{Job}
use Rattle.rules.specs.declared.kept.Kept.{Kept}
use Rattle.rules.specs.declared.kept.Stage.{Stage}
use Rattle.rules.specs.declared.kept.Stage.TheVariants.{Fresh as fresh, Next as next, Resetting as resetting, Over as over}
use Rattle.rules.specs.declared.kept.Work.{Work}
use Rattle.rules.specs.declared.kept.Work.TheVariants.{Rests as rests, Writes as writes}
use Rattle.rules.specs.History.{is_living, lives_in}
use Rattle.rules.specs.Sessions.{lacking_key}
use Rattle.rules.specs.Kept.{begun_of, job_of, operation_at, operation_now, begun_operation}
use Rattle.rules.specs.Editing.{family_edit}
use Rattle.rules.specs.Work.{decides, edit_work, work_of_edit}
use Rattle.rules.specs.After.{edit_of, opened_behind, outcome_of, decision_of_begun, facts_of, refused_of, jobs_beside, kept_after, kept_of}
use Rattle.rules.specs.Due.{due_command, due_by_end, due_by_command, due, due_answer, answer_of_actor, answer_of_begun, answer_of, edit_answer}
use Rattle.rules.specs.Rules.{turn_operation, operation_in_turn}
use Rattle.rules.specs.State.{view_in}
use Rattle.performed.proofs.CalmKinds.{Sends, Fits, is_writer, IsOfTurn}
use Rattle.performed.proofs.CalmLines.{turn_by}
use Rattle.performed.proofs.CalmSends.{never}
use Rattle.performed.proofs.EditsBegun.{Came, stays, marks, begins, exchanges, fails}
use Rattle.performed.proofs.EditsMarks.{refused_answers}
use Rattle.performed.proofs.EditsScript.{IsEdit, edit_is, Edits, sets, clears, edits_by}
use Rattle.performed.proofs.EditsSends.{is_book, sends_still}
use Rattle.performed.proofs.EditsState.{files_in, is_over, IsFresh, Edited}
use Rattle.performed.proofs.TurnsSays.{IsDone}

-- ---- what was due had no command before it

abbrev is_behind : Due → Bool
is_behind (tell_end e n) = false
is_behind (send c) = false
is_behind d = true

pub behind_command : (s : Script) (k : Kept) (d : Due) → due s k ≡ d → is_behind d ≡ true → due_command k ≡ None
behind_command s k d e h = by_end k.turn.ended (due_command k) refl (ap is_behind e ∙ h)
  where
    by_end : (x : Option (ℕ × ℕ)) (o : Option CommandValue) → due_command k ≡ o → is_behind (due_by_end s k x) ≡ true → due_command k ≡ None
    by_end x None q n = q
    by_end (Some (a, b)) (Some c) q n = never n
    by_end None (Some c) q n = never (sym (ap (λ (o : Option CommandValue). is_behind (due_by_command s k o)) q) ∙ n)

-- ---- the begun of an actor, behind a line

pub data Origin (s : Script) (l : Line) (k : Kept) (i : ℕ) (now : Begun) : Type 0 where
  was : (b : Begun) → begun_of i k.jobs ≡ Some b → now.index ≡ b.index → now.epoch ≡ b.epoch → Origin s l k i now
  newly : (a n : ℕ) → a ≡ i → l ≡ line.Begin a n → now.index ≡ n → now.epoch ≡ (if k.history.living then Some k.history.epoch else None) → Origin s l k i now

pub origin : (s : Script) (l : Line) (k : Kept) (i : ℕ) (now : Begun) → Came s l k i now → Origin s l k i now
origin s l k i now (stays b here other is) = was b here (ap (λ (x : Begun). x.index) is) (ap (λ (x : Begun). x.epoch) is)
origin s l k i now (marks a b own e here is) = was b here (ap (λ (x : Begun). x.index) is) (ap (λ (x : Begun). x.epoch) is)
origin s l k i now (begins a n own e is) = newly a n own e (ap (λ (x : Begun). x.index) is) (ap (λ (x : Begun). x.epoch) is)
origin s l k i now (exchanges a c r b own e here is) = was b here (ap (λ (x : Begun). x.index) is) (ap (λ (x : Begun). x.epoch) is)
origin s l k i now (fails a c d b own e here is) = was b here (ap (λ (x : Begun). x.index) is) (ap (λ (x : Begun). x.epoch) is)

-- ---- the decision of an edit

pub decides_edit : (k : Kept) (a : ℕ) (b : Begun) (o : Option Operation) (f : ℕ) (e : Edit) → edit_of o ≡ Some (f, e) → decision_of_begun k a (Some b) o ≡ (elim (lives_in k.history b.epoch) [ true ↦ edit_work k a f e b.editing | false ↦ decides rests ])
decides_edit k a b o f e h = by_edit (edit_is o f e h)
  where
    by_op : (op : Operation) → family_edit op ≡ Some (f, e) → Edits op f e → decision_of_begun k a (Some b) (Some op) ≡ (elim (lives_in k.history b.epoch) [ true ↦ edit_work k a f e b.editing | false ↦ decides rests ])
    by_op op q (sets at name number is) = subst (λ (x : Operation). family_edit x ≡ Some (f, e) → decision_of_begun k a (Some b) (Some x) ≡ (elim (lives_in k.history b.epoch) [ true ↦ edit_work k a f e b.editing | false ↦ decides rests ])) (sym is) (λ z. ap (work_of_edit k a b) z) q
    by_op op q (clears at is) = subst (λ (x : Operation). family_edit x ≡ Some (f, e) → decision_of_begun k a (Some b) (Some x) ≡ (elim (lives_in k.history b.epoch) [ true ↦ edit_work k a f e b.editing | false ↦ decides rests ])) (sym is) (λ z. ap (work_of_edit k a b) z) q

    by_edit : IsEdit o f e → decision_of_begun k a (Some b) o ≡ (elim (lives_in k.history b.epoch) [ true ↦ edit_work k a f e b.editing | false ↦ decides rests ])
    by_edit x = ap (decision_of_begun k a (Some b)) x.is ∙ by_op x.op x.edits (edits_by x.op f e x.edits)

-- ---- a turn that ends, or that begins an operation, has nothing to write and no edit that was refused

-- what is due of an edit whose turn it is
pub edit_answers : (s : Script) (k : Kept) (i : ℕ) (b : Begun) (f : ℕ) (e : Edit) → k.turn.actor ≡ Some i → begun_of i k.jobs ≡ Some b → edit_of (operation_at s i b.index) ≡ Some (f, e) → due_answer s k ≡ edit_answer b k.turn b.editing.decided
edit_answers s k i b f e actor here op =
    let x = edit_is (operation_at s i b.index) f e op in
    ap (answer_of_actor s k) actor
    ∙ ap (λ (o : Option Begun). answer_of_begun k i o (begun_operation s i o)) here
    ∙ ap (λ (o : Option Operation). answer_of_begun k i (Some b) o) x.is
    ∙ by_op x.op (edits_by x.op f e x.edits)
  where
    by_op : (op : Operation) → Edits op f e → answer_of k i (job_of i k.jobs) b op ≡ edit_answer b k.turn b.editing.decided
    by_op op (sets at name number is) = subst (λ (x : Operation). answer_of k i (job_of i k.jobs) b x ≡ edit_answer b k.turn b.editing.decided) (sym is) refl
    by_op op (clears at is) = subst (λ (x : Operation). answer_of k i (job_of i k.jobs) b x ≡ edit_answer b k.turn b.editing.decided) (sym is) refl

module _ (s : Script) (w : World) (k : Kept) (t : Edited s w k) (done : IsDone s k) where
  pub done_unfresh : (i : ℕ) → IsFresh k.turn i → ⊥
  done_unfresh i q = true≢false (sym (sends_still s w k q.work (t.active q.work q.goes)) ∙ ap is_some done.command)

  pub done_unrefused : (i : ℕ) (b : Begun) (f : ℕ) (e : Edit) → begun_of i k.jobs ≡ Some b → edit_of (operation_at s i b.index) ≡ Some (f, e) → b.editing.decided ≡ None → k.turn.actor ≡ Some i → is_some k.turn.outcome ≡ true → ⊥
  done_unrefused i b f e here op d actor h =
      true≢false (sym (refused_answers k b d h) ∙ ap is_some (sym (edit_answers s k i b f e actor here op)) ∙ ap is_some done.answer)

-- ---- what a line moves

quiet_files : (w : World) (f : ℕ) → files_in w f ≡ files_in w f
quiet_files w f = refl

-- a book has files
pub moves_book : (t : Touch) (f : ℕ) (rest : List (List ℕ)) → is_book f ≡ true → ((path : List ℕ) → is_moved t path ≡ true) → moves_one t (family_paths f ++ rest) ≡ true
moves_book t f rest h all = by_book (1 == f) (2 == f) refl refl h
  where
    by_book : (b c : Bool) → (1 == f) ≡ b → (2 == f) ≡ c → (b || (c || false)) ≡ true → moves_one t (family_paths f ++ rest) ≡ true
    by_book true c x y z = subst (λ (n : ℕ). moves_one t (family_paths n ++ rest) ≡ true) (eqb-true 1 f x) (first (family_path 1 0) (family_path 1 1 ∷ rest))
      where
        first : (path : List ℕ) (paths : List (List ℕ)) → moves_one t (path ∷ paths) ≡ true
        first path paths = ap (λ (b : Bool). b || moves_one t paths) (all path)
    by_book false true x y z = subst (λ (n : ℕ). moves_one t (family_paths n ++ rest) ≡ true) (eqb-true 2 f y) (first (family_path 2 0) (family_path 2 1 ∷ rest))
      where
        first : (path : List ℕ) (paths : List (List ℕ)) → moves_one t (path ∷ paths) ≡ true
        first path paths = ap (λ (b : Bool). b || moves_one t paths) (all path)
    by_book false false x y z = never z

pub files_by : (w v : World) (f : ℕ) → view_in v (family_path f 0) ≡ view_in w (family_path f 0) → view_in v (family_path f 1) ≡ view_in w (family_path f 1) → files_in v f ≡ files_in w f
files_by w v f a b = ap (λ (x : Content). record { main = x; ext = view_in v (family_path f 1) }) a ∙ ap (λ (x : Content). record { main = view_in w (family_path f 0); ext = x }) b

-- the two at a place
pub living_lives : (h : Past) (o : Option ℕ) → lives_in h o ≡ true → h.living ≡ true
living_lives h None q = never q
living_lives h (Some n) q = (and_parts h.living (h.epoch == n) q).0

pub fresh_lives : (h : Past) (o : Option ℕ) (b : Bool) → lives_in h o ≡ true → h.living ≡ false → ⊥
fresh_lives h None b q e = true≢false (sym q)
fresh_lives h (Some n) b q e = true≢false (sym q ∙ ap (λ (x : Bool). x && (h.epoch == n)) e)

-- ---- the operation that writes

-- a turn that has still to write is that of an edit
pub record Writer (s : Script) (k : Kept) : Type 0 where
  pub who : ℕ
  pub actor : k.turn.actor ≡ Some who
  pub begun : Begun
  pub here : begun_of who k.jobs ≡ Some begun
  pub family : ℕ
  pub edit : Edit
  pub op : edit_of (operation_at s who begun.index) ≡ Some (family, edit)

pub writes_what : (o : Option Operation) → is_writer o ≡ true → (f : ℕ) × ((e : Edit) × (edit_of o ≡ Some (f, e)))
writes_what None h = never h
writes_what (Some (operation.Set f at name number)) h = (f, (edit.Set at (record { name = name; number = number }), refl))
writes_what (Some (operation.Clear f at)) h = (f, (edit.Clear at, refl))
writes_what (Some (operation.Insert card)) h = never h
writes_what (Some operation.Out) h = never h
writes_what (Some (operation.Arm change)) h = never h
writes_what (Some (operation.Load g)) h = never h
writes_what (Some (operation.OpenChannel handle aid)) h = never h
writes_what (Some (operation.Raw handle apdu)) h = never h
writes_what (Some (operation.Close handle)) h = never h
writes_what (Some (operation.Verify key pin)) h = never h
writes_what (Some (operation.End key)) h = never h
writes_what (Some operation.Poll) h = never h
writes_what (Some operation.Look) h = never h
writes_what (Some (operation.Watch mask)) h = never h
writes_what (Some operation.Notices) h = never h

writer_by : (s : Script) (k : Kept) (o : Option ℕ) → k.turn.actor ≡ o → is_writer (operation_in_turn s k o) ≡ true → Writer s k
writer_by s k None e h = never h
writer_by s k (Some a) e h = by_begun (begun_of a k.jobs) refl h
  where
    by_begun : (o : Option Begun) → begun_of a k.jobs ≡ o → is_writer (begun_operation s a o) ≡ true → Writer s k
    by_begun None q n = never n
    by_begun (Some b) q n =
        let x = writes_what (operation_at s a b.index) n in
        record { who = a; actor = e; begun = b; here = q; family = x.0; edit = x.1.0; op = x.1.1 }

pub writer_of : (s : Script) (k : Kept) → Sends s k → k.turn.work ≡ writes → k.turn.stage ≡ fresh → Writer s k
writer_of s k t work stage =
    let fits : Fits (is_living k.history) k.handles k.turn.actor (turn_operation s k) k.turn.opened writes fresh =
    subst (λ (x : Work). Fits (is_living k.history) k.handles k.turn.actor (turn_operation s k) k.turn.opened x fresh) work
    (subst (λ (x : Stage). Fits (is_living k.history) k.handles k.turn.actor (turn_operation s k) k.turn.opened k.turn.work x) stage t.fits) in
    writer_by s k k.turn.actor refl fits.1

-- a turn whose command follows has not sent all
pub sends_on : (k : Kept) (c : CommandValue) → IsOfTurn k.turn.work k.turn.stage c → is_over k.turn.stage ≡ false
sends_on k c x = by_stage k.turn.stage x
  where
    by_stage : (stage : Stage) → IsOfTurn k.turn.work stage c → is_over stage ≡ false
    by_stage fresh y = refl
    by_stage (next d) y = refl
    by_stage resetting y = refl
    by_stage over (inl y) = absurd (let e : None ≡ Some y.first = y.at in cc)
    by_stage over (inr (inl y)) = absurd (let e : over ≡ fresh = y.begins in cc)
    by_stage over (inr (inr y)) = absurd (let e : over ≡ fresh = y.begins in cc)

-- ---- a turn that has done nothing

pub record IsBare (t : Turn) : Type 0 where
  pub stage : t.stage ≡ fresh
  pub came : t.outcome ≡ None
  pub unsent : t.updated ≡ false

turn_bare : (op : Option Operation) (job : Job) (held : List ℕ) (facts : Facts) (told : Option RefusedReading) (t : Turn) (o : Option Final) → (turn_by op job held facts told t o).bare ≡ false
turn_bare op job held facts told t None = refl
turn_bare op job held facts told t (Some f) = refl

pub turn_work : (op : Option Operation) (job : Job) (held : List ℕ) (facts : Facts) (told : Option RefusedReading) (t : Turn) (o : Option Final) → (turn_by op job held facts told t o).work ≡ t.work
turn_work op job held facts told t None = refl
turn_work op job held facts told t (Some f) = refl

or_came : (o p : Option Outcome) → is_some o ≡ true → is_some (or_else o p) ≡ true
or_came None p h = never h
or_came (Some x) p h = refl

pub turn_came : (op : Option Operation) (job : Job) (held : List ℕ) (facts : Facts) (told : Option RefusedReading) (t : Turn) (o : Option Final) → is_some t.outcome ≡ true → is_some (turn_by op job held facts told t o).outcome ≡ true
turn_came op job held facts told t None h = h
turn_came op job held facts told t (Some f) h = or_came t.outcome (outcome_of op (opened_behind held f t.opened) f) h

pub bare_of : (s : Script) (lines : List Line) → (kept_of s lines).turn.bare ≡ true → IsBare (kept_of s lines).turn
bare_of s [] h = never h
bare_of s (line.Turn a ∷ e) h = record { stage = refl; came = refl; unsent = refl }
bare_of s (line.Begin a i ∷ e) h = never h
bare_of s (line.Exchange a c r ∷ e) h =
    let l : Line = line.Exchange a c r in
    let k : Kept = kept_of s e in
    let facts : Facts = facts_of s l k in
    never (sym (turn_bare (operation_now s a k.jobs) (job_of a (kept_after s l k).jobs) (held_numbers k.history k.handles) facts (refused_of k.selected (jobs_beside l k.history.epoch facts k.selected k.jobs) facts.answered) k.turn facts.answered) ∙ h)
bare_of s (line.Failed a c d ∷ e) h = never h
bare_of s (line.Reset a ∷ e) h = never h
bare_of s (line.ResetFailed a ∷ e) h = never h
bare_of s (line.World a x ∷ e) h = never h
bare_of s (line.Published n f v p text ∷ e) h = never h
bare_of s (line.EpochEnd n v p ∷ e) h = never h
bare_of s (line.Refused f n ∷ e) h = never h
bare_of s (line.Answered a i given ∷ e) h = never h

pub turn_lacks : (s : Script) (k : Kept) (a i : ℕ) (need : Need) → lacking_key (kept_after s (line.Turn a) k).history i (kept_after s (line.Turn a) k).sessions need ≡ lacking_key k.history i k.sessions need
turn_lacks s k a i Always = refl
turn_lacks s k a i Never = refl
turn_lacks s k a i (Key key) = refl

pub begin_lacks : (s : Script) (k : Kept) (a n i : ℕ) (need : Need) → lacking_key (kept_after s (line.Begin a n) k).history i (kept_after s (line.Begin a n) k).sessions need ≡ lacking_key k.history i k.sessions need
begin_lacks s k a n i Always = refl
begin_lacks s k a n i Never = refl
begin_lacks s k a n i (Key key) = refl
