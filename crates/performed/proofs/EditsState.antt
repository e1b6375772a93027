-- How far an edit is, and what lines leave of that.
use Rattle.std.proofs.Common.{◌≡◌, ℕ, ◌==◌, ◌||◌, Bool, true, false, if◌then◌else◌, Option, Some, None, is_some, Ok, List, [], ◌∷◌, ◌++◌, refl, sym, ap, ◌∙◌, true≢false}
use Rattle.std.specs.Prelude.{slice_get}
use Rattle.card_model.specs.declared.world.CardState.{CardState}
use Rattle.card_model.specs.declared.world.World.{World}
use Rattle.card_model.specs.Step.{card_inside}
use Rattle.script_reader.specs.declared.types.Script.{Script}
use Rattle.report.specs.declared.line.Line.{Line}
use Rattle.adn.specs.declared.edit.Edit.{Edit}
use Rattle.adn.specs.declared.edit.RowUpdate.{RowUpdate}
use Rattle.families.specs.Families.{family_paths, family_path}
use Rattle.families.specs.Plans.{plan_edit, plan_updates}
use Rattle.book_plans.specs.Phonebook.{Files}
use Rattle.link.specs.declared.chain.Chain.{Chain}
use Rattle.link.specs.Commands.{select_only}
use Rattle.apdu.specs.Apdu.{get_response_ins}
use Rattle.epoch_cache.specs.declared.cached.Touch.{Touch}
use Rattle.epoch_cache.specs.Cache.{is_moved, moves_one}
use Rattle.editor.specs.declared.editing.Attempt.{Attempt}
use Rattle.editor.specs.declared.editing.Decided.{Decided}
use Rattle.editor.specs.declared.editing.Editing.{Editing}
use Rattle.editor.specs.Editing.{next_update, update_command, card_need, moved_attempt, attempt_behind, moved_editing, owed_of}
use Rattle.rules.specs.declared.kept.Begun.{Begun}
use Rattle.rules.specs.declared.kept.Kept.{Kept}
use Rattle.rules.specs.declared.kept.Stage.{Stage}
use Rattle.rules.specs.declared.kept.Stage.TheVariants.{Fresh as fresh, Next as next, Resetting as resetting, Over as over}
use Rattle.rules.specs.declared.kept.Turn.{Turn}
use Rattle.rules.specs.declared.kept.Work.TheVariants.{Writes as writes}
use Rattle.rules.specs.History.{lives_in}
use Rattle.rules.specs.Kept.{begun_of, operation_at}
use Rattle.rules.specs.Sessions.{lacking_key}
use Rattle.rules.specs.After.{edit_of, facts_of, kept_after}
use Rattle.rules.specs.State.{view_in}
use Rattle.performed.proofs.CalmKinds.{IsExchangeOf}
use Rattle.performed.proofs.EpochPast.{IsPast, past_stays}
use Rattle.performed.proofs.EditsPlan.{Place, update_at, sent_at, is_back, files_at, next_at}

-- ---- what is known of an edit

-- the two files of a family on the card in the slot
abbrev pub files_in : World → ℕ → Files
files_in w f = record { main = view_in w (family_path f 0); ext = view_in w (family_path f 1) }

abbrev pub is_over : Stage → Bool
is_over over = true
is_over fresh = false
is_over (next c) = false
is_over resetting = false

-- it is the actor's turn, which has still to write
pub record IsFresh (t : Turn) (i : ℕ) : Type 0 where
  pub actor : t.actor ≡ Some i
  pub work : t.work ≡ writes
  pub goes : is_over t.stage ≡ false

-- the attempt's next update stands at a place of its plan, and the card's two files are those that it was planned for with the updates
-- before that place written; where none was sent, the turn is still that in which it was planned
pub record IsWriting (w : World) (k : Kept) (i f : ℕ) (e : Edit) (epoch : Option ℕ) (decided : Option Decided) (a : Attempt) : Type 0 where
  pub family : a.family ≡ f
  pub rest : List (List ℕ)
  pub paths : a.paths ≡ family_paths f ++ rest
  pub still : a.moved ≡ false
  pub lives : lives_in k.history epoch ≡ true
  pub place : Place
  pub update : RowUpdate
  pub at : update_at a.plan place ≡ Some update
  pub sent : a.sent ≡ sent_at a.plan place
  pub behind : is_some decided ≡ is_back place
  pub old : Files
  pub plan : plan_edit e old.main old.ext ≡ Ok a.plan
  pub now : files_in w f ≡ files_at old a.plan place
  pub fresh : (a.sent == 0) ≡ true → IsFresh k.turn i

pub data EditAt (w : World) (k : Kept) (i f : ℕ) (e : Edit) (epoch : Option ℕ) (editing : Editing) : Type 0 where
  -- no attempt is under way
  unplanned : editing.attempt ≡ None → editing.decided ≡ None → EditAt w k i f e epoch editing
  writing : (a : Attempt) → editing.attempt ≡ Some a → IsWriting w k i f e epoch editing.decided a → EditAt w k i f e epoch editing
  -- a command was refused in the turn under way
  refused : editing.decided ≡ None → k.turn.actor ≡ Some i → is_some k.turn.outcome ≡ true → EditAt w k i f e epoch editing
  -- decided, and nothing is left to send
  finished : is_some editing.decided ≡ true → lives_in k.history epoch ≡ true → owed_of true editing.attempt ≡ None → EditAt w k i f e epoch editing
  -- its epoch has ended
  past : IsPast k.history epoch → EditAt w k i f e epoch editing

pub next_is : (w : World) (k : Kept) (i f : ℕ) (e : Edit) (epoch : Option ℕ) (decided : Option Decided) (a : Attempt) (t : IsWriting w k i f e epoch decided a) → next_update a ≡ Some t.update
next_is w k i f e epoch decided a t = ap (slice_get (plan_updates a.plan)) t.sent ∙ next_at a.plan t.place t.update t.at

-- ---- the turn of an edit that has still to write

-- the exchanges of the SELECT of its file
pub record IsSelecting (k : Kept) (path : List ℕ) (chain : Chain) : Type 0 where
  pub first : chain.first ≡ select_only path
  pub next : IsExchangeOf (select_only path) chain.next
  pub waits : chain.next.ins ≡ get_response_ins → k.selected ≡ Some path

pub data Phase (k : Kept) (path : List ℕ) (u : RowUpdate) : Type 0 where
  begins : k.turn.stage ≡ fresh → k.chain ≡ None → Phase k path u
  selecting : k.turn.stage ≡ fresh → (chain : Chain) → k.chain ≡ Some chain → IsSelecting k path chain → Phase k path u
  ready : k.turn.stage ≡ next (update_command u) → k.chain ≡ None → k.selected ≡ Some path → Phase k path u

-- the actor holds the session that the card asks for
abbrev pub Allowed : World → Kept → ℕ → List ℕ → Type 0
Allowed w k i path = (card : CardState) → card_inside w ≡ Some card → lacking_key k.history i k.sessions (card_need card path) ≡ None

pub record IsActive (s : Script) (w : World) (k : Kept) : Type 0 where
  pub who : ℕ
  pub actor : k.turn.actor ≡ Some who
  pub begun : Begun
  pub here : begun_of who k.jobs ≡ Some begun
  pub family : ℕ
  pub edit : Edit
  pub op : edit_of (operation_at s who begun.index) ≡ Some (family, edit)
  pub attempt : Attempt
  pub there : begun.editing.attempt ≡ Some attempt
  pub write : IsWriting w k who family edit begun.epoch begun.editing.decided attempt
  pub came : k.turn.outcome ≡ None
  pub unsent : k.turn.updated ≡ false
  pub allowed : (attempt.sent == 0) ≡ true → Allowed w k who (family_path family write.update.file)
  pub phase : Phase k (family_path family write.update.file) write.update

-- ---- all of it

pub record Edited (s : Script) (w : World) (k : Kept) : Type 0 where
  pub edits : (i : ℕ) (b : Begun) (f : ℕ) (e : Edit) → begun_of i k.jobs ≡ Some b → edit_of (operation_at s i b.index) ≡ Some (f, e) → EditAt w k i f e b.epoch b.editing
  pub active : k.turn.work ≡ writes → is_over k.turn.stage ≡ false → IsActive s w k
  -- one edit of a family at a time
  pub alone : (i j : ℕ) (b c : Begun) (f : ℕ) (d e : Edit) → begun_of i k.jobs ≡ Some b → begun_of j k.jobs ≡ Some c → edit_of (operation_at s i b.index) ≡ Some (f, d) → edit_of (operation_at s j c.index) ≡ Some (f, e) → is_some b.epoch ≡ true → is_some c.epoch ≡ true → i ≡ j

-- ---- what a line does to every edit

-- what it leaves, for the edit of an actor, where it ends no epoch
pub record Leaves (s : Script) (l : Line) (w v : World) (k : Kept) (i f : ℕ) : Type 0 where
  pub files : (rest : List (List ℕ)) → moves_one (facts_of s l k).touch (family_paths f ++ rest) ≡ false → files_in v f ≡ files_in w f
  pub lives : (epoch : Option ℕ) → lives_in k.history epoch ≡ true → lives_in (kept_after s l k).history epoch ≡ true
  pub refused : k.turn.actor ≡ Some i → is_some k.turn.outcome ≡ true → ((kept_after s l k).turn.actor ≡ Some i) × (is_some (kept_after s l k).turn.outcome ≡ true)

-- what is owed no more stays so
pub owed_moved : (t : Touch) (d : Option Decided) (o : Option Attempt) → is_some d ≡ true → owed_of true o ≡ None → owed_of true (attempt_behind t d o) ≡ None
owed_moved t d None h q = refl
owed_moved t None (Some a) h q = absurd (true≢false (sym h))
owed_moved t (Some d) (Some a) h q = by_moves (moves_one t a.paths)
  where
    by_moves : (b : Bool) → owed_of true (if b then Some (record a { moved = true }) else Some a) ≡ None
    by_moves true = refl
    by_moves false = q

module _ (s : Script) (l : Line) (w v : World) (k : Kept) (i f : ℕ) (e : Edit) (t : Leaves s l w v k i f) (epoch : Option ℕ) where
  -- the turn goes on in which an attempt was planned of which nothing was sent
  abbrev pub Goes : Editing → Type 0
  Goes editing = (a : Attempt) → editing.attempt ≡ Some a → (a.sent == 0) ≡ true → IsFresh k.turn i → IsFresh (kept_after s l k).turn i

  abbrev touch : Touch
  touch = (facts_of s l k).touch

  abbrev After : Editing → Type 0
  After editing = EditAt v (kept_after s l k) i f e epoch (moved_editing touch editing)

  still_writing : (decided : Option Decided) (a : Attempt) (q : IsWriting w k i f e epoch decided a) → moves_one touch a.paths ≡ false → ((a.sent == 0) ≡ true → IsFresh k.turn i → IsFresh (kept_after s l k).turn i) → IsWriting v (kept_after s l k) i f e epoch decided a
  still_writing decided a q m going = record {
    family = q.family;
    rest = q.rest;
    paths = q.paths;
    still = q.still;
    lives = t.lives epoch q.lives;
    place = q.place;
    update = q.update;
    at = q.at;
    sent = q.sent;
    behind = q.behind;
    old = q.old;
    plan = q.plan;
    now = t.files q.rest (ap (moves_one touch) (sym q.paths) ∙ m) ∙ q.now;
    fresh = λ h. going h (q.fresh h);
  }

  attempt_is : (editing : Editing) (a : Attempt) (moves : Bool) → editing.attempt ≡ Some a → moves_one touch a.paths ≡ moves → (moved_editing touch editing).attempt ≡ (if moves then moved_attempt editing.decided a else Some a)
  attempt_is editing a moves h m = ap (attempt_behind touch editing.decided) h ∙ ap (λ (b : Bool). if b then moved_attempt editing.decided a else Some a) m

  -- an attempt whose files were moved is given up, or is over
  moved_by : (editing : Editing) (a : Attempt) (d : Option Decided) → editing.decided ≡ d → editing.attempt ≡ Some a → moves_one touch a.paths ≡ true → lives_in k.history epoch ≡ true → After editing
  moved_by editing a None e h m lives = unplanned (attempt_is editing a true h m ∙ ap (λ (x : Option Decided). moved_attempt x a) e) e
  moved_by editing a (Some d) e h m lives =
      finished (ap is_some e) (t.lives epoch lives) (ap (owed_of true) (attempt_is editing a true h m ∙ ap (λ (x : Option Decided). moved_attempt x a) e))

  writing_by : (editing : Editing) (a : Attempt) (moves : Bool) → editing.attempt ≡ Some a → IsWriting w k i f e epoch editing.decided a → moves_one touch a.paths ≡ moves → Goes editing → After editing
  writing_by editing a true h q m going = moved_by editing a editing.decided refl h m q.lives
  writing_by editing a false h q m going = writing a (attempt_is editing a false h m) (still_writing editing.decided a q m (going a h))

  pub finished_left : (editing : Editing) → is_some editing.decided ≡ true → lives_in k.history epoch ≡ true → owed_of true editing.attempt ≡ None → After editing
  finished_left editing d lives owed = finished d (t.lives epoch lives) (owed_moved touch editing.decided editing.attempt d owed)

  pub edit_left : (editing : Editing) → Goes editing → EditAt w k i f e epoch editing → After editing
  edit_left editing going (unplanned a d) = unplanned (ap (attempt_behind touch editing.decided) a) d
  edit_left editing going (writing a h q) = writing_by editing a (moves_one touch a.paths) h q refl going
  edit_left editing going (refused d actor came) = let r = t.refused actor came in refused d r.0 r.1
  edit_left editing going (finished d lives owed) = finished d (t.lives epoch lives) (owed_moved touch editing.decided editing.attempt d owed)
  edit_left editing going (past x) = past (past_stays l k.history epoch x)

-- ---- what moves nothing

pub none_moved : (t : Touch) → ((path : List ℕ) → is_moved t path ≡ false) → (paths : List (List ℕ)) → moves_one t paths ≡ false
none_moved t h [] = refl
none_moved t h (path ∷ paths) = ap (λ (b : Bool). b || moves_one t paths) (h path) ∙ none_moved t h paths

pub unmoved_attempt : (t : Touch) → ((path : List ℕ) → is_moved t path ≡ false) → (d : Option Decided) (o : Option Attempt) → attempt_behind t d o ≡ o
unmoved_attempt t h d None = refl
unmoved_attempt t h d (Some a) = ap (λ (b : Bool). if b then moved_attempt d a else Some a) (none_moved t h a.paths)
