-- A mark leaves open what is open.
use Rattle.std.proofs.Common.{◌≡◌, ℕ, zero, suc, ◌+◌, ◌-◌, ◌&&◌, ◌||◌, not, Bool, true, false, if◌then◌else◌, List, [], ◌∷◌, map, length, Option, Some, None, is_some, is_none, refl, sym, ap, ◌∙◌, true≢false}
use Rattle.std.specs.Prelude.{option_map, nat_lt}
use Rattle.apdu.specs.Values.{CommandValue}
use Rattle.apdu.specs.Words.{has_value}
use Rattle.script_reader.specs.declared.types.Script.{Script}
use Rattle.script_reader.specs.declared.types.Operation.{Operation}
use Rattle.adn.specs.declared.edit.Edit.{Edit}
use Rattle.report.specs.declared.line.Line.TheVariants as line
use Rattle.families.specs.Families.{family_paths}
use Rattle.refresher.specs.Refresh.{startup_steps}
use Rattle.editor.specs.declared.editing.Attempt.{Attempt}
use Rattle.epoch_cache.specs.declared.cached.CachedFile.{CachedFile}
use Rattle.epoch_cache.specs.declared.cached.Touch.{Touch}
use Rattle.epoch_cache.specs.declared.past.Past.{Past}
use Rattle.epoch_cache.specs.Cache.{renews_one, forgotten}
use Rattle.rules.specs.declared.kept.Begun.{Begun}
use Rattle.rules.specs.declared.kept.Job.{Job}
use Rattle.rules.specs.declared.kept.Kept.{Kept}
use Rattle.rules.specs.declared.standing.Standing.{Standing}
use Rattle.rules.specs.Standing.{first_stale, standing_by, standing_after, unless_settled}
use Rattle.rules.specs.Kept.{operations_of, operation_at, job_of, begun_of, begun_operation, operation_now, next_operation}
use Rattle.rules.specs.Work.{has_work, has_operations_left, first_actor, all_answered, is_finished, needs_card, is_edit_of, edits_family, edited_by, operation_waits_on, next_waits_on, waits_on, has_ended, is_idle}
use Rattle.rules.specs.Editing.{family_edit}
use Rattle.rules.specs.After.{facts_of, decision_at, begun_beside, begun_with, job_beside, jobs_beside, own_job, kept_after}
use Rattle.rules.specs.Cache.{touch_of}
use Rattle.performed.specs.Progress.{unanswered}
use Rattle.performed.specs.Laws.{MarksLeaveOpen}
use Rattle.performed.proofs.ProgressActors.{picked}
use Rattle.performed.proofs.ProgressJobs.{changed, mapped}

-- ---- what is seen of a job

abbrev pub Seen : Type 0
Seen = ℕ × (Option ℕ × Option ℕ)

abbrev pub seen_of : Begun → Seen
seen_of b = (b.index, (b.epoch, b.ended))

-- as many answers, and the same operation under way, of the same epoch and end
pub record IsAlike (x y : Job) : Type 0 where
  pub answered : x.answered ≡ y.answered
  pub begun : option_map seen_of x.begun ≡ option_map seen_of y.begun

abbrev operation_seen : Script → ℕ → Option Seen → Option Operation
operation_seen s actor None = None
operation_seen s actor (Some v) = operation_at s actor v.0

now_seen : (s : Script) (actor : ℕ) (o : Option Begun) → begun_operation s actor o ≡ operation_seen s actor (option_map seen_of o)
now_seen s actor None = refl
now_seen s actor (Some b) = refl

begun_seen : (o : Option Begun) → is_some o ≡ is_some (option_map seen_of o)
begun_seen None = refl
begun_seen (Some b) = refl

-- ---- what is open, where all is alike

pub record SameWork (x y : Kept) : Type 0 where
  pub history : x.history ≡ y.history
  pub startup : x.startup ≡ y.startup
  pub owed : x.owed ≡ y.owed
  pub standings : x.standings ≡ y.standings
  pub jobs : (i : ℕ) → IsAlike (job_of i x.jobs) (job_of i y.jobs)

first_same : (test other : ℕ → Bool) → ((n : ℕ) → test n ≡ other n) → (i : ℕ) (xs : List (List Operation)) → first_actor test i xs ≡ first_actor other i xs
first_same test other same i [] = refl
first_same test other same i (ops ∷ rest) =
    ap (λ (b : Bool). picked (i + 1) b (first_actor test (i + 1) rest)) (same (i + 1))
    ∙ ap (λ (o : Option ℕ). picked (i + 1) (other (i + 1)) o) (first_same test other same (i + 1) rest)

-- what the framework has to do
abbrev works : Past → ℕ → Option CommandValue → List Standing → Bool
works h n o st = h.owes_reset || (h.living && ((h.living && nat_lt n startup_steps) || is_some o || is_some h.announced || is_some (first_stale st)))

abbrev waits : Past → ℕ → Operation → Option ℕ → Option ℕ
waits h n op edited =
    if not h.living then None
    else if needs_card op && (h.living && nat_lt n startup_steps) then Some 0
    else edited

-- who edits the family, and whom the operation waits for
abbrev pub editing_by : Script → Kept → Option (ℕ × Edit) → Option ℕ
editing_by s k None = None
editing_by s k (Some e) = first_actor (edits_family s k e.0) 0 s.actors

pub editing_of : (s : Script) (k : Kept) (o : Option (ℕ × Edit)) → editing_by s k o ≡ (elim o [ None ↦ None | Some e ↦ first_actor (edits_family s k e.0) 0 s.actors ])
editing_of s k None = refl
editing_of s k (Some e) = refl

abbrev pub waiting_by : Script → Kept → Option Operation → Option ℕ
waiting_by s k None = None
waiting_by s k (Some op) = operation_waits_on s k op

pub waiting_of : (s : Script) (k : Kept) (o : Option Operation) → waiting_by s k o ≡ (elim o [ None ↦ None | Some op ↦ operation_waits_on s k op ])
waiting_of s k None = refl
waiting_of s k (Some op) = refl

module _ (s : Script) (x y : Kept) (w : SameWork x y) where
  work_same : has_work x ≡ has_work y
  work_same =
      ap (λ (h : Past). works h x.startup x.owed x.standings) w.history
      ∙ ap (λ (n : ℕ). works y.history n x.owed x.standings) w.startup
      ∙ ap (λ (o : Option CommandValue). works y.history y.startup o x.standings) w.owed
      ∙ ap (λ (st : List Standing). works y.history y.startup y.owed st) w.standings

  left_same : (actor : ℕ) → has_operations_left s x actor ≡ has_operations_left s y actor
  left_same actor = ap (λ (n : ℕ). nat_lt n (length (operations_of s actor))) (w.jobs actor).answered

  open_same : first_actor (has_operations_left s x) 0 s.actors ≡ first_actor (has_operations_left s y) 0 s.actors
  open_same = first_same (has_operations_left s x) (has_operations_left s y) left_same 0 s.actors

  pub finished_same : is_finished s x ≡ is_finished s y
  finished_same =
      ap (λ (o : Option ℕ). is_none o && not (has_work x)) open_same
      ∙ ap (λ (b : Bool). all_answered s y && not b) work_same

  now_same : (actor : ℕ) → operation_now s actor x.jobs ≡ operation_now s actor y.jobs
  now_same actor = now_seen s actor (begun_of actor x.jobs) ∙ ap (operation_seen s actor) (w.jobs actor).begun ∙ sym (now_seen s actor (begun_of actor y.jobs))

  begun_same : (actor : ℕ) → is_some (begun_of actor x.jobs) ≡ is_some (begun_of actor y.jobs)
  begun_same actor = begun_seen (begun_of actor x.jobs) ∙ ap is_some (w.jobs actor).begun ∙ sym (begun_seen (begun_of actor y.jobs))

  edits_same : (f actor : ℕ) → edits_family s x f actor ≡ edits_family s y f actor
  edits_same f actor = ap (has_value (is_edit_of f)) (now_same actor)

  edit_same : (o : Option (ℕ × Edit)) → editing_by s x o ≡ editing_by s y o
  edit_same None = refl
  edit_same (Some e) = first_same (edits_family s x e.0) (edits_family s y e.0) (edits_same e.0) 0 s.actors

  edited_same : (op : Operation) → edited_by s x op ≡ edited_by s y op
  edited_same op = sym (editing_of s x (family_edit op)) ∙ edit_same (family_edit op) ∙ editing_of s y (family_edit op)

  operation_same : (op : Operation) → operation_waits_on s x op ≡ operation_waits_on s y op
  operation_same op =
      ap (λ (h : Past). waits h x.startup op (edited_by s x op)) w.history
      ∙ ap (λ (n : ℕ). waits y.history n op (edited_by s x op)) w.startup
      ∙ ap (λ (o : Option ℕ). waits y.history y.startup op o) (edited_same op)

  next_by : (o : Option Operation) → waiting_by s x o ≡ waiting_by s y o
  next_by None = refl
  next_by (Some op) = operation_same op

  next_same : (actor : ℕ) → next_waits_on s x actor ≡ next_waits_on s y actor
  next_same actor =
      sym (waiting_of s x (next_operation s actor x.jobs))
      ∙ ap (λ (n : ℕ). waiting_by s x (operation_at s actor n)) (w.jobs actor).answered
      ∙ next_by (next_operation s actor y.jobs)
      ∙ waiting_of s y (next_operation s actor y.jobs)

  pub waits_same : (actor : ℕ) → waits_on s x actor ≡ waits_on s y actor
  waits_same zero =
      ap (λ (b : Bool). if b then None else first_actor (has_operations_left s x) 0 s.actors) work_same
      ∙ ap (λ (o : Option ℕ). if has_work y then None else o) open_same
  waits_same (suc a) =
      ap (λ (b : Bool). if b then None else next_waits_on s x (suc a)) (begun_same (suc a))
      ∙ ap (λ (o : Option ℕ). if is_some (begun_of (suc a) y.jobs) then None else o) (next_same (suc a))

  pub ended_same : (actor : ℕ) → has_ended s x actor ≡ has_ended s y actor
  ended_same zero = finished_same
  ended_same (suc a) = ap not (left_same (suc a))

  pub idle_same : (actor : ℕ) → is_idle s x actor ≡ is_idle s y actor
  idle_same actor =
      ap (λ (b : Bool). b || is_some (waits_on s x actor)) (ended_same actor)
      ∙ ap (λ (o : Option ℕ). has_ended s y actor || is_some o) (waits_same actor)

  unanswered_same : (actor : ℕ) (xs : List (List Operation)) → unanswered actor xs x.jobs ≡ unanswered actor xs y.jobs
  unanswered_same actor [] = refl
  unanswered_same actor (ops ∷ rest) =
      ap (λ (n : ℕ). (length ops - n) + unanswered (suc actor) rest x.jobs) (w.jobs actor).answered
      ∙ ap (λ (n : ℕ). (length ops - (job_of actor y.jobs).answered) + n) (unanswered_same (suc actor) rest)

-- ---- a line that touches nothing

abbrev pub quiet_touch : Touch
quiet_touch = touch_of false None (line.Turn 0)

none_renewed : (paths : List (List ℕ)) → renews_one quiet_touch paths ≡ false
none_renewed [] = refl
none_renewed (path ∷ paths) = none_renewed paths

and_false : (b : Bool) → b && false ≡ false
and_false true = refl
and_false false = refl

or_false : (b : Bool) → (b || false) ≡ b
or_false true = refl
or_false false = refl

unsettled : (o : Option ℕ) → unless_settled None o ≡ o
unsettled None = refl
unsettled (Some v) = refl

quiet_standing : (a event : ℕ) (st : Standing) (renews : Bool) → renews ≡ false → standing_by (line.Turn a) event renews None None st ≡ st
quiet_standing a event st true h = absurd (true≢false h)
quiet_standing a event st false h =
    ap (λ (b : Bool). record { family = st.family; wanted = b; stale = unless_settled None st.stale; renewed = st.renewed; refused = st.refused; shown = st.shown }) (or_false st.wanted)
    ∙ ap (λ (o : Option ℕ). record { family = st.family; wanted = st.wanted; stale = o; renewed = st.renewed; refused = st.refused; shown = st.shown }) (unsettled st.stale)

standing_same : (a event : ℕ) (st : Standing) → standing_after (line.Turn a) event quiet_touch None None st ≡ st
standing_same a event st = quiet_standing a event st (st.wanted && renews_one quiet_touch (family_paths st.family)) (ap (λ (b : Bool). st.wanted && b) (none_renewed (family_paths st.family)) ∙ and_false st.wanted)

standings_same : (a event : ℕ) (sts : List Standing) → map (standing_after (line.Turn a) event quiet_touch None None) sts ≡ sts
standings_same a event [] = refl
standings_same a event (st ∷ sts) =
    ap (λ (z : Standing). z ∷ map (standing_after (line.Turn a) event quiet_touch None None) sts) (standing_same a event st)
    ∙ ap (λ (zs : List Standing). st ∷ zs) (standings_same a event sts)

pub all_kept : (files : List CachedFile) → forgotten quiet_touch files ≡ files
all_kept [] = refl
all_kept (file ∷ files) = ap (λ (fs : List CachedFile). file ∷ fs) (all_kept files)

-- ---- a mark

beside_begun : (s : Script) (k : Kept) (a : ℕ) (o : Option Begun) → option_map seen_of (option_map (begun_beside (line.Turn a) k.history.epoch (facts_of s (line.Turn a) k)) o) ≡ option_map seen_of o
beside_begun s k a None = refl
beside_begun s k a (Some b) = refl

marked_begun : (attempt : Option Attempt) (o : Option Begun) → option_map seen_of (option_map (begun_with attempt) o) ≡ option_map seen_of o
marked_begun attempt None = refl
marked_begun attempt (Some b) = refl

module _ (s : Script) (k : Kept) where
  own_alike : (a : ℕ) (attempt : Option Attempt) (x y : Job) → IsAlike x y → IsAlike (own_job s (line.Turn a) k (facts_of s (line.Turn a) k) attempt x) y
  own_alike zero attempt x y h = record { answered = h.answered; begun = h.begun }
  own_alike (suc a) attempt x y h = record { answered = h.answered; begun = marked_begun attempt x.begun ∙ h.begun }

  beside_alike : (a : ℕ) (x y : Job) → IsAlike x y → IsAlike (job_beside (line.Turn a) k.history.epoch (facts_of s (line.Turn a) k) k.selected x) y
  beside_alike a x y h = record { answered = h.answered; begun = beside_begun s k a x.begun ∙ h.begun }

  besides_alike : (a i : ℕ) → IsAlike (job_of i (jobs_beside (line.Turn a) k.history.epoch (facts_of s (line.Turn a) k) k.selected k.jobs)) (job_of i k.jobs)
  besides_alike a i =
      mapped (job_beside (line.Turn a) k.history.epoch (facts_of s (line.Turn a) k) k.selected)
      (λ (j : ℕ) (job : Job). IsAlike job (job_of j k.jobs)) (λ (j : ℕ) (job : Job). IsAlike job (job_of j k.jobs)) k.jobs
      (λ (j : ℕ). record { answered = refl; begun = refl })
      (λ (j : ℕ) (x : Job). beside_alike a x (job_of j k.jobs))
      (λ (j : ℕ) h. h) i

  jobs_alike : (a i : ℕ) → IsAlike (job_of i (kept_after s (line.Turn a) k).jobs) (job_of i k.jobs)
  jobs_alike a i =
      changed (own_job s (line.Turn a) k (facts_of s (line.Turn a) k) (decision_at s (line.Turn a) k).attempt)
      (λ (j : ℕ) (job : Job). IsAlike job (job_of j k.jobs))
      (jobs_beside (line.Turn a) k.history.epoch (facts_of s (line.Turn a) k) k.selected k.jobs) a
      (λ (x : Job). own_alike a (decision_at s (line.Turn a) k).attempt x (job_of a k.jobs))
      (besides_alike a) i

  pub same_work : (a : ℕ) → SameWork (kept_after s (line.Turn a) k) k
  same_work a = record {
    history = refl;
    startup = refl;
    owed = refl;
    standings = standings_same a (k.history.events + 1) k.standings;
    jobs = jobs_alike a;
  }

pub leave_open : MarksLeaveOpen
leave_open s k a =
    let w : SameWork (kept_after s (line.Turn a) k) k = same_work s k a in
    record {
      events = refl;
      operations = unanswered_same s (kept_after s (line.Turn a) k) k w 1 s.actors;
      stale = w.standings;
      finished = finished_same s (kept_after s (line.Turn a) k) k w;
      idle = idle_same s (kept_after s (line.Turn a) k) k w;
    }
