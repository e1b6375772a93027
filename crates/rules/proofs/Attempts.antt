-- The attempt that is kept of an actor's edit is what looking back says.
use Rattle.std.proofs.Common.{◌≡◌, ℕ, zero, suc, ◌+◌, ◌==◌, ◌&&◌, ◌||◌, not, Bool, true, false, if◌then◌else◌, List, [], ◌∷◌, Option, Some, None, is_some, refl, sym, ap, ◌∙◌}
use Rattle.std.specs.Prelude.{option_map, replicate, slice_get, unwrap_or, Result, Ok, Err}
use Rattle.std.proofs.lemmas.Bool.{eqb-true}
use Rattle.std.proofs.lemmas.Option.{slice_get-map}
use Rattle.apdu.specs.Values.{CommandValue, ResponseValue}
use Rattle.apdu.specs.Words.{has_value, or_else}
use Rattle.apdu.specs.Apdu.{is_update_ins}
use Rattle.adn.specs.declared.edit.Edit.{Edit}
use Rattle.adn.specs.declared.edit.Plan.{Plan}
use Rattle.adn.specs.declared.edit.PlanError.{PlanError}
use Rattle.script_reader.specs.declared.types.Script.{Script}
use Rattle.script_reader.specs.declared.types.Operation.{Operation}
use Rattle.script_reader.specs.declared.types.Operation.TheVariants as operation
use Rattle.report.specs.declared.line.Line.{Line}
use Rattle.report.specs.declared.line.Line.TheVariants as line
use Rattle.families.specs.Plans.{plan_updates}
use Rattle.families.specs.Families.{family_path, family_plan}
use Rattle.link.specs.declared.chain.Chain.{Chain}
use Rattle.link.specs.Commands.{is_at}
use Rattle.epoch_cache.specs.declared.cached.Touch.{Touch}
use Rattle.epoch_cache.specs.Cache.{first_missing, is_update, moves_one, view_of_files}
use Rattle.editor.specs.declared.editing.Attempt.{Attempt}
use Rattle.editor.specs.declared.editing.Decided.{Decided}
use Rattle.editor.specs.declared.editing.Editing.{Editing}
use Rattle.rules.specs.declared.kept.Begun.{Begun}
use Rattle.rules.specs.declared.kept.Facts.{Facts}
use Rattle.rules.specs.declared.kept.Job.{Job}
use Rattle.rules.specs.declared.kept.Kept.{Kept}
use Rattle.rules.specs.History.{lives_in}
use Rattle.epoch_cache.specs.Past.{counted}
use Rattle.editor.specs.Editing.{attempt_behind, moved_attempt, edit_paths, sent_update, updated_by, extended_by, with_attempt, no_editing}
use Rattle.rules.specs.Editing.{attempt_of, family_edit, first_lack}
use Rattle.rules.specs.Kept.{actor_count, first_job, begun_of, begun_operation, operation_at, operation_now, changed_at, change_at}
use Rattle.rules.specs.Work.{begins_plan, plans, attempts, undecided_work, edit_work, work_of_edit, work_of_operation}
use Rattle.rules.specs.After.{job_beside, jobs_beside, fresh_begun, begun_with, editing_sent, editing_answered, editing_lost, edit_of, begun_exchanged, begun_failed, own_job, actor_of, jobs_of_actor, decision_of_begun, decision_at, facts_of, kept_of}
use Rattle.rules.specs.LookingBack.{is_job_border, is_start_of, attempt_begun, is_new_update, sends_update, is_main_current, decides_edit, was_decided, moves_attempt, unless_moved, attempt_since, updates_sent, was_moved}
use Rattle.rules.specs.Laws.{as_of, KeepsAttempts}
use Rattle.rules.proofs.SeenBefore.{set_at}

-- ---- a job behind a line

module _ (f : Job → Job) where
  by_place : (b : Bool) (x : Job) (o : Option Job) → (b ≡ true → o ≡ Some x) → (if b then Some (f x) else o) ≡ (if b then option_map f o else o)
  by_place true x o h = ap (option_map f) (sym (h refl))
  by_place false x o h = refl

  none_there : (b : Bool) (o : Option Job) → (b ≡ true → o ≡ None) → o ≡ (if b then option_map f o else o)
  none_there true o h = h refl ∙ ap (option_map f) (sym (h refl))
  none_there false o h = refl

  there : (xs : List Job) (n i : ℕ) (o : Option Job) → slice_get xs n ≡ o → n == i ≡ true → slice_get xs i ≡ o
  there xs n i o h e = ap (slice_get xs) (sym (eqb-true n i e)) ∙ h

  changed : (xs : List Job) (n i : ℕ) (o : Option Job) → slice_get xs n ≡ o → slice_get (changed_at n f xs o) i ≡ (if n == i then option_map f (slice_get xs i) else slice_get xs i)
  changed xs n i None h = none_there (n == i) (slice_get xs i) (there xs n i None h)
  changed xs n i (Some x) h = set_at xs n i x (f x) h ∙ by_place (n == i) x (slice_get xs i) (there xs n i (Some x) h)

  pub change : (xs : List Job) (n i : ℕ) → slice_get (change_at n f xs) i ≡ (if n == i then option_map f (slice_get xs i) else slice_get xs i)
  change xs n i = changed xs n i (slice_get xs n) refl

-- the line is about the actor's job
abbrev pub is_own : ℕ → Line → Bool
is_own i l = has_value (λ a. a == i) (actor_of l)

-- the actor's job behind the line, of that before it
abbrev pub behind_job : Script → Line → Kept → ℕ → Job → Job
behind_job s l k i x =
    if is_own i l then own_job s l k (facts_of s l k) (decision_at s l k).attempt (job_beside l k.history.epoch (facts_of s l k) k.selected x)
    else job_beside l k.history.epoch (facts_of s l k) k.selected x

own_line : (s : Script) (l : Line) (k : Kept) (xs : List Job) (i : ℕ) (o : Option ℕ) → slice_get (jobs_of_actor s l k (facts_of s l k) (decision_at s l k).attempt o xs) i ≡ (if has_value (λ a. a == i) o then option_map (own_job s l k (facts_of s l k) (decision_at s l k).attempt) (slice_get xs i) else slice_get xs i)
own_line s l k xs i None = refl
own_line s l k xs i (Some a) = change (own_job s l k (facts_of s l k) (decision_at s l k).attempt) xs a i

-- the job before the line, and what it became
pub record Before (s : Script) (l : Line) (earlier : List Line) (i : ℕ) (y : Job) : Type 0 where
  pub job : Job
  pub here : slice_get (kept_of s earlier).jobs i ≡ Some job
  pub became : y ≡ behind_job s l (kept_of s earlier) i job

module _ (s : Script) (l : Line) (earlier : List Line) (i : ℕ) (y : Job) where
  by_job : (b : Bool) (f g : Job → Job) (o : Option Job) → (if b then option_map f (option_map g o) else option_map g o) ≡ option_map (λ x. if b then f (g x) else g x) o
  by_job true f g None = refl
  by_job true f g (Some x) = refl
  by_job false f g o = refl

  some_job : Option Job → Job
  some_job None = first_job
  some_job (Some x) = x

  found : (o : Option Job) → slice_get (kept_of s earlier).jobs i ≡ o → option_map (behind_job s l (kept_of s earlier) i) o ≡ Some y → Before s l earlier i y
  unfolding some_job
  found None h e = absurd (cc)
  found (Some x) h e = record { job = x; here = h; became = sym (ap some_job e) }

  pub before : slice_get (kept_of s (l ∷ earlier)).jobs i ≡ Some y → Before s l earlier i y
  before h =
      let k : Kept = kept_of s earlier in
      found (slice_get k.jobs i) refl
      (sym (by_job (is_own i l) (own_job s l k (facts_of s l k) (decision_at s l k).attempt) (job_beside l k.history.epoch (facts_of s l k) k.selected) (slice_get k.jobs i))
      ∙ ap (λ o. if is_own i l then option_map (own_job s l k (facts_of s l k) (decision_at s l k).attempt) o else o) (sym (slice_get-map (job_beside l k.history.epoch (facts_of s l k) k.selected) k.jobs i))
      ∙ sym (own_line s l k (jobs_beside l k.history.epoch (facts_of s l k) k.selected k.jobs) i (actor_of l))
      ∙ h)

pub same_begun : (s : Script) (k : Kept) (i : ℕ) (x : Job) → slice_get k.jobs i ≡ Some x → begun_of i k.jobs ≡ x.begun
same_begun s k i x h = ap (λ o. (unwrap_or o first_job).begun) h

-- ---- an attempt begins with no update sent

abbrev unsent : Option Attempt → Option Attempt
unsent o = option_map (as_of 0 false) o

module _ (k : Kept) (actor f : ℕ) (e : Edit) where
  fresh_plan : (plan : Plan) (paths : List (List ℕ)) (o : Option ℕ) → first_lack k.history actor k.sessions k.files f (plan_updates plan) ≡ o → unsent (begins_plan k actor f plan paths).attempt ≡ (begins_plan k actor f plan paths).attempt
  fresh_plan plan paths None h = rw (begins_plan, h) refl
  fresh_plan plan paths (Some key) h = rw (begins_plan, h) refl

  fresh_plans : (paths : List (List ℕ)) (o : Result Plan PlanError) → family_plan f e (view_of_files k.files) ≡ o → unsent (plans k actor f e paths).attempt ≡ (plans k actor f e paths).attempt
  fresh_plans paths (Err refusal) h = rw (plans, h) refl
  fresh_plans paths (Ok plan) h = rw (plans, h) (fresh_plan plan paths (first_lack k.history actor k.sessions k.files f (plan_updates plan)) refl)

  fresh_attempts : (a : Option Attempt) (paths : List (List ℕ)) → unsent (attempts k actor f e a paths).attempt ≡ (attempts k actor f e a paths).attempt
  fresh_attempts (Some a) paths = refl
  fresh_attempts None paths = fresh_plans paths (family_plan f e (view_of_files k.files)) refl

  fresh_undecided : (a : Option Attempt) (o : Option (List ℕ)) → first_missing k.files (edit_paths k.files f) ≡ o → unsent (undecided_work k actor f e a).attempt ≡ (undecided_work k actor f e a).attempt
  fresh_undecided a (Some path) h = rw (undecided_work, h) refl
  fresh_undecided a None h = rw (undecided_work, h) (fresh_attempts a (edit_paths k.files f))

  fresh_edit : (x : Editing) (o : Option Decided) → x.decided ≡ o → unsent (edit_work k actor f e x).attempt ≡ (edit_work k actor f e x).attempt
  fresh_edit x None h = rw (edit_work, h) (fresh_undecided x.attempt (first_missing k.files (edit_paths k.files f)) refl)
  fresh_edit x (Some d) h = rw (edit_work, h) refl

fresh_edits : (k : Kept) (actor : ℕ) (b : Begun) (o : Option (ℕ × Edit)) (lives : Bool) → lives_in k.history b.epoch ≡ lives → unsent (work_of_edit k actor b o).attempt ≡ (work_of_edit k actor b o).attempt
fresh_edits k actor b None lives h = refl
fresh_edits k actor b (Some (f, e)) true h = rw (work_of_edit, h) (fresh_edit k actor f e b.editing b.editing.decided refl)
fresh_edits k actor b (Some (f, e)) false h = rw (work_of_edit, h) refl

fresh_work : (k : Kept) (actor : ℕ) (b : Begun) (op : Operation) → unsent (work_of_operation k actor b op).attempt ≡ (work_of_operation k actor b op).attempt
fresh_work k actor b (operation.Set f at name number) = fresh_edits k actor b (family_edit (operation.Set f at name number)) (lives_in k.history b.epoch) refl
fresh_work k actor b (operation.Clear f at) = fresh_edits k actor b (family_edit (operation.Clear f at)) (lives_in k.history b.epoch) refl
fresh_work k actor b (operation.Insert card) = refl
fresh_work k actor b operation.Out = refl
fresh_work k actor b (operation.Arm change) = refl
fresh_work k actor b (operation.Load f) = refl
fresh_work k actor b (operation.OpenChannel handle aid) = refl
fresh_work k actor b (operation.Raw handle apdu) = refl
fresh_work k actor b (operation.Close handle) = refl
fresh_work k actor b (operation.Verify key pin) = refl
fresh_work k actor b operation.Poll = refl
fresh_work k actor b (operation.End key) = refl
fresh_work k actor b operation.Look = refl
fresh_work k actor b (operation.Watch mask) = refl
fresh_work k actor b operation.Notices = refl

fresh_decision : (k : Kept) (actor : ℕ) (b : Option Begun) (op : Option Operation) → unsent (decision_of_begun k actor b op).attempt ≡ (decision_of_begun k actor b op).attempt
fresh_decision k actor (Some b) (Some op) = fresh_work k actor b op
fresh_decision k actor (Some b) None = refl
fresh_decision k actor None op = refl

fresh_line : (s : Script) (l : Line) (k : Kept) → unsent (decision_at s l k).attempt ≡ (decision_at s l k).attempt
fresh_line s (line.Turn zero) k = refl
fresh_line s (line.Turn (suc a)) k = fresh_decision k (suc a) (begun_of (suc a) k.jobs) (operation_now s (suc a) k.jobs)
fresh_line s (line.Begin a i) k = fresh_decision k a (Some (fresh_begun i k.history)) (operation_at s a i)
fresh_line s (line.Exchange a c r) k = refl
fresh_line s (line.Failed a c d) k = refl
fresh_line s (line.Reset a) k = refl
fresh_line s (line.ResetFailed a) k = refl
fresh_line s (line.World a e) k = refl
fresh_line s (line.Published n f e v text) k = refl
fresh_line s (line.EpochEnd n e v) k = refl
fresh_line s (line.Refused f n) k = refl
fresh_line s (line.Answered a i given) k = refl

pub fresh : (s : Script) (i : ℕ) (l : Line) (earlier : List Line) (b : Bool) → unsent (if b then (decision_at s l (kept_of s earlier)).attempt else None) ≡ (if b then (decision_at s l (kept_of s earlier)).attempt else None)
fresh s i l earlier true = fresh_line s l (kept_of s earlier)
fresh s i l earlier false = refl

-- ---- what a line does to a job's attempt, and whether its edit is decided

abbrev pub decided_in : Option Begun → Option Decided
decided_in None = None
decided_in (Some b) = b.editing.decided

abbrev pub more_sent : Bool → Option Attempt → Option Attempt
more_sent sent o = if sent then option_map (λ (a : Attempt). record a { sent = a.sent + 1 }) o else o

or_none : (o : Option Attempt) → or_else o None ≡ o
or_none None = refl
or_none (Some a) = refl

sent_none : (b : Bool) → more_sent b None ≡ None
sent_none true = refl
sent_none false = refl

and_false : (b : Bool) → b && false ≡ false
and_false true = refl
and_false false = refl

if_same : {A : Type 0} (b : Bool) (x : A) → (if b then x else x) ≡ x
if_same true x = refl
if_same false x = refl

beside_attempt : (l : Line) (epoch : ℕ) (facts : Facts) (selected : Option (List ℕ)) (x : Job) (o : Option Begun) → x.begun ≡ o → attempt_of (job_beside l epoch facts selected x).begun ≡ attempt_behind facts.touch (decided_in x.begun) (attempt_of x.begun)
beside_attempt l epoch facts selected x None h = rw h refl
beside_attempt l epoch facts selected x (Some b) h = rw h refl

beside_decided : (l : Line) (epoch : ℕ) (facts : Facts) (selected : Option (List ℕ)) (x : Job) (o : Option Begun) → x.begun ≡ o → decided_in (job_beside l epoch facts selected x).begun ≡ decided_in x.begun
beside_decided l epoch facts selected x None h = rw h refl
beside_decided l epoch facts selected x (Some b) h = rw h refl

-- an edit's own exchange

sent_attempt : (c : CommandValue) (chain : Option Chain) (x : Editing) → (editing_sent c chain x).attempt ≡ more_sent (is_new_update c chain) x.attempt
sent_attempt c None x = by_ins (is_update_ins c.ins)
  where
    by_ins : (b : Bool) → (if b then sent_update x else x).attempt ≡ more_sent b x.attempt
    by_ins true = refl
    by_ins false = refl
sent_attempt c (Some chain) x = refl

sent_decided : (c : CommandValue) (chain : Option Chain) (x : Editing) → (editing_sent c chain x).decided ≡ x.decided
sent_decided c None x = by_ins (is_update_ins c.ins)
  where
    by_ins : (b : Bool) → (if b then sent_update x else x).decided ≡ x.decided
    by_ins true = refl
    by_ins false = refl
sent_decided c (Some chain) x = refl

module _ (selected : Option (List ℕ)) (event : ℕ) (c : CommandValue) where
  extended_attempt : (d : Option Decided) (x : Editing) → (extended_by c d x).attempt ≡ x.attempt
  extended_attempt None x = refl
  extended_attempt (Some d) x = refl

  extended_decided : (d : Option Decided) (x : Editing) → x.decided ≡ d → is_some (extended_by c d x).decided ≡ is_some x.decided
  extended_decided None x h = refl
  extended_decided (Some d) x h = rw h refl

  updated_attempt : (f : ℕ) (x : Editing) (b : Bool) → is_at selected (family_path f 0) ≡ b → (updated_by f selected event c x).attempt ≡ x.attempt
  updated_attempt f x true h = rw h refl
  updated_attempt f x false h = rw h (extended_attempt x.decided x)

  updated_decided : (f : ℕ) (x : Editing) (b : Bool) → is_at selected (family_path f 0) ≡ b → is_some (updated_by f selected event c x).decided ≡ (is_at selected (family_path f 0) || is_some x.decided)
  updated_decided f x true h = rw h refl
  updated_decided f x false h = rw h (extended_decided x.decided x refl)

  answered_attempt : (o : Option (ℕ × Edit)) (r : ResponseValue) (x : Editing) (b : Bool) → is_update c r ≡ b → (editing_answered o selected event c r x).attempt ≡ x.attempt
  answered_attempt None r x b h = refl
  answered_attempt (Some (f, e)) r x true h = rw h (updated_attempt f x (is_at selected (family_path f 0)) refl)
  answered_attempt (Some (f, e)) r x false h = rw h refl

  answered_decided : (o : Option (ℕ × Edit)) (r : ResponseValue) (x : Editing) (b : Bool) → is_update c r ≡ b → is_some (editing_answered o selected event c r x).decided ≡ ((is_update c r && is_main_current selected o) || is_some x.decided)
  answered_decided None r x b h = ap (λ y. y || is_some x.decided) (sym (and_false (is_update c r)))
  answered_decided (Some (f, e)) r x true h = rw h (updated_decided f x (is_at selected (family_path f 0)) refl)
  answered_decided (Some (f, e)) r x false h = rw h refl

  lost_attempt : (o : Option (ℕ × Edit)) (x : Editing) (b p : Bool) → is_update_ins c.ins ≡ b → has_value (λ (g : ℕ × Edit). is_at selected (family_path g.0 0)) o ≡ p → (editing_lost o selected event c x).attempt ≡ x.attempt
  lost_attempt None x b p h g = refl
  lost_attempt (Some (f, e)) x true true h g = rw (h, g) refl
  lost_attempt (Some (f, e)) x true false h g = rw (h, g) refl
  lost_attempt (Some (f, e)) x false p h g = rw h refl

  lost_decided : (o : Option (ℕ × Edit)) (x : Editing) (b p : Bool) → is_update_ins c.ins ≡ b → has_value (λ (g : ℕ × Edit). is_at selected (family_path g.0 0)) o ≡ p → (editing_lost o selected event c x).decided ≡ x.decided
  lost_decided None x b p h g = refl
  lost_decided (Some (f, e)) x true true h g = rw (h, g) refl
  lost_decided (Some (f, e)) x true false h g = rw (h, g) refl
  lost_decided (Some (f, e)) x false p h g = rw h refl

  module _ (o : Option (ℕ × Edit)) (chain : Option Chain) where
    exchanged_attempt : (r : ResponseValue) (b : Option Begun) → attempt_of (option_map (begun_exchanged o selected chain event c r) b) ≡ more_sent (is_new_update c chain) (attempt_of b)
    exchanged_attempt r None = sym (sent_none (is_new_update c chain))
    exchanged_attempt r (Some b) = answered_attempt o r (editing_sent c chain b.editing) (is_update c r) refl ∙ sent_attempt c chain b.editing

    exchanged_decided : (r : ResponseValue) (b : Begun) → is_some (editing_answered o selected event c r (editing_sent c chain b.editing)).decided ≡ ((is_update c r && is_main_current selected o) || is_some b.editing.decided)
    exchanged_decided r b =
        answered_decided o r (editing_sent c chain b.editing) (is_update c r) refl
        ∙ ap (λ d. (is_update c r && is_main_current selected o) || is_some d) (sent_decided c chain b.editing)

    failed_attempt : (b : Option Begun) → attempt_of (option_map (begun_failed o selected chain event c) b) ≡ more_sent (is_new_update c chain) (attempt_of b)
    failed_attempt None = sym (sent_none (is_new_update c chain))
    failed_attempt (Some b) =
        lost_attempt o (editing_sent c chain b.editing) (is_update_ins c.ins) (has_value (λ (g : ℕ × Edit). is_at selected (family_path g.0 0)) o) refl refl
        ∙ sent_attempt c chain b.editing

    failed_decided : (b : Option Begun) → decided_in (option_map (begun_failed o selected chain event c) b) ≡ decided_in b
    failed_decided None = refl
    failed_decided (Some b) =
        lost_decided o (editing_sent c chain b.editing) (is_update_ins c.ins) (has_value (λ (g : ℕ × Edit). is_at selected (family_path g.0 0)) o) refl refl
        ∙ sent_decided c chain b.editing

-- ---- a line

module _ (s : Script) (earlier : List Line) (i : ℕ) (x : Job) (here : slice_get (kept_of s earlier).jobs i ≡ Some x) where
  abbrev beside : Line → Job
  beside l = job_beside l (kept_of s earlier).history.epoch (facts_of s l (kept_of s earlier)) (kept_of s earlier).selected x

  left : (l : Line) → attempt_of (beside l).begun ≡ attempt_behind (facts_of s l (kept_of s earlier)).touch (decided_in x.begun) (attempt_of x.begun)
  left l = beside_attempt l (kept_of s earlier).history.epoch (facts_of s l (kept_of s earlier)) (kept_of s earlier).selected x x.begun refl

  left_decided : (l : Line) → decided_in (beside l).begun ≡ decided_in x.begun
  left_decided l = beside_decided l (kept_of s earlier).history.epoch (facts_of s l (kept_of s earlier)) (kept_of s earlier).selected x x.begun refl

  begun_here : (a : ℕ) → a ≡ i → begun_of a (kept_of s earlier).jobs ≡ x.begun
  begun_here a e = ap (λ n. begun_of n (kept_of s earlier).jobs) e ∙ same_begun s (kept_of s earlier) i x here

  none_beside : (l : Line) (o : Option Begun) → x.begun ≡ o → (beside l).begun ≡ None → x.begun ≡ None
  none_beside l None h e = h
  none_beside l (Some b) h e = absurd (cc)

  idle_none : (a : ℕ) (o : Option Begun) → begun_of a (kept_of s earlier).jobs ≡ o → o ≡ None → (decision_of_begun (kept_of s earlier) a (begun_of a (kept_of s earlier).jobs) (operation_now s a (kept_of s earlier).jobs)).attempt ≡ None
  idle_none a None h e = rw h refl
  idle_none a (Some b) h e = absurd (cc)

  idle_operation : x.begun ≡ None → edit_of (operation_now s i (kept_of s earlier).jobs) ≡ None
  idle_operation e = ap (λ o. edit_of (begun_operation s i o)) (begun_here i refl ∙ e)

  mark_attempt : (b : Bool) (o : Option Attempt) (z : Job) (w : Option Begun) → z.begun ≡ w → (b ≡ true → w ≡ None → o ≡ None) → attempt_of (if b then record z { begun = option_map (begun_with o) z.begun } else z).begun ≡ or_else (if b then o else None) (attempt_of z.begun)
  mark_attempt true o z None h n = rw (h, n refl refl) refl
  mark_attempt true None z (Some b) h n = rw h refl
  mark_attempt true (Some a) z (Some b) h n = rw h refl
  mark_attempt false o z w h n = refl

  begin_attempt : (b : Bool) (o : Option Attempt) (z zs : Job) → attempt_of zs.begun ≡ (with_attempt o no_editing).attempt → attempt_of (if b then zs else z).begun ≡ (if b then (if b then o else None) else or_else (if b then o else None) (attempt_of z.begun))
  begin_attempt true None z zs h = h
  begin_attempt true (Some a) z zs h = h
  begin_attempt false o z zs h = refl

  own_attempt : (b new : Bool) (z zs : Job) → attempt_of zs.begun ≡ more_sent new (attempt_of z.begun) → attempt_of (if b then zs else z).begun ≡ more_sent (b && new) (attempt_of z.begun)
  own_attempt true new z zs h = h
  own_attempt false new z zs h = refl

  end_attempt : (b : Bool) (z zs : Job) → zs.begun ≡ None → attempt_of (if b then zs else z).begun ≡ (if b then None else attempt_of z.begun)
  end_attempt true z zs h = rw h refl
  end_attempt false z zs h = refl

  zero_attempt : (b : Bool) (z zs : Job) → zs.begun ≡ z.begun → attempt_of (if b then zs else z).begun ≡ or_else (if b then None else None) (attempt_of z.begun)
  zero_attempt true z zs h = rw h refl
  zero_attempt false z zs h = refl

  pub attempt_line : (l : Line) → attempt_of (behind_job s l (kept_of s earlier) i x).begun ≡ (if is_job_border i l then attempt_begun s i l earlier else or_else (attempt_begun s i l earlier) (more_sent (sends_update s i l earlier) (attempt_behind (facts_of s l (kept_of s earlier)).touch (decided_in x.begun) (attempt_of x.begun))))
  attempt_line (line.Turn zero) =
      zero_attempt (zero == i) (beside (line.Turn zero)) (own_job s (line.Turn zero) (kept_of s earlier) (facts_of s (line.Turn zero) (kept_of s earlier)) None (beside (line.Turn zero))) refl
      ∙ ap (or_else (if zero == i then None else None)) (left (line.Turn zero))
  attempt_line (line.Turn (suc a)) =
      mark_attempt (suc a == i) (decision_at s (line.Turn (suc a)) (kept_of s earlier)).attempt (beside (line.Turn (suc a))) (beside (line.Turn (suc a))).begun refl
      (λ same none. idle_none (suc a) (begun_of (suc a) (kept_of s earlier).jobs) refl (begun_here (suc a) (eqb-true (suc a) i same) ∙ none_beside (line.Turn (suc a)) x.begun refl none))
      ∙ ap (or_else (if suc a == i then (decision_at s (line.Turn (suc a)) (kept_of s earlier)).attempt else None)) (left (line.Turn (suc a)))
  attempt_line (line.Begin a j) =
      begin_attempt (a == i) (decision_at s (line.Begin a j) (kept_of s earlier)).attempt (beside (line.Begin a j))
      (own_job s (line.Begin a j) (kept_of s earlier) (facts_of s (line.Begin a j) (kept_of s earlier)) (decision_at s (line.Begin a j) (kept_of s earlier)).attempt (beside (line.Begin a j))) refl
      ∙ ap (λ o. if a == i then (if a == i then (decision_at s (line.Begin a j) (kept_of s earlier)).attempt else None) else or_else (if a == i then (decision_at s (line.Begin a j) (kept_of s earlier)).attempt else None) o) (left (line.Begin a j))
  attempt_line (line.Exchange a c r) =
      own_attempt (a == i) (is_new_update c (kept_of s earlier).chain) (beside (line.Exchange a c r))
      (own_job s (line.Exchange a c r) (kept_of s earlier) (facts_of s (line.Exchange a c r) (kept_of s earlier)) None (beside (line.Exchange a c r)))
      (exchanged_attempt (kept_of s earlier).selected ((kept_of s earlier).history.events + 1) c (edit_of (operation_now s a (kept_of s earlier).jobs)) (kept_of s earlier).chain r (beside (line.Exchange a c r)).begun)
      ∙ ap (more_sent ((a == i) && is_new_update c (kept_of s earlier).chain)) (left (line.Exchange a c r))
  attempt_line (line.Failed a c d) =
      own_attempt (a == i) (is_new_update c (kept_of s earlier).chain) (beside (line.Failed a c d))
      (own_job s (line.Failed a c d) (kept_of s earlier) (facts_of s (line.Failed a c d) (kept_of s earlier)) None (beside (line.Failed a c d)))
      (failed_attempt (kept_of s earlier).selected ((kept_of s earlier).history.events + 1) c (edit_of (operation_now s a (kept_of s earlier).jobs)) (kept_of s earlier).chain (beside (line.Failed a c d)).begun)
      ∙ ap (more_sent ((a == i) && is_new_update c (kept_of s earlier).chain)) (left (line.Failed a c d))
  attempt_line (line.Answered a j given) =
      end_attempt (a == i) (beside (line.Answered a j given)) (own_job s (line.Answered a j given) (kept_of s earlier) (facts_of s (line.Answered a j given) (kept_of s earlier)) None (beside (line.Answered a j given))) refl
      ∙ ap (λ o. if a == i then None else o) (left (line.Answered a j given))
  attempt_line (line.Reset a) = left (line.Reset a)
  attempt_line (line.ResetFailed a) = left (line.ResetFailed a)
  attempt_line (line.World a e) = left (line.World a e)
  attempt_line (line.Published n f e v text) = left (line.Published n f e v text)
  attempt_line (line.EpochEnd n e v) = left (line.EpochEnd n e v)
  attempt_line (line.Refused f n) = left (line.Refused f n)

  mark_decided : (b : Bool) (o : Option Attempt) (z : Job) (w : Option Begun) → z.begun ≡ w → decided_in (if b then record z { begun = option_map (begun_with o) z.begun } else z).begun ≡ decided_in z.begun
  mark_decided true o z None h = rw h refl
  mark_decided true None z (Some b) h = rw h refl
  mark_decided true (Some a) z (Some b) h = rw h refl
  mark_decided false o z w h = refl

  begin_decided : (b : Bool) (o : Option Attempt) (z zs : Job) → decided_in zs.begun ≡ (with_attempt o no_editing).decided → is_some (decided_in (if b then zs else z).begun) ≡ (not b && is_some (decided_in z.begun))
  begin_decided true None z zs h = ap (λ d. is_some d) h
  begin_decided true (Some a) z zs h = ap (λ d. is_some d) h
  begin_decided false o z zs h = refl

  own_decided : (b : Bool) (z zs : Job) → decided_in zs.begun ≡ decided_in z.begun → decided_in (if b then zs else z).begun ≡ decided_in z.begun
  own_decided true z zs h = h
  own_decided false z zs h = refl

  end_decided : (b : Bool) (z zs : Job) → zs.begun ≡ None → is_some (decided_in (if b then zs else z).begun) ≡ (not b && is_some (decided_in z.begun))
  end_decided true z zs h = rw h refl
  end_decided false z zs h = refl

  exchange_decided : (a : ℕ) (c : CommandValue) (r : ResponseValue) (z zs : Job) (b : Bool) (w : Option Begun) → a == i ≡ b → z.begun ≡ w → (w ≡ None → x.begun ≡ None)
      → zs.begun ≡ option_map (begun_exchanged (edit_of (operation_now s a (kept_of s earlier).jobs)) (kept_of s earlier).selected (kept_of s earlier).chain ((kept_of s earlier).history.events + 1) c r) z.begun
      → is_some (decided_in (if b then zs else z).begun) ≡ ((b && (is_update c r && is_main_current (kept_of s earlier).selected (edit_of (operation_now s i (kept_of s earlier).jobs)))) || is_some (decided_in z.begun))
  exchange_decided a c r z zs false w e h n same = refl
  exchange_decided a c r z zs true None e h n same = rw (same, h, idle_operation (n refl), and_false (is_update c r)) refl
  exchange_decided a c r z zs true (Some b) e h n same =
      rw (same, h) (exchanged_decided (kept_of s earlier).selected ((kept_of s earlier).history.events + 1) c (edit_of (operation_now s a (kept_of s earlier).jobs)) (kept_of s earlier).chain r b)
      ∙ ap (λ o. (is_update c r && is_main_current (kept_of s earlier).selected (edit_of (operation_now s o (kept_of s earlier).jobs))) || is_some b.editing.decided) (eqb-true a i e)
      ∙ ap (λ o. (is_update c r && is_main_current (kept_of s earlier).selected (edit_of (operation_now s i (kept_of s earlier).jobs))) || is_some (decided_in o)) (sym h)

  pub decided_line : (l : Line) → is_some (decided_in (behind_job s l (kept_of s earlier) i x).begun) ≡ (not (is_job_border i l) && (decides_edit s i l earlier || is_some (decided_in x.begun)))
  decided_line (line.Turn zero) =
      ap (λ d. is_some d) (own_decided (zero == i) (beside (line.Turn zero)) (own_job s (line.Turn zero) (kept_of s earlier) (facts_of s (line.Turn zero) (kept_of s earlier)) None (beside (line.Turn zero))) refl ∙ left_decided (line.Turn zero))
  decided_line (line.Turn (suc a)) =
      ap (λ d. is_some d) (mark_decided (suc a == i) (decision_at s (line.Turn (suc a)) (kept_of s earlier)).attempt (beside (line.Turn (suc a))) (beside (line.Turn (suc a))).begun refl ∙ left_decided (line.Turn (suc a)))
  decided_line (line.Begin a j) =
      begin_decided (a == i) (decision_at s (line.Begin a j) (kept_of s earlier)).attempt (beside (line.Begin a j))
      (own_job s (line.Begin a j) (kept_of s earlier) (facts_of s (line.Begin a j) (kept_of s earlier)) (decision_at s (line.Begin a j) (kept_of s earlier)).attempt (beside (line.Begin a j))) refl
      ∙ ap (λ d. not (a == i) && is_some d) (left_decided (line.Begin a j))
  decided_line (line.Exchange a c r) =
      exchange_decided a c r (beside (line.Exchange a c r)) (own_job s (line.Exchange a c r) (kept_of s earlier) (facts_of s (line.Exchange a c r) (kept_of s earlier)) None (beside (line.Exchange a c r)))
      (a == i) (beside (line.Exchange a c r)).begun refl refl (none_beside (line.Exchange a c r) x.begun refl) refl
      ∙ ap (λ d. ((a == i) && (is_update c r && is_main_current (kept_of s earlier).selected (edit_of (operation_now s i (kept_of s earlier).jobs)))) || is_some d) (left_decided (line.Exchange a c r))
  decided_line (line.Failed a c d) =
      ap (λ p. is_some p)
      (own_decided (a == i) (beside (line.Failed a c d)) (own_job s (line.Failed a c d) (kept_of s earlier) (facts_of s (line.Failed a c d) (kept_of s earlier)) None (beside (line.Failed a c d)))
      (failed_decided (kept_of s earlier).selected ((kept_of s earlier).history.events + 1) c (edit_of (operation_now s a (kept_of s earlier).jobs)) (kept_of s earlier).chain (beside (line.Failed a c d)).begun)
      ∙ left_decided (line.Failed a c d))
  decided_line (line.Answered a j given) =
      end_decided (a == i) (beside (line.Answered a j given)) (own_job s (line.Answered a j given) (kept_of s earlier) (facts_of s (line.Answered a j given) (kept_of s earlier)) None (beside (line.Answered a j given))) refl
      ∙ ap (λ d. not (a == i) && is_some d) (left_decided (line.Answered a j given))
  decided_line (line.Reset a) = ap (λ d. is_some d) (left_decided (line.Reset a))
  decided_line (line.ResetFailed a) = ap (λ d. is_some d) (left_decided (line.ResetFailed a))
  decided_line (line.World a e) = ap (λ d. is_some d) (left_decided (line.World a e))
  decided_line (line.Published n f e v text) = ap (λ d. is_some d) (left_decided (line.Published n f e v text))
  decided_line (line.EpochEnd n e v) = ap (λ d. is_some d) (left_decided (line.EpochEnd n e v))
  decided_line (line.Refused f n) = ap (λ d. is_some d) (left_decided (line.Refused f n))

-- ---- all lines

unmoved : (b : Bool) (sent : Bool) (a : Attempt) (d : Option Decided) (n : ℕ) (m : Bool) → more_sent sent (if b then moved_attempt d (as_of n m a) else Some (as_of n m a)) ≡ option_map (as_of (counted sent n) (b || m)) (if b && not (is_some d) then None else Some a)
unmoved true true a None n m = refl
unmoved true false a None n m = refl
unmoved true true a (Some d) n m = refl
unmoved true false a (Some d) n m = refl
unmoved false true a d n m = refl
unmoved false false a d n m = refl

goes_on : (t : Touch) (o : Option Attempt) (sent : Bool) (d : Option Decided) (n : ℕ) (m : Bool) → more_sent sent (attempt_behind t d (option_map (as_of n m) o)) ≡ option_map (as_of (counted sent n) (has_value (λ (a : Attempt). moves_one t a.paths) o || m)) (unless_moved (is_some d) (λ a. moves_one t a.paths) o)
goes_on t None sent d n m = sent_none sent
goes_on t (Some a) sent d n m = unmoved (moves_one t a.paths) sent a d n m

combined : (t : Touch) (border sent : Bool) (new o : Option Attempt) (d : Option Decided) (n : ℕ) (m : Bool) → unsent new ≡ new → (if border then new else or_else new (more_sent sent (attempt_behind t d (option_map (as_of n m) o)))) ≡ option_map (as_of (if border || is_some new then 0 else counted sent n) (not (border || is_some new) && (has_value (λ (a : Attempt). moves_one t a.paths) o || m))) (if border then new else or_else new (unless_moved (is_some d) (λ a. moves_one t a.paths) o))
combined t true sent new o d n m h = sym h
combined t false sent (Some a) o d n m h = sym h
combined t false sent None o d n m h = goes_on t o sent d n m

-- what is kept of an actor's attempt, and whether its edit is decided
pub record Tells (s : Script) (lines : List Line) (i : ℕ) (y : Job) : Type 0 where
  pub attempt : attempt_of y.begun ≡ option_map (as_of (updates_sent s i lines) (was_moved s i lines)) (attempt_since s i lines)
  pub decided : is_some (decided_in y.begun) ≡ was_decided s i lines

pub first_jobs : (n i : ℕ) (y : Job) → slice_get (replicate n first_job) i ≡ Some y → y ≡ first_job
first_jobs zero i y h = absurd (cc)
first_jobs (suc n) zero y h = sym (ap some_of h)
  where
    some_of : Option Job → Job
    some_of None = first_job
    some_of (Some x) = x
first_jobs (suc n) (suc i) y h = first_jobs n i y h

tells_first : (s : Script) (i : ℕ) (y : Job) → y ≡ first_job → Tells s [] i y
tells_first s i y h = record { attempt = rw h refl; decided = rw h refl }

tells_line : (s : Script) (l : Line) (earlier : List Line) (i : ℕ) (y x : Job) → slice_get (kept_of s earlier).jobs i ≡ Some x → y ≡ behind_job s l (kept_of s earlier) i x → Tells s earlier i x → Tells s (l ∷ earlier) i y
tells_line s l earlier i y x here became told = record {
  attempt =
      ap (λ (j : Job). attempt_of j.begun) became ∙ attempt_line s earlier i x here l
      ∙ ap (λ o. if is_job_border i l then attempt_begun s i l earlier else or_else (attempt_begun s i l earlier) (more_sent (sends_update s i l earlier) (attempt_behind (facts_of s l (kept_of s earlier)).touch (decided_in x.begun) o))) told.attempt
      ∙ combined (facts_of s l (kept_of s earlier)).touch (is_job_border i l) (sends_update s i l earlier) (attempt_begun s i l earlier) (attempt_since s i earlier) (decided_in x.begun) (updates_sent s i earlier) (was_moved s i earlier) (fresh s i l earlier (is_start_of i l))
      ∙ ap (λ d. option_map (as_of (updates_sent s i (l ∷ earlier)) (was_moved s i (l ∷ earlier))) (if is_job_border i l then attempt_begun s i l earlier else or_else (attempt_begun s i l earlier) (unless_moved d (moves_attempt s l earlier) (attempt_since s i earlier)))) told.decided;
  decided =
      ap (λ (j : Job). is_some (decided_in j.begun)) became ∙ decided_line s earlier i x here l
      ∙ ap (λ d. not (is_job_border i l) && (decides_edit s i l earlier || d)) told.decided;
}

pub tells : (s : Script) (lines : List Line) (i : ℕ) (y : Job) → slice_get (kept_of s lines).jobs i ≡ Some y → Tells s lines i y
tells s [] i y h = tells_first s i y (first_jobs (actor_count s + 1) i y h)
tells s (l ∷ earlier) i y h =
    let b : Before s l earlier i y = before s l earlier i y h in
    tells_line s l earlier i y b.job b.here b.became (tells s earlier i b.job b.here)

pub attempts_back : (s : Script) (lines : List Line) → KeepsAttempts s lines
attempts_back s lines actor job h = (tells s lines actor job h).attempt
