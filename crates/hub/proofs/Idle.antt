-- A mark of an actor who waits, or has nothing left, is followed by nothing.
use Rattle.std.proofs.Common.{◌≡◌, ◌&&◌, ◌||◌, ℕ, zero, suc, not, Bool, true, false, if◌then◌else◌, List, [], ◌∷◌, slice_get, Option, Some, None, is_some, refl, sym, ap, ◌∙◌, true≢false, lt-ltb}
use Rattle.std.specs.Prelude.{option_and_then, option_map}
use Rattle.script_reader.specs.declared.types.Script.{Script}
use Rattle.script_reader.specs.declared.types.Operation.{Operation}
use Rattle.report.specs.declared.line.Line.{Line}
use Rattle.report.specs.declared.line.Line.TheVariants as line
use Rattle.apdu.specs.Values.{CommandValue}
use Rattle.rules.specs.declared.due.Due.TheVariants.{EndOfActor as end_of_actor, WaitFor as wait_for, Rest as rest}
use Rattle.rules.specs.declared.kept.Begun.{Begun}
use Rattle.rules.specs.declared.kept.Job.{Job}
use Rattle.rules.specs.declared.kept.Kept.{Kept}
use Rattle.rules.specs.declared.kept.Stage.TheVariants.{Fresh as fresh}
use Rattle.rules.specs.declared.kept.Work.TheVariants.{Rests as rests, Resets as resets, Sends as sends}
use Rattle.rules.specs.Kept.{begun_of, begun_operation, job_of, operation_now}
use Rattle.rules.specs.Standing.{first_stale}
use Rattle.rules.specs.After.{decision_at, decision_of_begun, family_at, family_of_begun, kept_after, kept_of}
use Rattle.rules.specs.Due.{answer_of_begun, begin_or_rest, command_by_chain, command_by_stage, due, due_answer, due_at_mark, due_by_answer, due_by_command, due_by_end, due_by_event, due_by_publication, due_by_refusal, due_by_reset, due_command, due_of_actor, due_publication, event_by_stage, event_of, first_command, first_of_turn, is_reset_due, is_resetting, published_by, reset_by_stage, tried_event}
use Rattle.rules.specs.Work.{family_read, first_item, framework_work, has_ended, has_operations_left, has_work, has_work_alive, is_finished, is_idle, is_starting, next_waits_on, read_stale, reads_first, waits_on}
use Rattle.families.specs.Families.{family_paths}
use Rattle.refresher.specs.Refresh.{startup_command, fetch_command}
use Rattle.rules.specs.Performed.{ends_turn}
use Rattle.performed.specs.Names.{has_utf8_names}
use Rattle.performed.specs.Followed.{are_followed}
use Rattle.performed.proofs.Plain.{keeps}
use Rattle.performed.proofs.ProgressMarks.{idle_same, same_work, seen_of}
use Rattle.hub.specs.Parts.{Parts}
use Rattle.hub.specs.Settled.{HasLine, IsSettled}

-- ---- a turn that has nothing to do comes to what is due behind its mark

module _ (s : Script) (k : Kept) (a : ℕ) (actor : k.turn.actor ≡ Some a) (bare : k.turn.bare ≡ true) (ended : k.turn.ended ≡ None) (refused : k.turn.refused ≡ None) (chain : k.chain ≡ None) (stage : k.turn.stage ≡ fresh) (work : k.turn.work ≡ rests) (family : k.turn.family ≡ None) (answer : due_answer s k ≡ None) where
  no_command : due_command k ≡ None
  no_command = ap (command_by_chain k) chain ∙ ap (command_by_stage k) stage ∙ ap (first_of_turn k.selected k.jobs k.turn.work) actor ∙ ap (first_command k.selected (job_of a k.jobs)) work

  no_reset : is_reset_due k ≡ false
  no_reset = ap (reset_by_stage k.turn.work) stage ∙ ap is_resetting work

  no_event : tried_event k ≡ None
  no_event = ap (event_by_stage k.turn.work) stage ∙ ap event_of work

  no_publication : due_publication k ≡ None
  no_publication = ap (option_and_then (published_by k)) family

  comes_to_mark : due s k ≡ due_at_mark s k a
  comes_to_mark =
      ap (due_by_end s k) ended
      ∙ ap (due_by_command s k) no_command
      ∙ ap (due_by_reset s k) no_reset
      ∙ ap (due_by_event s k) no_event
      ∙ ap (due_by_refusal s k) refused
      ∙ ap (due_by_publication s k) no_publication
      ∙ ap (due_by_answer s k) answer
      ∙ ap (due_of_actor s k) actor
      ∙ ap (λ (b : Bool). elim b [ true ↦ due_at_mark s k a | false ↦ rest ]) bare

-- ---- idle

idle_mark : (s : Script) (k : Kept) (a : ℕ) (ended : Bool) (on : Option ℕ) → (ended || is_some on) ≡ true → ends_turn (elim ended [ true ↦ end_of_actor | false ↦ elim on [ Some b ↦ wait_for b | None ↦ begin_or_rest s k a ] ]) ≡ true
idle_mark s k a true on h = refl
idle_mark s k a false (Some b) h = refl
idle_mark s k a false None h = absurd (true≢false (sym h))

-- ---- the framework without work

framework_waits : (k : Kept) (w : Bool) (o : Option ℕ) → is_some (if w then None else o) ≡ true → w ≡ false
framework_waits k true o h = absurd (true≢false (sym h))
framework_waits k false o h = refl

record Quiet (k : Kept) : Type 0 where
  owes : k.history.owes_reset ≡ false
  alive : k.history.living ≡ true → has_work_alive k ≡ false

or_none : (a b : Bool) → (a || b) ≡ false → (a ≡ false) × (b ≡ false)
or_none true b h = absurd (true≢false h)
or_none false b h = (refl, h)

and_none : (a b : Bool) → (a && b) ≡ false → a ≡ true → b ≡ false
and_none a b h e = ap (λ (x : Bool). x && b) (sym e) ∙ h

quiet_of : (k : Kept) → has_work k ≡ false → Quiet k
quiet_of k h =
    let p = or_none k.history.owes_reset (k.history.living && has_work_alive k) h in
    record { owes = p.0; alive = λ e. and_none k.history.living (has_work_alive k) p.1 e }

record Still (k : Kept) : Type 0 where
  started : is_starting k ≡ false
  owed : is_some k.owed ≡ false
  announced : is_some k.history.announced ≡ false
  stale : is_some (first_stale k.standings) ≡ false

still_of : (k : Kept) → has_work_alive k ≡ false → Still k
still_of k h =
    let p = or_none (is_starting k || is_some k.owed || is_some k.history.announced) (is_some (first_stale k.standings)) h in
    let q = or_none (is_starting k || is_some k.owed) (is_some k.history.announced) p.0 in
    let r = or_none (is_starting k) (is_some k.owed) q.0 in
    record { started = r.0; owed = r.1; announced = q.1; stale = p.1 }

none_of : {A : Type 0} (o : Option A) → is_some o ≡ false → o ≡ None
none_of None h = refl
none_of (Some x) h = absurd (true≢false h)

item_rests : (k : Kept) → Still k → first_item k ≡ rests
item_rests k t =
    ap (λ (b : Bool). if b then sends (startup_command k.startup) else elim k.owed [ Some c ↦ sends c | None ↦ elim k.history.announced [ Some byte ↦ sends (fetch_command byte) | None ↦ read_stale k ] ]) t.started
    ∙ ap (λ (o : Option CommandValue). elim o [ Some c ↦ sends c | None ↦ elim k.history.announced [ Some byte ↦ sends (fetch_command byte) | None ↦ read_stale k ] ]) (none_of k.owed t.owed)
    ∙ ap (λ (o : Option ℕ). elim o [ Some byte ↦ sends (fetch_command byte) | None ↦ read_stale k ]) (none_of k.history.announced t.announced)
    ∙ ap (λ (o : Option ℕ). elim o [ Some f ↦ reads_first k.files (family_paths f) | None ↦ rests ]) (none_of (first_stale k.standings) t.stale)

work_rests : (k : Kept) (owes living : Bool) → owes ≡ false → (living ≡ true → first_item k ≡ rests) → (if owes then resets else elim living [ true ↦ first_item k | false ↦ rests ]) ≡ rests
work_rests k true living e h = absurd (true≢false e)
work_rests k false true e h = h refl
work_rests k false false e h = refl

framework_rests : (k : Kept) → Quiet k → framework_work k ≡ rests
framework_rests k t = work_rests k k.history.owes_reset k.history.living t.owes (λ e. item_rests k (still_of k (t.alive e)))

reads_none : (k : Kept) (b : Bool) → (b ≡ false → is_some (first_stale k.standings) ≡ false) → (if b then None else first_stale k.standings) ≡ None
reads_none k true h = refl
reads_none k false h = none_of (first_stale k.standings) (h refl)

flipped : (b : Bool) → not b ≡ false → b ≡ true
flipped true h = refl
flipped false h = absurd (true≢false h)

framework_reads_none : (k : Kept) → Quiet k → family_read k ≡ None
framework_reads_none k t =
    reads_none k (k.history.owes_reset || not k.history.living || is_starting k || is_some k.owed || is_some k.history.announced)
    (λ e.
    let p = or_none (k.history.owes_reset || not k.history.living || is_starting k || is_some k.owed) (is_some k.history.announced) e in
    let q = or_none (k.history.owes_reset || not k.history.living || is_starting k) (is_some k.owed) p.0 in
    let r = or_none (k.history.owes_reset || not k.history.living) (is_starting k) q.0 in
    let u = or_none k.history.owes_reset (not k.history.living) r.0 in
    (still_of k (t.alive (flipped k.history.living u.1))).stale)

framework_answers_none : (s : Script) (k : Kept) (b : Option Begun) → answer_of_begun k 0 b (begun_operation s 0 b) ≡ None
framework_answers_none s k None = refl
framework_answers_none s k (Some b) = refl

-- ---- an actor that has begun nothing

job_at : (jobs : List Job) (i : ℕ) (b : Begun) → begun_of i jobs ≡ Some b → slice_get jobs i ≡ Some (job_of i jobs)
job_at [] i b h = absurd (cc)
job_at (job ∷ jobs) zero b h = refl
job_at (job ∷ jobs) (suc i) b h = job_at jobs i b h

has_left : (s : Script) (lines : List Line) (i : ℕ) (b : Begun) → has_utf8_names s ≡ true → are_followed s lines ≡ true → begun_of i (kept_of s lines).jobs ≡ Some b → has_operations_left s (kept_of s lines) i ≡ true
has_left s lines i b v f h =
    let t = (keeps s lines f).jobs i (job_of i (kept_of s lines).jobs) (job_at (kept_of s lines).jobs i b h) in
    lt-ltb _ _ (t.left (ap is_some h))

idle_unbegun : (s : Script) (lines : List Line) (a : ℕ) (o : Option Begun) → has_utf8_names s ≡ true → are_followed s lines ≡ true → begun_of (suc a) (kept_of s lines).jobs ≡ o → (not (has_operations_left s (kept_of s lines) (suc a)) || is_some (if is_some o then None else next_waits_on s (kept_of s lines) (suc a))) ≡ true → o ≡ None
idle_unbegun s lines a None v f e h = refl
idle_unbegun s lines a (Some b) v f e h = absurd (never (has_operations_left s (kept_of s lines) (suc a)) (has_left s lines (suc a) b v f e) h)
  where
    never : (x : Bool) → x ≡ true → (not x || false) ≡ true → ⊥
    never true e g = true≢false (sym g)
    never false e g = true≢false (sym e)

unbegun_behind : (s : Script) (k : Kept) (a : ℕ) → begun_of a k.jobs ≡ None → begun_of a (kept_after s (line.Turn a) k).jobs ≡ None
unbegun_behind s k a h = unseen (begun_of a (kept_after s (line.Turn a) k).jobs) (((same_work s k a).jobs a).begun ∙ ap (option_map seen_of) h)
  where
    unseen : (o : Option Begun) → option_map seen_of o ≡ None → o ≡ None
    unseen None e = refl
    unseen (Some b) e = absurd (cc)

no_answer : (s : Script) (k : Kept) (a : ℕ) (op : Option Operation) (b : Option Begun) → b ≡ None → answer_of_begun k a b op ≡ None
no_answer s k a op None e = refl
no_answer s k a op (Some b) e = absurd (cc)

no_work : (k : Kept) (a : ℕ) (op : Option Operation) (b : Option Begun) → b ≡ None → (decision_of_begun k a b op).work ≡ rests
no_work k a op None e = refl
no_work k a op (Some b) e = absurd (cc)

no_family : (k : Kept) (op : Option Operation) (b : Option Begun) → b ≡ None → family_of_begun k b op ≡ None
no_family k op None e = refl
no_family k op (Some b) e = absurd (cc)

-- ---- both

module _ (s : Script) (lines : List Line) (v : has_utf8_names s ≡ true) (f : are_followed s lines ≡ true) (pending : is_finished s (kept_of s lines) ≡ false) where
  at_mark : (a : ℕ) → is_idle s (kept_of s lines) a ≡ true → (decision_at s (line.Turn a) (kept_of s lines)).work ≡ rests → family_at s a (kept_of s lines) ≡ None → due_answer s (kept_of s (line.Turn a ∷ lines)) ≡ None → ends_turn (due s (kept_of s (line.Turn a ∷ lines))) ≡ true
  at_mark a idle work family answer =
      let k : Kept = kept_of s (line.Turn a ∷ lines) in
      ap ends_turn (comes_to_mark s k a refl refl refl refl refl refl work family answer)
      ∙ idle_mark s k a (has_ended s k a) (waits_on s k a) (idle_same s k (kept_of s lines) (same_work s (kept_of s lines) a) a ∙ idle)

  framework_ends : is_idle s (kept_of s lines) zero ≡ true → ends_turn (due s (kept_of s (line.Turn zero ∷ lines))) ≡ true
  framework_ends idle =
      let k : Kept = kept_of s lines in
      let waits : is_some (waits_on s k zero) ≡ true = ap (λ (b : Bool). b || is_some (waits_on s k zero)) (sym pending) ∙ idle in
      let t : Quiet k = quiet_of k (framework_waits k (has_work k) _ waits) in
      at_mark zero idle (framework_rests k t) (framework_reads_none k t) (framework_answers_none s (kept_of s (line.Turn zero ∷ lines)) (begun_of 0 (kept_of s (line.Turn zero ∷ lines)).jobs))

  actor_ends : (a : ℕ) → is_idle s (kept_of s lines) (suc a) ≡ true → ends_turn (due s (kept_of s (line.Turn (suc a) ∷ lines))) ≡ true
  actor_ends a idle =
      let k : Kept = kept_of s lines in
      let none : begun_of (suc a) k.jobs ≡ None = idle_unbegun s lines a (begun_of (suc a) k.jobs) v f refl idle in
      let k1 : Kept = kept_of s (line.Turn (suc a) ∷ lines) in
      at_mark (suc a) idle
      (no_work k (suc a) (operation_now s (suc a) k.jobs) (begun_of (suc a) k.jobs) none)
      (no_family k (operation_now s (suc a) k.jobs) (begun_of (suc a) k.jobs) none)
      (no_answer s k1 (suc a) (operation_now s (suc a) k1.jobs) (begun_of (suc a) k1.jobs) (unbegun_behind s k (suc a) none))

  mark_ends : (a : ℕ) → is_idle s (kept_of s lines) a ≡ true → ends_turn (due s (kept_of s (line.Turn a ∷ lines))) ≡ true
  mark_ends zero idle = framework_ends idle
  mark_ends (suc a) idle = actor_ends a idle

pub idle_settles : (p q : Parts) (a : ℕ) → IsSettled p → HasLine (line.Turn a) p q → is_finished p.script p.kept ≡ false → is_idle p.script p.kept a ≡ true → IsSettled q
idle_settles p q a t h pending idle =
    let ends = mark_ends p.script p.lines.lines t.tied.lines.served t.tied.lines.followed (ap (is_finished p.script) (sym t.tied.kept) ∙ pending) a (ap (λ (k : Kept). is_idle p.script k a) (sym t.tied.kept) ∙ idle) in
    record {
      tied = h.tied;
      ends =
          ap (λ (k : Kept). ends_turn (due q.script k)) h.tied.kept
          ∙ ap (λ (x : List Line). ends_turn (due q.script (kept_of q.script x))) h.lines
          ∙ ap (λ (s : Script). ends_turn (due s (kept_of s (line.Turn a ∷ p.lines.lines)))) h.stays.script
          ∙ ends;
    }
