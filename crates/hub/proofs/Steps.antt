-- A turn from line to line.
use Rattle.std.proofs.Common.{◌≡◌, ◌≤◌, ◌<◌, ◌+◌, ◌*◌, ◌++◌, inl, inr, ℕ, suc, not, Bool, true, false, nat_lt, List, [], ◌∷◌, length, Option, Some, None, is_some, IsOk, OnOk, OnErr, Result, Ok, Err, refl, sym, ap, ◌∙◌, subst, true≢false, arith, ltb-true, ltb-false, append_assoc}
use Rattle.std.specs.Prelude.{option_map}
use Rattle.std.proofs.lemmas.Bool.{and_parts}
use Rattle.families.specs.Contents.{family_count}
use Rattle.families.specs.Families.{shown}
use Rattle.script_reader.specs.declared.types.Script.{Script}
use Rattle.report.specs.declared.line.Line.{Line}
use Rattle.report.specs.declared.line.Line.TheVariants as line
use Rattle.epoch_cache.specs.declared.cached.CachedFile.{CachedFile}
use Rattle.epoch_cache.specs.Cache.{view_of_files}
use Rattle.rules.specs.declared.due.Due.{Due}
use Rattle.rules.specs.declared.due.Due.TheVariants.{TellEnd as tell_end, Send as send, ResetCard as reset_card, TryEvent as try_event, TellRefusal as tell_refusal, Publish as publish, Give as give, Begin as begin, WaitFor as wait_for, EndOfActor as end_of_actor, Rest as rest}
use Rattle.hub.specs.Performing.{is_performed}
use Rattle.rules.specs.declared.kept.Job.{Job}
use Rattle.rules.specs.declared.kept.Kept.{Kept}
use Rattle.rules.specs.Kept.{actor_count, begun_of}
use Rattle.rules.specs.After.{is_mark, kept_after, kept_of}
use Rattle.rules.specs.Due.{due, kept_text}
use Rattle.rules.specs.Performed.{ends_turn}
use Rattle.rules.specs.Work.{is_finished, is_idle}
use Rattle.performed.specs.Followed.{are_followed}
use Rattle.performed.specs.Laws.{has_no_mark}
use Rattle.performed.specs.Measure.{one_if, steps_left}
use Rattle.performed.proofs.LegalScript.{family_known, is_family_or_none}
use Rattle.performed.proofs.Measure.{turns_end}
use Rattle.performed.proofs.ProgressActors.{nobody}
use Rattle.hub.specs.Hub.{AddsTurn}
use Rattle.hub.specs.Parts.{Parts}
use Rattle.hub.specs.Ready.{family_ready}
use Rattle.hub.specs.Settled.{BreaksBehind, HasBroken, HasLine, HasOneMore, HasTurned, IsNext, IsPrepared, IsReady, IsSettled, IsSince, IsTied, IsTurning, LeavesRoom, MayDo, MayPublish, StaysWith, most_of_text}
use Rattle.hub.proofs.Calm.{publishes, was_ready}
use Rattle.hub.proofs.Scripts.{known_some}
use Rattle.hub.proofs.Turning.{came_on, less_text, ready_by, unless}

-- ---- the mark

one_most : (b : Bool) → one_if b ≤ 1
one_most true = omega arith
one_most false = omega arith

mark_steps : (s : Script) (a : ℕ) (lines : List Line) → steps_left (kept_of s (line.Turn a ∷ lines)) ≤ 96
mark_steps s a lines =
    let jobs : List Job = (kept_of s (line.Turn a ∷ lines)).jobs in
    let most = one_most (is_some (begun_of a jobs)) in
    let is : steps_left (kept_of s (line.Turn a ∷ lines)) ≡ 80 + (3 + one_if (is_some (begun_of a jobs))) = refl in
    omega arith

first_ready : (a : ℕ) (s : Script) (before k : Kept) (text : Option (List ℕ)) → k.history.events ≡ before.history.events → text ≡ option_map (λ f. kept_text f before) (family_ready s before a) → IsReady a s before k text
first_ready a s before k None e h = inl (nothing (family_ready s before a) (sym h))
  where
    nothing : (o : Option ℕ) → option_map (λ f. kept_text f before) o ≡ None → o ≡ None
    nothing None g = refl
    nothing (Some f) g = absurd (cc)
first_ready a s before k (Some text) e h = (e, h)

pub first_turning : (p q : Parts) (a : ℕ) (text : Option (List ℕ)) → IsSettled p → is_idle p.script p.kept a ≡ false → IsPrepared a text p → HasLine (line.Turn a) p q → p.lines.spare_bytes ≤ q.lines.spare_bytes + 32 → IsTurning a p.lines.lines text q
first_turning p q a text t awake ready h bytes =
    let s : Script = p.script in
    let kept : q.kept ≡ kept_of s (line.Turn a ∷ p.lines.lines) = h.tied.kept ∙ ap (λ (z : Script). kept_of z q.lines.lines) h.stays.script ∙ ap (kept_of s) h.lines in
    let steps : steps_left q.kept ≤ 96 = subst (λ (k : Kept). steps_left k ≤ 96) (sym kept) (mark_steps s a p.lines.lines) in
    let few = ready.few in
    let spare = ready.spare in
    let taken = h.spare in
    let spare_bytes = ready.spare_bytes in
    let longer : length q.lines.lines ≡ suc (length p.lines.lines) = ap length h.lines in
    record {
      tied = h.tied;
      turn = record { added = []; lines = h.lines; own = refl };
      awake = ap (λ (z : Script). is_idle z (kept_of z p.lines.lines) a) h.stays.script ∙ ap (λ (k : Kept). is_idle s k a) (sym t.tied.kept) ∙ awake;
      ready =
          subst (λ (z : Script). IsReady a z (kept_of z p.lines.lines) q.kept text) (sym h.stays.script)
          (first_ready a s (kept_of s p.lines.lines) q.kept text (ap (λ (k : Kept). k.history.events) kept) (subst (λ (k : Kept). text ≡ option_map (λ f. kept_text f k) (family_ready s k a)) t.tied.kept ready.ready));
      since =
          subst (λ (z : Script). IsSince (kept_of z p.lines.lines).history.events q.kept) (sym h.stays.script)
          (subst (λ (k : Kept). IsSince (kept_of s p.lines.lines).history.events k) (sym kept) (record { started = omega arith; came = λ e. absurd (true≢false (sym e)) }));
      few = omega arith;
      steps = steps;
      spare = omega arith;
      spare_bytes = omega arith;
    }

-- ---- one line more

pub steps_fall : (p q : Parts) → IsTied p → HasOneMore p q → steps_left q.kept < steps_left p.kept
steps_fall p q t m =
    let follow : are_followed p.script (m.line ∷ p.lines.lines) ≡ true =
    ap (λ (x : List Line). are_followed p.script x) (sym m.has.lines) ∙ ap (λ (s : Script). are_followed s q.lines.lines) (sym m.has.stays.script) ∙ m.has.tied.lines.followed in
    let less = ltb-true _ _ (turns_end p.script p.lines.lines m.line follow m.own) in
    let kept : q.kept ≡ kept_of p.script (m.line ∷ p.lines.lines) = m.has.tied.kept ∙ ap (λ (z : Script). kept_of z q.lines.lines) m.has.stays.script ∙ ap (kept_of p.script) m.has.lines in
    let now = ap steps_left kept in
    let before = ap steps_left t.kept in
    omega arith

module _ (a : ℕ) (earlier : List Line) (text : Option (List ℕ)) (p q : Parts) (t : IsTurning a earlier text p) (m : HasOneMore p q) where
  turn_on : AddsTurn a earlier q.lines.lines
  turn_on = record {
    added = m.line ∷ t.turn.added;
    lines = m.has.lines ∙ ap (λ (x : List Line). m.line ∷ x) t.turn.lines;
    own = rw (m.own) t.turn.own;
  }

  kept_on : q.kept ≡ kept_after p.script m.line p.kept
  kept_on = m.has.tied.kept ∙ ap (λ (z : Script). kept_of z q.lines.lines) m.has.stays.script ∙ ap (kept_of p.script) m.has.lines ∙ ap (kept_after p.script m.line) (sym t.tied.kept)

  -- with the same text, or none
  turning_on : (new : Option (List ℕ)) → IsReady a p.script (kept_of p.script earlier) q.kept new → 608 * (steps_left q.kept + 1) + most_of_text new ≤ q.lines.spare_bytes → IsTurning a earlier new q
  turning_on new ready bytes =
      let falls = steps_fall p q t.tied m in
      let few = t.few in
      let steps = t.steps in
      let spare = t.spare in
      let taken = m.has.spare in
      let longer : length q.lines.lines ≡ suc (length p.lines.lines) = ap length m.has.lines in
      record {
        tied = m.has.tied;
        turn = turn_on;
        awake = ap (λ (z : Script). is_idle z (kept_of z earlier) a) m.has.stays.script ∙ t.awake;
        ready = subst (λ (z : Script). IsReady a z (kept_of z earlier) q.kept new) (sym m.has.stays.script) ready;
        since =
            subst (λ (z : Script). IsSince (kept_of z earlier).history.events q.kept) (sym m.has.stays.script)
            (subst (λ (k : Kept). IsSince (kept_of p.script earlier).history.events k) (sym kept_on) (came_on p.script m.line p.kept (kept_of p.script earlier).history.events m.own t.since));
        few = omega arith;
        steps = omega arith;
        spare = omega arith;
        spare_bytes = bytes;
      }

  pub next_turning : (events : ℕ) → events ≡ (kept_of p.script earlier).history.events → p.lines.spare_bytes ≤ q.lines.spare_bytes + 608 → IsTurning a earlier (unless events q.kept.history.events text) q
  next_turning events from bytes =
      let falls = steps_fall p q t.tied m in
      let spare_bytes = t.spare_bytes in
      let less = less_text events q.kept.history.events text (nat_lt events q.kept.history.events) in
      turning_on (unless events q.kept.history.events text)
      (subst (λ (n : ℕ). IsReady a p.script (kept_of p.script earlier) q.kept (unless n q.kept.history.events text)) (sym from)
      (subst (λ (k : Kept). IsReady a p.script (kept_of p.script earlier) k (unless (kept_of p.script earlier).history.events k.history.events text)) (sym kept_on)
      (ready_by a p.script (kept_of p.script earlier) p.kept m.line m.own text _ refl t.ready)))
      (omega arith)

  room_left : LeavesRoom 0 (most_of_text text) p.lines.spare_bytes q.lines.spare_bytes → 608 * (steps_left q.kept + 1) + 0 ≤ q.lines.spare_bytes
  room_left (inl kept) =
      let falls = steps_fall p q t.tied m in
      let spare_bytes = t.spare_bytes in
      omega arith
  room_left (inr much) =
      let falls = steps_fall p q t.tied m in
      let steps = t.steps in
      omega arith

  pub published_turning : is_some q.kept.turn.published ≡ true → LeavesRoom 0 (most_of_text text) p.lines.spare_bytes q.lines.spare_bytes → IsTurning a earlier None q
  published_turning published room = turning_on None (inr (inr published)) (room_left room)

-- behind a line that was done
pub done_turning : (a : ℕ) (earlier : List Line) (text next : Option (List ℕ)) (p q : Parts) (events : ℕ) → IsTurning a earlier text p → HasOneMore p q → events ≡ (kept_of p.script earlier).history.events → IsNext events text next p q → IsTurning a earlier next q
done_turning a earlier text next p q events t m from (inl h) =
    subst (λ (x : Option (List ℕ)). IsTurning a earlier x q) (sym h.0) (next_turning a earlier text p q t m events from h.1)
done_turning a earlier text next p q events t m from (inr h) =
    subst (λ (x : Option (List ℕ)). IsTurning a earlier x q) (sym h.0) (published_turning a earlier text p q t m h.1 h.2)

-- ---- a publication

text_same : (f : ℕ) (before k : Kept) (text : List ℕ) (o : Option ℕ) → o ≡ Some f → k.files ≡ before.files → Some text ≡ option_map (λ g. kept_text g before) o → text ≡ kept_text f k
text_same f before k text o e files h =
    let made : Some text ≡ Some (kept_text f before) = h ∙ ap (option_map (λ g. kept_text g before)) e in
    let same : text ≡ kept_text f before = cc in
    same ∙ ap (λ (x : List CachedFile). shown f (view_of_files x)) (sym files)

module _ (a : ℕ) (earlier : List Line) (p : Parts) (f : ℕ) where
  lines_ready : (text : Option (List ℕ)) (t : IsTurning a earlier text p) → due p.script p.kept ≡ publish f → p.kept.history.events ≡ (kept_of p.script earlier).history.events → (family_ready p.script (kept_of p.script earlier) a ≡ Some f) × (p.kept.files ≡ (kept_of p.script earlier).files)
  lines_ready text t h same =
      let lines : List Line = t.turn.added ++ line.Turn a ∷ earlier in
      let kept : p.kept ≡ kept_of p.script lines = t.tied.kept ∙ ap (kept_of p.script) t.turn.lines in
      let w = was_ready p.script a f earlier t.turn.added
      (ap (are_followed p.script) (sym t.turn.lines) ∙ t.tied.lines.followed) t.turn.own
      (ap (λ (k : Kept). k.history.events) (sym kept) ∙ same)
      (ap (due p.script) (sym kept) ∙ h) in
      (w.ready, ap (λ (k : Kept). k.files) kept ∙ w.files)

  publishes_known : (text : Option (List ℕ)) → IsTurning a earlier text p → due p.script p.kept ≡ publish f → f < family_count
  publishes_known text t h =
      known_some p.kept.turn.family f
      (ap (λ (k : Kept). is_family_or_none k.turn.family) t.tied.kept ∙ family_known p.script p.lines.lines t.tied.lines.rules t.tied.lines.served)
      (publishes p.script p.kept f h).family

  moved_by : (t : IsTurning a earlier None p) → due p.script p.kept ≡ publish f → (b : Bool) → nat_lt (kept_of p.script earlier).history.events p.kept.history.events ≡ b → IsReady a p.script (kept_of p.script earlier) p.kept None → (kept_of p.script earlier).history.events < p.kept.history.events
  moved_by t h true e r = ltb-true _ _ e
  moved_by t h false e (inr (inl moved)) = moved
  moved_by t h false e (inr (inr published)) = absurd (true≢false (sym published ∙ ap is_some (publishes p.script p.kept f h).free))
  moved_by t h false e (inl never) =
      let low = ltb-false _ _ e in
      let high = t.since.started in
      let was = lines_ready None t h (omega arith) in
      let both : None ≡ Some f = sym never ∙ was.0 in
      absurd (cc)

  pub may_publish : (events : ℕ) (text : Option (List ℕ)) → events ≡ (kept_of p.script earlier).history.events → IsTurning a earlier text p → due p.script p.kept ≡ publish f → MayPublish events f text p
  may_publish events None from t h =
      let moved = moved_by t h (nat_lt (kept_of p.script earlier).history.events p.kept.history.events) refl t.ready in
      record {
        family = publishes_known None t h;
        text = tt;
        event = λ e. omega arith;
        spare_bytes = omega arith;
      }
  may_publish events (Some text) from t h =
      let was = lines_ready (Some text) t h t.ready.0 in
      let spare_bytes = t.spare_bytes in
      record {
        family = publishes_known (Some text) t h;
        text = text_same f (kept_of p.script earlier) p.kept text (family_ready p.script (kept_of p.script earlier) a) was.0 was.1 t.ready.1;
        event = λ e. absurd (cc);
        spare_bytes = omega arith;
      }

pub may_do : (a : ℕ) (earlier : List Line) (p : Parts) (l : Due) (events : ℕ) (text : Option (List ℕ)) → events ≡ (kept_of p.script earlier).history.events → IsTurning a earlier text p → due p.script p.kept ≡ l → MayDo events l text p
may_do a earlier p (publish f) events text from t h = may_publish a earlier p f events text from t h
may_do a earlier p (tell_end x y) events text from t h = tt
may_do a earlier p (send c) events text from t h = tt
may_do a earlier p reset_card events text from t h = tt
may_do a earlier p (try_event w) events text from t h = tt
may_do a earlier p (tell_refusal f m) events text from t h = tt
may_do a earlier p (give x) events text from t h = tt
may_do a earlier p (begin i) events text from t h = tt
may_do a earlier p (wait_for b) events text from t h = tt
may_do a earlier p end_of_actor events text from t h = tt
may_do a earlier p rest events text from t h = tt

-- ---- how a turn begins and ends

pub awake_pending : (s : Script) (k : Kept) (a : ℕ) → a ≤ actor_count s → is_idle s k a ≡ false → is_finished s k ≡ false
awake_pending s k a h idle = by (is_finished s k) refl
  where
    by : (b : Bool) → is_finished s k ≡ b → b ≡ false
    by true e = absurd (true≢false (sym (nobody s k a h e) ∙ idle))
    by false e = refl

pub from_start : (o p : Parts) (events : ℕ) → events ≡ o.kept.history.events → IsTied o → StaysWith o p → events ≡ (kept_of p.script o.lines.lines).history.events
from_start o p events e t h = e ∙ ap (λ (k : Kept). k.history.events) t.kept ∙ ap (λ (s : Script). (kept_of s o.lines.lines).history.events) (sym h.script)

pub other_performed : (d : Due) → ends_turn d ≡ false → ((f : ℕ) → d ≡ publish f → ⊥) → is_performed d ≡ true
other_performed (publish f) e n = absurd (n f refl)
other_performed (wait_for b) e n = absurd (true≢false e)
other_performed end_of_actor e n = absurd (true≢false e)
other_performed rest e n = absurd (true≢false e)
other_performed (tell_end x y) e n = refl
other_performed (send c) e n = refl
other_performed reset_card e n = refl
other_performed (try_event w) e n = refl
other_performed (tell_refusal f m) e n = refl
other_performed (give x) e n = refl
other_performed (begin i) e n = refl

pub always_err : {T E : Type 0} (r : Result T E) (P : Type 0) → P → OnErr r P
always_err (Ok x) P h = tt
always_err (Err e) P h = h

pub on_ok : {T E : Type 0} (r : Result T E) (P Q : Type 0) → OnOk r P → (P → Q) → OnOk r Q
on_ok (Ok x) P Q h f = f h
on_ok (Err e) P Q h f = tt

-- where there is room unless the test holds
pub unless_room : {T E : Type 0} (r : Result T E) (b : Bool) (P : Type 0) → (b ≡ false → IsOk r) → (b ≡ true → P) → OnErr r P
unless_room (Ok x) b P room f = tt
unless_room (Err e) true P room f = f refl
unless_room (Err e) false P room f = absurd (true≢false (sym (room refl)))

pub turned : (p q : Parts) (a : ℕ) (text : Option (List ℕ)) → StaysWith p q → IsTurning a p.lines.lines text q → ends_turn (due q.script q.kept) ≡ true → HasTurned a p q
turned p q a text h t e = record { stays = h; settled = record { tied = t.tied; ends = e }; turn = t.turn }

pub stays_then : (p q r : Parts) → StaysWith p q → StaysWith q r → StaysWith p r
stays_then p q r h g = record { script = g.script ∙ h.script; world = g.world ∙ h.world; plan = g.plan ∙ h.plan }

no_marks_both : (xs ys : List Line) → has_no_mark xs ≡ true → has_no_mark ys ≡ true → has_no_mark (xs ++ ys) ≡ true
no_marks_both [] ys h g = g
no_marks_both (x ∷ xs) ys h g =
    let q = and_parts (not (is_mark x)) (has_no_mark xs) h in
    rw (q.0) (no_marks_both xs ys q.1 g)

pub broken : (p q r : Parts) (a events : ℕ) (text : Option (List ℕ)) → events ≡ (kept_of p.script p.lines.lines).history.events → StaysWith p q → IsTurning a p.lines.lines text q → BreaksBehind events q r → HasBroken a p r
broken p q r a events text start h t b =
    let later = b.event in
    record {
      stays = stays_then p q r h b.stays;
      turn = record {
        added = b.added ++ t.turn.added;
        lines = b.lines ∙ ap (λ (x : List Line). b.added ++ x) t.turn.lines ∙ sym (append_assoc b.added t.turn.added (line.Turn a ∷ p.lines.lines));
        own = no_marks_both b.added t.turn.added b.own t.turn.own;
      };
      event = omega arith;
    }

pub since : (p q : Parts) (a events : ℕ) (text : Option (List ℕ)) → events ≡ p.kept.history.events → IsTied p → StaysWith p q → IsTurning a p.lines.lines text q → IsSince events q.kept
since p q a events text e tied h t = subst (λ (n : ℕ). IsSince n q.kept) (sym (from_start p q events e tied h)) t.since
