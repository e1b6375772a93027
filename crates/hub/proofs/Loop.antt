-- What was made ready before a turn, from line to line of it.
use Rattle.std.proofs.Common.{◌≡◌, ◌<◌, ◌≤◌, ◌+◌, ◌⊎◌, inl, inr, ℕ, Bool, true, false, nat_lt, List, ◌∷◌, Option, Some, is_some, IsOk, Result, Ok, Err, refl, sym, ap, ◌∙◌, subst, true≢false, arith}
use Rattle.std.proofs.lemmas.Bool.{and_parts}
use Rattle.card_model.specs.declared.world.World.{World}
use Rattle.card_model.specs.Slot.{Plan}
use Rattle.script_reader.specs.declared.types.Script.{Script}
use Rattle.report.specs.declared.line.Line.{Line}
use Rattle.report.specs.declared.line.Line.TheVariants as line
use Rattle.rules.specs.declared.due.Due.{Due}
use Rattle.rules.specs.declared.kept.Decision.{Decision}
use Rattle.rules.specs.declared.kept.Kept.{Kept}
use Rattle.rules.specs.Kept.{actor_count, begun_of}
use Rattle.rules.specs.Work.{is_finished}
use Rattle.rules.specs.After.{kept_after, kept_of}
use Rattle.rules.specs.Due.{due}
use Rattle.planner.specs.Room.{AreLeft, AreLeftInTurn, is_decided, is_given, turn_is_decided}
use Rattle.performed.specs.Followed.{are_followed, is_followed}
use Rattle.hub.specs.Decided.{IsBegun, IsDecision, MayBegin}
use Rattle.hub.specs.Parts.{Parts}
use Rattle.hub.specs.Settled.{HasBroken, HasLeft, HasLine, HasOneMore, IsSettled, IsTied, IsTurning, KeepsAll, StaysWith}
use Rattle.hub.proofs.Begins.{is_begun, may_behind, new_attempt}
use Rattle.hub.proofs.Follows.{mark_follows}
use Rattle.hub.proofs.Left.{left_marked, left_step}
use Rattle.watched_tracker.specs.Watched.{keeping}
use Rattle.hub.proofs.Ties.{watched, IsPlayed, has_line, of_all, quiet}
use Rattle.hub.proofs.Turning.{line_filled, unless}

-- ---- made ready

pub ready_kept : (p q : Parts) (a : ℕ) (d : Decision) → KeepsAll p q → IsDecision p.script (line.Turn a) p.kept d → IsDecision q.script (line.Turn a) q.kept d
ready_kept p q a d h t =
    subst (λ (s : Script). IsDecision s (line.Turn a) q.kept d) (sym h.script)
    (subst (λ (k : Kept). IsDecision p.script (line.Turn a) k d) (sym h.kept) t)

pub may_kept : (p q : Parts) (a : ℕ) (d : Option Decision) → KeepsAll p q → MayBegin p.script p.kept a d → MayBegin q.script q.kept a d
may_kept p q a d h t =
    subst (λ (s : Script). MayBegin s q.kept a d) (sym h.script)
    (subst (λ (k : Kept). MayBegin p.script k a d) (sym h.kept) t)

pub rows_kept : (p q : Parts) (a : ℕ) (ready : Option (List ℕ)) → KeepsAll p q → AreLeft (begun_of a p.kept.jobs) ready → AreLeft (begun_of a q.kept.jobs) ready
rows_kept p q a ready h t = subst (λ (k : Kept). AreLeft (begun_of a k.jobs) ready) (sym h.kept) t

pub some_kept : (p q : Parts) (a : ℕ) (ready : Option (List ℕ)) → KeepsAll p q → (is_decided (begun_of a p.kept.jobs) ≡ true → is_some ready ≡ true) → is_decided (begun_of a q.kept.jobs) ≡ true → is_some ready ≡ true
some_kept p q a ready h t d = t (ap (λ (k : Kept). is_decided (begun_of a k.jobs)) (sym h.kept) ∙ d)

-- ---- the mark

module _ (p q : Parts) (a : ℕ) where
  mark_played : q.world ≡ p.world → q.plan ≡ p.plan → IsPlayed p.script p.kept (line.Turn a) p.world q.world p.plan q.plan
  mark_played world plan =
      subst (λ (v : Option World). IsPlayed p.script p.kept (line.Turn a) p.world v p.plan q.plan) (sym world)
      (subst (λ (o : Option Plan). IsPlayed p.script p.kept (line.Turn a) p.world p.world p.plan o) (sym plan)
      (quiet p.script p.kept (line.Turn a) p.world p.plan (λ x. refl) (of_all p.world (λ x. refl)) refl))

  pub mark_line : (d : Decision) → IsSettled p → IsDecision p.script (line.Turn a) p.kept d → is_finished p.script p.kept ≡ false → a ≤ actor_count p.script
      → q.script ≡ p.script → watched q ≡ keeping (kept_after p.script (line.Turn a) p.kept) (watched p) → q.world ≡ p.world → q.plan ≡ p.plan → q.lines.lines ≡ line.Turn a ∷ p.lines.lines → q.lines.spare + 1 ≡ p.lines.spare → HasLine (line.Turn a) p q
  mark_line d t h pending few script kept world plan lines spare =
      subst (HasLine (line.Turn a) p) (ap (λ (s : Script). let x : Parts = record { script = s; lines = q.lines; kept = q.kept; masks = q.masks; world = q.world; plan = q.plan } in x) (sym script))
      (has_line p q.lines (watched q) q.world q.plan (line.Turn a) t.tied (mark_follows p.script p.kept a t.ends pending few) lines spare kept
      (new_attempt p.script (line.Turn a) p.kept d h) refl (mark_played world plan))

-- ---- behind the mark

module _ (p q : Parts) (a : ℕ) (h : HasLine (line.Turn a) p q) (t : IsTied p) where
  marked : q.kept ≡ kept_after p.script (line.Turn a) p.kept
  marked = h.tied.kept ∙ ap (λ (z : Script). kept_of z q.lines.lines) h.stays.script ∙ ap (kept_of p.script) h.lines ∙ ap (kept_after p.script (line.Turn a)) (sym t.kept)

  pub first_may : (d : Option Decision) → MayBegin p.script p.kept a d → q.kept.turn.bare ≡ true → MayBegin q.script q.kept a d
  first_may d may bare =
      subst (λ (z : Script). MayBegin z q.kept a d) (sym h.stays.script)
      (subst (λ (k : Kept). MayBegin p.script k a d) (sym marked) (may_behind p.script p.kept a d may))

  pub first_left : (ready : Option (List ℕ)) (events : ℕ) → events ≡ p.kept.history.events → AreLeft (begun_of a p.kept.jobs) ready → (is_decided (begun_of a p.kept.jobs) ≡ true → is_some ready ≡ true) → HasLeft a events ready q.kept
  first_left ready events from rows some =
      subst (λ (n : ℕ). HasLeft a n ready q.kept) (sym from)
      (subst (λ (k : Kept). HasLeft a p.kept.history.events ready k) (sym marked) (left_marked p.script p.kept a ready rows some))

-- ---- the next line

pub left_in_turn : (a : ℕ) (k : Kept) (ready : Option (List ℕ)) → k.turn.actor ≡ Some a → AreLeft (begun_of a k.jobs) ready → AreLeftInTurn k.turn.actor k.jobs ready
left_in_turn a k ready actor rows = subst (λ (o : Option ℕ). AreLeftInTurn o k.jobs ready) (sym actor) rows

no_ok : {T E : Type 0} (r : Result T E) (e : E) → r ≡ Err e → IsOk r → ⊥
no_ok (Ok y) e h g = absurd (cc)
no_ok (Err y) e h g = absurd (true≢false (sym g))

-- where memory ran out, an event came
pub moved_on : {E : Type 0} (a events : ℕ) (k : Kept) (ready : Option (List ℕ)) (r : Result Due E) (e : E) → k.turn.actor ≡ Some a → HasLeft a events ready k → r ≡ Err e → (is_some ready ≡ true → IsOk r) → (turn_is_decided k.turn.actor k.jobs ≡ false → IsOk r) → events < k.history.events
moved_on a events k ready r e actor h is there undecided = by (is_decided (begun_of a k.jobs)) refl
  where
    some : (is_some ready ≡ true) ⊎ (events < k.history.events) → events < k.history.events
    some (inl x) = absurd (no_ok r e is (there x))
    some (inr x) = x

    by : (b : Bool) → is_decided (begun_of a k.jobs) ≡ b → events < k.history.events
    by false g = absurd (no_ok r e is (undecided (ap (λ (o : Option ℕ). turn_is_decided o k.jobs) actor ∙ g)))
    by true g = some (h.some g)

pub broken_now : (p q : Parts) (a events : ℕ) (text : Option (List ℕ)) → events ≡ (kept_of p.script p.lines.lines).history.events → StaysWith p q → IsTurning a p.lines.lines text q → events < q.kept.history.events → HasBroken a p q
broken_now p q a events text start h t moved =
    let now : q.kept.history.events ≡ (kept_of q.script q.lines.lines).history.events = ap (λ (k : Kept). k.history.events) t.tied.kept in
    record { stays = h; turn = t.turn; event = omega arith }

-- ---- one line more

module _ (p q : Parts) (t : IsTied p) (m : HasOneMore p q) where
  kept_now : q.kept ≡ kept_after p.script m.line p.kept
  kept_now = m.has.tied.kept ∙ ap (λ (z : Script). kept_of z q.lines.lines) m.has.stays.script ∙ ap (kept_of p.script) m.has.lines ∙ ap (kept_after p.script m.line) (sym t.kept)

  follow_now : is_followed p.script p.kept m.line ≡ true
  follow_now =
      let all : are_followed p.script (m.line ∷ p.lines.lines) ≡ true =
      ap (λ (x : List Line). are_followed p.script x) (sym m.has.lines) ∙ ap (λ (s : Script). are_followed s q.lines.lines) (sym m.has.stays.script) ∙ m.has.tied.lines.followed in
      ap (λ (k : Kept). is_followed p.script k m.line) t.kept ∙ (and_parts (are_followed p.script p.lines.lines) (is_followed p.script (kept_of p.script p.lines.lines) m.line) all).1

  pub filled_now : {X : Type 0} → q.kept.turn.bare ≡ true → X
  filled_now bare = absurd (true≢false (sym bare ∙ ap (λ (k : Kept). k.turn.bare) kept_now ∙ line_filled p.script m.line p.kept m.own))

  pub next_left : (a events : ℕ) (ready ready2 : Option (List ℕ)) → p.kept.turn.actor ≡ Some a → (is_given (due p.script p.kept) ≡ false → ready2 ≡ ready) → events ≤ p.kept.history.events → HasLeft a events ready p.kept → HasLeft a events (unless events q.kept.history.events ready2) q.kept
  next_left a events ready ready2 actor same low h =
      subst (λ (k : Kept). HasLeft a events (unless events k.history.events ready2) k) (sym kept_now)
      (left_step p.script p.kept m.line a events ready ready2 m.own follow_now actor same low h (nat_lt events (kept_after p.script m.line p.kept).history.events) refl)

pub begins : (p : Parts) (a : ℕ) (l : Due) (d : Option Decision) → p.kept.turn.actor ≡ Some a → due p.script p.kept ≡ l → (p.kept.turn.bare ≡ true → MayBegin p.script p.kept a d) → IsBegun p.script a p.kept l d
begins p a l d actor h may = is_begun p.script p.kept a l d actor h may
