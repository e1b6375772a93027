-- A line that is due has its place, its answer and its publication right; and a turn in which nothing is due may end.
use Rattle.std.proofs.Common.{◌≡◌, ℕ, suc, ◌==◌, ◌&&◌, ◌||◌, not, nat_lt, Bool, true, false, if◌then◌else◌, Option, Some, None, refl, sym, ap, ◌∙◌, subst, arith, true≢false}
use Rattle.std.specs.Prelude.{is_none, is_some}
use Rattle.apdu.specs.Values.{CommandValue, ResponseValue}
use Rattle.apdu.specs.Words.{has_value, same_number}
use Rattle.apdu.specs.Apdu.{same_command}
use Rattle.card_model.specs.declared.world.World.{World}
use Rattle.card_model.specs.declared.world.WorldEvent.{WorldEvent}
use Rattle.card_model.specs.Slot.{refusal_of}
use Rattle.script_reader.specs.declared.types.Script.{Script}
use Rattle.report.specs.declared.answer.Answer.{Answer}
use Rattle.report.specs.declared.line.Line.TheVariants as line
use Rattle.rules.specs.declared.kept.Kept.{Kept}
use Rattle.rules.specs.Kept.{job_of}
use Rattle.rules.specs.declared.due.Due.{Due}
use Rattle.rules.specs.declared.due.Due.TheVariants.{Send as send, ResetCard as reset_card, TryEvent as try_event, Give as give, Begin as begin, WaitFor as wait_for, EndOfActor as end_of_actor, Rest as rest}
use Rattle.rules.specs.Due.{due, due_command, is_reset_due, due_event, event_by, due_answer, slot_answer, slot_answer_by}
use Rattle.rules.specs.Rules.{is_turn_of, same_event, same_answer, is_command_right, is_event_right, is_turn_done, are_answers_given, is_answer_among, is_look, is_end_published, is_begin_right}
use Rattle.rules.specs.Performed.{is_sent, is_reset, happens_as, is_given, ends_turn, begins_as}
use Rattle.rules.proofs.Says.{IsDone, Begins, says_of}
use Rattle.std.proofs.lemmas.Bool.{eqb-true}
use Rattle.rules.specs.Work.{has_operations_left}

left : (a b : Bool) → a && b ≡ true → a ≡ true
left true b h = refl
left false b h = h

right : (a b : Bool) → a && b ≡ true → b ≡ true
right true b h = h
right false b h = absurd (true≢false (sym h))

both : (a b : Bool) → a ≡ true → b ≡ true → a && b ≡ true
both true b ha hb = hb
both false b ha hb = absurd (true≢false (sym ha))

module _ (s : Script) (k : Kept) where
  -- a command
  command_of : (d : Due) (actor : ℕ) (c : CommandValue) (r : ResponseValue) → due s k ≡ d → is_sent d (line.Exchange actor c r) ≡ true → has_value (same_command c) (due_command k) ≡ true
  command_of (send x) actor c r e h = ap (has_value (same_command c)) (says_of s k (send x) e) ∙ h
  command_of d actor c r e h = absurd (true≢false (sym h))

  pub due-exchange : (a : ℕ) (c : CommandValue) (r : ResponseValue) → is_turn_of a k.turn && is_sent (due s k) (line.Exchange a c r) ≡ true → is_command_right k a c ≡ true
  due-exchange a c r h = both (is_turn_of a k.turn) (has_value (same_command c) (due_command k)) (left (is_turn_of a k.turn) _ h) (command_of (due s k) a c r refl (right (is_turn_of a k.turn) _ h))

  lost_of : (d : Due) (actor : ℕ) (c : CommandValue) (acted : Bool) → due s k ≡ d → is_sent d (line.Failed actor c acted) ≡ true → has_value (same_command c) (due_command k) ≡ true
  lost_of (send x) actor c acted e h = ap (has_value (same_command c)) (says_of s k (send x) e) ∙ h
  lost_of d actor c acted e h = absurd (true≢false (sym h))

  pub due-failed : (a : ℕ) (c : CommandValue) (acted : Bool) → is_turn_of a k.turn && is_sent (due s k) (line.Failed a c acted) ≡ true → is_command_right k a c ≡ true
  due-failed a c acted h = both (is_turn_of a k.turn) (has_value (same_command c) (due_command k)) (left (is_turn_of a k.turn) _ h) (lost_of (due s k) a c acted refl (right (is_turn_of a k.turn) _ h))

  -- a reset
  reset_of : (d : Due) → due s k ≡ d → is_reset d ≡ true → is_reset_due k ≡ true
  reset_of reset_card e h = says_of s k reset_card e
  reset_of d e h = absurd (true≢false (sym h))

  pub due-reset : is_reset (due s k) ≡ true → is_reset_due k ≡ true
  due-reset h = reset_of (due s k) refl h

  -- an event of the world
  some_event : (world : World) (e x : WorldEvent) (b : Bool) → is_none (refusal_of world x) ≡ b → same_event e x && b ≡ true → has_value (same_event e) (event_by world (Some x)) ≡ true
  some_event world e x b n h = by_refusal (is_some (refusal_of world x)) (none_some (refusal_of world x) (n ∙ right (same_event e x) b h)) (left (same_event e x) b h)
    where
      none_some : {A : Type 0} (o : Option A) → is_none o ≡ true → is_some o ≡ false
      none_some None g = refl
      none_some (Some y) g = absurd (true≢false (sym g))

      by_refusal : (r : Bool) → r ≡ false → same_event e x ≡ true → has_value (same_event e) (if r then None else Some x) ≡ true
      by_refusal true fine same = absurd (true≢false fine)
      by_refusal false fine same = same

  event_of : (world : World) (e : WorldEvent) (d : Due) → due s k ≡ d → happens_as world e d ≡ true → has_value (same_event e) (due_event world k) ≡ true
  event_of world e (try_event x) h t = subst (λ o. has_value (same_event e) (event_by world o) ≡ true) (sym (says_of s k (try_event x) h)) (some_event world e x (is_none (refusal_of world x)) refl t)
  event_of world e d h t = absurd (true≢false (sym t))

  pub due-event : (world : World) (a : ℕ) (e : WorldEvent) → is_turn_of a k.turn && happens_as world e (due s k) ≡ true → is_event_right world k a e ≡ true
  due-event world a e h = both (is_turn_of a k.turn) (has_value (same_event e) (due_event world k)) (left (is_turn_of a k.turn) _ h) (event_of world e (due s k) refl (right (is_turn_of a k.turn) _ h))

  -- an answer
  among : (given x : Answer) → same_answer given x ≡ true → is_answer_among given (Some x) ≡ true
  among given x h = or_left (same_answer given x) (is_look given && is_look x) h
    where
      or_left : (a b : Bool) → a ≡ true → (a || b) ≡ true
      or_left true b h = refl
      or_left false b h = absurd (true≢false (sym h))

  among_slot : (given : Answer) (o : Option Answer) → has_value (same_answer given) o ≡ true → is_answer_among given o ≡ true
  among_slot given None h = h
  among_slot given (Some x) h = among given x h

  or_right : (a b : Bool) → b ≡ true → (a || b) ≡ true
  or_right true b h = refl
  or_right false b h = h

  or_first : (a b : Bool) → a ≡ true → (a || b) ≡ true
  or_first true b h = refl
  or_first false b h = absurd (true≢false (sym h))

  answer_of : (world : World) (given : Answer) (d : Due) → due s k ≡ d → is_given world given d ≡ true → (is_answer_among given (due_answer s k) || is_answer_among given (slot_answer world k)) ≡ true
  answer_of world given (give x) e h = or_first (is_answer_among given (due_answer s k)) _ (ap (is_answer_among given) (says_of s k (give x) e) ∙ among given x h)
  answer_of world given (try_event x) e h = or_right (is_answer_among given (due_answer s k)) _ (ap (λ o. is_answer_among given (slot_answer_by world o)) (says_of s k (try_event x) e) ∙ among_slot given (slot_answer_by world (Some x)) h)
  answer_of world given d e h = absurd (true≢false (sym h))

  pub due-answer : (world : World) (given : Answer) → is_given world given (due s k) ≡ true → (is_answer_among given (due_answer s k) || is_answer_among given (slot_answer world k)) ≡ true
  due-answer world given h = answer_of world given (due s k) refl h

-- nothing is left to do: the turn may end
pub done-rests : (s : Script) (k : Kept) (world : World) → IsDone s k → (are_answers_given s world k ≡ true) × (is_turn_done world k ≡ true) × (is_end_published k.turn ≡ true)
done-rests s k world d = (rw (d.answer, d.event, d.refused) refl, rw (d.command, d.reset, d.event, d.publication) refl, rw d.ended refl)

ended-done : (s : Script) (k : Kept) (d : Due) → due s k ≡ d → ends_turn d ≡ true → IsDone s k
ended-done s k rest e h = says_of s k rest e
ended-done s k (wait_for b) e h = says_of s k (wait_for b) e
ended-done s k end_of_actor e h = says_of s k end_of_actor e
ended-done s k d e h = absurd (true≢false (sym h))

pub due-mark : (s : Script) (k : Kept) → ends_turn (due s k) ≡ true → IsDone s k
due-mark s k h = ended-done s k (due s k) refl h

-- ---- an operation begins

same_self : (n : ℕ) → (n == n) ≡ true
same_self n = grind arith

some_before : (n : ℕ) → nat_lt 0 (suc n) ≡ true
some_before n = grind arith

not_false : (b : Bool) → not b ≡ false → b ≡ true
not_false true h = refl
not_false false h = absurd (true≢false h)

begins_index : (s : Script) (k : Kept) (i j : ℕ) → Begins s k j → (i == j) ≡ true → Begins s k i
begins_index s k i j b h = subst (λ (n : ℕ). Begins s k n) (sym (eqb-true i j h)) b

place_of_begins : (s : Script) (k : Kept) (i : ℕ) (b : Begins s k i) → is_begin_right s k (suc b.actor) i ≡ true
place_of_begins s k i b =
    rw (b.bare, b.turn, b.free, b.waits, b.index, same_self (suc b.actor), some_before b.actor, same_self (job_of (suc b.actor) k.jobs).answered, not_false (has_operations_left s k (suc b.actor)) b.left) refl

module _ (s : Script) (k : Kept) where
  begins_of : (d : Due) (i : ℕ) → due s k ≡ d → begins_as i d ≡ true → Begins s k i
  begins_of (begin j) i e h = begins_index s k i j (says_of s k (begin j) e).1 h
  begins_of d i e h = absurd (true≢false (sym h))

  same_actor : (a i : ℕ) (b : Begins s k i) → is_turn_of a k.turn ≡ true → a ≡ suc b.actor
  same_actor a i b h = sym (eqb-true (suc b.actor) a (subst (λ (o : Option ℕ). same_number o (Some a) ≡ true) b.turn h))

  pub due-begin : (a i : ℕ) → is_turn_of a k.turn && begins_as i (due s k) ≡ true → is_begin_right s k a i ≡ true
  due-begin a i h =
      let b : Begins s k i = begins_of (due s k) i refl (right (is_turn_of a k.turn) _ h) in
      subst (λ (n : ℕ). is_begin_right s k n i ≡ true) (sym (same_actor a i b (left (is_turn_of a k.turn) _ h))) (place_of_begins s k i b)
