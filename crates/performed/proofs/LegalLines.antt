-- A line that is due breaks no rule; neither does the turn that ends where nothing is due.
use Rattle.std.proofs.Common.{◌≡◌, ℕ, ◌+◌, ◌==◌, ◌&&◌, ◌||◌, Bool, true, false, if◌then◌else◌, Option, Some, None, List, refl, sym, ap, ◌∙◌, subst, true≢false}
use Rattle.std.specs.Prelude.{is_none, is_some}
use Rattle.std.proofs.lemmas.Bool.{and_parts, and_from, eqb-true, eq-eqb}
use Rattle.apdu.specs.Values.{CommandValue, ResponseValue}
use Rattle.apdu.specs.Words.{has_value, same_bytes, same_number}
use Rattle.apdu.specs.Apdu.{same_command}
use Rattle.card_model.specs.declared.world.World.{World}
use Rattle.card_model.specs.declared.world.WorldEvent.{WorldEvent}
use Rattle.card_model.specs.Slot.{refusal_of}
use Rattle.script_reader.specs.declared.types.Script.{Script}
use Rattle.report.specs.declared.answer.Answer.{Answer}
use Rattle.report.specs.declared.line.Line.TheVariants as line
use Rattle.rules.specs.declared.due.Due.{Due}
use Rattle.rules.specs.declared.due.Due.TheVariants.{TellEnd as tell_end, ResetCard as reset_card, TryEvent as try_event, TellRefusal as tell_refusal, Publish as publish, Give as give}
use Rattle.rules.specs.declared.kept.Kept.{Kept}
use Rattle.rules.specs.Kept.{begun_of}
use Rattle.rules.specs.Due.{due, due_command, is_reset_due, due_event, event_by, due_publication, due_answer, slot_answer, slot_answer_by, kept_text}
use Rattle.rules.specs.Performed.{ends_turn, is_sent, is_reset, happens_as, is_published, is_end_told, is_refusal_told, is_given}
use Rattle.rules.specs.Rules.{is_turn_of, is_begun_at, same_event, same_answer, is_look, is_answer_among, is_answer_right, is_refusal_right, are_answers_given, is_end_right, is_end_published, is_turn_done, is_command_right, is_reset_right, is_event_right}
use Rattle.performed.proofs.CalmLent.{sent_of, lost_of}
use Rattle.performed.proofs.TurnsSays.{IsDone, says_of, turn_done}
use Rattle.performed.proofs.LegalResets.{CalmTurn, resets_framework}

-- ---- what is due, and the line that does it

turned : (a b : ℕ) → a == b ≡ true → b == a ≡ true
turned a b h = eq-eqb b a (sym (eqb-true a b h))

module _ (s : Script) (k : Kept) where
  -- a command
  pub exchange_placed : (a : ℕ) (c : CommandValue) (r : ResponseValue) → is_turn_of a k.turn && is_sent (due s k) (line.Exchange a c r) ≡ true → is_command_right k a c ≡ true
  exchange_placed a c r h =
      let q = and_parts (is_turn_of a k.turn) (is_sent (due s k) (line.Exchange a c r)) h in
      and_from (is_turn_of a k.turn) (has_value (same_command c) (due_command k)) q.0 (sent_of s k a c r q.1)

  pub failed_placed : (a : ℕ) (c : CommandValue) (acted : Bool) → is_turn_of a k.turn && is_sent (due s k) (line.Failed a c acted) ≡ true → is_command_right k a c ≡ true
  failed_placed a c acted h =
      let q = and_parts (is_turn_of a k.turn) (is_sent (due s k) (line.Failed a c acted)) h in
      and_from (is_turn_of a k.turn) (has_value (same_command c) (due_command k)) q.0 (lost_of s k a c acted q.1)

  -- a reset
  reset_of : (d : Due) → due s k ≡ d → is_reset d ≡ true → is_reset_due k ≡ true
  reset_of reset_card e h = says_of s k reset_card e
  reset_of d e h = absurd (true≢false (sym h))

  pub reset_placed : CalmTurn s k → (a : ℕ) → is_turn_of a k.turn && is_reset (due s k) ≡ true → is_reset_right k a ≡ true
  reset_placed calm a h =
      let q = and_parts (is_turn_of a k.turn) (is_reset (due s k)) h in
      let r : is_reset_due k ≡ true = reset_of (due s k) refl q.1 in
      let zero_is : a ≡ 0 = resets_framework s k a calm r q.0 in
      and_from ((a == 0) && is_turn_of 0 k.turn) (is_reset_due k)
      (and_from (a == 0) (is_turn_of 0 k.turn) (eq-eqb a 0 zero_is) (subst (λ (n : ℕ). is_turn_of n k.turn ≡ true) zero_is q.0)) r

  -- an event of the world
  some_event : (w : World) (e x : WorldEvent) (o : Bool) → is_some (refusal_of w x) ≡ o → is_none (refusal_of w x) ≡ true → same_event e x ≡ true → has_value (same_event e) (if o then None else Some x) ≡ true
  some_event w e x false r n h = h
  some_event w e x true r n h = absurd (both_none (refusal_of w x) r n)
    where
      both_none : {A : Type 0} (o : Option A) → is_some o ≡ true → is_none o ≡ true → ⊥
      both_none None i g = true≢false (sym i)
      both_none (Some y) i g = true≢false (sym g)

  event_of : (w : World) (e : WorldEvent) (d : Due) → due s k ≡ d → happens_as w e d ≡ true → has_value (same_event e) (due_event w k) ≡ true
  event_of w e (try_event x) is h =
      let q = and_parts (same_event e x) (is_none (refusal_of w x)) h in
      ap (λ (o : Option WorldEvent). has_value (same_event e) (event_by w o)) (says_of s k (try_event x) is) ∙ some_event w e x (is_some (refusal_of w x)) refl q.1 q.0
  event_of w e d is h = absurd (true≢false (sym h))

  pub event_placed : (w : World) (a : ℕ) (e : WorldEvent) → is_turn_of a k.turn && happens_as w e (due s k) ≡ true → is_event_right w k a e ≡ true
  event_placed w a e h =
      let q = and_parts (is_turn_of a k.turn) (happens_as w e (due s k)) h in
      and_from (is_turn_of a k.turn) (has_value (same_event e) (due_event w k)) q.0 (event_of w e (due s k) refl q.1)

  -- an answer
  or_left : (a b : Bool) → a ≡ true → (a || b) ≡ true
  or_left true b h = refl
  or_left false b h = absurd (true≢false (sym h))

  or_right : (a b : Bool) → b ≡ true → (a || b) ≡ true
  or_right true b h = refl
  or_right false b h = h

  among : (given : Answer) (o : Option Answer) → has_value (same_answer given) o ≡ true → is_answer_among given o ≡ true
  among given None h = h
  among given (Some x) h = or_left (same_answer given x) (is_look given && is_look x) h

  given_of : (w : World) (given : Answer) (d : Due) → due s k ≡ d → is_given w given d ≡ true → (is_answer_among given (due_answer s k) || is_answer_among given (slot_answer w k)) ≡ true
  given_of w given (give x) e h =
      or_left (is_answer_among given (due_answer s k)) (is_answer_among given (slot_answer w k)) (ap (is_answer_among given) (says_of s k (give x) e) ∙ among given (Some x) h)
  given_of w given (try_event x) e h =
      or_right (is_answer_among given (due_answer s k)) (is_answer_among given (slot_answer w k))
      (ap (λ (o : Option WorldEvent). is_answer_among given (slot_answer_by w o)) (says_of s k (try_event x) e) ∙ among given (slot_answer_by w (Some x)) h)
  given_of w given d e h = absurd (true≢false (sym h))

  pub answer_right : (w : World) (a i : ℕ) (given : Answer) → is_turn_of a k.turn && (is_begun_at i (begun_of a k.jobs) && is_given w given (due s k)) ≡ true → is_answer_right s w k a i given ≡ true
  answer_right w a i given h =
      let q = and_parts (is_turn_of a k.turn) (is_begun_at i (begun_of a k.jobs) && is_given w given (due s k)) h in
      let p = and_parts (is_begun_at i (begun_of a k.jobs)) (is_given w given (due s k)) q.1 in
      and_from (is_turn_of a k.turn && is_begun_at i (begun_of a k.jobs)) (is_answer_among given (due_answer s k) || is_answer_among given (slot_answer w k))
      (and_from (is_turn_of a k.turn) (is_begun_at i (begun_of a k.jobs)) q.0 p.0) (given_of w given (due s k) refl p.1)

  -- a refusal
  refusal_by : (f n : ℕ) (d : Due) → due s k ≡ d → is_refusal_told f n d ≡ true → has_value (λ (told : ℕ × ℕ). (told.0 == f) && (told.1 == n)) k.turn.refused ≡ true
  refusal_by f n (tell_refusal g m) e h =
      let q = and_parts (f == g) (n == m) h in
      ap (has_value (λ (told : ℕ × ℕ). (told.0 == f) && (told.1 == n))) (says_of s k (tell_refusal g m) e)
      ∙ and_from (g == f) (m == n) (turned f g q.0) (turned n m q.1)
  refusal_by f n d e h = absurd (true≢false (sym h))

  pub refusal_right : (f n : ℕ) → is_turn_of 0 k.turn && is_refusal_told f n (due s k) ≡ true → is_refusal_right k f n ≡ true
  refusal_right f n h =
      let q = and_parts (is_turn_of 0 k.turn) (is_refusal_told f n (due s k)) h in
      and_from (is_turn_of 0 k.turn) (has_value (λ (told : ℕ × ℕ). (told.0 == f) && (told.1 == n)) k.turn.refused) q.0 (refusal_by f n (due s k) refl q.1)

  -- the end of an epoch
  pub end_of : (number e n : ℕ) (d : Due) → due s k ≡ d → is_end_told k number e n d ≡ true → is_end_right k number e n ≡ true
  end_of number e n (tell_end g m) is h =
      let q = and_parts ((number == k.publications + 1) && (e == g)) (n == m) h in
      let p = and_parts (number == k.publications + 1) (e == g) q.0 in
      and_from (number == k.publications + 1) (has_value (λ (ended : ℕ × ℕ). (ended.0 == e) && (ended.1 == n)) k.turn.ended) p.0
      (ap (has_value (λ (ended : ℕ × ℕ). (ended.0 == e) && (ended.1 == n))) (says_of s k (tell_end g m) is)
      ∙ and_from (g == e) (m == n) (turned e g p.1) (turned n m q.1))
  end_of number e n d is h = absurd (true≢false (sym h))

  -- a publication
  pub published_of : (number f e n : ℕ) (text : List ℕ) (d : Due) → due s k ≡ d → is_published k number f e n text d ≡ true → same_number (due_publication k) (Some f) ≡ true
  published_of number f e n text (publish g) is h =
      let q1 = and_parts ((f == g) && (number == k.publications + 1) && (e == k.history.epoch) && (n == k.history.events)) (same_bytes text (kept_text f k)) h in
      let q2 = and_parts ((f == g) && (number == k.publications + 1) && (e == k.history.epoch)) (n == k.history.events) q1.0 in
      let q3 = and_parts ((f == g) && (number == k.publications + 1)) (e == k.history.epoch) q2.0 in
      let q4 = and_parts (f == g) (number == k.publications + 1) q3.0 in
      ap (λ (o : Option ℕ). same_number o (Some f)) (says_of s k (publish g) is) ∙ turned f g q4.0
  published_of number f e n text d is h = absurd (true≢false (sym h))

  -- a turn that ends
  pub ends_done : ends_turn (due s k) ≡ true → (w : World) → (are_answers_given s w k ≡ true) × (is_turn_done w k ≡ true) × (is_end_published k.turn ≡ true)
  ends_done h w =
      let d : IsDone s k = turn_done s k h in
      (rw (d.answer, d.event, d.refused) refl, rw (d.command, d.reset, d.event, d.publication) refl, rw d.ended refl)
