-- A line that does what is due, and shows what the slot gave, is what is due.
use Rattle.std.proofs.Common.{◌≡◌, ◌&&◌, not, true, Option, refl, sym, ap, subst, true≢false}
use Rattle.std.specs.Prelude.{is_none, nat_le}
use Rattle.std.proofs.lemmas.Bool.{and_parts, and_from, eqb-true}
use Rattle.card_model.specs.declared.world.World.{World}
use Rattle.card_model.specs.declared.world.WorldEvent.{WorldEvent}
use Rattle.card_model.specs.declared.world.WorldEvent.TheVariants.{Arm, Out, Insert}
use Rattle.card_model.specs.Slot.{refusal_of}
use Rattle.script_reader.specs.declared.types.Script.{Script}
use Rattle.report.specs.declared.answer.Answer.{Answer}
use Rattle.report.specs.declared.line.Line.{Line}
use Rattle.report.specs.declared.line.Line.TheVariants as line
use Rattle.rules.specs.declared.due.Due.{Due}
use Rattle.rules.specs.declared.due.Due.TheVariants.{TryEvent as try_event, Give as give}
use Rattle.rules.specs.declared.kept.Kept.{Kept}
use Rattle.rules.specs.Kept.{actor_count, begun_of}
use Rattle.rules.specs.Work.{is_finished}
use Rattle.rules.specs.Due.{due, tried_event}
use Rattle.rules.specs.Rules.{is_turn_of, is_begun_at, same_event}
use Rattle.rules.specs.Performed.{ends_turn, happens_as, is_given, does}
use Rattle.performed.proofs.TurnsSays.{says_of}
use Rattle.performed.specs.Followed.{is_given_or_refused, is_tried, is_followed}
use Rattle.performed.specs.Told.{is_refusal_told, is_told}

same_event_is : (a b : WorldEvent) → same_event a b ≡ true → a ≡ b
same_event_is (Arm i) (Arm j) h = ap (λ n. Arm n) (eqb-true i j h)
same_event_is Out Out h = refl
same_event_is (Insert i) (Insert j) h = ap (λ n. Insert n) (eqb-true i j h)
same_event_is a b h = absurd (true≢false (sym h))

module _ (s : Script) (w : World) (k : Kept) where
  happens_of : (e : WorldEvent) (d : Due) → is_tried e d ≡ true → is_none (refusal_of w e) ≡ true → happens_as w e d ≡ true
  happens_of e (try_event x) h fine =
      and_from (same_event e x) (is_none (refusal_of w x)) h (subst (λ (y : WorldEvent). is_none (refusal_of w y) ≡ true) (same_event_is e x h) fine)
  happens_of e d h fine = absurd (true≢false (sym h))

  given_of : (given : Answer) (d : Due) → due s k ≡ d → is_given_or_refused given d ≡ true → is_refusal_told w given (tried_event k) ≡ true → is_given w given d ≡ true
  given_of given (give x) e h told = h
  given_of given (try_event x) e h told = subst (λ (o : Option WorldEvent). is_refusal_told w given o ≡ true) (says_of s k (try_event x) e) told
  given_of given d e h told = absurd (true≢false (sym h))

  pub does_line : (l : Line) → is_followed s k l ≡ true → is_told s w k l ≡ true → does w k (due s k) l ≡ true
  does_line (line.Turn a) h told = (and_parts (ends_turn (due s k)) (not (is_finished s k)) (and_parts (ends_turn (due s k) && not (is_finished s k)) (nat_le a (actor_count s)) h).0).0
  does_line (line.Begin a i) h told = h
  does_line (line.Exchange a c r) h told = h
  does_line (line.Failed a c acted) h told = h
  does_line (line.Reset a) h told = h
  does_line (line.ResetFailed a) h told = h
  does_line (line.World a e) h told =
      let q = and_parts (is_turn_of a k.turn) (is_tried e (due s k)) h in
      and_from (is_turn_of a k.turn) (happens_as w e (due s k)) q.0 (happens_of e (due s k) q.1 told)
  does_line (line.Published n f e v text) h told = h
  does_line (line.EpochEnd n e v) h told = h
  does_line (line.Refused f n) h told = h
  does_line (line.Answered a i given) h told =
      let q = and_parts (is_turn_of a k.turn) (is_begun_at i (begun_of a k.jobs) && is_given_or_refused given (due s k)) h in
      let p = and_parts (is_begun_at i (begun_of a k.jobs)) (is_given_or_refused given (due s k)) q.1 in
      and_from (is_turn_of a k.turn) (is_begun_at i (begun_of a k.jobs) && is_given w given (due s k)) q.0
      (and_from (is_begun_at i (begun_of a k.jobs)) (is_given w given (due s k)) p.0 (given_of given (due s k) refl p.1 told))
