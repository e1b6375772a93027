-- The line of each kind that is due is followed.
use Rattle.std.proofs.Common.{◌≡◌, ◌&&◌, ◌+◌, ℕ, Bool, true, false, List, [], ◌∷◌, Some, refl, sym, ap, subst, eq-eqb, le-leb, not, ◌≤◌}
use Rattle.apdu.specs.Values.{CommandValue, ResponseValue}
use Rattle.apdu.specs.Words.{same_bytes}
use Rattle.card_model.specs.declared.world.WorldEvent.{WorldEvent}
use Rattle.card_model.specs.declared.world.WorldEvent.TheVariants as world_event
use Rattle.script_reader.specs.declared.types.Script.{Script}
use Rattle.report.specs.declared.answer.Answer.{Answer}
use Rattle.report.specs.declared.line.Line.{Line}
use Rattle.report.specs.declared.line.Line.TheVariants as line
use Rattle.link.proofs.Steps.{command-refl}
use Rattle.rules.specs.declared.due.Due.{Due}
use Rattle.rules.specs.declared.due.Due.TheVariants.{TellEnd as tell_end, Send as send, ResetCard as reset_card, TryEvent as try_event, TellRefusal as tell_refusal, Publish as publish, Begin as begin}
use Rattle.rules.specs.declared.kept.Kept.{Kept}
use Rattle.rules.specs.declared.kept.Turn.{Turn}
use Rattle.rules.specs.Kept.{actor_count, begun_of}
use Rattle.rules.specs.Work.{is_finished}
use Rattle.rules.specs.Due.{due, kept_text}
use Rattle.rules.specs.Rules.{is_turn_of, is_begun_at, same_event, same_answer, answer_code}
use Rattle.rules.specs.Performed.{ends_turn}
use Rattle.performed.specs.Followed.{is_followed, follows, is_given_or_refused}

pub bytes-same : (xs : List ℕ) → same_bytes xs xs ≡ true
bytes-same [] = refl
bytes-same (x ∷ xs) = rw (eq-eqb x x refl) (bytes-same xs)

pub event-same : (e : WorldEvent) → same_event e e ≡ true
event-same (world_event.Arm i) = eq-eqb i i refl
event-same world_event.Out = refl
event-same (world_event.Insert i) = eq-eqb i i refl

pub answer-same : (a : Answer) → same_answer a a ≡ true
answer-same a = bytes-same (answer_code a)

pub both : (a b : Bool) → a ≡ true → b ≡ true → (a && b) ≡ true
both a b p q = rw (p, q) refl

of_turn : (t : Turn) (a : ℕ) → t.actor ≡ Some a → is_turn_of a t ≡ true
of_turn t a h = rw h (eq-eqb a a refl)

module _ (s : Script) (k : Kept) (a : ℕ) (turn : k.turn.actor ≡ Some a) where
  followed : (l : Line) (d : Due) → due s k ≡ d → follows s k d l ≡ true → is_followed s k l ≡ true
  followed l d h f = subst (λ (x : Due). follows s k x l ≡ true) (sym h) f

  pub exchange_follows : (c : CommandValue) (r : ResponseValue) → due s k ≡ send c → is_followed s k (line.Exchange a c r) ≡ true
  exchange_follows c r h = followed (line.Exchange a c r) (send c) h (both _ _ (of_turn k.turn a turn) (command-refl c))

  pub failed_follows : (c : CommandValue) (acted : Bool) → due s k ≡ send c → is_followed s k (line.Failed a c acted) ≡ true
  failed_follows c acted h = followed (line.Failed a c acted) (send c) h (both _ _ (of_turn k.turn a turn) (command-refl c))

  pub reset_follows : due s k ≡ reset_card → is_followed s k (line.Reset a) ≡ true
  reset_follows h = followed (line.Reset a) reset_card h (both _ _ (of_turn k.turn a turn) refl)

  pub reset_failed_follows : due s k ≡ reset_card → is_followed s k (line.ResetFailed a) ≡ true
  reset_failed_follows h = followed (line.ResetFailed a) reset_card h (both _ _ (of_turn k.turn a turn) refl)

  pub event_follows : (e : WorldEvent) → due s k ≡ try_event e → is_followed s k (line.World a e) ≡ true
  event_follows e h = followed (line.World a e) (try_event e) h (both _ _ (of_turn k.turn a turn) (event-same e))

  pub begin_follows : (i : ℕ) → due s k ≡ begin i → is_followed s k (line.Begin a i) ≡ true
  begin_follows i h = followed (line.Begin a i) (begin i) h (both _ _ (of_turn k.turn a turn) (eq-eqb i i refl))

  pub answer_follows : (i : ℕ) (given : Answer) → is_begun_at i (begun_of a k.jobs) ≡ true → is_given_or_refused given (due s k) ≡ true → is_followed s k (line.Answered a i given) ≡ true
  answer_follows i given b g = both _ _ (of_turn k.turn a turn) (both _ _ b g)

-- `kk` is the same as what is kept
pub end_follows : (s : Script) (k kk : Kept) (e n : ℕ) → kk ≡ k → due s k ≡ tell_end e n → is_followed s k (line.EpochEnd (kk.publications + 1) e n) ≡ true
end_follows s k kk e n same h =
    subst (λ (z : Kept). is_followed s k (line.EpochEnd (z.publications + 1) e n) ≡ true) (sym same)
    (subst (λ (x : Due). follows s k x (line.EpochEnd (k.publications + 1) e n) ≡ true) (sym h)
    (both _ _ (both _ _ (eq-eqb (k.publications + 1) (k.publications + 1) refl) (eq-eqb e e refl)) (eq-eqb n n refl)))

pub refusal_follows : (s : Script) (k : Kept) (f n : ℕ) → k.turn.actor ≡ Some 0 → due s k ≡ tell_refusal f n → is_followed s k (line.Refused f n) ≡ true
refusal_follows s k f n turn h =
    subst (λ (x : Due). follows s k x (line.Refused f n) ≡ true) (sym h)
    (both _ _ (of_turn k.turn 0 turn) (both _ _ (eq-eqb f f refl) (eq-eqb n n refl)))

-- `kk` is the same as what is kept
pub published_follows : (s : Script) (k kk : Kept) (f : ℕ) (text : List ℕ) → kk ≡ k → due s k ≡ publish f → text ≡ kept_text f k → is_followed s k (line.Published (kk.publications + 1) f kk.history.epoch kk.history.events text) ≡ true
published_follows s k kk f text e h t =
    subst (λ (z : Kept). is_followed s k (line.Published (z.publications + 1) f z.history.epoch z.history.events text) ≡ true) (sym e)
    (subst (λ (x : Due). follows s k x (line.Published (k.publications + 1) f k.history.epoch k.history.events text) ≡ true) (sym h)
    (both _ _ (both _ _ (both _ _ (both _ _ (eq-eqb f f refl) (eq-eqb (k.publications + 1) (k.publications + 1) refl)) (eq-eqb k.history.epoch k.history.epoch refl)) (eq-eqb k.history.events k.history.events refl)) (subst (λ (x : List ℕ). same_bytes text x ≡ true) t (bytes-same text))))

pub mark_follows : (s : Script) (k : Kept) (a : ℕ) → ends_turn (due s k) ≡ true → is_finished s k ≡ false → a ≤ actor_count s → is_followed s k (line.Turn a) ≡ true
mark_follows s k a e f h = both _ _ (both _ _ e (ap not f)) (le-leb a (actor_count s) h)
