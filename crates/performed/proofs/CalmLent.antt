-- What stands where an answer or a command is due, what a step does to the card in the slot, and the state behind lines.
use Rattle.std.proofs.Common.{◌≡◌, ℕ, zero, suc, Bool, true, false, if◌then◌else◌, Option, Some, None, List, [], ◌∷◌, refl, ap, sym, ◌∙◌, subst, true≢false}
use Rattle.std.specs.Prelude.{slice_get, slice_set, option_and_then, is_some, is_none}
use Rattle.std.proofs.lemmas.Bool.{and_parts}
use Rattle.apdu.specs.Values.{CommandValue, ResponseValue}
use Rattle.apdu.specs.Words.{has_value}
use Rattle.apdu.specs.Apdu.{same_command, same_response}
use Rattle.card_model.specs.declared.world.CardState.{CardState}
use Rattle.card_model.specs.declared.world.World.{World}
use Rattle.card_model.specs.declared.world.WorldEvent.{WorldEvent}
use Rattle.card_model.specs.Step.{on_card, card_inside, step, step_of_place, step_of_card}
use Rattle.script_reader.specs.declared.types.Script.{Script}
use Rattle.report.specs.declared.answer.Answer.{Answer}
use Rattle.report.specs.declared.line.Line.{Line}
use Rattle.report.specs.declared.line.Line.TheVariants as line
use Rattle.rules.specs.declared.kept.Kept.{Kept}
use Rattle.rules.specs.Kept.{job_of, begun_of}
use Rattle.rules.specs.Work.{has_ended, waits_on}
use Rattle.rules.specs.declared.due.Due.{Due}
use Rattle.rules.specs.declared.due.Due.TheVariants.{Send as send, Give as give, Begin as begin, WaitFor as wait_for, EndOfActor as end_of_actor, Rest as rest}
use Rattle.rules.specs.Due.{begin_or_rest, due_at_mark, due_of_actor, due_by_answer, due_by_publication, due_by_refusal, due_by_event, due_by_reset, due_by_command, due_by_end, due, due_command, is_reset_due, tried_event, due_publication, due_answer}
use Rattle.rules.specs.After.{kept_after, kept_of}
use Rattle.rules.specs.Performed.{is_sent}
use Rattle.rules.specs.Rules.{is_response_right}
use Rattle.rules.specs.State.{world_after, world_of, texts_after, texts_of, state_of}
use Rattle.performed.proofs.MeasureSays.{stands_of}

-- ---- the answer that is due

abbrev Gives : Script → Kept → Due → Type 0
Gives s k (give given) = due_answer s k ≡ Some given
Gives s k d = Unit {0}

module _ (s : Script) (k : Kept) where
  free_or_rest : (b : Bool) (i : ℕ) → Gives s k (if b then begin i else rest)
  free_or_rest true i = tt
  free_or_rest false i = tt

  at_begin : (actor : ℕ) → Gives s k (begin_or_rest s k actor)
  at_begin zero = tt
  at_begin (suc a) = free_or_rest (is_none (begun_of (suc a) k.jobs)) (job_of (suc a) k.jobs).answered

  waits_or : (actor : ℕ) (o : Option ℕ) → Gives s k (elim o [ Some b ↦ wait_for b | None ↦ begin_or_rest s k actor ])
  waits_or actor (Some b) = tt
  waits_or actor None = at_begin actor

  ended_or : (actor : ℕ) (b : Bool) → Gives s k (elim b [ true ↦ end_of_actor | false ↦ elim (waits_on s k actor) [ Some n ↦ wait_for n | None ↦ begin_or_rest s k actor ] ])
  ended_or actor true = tt
  ended_or actor false = waits_or actor (waits_on s k actor)

  bare_or : (actor : ℕ) (b : Bool) → Gives s k (elim b [ true ↦ due_at_mark s k actor | false ↦ rest ])
  bare_or actor true = ended_or actor (has_ended s k actor)
  bare_or actor false = tt

  of_actor : (o : Option ℕ) → Gives s k (due_of_actor s k o)
  of_actor None = tt
  of_actor (Some a) = bare_or a k.turn.bare

  by_answer : (o : Option Answer) → due_answer s k ≡ o → Gives s k (due_by_answer s k o)
  by_answer (Some given) e = e
  by_answer None e = of_actor k.turn.actor

  by_publication : (o : Option ℕ) → Gives s k (due_by_publication s k o)
  by_publication (Some f) = tt
  by_publication None = by_answer (due_answer s k) refl

  by_refusal : (o : Option (ℕ × ℕ)) → Gives s k (due_by_refusal s k o)
  by_refusal (Some (f, n)) = tt
  by_refusal None = by_publication (due_publication k)

  by_event : (o : Option WorldEvent) → Gives s k (due_by_event s k o)
  by_event (Some x) = tt
  by_event None = by_refusal k.turn.refused

  by_reset : (b : Bool) → Gives s k (due_by_reset s k b)
  by_reset true = tt
  by_reset false = by_event (tried_event k)

  by_command : (o : Option CommandValue) → Gives s k (due_by_command s k o)
  by_command (Some c) = tt
  by_command None = by_reset (is_reset_due k)

  by_end : (o : Option (ℕ × ℕ)) → Gives s k (due_by_end s k o)
  by_end (Some (epoch, event)) = tt
  by_end None = by_command (due_command k)

  gives_by : (d : Due) → due s k ≡ d → Gives s k d
  gives_by d h = subst (λ (x : Due). Gives s k x) h (by_end k.turn.ended)

  pub given_of : (given : Answer) → due s k ≡ give given → due_answer s k ≡ Some given
  given_of given h = gives_by (give given) h

  -- ---- the command that is due

  command_by : (d : Due) (a : ℕ) (c : CommandValue) (r : ResponseValue) → due s k ≡ d → is_sent d (line.Exchange a c r) ≡ true → has_value (same_command c) (due_command k) ≡ true
  command_by (send x) a c r e h = ap (has_value (same_command c)) (stands_of s k (send x) e) ∙ h
  command_by d a c r e h = absurd (true≢false (sym h))

  pub sent_of : (a : ℕ) (c : CommandValue) (r : ResponseValue) → is_sent (due s k) (line.Exchange a c r) ≡ true → has_value (same_command c) (due_command k) ≡ true
  sent_of a c r h = command_by (due s k) a c r refl h

  lost_by : (d : Due) (a : ℕ) (c : CommandValue) (acted : Bool) → due s k ≡ d → is_sent d (line.Failed a c acted) ≡ true → has_value (same_command c) (due_command k) ≡ true
  lost_by (send x) a c acted e h = ap (has_value (same_command c)) (stands_of s k (send x) e) ∙ h
  lost_by d a c acted e h = absurd (true≢false (sym h))

  pub lost_of : (a : ℕ) (c : CommandValue) (acted : Bool) → is_sent (due s k) (line.Failed a c acted) ≡ true → has_value (same_command c) (due_command k) ≡ true
  lost_of a c acted h = lost_by (due s k) a c acted refl h

-- ---- the card in the slot behind a command

pub get_set : {X : Type 0} (xs : List X) (j : ℕ) (x y : X) → slice_get xs j ≡ Some x → slice_get (slice_set xs j y) j ≡ Some y
get_set [] j x y h = absurd (cc)
get_set (z ∷ xs) zero x y h = refl
get_set (z ∷ xs) (suc j) x y h = get_set xs j x y h

steps_at : (w : World) (j : ℕ) (card : CardState) (c : CommandValue) → slice_get w.cards j ≡ Some card → (o : Option CardState) → slice_get w.cards j ≡ o → w.inside ≡ Some j → card_inside (step_of_card w j o c).0 ≡ Some (on_card w.changes card c).0
steps_at w j card c h None e i = absurd (cc)
steps_at w j card c h (Some k) e i = let same : k ≡ card = cc in rw (i, same) (get_set w.cards j card (on_card w.changes card c).0 h)

steps_in : (w : World) (card : CardState) (c : CommandValue) (o : Option ℕ) → w.inside ≡ o → option_and_then (λ j. slice_get w.cards j) o ≡ Some card → card_inside (step_of_place w o c).0 ≡ Some (on_card w.changes card c).0
steps_in w card c None i h = absurd (cc)
steps_in w card c (Some j) i h = steps_at w j card c h (slice_get w.cards j) refl i

-- it made the step
pub steps_card : (w : World) (card : CardState) (c : CommandValue) → card_inside w ≡ Some card → card_inside (step w c).0 ≡ Some (on_card w.changes card c).0
unfolding step
steps_card w card c h = steps_in w card c w.inside refl h

some_is : (o : Option CardState) → is_some o ≡ true → (card : CardState) × (o ≡ Some card)
some_is None h = absurd (true≢false (sym h))
some_is (Some card) h = (card, refl)

-- a response that is right is a card's
pub card_there : (w : World) (c : CommandValue) (r : ResponseValue) → is_response_right w c r ≡ true → (card : CardState) × (card_inside w ≡ Some card)
card_there w c r h = some_is (card_inside w) (and_parts (is_some (card_inside w)) (same_response r (step w c).1) h).0

-- ---- the state behind lines

pub state_world : (s : Script) (lines : List Line) → (state_of s lines).world ≡ world_of s lines
state_world s [] = refl
state_world s (l ∷ earlier) = ap (world_after l) (state_world s earlier)

pub state_kept : (s : Script) (lines : List Line) → (state_of s lines).kept ≡ kept_of s lines
state_kept s [] = refl
state_kept s (l ∷ earlier) = ap (kept_after s l) (state_kept s earlier)

pub state_texts : (s : Script) (lines : List Line) → (state_of s lines).texts ≡ texts_of lines
state_texts s [] = refl
state_texts s (l ∷ earlier) = ap (texts_after l) (state_texts s earlier)
