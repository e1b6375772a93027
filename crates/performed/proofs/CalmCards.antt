-- Over a script a card is inside while an epoch lives, and at the end of each turn its open channels are then the basic one and
-- those held.
use Rattle.std.proofs.Common.{◌≡◌, ◌≤◌, inl, inr, ℕ, zero, suc, ◌+◌, ◌==◌, ◌&&◌, ◌||◌, not, Bool, true, false, if◌then◌else◌, Option, Some, None, List, [], ◌∷◌, ◌++◌, length, refl, ap, sym, ◌∙◌, subst, arith, true≢false}
use Rattle.std.specs.Prelude.{slice_get, nat_lt, nat_le, option_and_then, is_some, is_none}
use Rattle.std.proofs.lemmas.Bool.{and_parts, eqb-true, not-true}
use Rattle.apdu.specs.Values.{CommandValue, ResponseValue}
use Rattle.apdu.specs.Words.{is_one_of, has_value}
use Rattle.apdu.specs.Apdu.{same_command, same_response}
use Rattle.card_model.specs.declared.world.CardState.{CardState}
use Rattle.card_model.specs.declared.world.World.{World}
use Rattle.card_model.specs.declared.world.WorldEvent.{WorldEvent}
use Rattle.card_model.specs.declared.world.WorldEvent.TheVariants.{Arm, Out, Insert}
use Rattle.card_model.specs.Slot.{insert_refusal, refusal_of}
use Rattle.card_model.specs.Step.{armed_card, on_card, card_inside, step, step_of_card, step_of_place, reset_card, inserted, after_event, reset_in, after_reset}
use Rattle.card_effects.specs.Numbers.{numbers}
use Rattle.script_reader.specs.declared.types.Script.{Script}
use Rattle.script_reader.specs.declared.types.Operation.{Operation}
use Rattle.script_reader.specs.declared.types.Operation.TheVariants as operation
use Rattle.report.specs.declared.answer.Answer.{Answer}
use Rattle.report.specs.declared.answer.Answer.TheVariants as answer
use Rattle.report.specs.declared.line.Line.{Line}
use Rattle.report.specs.declared.line.Line.TheVariants as line
use Rattle.link.specs.declared.chain.Chain.{Chain}
use Rattle.channels.specs.Channels.{same_channels}
use Rattle.epoch_cache.specs.declared.past.Past.{Past}
use Rattle.loader.specs.declared.reading.RefusedReading.{RefusedReading}
use Rattle.rules.specs.declared.due.Due.{Due}
use Rattle.rules.specs.declared.due.Due.TheVariants.{Give as give, TryEvent as try_event, Publish as publish, ResetCard as reset_due}
use Rattle.rules.specs.declared.holdings.Handle.{Handle}
use Rattle.rules.specs.declared.kept.Begun.{Begun}
use Rattle.rules.specs.declared.kept.Facts.{Facts}
use Rattle.rules.specs.declared.kept.Job.{Job}
use Rattle.rules.specs.declared.kept.Kept.{Kept}
use Rattle.rules.specs.declared.kept.Stage.{Stage}
use Rattle.rules.specs.declared.kept.Stage.TheVariants.{Fresh as fresh, Next as next, Resetting as resetting, Over as over}
use Rattle.rules.specs.declared.kept.Turn.{Turn}
use Rattle.rules.specs.declared.kept.Work.{Work}
use Rattle.rules.specs.declared.kept.Work.TheVariants.{Rests as rests, Sends as sends, Reads as reads, Writes as writes, Refuses as refuses, Lacks as lacks, Resets as resets, Happens as happens}
use Rattle.rules.specs.Channels.{handle_of, held_numbers, without_handle, handles_after}
use Rattle.rules.specs.Kept.{actor_count, job_of, begun_of, begun_operation, operation_at, operation_now}
use Rattle.rules.specs.After.{decision_of_begun, fresh_begun, jobs_beside, jobs_of_actor, refused_of, decision_at, facts_of, kept_after, kept_of}
use Rattle.rules.specs.Due.{event_by_stage, reset_by_stage, due_command, due_answer, due}
use Rattle.rules.specs.Performed.{ends_turn, begins_as, is_sent, is_reset, is_published}
use Rattle.rules.specs.Rules.{is_failing, next_fault, open_numbers, are_channels_right, is_turn_of, is_begun_at, operation_in_turn, turn_operation, is_response_right, same_answer, has_right_response, has_right_fault}
use Rattle.rules.specs.Work.{is_finished}
use Rattle.rules.specs.State.{world_after, world_of}
use Rattle.performed.specs.Followed.{is_given_or_refused, is_tried, is_followed, are_followed}
use Rattle.performed.specs.Told.{is_told, are_told}
use Rattle.performed.proofs.TurnsSays.{IsDone, turn_done, says_of, BeginsNow, begins_now}
use Rattle.performed.proofs.CalmHeld.{held_by}
use Rattle.performed.proofs.CalmLent.{get_set, steps_card, sent_of}
use Rattle.performed.proofs.CalmMatch.{same_by_match}
use Rattle.performed.proofs.CalmPhase.{ClosePhase, same_response_is}
use Rattle.performed.proofs.CalmExchange.{Right, others_keep}
use Rattle.performed.proofs.CalmTurn.{held_in, OpenState, led_turn, led_chain, asks, open_goes, close_goes}
use Rattle.performed.proofs.CalmOps.{keeps_begun, same_operation, begun_now, answered_now, comes_first, unsent}
use Rattle.performed.proofs.CalmState.{StateOf, fresh_state, open_settled, open_told, close_told, close_settled, opened_right}
use Rattle.performed.proofs.CalmKnown.{is_channel_op, Given, AllSince, Handles, behind_by, calls, goes_to_reset, Plain, Known}
use Rattle.performed.proofs.CalmBehind.{actor_is, none_of_framework, same_in, exchange_actor, known_of, plain_state, plain_right, told_state, over_state, close_moved}
use Rattle.performed.proofs.EpochWorld.{arms}

-- ---- the card in the slot

-- its basic channel alone is open
pub record Holds (w : World) : Type 0 where
  pub card : CardState
  pub inside : card_inside w ≡ Some card
  pub basic : numbers card ≡ 0 ∷ []

inserted_by : (w : World) (j : ℕ) (o : Option CardState) → slice_get w.cards j ≡ o → is_some o ≡ true → Holds (inserted w j o)
inserted_by w j None e h = absurd (true≢false (sym h))
inserted_by w j (Some card) e h = record { card = reset_card card; inside = get_set w.cards j card (reset_card card) e; basic = refl }

some_at : {X : Type 0} (xs : List X) (j : ℕ) → nat_lt j (length xs) ≡ true → is_some (slice_get xs j) ≡ true
some_at [] j h = absurd (let n : nat_lt j 0 ≡ false = grind arith in true≢false (sym h ∙ n))
some_at (x ∷ xs) zero h = refl
some_at (x ∷ xs) (suc j) h = some_at xs j (below j (length xs) h)
  where
    below : (j n : ℕ) → nat_lt (suc j) (suc n) ≡ true → nat_lt j n ≡ true
    below j n h = grind arith

valid_by : (valid full : Bool) (j : ℕ) → is_none (insert_refusal valid full j) ≡ true → (valid ≡ true) × (full ≡ false)
valid_by true false j h = (refl, refl)
valid_by true true j h = absurd (true≢false (sym h))
valid_by false full j h = absurd (true≢false (sym h))

insert_holds : (w : World) (j : ℕ) → is_none (refusal_of w (Insert j)) ≡ true → Holds (after_event w (Insert j))
unfolding after_event
insert_holds w j h = inserted_by w j (slice_get w.cards j) refl (some_at w.cards j (valid_by (nat_lt j (length w.cards)) (is_some (card_inside w)) j h).0)

-- a card is put in where there was none
pub insert_empty : (w : World) (j : ℕ) → is_none (refusal_of w (Insert j)) ≡ true → is_some (card_inside w) ≡ false
insert_empty w j h = (valid_by (nat_lt j (length w.cards)) (is_some (card_inside w)) j h).1

reset_by : (w : World) (o : Option ℕ) → w.inside ≡ o → is_some (option_and_then (λ j. slice_get w.cards j) o) ≡ true → Holds (reset_in w o)
reset_by w None e h = absurd (true≢false (sym h))
reset_by w (Some j) e h = inserted_by w j (slice_get w.cards j) refl h

reset_holds : (w : World) → is_some (card_inside w) ≡ true → Holds (after_reset w)
unfolding after_reset
reset_holds w h = reset_by w w.inside refl h

not_or : (a b : Bool) → not (a || b) ≡ true → b ≡ false
not_or false b h = not-true b h
not_or true b h = absurd (true≢false (sym h))

there : (o : Option CardState) → is_none o ≡ false → is_some o ≡ true
there None h = absurd (true≢false h)
there (Some card) h = refl

-- a call that was done had a card
pub done_there : (s : Script) (w : World) (k : Kept) → not (is_failing s w k) ≡ true → is_some (card_inside w) ≡ true
done_there s w k h = there (card_inside w) (not_or (is_some (next_fault s k)) (is_none (card_inside w)) h)

pub dead : {X : Type 0} → false ≡ true → X
dead h = absurd (true≢false (sym h))

answers_at : (w : World) (j : ℕ) (card : CardState) (c : CommandValue) → slice_get w.cards j ≡ Some card → (step_of_card w j (slice_get w.cards j) c).1 ≡ (on_card w.changes card c).1
answers_at w j card c h = ap (λ (o : Option CardState). (step_of_card w j o c).1) h

answers_in : (w : World) (card : CardState) (c : CommandValue) (o : Option ℕ) → option_and_then (λ j. slice_get w.cards j) o ≡ Some card → (step_of_place w o c).1 ≡ (on_card w.changes card c).1
answers_in w card c None h = absurd (cc)
answers_in w card c (Some j) h = answers_at w j card c h

-- the card's response is the step's
pub step_answers : (w : World) (card : CardState) (c : CommandValue) → card_inside w ≡ Some card → (step w c).1 ≡ (on_card w.changes card c).1
unfolding step
step_answers w card c h = answers_in w card c w.inside h

-- ---- an epoch begins

unlike_next : (living : Bool) (e epoch : ℕ) → e ≤ epoch → (living && (epoch + 1 == e)) ≡ false
unlike_next living e epoch l = both living (epoch + 1 == e) (grind arith)
  where
    both : (a b : Bool) → b ≡ false → (a && b) ≡ false
    both true b h = h
    both false b h = refl

-- no handle is of an epoch that begins
none_held : (h : Past) (epoch : ℕ) (hs : List Handle) → h.epoch ≡ epoch + 1 → AllSince epoch hs → held_numbers h hs ≡ []
none_held h epoch [] e t = refl
none_held h epoch (x ∷ hs) e t =
    held_by h false x hs (ap (λ (n : ℕ). h.living && (n == x.epoch)) e ∙ unlike_next h.living x.epoch epoch t.0) ∙ none_held h epoch hs e t.1

basic_right : (ns wanted : List ℕ) → ns ≡ 0 ∷ [] → wanted ≡ [] → Right ns wanted
basic_right ns wanted e f = subst (λ (xs : List ℕ). Right xs wanted) (sym e) (subst (λ (xs : List ℕ). Right (0 ∷ []) xs) (sym f) (record {
  matches = λ m. zero_first m;
  apart = (refl, tt);
  each = tt;
  beside = refl;
}))
  where
    zero_first : (m : ℕ) → is_one_of m (0 ∷ []) ≡ ((m == 0) || is_one_of m [])
    zero_first m = ap (λ (b : Bool). b || false) (swapped m)
      where
        swapped : (m : ℕ) → (0 == m) ≡ (m == 0)
        swapped zero = refl
        swapped (suc m) = grind arith

-- ---- where a turn or an operation begins

module _ (s : Script) (w : World) (k : Kept) where
  pub record Inside : Type 0 where
    pub card : CardState
    pub inside : card_inside w ≡ Some card
    pub state : StateOf k.turn k.chain k (numbers card) k.turn.actor (turn_operation s k)

  abbrev pub Lives : Type 0
  Lives = k.history.living ≡ true → Inside

module _ (s : Script) (k : Kept) (g : Given s k) (ns : List ℕ) (living : k.history.living ≡ true) (done : IsDone s k) where
  none_due : (x : Answer) → due_answer s k ≡ Some x → ⊥
  none_due x e = absurd (let q : Some x ≡ None = sym e ∙ done.answer in cc)

  settled_by : (o : Option ℕ) (op : Option Operation) → k.turn.actor ≡ o → operation_in_turn s k o ≡ op → StateOf k.turn k.chain k ns o op → Right ns (held_in k)
  settled_by None op e q st = st
  settled_by (Some a) None e q st = st
  settled_by (Some a) (Some (operation.OpenChannel handle aid)) e q st = open_settled s k a e ns g.alive living done.command handle aid q (λ n x. none_due (answer.Opened n) x) st
  settled_by (Some a) (Some (operation.Close handle)) e q st = close_settled s k a e ns g.alive living done.command handle q done.answer st
  settled_by (Some a) (Some op) e q st = st

  -- nothing is open that is not held
  pub settled : StateOf k.turn k.chain k ns k.turn.actor (turn_operation s k) → Right ns (held_in k)
  settled st = settled_by k.turn.actor (turn_operation s k) refl refl st

module _ (s : Script) (k : Kept) (ns : List ℕ) (right : Right ns (held_in k)) where
  marked_op : (a : ℕ) (b : Begun) (op : Option Operation) (t : Turn) → t.work ≡ (decision_of_begun k a (Some b) op).work → t.stage ≡ fresh → t.outcome ≡ None → StateOf t None k ns (Some a) op
  marked_op a b None t work stage came = right
  marked_op a b (Some op) t work stage came = fresh_state k t ns right stage came a b op work

  marked_by : (a : ℕ) (o : Option Begun) (t : Turn) → t.work ≡ (decision_of_begun k a o (begun_operation s a o)).work → t.stage ≡ fresh → t.outcome ≡ None → StateOf t None k ns (Some a) (begun_operation s a o)
  marked_by a None t work stage came = right
  marked_by a (Some b) t work stage came = marked_op a b (operation_at s a b.index) t work stage came

  pub marked : (a : ℕ) → StateOf (kept_after s (line.Turn a) k).turn None k ns (Some a) (operation_now s a (kept_after s (line.Turn a) k).jobs)
  marked zero = subst (λ (op : Option Operation). StateOf (kept_after s (line.Turn zero) k).turn None k ns (Some zero) op) (sym (none_of_framework s (kept_after s (line.Turn zero) k))) right
  marked (suc a) = subst (λ (op : Option Operation). StateOf (kept_after s (line.Turn (suc a)) k).turn None k ns (Some (suc a)) op) (sym (same_operation s k (line.Turn (suc a)) (suc a) refl))
      (marked_by (suc a) (begun_of (suc a) k.jobs) (kept_after s (line.Turn (suc a)) k).turn refl refl refl)

  pub began : (a i : ℕ) → k.turn.stage ≡ fresh → k.turn.outcome ≡ None → StateOf (kept_after s (line.Begin a i) k).turn None k ns (Some a) (operation_now s a (kept_after s (line.Begin a i) k).jobs)
  began a i stage came = elim (begun_now s k a i) [
    | inl e ↦ subst (λ (op : Option Operation). StateOf (kept_after s (line.Begin a i) k).turn None k ns (Some a) op) (sym e) (marked_op a (fresh_begun i k.history) (operation_at s a i) (kept_after s (line.Begin a i) k).turn refl stage came)
    | inr e ↦ subst (λ (op : Option Operation). StateOf (kept_after s (line.Begin a i) k).turn None k ns (Some a) op) (sym e) right
  ]

-- ---- an exchange

module _ (s : Script) (w : World) (k : Kept) (g : Given s k) (known : Known s k) (a : ℕ) (c : CommandValue) (r : ResponseValue) (followed : is_followed s k (line.Exchange a c r) ≡ true) (card : CardState) (response : r ≡ (on_card w.changes card c).1) where
  abbrev l : Line
  l = line.Exchange a c r

  abbrev facts : Facts
  facts = facts_of s l k

  abbrev beside : List Job
  beside = jobs_beside l k.history.epoch facts k.selected k.jobs

  abbrev job : Job
  job = job_of a (jobs_of_actor s l k facts (decision_at s l k).attempt (Some a) beside)

  abbrev refused : Option RefusedReading
  refused = refused_of k.selected beside facts.answered

  abbrev after : List ℕ
  after = numbers (on_card w.changes card c).0

  actor : k.turn.actor ≡ Some a
  actor = actor_is k a (and_parts (is_turn_of a k.turn) (is_sent (due s k) l) followed).0

  sent : has_value (same_command c) (due_command k) ≡ true
  sent = sent_of s k a c r (and_parts (is_turn_of a k.turn) (is_sent (due s k) l) followed).1

  same_numbers : is_channel_op (operation_now s a k.jobs) ≡ false → after ≡ numbers card
  same_numbers h = others_keep w.changes card c (g.manage a c r followed (ap (λ (o : Option ℕ). is_channel_op (operation_in_turn s k o)) actor ∙ h))

  right_on : is_channel_op (operation_now s a k.jobs) ≡ false → Right (numbers card) (held_in k) → Right after (held_in k)
  right_on h right = subst (λ (ns : List ℕ). Right ns (held_in k)) (sym (same_numbers h)) right

  abbrev Goes : Option Operation → Type 0
  Goes op = StateOf (led_turn k a c r job facts refused op (asks k a c r job facts refused)) (led_chain k a c r job facts refused (asks k a c r job facts refused)) (kept_after s l k) after (Some a) op

  exchange_goes : (op : Option Operation) → operation_now s a k.jobs ≡ op → StateOf k.turn k.chain k (numbers card) (Some a) op → Goes op
  exchange_goes None e st = right_on (ap is_channel_op e) st
  exchange_goes (Some (operation.OpenChannel handle aid)) e st = open_goes k a c r job facts refused w.changes card actor sent response handle aid st
  exchange_goes (Some (operation.Close handle)) e st =
      let q = close_goes k a c r job facts refused w.changes card actor sent response handle known.handles.refs st in
      record { closed = q.closed; phase = close_moved (led_turn k a c r job facts refused (Some (operation.Close handle)) (asks k a c r job facts refused)) (led_chain k a c r job facts refused (asks k a c r job facts refused)) k.history (kept_after s l k).history (λ h. refl) (handle_of a handle k.handles) q.closed q.phase; right = q.right }
  exchange_goes (Some op) e st = right_on (ap is_channel_op e) st

  same_after : operation_in_turn s (kept_after s l k) (kept_after s l k).turn.actor ≡ operation_now s a k.jobs
  same_after = ap (operation_in_turn s (kept_after s l k)) (exchange_actor s k g known a c r ∙ actor) ∙ same_operation s k l a refl

  pub exchanged : StateOf k.turn k.chain k (numbers card) k.turn.actor (turn_operation s k) → StateOf (kept_after s l k).turn (kept_after s l k).chain (kept_after s l k) after (kept_after s l k).turn.actor (turn_operation s (kept_after s l k))
  exchanged st =
      let here : StateOf k.turn k.chain k (numbers card) (Some a) (operation_now s a k.jobs) = subst (λ (o : Option ℕ). StateOf k.turn k.chain k (numbers card) o (operation_in_turn s k o)) actor st in
      let goes : StateOf (kept_after s l k).turn (kept_after s l k).chain (kept_after s l k) after (Some a) (operation_now s a k.jobs) = exchange_goes (operation_now s a k.jobs) refl here in
      let named : StateOf (kept_after s l k).turn (kept_after s l k).chain (kept_after s l k) after (Some a) (turn_operation s (kept_after s l k)) =
      subst (λ (op : Option Operation). StateOf (kept_after s l k).turn (kept_after s l k).chain (kept_after s l k) after (Some a) op) (sym same_after) goes in
      subst (λ (o : Option ℕ). StateOf (kept_after s l k).turn (kept_after s l k).chain (kept_after s l k) after o (turn_operation s (kept_after s l k))) (sym (exchange_actor s k g known a c r ∙ actor)) named

-- ---- an answer

-- it is the one that is due, or the slot's
unlike_opened : (given : Answer) (n : ℕ) → same_answer given (answer.Opened n) ≡ true → (m : ℕ) × (given ≡ answer.Opened m)
unlike_opened (answer.Opened m) n h = (m, refl)
unlike_opened given n h = absurd (true≢false (sym h))

tried_calls : (work : Work) (stage : Stage) (e : WorldEvent) → calls work ≡ true → event_by_stage work stage ≡ Some e → ⊥
tried_calls (sends c) fresh e h q = absurd (cc)
tried_calls rests fresh e h q = absurd (cc)
tried_calls (reads path) fresh e h q = dead h
tried_calls writes fresh e h q = dead h
tried_calls (refuses x) fresh e h q = dead h
tried_calls (lacks key) fresh e h q = dead h
tried_calls resets fresh e h q = dead h
tried_calls (happens x) fresh e h q = dead h
tried_calls work (next c) e h q = absurd (cc)
tried_calls work resetting e h q = absurd (cc)
tried_calls work over e h q = absurd (cc)

module _ (s : Script) (k : Kept) (given : Answer) where
  pub record GivesIt : Type 0 where
    pub told : Answer
    pub is : due_answer s k ≡ Some told
    pub same : same_answer given told ≡ true
    pub unsent : due_command k ≡ None

  gives_by : (d : Due) → due s k ≡ d → is_given_or_refused given d ≡ true → Plain k.turn → GivesIt
  gives_by (give x) e h p = record { told = x; is = says_of s k (give x) e; same = h; unsent = unsent s k (ap (comes_first s k) e) }
  gives_by (try_event x) e h p = absurd (tried_calls k.turn.work k.turn.stage x p.work (says_of s k (try_event x) e))
  gives_by d e h p = dead h

module _ (s : Script) (k : Kept) (g : Given s k) (known : Known s k) (a i : ℕ) (given : Answer) (followed : is_followed s k (line.Answered a i given) ≡ true) (ns : List ℕ) (living : k.history.living ≡ true) where
  turn_is : k.turn.actor ≡ Some a
  turn_is = actor_is k a (and_parts (is_turn_of a k.turn) (is_begun_at i (begun_of a k.jobs) && is_given_or_refused given (due s k)) followed).0

  begun_is : (is_begun_at i (begun_of a k.jobs) ≡ true) × (is_given_or_refused given (due s k) ≡ true)
  begun_is = and_parts (is_begun_at i (begun_of a k.jobs)) (is_given_or_refused given (due s k)) (and_parts (is_turn_of a k.turn) (is_begun_at i (begun_of a k.jobs) && is_given_or_refused given (due s k)) followed).1

  at_by : (o : Option Begun) → is_begun_at i o ≡ true → begun_operation s a o ≡ operation_at s a i
  at_by None h = dead h
  at_by (Some b) h = ap (operation_at s a) (eqb-true b.index i h)

  -- the operation that is answered is the turn's
  answers_it : operation_now s a k.jobs ≡ operation_at s a i
  answers_it = at_by (begun_of a k.jobs) begun_is.0

  abbrev told_by : Option Operation → List Handle
  told_by op = elim op [ None ↦ k.handles | Some o ↦ handles_after a o given k.history.epoch k.handles ]

  gives : (op : Option Operation) → operation_now s a k.jobs ≡ op → is_channel_op op ≡ true → GivesIt s k given
  gives op e h = gives_by s k given (due s k) refl begun_is.1 (known.plain (ap (λ (o : Option ℕ). is_channel_op (operation_in_turn s k o)) turn_is ∙ ap is_channel_op e ∙ h))

  open_given : (handle : ℕ) (aid : List ℕ) (x : Answer) → given ≡ x → operation_now s a k.jobs ≡ Some (operation.OpenChannel handle aid) → GivesIt s k given → OpenState k.turn k.chain ns (held_in k) aid → Right ns (held_numbers k.history (handles_after a (operation.OpenChannel handle aid) x k.history.epoch k.handles))
  open_given handle aid (answer.Opened n) e op t st =
      let due_is : due_answer s k ≡ Some (answer.Opened n) = opened_due t.told n t.is (subst (λ (y : Answer). same_answer y t.told ≡ true) e t.same) in
      let free : handle_of a handle k.handles ≡ None = g.free a i handle n aid (subst (λ (y : Answer). is_followed s k (line.Answered a i y) ≡ true) e followed) (sym answers_it ∙ op) in
      opened_right k ns a handle n living free (open_told s k a turn_is ns g.alive living t.unsent handle aid op n due_is st)
    where
      opened_due : (y : Answer) (n : ℕ) → due_answer s k ≡ Some y → same_answer (answer.Opened n) y ≡ true → due_answer s k ≡ Some (answer.Opened n)
      opened_due (answer.Opened m) n q h = q ∙ ap (λ (z : ℕ). Some (answer.Opened z)) (sym (eqb-true n m (and_parts (n == m) true h).0))
      opened_due y n q h = dead h
  open_given handle aid x e op t st = open_settled s k a turn_is ns g.alive living t.unsent handle aid op (λ n q. other n (subst (λ (y : Answer). same_answer y (answer.Opened n) ≡ true) e (subst (λ (y : Answer). same_answer given y ≡ true) (the_same t.told (answer.Opened n) (sym t.is ∙ q)) t.same))) st
    where
      the_same : (y z : Answer) → Some y ≡ Some z → y ≡ z
      the_same y z q = cc

      other : (n : ℕ) → same_answer x (answer.Opened n) ≡ true → ⊥
      other n h = dead h

  answer_right : (op : Option Operation) → operation_now s a k.jobs ≡ op → StateOf k.turn k.chain k ns (Some a) op → Right ns (held_numbers k.history (told_by op))
  answer_right None e st = st
  answer_right (Some (operation.OpenChannel handle aid)) e st = open_given handle aid given refl e (gives (Some (operation.OpenChannel handle aid)) e refl) st
  answer_right (Some (operation.Close handle)) e st = close_told s k a turn_is ns g.alive living (gives (Some (operation.Close handle)) e refl).unsent handle known.handles.refs st
  answer_right (Some op) e st = st

  abbrev behind : Kept
  behind = kept_after s (line.Answered a i given) k

  pub answered : StateOf k.turn k.chain k ns k.turn.actor (turn_operation s k) → StateOf behind.turn behind.chain behind ns behind.turn.actor (turn_operation s behind)
  answered st =
      let here : StateOf k.turn k.chain k ns (Some a) (operation_now s a k.jobs) = subst (λ (o : Option ℕ). StateOf k.turn k.chain k ns o (operation_in_turn s k o)) turn_is st in
      let right : Right ns (held_numbers k.history (told_by (operation_at s a i))) = subst (λ (op : Option Operation). Right ns (held_numbers k.history (told_by op))) answers_it (answer_right (operation_now s a k.jobs) refl here) in
      subst (λ (o : Option ℕ). StateOf behind.turn behind.chain behind ns o (operation_in_turn s behind o)) (sym turn_is)
      (subst (λ (op : Option Operation). StateOf behind.turn behind.chain behind ns (Some a) op) (sym (answered_now s k a i given)) right)

-- ---- every line

-- a state is of the handles and of what lives alone
module _ (t : Turn) (chain : Option Chain) (ns : List ℕ) (k l : Kept) (history : k.history ≡ l.history) (handles : k.handles ≡ l.handles) where
  right_moved : (more : List ℕ) → Right ns (more ++ held_in k) → Right ns (more ++ held_in l)
  right_moved more right =
      subst (λ (hs : List Handle). Right ns (more ++ held_numbers l.history hs)) handles
      (subst (λ (h : Past). Right ns (more ++ held_numbers h k.handles)) history right)

  pub state_moved : (o : Option ℕ) (op : Option Operation) → StateOf t chain k ns o op → StateOf t chain l ns o op
  state_moved None op st = right_moved [] st
  state_moved (Some a) None st = right_moved [] st
  state_moved (Some a) (Some (operation.OpenChannel handle aid)) st = record { more = st.more; phase = st.phase; right = right_moved st.more st.right }
  state_moved (Some a) (Some (operation.Close handle)) st = record {
    closed = st.closed;
    phase = subst (λ (hs : List Handle). ClosePhase t chain l.history (handle_of a handle hs) st.closed) handles
        (subst (λ (h : Past). ClosePhase t chain h (handle_of a handle k.handles) st.closed) history st.phase);
    right = subst (λ (hs : List Handle). Right ns (if st.closed then held_numbers l.history (without_handle a handle hs) else held_numbers l.history hs)) handles
        (subst (λ (h : Past). Right ns (if st.closed then held_numbers h (without_handle a handle k.handles) else held_numbers h k.handles)) history st.right);
  }
  state_moved (Some a) (Some op) st = right_moved [] st

unsent_published : (s : Script) (k : Kept) (n f e v : ℕ) (text : List ℕ) (d : Due) → is_published k n f e v text d ≡ true → comes_first s k d ≡ false
unsent_published s k n f e v text (publish x) h = refl
unsent_published s k n f e v text d h = dead h

reset_calls : (work : Work) (stage : Stage) → calls work ≡ true → goes_to_reset stage ≡ false → reset_by_stage work stage ≡ true → ⊥
reset_calls (sends c) fresh h p q = dead q
reset_calls rests fresh h p q = dead q
reset_calls (reads path) fresh h p q = dead h
reset_calls writes fresh h p q = dead h
reset_calls (refuses x) fresh h p q = dead h
reset_calls (lacks key) fresh h p q = dead h
reset_calls resets fresh h p q = dead h
reset_calls (happens x) fresh h p q = dead h
reset_calls work (next c) h p q = dead q
reset_calls work resetting h p q = dead (sym p)
reset_calls work over h p q = dead q

module _ (s : Script) (w : World) (k : Kept) (g : Given s k) (known : Known s k) (lives : Lives s w k) where
  abbrev Next : Line → Type 0
  Next l = Lives s (world_after l w) (kept_after s l k)

  -- where the turn and its actor stay
  stays : (l : Line) → keeps_begun l ≡ true → k.history ≡ (kept_after s l k).history → k.handles ≡ (kept_after s l k).handles → (u : Turn) (chain : Option Chain) (ns : List ℕ) → ((o : Option ℕ) (op : Option Operation) → k.turn.actor ≡ o → StateOf k.turn k.chain k ns o op → StateOf u chain k ns o op) → StateOf k.turn k.chain k ns k.turn.actor (turn_operation s k) → StateOf u chain (kept_after s l k) ns k.turn.actor (operation_in_turn s (kept_after s l k) k.turn.actor)
  stays l e history handles u chain ns moves st = state_moved u chain ns k (kept_after s l k) history handles k.turn.actor (operation_in_turn s (kept_after s l k) k.turn.actor)
      (subst (λ (op : Option Operation). StateOf u chain k ns k.turn.actor op) (sym (same_in s k l e k.turn.actor)) (moves k.turn.actor (turn_operation s k) refl st))

  turn_lives : (a : ℕ) → is_followed s k (line.Turn a) ≡ true → Next (line.Turn a)
  turn_lives a h living =
      let i = lives living in
      let e : ends_turn (due s k) ≡ true = (and_parts (ends_turn (due s k)) (not (is_finished s k)) (and_parts (ends_turn (due s k) && not (is_finished s k)) (nat_le a (actor_count s)) h).0).0 in
      let behind : Kept = kept_after s (line.Turn a) k in
      record {
        card = i.card;
        inside = i.inside;
        state = state_moved behind.turn None (numbers i.card) k behind refl refl (Some a) (operation_now s a behind.jobs) (marked s k (numbers i.card) (settled s k g (numbers i.card) living (turn_done s k e) i.state) a);
      }

  begin_lives : (a i : ℕ) → is_followed s k (line.Begin a i) ≡ true → Next (line.Begin a i)
  begin_lives a i h living =
      let x = lives living in
      let n : BeginsNow s k a i = begins_now s k a i h in
      let still = known.bare n.begins.bare in
      let turn = actor_is k a (and_parts (is_turn_of a k.turn) (begins_as i (due s k)) h).0 in
      let l : Line = line.Begin a i in
      record {
        card = x.card;
        inside = x.inside;
        state = subst (λ (o : Option ℕ). StateOf (kept_after s l k).turn None (kept_after s l k) (numbers x.card) o (operation_in_turn s (kept_after s l k) o)) (sym turn)
            (state_moved (kept_after s l k).turn None (numbers x.card) k (kept_after s l k) refl refl (Some a) (operation_now s a (kept_after s l k).jobs) (began s k (numbers x.card) (settled s k g (numbers x.card) living n.done x.state) a i still.0 still.1));
      }

  exchange_lives : (a : ℕ) (c : CommandValue) (r : ResponseValue) → is_followed s k (line.Exchange a c r) ≡ true → is_told s w k (line.Exchange a c r) ≡ true → Next (line.Exchange a c r)
  exchange_lives a c r h told living =
      let x = lives living in
      let right : is_response_right w c r ≡ true = (and_parts (has_right_response w (line.Exchange a c r)) (has_right_fault s w k (line.Exchange a c r)) told).0 in
      let response : r ≡ (on_card w.changes x.card c).1 = same_response_is r (step w c).1 (and_parts (is_some (card_inside w)) (same_response r (step w c).1) right).1 ∙ step_answers w x.card c x.inside in
      record {
        card = (on_card w.changes x.card c).0;
        inside = steps_card w x.card c x.inside;
        state = exchanged s w k g known a c r h x.card response x.state;
      }

  unlike_reset : (a : ℕ) → is_followed s k (line.Reset a) ≡ true → is_channel_op (turn_operation s k) ≡ false
  unlike_reset a h = by_op (is_channel_op (turn_operation s k)) refl
    where
      by_due : (d : Due) → due s k ≡ d → is_reset d ≡ true → Plain k.turn → ⊥
      by_due reset_due e t p = reset_calls k.turn.work k.turn.stage p.work p.stage (says_of s k reset_due e)
      by_due d e t p = dead t

      by_op : (b : Bool) → is_channel_op (turn_operation s k) ≡ b → b ≡ false
      by_op false e = refl
      by_op true e = absurd (by_due (due s k) refl (and_parts (is_turn_of a k.turn) (is_reset (due s k)) h).1 (known.plain e))

  unlike_event : (a : ℕ) (x : WorldEvent) → is_followed s k (line.World a x) ≡ true → is_channel_op (turn_operation s k) ≡ false
  unlike_event a x h = by_op (is_channel_op (turn_operation s k)) refl
    where
      by_due : (d : Due) → due s k ≡ d → is_tried x d ≡ true → Plain k.turn → ⊥
      by_due (try_event y) e t p = tried_calls k.turn.work k.turn.stage y p.work (says_of s k (try_event y) e)
      by_due d e t p = dead t

      by_op : (b : Bool) → is_channel_op (turn_operation s k) ≡ b → b ≡ false
      by_op false e = refl
      by_op true e = absurd (by_due (due s k) refl (and_parts (is_turn_of a k.turn) (is_tried x (due s k)) h).1 (known.plain e))

  -- a card whose basic channel alone is open, in an epoch that begins
  begins_epoch_lives : (l : Line) → is_followed s k l ≡ true → keeps_begun l ≡ true → (kept_after s l k).history.epoch ≡ k.history.epoch + 1 → (kept_after s l k).turn.actor ≡ k.turn.actor → is_channel_op (turn_operation s k) ≡ false → Holds (world_after l w) → Inside s (world_after l w) (kept_after s l k)
  begins_epoch_lives l h keeps epoch actor none at =
      let behind : Kept = kept_after s l k in
      let op : is_channel_op (turn_operation s behind) ≡ false = ap is_channel_op (ap (operation_in_turn s behind) actor ∙ same_in s k l keeps k.turn.actor) ∙ none in
      let hs : Handles k.history.epoch behind.handles = behind_by s k g known.handles (facts_of s l k).ends l (facts_of s l k).event h in
      let right : Right (numbers at.card) (held_in behind) = basic_right (numbers at.card) (held_in behind) at.basic (none_held behind.history k.history.epoch behind.handles epoch hs.since) in
      record { card = at.card; inside = at.inside; state = plain_state behind.turn behind.chain behind (numbers at.card) behind.turn.actor (turn_operation s behind) op right }

  -- a change is armed on the card
  armed_lives : (a j : ℕ) → is_followed s k (line.World a (Arm j)) ≡ true → Next (line.World a (Arm j))
  armed_lives a j h living =
      let x = lives living in
      let l : Line = line.World a (Arm j) in
      let behind : Kept = kept_after s l k in
      let none : is_channel_op (turn_operation s k) ≡ false = unlike_event a (Arm j) h in
      let right : Right (numbers x.card) (held_in k) = plain_right k.turn k.chain k (numbers x.card) k.turn.actor (turn_operation s k) none x.state in
      record {
        card = armed_card j x.card;
        inside = arms w j x.card x.inside;
        state = plain_state behind.turn behind.chain behind (numbers x.card) behind.turn.actor (turn_operation s behind) (ap is_channel_op (same_in s k l refl k.turn.actor) ∙ none) right;
      }

  event_lives : (a : ℕ) (x : WorldEvent) → is_followed s k (line.World a x) ≡ true → is_none (refusal_of w x) ≡ true → Next (line.World a x)
  event_lives a (Insert j) h told living = begins_epoch_lives (line.World a (Insert j)) h refl refl refl (unlike_event a (Insert j) h) (insert_holds w j told)
  event_lives a Out h told living = dead living
  event_lives a (Arm j) h told living = armed_lives a j h living

  pub line_lives : (l : Line) → is_followed s k l ≡ true → is_told s w k l ≡ true → Next l
  line_lives (line.Turn a) h told = turn_lives a h
  line_lives (line.Begin a i) h told = begin_lives a i h
  line_lives (line.Exchange a c r) h told = exchange_lives a c r h told
  line_lives (line.Failed a c d) h told = λ living. dead living
  line_lives (line.Reset a) h told = λ living. begins_epoch_lives (line.Reset a) h refl refl refl (unlike_reset a h) (reset_holds w (done_there s w k told))
  line_lives (line.ResetFailed a) h told = λ living. dead living
  line_lives (line.World a e) h told = event_lives a e h told
  line_lives (line.Published n f e v text) h told = λ living.
      let x = lives living in
      let l : Line = line.Published n f e v text in
      let u : Turn = (kept_after s l k).turn in
      record { card = x.card; inside = x.inside; state = stays l refl refl refl u None (numbers x.card) (over_state k (numbers x.card) (unsent s k (unsent_published s k n f e v text (due s k) h)) u refl refl refl) x.state }
  line_lives (line.EpochEnd n e v) h told = λ living.
      let x = lives living in
      let l : Line = line.EpochEnd n e v in
      let u : Turn = (kept_after s l k).turn in
      record { card = x.card; inside = x.inside; state = stays l refl refl refl u None (numbers x.card) (λ o op e st. told_state k.turn k.chain k (numbers x.card) u refl refl refl refl o op st) x.state }
  line_lives (line.Refused f n) h told = λ living.
      let x = lives living in
      let l : Line = line.Refused f n in
      let u : Turn = (kept_after s l k).turn in
      record { card = x.card; inside = x.inside; state = stays l refl refl refl u None (numbers x.card) (λ o op e st. told_state k.turn k.chain k (numbers x.card) u refl refl refl refl o op st) x.state }
  line_lives (line.Answered a i given) h told = λ living.
      let x = lives living in
      record { card = x.card; inside = x.inside; state = answered s k g known a i given h (numbers x.card) living x.state }

-- ---- the rule of channels

-- what other proofs give of a script
abbrev pub GivenOf : Script → Type 0
GivenOf s = (lines : List Line) → are_followed s lines ≡ true → Given s (kept_of s lines)

pub lives_of : (s : Script) → GivenOf s → (lines : List Line) → are_followed s lines ≡ true → are_told s lines ≡ true → Lives s (world_of s lines) (kept_of s lines)
lives_of s g [] followed told = λ living. dead living
lives_of s g (l ∷ earlier) followed told =
    let p = and_parts (are_followed s earlier) (is_followed s (kept_of s earlier) l) followed in
    let q = and_parts (are_told s earlier) (is_told s (world_of s earlier) (kept_of s earlier) l) told in
    line_lives s (world_of s earlier) (kept_of s earlier) (g earlier p.0) (known_of s g earlier p.0) (lives_of s g earlier p.0 q.0) l p.1 q.1

while_living : (b x : Bool) → (b ≡ true → x ≡ true) → elim b [ false ↦ true | true ↦ x ] ≡ true
while_living false x h = refl
while_living true x h = h refl

-- at the end of each turn, while an epoch lives, the card's open channels are the basic one and those held
pub channels_right : (s : Script) → GivenOf s → (lines : List Line) → are_followed s lines ≡ true → are_told s lines ≡ true → ends_turn (due s (kept_of s lines)) ≡ true → are_channels_right (world_of s lines) (kept_of s lines) ≡ true
channels_right s g lines followed told ends =
    let w : World = world_of s lines in
    let k : Kept = kept_of s lines in
    while_living k.history.living (has_value (λ card. same_channels (open_numbers card) (held_numbers k.history k.handles)) (card_inside w)) (λ living.
    let x = lives_of s g lines followed told living in
    let right = settled s k (g lines followed) (numbers x.card) living (turn_done s k ends) x.state in
    ap (has_value (λ card. same_channels (open_numbers card) (held_numbers k.history k.handles))) x.inside ∙ same_by_match (numbers x.card) (held_in k) right.matches)
