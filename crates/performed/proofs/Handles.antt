-- What a line does to the handles, and what is known where one is given.
use Rattle.std.proofs.Common.{◌≡◌, ℕ, ◌==◌, ◌&&◌, not, Bool, true, List, Option, Some, None, refl, sym, ap, ◌∙◌, subst, true≢false}
use Rattle.std.specs.Prelude.{option_map}
use Rattle.std.specs.List.{list_all}
use Rattle.std.proofs.lemmas.Bool.{and_parts, eqb-true}
use Rattle.apdu.specs.Words.{same_number}
use Rattle.script_reader.specs.declared.types.Script.{Script}
use Rattle.script_reader.specs.declared.types.Operation.{Operation}
use Rattle.script_reader.specs.declared.types.Operation.TheVariants as operation
use Rattle.report.specs.declared.answer.Answer.{Answer}
use Rattle.report.specs.declared.answer.Answer.TheVariants as answer
use Rattle.report.specs.declared.line.Line.{Line}
use Rattle.report.specs.declared.line.Line.TheVariants as line
use Rattle.rules.specs.declared.due.Due.{Due}
use Rattle.rules.specs.declared.due.Due.TheVariants.{Give as give}
use Rattle.rules.specs.declared.holdings.Handle.{Handle}
use Rattle.rules.specs.declared.kept.Begun.{Begun}
use Rattle.rules.specs.declared.kept.Kept.{Kept}
use Rattle.rules.specs.declared.kept.Outcome.{Outcome}
use Rattle.rules.specs.declared.kept.Outcome.TheVariants as outcome
use Rattle.rules.specs.Channels.{is_handle_of, without_handle, handles_after}
use Rattle.rules.specs.Kept.{begun_of, begun_operation, operation_at}
use Rattle.rules.specs.After.{handles_given}
use Rattle.rules.specs.Due.{due, due_answer, with_card, with_ended, is_lost, answer_of_outcome, outcome_answer, answer_of_begun, answer_of_actor}
use Rattle.rules.specs.Rules.{is_turn_of, is_begun_at, same_answer}
use Rattle.performed.specs.Followed.{is_followed, is_given_or_refused}
use Rattle.performed.proofs.Lists.{all_added, all_filtered}
use Rattle.performed.proofs.TurnsSays.{says_of}

-- ---- what holds of each handle

abbrev pub new_handle : ℕ → ℕ → ℕ → ℕ → Handle
new_handle actor handle number epoch = record { actor = actor; handle = handle; number = number; epoch = epoch; ended = None }

module _ (good : Handle → Bool) where
  -- where it holds of the one that an answer gives, it holds of all behind the line
  module _ (a epoch : ℕ) (hs : List Handle) (held : list_all good hs ≡ true) where
    opened_good : (handle : ℕ) (aid : List ℕ) (given : Answer) → ((number : ℕ) → given ≡ answer.Opened number → good (new_handle a handle number epoch) ≡ true) → list_all good (handles_after a (operation.OpenChannel handle aid) given epoch hs) ≡ true
    opened_good handle aid (answer.Opened number) new = all_added good (without_handle a handle hs) (new_handle a handle number epoch) (all_filtered good (λ h. not (is_handle_of a handle h)) hs held) (new number refl)
    opened_good handle aid given new = held

    answered_good : (op : Operation) (given : Answer) → ((handle number : ℕ) (aid : List ℕ) → op ≡ operation.OpenChannel handle aid → given ≡ answer.Opened number → good (new_handle a handle number epoch) ≡ true) → list_all good (handles_after a op given epoch hs) ≡ true
    answered_good (operation.OpenChannel handle aid) given new = opened_good handle aid given (λ number e. new handle number aid refl e)
    answered_good (operation.Close handle) given new = all_filtered good (λ h. not (is_handle_of a handle h)) hs held
    answered_good op given new = held

    place_good : (o : Option Operation) (given : Answer) → ((handle number : ℕ) (aid : List ℕ) → o ≡ Some (operation.OpenChannel handle aid) → given ≡ answer.Opened number → good (new_handle a handle number epoch) ≡ true) → list_all good (elim o [ None ↦ hs | Some op ↦ handles_after a op given epoch hs ]) ≡ true
    place_good None given new = held
    place_good (Some op) given new = answered_good op given (λ handle number aid e g. new handle number aid (ap (λ (x : Operation). Some x) e) g)

  pub given_good : (s : Script) (l : Line) (epoch : ℕ) (hs : List Handle) → list_all good hs ≡ true → ((a i handle number : ℕ) (aid : List ℕ) → l ≡ line.Answered a i (answer.Opened number) → operation_at s a i ≡ Some (operation.OpenChannel handle aid) → good (new_handle a handle number epoch) ≡ true) → list_all good (handles_given s l epoch hs) ≡ true
  given_good s (line.Answered a i given) epoch hs held new = place_good a epoch hs held (operation_at s a i) given (λ handle number aid e g. new a i handle number aid (ap (λ (x : Answer). line.Answered a i x) g) e)
  given_good s l epoch hs held new = held

-- ---- the answer that a channel was opened

-- its operation began in an epoch that has no end, and the commands of the turn opened the channel
pub record Opens (k : Kept) (a number : ℕ) : Type 0 where
  pub begun : Begun
  pub here : begun_of a k.jobs ≡ Some begun
  pub epoch : ℕ
  pub epoch_is : begun.epoch ≡ Some epoch
  pub lasts : begun.ended ≡ None
  pub outcome : k.turn.outcome ≡ Some (outcome.Opened number)

same_opened : (n m : ℕ) → same_answer (answer.Opened n) (answer.Opened m) ≡ true → n ≡ m
same_opened n m h = eqb-true n m (and_parts (n == m) true h).0

module _ (s : Script) (k : Kept) (a i number handle : ℕ) (aid : List ℕ) (op : operation_at s a i ≡ Some (operation.OpenChannel handle aid)) where
  outcome_opened : (o : Option Outcome) → option_map answer_of_outcome o ≡ Some (answer.Opened number) → o ≡ Some (outcome.Opened number)
  outcome_opened None e = absurd (cc)
  outcome_opened (Some (outcome.Opened channel)) e = ap (λ (n : ℕ). Some (outcome.Opened n)) same
    where
      same : channel ≡ number
      same = cc
  outcome_opened (Some (outcome.Status sw n)) e = absurd (cc)
  outcome_opened (Some (outcome.Loop n)) e = absurd (cc)
  outcome_opened (Some (outcome.BadFcp n)) e = absurd (cc)
  outcome_opened (Some (outcome.Exhausted n)) e = absurd (cc)
  outcome_opened (Some (outcome.Raw response)) e = absurd (cc)
  outcome_opened (Some outcome.Closed) e = absurd (cc)
  outcome_opened (Some outcome.Verified) e = absurd (cc)
  outcome_opened (Some outcome.Polled) e = absurd (cc)

  by_ended : (b : Begun) (epoch : ℕ) (ended : Option ℕ) (unsure : Bool) → begun_of a k.jobs ≡ Some b → b.epoch ≡ Some epoch → b.ended ≡ ended → with_ended epoch ended unsure (outcome_answer k.turn) ≡ Some (answer.Opened number) → Opens k a number
  by_ended b epoch None unsure here at lasts e = record { begun = b; here = here; epoch = epoch; epoch_is = at; lasts = lasts; outcome = outcome_opened k.turn.outcome e }
  by_ended b epoch (Some n) unsure here at lasts e = absurd (cc)

  by_epoch : (b : Begun) (o : Option ℕ) → begun_of a k.jobs ≡ Some b → b.epoch ≡ o → with_card o b (outcome_answer k.turn) ≡ Some (answer.Opened number) → Opens k a number
  by_epoch b None here at e = absurd (cc)
  by_epoch b (Some epoch) here at e = by_ended b epoch b.ended (is_lost b.ended b.editing.lost) here at refl e

  by_begun : (o : Option Begun) → begun_of a k.jobs ≡ o → is_begun_at i o ≡ true → answer_of_begun k a o (begun_operation s a o) ≡ Some (answer.Opened number) → Opens k a number
  by_begun None here at e = absurd (true≢false (sym at))
  by_begun (Some b) here at e =
      let is : operation_at s a b.index ≡ Some (operation.OpenChannel handle aid) = ap (operation_at s a) (eqb-true b.index i at) ∙ op in
      by_epoch b b.epoch here refl (sym (ap (λ (o : Option Operation). answer_of_begun k a (Some b) o) is) ∙ e)

  by_actor : (o : Option ℕ) → k.turn.actor ≡ o → is_turn_of a k.turn ≡ true → is_begun_at i (begun_of a k.jobs) ≡ true → answer_of_actor s k o ≡ Some (answer.Opened number) → Opens k a number
  by_actor None turn whose at e = absurd (cc)
  by_actor (Some b) turn whose at e =
      let same : b ≡ a = eqb-true b a (subst (λ (o : Option ℕ). same_number o (Some a) ≡ true) turn whose) in
      by_begun (begun_of a k.jobs) refl at (subst (λ (n : ℕ). answer_of_actor s k (Some n) ≡ Some (answer.Opened number)) same e)

  by_answer : (x : Answer) → due_answer s k ≡ Some x → same_answer (answer.Opened number) x ≡ true → due_answer s k ≡ Some (answer.Opened number)
  by_answer (answer.Opened m) e h = e ∙ ap (λ (n : ℕ). Some (answer.Opened n)) (sym (same_opened number m h))
  by_answer x e h = absurd (true≢false (sym h))

  by_due : (d : Due) → due s k ≡ d → is_given_or_refused (answer.Opened number) d ≡ true → due_answer s k ≡ Some (answer.Opened number)
  by_due (give x) e h = by_answer x (says_of s k (give x) e) h
  by_due d e h = absurd (true≢false (sym h))

  pub opens : is_followed s k (line.Answered a i (answer.Opened number)) ≡ true → Opens k a number
  opens h =
      let p = and_parts (is_turn_of a k.turn) (is_begun_at i (begun_of a k.jobs) && is_given_or_refused (answer.Opened number) (due s k)) h in
      let q = and_parts (is_begun_at i (begun_of a k.jobs)) (is_given_or_refused (answer.Opened number) (due s k)) p.1 in
      by_actor k.turn.actor refl p.0 q.0 (by_due (due s k) refl q.1)
