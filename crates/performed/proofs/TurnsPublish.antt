-- An operation whose family is published in its turn owes its answer: a load, or an edit that has decided.
use Rattle.std.proofs.Common.{◌≡◌, ℕ, suc, ◌+◌, Bool, true, false, if◌then◌else◌, List, length, Option, Some, None, is_some, is_none, refl, ap, ◌∙◌}
use Rattle.std.specs.Prelude.{option_map}
use Rattle.std.proofs.lemmas.Bool.{and_parts}
use Rattle.adn.specs.declared.edit.Edit.{Edit}
use Rattle.adn.specs.declared.edit.Edit.TheVariants as edit
use Rattle.script_reader.specs.declared.types.Script.{Script}
use Rattle.script_reader.specs.declared.types.Operation.{Operation}
use Rattle.script_reader.specs.declared.types.Operation.TheVariants as operation
use Rattle.report.specs.declared.answer.Answer.{Answer}
use Rattle.report.specs.declared.answer.Answer.TheVariants as answer
use Rattle.report.specs.declared.line.Line.{Line}
use Rattle.report.specs.declared.line.Line.TheVariants as line
use Rattle.editor.specs.declared.editing.Decided.{Decided}
use Rattle.editor.specs.Editing.{owed_update, left_rows}
use Rattle.rules.specs.declared.kept.Begun.{Begun}
use Rattle.rules.specs.declared.kept.Kept.{Kept}
use Rattle.rules.specs.declared.kept.Turn.{Turn}
use Rattle.rules.specs.History.{lives_in}
use Rattle.rules.specs.Editing.{family_edit}
use Rattle.rules.specs.Kept.{actor_count, begun_of, begun_operation, operation_at, operation_now}
use Rattle.rules.specs.Work.{is_edit_over, family_of_operation}
use Rattle.rules.specs.Due.{with_card, with_ended, is_lost, done_in_turn, edit_answer, answer_of_begun, answer_of_actor, due_answer}
use Rattle.rules.specs.After.{edit_of, begun_with, fresh_begun, family_of_begun, decision_at, turn_published, kept_after}
use Rattle.performed.proofs.CalmSends.{never}
use Rattle.performed.proofs.EditsBegun.{near, begun_marks, begun_stays}
use Rattle.performed.proofs.EditsLines.{edit_answers}
use Rattle.performed.proofs.EpochDecided.{with_decided}
use Rattle.performed.proofs.JobPlaces.{begun_there}
use Rattle.performed.proofs.ProgressBegins.{Starts}

-- what publishes a family
pub data Publisher (b : Begun) (op : Option Operation) : Type 0 where
  loads : (f : ℕ) → op ≡ Some (operation.Load f) → Publisher b op
  edits : (f : ℕ) (e : Edit) → edit_of op ≡ Some (f, e) → is_some b.editing.decided ≡ true → Publisher b op

-- an actor has begun one
pub record HasPublisher (s : Script) (k : Kept) (actor : ℕ) : Type 0 where
  pub begun : Begun
  pub here : begun_of actor k.jobs ≡ Some begun
  pub publisher : Publisher begun (operation_at s actor begun.index)

-- ---- the operation whose family is published

none_published : (lives : Bool) (f : ℕ) → (if lives then None else None) ≡ Some f → ⊥
none_published true f e = absurd (cc)
none_published false f e = absurd (cc)

over_published : (lives over : Bool) (g f : ℕ) → (if lives then (if over then Some g else None) else None) ≡ Some f → over ≡ true
over_published true true g f e = refl
over_published true false g f e = absurd (cc)
over_published false over g f e = absurd (cc)

edit_publishes : (b : Begun) (lives : Bool) (op : Operation) (g f : ℕ) (e : Edit) → family_edit op ≡ Some (g, e) → (if lives then (if is_edit_over b.editing then Some g else None) else None) ≡ Some f → Publisher b (Some op)
edit_publishes b lives op g f e is h =
    let over : is_edit_over b.editing ≡ true = over_published lives (is_edit_over b.editing) g f h in
    edits g e is (and_parts (is_some b.editing.decided) (is_none (owed_update true b.editing)) over).0

publisher_by : (b : Begun) (lives : Bool) (op : Operation) (f : ℕ) → (if lives then family_of_operation b op else None) ≡ Some f → Publisher b (Some op)
publisher_by b lives (operation.Load g) f e = loads g refl
publisher_by b lives (operation.Set g at name number) f e = edit_publishes b lives (operation.Set g at name number) g f (edit.Set at (record { name = name; number = number })) refl e
publisher_by b lives (operation.Clear g at) f e = edit_publishes b lives (operation.Clear g at) g f (edit.Clear at) refl e
publisher_by b lives (operation.Insert card) f e = absurd (none_published lives f e)
publisher_by b lives operation.Out f e = absurd (none_published lives f e)
publisher_by b lives (operation.Arm change) f e = absurd (none_published lives f e)
publisher_by b lives (operation.OpenChannel handle aid) f e = absurd (none_published lives f e)
publisher_by b lives (operation.Raw handle apdu) f e = absurd (none_published lives f e)
publisher_by b lives (operation.Close handle) f e = absurd (none_published lives f e)
publisher_by b lives (operation.Verify key pin) f e = absurd (none_published lives f e)
publisher_by b lives (operation.End key) f e = absurd (none_published lives f e)
publisher_by b lives operation.Poll f e = absurd (none_published lives f e)
publisher_by b lives operation.Look f e = absurd (none_published lives f e)
publisher_by b lives (operation.Watch mask) f e = absurd (none_published lives f e)
publisher_by b lives operation.Notices f e = absurd (none_published lives f e)

publisher_of : (k : Kept) (b : Begun) (op : Option Operation) (f : ℕ) → family_of_begun k (Some b) op ≡ Some f → Publisher b op
publisher_of k b None f e = absurd (cc)
publisher_of k b (Some op) f e = publisher_by b (lives_in k.history b.epoch) op f e

still : (b now : Begun) (op : Option Operation) → now.editing.decided ≡ b.editing.decided → Publisher b op → Publisher now op
still b now op same (loads f is) = loads f is
still b now op same (edits f e is h) = edits f e is (ap is_some same ∙ h)

begun_publisher : (s : Script) (k : Kept) (actor f : ℕ) → family_of_begun k (begun_of actor k.jobs) (operation_now s actor k.jobs) ≡ Some f → HasPublisher s k actor
begun_publisher s k actor f e = by_begun (begun_of actor k.jobs) refl e
  where
    by_begun : (o : Option Begun) → begun_of actor k.jobs ≡ o → family_of_begun k o (begun_operation s actor o) ≡ Some f → HasPublisher s k actor
    by_begun None at q = absurd (cc)
    by_begun (Some b) at q = record { begun = b; here = at; publisher = publisher_of k b (operation_at s actor b.index) f q }

-- behind a mark of its actor
pub marked_publisher : (s : Script) (k : Kept) (a f : ℕ) → family_of_begun k (begun_of (suc a) k.jobs) (operation_now s (suc a) k.jobs) ≡ Some f → HasPublisher s (kept_after s (line.Turn (suc a)) k) (suc a)
marked_publisher s k a f e =
    let p : HasPublisher s k (suc a) = begun_publisher s k (suc a) f e in
    let l : Line = line.Turn (suc a) in
    let now : Begun = begun_with (decision_at s l k).attempt (near s l k p.begun) in
    record {
      begun = now;
      here = begun_marks s k a p.begun p.here;
      publisher = still p.begun now (operation_at s (suc a) p.begun.index) (with_decided (decision_at s l k).attempt (near s l k p.begun).editing) p.publisher;
    }

-- behind the line that begins it
pub begin_publisher : (s : Script) (k : Kept) (a i f : ℕ) → Starts s k a i → length k.jobs ≡ actor_count s + 1 → family_of_begun k (Some (fresh_begun i k.history)) (operation_at s a i) ≡ Some f → HasPublisher s (kept_after s (line.Begin a i) k) a
begin_publisher s k a i f starts count e =
    let l : Line = line.Begin a i in
    let fresh : Begun = fresh_begun i k.history in
    let now : Begun = begun_with (decision_at s l k).attempt fresh in
    record {
      begun = now;
      here = begun_there s k a i starts count;
      publisher = still fresh now (operation_at s a i) (with_decided (decision_at s l k).attempt fresh.editing) (publisher_of k fresh (operation_at s a i) f e);
    }

-- ---- the answer behind the publication

ended_answers : (epoch : ℕ) (ended : Option ℕ) (lost : Bool) (given : Answer) → is_some (with_ended epoch ended lost (Some given)) ≡ true
ended_answers epoch None lost given = refl
ended_answers epoch (Some n) lost given = refl

answers_load : (epoch : Option ℕ) (b : Begun) (given : Answer) → is_some (with_card epoch b (Some given)) ≡ true
answers_load None b given = refl
answers_load (Some epoch) b given = ended_answers epoch b.ended (is_lost b.ended b.editing.lost) given

answers_edit : (b : Begun) (t : Turn) (number : ℕ) (o : Option Decided) → is_some o ≡ true → is_some t.family ≡ true → is_some (edit_answer b (turn_published number t) o) ≡ true
answers_edit b t number None h family = never h
answers_edit b t number (Some d) h family = by_told b.told
  where
    by_family : (x : Bool) → x ≡ true → is_some (option_map (λ (p : Option ℕ). answer.Done d.event p (left_rows b.editing d)) (if x then done_in_turn (Some number) t.outcome else None)) ≡ true
    by_family true q = refl
    by_family false q = never q

    by_told : (o : Option ℕ) → is_some (option_map (λ (p : Option ℕ). answer.Done d.event p (left_rows b.editing d)) (elim o as (λ x. Option (Option ℕ)) [ Some n ↦ Some (Some n) | None ↦ if is_some t.family then done_in_turn (Some number) t.outcome else None ])) ≡ true
    by_told (Some n) = refl
    by_told None = by_family (is_some t.family) family

module _ (s : Script) (k : Kept) (actor : ℕ) (p : HasPublisher s k actor) (number f e n : ℕ) (text : List ℕ) where
  abbrev told : Line
  told = line.Published number f e n text

  abbrev after : Kept
  after = kept_after s told k

  abbrev now : Begun
  now = near s told k p.begun

  there : begun_of actor after.jobs ≡ Some now
  there = begun_stays s told k actor p.begun refl p.here

  answered_by : k.turn.actor ≡ Some actor → is_some k.turn.family ≡ true → Publisher p.begun (operation_at s actor p.begun.index) → is_some (due_answer s after) ≡ true
  answered_by at family (loads g is) =
      ap (λ (o : Option ℕ). is_some (answer_of_actor s after o)) at
      ∙ ap (λ (o : Option Begun). is_some (answer_of_begun after actor o (begun_operation s actor o))) there
      ∙ ap (λ (o : Option Operation). is_some (answer_of_begun after actor (Some now) o)) is
      ∙ answers_load now.epoch now (answer.Loaded number)
  answered_by at family (edits g x is decided) =
      ap is_some (edit_answers s after actor now g x at there is)
      ∙ answers_edit now k.turn number now.editing.decided decided family

  pub publisher_answered : k.turn.actor ≡ Some actor → is_some k.turn.family ≡ true → is_some (due_answer s after) ≡ true
  publisher_answered at family = answered_by at family p.publisher
