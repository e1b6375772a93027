-- No line breaks the rule of edits: an UPDATE is an application's, or the next of its edit, also where its answer was lost; and an edit is done
-- where it has decided and nothing of it is left to send.
use Rattle.std.proofs.Common.{◌≡◌, ℕ, ◌==◌, ◌&&◌, not, Bool, true, false, if◌then◌else◌, Option, Some, None, is_some, List, ◌∷◌, refl, sym, ap, ◌∙◌, subst, true≢false}
use Rattle.std.specs.Prelude.{is_none, option_map}
use Rattle.std.proofs.lemmas.Bool.{and_parts, and_from, eq-eqb, eqb-true}
use Rattle.apdu.specs.Values.{CommandValue, ResponseValue}
use Rattle.apdu.specs.Words.{has_value, or_else, same_bytes}
use Rattle.apdu.specs.Apdu.{is_update_ins, same_response}
use Rattle.card_effects.proofs.Same.{same_bytes_self}
use Rattle.card_model.specs.Step.{step, card_inside}
use Rattle.adn.specs.declared.edit.Edit.{Edit}
use Rattle.adn.specs.declared.edit.Edit.TheVariants as edit
use Rattle.std.proofs.lemmas.Str.{IsUtf8-from_is_utf8}
use Rattle.rules.specs.Editing.{family_edit}
use Rattle.adn.specs.declared.edit.PlanError.{PlanError}
use Rattle.adn.specs.declared.edit.PlanError.TheVariants as plan_error
use Rattle.families.specs.Families.{family_path}
use Rattle.book_plans.specs.Law.{HasText, PlansMakeEdits}
use Rattle.editor.specs.declared.editing.Attempt.{Attempt}
use Rattle.editor.specs.declared.editing.Decided.{Decided}
use Rattle.editor.specs.Editing.{left_rows, owed_of, owed_update}
use Rattle.watchers.specs.declared.mailbox.Mailbox.{Mailbox}
use Rattle.rules.specs.Watching.{notices_of}
use Rattle.rules.specs.History.{lives_in}
use Rattle.rules.specs.Laws.{KeptAgrees, PlansForCard}
use Rattle.rules.specs.declared.kept.Turn.{Turn}
use Rattle.rules.specs.declared.kept.Work.{Work}
use Rattle.rules.specs.declared.kept.Work.TheVariants.{Rests as rests, Refuses as refuses, Lacks as lacks, Sends as sends, Reads as reads, Writes as writes, Resets as resets, Happens as happens}
use Rattle.rules.specs.Performed.{is_sent}
use Rattle.card_model.specs.declared.world.World.{World}
use Rattle.script_reader.specs.declared.types.Script.{Script}
use Rattle.script_reader.specs.declared.types.Operation.{Operation}
use Rattle.script_reader.specs.declared.types.Operation.TheVariants as operation
use Rattle.script_reader.specs.Rules.{keeps_rules}
use Rattle.report.specs.declared.answer.Answer.{Answer}
use Rattle.report.specs.declared.answer.Answer.TheVariants as answer
use Rattle.report.specs.declared.line.Line.{Line}
use Rattle.report.specs.declared.line.Line.TheVariants as line
use Rattle.rules.specs.declared.due.Due.{Due}
use Rattle.rules.specs.declared.due.Due.TheVariants.{Give as give, Send as send}
use Rattle.rules.specs.declared.kept.Begun.{Begun}
use Rattle.rules.specs.declared.kept.Job.{Job}
use Rattle.rules.specs.declared.kept.Kept.{Kept}
use Rattle.rules.specs.declared.kept.Outcome.{Outcome}
use Rattle.rules.specs.declared.kept.Outcome.TheVariants as outcome
use Rattle.rules.specs.Channels.{handle_of, is_raw_ins}
use Rattle.rules.specs.Kept.{begun_of, begun_operation, operation_at, job_of}
use Rattle.rules.specs.After.{edit_of, is_raw, kept_of}
use Rattle.rules.specs.Due.{with_ended, with_card, loaded, answer_of_outcome, outcome_answer, answer_of, answer_of_begun, answer_of_actor, is_lost, due, due_answer, on_handle, raw_on_handle, planning_answer, plan_refusal, edit_answer, decided_answer, done_publication, done_in_turn}
use Rattle.rules.specs.Rules.{is_turn_of, is_begun_at, optional_number, same_answer, is_outside_raw, is_update_right, is_done_by, is_done_right, turn_operation, edit_turn, edit_turn_at, edit_turn_by, edit_turn_of, has_right_edit, has_right_response}
use Rattle.rules.specs.State.{world_of}
use Rattle.performed.specs.Names.{has_utf8_name, has_utf8_names}
use Rattle.performed.specs.Followed.{is_given_or_refused, is_followed, are_followed}
use Rattle.performed.specs.Told.{is_told, are_told}
use Rattle.performed.proofs.CalmLent.{given_of}
use Rattle.performed.proofs.CalmKinds.{is_writer}
use Rattle.rules.specs.declared.holdings.Handle.{Handle}
use Rattle.rules.specs.Sessions.{has_session}
use Rattle.performed.proofs.CalmBehind.{actor_is}
use Rattle.performed.proofs.CalmLines.{turn_is}
use Rattle.performed.proofs.CalmAnswers.{told_response}
use Rattle.performed.proofs.CalmSends.{never}
use Rattle.performed.proofs.EditsKept.{How, still, by_raw, by_edit, how, own, own_card, own_book, current}
use Rattle.performed.proofs.EditsLines.{edit_answers, writes_what}
use Rattle.performed.proofs.EditsOver.{turn_over}
use Rattle.performed.proofs.EditsRule.{update_right}
use Rattle.performed.proofs.EditsScript.{edit_is}
use Rattle.performed.proofs.EditsState.{Edited}
use Rattle.performed.proofs.EditsWhole.{edited_of}
use Rattle.performed.proofs.EpochBegun.{living_unended}
use Rattle.performed.proofs.EpochFamily.{one_pair}
use Rattle.performed.proofs.EpochLost.{failed_edit}
use Rattle.performed.proofs.LegalScript.{at_passes}

-- ---- answers

abbrev is_done : Answer → Bool
is_done (answer.Done n k left) = true
is_done given = false

abbrev Undone : Option Answer → Type 0
Undone None = Unit {0}
Undone (Some given) = is_done given ≡ false

outcome_undone : (o : Outcome) → is_done (answer_of_outcome o) ≡ false
outcome_undone (outcome.Status sw n) = refl
outcome_undone (outcome.Loop n) = refl
outcome_undone (outcome.BadFcp n) = refl
outcome_undone (outcome.Opened channel) = refl
outcome_undone (outcome.Exhausted n) = refl
outcome_undone (outcome.Raw response) = refl
outcome_undone outcome.Closed = refl
outcome_undone outcome.Verified = refl
outcome_undone outcome.Polled = refl

came_undone : (o : Option Outcome) → Undone (option_map answer_of_outcome o)
came_undone None = tt
came_undone (Some o) = outcome_undone o

loaded_undone : (published : Option ℕ) → Undone (loaded published)
loaded_undone None = tt
loaded_undone (Some n) = refl

else_undone : (a b : Option Answer) → Undone a → Undone b → Undone (or_else a b)
else_undone None b h g = g
else_undone (Some a) b h g = h

ended_undone : (epoch : ℕ) (ended : Option ℕ) (unsure : Bool) (other : Option Answer) → Undone other → Undone (with_ended epoch ended unsure other)
ended_undone epoch None unsure other h = h
ended_undone epoch (Some n) unsure other h = refl

card_undone : (epoch : Option ℕ) (b : Begun) (other : Option Answer) → Undone other → Undone (with_card epoch b other)
card_undone None b other h = refl
card_undone (Some epoch) b other h = ended_undone epoch b.ended (is_lost b.ended b.editing.lost) other h

moved_undone : (b : Bool) → Undone (if b then Some answer.Moved else None)
moved_undone true = refl
moved_undone false = tt

undone_if : (b : Bool) (x y : Option Answer) → Undone x → Undone y → Undone (if b then x else y)
undone_if true x y h g = h
undone_if false x y h g = g

handle_undone : (handle : ℕ) (o : Option Handle) (other : Option Answer) → Undone other → Undone (on_handle handle o other)
handle_undone handle None other h = refl
handle_undone handle (Some x) other h = ended_undone x.epoch x.ended false other h

raw_undone : (handle : ℕ) (o : Option Handle) (ins : ℕ) (other : Option Answer) → Undone other → Undone (raw_on_handle handle o ins other)
raw_undone handle None ins other h = refl
raw_undone handle (Some x) ins other h = undone_if (is_raw_ins ins) (with_ended x.epoch x.ended false other) (Some (answer.RawRefused ins)) (ended_undone x.epoch x.ended false other h) refl

planned_undone : (work : Work) → Undone (planning_answer work)
planned_undone (refuses r) = refusal_undone r
  where
    refusal_undone : (r : PlanError) → is_done (plan_refusal r) ≡ false
    refusal_undone (plan_error.BadFile width) = refl
    refusal_undone (plan_error.NoRecord at) = refl
    refusal_undone (plan_error.Full count) = refl
    refusal_undone (plan_error.NotWritable found) = refl
    refusal_undone (plan_error.NameTooLong need room) = refl
    refusal_undone (plan_error.BadDigit at) = refl
    refusal_undone (plan_error.NumberTooLong count) = refl
    refusal_undone (plan_error.ExtFull count) = refl
    refusal_undone plan_error.Memory = refl
planned_undone (lacks key) = refl
planned_undone rests = tt
planned_undone (sends c) = tt
planned_undone (reads path) = tt
planned_undone writes = tt
planned_undone resets = tt
planned_undone (happens e) = tt

-- an operation that is no edit, and an edit that has not decided, is not done
answer_undone : (k : Kept) (actor : ℕ) (job : Job) (b : Begun) (op : Operation) → is_writer (Some op) ≡ false → Undone (answer_of k actor job b op)
answer_undone k actor job b (operation.Insert card) h = moved_undone k.turn.happened
answer_undone k actor job b operation.Out h = moved_undone k.turn.happened
answer_undone k actor job b (operation.Arm change) h = moved_undone k.turn.happened
answer_undone k actor job b (operation.Load f) h = card_undone b.epoch b (or_else (loaded k.turn.published) (outcome_answer k.turn)) (else_undone (loaded k.turn.published) (outcome_answer k.turn) (loaded_undone k.turn.published) (came_undone k.turn.outcome))
answer_undone k actor job b (operation.OpenChannel handle aid) h = card_undone b.epoch b (outcome_answer k.turn) (came_undone k.turn.outcome)
answer_undone k actor job b (operation.Raw handle apdu) h = raw_undone handle (handle_of actor handle k.handles) apdu.ins (outcome_answer k.turn) (came_undone k.turn.outcome)
answer_undone k actor job b (operation.Close handle) h = handle_undone handle (handle_of actor handle k.handles) (outcome_answer k.turn) (came_undone k.turn.outcome)
answer_undone k actor job b (operation.Verify key pin) h = card_undone b.epoch b (outcome_answer k.turn) (came_undone k.turn.outcome)
answer_undone k actor job b operation.Poll h = card_undone b.epoch b (outcome_answer k.turn) (came_undone k.turn.outcome)
answer_undone k actor job b (operation.End key) h = undone_if (has_session actor key k.sessions) (Some answer.Ended) (Some (answer.NotHeldKey key)) refl refl
answer_undone k actor job b operation.Look h = refl
answer_undone k actor job b (operation.Watch mask) h = refl
answer_undone k actor job b operation.Notices h = notices_undone job.mailbox
  where
    notices_undone : (o : Option Mailbox) → Undone (Some (notices_of o))
    notices_undone None = refl
    notices_undone (Some m) = refl
answer_undone k actor job b op h = absurd (true≢false h)

undecided_undone : (b : Begun) (t : Turn) → Undone (edit_answer b t None)
undecided_undone b t = card_undone b.epoch b (or_else (outcome_answer t) (planning_answer t.work)) (else_undone (outcome_answer t) (planning_answer t.work) (came_undone t.outcome) (planned_undone t.work))

unlike_done : (n : ℕ) (published : Option ℕ) (left : List ℕ) (given : Answer) → is_done given ≡ false → same_answer (answer.Done n published left) given ≡ true → ⊥
unlike_done n published left (answer.Done m q rest) u h = true≢false u
unlike_done n published left given u h = true≢false (sym h)

-- ---- what a done edit is told

record IsToldDone (b : Begun) (d : Decided) (t : Turn) (n : ℕ) (left : List ℕ) : Type 0 where
  event : d.event ≡ n
  rows : same_bytes left (left_rows b.editing d) ≡ true
  published : is_some (done_publication b t) ≡ true

told_done : (b : Begun) (d : Decided) (t : Turn) (n : ℕ) (p : Option ℕ) (left : List ℕ) (x : Answer) → decided_answer b d t ≡ Some x → same_answer (answer.Done n p left) x ≡ true → IsToldDone b d t n left
told_done b d t n p left x is h = by_publication (done_publication b t) refl is
  where
    by_publication : (o : Option (Option ℕ)) → done_publication b t ≡ o → option_map (λ k. answer.Done d.event k (left_rows b.editing d)) o ≡ Some x → IsToldDone b d t n left
    by_publication None e q = absurd (cc)
    by_publication (Some k) e q =
        let same : answer.Done d.event k (left_rows b.editing d) ≡ x = cc in
        let g : same_answer (answer.Done n p left) (answer.Done d.event k (left_rows b.editing d)) ≡ true = ap (same_answer (answer.Done n p left)) same ∙ h in
        let q1 = and_parts (n == d.event) ((optional_number p == optional_number k) && same_bytes left (left_rows b.editing d)) g in
        let q2 = and_parts (optional_number p == optional_number k) (same_bytes left (left_rows b.editing d)) q1.1 in
        record { event = sym (eqb-true n d.event q1.0); rows = q2.1; published = ap is_some e }

-- a family that the turn publishes, where no end was told
family_told : (b : Begun) (t : Turn) → b.told ≡ None → is_some (done_publication b t) ≡ true → is_some t.family ≡ true
family_told b t none h = by_family (is_some t.family) (sym (ap (λ (o : Option ℕ). is_some (elim o as (λ x. Option (Option ℕ)) [ Some k ↦ Some (Some k) | None ↦ if is_some t.family then done_in_turn t.published t.outcome else None ])) none) ∙ h)
  where
    by_family : (x : Bool) → is_some (if x then done_in_turn t.published t.outcome else None) ≡ true → x ≡ true
    by_family true q = refl
    by_family false q = never q

-- nothing is owed in an epoch that is over
owed_dead : (o : Option Attempt) → owed_of false o ≡ None
owed_dead None = refl
owed_dead (Some a) = refl

-- ---- edits

and_no : (a : Bool) → (a && false) ≡ false
and_no true = refl
and_no false = refl

right_if : (b x : Bool) → x ≡ true → elim b [ true ↦ x | false ↦ true ] ≡ true
right_if true x h = h
right_if false x h = refl

response_self : (r : ResponseValue) → same_response r r ≡ true
response_self r = and_from (same_bytes r.body r.body) (r.sw == r.sw) (same_bytes_self r.body) (eq-eqb r.sw r.sw refl)

sent_again : (d : Due) (a : ℕ) (c : CommandValue) (x : Bool) (r : ResponseValue) → is_sent d (line.Failed a c x) ≡ true → is_sent d (line.Exchange a c r) ≡ true
sent_again (send due) a c x r h = h
sent_again d a c x r h = never h

-- the names of a script's edits are UTF-8
abbrev pub HaveTexts : Script → Type 0
HaveTexts s = (i n f : ℕ) (e : Edit) → edit_of (operation_at s i n) ≡ Some (f, e) → HasText e

module _ (agrees : KeptAgrees) (plans : PlansForCard) (makes : PlansMakeEdits) (s : Script) (rules : keeps_rules s ≡ true) (served : has_utf8_names s ≡ true) (texts : HaveTexts s) (earlier : List Line) (followed : are_followed s earlier ≡ true) (told : are_told s earlier ≡ true) where
  abbrev k : Kept
  k = kept_of s earlier

  abbrev w : World
  w = world_of s earlier

  edited_now : Edited s w k
  edited_now = edited_of agrees plans s earlier rules served followed told

  -- ---- an UPDATE

  inside_by : (c : CommandValue) → is_outside_raw s k c ≡ false → (x : Bool) → elim (is_outside_raw s k c) [ true ↦ x | false ↦ true ] ≡ true
  inside_by c e x = ap (λ (b : Bool). elim b [ true ↦ x | false ↦ true ]) e

  exchange_right : (a : ℕ) (c : CommandValue) (r : ResponseValue) → is_followed s k (line.Exchange a c r) ≡ true → has_right_response w (line.Exchange a c r) ≡ true → has_right_edit s w k (line.Exchange a c r) ≡ true
  exchange_right a c r h right = by_how (how agrees s rules served earlier followed told edited_now a c r h right)
    where
      by_how : How agrees s rules served earlier followed told edited_now a c r h right → has_right_edit s w k (line.Exchange a c r) ≡ true
      by_how (still idle) = inside_by c (ap (λ (b : Bool). b && not (has_value is_raw (turn_operation s k))) idle) (is_update_right s w k c r)
      by_how (by_raw raw) = inside_by c (ap (λ (b : Bool). is_update_ins c.ins && not b) (ap (has_value is_raw) (turn_is s k a c r h) ∙ raw) ∙ and_no (is_update_ins c.ins)) (is_update_right s w k c r)
      by_how (by_edit x) =
          let o = own agrees s rules served earlier followed told edited_now a c r h right x.work in
          let card = own_card agrees s rules served earlier followed told edited_now a c r h right x.work in
          right_if (is_outside_raw s k c) (is_update_right s w k c r)
          (update_right s w k x.work o (own_book agrees s rules served earlier followed told edited_now a c r h right x.work) makes (texts o.who o.begun.index o.family o.edit o.op) c r card
          (current agrees s rules served earlier followed told edited_now a c r h right card (family_path o.family o.write.update.file) x.selected) x.is x.selected x.chain)

  failed_right : (a : ℕ) (c : CommandValue) (d : Bool) → is_followed s k (line.Failed a c d) ≡ true → has_right_response w (line.Failed a c d) ≡ true → has_right_edit s w k (line.Failed a c d) ≡ true
  failed_right a c d h inside =
      let given : ResponseValue = (step w c).1 in
      let p = and_parts (is_turn_of a k.turn) (is_sent (due s k) (line.Failed a c d)) h in
      failed_edit s w k c a d
      (exchange_right a c given
      (and_from (is_turn_of a k.turn) (is_sent (due s k) (line.Exchange a c given)) p.0 (sent_again (due s k) a c d given p.1))
      (and_from (is_some (card_inside w)) (same_response given given) inside (response_self given)))

  -- ---- an edit that is done

  module _ (a i n : ℕ) (p : Option ℕ) (left : List ℕ) (x : Answer) (actor : k.turn.actor ≡ Some a) (b : Begun) (here : begun_of a k.jobs ≡ Some b) (index : (b.index == i) ≡ true) (is : due_answer s k ≡ Some x) (same : same_answer (answer.Done n p left) x ≡ true) where
    module _ (f : ℕ) (e : Edit) (edits : edit_of (operation_at s a b.index) ≡ Some (f, e)) where
      turn_is_edit : edit_turn s k ≡ Some (record { actor = a; family = f; edit = e; begun = b })
      turn_is_edit =
          ap (edit_turn_at s k) actor
          ∙ ap (λ (o : Option Begun). edit_turn_of a o (begun_operation s a o)) here
          ∙ by_op (operation_at s a b.index) edits
        where
          by_op : (o : Option Operation) → edit_of o ≡ Some (f, e) → edit_turn_of a (Some b) o ≡ Some (record { actor = a; family = f; edit = e; begun = b })
          by_op None q = absurd (cc)
          by_op (Some op) q = ap (edit_turn_by a b) q

      owed_none : (d : Decided) → is_some (done_publication b k.turn) ≡ true → is_none (owed_update (lives_in k.history b.epoch) b.editing) ≡ true
      owed_none d some = by_life (lives_in k.history b.epoch) refl
        where
          by_life : (y : Bool) → lives_in k.history b.epoch ≡ y → is_none (owed_update y b.editing) ≡ true
          by_life false q = ap is_none (owed_dead b.editing.attempt)
          by_life true q =
              let family = family_told b k.turn (living_unended s earlier followed a b here q).told some in
              (and_parts (is_some b.editing.decided) (is_none (owed_of true b.editing.attempt)) (turn_over agrees plans s earlier rules served followed told a b f e actor family here edits q)).1

      done_by : (o : Option Decided) → b.editing.decided ≡ o → edit_answer b k.turn o ≡ Some x → is_done_by k n left b o ≡ true
      done_by None e q = absurd (unlike_done n p left x (subst Undone q (undecided_undone b k.turn)) same)
      done_by (Some d) e q =
          let z = told_done b d k.turn n p left x q same in
          and_from ((d.event == n) && same_bytes left (left_rows b.editing d)) (is_none (owed_update (lives_in k.history b.epoch) b.editing))
          (and_from (d.event == n) (same_bytes left (left_rows b.editing d)) (eq-eqb d.event n z.event) z.rows) (owed_none d z.published)

      edit_done : has_value (is_done_right k a i n left) (edit_turn s k) ≡ true
      edit_done =
          ap (has_value (is_done_right k a i n left)) turn_is_edit
          ∙ and_from ((a == a) && (b.index == i)) (is_done_by k n left b b.editing.decided) (and_from (a == a) (b.index == i) (eq-eqb a a refl) index)
          (done_by b.editing.decided refl (sym (edit_answers s k a b f e actor here edits) ∙ is))

    op_done : (o : Option Operation) → operation_at s a b.index ≡ o → has_value (is_done_right k a i n left) (edit_turn s k) ≡ true
    op_done None q = absurd (let z : None ≡ Some x = sym answered ∙ is in cc)
      where
        answered : due_answer s k ≡ None
        answered = ap (answer_of_actor s k) actor ∙ ap (λ (o : Option Begun). answer_of_begun k a o (begun_operation s a o)) here ∙ ap (answer_of_begun k a (Some b)) q
    op_done (Some op) q = by_writer (is_writer (Some op)) refl
      where
        answered : due_answer s k ≡ answer_of k a (job_of a k.jobs) b op
        answered = ap (answer_of_actor s k) actor ∙ ap (λ (o : Option Begun). answer_of_begun k a o (begun_operation s a o)) here ∙ ap (answer_of_begun k a (Some b)) q

        by_writer : (y : Bool) → is_writer (Some op) ≡ y → has_value (is_done_right k a i n left) (edit_turn s k) ≡ true
        by_writer false z = absurd (unlike_done n p left x (subst Undone (sym answered ∙ is) (answer_undone k a (job_of a k.jobs) b op z)) same)
        by_writer true z = let y = writes_what (Some op) z in edit_done y.0 y.1.0 (ap edit_of q ∙ y.1.1)

  begun_done : (a i n : ℕ) (p : Option ℕ) (left : List ℕ) (x : Answer) → k.turn.actor ≡ Some a → (o : Option Begun) → begun_of a k.jobs ≡ o → is_begun_at i o ≡ true → due_answer s k ≡ Some x → same_answer (answer.Done n p left) x ≡ true → has_value (is_done_right k a i n left) (edit_turn s k) ≡ true
  begun_done a i n p left x actor None here index is same = never index
  begun_done a i n p left x actor (Some b) here index is same = op_done a i n p left x actor b here index is same (operation_at s a b.index) refl

  due_done : (a i n : ℕ) (p : Option ℕ) (left : List ℕ) → k.turn.actor ≡ Some a → is_begun_at i (begun_of a k.jobs) ≡ true → (d : Due) → due s k ≡ d → is_given_or_refused (answer.Done n p left) d ≡ true → has_value (is_done_right k a i n left) (edit_turn s k) ≡ true
  due_done a i n p left actor index (give x) is h = begun_done a i n p left x actor (begun_of a k.jobs) refl index (given_of s k x is) h
  due_done a i n p left actor index d is h = never h

  answered_right : (a i : ℕ) (given : Answer) → is_followed s k (line.Answered a i given) ≡ true → has_right_edit s w k (line.Answered a i given) ≡ true
  answered_right a i (answer.Done n p left) h =
      let q = and_parts (is_turn_of a k.turn) (is_begun_at i (begun_of a k.jobs) && is_given_or_refused (answer.Done n p left) (due s k)) h in
      let r = and_parts (is_begun_at i (begun_of a k.jobs)) (is_given_or_refused (answer.Done n p left) (due s k)) q.1 in
      due_done a i n p left (actor_is k a q.0) r.0 (due s k) refl r.1
  answered_right a i given h = refl

  line_right : (l : Line) → is_followed s k l ≡ true → is_told s w k l ≡ true → has_right_edit s w k l ≡ true
  line_right (line.Exchange a c r) h q = exchange_right a c r h (told_response s w k (line.Exchange a c r) q)
  line_right (line.Failed a c d) h q = failed_right a c d h (told_response s w k (line.Failed a c d) q)
  line_right (line.Answered a i given) h q = answered_right a i given h
  line_right (line.Turn a) h q = refl
  line_right (line.Begin a i) h q = refl
  line_right (line.Reset a) h q = refl
  line_right (line.ResetFailed a) h q = refl
  line_right (line.World a e) h q = refl
  line_right (line.Published n f e v text) h q = refl
  line_right (line.EpochEnd n e v) h q = refl
  line_right (line.Refused f n) h q = refl

-- ---- the names of a served script's edits

set_text : (op : Operation) (f : ℕ) (e : Edit) → has_utf8_name op ≡ true → family_edit op ≡ Some (f, e) → HasText e
set_text (operation.Set g at name number) f e h is =
    let same = ap (λ (p : ℕ × Edit). p.1) (one_pair (g, edit.Set at (record { name = name; number = number })) (f, e) is) in
    subst HasText same (IsUtf8-from_is_utf8 name h)
set_text (operation.Clear g at) f e h is =
    let same = ap (λ (p : ℕ × Edit). p.1) (one_pair (g, edit.Clear at) (f, e) is) in
    subst HasText same tt
set_text (operation.Insert card) f e h is = absurd (cc)
set_text operation.Out f e h is = absurd (cc)
set_text (operation.Arm change) f e h is = absurd (cc)
set_text (operation.Load g) f e h is = absurd (cc)
set_text (operation.OpenChannel handle aid) f e h is = absurd (cc)
set_text (operation.Raw handle apdu) f e h is = absurd (cc)
set_text (operation.Close handle) f e h is = absurd (cc)
set_text (operation.Verify key pin) f e h is = absurd (cc)
set_text (operation.End key) f e h is = absurd (cc)
set_text operation.Poll f e h is = absurd (cc)
set_text operation.Look f e h is = absurd (cc)
set_text (operation.Watch mask) f e h is = absurd (cc)
set_text operation.Notices f e h is = absurd (cc)

pub texts_of : (s : Script) → has_utf8_names s ≡ true → HaveTexts s
texts_of s served i n f e h =
    let x = edit_is (operation_at s i n) f e h in
    set_text x.op f e (at_passes has_utf8_name s served i n x.op x.is) x.edits

-- no line breaks the rule of edits
pub edits_right : KeptAgrees → PlansForCard → PlansMakeEdits → (s : Script) (earlier : List Line) (l : Line) → keeps_rules s ≡ true → has_utf8_names s ≡ true → are_followed s (l ∷ earlier) ≡ true → are_told s (l ∷ earlier) ≡ true → has_right_edit s (world_of s earlier) (kept_of s earlier) l ≡ true
edits_right agrees plans makes s earlier l rules served followed told =
    let p = and_parts (are_followed s earlier) (is_followed s (kept_of s earlier) l) followed in
    let q = and_parts (are_told s earlier) (is_told s (world_of s earlier) (kept_of s earlier) l) told in
    line_right agrees plans makes s rules served (texts_of s served) earlier p.0 q.0 l p.1 q.1
