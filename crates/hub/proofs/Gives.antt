-- The answer that is due: to an operation that has begun, and of few bytes.
use Rattle.std.proofs.Common.{◌≡◌, ◌≤◌, ◌<◌, ◌∙◌, ℕ, Bool, true, false, if◌then◌else◌, [], Option, Some, None, is_some, option_map, refl, sym, ap, subst, true≢false, lit≤}
use Rattle.apdu.specs.Values.{CommandValue}
use Rattle.apdu.specs.Words.{or_else}
use Rattle.card_model.specs.declared.world.WorldEvent.{WorldEvent}
use Rattle.script_reader.specs.declared.types.Script.{Script}
use Rattle.script_reader.specs.declared.types.Operation.{Operation}
use Rattle.script_reader.specs.declared.types.Operation.TheVariants as operation
use Rattle.report.specs.declared.answer.Answer.{Answer}
use Rattle.report.specs.declared.answer.Answer.TheVariants as answer
use Rattle.report.specs.Room.{most_of_answer}
use Rattle.rules.specs.declared.due.Due.TheVariants.{Give as give}
use Rattle.rules.specs.declared.holdings.Handle.{Handle}
use Rattle.rules.specs.declared.kept.Begun.{Begun}
use Rattle.rules.specs.declared.kept.Job.{Job}
use Rattle.rules.specs.declared.kept.Kept.{Kept}
use Rattle.rules.specs.declared.kept.Outcome.{Outcome}
use Rattle.rules.specs.declared.kept.Outcome.TheVariants as outcome
use Rattle.rules.specs.Kept.{begun_of, job_of, operation_now}
use Rattle.rules.specs.Due.{done_publication, edit_answer, plan_refusal, planning_answer, answer_of, answer_of_outcome, is_lost, answer_of_actor, answer_of_begun, due, due_answer, due_by_command, due_by_end, due_by_event, due_by_reset, due_command, is_reset_due, loaded, on_handle, outcome_answer, raw_on_handle, seen_now, tried_event, with_card, with_ended}
use Rattle.performed.specs.Names.{has_utf8_name, has_utf8_names}
use Rattle.performed.proofs.CalmSends.{ServedOp, served_now}
use Rattle.performed.proofs.TurnsSays.{says_of}
use Rattle.rules.specs.Channels.{handle_of, is_raw_ins}
use Rattle.rules.specs.Sessions.{has_session}
use Rattle.rules.specs.Watching.{notices_of}
use Rattle.watchers.specs.declared.mailbox.Mailbox.{Mailbox}
use Rattle.adn.specs.declared.edit.PlanError.{PlanError}
use Rattle.adn.specs.declared.edit.PlanError.TheVariants as plan_error
use Rattle.editor.specs.declared.editing.Decided.{Decided}
use Rattle.editor.specs.Editing.{left_rows}
use Rattle.rules.specs.declared.kept.Turn.{Turn}
use Rattle.rules.specs.declared.kept.Work.{Work}
use Rattle.rules.specs.declared.kept.Work.TheVariants.{Rests as rests, Refuses as refuses, Lacks as lacks, Sends as sends, Reads as reads, Writes as writes, Resets as resets, Happens as happens}
use Rattle.hub.specs.Short.{are_short, is_short_begun, is_short_editing}
use Rattle.hub.proofs.FewRows.{short_done}
use Rattle.hub.proofs.Turning.{begun_short_at}
use Rattle.hub.specs.Performing.{is_holding}
use Rattle.hub.specs.Settled.{IsSince}

-- ---- the operation has begun

begun_there : (k : Kept) (a : ℕ) (b : Option Begun) (op : Option Operation) (x : Answer) → answer_of_begun k a b op ≡ Some x → is_some b ≡ true
begun_there k a (Some b) op x h = refl
begun_there k a None op x h = absurd (cc)

pub gives_begun : (s : Script) (k : Kept) (a : ℕ) (x : Answer) → k.turn.actor ≡ Some a → due s k ≡ give x → is_some (begun_of a k.jobs) ≡ true
gives_begun s k a x t h =
    let given : answer_of_actor s k k.turn.actor ≡ Some x = says_of s k (give x) h in
    begun_there k a (begun_of a k.jobs) (operation_now s a k.jobs) x (subst (λ (o : Option ℕ). answer_of_actor s k o ≡ Some x) t given)

-- the notices that are due are those of the actor's mailbox
notices_there : (k : Kept) (a : ℕ) (b : Option Begun) (x : Answer) → answer_of_begun k a b (Some operation.Notices) ≡ Some x → notices_of (job_of a k.jobs).mailbox ≡ x
notices_there k a (Some b) x h = cc
notices_there k a None x h = absurd (cc)

pub gives_notices : (s : Script) (k : Kept) (a : ℕ) (x : Answer) → k.turn.actor ≡ Some a → due s k ≡ give x → operation_now s a k.jobs ≡ Some operation.Notices → notices_of (job_of a k.jobs).mailbox ≡ x
gives_notices s k a x t h op =
    let given : answer_of_actor s k k.turn.actor ≡ Some x = says_of s k (give x) h in
    notices_there k a (begun_of a k.jobs) x (ap (answer_of_begun k a (begun_of a k.jobs)) (sym op) ∙ subst (λ (o : Option ℕ). answer_of_actor s k o ≡ Some x) t given)

-- ---- no event is tried

module _ (s : Script) (k : Kept) (x : Answer) where
  by_event : (o : Option WorldEvent) → tried_event k ≡ o → due_by_event s k o ≡ give x → tried_event k ≡ None
  by_event None e h = e
  by_event (Some event) e h = absurd (cc)

  by_reset : (b : Bool) → due_by_reset s k b ≡ give x → tried_event k ≡ None
  by_reset true h = absurd (cc)
  by_reset false h = by_event (tried_event k) refl h

  by_command : (o : Option CommandValue) → due_by_command s k o ≡ give x → tried_event k ≡ None
  by_command (Some c) h = absurd (cc)
  by_command None h = by_reset (is_reset_due k) h

  by_end : (o : Option (ℕ × ℕ)) → due_by_end s k o ≡ give x → tried_event k ≡ None
  by_end (Some (e, n)) h = absurd (cc)
  by_end None h = by_command (due_command k) h

pub gives_untried : (s : Script) (k : Kept) (x : Answer) → due s k ≡ give x → tried_event k ≡ None
gives_untried s k x h = by_end s k x k.turn.ended h

-- ---- it is short, and gives a channel or a session only where the turn's commands came to something

record IsGiven (came : Bool) (x : Answer) : Type 0 where
  short : most_of_answer x ≤ 608
  holds : is_holding x ≡ true → came ≡ true

Given : Bool → Option Answer → Type 0
Given came None = Unit {0}
Given came (Some x) = IsGiven came x

refusal_short : (e : PlanError) → most_of_answer (plan_refusal e) ≤ 608
refusal_short (plan_error.BadFile width) = lit≤ tt
refusal_short (plan_error.NoRecord at) = lit≤ tt
refusal_short (plan_error.Full count) = lit≤ tt
refusal_short (plan_error.NotWritable c) = lit≤ tt
refusal_short (plan_error.NameTooLong need room) = lit≤ tt
refusal_short (plan_error.BadDigit at) = lit≤ tt
refusal_short (plan_error.NumberTooLong n) = lit≤ tt
refusal_short (plan_error.ExtFull count) = lit≤ tt
refusal_short plan_error.Memory = lit≤ tt

refusal_holds : (e : PlanError) → is_holding (plan_refusal e) ≡ false
refusal_holds (plan_error.BadFile width) = refl
refusal_holds (plan_error.NoRecord at) = refl
refusal_holds (plan_error.Full count) = refl
refusal_holds (plan_error.NotWritable c) = refl
refusal_holds (plan_error.NameTooLong need room) = refl
refusal_holds (plan_error.BadDigit at) = refl
refusal_holds (plan_error.NumberTooLong n) = refl
refusal_holds (plan_error.ExtFull count) = refl
refusal_holds plan_error.Memory = refl

-- an answer that gives nothing to hold
plain : (came : Bool) (x : Answer) → most_of_answer x ≤ 608 → is_holding x ≡ false → IsGiven came x
plain came x short free = record { short = short; holds = λ h. absurd (true≢false (sym h ∙ free)) }

came_given : (o : Outcome) → IsGiven true (answer_of_outcome o)
came_given (outcome.Status sw n) = record { short = lit≤ tt; holds = λ h. refl }
came_given (outcome.Loop n) = record { short = lit≤ tt; holds = λ h. refl }
came_given (outcome.BadFcp n) = record { short = lit≤ tt; holds = λ h. refl }
came_given (outcome.Opened channel) = record { short = lit≤ tt; holds = λ h. refl }
came_given (outcome.Exhausted n) = record { short = lit≤ tt; holds = λ h. refl }
came_given (outcome.Raw response) = record { short = lit≤ tt; holds = λ h. refl }
came_given outcome.Closed = record { short = lit≤ tt; holds = λ h. refl }
came_given outcome.Verified = record { short = lit≤ tt; holds = λ h. refl }
came_given outcome.Polled = record { short = lit≤ tt; holds = λ h. refl }

outcome_given : (o : Option Outcome) → Given (is_some o) (option_map answer_of_outcome o)
unfolding Given
outcome_given None = tt
outcome_given (Some o) = came_given o

module _ (came : Bool) where
  loaded_given : (published : Option ℕ) (other : Option Answer) → Given came other → Given came (or_else (loaded published) other)
  unfolding Given
  loaded_given None other h = h
  loaded_given (Some n) other h = plain came (answer.Loaded n) (lit≤ tt) refl

  ended_given : (epoch : ℕ) (ended : Option ℕ) (unsure : Bool) (other : Option Answer) → Given came other → Given came (with_ended epoch ended unsure other)
  unfolding Given
  ended_given epoch None unsure other h = h
  ended_given epoch (Some n) unsure other h = plain came (answer.EpochEnded epoch n unsure) (lit≤ tt) refl

  card_given : (epoch : Option ℕ) (b : Begun) (other : Option Answer) → Given came other → Given came (with_card epoch b other)
  unfolding Given
  card_given None b other h = plain came answer.Absent (lit≤ tt) refl
  card_given (Some epoch) b other h = ended_given epoch b.ended (is_lost b.ended b.editing.lost) other h

  handle_given : (handle : ℕ) (o : Option Handle) (other : Option Answer) → Given came other → Given came (on_handle handle o other)
  unfolding Given
  handle_given handle None other h = plain came (answer.NotHeldRef handle) (lit≤ tt) refl
  handle_given handle (Some x) other h = ended_given x.epoch x.ended false other h

  allowed_given : (allowed : Bool) (ins : ℕ) (other : Option Answer) → Given came other → Given came (if allowed then other else Some (answer.RawRefused ins))
  unfolding Given
  allowed_given true ins other h = h
  allowed_given false ins other h = plain came (answer.RawRefused ins) (lit≤ tt) refl

  raw_given : (handle : ℕ) (o : Option Handle) (ins : ℕ) (other : Option Answer) → Given came other → Given came (raw_on_handle handle o ins other)
  unfolding Given
  raw_given handle None ins other h = plain came (answer.NotHeldRef handle) (lit≤ tt) refl
  raw_given handle (Some x) ins other h = allowed_given (is_raw_ins ins) ins (with_ended x.epoch x.ended false other) (ended_given x.epoch x.ended false other h)

  session_given : (held : Bool) (key : ℕ) → Given came (if held then Some answer.Ended else Some (answer.NotHeldKey key))
  unfolding Given
  session_given true key = plain came answer.Ended (lit≤ tt) refl
  session_given false key = plain came (answer.NotHeldKey key) (lit≤ tt) refl

  notices_given : (m : Option Mailbox) → Given came (Some (notices_of m))
  unfolding Given
  notices_given None = plain came (answer.Notices 0 (record { items = [] })) (lit≤ tt) refl
  notices_given (Some m) = plain came (answer.Notices m.dropped m.numbers) (lit≤ tt) refl

  moved_given : (happened : Bool) → Given came (if happened then Some answer.Moved else None)
  unfolding Given
  moved_given true = plain came answer.Moved (lit≤ tt) refl
  moved_given false = tt

  planning_given : (w : Work) → Given came (planning_answer w)
  unfolding Given
  planning_given rests = tt
  planning_given (refuses e) = plain came (plan_refusal e) (refusal_short e) (refusal_holds e)
  planning_given (lacks key) = plain came (answer.NeedsPin key) (lit≤ tt) refl
  planning_given (sends c) = tt
  planning_given (reads path) = tt
  planning_given writes = tt
  planning_given resets = tt
  planning_given (happens e) = tt

  planned_given : (w : Work) (other : Option Answer) → Given came other → Given came (or_else other (planning_answer w))
  unfolding Given
  planned_given w None h = planning_given w
  planned_given w (Some x) h = h

  done_given : (b : Begun) (d : Decided) (o : Option (Option ℕ)) → most_of_answer (answer.Done d.event None (left_rows b.editing d)) ≤ 608 → Given came (option_map (λ publication. answer.Done d.event publication (left_rows b.editing d)) o)
  unfolding Given
  done_given b d None h = tt
  done_given b d (Some n) h = plain came (answer.Done d.event n (left_rows b.editing d)) h refl

  edit_given : (b : Begun) (t : Turn) (o : Option Decided) → Given came (outcome_answer t) → ((d : Decided) → most_of_answer (answer.Done d.event None (left_rows b.editing d)) ≤ 608) → Given came (edit_answer b t o)
  unfolding Given
  edit_given b t None h short = card_given b.epoch b (or_else (outcome_answer t) (planning_answer t.work)) (planned_given t.work (outcome_answer t) h)
  edit_given b t (Some d) h short = done_given b d (done_publication b t) (short d)

came : Kept → Bool
came k = is_some k.turn.outcome

operation_given : (n : ℕ) (k : Kept) (a : ℕ) (job : Job) (b : Begun) (op : Operation) → is_short_editing n b.editing ≡ true → has_utf8_name op ≡ true → Given (came k) (answer_of k a job b op)
unfolding Given came
operation_given n k a job b (operation.Insert card) short v = moved_given (came k) k.turn.happened
operation_given n k a job b operation.Out short v = moved_given (came k) k.turn.happened
operation_given n k a job b (operation.Arm change) short v = moved_given (came k) k.turn.happened
operation_given n k a job b (operation.Load f) short v = card_given (came k) b.epoch b (or_else (loaded k.turn.published) (outcome_answer k.turn)) (loaded_given (came k) k.turn.published (outcome_answer k.turn) (outcome_given k.turn.outcome))
operation_given n k a job b (operation.OpenChannel handle aid) short v = card_given (came k) b.epoch b (outcome_answer k.turn) (outcome_given k.turn.outcome)
operation_given n k a job b (operation.Raw handle apdu) short v = raw_given (came k) handle (handle_of a handle k.handles) apdu.ins (outcome_answer k.turn) (outcome_given k.turn.outcome)
operation_given n k a job b (operation.Close handle) short v = handle_given (came k) handle (handle_of a handle k.handles) (outcome_answer k.turn) (outcome_given k.turn.outcome)
operation_given n k a job b (operation.Verify key pin) short v = card_given (came k) b.epoch b (outcome_answer k.turn) (outcome_given k.turn.outcome)
operation_given n k a job b operation.Poll short v = card_given (came k) b.epoch b (outcome_answer k.turn) (outcome_given k.turn.outcome)
operation_given n k a job b (operation.End key) short v = session_given (came k) (has_session a key k.sessions) key
operation_given n k a job b operation.Look short v = plain (came k) (answer.Look (seen_now k)) (lit≤ tt) refl
operation_given n k a job b (operation.Set f at name number) short v = edit_given (came k) b k.turn b.editing.decided (outcome_given k.turn.outcome) (λ d. short_done n b.editing d short)
operation_given n k a job b (operation.Clear f at) short v = edit_given (came k) b k.turn b.editing.decided (outcome_given k.turn.outcome) (λ d. short_done n b.editing d short)
operation_given n k a job b (operation.Watch mask) short v = plain (came k) answer.Watching (lit≤ tt) refl
operation_given n k a job b operation.Notices short v = notices_given (came k) job.mailbox

begun_given : (n : ℕ) (k : Kept) (a : ℕ) (b : Option Begun) (op : Option Operation) → is_short_begun n b ≡ true → ServedOp op → Given (came k) (answer_of_begun k a b op)
unfolding Given
begun_given n k a (Some b) (Some op) short v = operation_given n k a (job_of a k.jobs) b op short v
begun_given n k a (Some b) None short v = tt
begun_given n k a None op short v = tt

actor_given : (n : ℕ) (s : Script) (k : Kept) (o : Option ℕ) → are_short n k.jobs ≡ true → has_utf8_names s ≡ true → Given (came k) (answer_of_actor s k o)
unfolding Given
actor_given n s k None short v = tt
actor_given n s k (Some a) short v = begun_given n k a (begun_of a k.jobs) (operation_now s a k.jobs) (begun_short_at n k.jobs a short) (served_now s a k.jobs v)

due_given : (n : ℕ) (s : Script) (k : Kept) (x : Answer) → are_short n k.jobs ≡ true → has_utf8_names s ≡ true → due s k ≡ give x → IsGiven (came k) x
unfolding Given
due_given n s k x short v h = let given : due_answer s k ≡ Some x = says_of s k (give x) h in subst (Given (came k)) given (actor_given n s k k.turn.actor short v)

pub gives_short : (n : ℕ) (s : Script) (k : Kept) (x : Answer) → are_short n k.jobs ≡ true → has_utf8_names s ≡ true → due s k ≡ give x → most_of_answer x ≤ 608
gives_short n s k x short v h = (due_given n s k x short v h).short

-- behind an event of the turn, where it gives a channel or a session
pub gives_behind : (n : ℕ) (s : Script) (k : Kept) (x : Answer) (events : ℕ) → are_short n k.jobs ≡ true → has_utf8_names s ≡ true → due s k ≡ give x → IsSince events k → is_holding x ≡ true → events < k.history.events
unfolding came
gives_behind n s k x events short v h t holds = t.came ((due_given n s k x short v h).holds holds)
