-- The line that is due next.
--
-- A turn does all that it can do: it sends each command that is due in it, and makes the publication, the refusal's line and the answer
-- that are due in it. An operation begins directly behind the mark; the end of an epoch is published behind the event that brought it;
-- a publication stands before the answer that names it; nothing of an operation follows its answer.
use Rattle.std.specs.Prelude.{ℕ, zero, suc, ◌==◌, ◌&&◌, Bool, true, false, if◌then◌else◌, List, Option, Some, None, option_map, option_and_then, is_some, is_none}
use Rattle.apdu.specs.Values.{CommandValue}
use Rattle.apdu.specs.Words.{or_else}
use Rattle.card_model.specs.declared.world.World.{World}
use Rattle.card_model.specs.declared.world.WorldEvent.{WorldEvent}
use Rattle.card_model.specs.declared.slot.WorldRefusal.{WorldRefusal}
use Rattle.card_model.specs.declared.slot.WorldRefusal.TheVariants as refusal
use Rattle.card_model.specs.Slot.{refusal_of}
use Rattle.script_reader.specs.declared.types.Script.{Script}
use Rattle.script_reader.specs.declared.types.Operation.{Operation}
use Rattle.script_reader.specs.declared.types.Operation.TheVariants as operation
use Rattle.report.specs.Values.{SeenValue}
use Rattle.report.specs.declared.answer.Answer.{Answer}
use Rattle.report.specs.declared.answer.Answer.TheVariants as answer
use Rattle.adn.specs.declared.edit.PlanError.{PlanError}
use Rattle.adn.specs.declared.edit.PlanError.TheVariants as plan_error
use Rattle.families.specs.Families.{family_paths, family_path, shown}
use Rattle.link.specs.declared.chain.Chain.{Chain}
use Rattle.rules.specs.declared.due.Due.{Due}
use Rattle.rules.specs.declared.due.Due.TheVariants.{TellEnd as tell_end, Send as send, ResetCard as reset_card, TryEvent as try_event, TellRefusal as tell_refusal, Publish as publish, Give as give, Begin as begin, WaitFor as wait_for, EndOfActor as end_of_actor, Rest as rest}
use Rattle.editor.specs.declared.editing.Attempt.{Attempt}
use Rattle.editor.specs.declared.editing.Decided.{Decided}
use Rattle.rules.specs.declared.holdings.Handle.{Handle}
use Rattle.rules.specs.declared.kept.Begun.{Begun}
use Rattle.rules.specs.declared.kept.Job.{Job}
use Rattle.rules.specs.declared.kept.Kept.{Kept}
use Rattle.rules.specs.declared.kept.Outcome.{Outcome}
use Rattle.rules.specs.declared.kept.Outcome.TheVariants as outcome
use Rattle.rules.specs.declared.kept.Stage.{Stage}
use Rattle.rules.specs.declared.kept.Stage.TheVariants.{Fresh as fresh, Next as next, Resetting as resetting, Over as over}
use Rattle.rules.specs.declared.kept.Turn.{Turn}
use Rattle.rules.specs.declared.kept.Work.{Work}
use Rattle.rules.specs.declared.kept.Work.TheVariants.{Refuses as refuses, Lacks as lacks, Sends as sends, Reads as reads, Writes as writes, Resets as resets, Happens as happens}
use Rattle.epoch_cache.specs.Cache.{all_current, view_of_files}
use Rattle.loader.specs.Reading.{reading_of}
use Rattle.loader.specs.Load.{selected_first, reading_command}
use Rattle.rules.specs.Channels.{handle_of, is_raw_ins}
use Rattle.rules.specs.Sessions.{has_session}
use Rattle.rules.specs.Watching.{notices_of}
use Rattle.editor.specs.Editing.{next_update, update_command, left_rows}
use Rattle.rules.specs.Editing.{attempt_of}
use Rattle.rules.specs.Standing.{board_of}
use Rattle.rules.specs.Kept.{job_of, begun_of, operation_now}
use Rattle.rules.specs.Work.{waits_on, has_ended}

-- ---- commands, resets and events of the world

-- the next update of an attempt
abbrev pub writing_command : Option (List ℕ) → Option Attempt → Option CommandValue
writing_command selected None = None
writing_command selected (Some a) = option_map (λ u. selected_first selected (family_path a.family u.file) (update_command u)) (next_update a)

-- the first command of a turn
abbrev pub first_command : Option (List ℕ) → Job → Work → Option CommandValue
first_command selected job (sends c) = Some c
first_command selected job (reads path) = Some (reading_command selected path (reading_of path job.readings))
first_command selected job writes = writing_command selected (attempt_of job.begun)
first_command selected job work = None

abbrev pub first_of_turn : Option (List ℕ) → List Job → Work → Option ℕ → Option CommandValue
first_of_turn selected jobs work None = None
first_of_turn selected jobs work (Some actor) = first_command selected (job_of actor jobs) work

abbrev pub command_by_stage : Kept → Stage → Option CommandValue
command_by_stage k fresh = first_of_turn k.selected k.jobs k.turn.work k.turn.actor
command_by_stage k (next c) = Some c
command_by_stage k resetting = None
command_by_stage k over = None

-- behind a response 61XX or 6CXX comes what follows it
abbrev pub command_by_chain : Kept → Option Chain → Option CommandValue
command_by_chain k (Some chain) = Some chain.next
command_by_chain k None = command_by_stage k k.turn.stage

abbrev pub due_command : Kept → Option CommandValue
due_command k = command_by_chain k k.chain

abbrev pub is_resetting : Work → Bool
is_resetting resets = true
is_resetting work = false

abbrev pub reset_by_stage : Work → Stage → Bool
reset_by_stage work fresh = is_resetting work
reset_by_stage work (next c) = false
reset_by_stage work resetting = true
reset_by_stage work over = false

abbrev pub is_reset_due : Kept → Bool
is_reset_due k = reset_by_stage k.turn.work k.turn.stage

abbrev pub event_of : Work → Option WorldEvent
event_of (happens e) = Some e
event_of work = None

abbrev pub event_by_stage : Work → Stage → Option WorldEvent
event_by_stage work fresh = event_of work
event_by_stage work stage = None

-- the event of the world that is tried next
abbrev pub tried_event : Kept → Option WorldEvent
tried_event k = event_by_stage k.turn.work k.turn.stage

-- ---- publications

abbrev pub published_by : Kept → ℕ → Option ℕ
published_by k f = if is_none k.turn.published && all_current k.files (family_paths f) then Some f else None

-- the family whose publication is due
abbrev pub due_publication : Kept → Option ℕ
due_publication k = option_and_then (published_by k) k.turn.family

-- the text that is published
abbrev pub kept_text : ℕ → Kept → List ℕ
kept_text f k = shown f (view_of_files k.files)

-- ---- answers

-- what the commands of the turn came to, as an answer
abbrev pub answer_of_outcome : Outcome → Answer
answer_of_outcome (outcome.Status sw n) = answer.Status sw n
answer_of_outcome (outcome.Loop n) = answer.Loop n
answer_of_outcome (outcome.BadFcp n) = answer.BadFcp n
answer_of_outcome (outcome.Opened channel) = answer.Opened channel
answer_of_outcome (outcome.Exhausted n) = answer.Exhausted n
answer_of_outcome (outcome.Raw response) = answer.Raw response
answer_of_outcome outcome.Closed = answer.Closed
answer_of_outcome outcome.Verified = answer.Verified
answer_of_outcome outcome.Polled = answer.Polled

abbrev pub outcome_answer : Turn → Option Answer
outcome_answer t = option_map answer_of_outcome t.outcome

-- absent without a card at the first line; then the end of the epoch that lived there; then what else there is
abbrev pub with_ended : ℕ → Option ℕ → Bool → Option Answer → Option Answer
with_ended epoch None unsure other = other
with_ended epoch (Some n) unsure other = Some (answer.EpochEnded epoch n unsure)

-- the event was the edit's own deciding UPDATE
abbrev pub is_lost : Option ℕ → Option ℕ → Bool
is_lost (Some n) (Some m) = n == m
is_lost ended lost = false

abbrev pub with_card : Option ℕ → Begun → Option Answer → Option Answer
with_card None b other = Some answer.Absent
with_card (Some epoch) b other = with_ended epoch b.ended (is_lost b.ended b.editing.lost) other

-- behind the publication of its family
abbrev pub loaded : Option ℕ → Option Answer
loaded published = option_map (λ k. answer.Loaded k) published

-- behind the deciding success: the publication of the end of its epoch; or, in a turn that begins with no update left to send, that of
-- its family, or none where its reading was refused
abbrev pub done_in_turn : Option ℕ → Option Outcome → Option (Option ℕ)
done_in_turn (Some k) came = Some (Some k)
done_in_turn None came = option_map (λ (o : Outcome). None) came

abbrev pub done_publication : Begun → Turn → Option (Option ℕ)
done_publication b t = elim b.told [
  | Some k ↦ Some (Some k)
  | None ↦ if is_some t.family then done_in_turn t.published t.outcome else None
]

abbrev pub decided_answer : Begun → Decided → Turn → Option Answer
decided_answer b d t = option_map (λ k. answer.Done d.event k (left_rows b.editing d)) (done_publication b t)

abbrev pub plan_refusal : PlanError → Answer
plan_refusal (plan_error.BadFile width) = answer.BadFile width
plan_refusal (plan_error.NoRecord at) = answer.NoRecord at
plan_refusal (plan_error.Full count) = answer.Full count
plan_refusal (plan_error.NotWritable found) = answer.NotWritable found
plan_refusal (plan_error.NameTooLong need room) = answer.NameTooLong need room
plan_refusal (plan_error.BadDigit at) = answer.BadDigit at
plan_refusal (plan_error.NumberTooLong count) = answer.NumberTooLong count
plan_refusal (plan_error.ExtFull count) = answer.ExtFull count
-- definitions refuse no memory, so this comes of no plan
plan_refusal plan_error.Memory = answer.NotWritable 0

-- a plan's refusal, or the key whose session it needs
abbrev pub planning_answer : Work → Option Answer
planning_answer (refuses refused) = Some (plan_refusal refused)
planning_answer (lacks key) = Some (answer.NeedsPin key)
planning_answer work = None

abbrev pub edit_answer : Begun → Turn → Option Decided → Option Answer
edit_answer b t (Some d) = decided_answer b d t
edit_answer b t None = with_card b.epoch b (or_else (outcome_answer t) (planning_answer t.work))

-- not held, refused, the end of the handle's epoch, and then what the command gave
abbrev pub on_handle : ℕ → Option Handle → Option Answer → Option Answer
on_handle handle None other = Some (answer.NotHeldRef handle)
on_handle handle (Some h) other = with_ended h.epoch h.ended false other

abbrev pub raw_on_handle : ℕ → Option Handle → ℕ → Option Answer → Option Answer
raw_on_handle handle None ins other = Some (answer.NotHeldRef handle)
raw_on_handle handle (Some h) ins other = if is_raw_ins ins then with_ended h.epoch h.ended false other else Some (answer.RawRefused ins)

-- what a look at the board shows behind all publications
abbrev pub seen_now : Kept → SeenValue
seen_now k = record { count = k.publications; shown = board_of k.standings }

abbrev pub answer_of : Kept → ℕ → Job → Begun → Operation → Option Answer
answer_of k actor job b (operation.Insert card) = if k.turn.happened then Some answer.Moved else None
answer_of k actor job b operation.Out = if k.turn.happened then Some answer.Moved else None
answer_of k actor job b (operation.Arm change) = if k.turn.happened then Some answer.Moved else None
answer_of k actor job b (operation.Load f) = with_card b.epoch b (or_else (loaded k.turn.published) (outcome_answer k.turn))
answer_of k actor job b (operation.OpenChannel handle aid) = with_card b.epoch b (outcome_answer k.turn)
answer_of k actor job b (operation.Raw handle apdu) = raw_on_handle handle (handle_of actor handle k.handles) apdu.ins (outcome_answer k.turn)
answer_of k actor job b (operation.Close handle) = on_handle handle (handle_of actor handle k.handles) (outcome_answer k.turn)
answer_of k actor job b (operation.Verify key pin) = with_card b.epoch b (outcome_answer k.turn)
answer_of k actor job b operation.Poll = with_card b.epoch b (outcome_answer k.turn)
answer_of k actor job b (operation.End key) = if has_session actor key k.sessions then Some answer.Ended else Some (answer.NotHeldKey key)
answer_of k actor job b operation.Look = Some (answer.Look (seen_now k))
answer_of k actor job b (operation.Watch mask) = Some answer.Watching
answer_of k actor job b operation.Notices = Some (notices_of job.mailbox)
answer_of k actor job b op = edit_answer b k.turn b.editing.decided

abbrev pub answer_of_begun : Kept → ℕ → Option Begun → Option Operation → Option Answer
answer_of_begun k actor (Some b) (Some op) = answer_of k actor (job_of actor k.jobs) b op
answer_of_begun k actor b op = None

abbrev pub answer_of_actor : Script → Kept → Option ℕ → Option Answer
answer_of_actor s k None = None
answer_of_actor s k (Some actor) = answer_of_begun k actor (begun_of actor k.jobs) (operation_now s actor k.jobs)

-- the answer that the lines so far give cause for
abbrev pub due_answer : Script → Kept → Option Answer
due_answer s k = answer_of_actor s k k.turn.actor

-- ---- the refusal of an event by the slot

abbrev pub answer_of_refusal : WorldRefusal → Option Answer
answer_of_refusal refusal.SlotEmpty = Some answer.SlotEmpty
answer_of_refusal refusal.SlotFull = Some answer.SlotFull
answer_of_refusal refusal.ArmFull = Some answer.ArmFull
answer_of_refusal (refusal.NoImage j) = None
answer_of_refusal (refusal.NoChange i) = None

abbrev pub slot_answer_by : World → Option WorldEvent → Option Answer
slot_answer_by world None = None
slot_answer_by world (Some e) = option_and_then answer_of_refusal (refusal_of world e)

-- the answer that the slot gives to the event that is tried
abbrev pub slot_answer : World → Kept → Option Answer
slot_answer world k = slot_answer_by world (tried_event k)

abbrev pub event_by : World → Option WorldEvent → Option WorldEvent
event_by world None = None
event_by world (Some e) = if is_some (refusal_of world e) then None else Some e

-- the event of the world that is due
abbrev pub due_event : World → Kept → Option WorldEvent
due_event world k = event_by world (tried_event k)

-- ---- the next line

abbrev pub begin_or_rest : Script → Kept → ℕ → Due
begin_or_rest s k zero = rest
begin_or_rest s k (suc a) = if is_none (begun_of (suc a) k.jobs) then begin (job_of (suc a) k.jobs).answered else rest

-- directly behind a mark
abbrev pub due_at_mark : Script → Kept → ℕ → Due
due_at_mark s k actor = elim (has_ended s k actor) [
  | true ↦ end_of_actor
  | false ↦ elim (waits_on s k actor) [ Some b ↦ wait_for b | None ↦ begin_or_rest s k actor ]
]

abbrev pub due_of_actor : Script → Kept → Option ℕ → Due
due_of_actor s k None = rest
due_of_actor s k (Some actor) = elim k.turn.bare [ true ↦ due_at_mark s k actor | false ↦ rest ]

abbrev pub due_by_answer : Script → Kept → Option Answer → Due
due_by_answer s k (Some given) = give given
due_by_answer s k None = due_of_actor s k k.turn.actor

abbrev pub due_by_publication : Script → Kept → Option ℕ → Due
due_by_publication s k (Some f) = publish f
due_by_publication s k None = due_by_answer s k (due_answer s k)

abbrev pub due_by_refusal : Script → Kept → Option (ℕ × ℕ) → Due
due_by_refusal s k (Some (f, n)) = tell_refusal f n
due_by_refusal s k None = due_by_publication s k (due_publication k)

abbrev pub due_by_event : Script → Kept → Option WorldEvent → Due
due_by_event s k (Some e) = try_event e
due_by_event s k None = due_by_refusal s k k.turn.refused

abbrev pub due_by_reset : Script → Kept → Bool → Due
due_by_reset s k true = reset_card
due_by_reset s k false = due_by_event s k (tried_event k)

abbrev pub due_by_command : Script → Kept → Option CommandValue → Due
due_by_command s k (Some c) = send c
due_by_command s k None = due_by_reset s k (is_reset_due k)

abbrev pub due_by_end : Script → Kept → Option (ℕ × ℕ) → Due
due_by_end s k (Some (epoch, event)) = tell_end epoch event
due_by_end s k None = due_by_command s k (due_command k)

-- what the turn does next
abbrev pub due : Script → Kept → Due
due s k = due_by_end s k k.turn.ended
