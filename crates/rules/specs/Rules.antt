-- The ten rules. Each is a yes or no of a line and of what stands behind the lines before it. Some are of the turn that ends there: they
-- are tested at the mark that ends it, and at the end of the report.
use Rattle.std.specs.Prelude.{ℕ, suc, ◌+◌, ◌-◌, ◌%◌, ◌==◌, ◌&&◌, ◌||◌, not, Bool, true, false, nat_lt, nat_le, max, if◌then◌else◌, List, [], ◌∷◌, map, length, slice_get, Option, Some, None, option_and_then, is_some, is_none, Result, Ok, Err}
use Rattle.std.specs.List.{list_all}
use Rattle.apdu.specs.Values.{CommandValue, ResponseValue}
use Rattle.apdu.specs.Words.{has_value, same_bytes, same_number}
use Rattle.apdu.specs.Apdu.{same_command, same_response, verify_ins, is_update_ins, is_success}
use Rattle.adn.specs.declared.entry.BookRow.{BookRow}
use Rattle.adn.specs.declared.edit.Edit.{Edit}
use Rattle.adn.specs.declared.edit.RowUpdate.{RowUpdate}
use Rattle.adn.specs.declared.edit.Plan.{Plan}
use Rattle.adn.specs.declared.edit.PlanError.{PlanError}
use Rattle.card_model.specs.declared.world.CardState.{CardState}
use Rattle.card_model.specs.declared.world.ChannelState.{ChannelState}
use Rattle.card_model.specs.declared.world.Fault.{Fault}
use Rattle.card_model.specs.declared.world.World.{World}
use Rattle.card_model.specs.declared.world.WorldEvent.{WorldEvent}
use Rattle.card_model.specs.declared.world.WorldEvent.TheVariants as world_event
use Rattle.card_model.specs.Slot.{fault_at, acted_of}
use Rattle.card_model.specs.Step.{step, card_inside}
use Rattle.script_reader.specs.declared.types.Script.{Script}
use Rattle.script_reader.specs.declared.types.Operation.{Operation}
use Rattle.script_reader.specs.declared.types.Operation.TheVariants as operation
use Rattle.report.specs.Values.{SeenValue}
use Rattle.report.specs.declared.answer.Answer.{Answer}
use Rattle.report.specs.declared.answer.Answer.TheVariants as answer
use Rattle.report.specs.declared.line.Mode.{Mode}
use Rattle.report.specs.declared.line.Mode.TheVariants.{Replay, Run}
use Rattle.report.specs.declared.line.Line.{Line}
use Rattle.report.specs.declared.line.Line.TheVariants as line
use Rattle.families.specs.Plans.{edited, same_book, plan_updates}
use Rattle.families.specs.Families.{family_book, family_path, family_plan}
use Rattle.link.specs.declared.chain.Chain.{Chain}
use Rattle.editor.specs.declared.editing.Attempt.{Attempt}
use Rattle.editor.specs.declared.editing.Decided.{Decided}
use Rattle.rules.specs.declared.kept.Begun.{Begun}
use Rattle.rules.specs.declared.kept.Kept.{Kept}
use Rattle.rules.specs.declared.kept.Turn.{Turn}
use Rattle.rules.specs.declared.standing.Standing.{Standing}
use Rattle.rules.specs.History.{lives_in}
use Rattle.link.specs.Commands.{continued, is_at}
use Rattle.channels.specs.Channels.{same_channels}
use Rattle.rules.specs.Channels.{held_numbers}
use Rattle.rules.specs.Sessions.{lacking_key, verify_command}
use Rattle.editor.specs.Editing.{next_update, update_command, card_need, owed_update, left_rows}
use Rattle.rules.specs.Editing.{family_edit}
use Rattle.rules.specs.Kept.{actor_count, job_of, begun_of, operation_now}
use Rattle.rules.specs.Work.{is_quiet, is_finished, has_operations_left, waits_on}
use Rattle.rules.specs.After.{is_raw}
use Rattle.rules.specs.Due.{due_command, is_reset_due, due_event, due_publication, planning_answer, due_answer, slot_answer}
use Rattle.rules.specs.State.{view_in, shown_in, same_shown, board_after, text_of, State}

-- ---- whose turn it is

abbrev pub is_turn_of : ℕ → Turn → Bool
is_turn_of actor t = same_number t.actor (Some actor)

abbrev pub begun_in_turn : Kept → Option ℕ → Option Begun
begun_in_turn k None = None
begun_in_turn k (Some actor) = begun_of actor k.jobs

abbrev pub operation_in_turn : Script → Kept → Option ℕ → Option Operation
operation_in_turn s k None = None
operation_in_turn s k (Some actor) = operation_now s actor k.jobs

-- the operation of the turn that has begun and is not answered
abbrev pub turn_operation : Script → Kept → Option Operation
turn_operation s k = operation_in_turn s k k.turn.actor

-- ---- 1, responses: at an exchange, done or failed, the slot holds a card; and the response is the one that the card's table gives

abbrev pub is_response_right : World → CommandValue → ResponseValue → Bool
is_response_right world c r = is_some (card_inside world) && same_response r (step world c).1

abbrev pub has_right_response : World → Line → Bool
has_right_response world (line.Exchange a c r) = is_response_right world c r
has_right_response world (line.Failed a c d) = is_some (card_inside world)
has_right_response world l = true

-- ---- 2, snapshots: a publication has the next number, names the epoch that lives and its point, and its text is what the card's files
-- show at that point

abbrev pub is_snapshot_right : World → Kept → ℕ → ℕ → ℕ → ℕ → List ℕ → Bool
is_snapshot_right world k number f epoch point text =
    (number == k.publications + 1) && k.history.living && (epoch == k.history.epoch) && (point == k.history.events) && same_shown (shown_in world f) (Some text)

abbrev pub has_right_snapshot : World → Kept → Line → Bool
has_right_snapshot world k (line.Published number f e n text) = is_snapshot_right world k number f e n text
has_right_snapshot world k l = true

-- ---- 3, edits: outside raw operations an UPDATE stands in the lines of one edit. The updates of an attempt are a front of the plan for
-- the card at its first, in order, one in a turn, and for each the actor holds the session of the key that its file asks for. Behind a
-- deciding success the book is the edited one; behind a deciding update that failed it is one of the two; behind every other update it is
-- the one before. `done` names the deciding success of its own operation and the rows that stay marked, and no update is left to send.

-- what is looked at for an UPDATE: the actor, what its edit edits, and how far it is
pub record EditTurn : Type 0 where
  pub actor : ℕ
  pub family : ℕ
  pub edit : Edit
  pub begun : Begun

abbrev pub edit_turn_by : ℕ → Begun → Option (ℕ × Edit) → Option EditTurn
edit_turn_by actor b None = None
edit_turn_by actor b (Some (f, e)) = Some (record { actor = actor; family = f; edit = e; begun = b })

abbrev pub edit_turn_of : ℕ → Option Begun → Option Operation → Option EditTurn
edit_turn_of actor (Some b) (Some op) = edit_turn_by actor b (family_edit op)
edit_turn_of actor b op = None

abbrev pub edit_turn_at : Script → Kept → Option ℕ → Option EditTurn
edit_turn_at s k None = None
edit_turn_at s k (Some actor) = edit_turn_of actor (begun_of actor k.jobs) (operation_now s actor k.jobs)

-- the edit whose turn it is
abbrev pub edit_turn : Script → Kept → Option EditTurn
edit_turn s k = edit_turn_at s k k.turn.actor

abbrev pub updates_of : Result Plan PlanError → List RowUpdate
updates_of (Err e) = []
updates_of (Ok plan) = plan_updates plan

-- the updates of the plan for the card as it is
abbrev pub card_updates : World → EditTurn → List RowUpdate
card_updates world e = updates_of (family_plan e.family e.edit (view_in world))

-- its first update, where the actor holds the session that its file asks for
abbrev pub allowed_on : Kept → EditTurn → CardState → RowUpdate → Option RowUpdate
allowed_on k e card u = if is_none (lacking_key k.history e.actor k.sessions (card_need card (family_path e.family u.file))) then Some u else None

abbrev pub allowed_in : World → Kept → EditTurn → RowUpdate → Option RowUpdate
allowed_in world k e u = elim (card_inside world) [ None ↦ None | Some card ↦ allowed_on k e card u ]

abbrev pub new_attempt : World → Kept → EditTurn → Option RowUpdate
new_attempt world k e = option_and_then (allowed_in world k e) (slice_get (card_updates world e) 0)

-- before the deciding success: the next update of the attempt under way, or the first of a new attempt
abbrev pub undecided_update : World → Kept → EditTurn → Option Attempt → Option RowUpdate
undecided_update world k e (Some a) = elim (a.sent == 0) [ true ↦ new_attempt world k e | false ↦ next_update a ]
undecided_update world k e None = new_attempt world k e

-- behind the deciding success no attempt begins
abbrev pub ordered_update : World → Kept → EditTurn → Option Decided → Option RowUpdate
ordered_update world k e None = undecided_update world k e e.begun.editing.attempt
ordered_update world k e (Some d) = owed_update true e.begun.editing

-- one in a turn, in the epoch in which the edit began, and where its answer has no cause yet: its plan is not refused, it lacks no session
-- for it, and no command of the turn was refused
abbrev pub may_update : Kept → EditTurn → Bool
may_update k e = lives_in k.history e.begun.epoch && not k.turn.updated && is_none k.turn.outcome && is_none (planning_answer k.turn.work)

abbrev pub same_update : RowUpdate → RowUpdate → Bool
same_update u v = (u.file == v.file) && ((u.row == v.row) && same_bytes u.bytes v.bytes)

abbrev pub same_updates : List RowUpdate → List RowUpdate → Bool
same_updates [] [] = true
same_updates [] (v ∷ vs) = false
same_updates (u ∷ us) [] = false
same_updates (u ∷ us) (v ∷ vs) = same_update u v && same_updates us vs

-- an attempt that has sent nothing yet has the updates of the plan for the card as it is
abbrev pub is_planned_right : World → EditTurn → Option Attempt → Bool
is_planned_right world e None = true
is_planned_right world e (Some a) = elim (a.sent == 0) [ true ↦ same_updates (plan_updates a.plan) (card_updates world e) | false ↦ true ]

abbrev pub is_next_update : World → Kept → EditTurn → CommandValue → Bool
is_next_update world k e c = has_value (λ u. same_command c (update_command u)) (ordered_update world k e e.begun.editing.decided)

abbrev pub is_ordered : World → Kept → EditTurn → CommandValue → Bool
is_ordered world k e c = may_update k e && (is_planned_right world e e.begun.editing.attempt && is_next_update world k e c)

abbrev pub book_in : World → ℕ → List BookRow
book_in world f = family_book f (view_in world)

abbrev pub is_book_kept : World → World → ℕ → Bool
is_book_kept world behind f = same_book (book_in behind f) (book_in world f)

abbrev pub is_book_edited : World → World → EditTurn → Bool
is_book_edited world behind e = same_book (book_in behind e.family) (edited (book_in world e.family) e.edit)

-- the update is of the main file, which the deciding one alone is
abbrev pub is_deciding : Kept → EditTurn → Bool
is_deciding k e = is_at k.selected (family_path e.family 0)

abbrev pub is_book_right : World → Kept → EditTurn → CommandValue → ResponseValue → Bool
is_book_right world k e c r = elim (is_deciding k e && is_success r.sw) [
  | true ↦ is_book_edited world (step world c).0 e
  | false ↦ is_book_kept world (step world c).0 e.family
]

abbrev pub world_failed : World → CommandValue → Bool → World
world_failed world c true = (step world c).0
world_failed world c false = world

-- the answer was lost
abbrev pub is_lost_book_right : World → World → Kept → EditTurn → Bool
is_lost_book_right world behind k e = is_book_kept world behind e.family || (is_deciding k e && is_book_edited world behind e)

-- a further exchange of a command is tested by its book alone
abbrev pub is_sent_right : World → Kept → EditTurn → CommandValue → Option Chain → Bool
is_sent_right world k e c None = is_ordered world k e c
is_sent_right world k e c (Some chain) = true

abbrev pub is_outside_raw : Script → Kept → CommandValue → Bool
is_outside_raw s k c = is_update_ins c.ins && not (has_value is_raw (turn_operation s k))

abbrev pub is_update_right : Script → World → Kept → CommandValue → ResponseValue → Bool
is_update_right s world k c r = elim (edit_turn s k) [ None ↦ false | Some e ↦ is_sent_right world k e c (continued c k.chain) && is_book_right world k e c r ]

abbrev pub is_lost_update_right : Script → World → World → Kept → CommandValue → Bool
is_lost_update_right s world behind k c = elim (edit_turn s k) [ None ↦ false | Some e ↦ is_sent_right world k e c (continued c k.chain) && is_lost_book_right world behind k e ]

abbrev pub is_done_by : Kept → ℕ → List ℕ → Begun → Option Decided → Bool
is_done_by k n left b None = false
is_done_by k n left b (Some d) = (d.event == n) && same_bytes left (left_rows b.editing d) && is_none (owed_update (lives_in k.history b.epoch) b.editing)

abbrev pub is_done_right : Kept → ℕ → ℕ → ℕ → List ℕ → EditTurn → Bool
is_done_right k a i n left e = (e.actor == a) && (e.begun.index == i) && is_done_by k n left e.begun e.begun.editing.decided

abbrev pub has_right_edit : Script → World → Kept → Line → Bool
has_right_edit s world k (line.Exchange a c r) = elim (is_outside_raw s k c) [ true ↦ is_update_right s world k c r | false ↦ true ]
has_right_edit s world k (line.Failed a c d) = elim (is_outside_raw s k c) [ true ↦ is_lost_update_right s world (world_failed world c d) k c | false ↦ true ]
has_right_edit s world k (line.Answered a i (answer.Done n published left)) = has_value (is_done_right k a i n left) (edit_turn s k)
has_right_edit s world k l = true

-- ---- 4, channels: at the end of a turn, while an epoch lives, the card's open channels are the basic one and those held

abbrev pub open_numbers : CardState → List ℕ
open_numbers card = map (λ (c : ChannelState). c.number) card.channels

abbrev pub are_channels_right : World → Kept → Bool
are_channels_right world k = elim k.history.living [
  | false ↦ true
  | true ↦ has_value (λ card. same_channels (open_numbers card) (held_numbers k.history k.handles)) (card_inside world)
]

-- ---- 5, rest: at the end of a turn, where nothing is open, the board shows of each family what the card shows, or a reading of the
-- family was refused that began behind the last event that made it stale or changed what the card shows of it

-- `changed` gives the last event that changed what the card shows of a family
abbrev pub is_refusal_known : (ℕ → ℕ) → Standing → Bool
is_refusal_known changed s = has_value (nat_lt (max s.renewed (changed s.family))) s.refused

-- `text` gives the text of a publication
abbrev pub is_shown_right : World → (ℕ → List ℕ) → (ℕ → ℕ) → Standing → Option ℕ → Bool
is_shown_right world text changed s None = true
is_shown_right world text changed s (Some n) = elim (same_shown (shown_in world s.family) (Some (text n))) [ true ↦ true | false ↦ is_refusal_known changed s ]

abbrev pub is_standing_right : World → (ℕ → List ℕ) → (ℕ → ℕ) → Standing → Bool
is_standing_right world text changed s = is_shown_right world text changed s s.shown

abbrev pub is_rest_right : State → (ℕ → ℕ) → Bool
is_rest_right st changed = elim (is_quiet st.kept) [
  | false ↦ true
  | true ↦ list_all (is_standing_right st.world (λ n. text_of st.kept.publications n st.texts) changed) st.kept.standings
]

-- ---- 6, answers: each answer has its cause, and stands in the earliest turn of its actor in which it has; so does each line of a refusal

abbrev pub optional_number : Option ℕ → ℕ
optional_number None = 0
optional_number (Some n) = suc n

abbrev pub flag : Bool → ℕ
flag false = 0
flag true = 1

-- an answer as numbers, so that two are compared
abbrev pub answer_code : Answer → List ℕ
answer_code answer.Moved = 0 ∷ []
answer_code answer.SlotFull = 1 ∷ []
answer_code answer.SlotEmpty = 2 ∷ []
answer_code answer.ArmFull = 3 ∷ []
answer_code answer.Absent = 4 ∷ []
answer_code (answer.EpochEnded e n unsure) = 5 ∷ e ∷ n ∷ flag unsure ∷ []
answer_code (answer.Status sw n) = 6 ∷ sw.0 ∷ n ∷ []
answer_code (answer.Loop n) = 7 ∷ n ∷ []
answer_code (answer.BadFcp n) = 8 ∷ n ∷ []
answer_code (answer.Loaded k) = 9 ∷ k ∷ []
answer_code (answer.Done n k left) = 10 ∷ n ∷ optional_number k ∷ left
answer_code (answer.NeedsPin key) = 11 ∷ key ∷ []
answer_code (answer.BadFile width) = 12 ∷ width ∷ []
answer_code (answer.NoRecord at) = 13 ∷ at ∷ []
answer_code (answer.Full count) = 14 ∷ count ∷ []
answer_code (answer.NotWritable found) = 15 ∷ found ∷ []
answer_code (answer.NameTooLong need room) = 16 ∷ need ∷ room ∷ []
answer_code (answer.BadDigit at) = 17 ∷ at ∷ []
answer_code (answer.NumberTooLong count) = 18 ∷ count ∷ []
answer_code (answer.ExtFull count) = 19 ∷ count ∷ []
answer_code (answer.Opened channel) = 20 ∷ channel ∷ []
answer_code (answer.Exhausted n) = 21 ∷ n ∷ []
answer_code (answer.Raw r) = 22 ∷ r.sw ∷ r.body
answer_code (answer.RawRefused ins) = 23 ∷ ins ∷ []
answer_code (answer.NotHeldRef handle) = 24 ∷ handle ∷ []
answer_code (answer.NotHeldKey key) = 25 ∷ key ∷ []
answer_code answer.Closed = 26 ∷ []
answer_code answer.Verified = 27 ∷ []
answer_code answer.Ended = 28 ∷ []
answer_code answer.Polled = 29 ∷ []
answer_code (answer.Look seen) = 30 ∷ seen.count ∷ map optional_number seen.shown
answer_code answer.Watching = 31 ∷ []
answer_code (answer.Notices dropped numbers) = 32 ∷ dropped ∷ numbers.items

abbrev pub same_answer : Answer → Answer → Bool
same_answer a b = same_bytes (answer_code a) (answer_code b)

-- a look may show an earlier board; what it shows is tested with the turns
abbrev pub is_look : Answer → Bool
is_look (answer.Look seen) = true
is_look a = false

abbrev pub is_answer_among : Answer → Option Answer → Bool
is_answer_among given due = has_value (λ a. same_answer given a || (is_look given && is_look a)) due

abbrev pub is_begun_at : ℕ → Option Begun → Bool
is_begun_at i b = has_value (λ (x : Begun). x.index == i) b

abbrev pub is_answer_right : Script → World → Kept → ℕ → ℕ → Answer → Bool
is_answer_right s world k a i given =
    is_turn_of a k.turn && is_begun_at i (begun_of a k.jobs) && (is_answer_among given (due_answer s k) || is_answer_among given (slot_answer world k))

abbrev pub is_refusal_right : Kept → ℕ → ℕ → Bool
is_refusal_right k f n = is_turn_of 0 k.turn && has_value (λ (told : ℕ × ℕ). (told.0 == f) && (told.1 == n)) k.turn.refused

abbrev pub has_right_answer : Script → World → Kept → Line → Bool
has_right_answer s world k (line.Answered a i given) = is_answer_right s world k a i given
has_right_answer s world k (line.Refused f n) = is_refusal_right k f n
has_right_answer s world k l = true

-- the turn lacks no answer, and no line of a refusal
abbrev pub are_answers_given : Script → World → Kept → Bool
are_answers_given s world k = is_none (due_answer s k) && is_none (slot_answer world k) && is_none k.turn.refused

-- ---- 7, verifications: each VERIFY stands in the lines of a verify operation, at most one in each, and is its command

abbrev pub is_verify_of : Option Operation → CommandValue → Bool
is_verify_of (Some (operation.Verify key pin)) c = same_command c (verify_command key pin)
is_verify_of op c = false

abbrev pub has_verified : Option Begun → Bool
has_verified b = has_value (λ (x : Begun). x.verified) b

abbrev pub is_verify_right : Script → Kept → CommandValue → Bool
is_verify_right s k c = elim (c.ins == verify_ins) [ false ↦ true | true ↦ is_verify_of (turn_operation s k) c && not (has_verified (begun_in_turn k k.turn.actor)) ]

abbrev pub has_right_verify : Script → Kept → Line → Bool
has_right_verify s k (line.Exchange a c r) = is_verify_right s k c
has_right_verify s k (line.Failed a c d) = is_verify_right s k c
has_right_verify s k l = true

-- ---- 8, turns: whose they are, what they send, publish and begin, and what a look shows

abbrev pub scheduled_or : Option ℕ → ℕ → ℕ
scheduled_or (Some actor) round = actor
scheduled_or None round = round

-- whose turn comes behind so many turns: the schedule's, and then round from the framework to the last actor
abbrev pub scheduled_actor : Script → ℕ → ℕ
scheduled_actor s n = scheduled_or (slice_get s.schedule n) ((n - length s.schedule) % (actor_count s + 1))

abbrev pub is_actor_right : Script → Mode → ℕ → Kept → Bool
is_actor_right s Replay a k = a == scheduled_actor s k.marks
is_actor_right s Run a k = nat_le a (actor_count s)

-- in mode replay a turn without lines stands exactly where its actor waits or has nothing left, and in mode run nowhere
abbrev pub is_bare_turn_right : Mode → Turn → Bool
is_bare_turn_right Replay t = t.idle
is_bare_turn_right Run t = false

-- nothing that the turn has to do is left undone
abbrev pub is_turn_done : World → Kept → Bool
is_turn_done world k = is_none (due_command k) && not (is_reset_due k) && is_none (due_event world k) && is_none (due_publication k)

-- the turn that ends here; before the first mark there is none
abbrev pub is_turn_right : Mode → World → Kept → Bool
is_turn_right m world k = elim (is_none k.turn.actor) [
  | true ↦ true
  | false ↦ elim k.turn.bare [ true ↦ is_bare_turn_right m k.turn | false ↦ is_turn_done world k ]
]

-- no turn begins where the run is finished
abbrev pub is_mark_right : Script → Mode → World → Kept → ℕ → Bool
is_mark_right s m world k a = not (is_finished s k) && is_actor_right s m a k && is_turn_right m world k

-- operations begin in order, one at a time, directly behind the mark, and where they do not wait
abbrev pub is_begin_right : Script → Kept → ℕ → ℕ → Bool
is_begin_right s k a i =
    k.turn.bare && is_turn_of a k.turn && nat_lt 0 a && is_none (begun_of a k.jobs)
    && (i == (job_of a k.jobs).answered) && has_operations_left s k a && is_none (waits_on s k a)

abbrev pub is_command_right : Kept → ℕ → CommandValue → Bool
is_command_right k a c = is_turn_of a k.turn && has_value (same_command c) (due_command k)

abbrev pub is_reset_right : Kept → ℕ → Bool
is_reset_right k a = (a == 0) && is_turn_of 0 k.turn && is_reset_due k

abbrev pub same_event : WorldEvent → WorldEvent → Bool
same_event (world_event.Arm i) (world_event.Arm j) = i == j
same_event world_event.Out world_event.Out = true
same_event (world_event.Insert i) (world_event.Insert j) = i == j
same_event a b = false

abbrev pub is_event_right : World → Kept → ℕ → WorldEvent → Bool
is_event_right world k a e = is_turn_of a k.turn && has_value (same_event e) (due_event world k)

-- a look shows the board as it was behind at least the publications before the actor's last answer
abbrev pub is_count_right : Mode → Kept → ℕ → ℕ → Bool
is_count_right Replay k a m = m == k.publications
is_count_right Run k a m = nat_le (job_of a k.jobs).seen m && nat_le m k.publications

abbrev pub same_board : List (Option ℕ) → List (Option ℕ) → Bool
same_board a b = same_bytes (map optional_number a) (map optional_number b)

abbrev pub is_look_right : Mode → State → ℕ → SeenValue → Bool
is_look_right m st a seen = is_count_right m st.kept a seen.count && same_board seen.shown (board_after st.kept.publications seen.count st.boards)

abbrev pub has_right_place : Script → Mode → State → Line → Bool
has_right_place s m st (line.Turn a) = is_mark_right s m st.world st.kept a
has_right_place s m st (line.Begin a i) = is_begin_right s st.kept a i
has_right_place s m st (line.Exchange a c r) = is_command_right st.kept a c
has_right_place s m st (line.Failed a c d) = is_command_right st.kept a c
has_right_place s m st (line.Reset a) = is_reset_right st.kept a
has_right_place s m st (line.ResetFailed a) = is_reset_right st.kept a
has_right_place s m st (line.World a e) = is_event_right st.world st.kept a e
has_right_place s m st (line.Published number f e n text) = same_number (due_publication st.kept) (Some f)
has_right_place s m st (line.Answered a i (answer.Look seen)) = is_look_right m st a seen
has_right_place s m st l = true

-- ---- 9, the end: every operation is answered, and nothing is open. This is `is_finished`.

-- ---- 10, faults: counted over exchanges and resets, a call fails exactly where its number is in the fault list or the slot is empty, and
-- the card acted as the fault says. Each event that ends an epoch has one line that publishes it, in its turn, and there is no other.

abbrev pub next_fault : Script → Kept → Option Fault
next_fault s k = fault_at (k.history.calls + 1) s.faults

abbrev pub is_failing : Script → World → Kept → Bool
is_failing s world k = is_some (next_fault s k) || is_none (card_inside world)

-- on an empty slot no card acts
abbrev pub is_acting : Script → World → Kept → Bool
is_acting s world k = acted_of (next_fault s k) && is_some (card_inside world)

abbrev pub same_flag : Bool → Bool → Bool
same_flag true b = b
same_flag false b = not b

abbrev pub is_end_right : Kept → ℕ → ℕ → ℕ → Bool
is_end_right k number epoch event = (number == k.publications + 1) && has_value (λ (ended : ℕ × ℕ). (ended.0 == epoch) && (ended.1 == event)) k.turn.ended

abbrev pub has_right_fault : Script → World → Kept → Line → Bool
has_right_fault s world k (line.Exchange a c r) = not (is_failing s world k)
has_right_fault s world k (line.Failed a c d) = is_failing s world k && same_flag d (is_acting s world k)
has_right_fault s world k (line.Reset a) = not (is_failing s world k)
has_right_fault s world k (line.ResetFailed a) = is_failing s world k
has_right_fault s world k (line.EpochEnd number e n) = is_end_right k number e n
has_right_fault s world k l = true

-- the turn has published the end of an epoch that it brought
abbrev pub is_end_published : Turn → Bool
is_end_published t = is_none t.ended
