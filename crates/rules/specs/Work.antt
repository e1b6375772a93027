-- What is open, who waits, and what a turn has to do, as its beginning decides it.
use Rattle.std.specs.Prelude.{ℕ, zero, suc, ◌+◌, ◌==◌, ◌&&◌, ◌||◌, not, Bool, true, false, nat_lt, if◌then◌else◌, List, [], ◌∷◌, length, Option, Some, None, is_some, is_none, Ok, Err}
use Rattle.std.specs.List.{list_any}
use Rattle.apdu.specs.Values.{CommandValue}
use Rattle.apdu.specs.Words.{has_value}
use Rattle.apdu.specs.Apdu.{command, with_class, status_ins}
use Rattle.card_model.specs.declared.world.WorldEvent.TheVariants as world_event
use Rattle.script_reader.specs.declared.types.Script.{Script}
use Rattle.script_reader.specs.declared.types.Operation.{Operation}
use Rattle.script_reader.specs.declared.types.Operation.TheVariants as operation
use Rattle.adn.specs.declared.edit.Edit.{Edit}
use Rattle.adn.specs.declared.edit.Plan.{Plan}
use Rattle.families.specs.Plans.{plan_updates}
use Rattle.families.specs.Families.{family_paths, family_plan}
use Rattle.editor.specs.declared.editing.Attempt.{Attempt}
use Rattle.editor.specs.declared.editing.Editing.{Editing}
use Rattle.epoch_cache.specs.declared.cached.CachedFile.{CachedFile}
use Rattle.rules.specs.declared.holdings.Handle.{Handle}
use Rattle.rules.specs.declared.kept.Begun.{Begun}
use Rattle.rules.specs.declared.kept.Decision.{Decision}
use Rattle.rules.specs.declared.kept.Job.{Job}
use Rattle.rules.specs.declared.kept.Kept.{Kept}
use Rattle.rules.specs.declared.kept.Work.{Work}
use Rattle.rules.specs.declared.kept.Work.TheVariants.{Rests as rests, Refuses as refuses, Lacks as lacks, Sends as sends, Reads as reads, Writes as writes, Resets as resets, Happens as happens}
use Rattle.rules.specs.History.{lives_in}
use Rattle.epoch_cache.specs.Cache.{first_missing, view_of_files}
use Rattle.channels.specs.Channels.{on_channel, open_command, close_command}
use Rattle.rules.specs.Channels.{handle_of, is_living_handle, is_raw_ins}
use Rattle.rules.specs.Sessions.{verify_command}
use Rattle.refresher.specs.Refresh.{startup_steps, startup_command, fetch_command}
use Rattle.editor.specs.Editing.{planned, next_update, edit_paths, owed_update}
use Rattle.rules.specs.Editing.{family_edit, first_lack}
use Rattle.rules.specs.Standing.{first_stale}
use Rattle.rules.specs.Kept.{operations_of, job_of, begun_of, operation_now, next_operation}

-- ---- open work

abbrev pub is_starting : Kept → Bool
is_starting k = k.history.living && nat_lt k.startup startup_steps

-- the framework has something to do in the living epoch
abbrev pub has_work_alive : Kept → Bool
has_work_alive k = is_starting k || is_some k.owed || is_some k.history.announced || is_some (first_stale k.standings)

-- the framework has something to do
abbrev pub has_work : Kept → Bool
has_work k = k.history.owes_reset || (k.history.living && has_work_alive k)

abbrev pub has_operations_left : Script → Kept → ℕ → Bool
has_operations_left s k actor = nat_lt (job_of actor k.jobs).answered (length (operations_of s actor))

abbrev pub has_begun : Job → Bool
has_begun job = is_some job.begun

-- the first actor that passes the test, of those behind the first i; actors are numbered from 1
abbrev pub first_actor : (ℕ → Bool) → ℕ → List (List Operation) → Option ℕ
first_actor test i [] = None
first_actor test i (ops ∷ rest) = elim (test (i + 1)) [ true ↦ Some (i + 1) | false ↦ first_actor test (i + 1) rest ]

-- every operation is answered
abbrev pub all_answered : Script → Kept → Bool
all_answered s k = is_none (first_actor (has_operations_left s k) 0 s.actors)

-- nothing is open
abbrev pub is_quiet : Kept → Bool
is_quiet k = not (list_any has_begun k.jobs) && not (has_work k)

-- every operation is answered, and nothing is open
abbrev pub is_finished : Script → Kept → Bool
is_finished s k = all_answered s k && not (has_work k)

-- ---- who waits, and for whom

-- the operations that wait for the start-up of the card, and are absent without one
abbrev pub needs_card : Operation → Bool
needs_card (operation.Load f) = true
needs_card (operation.Set f at name number) = true
needs_card (operation.Clear f at) = true
needs_card (operation.OpenChannel handle aid) = true
needs_card (operation.Verify key pin) = true
needs_card operation.Poll = true
needs_card op = false

abbrev pub is_edit_of : ℕ → Operation → Bool
is_edit_of f op = has_value (λ (e : ℕ × Edit). e.0 == f) (family_edit op)

abbrev pub edits_family : Script → Kept → ℕ → ℕ → Bool
edits_family s k f actor = has_value (is_edit_of f) (operation_now s actor k.jobs)

-- the actor that has an edit of the same family under way
abbrev pub edited_by : Script → Kept → Operation → Option ℕ
edited_by s k op = elim (family_edit op) [ None ↦ None | Some e ↦ first_actor (edits_family s k e.0) 0 s.actors ]

-- whom an operation waits for that would begin: the framework, which starts the card up, or another's edit
abbrev pub operation_waits_on : Script → Kept → Operation → Option ℕ
operation_waits_on s k op =
    if not k.history.living then None
    else if needs_card op && is_starting k then Some 0
    else edited_by s k op

abbrev pub next_waits_on : Script → Kept → ℕ → Option ℕ
next_waits_on s k actor = elim (next_operation s actor k.jobs) [ None ↦ None | Some op ↦ operation_waits_on s k op ]

-- whom a turn of the actor would wait for. The framework without work waits for the lowest actor that has operations left
abbrev pub waits_on : Script → Kept → ℕ → Option ℕ
waits_on s k zero = if has_work k then None else first_actor (has_operations_left s k) 0 s.actors
waits_on s k (suc a) = if is_some (begun_of (suc a) k.jobs) then None else next_waits_on s k (suc a)

-- a turn of the actor would find nothing left
abbrev pub has_ended : Script → Kept → ℕ → Bool
has_ended s k zero = is_finished s k
has_ended s k (suc a) = not (has_operations_left s k (suc a))

-- a turn of the actor would wait, or find nothing left
abbrev pub is_idle : Script → Kept → ℕ → Bool
is_idle s k actor = has_ended s k actor || is_some (waits_on s k actor)

-- ---- what a turn of an edit does

-- no attempt begins
abbrev pub decides : Work → Decision
decides work = record { work = work; attempt = None }

abbrev pub reads_first : List CachedFile → List (List ℕ) → Work
reads_first files paths = elim (first_missing files paths) [ None ↦ rests | Some path ↦ reads path ]

-- the first key that an update of the plan asks for and the actor lacks, or else an attempt
abbrev pub begins_plan : Kept → ℕ → ℕ → Plan → List (List ℕ) → Decision
begins_plan k actor f plan paths = elim (first_lack k.history actor k.sessions k.files f (plan_updates plan)) [
  | Some key ↦ decides (lacks key)
  | None ↦ record { work = writes; attempt = Some (planned f plan paths) }
]

-- the plan for the files as they are kept, or its refusal
abbrev pub plans : Kept → ℕ → ℕ → Edit → List (List ℕ) → Decision
plans k actor f e paths = elim (family_plan f e (view_of_files k.files)) [
  | Err refusal ↦ decides (refuses refusal)
  | Ok plan ↦ begins_plan k actor f plan paths
]

abbrev pub goes_on : Attempt → Work
goes_on a = if is_some (next_update a) then writes else rests

abbrev pub attempts : Kept → ℕ → ℕ → Edit → Option Attempt → List (List ℕ) → Decision
attempts k actor f e (Some a) paths = decides (goes_on a)
attempts k actor f e None paths = plans k actor f e paths

-- before the deciding success: read until every path of the edit is current, then write the plan's rows
abbrev pub undecided_work : Kept → ℕ → ℕ → Edit → Option Attempt → Decision
undecided_work k actor f e a = elim (first_missing k.files (edit_paths k.files f)) [
  | Some path ↦ decides (reads path)
  | None ↦ attempts k actor f e a (edit_paths k.files f)
]

-- behind it: the update that is still to be sent, or else the family's files
abbrev pub decided_work : Kept → ℕ → Editing → Work
decided_work k f editing = if is_some (owed_update true editing) then writes else reads_first k.files (family_paths f)

-- in the epoch in which the edit began
abbrev pub edit_work : Kept → ℕ → ℕ → Edit → Editing → Decision
edit_work k actor f e editing = elim editing.decided [
  | None ↦ undecided_work k actor f e editing.attempt
  | Some d ↦ decides (decided_work k f editing)
]

-- decided, and no update of it is left to send
abbrev pub is_edit_over : Editing → Bool
is_edit_over editing = is_some editing.decided && is_none (owed_update true editing)

-- ---- what a turn of an operation does

abbrev pub status_command : CommandValue
status_command = with_class 0x80 (command status_ins 0x00 0x0C [] None)

abbrev pub if_living : Kept → Begun → Work → Work
if_living k b work = if lives_in k.history b.epoch then work else rests

abbrev pub living_handle : Kept → Option Handle → Option Handle
living_handle k None = None
living_handle k (Some h) = if is_living_handle k.history h then Some h else None

abbrev pub sends_raw : CommandValue → Option Handle → Work
sends_raw c None = rests
sends_raw c (Some h) = if is_raw_ins c.ins then sends (on_channel h.number c) else rests

abbrev pub sends_close : Option Handle → Work
sends_close None = rests
sends_close (Some h) = sends (close_command h.number)

abbrev pub work_of_edit : Kept → ℕ → Begun → Option (ℕ × Edit) → Decision
work_of_edit k actor b None = decides rests
work_of_edit k actor b (Some (f, e)) = elim (lives_in k.history b.epoch) [ true ↦ edit_work k actor f e b.editing | false ↦ decides rests ]

abbrev pub work_of_operation : Kept → ℕ → Begun → Operation → Decision
work_of_operation k actor b (operation.Insert card) = decides (happens (world_event.Insert card))
work_of_operation k actor b operation.Out = decides (happens world_event.Out)
work_of_operation k actor b (operation.Arm change) = decides (happens (world_event.Arm change))
work_of_operation k actor b (operation.Load f) = decides (if_living k b (reads_first k.files (family_paths f)))
work_of_operation k actor b (operation.OpenChannel handle aid) = decides (if_living k b (sends open_command))
work_of_operation k actor b (operation.Raw handle apdu) = decides (sends_raw apdu (living_handle k (handle_of actor handle k.handles)))
work_of_operation k actor b (operation.Close handle) = decides (sends_close (living_handle k (handle_of actor handle k.handles)))
work_of_operation k actor b (operation.Verify key pin) = decides (if_living k b (sends (verify_command key pin)))
work_of_operation k actor b operation.Poll = decides (if_living k b (sends status_command))
work_of_operation k actor b (operation.End key) = decides rests
work_of_operation k actor b operation.Look = decides rests
work_of_operation k actor b (operation.Watch mask) = decides rests
work_of_operation k actor b operation.Notices = decides rests
work_of_operation k actor b op = work_of_edit k actor b (family_edit op)

abbrev pub family_of_edit : Begun → Option (ℕ × Edit) → Option ℕ
family_of_edit b None = None
family_of_edit b (Some (f, e)) = if is_edit_over b.editing then Some f else None

abbrev pub family_of_operation : Begun → Operation → Option ℕ
family_of_operation b (operation.Load f) = Some f
family_of_operation b op = family_of_edit b (family_edit op)

-- the family of a load, or of a finished edit, in the epoch in which it began
abbrev pub family_published : Kept → Begun → Operation → Option ℕ
family_published k b op = if lives_in k.history b.epoch then family_of_operation b op else None

-- ---- what a turn of the framework does: the first open item

abbrev pub read_stale : Kept → Work
read_stale k = elim (first_stale k.standings) [ Some f ↦ reads_first k.files (family_paths f) | None ↦ rests ]

abbrev pub first_item : Kept → Work
first_item k =
    if is_starting k then sends (startup_command k.startup)
    else elim k.owed [
      | Some c ↦ sends c
      | None ↦ elim k.history.announced [
        | Some byte ↦ sends (fetch_command byte)
        | None ↦ read_stale k
      ]
    ]

abbrev pub framework_work : Kept → Work
framework_work k = if k.history.owes_reset then resets else elim k.history.living [ true ↦ first_item k | false ↦ rests ]

-- the family that it reads: the first stale one, where nothing else is open
abbrev pub family_read : Kept → Option ℕ
family_read k =
    if k.history.owes_reset || not k.history.living || is_starting k || is_some k.owed || is_some k.history.announced then None
    else first_stale k.standings
