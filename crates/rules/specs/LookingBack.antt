-- Notions in words that look back over the lines. What is kept of the lines is proved equal to them, so that nobody has to believe it.
use Rattle.std.specs.Prelude.{ℕ, ◌+◌, ◌%◌, ◌==◌, ◌&&◌, ◌||◌, not, Bool, true, false, nat_lt, if◌then◌else◌, List, [], ◌∷◌, length, filter, find, Option, Some, None, is_some, option_and_then, option_map}
use Rattle.std.specs.List.{list_any}
use Rattle.apdu.specs.Values.{CommandValue}
use Rattle.apdu.specs.Words.{has_value, or_else}
use Rattle.apdu.specs.Apdu.{fetch_ins, is_announcement, is_update_ins}
use Rattle.adn.specs.declared.edit.Edit.{Edit}
use Rattle.adn.specs.declared.edit.RowUpdate.{RowUpdate}
use Rattle.card_model.specs.declared.world.World.{World}
use Rattle.script_reader.specs.declared.types.Script.{Script}
use Rattle.script_reader.specs.declared.types.Operation.{Operation}
use Rattle.script_reader.specs.declared.types.Operation.TheVariants as operation
use Rattle.report.specs.declared.answer.Answer.{Answer}
use Rattle.report.specs.declared.answer.Answer.TheVariants as answer
use Rattle.report.specs.declared.line.Line.{Line}
use Rattle.report.specs.declared.line.Line.TheVariants as line
use Rattle.families.specs.Families.{family_path, family_paths}
use Rattle.link.specs.declared.chain.Chain.{Chain}
use Rattle.link.specs.Commands.{is_at}
use Rattle.epoch_cache.specs.declared.cached.CachedFile.{CachedFile}
use Rattle.loader.specs.declared.reading.RefusedReading.{RefusedReading}
use Rattle.editor.specs.declared.editing.Attempt.{Attempt}
use Rattle.rules.specs.declared.holdings.Handle.{Handle}
use Rattle.rules.specs.declared.kept.Facts.{Facts}
use Rattle.rules.specs.declared.kept.Kept.{Kept}
use Rattle.rules.specs.History.{is_event, is_call, begins_epoch, stops_epoch, is_epoch_border, is_failed_exchange}
use Rattle.epoch_cache.specs.Past.{counted}
use Rattle.epoch_cache.specs.Cache.{is_update, moves_one, renews_one, is_moved, is_unknown_write, is_of}
use Rattle.rules.specs.Standing.{settled_by, refused_in}
use Rattle.rules.specs.Kept.{operation_at, operation_now}
use Rattle.rules.specs.State.{world_of}
use Rattle.rules.specs.Rules.{EditTurn, edit_turn, card_updates}
use Rattle.rules.specs.After.{is_publication, is_mark, is_started, facts_of, family_begun, completed_of, refused_of, jobs_beside, edit_of, decision_at, kept_of}

-- the file that a line makes current
abbrev pub completed_in : Line → Facts → Kept → Option CachedFile
completed_in l facts k = completed_of (is_started k.startup) k.selected (jobs_beside l k.history.epoch facts k.selected k.jobs) facts.answered

-- the reading that a line refuses
abbrev pub refused_in_line : Line → Facts → Kept → Option RefusedReading
refused_in_line l facts k = refused_of k.selected (jobs_beside l k.history.epoch facts k.selected k.jobs) facts.answered

-- ---- events and epochs

abbrev pub event_count : List Line → ℕ
event_count lines = length (filter is_event lines)

-- exchanges and resets, done or failed
abbrev pub call_count : List Line → ℕ
call_count lines = length (filter is_call lines)

-- the insertions and resets so far
abbrev pub epoch_number : List Line → ℕ
epoch_number lines = length (filter begins_epoch lines)

-- the last of insertion, reset, removal, failed exchange and failed reset
abbrev pub last_border : List Line → Option Line
last_border lines = find is_epoch_border lines

-- it is an insertion or a reset
abbrev pub lives : List Line → Bool
lives lines = has_value begins_epoch (last_border lines)

-- it is a failed exchange
abbrev pub is_reset_owed : List Line → Bool
is_reset_owed lines = has_value is_failed_exchange (last_border lines)

-- ---- announcements

-- a FETCH, a status 91XX, or the border of an epoch
abbrev pub is_of_announcement : Line → Bool
is_of_announcement (line.Exchange a c r) = (c.ins == fetch_ins) || is_announcement r.sw
is_of_announcement l = is_epoch_border l

abbrev pub announced_by : Line → Option ℕ
announced_by (line.Exchange a c r) = if c.ins == fetch_ins then None else if is_announcement r.sw then Some (r.sw % 256) else None
announced_by l = None

-- the byte XX of the last status 91XX in the living epoch behind its last FETCH
abbrev pub open_announcement : List Line → Option ℕ
open_announcement lines = option_and_then announced_by (find is_of_announcement lines)

-- ---- publications and turns

abbrev pub publication_count : List Line → ℕ
publication_count lines = length (filter is_publication lines)

abbrev pub mark_count : List Line → ℕ
mark_count lines = length (filter is_mark lines)

-- ---- the board

-- a publication of the family, or of the end of an epoch
abbrev pub is_of_board : ℕ → Line → Bool
is_of_board f (line.Published k g e n text) = g == f
is_of_board f (line.EpochEnd k e n) = true
is_of_board f l = false

abbrev pub shown_by : Line → Option ℕ
shown_by (line.Published k g e n text) = Some k
shown_by l = None

-- the last publication of the family behind the last end of an epoch
abbrev pub board_shows : ℕ → List Line → Option ℕ
board_shows f lines = option_and_then shown_by (find (is_of_board f) lines)

-- ---- wanted and stale families

-- the line begins a load, set or clear of the family
abbrev pub begins_use : Script → ℕ → Line → Bool
begins_use s f l = has_value (λ g. g == f) (family_begun s l)

abbrev pub is_wanted : Script → ℕ → List Line → Bool
is_wanted s f lines = list_any (begins_use s f) lines

-- the line makes the family stale, which is wanted: an epoch begins, an application's UPDATE succeeded, or a FETCH handed over a REFRESH
-- that names one of its files or all
abbrev pub makes_stale : Script → ℕ → Line → List Line → Bool
makes_stale s f l earlier = is_wanted s f earlier && renews_one (facts_of s l (kept_of s earlier)).touch (family_paths f)

-- the point of a publication of the family, or where a reading of it began that the line refused
abbrev pub settles : Script → ℕ → Line → List Line → Option ℕ
settles s f l earlier = settled_by f l (refused_in f (refused_in_line l (facts_of s l (kept_of s earlier)) (kept_of s earlier)))

-- the last event that made the family stale
abbrev pub last_renewal : Script → ℕ → List Line → Option ℕ
last_renewal s f [] = None
last_renewal s f (l ∷ earlier) = if makes_stale s f l earlier then Some (event_count earlier + 1) else last_renewal s f earlier

-- what the lines behind that event settle
abbrev pub settled_since : Script → ℕ → List Line → List (Option ℕ)
settled_since s f [] = []
settled_since s f (l ∷ earlier) = if makes_stale s f l earlier then [] else settles s f l earlier ∷ settled_since s f earlier

-- `points` are publications' points and beginnings of refused readings; one of them is behind event v
abbrev pub is_settled : ℕ → List (Option ℕ) → Bool
is_settled v points = list_any (has_value (nat_lt v)) points

-- since the last event v that made it stale, unless it was published since at a point behind v, or a reading of it was refused that began
-- behind v
abbrev pub stale_since : Script → ℕ → List Line → Option ℕ
stale_since s f lines = option_and_then (λ v. if is_settled v (settled_since s f lines) then None else Some v) (last_renewal s f lines)

-- ---- current paths

-- the line completed a reading of the path
abbrev pub completes : Script → List ℕ → Line → List Line → Bool
completes s path l earlier = has_value (is_of path) (completed_in l (facts_of s l (kept_of s earlier)) (kept_of s earlier))

-- the line ends an epoch, moved the path, or wrote a file that is not known
abbrev pub clears : Script → List ℕ → Line → List Line → Bool
clears s path l earlier = stops_epoch l || (is_moved (facts_of s l (kept_of s earlier)).touch path || is_unknown_write (facts_of s l (kept_of s earlier)).touch.written)

-- a reading of the path was completed, and no line since cleared it
abbrev pub was_completed : Script → List ℕ → List Line → Bool
was_completed s path [] = false
was_completed s path (l ∷ earlier) = completes s path l earlier || (not (clears s path l earlier) && was_completed s path earlier)

-- ---- held channels and sessions

abbrev pub number_and_epoch : Handle → ℕ × ℕ
number_and_epoch h = (h.number, h.epoch)

abbrev pub is_opened : Answer → Bool
is_opened (answer.Opened number) = true
is_opened given = false

-- the answer opens a channel under the reference, or closes it
abbrev pub is_about_handle : ℕ → Answer → Operation → Bool
is_about_handle handle given (operation.OpenChannel h aid) = is_opened given && (h == handle)
is_about_handle handle given (operation.Close h) = h == handle
is_about_handle handle given op = false

abbrev pub is_of_handle : Script → ℕ → ℕ → Line → Bool
is_of_handle s actor handle (line.Answered a i given) = (a == actor) && has_value (is_about_handle handle given) (operation_at s a i)
is_of_handle s actor handle l = false

abbrev pub number_in : Answer → Option ℕ
number_in (answer.Opened number) = Some number
number_in given = None

abbrev pub number_opened : Answer → Operation → Option ℕ
number_opened given (operation.OpenChannel h aid) = number_in given
number_opened given op = None

abbrev pub opened_by : Script → Line → Option ℕ
opened_by s (line.Answered a i given) = option_and_then (number_opened given) (operation_at s a i)
opened_by s l = None

-- the number of the channel that the actor has under the reference, and the epoch in which it was opened: from the answer that it was
-- opened until its close is answered
abbrev pub held_as : Script → ℕ → ℕ → List Line → Option (ℕ × ℕ)
held_as s actor handle [] = None
held_as s actor handle (l ∷ earlier) = if is_of_handle s actor handle l then option_map (λ n. (n, epoch_number earlier)) (opened_by s l) else held_as s actor handle earlier

abbrev pub is_verified : Answer → Bool
is_verified answer.Verified = true
is_verified given = false

-- the answer begins a session of the key, or ends it
abbrev pub is_about_key : ℕ → Answer → Operation → Bool
is_about_key key given (operation.Verify k pin) = is_verified given && (k == key)
is_about_key key given (operation.End k) = k == key
is_about_key key given op = false

abbrev pub is_of_key : Script → ℕ → ℕ → Line → Bool
is_of_key s actor key (line.Answered a i given) = (a == actor) && has_value (is_about_key key given) (operation_at s a i)
is_of_key s actor key l = false

abbrev pub begins_session : Answer → Operation → Bool
begins_session given (operation.Verify k pin) = is_verified given
begins_session given op = false

abbrev pub session_begun : Script → Line → Bool
session_begun s (line.Answered a i given) = has_value (begins_session given) (operation_at s a i)
session_begun s l = false

-- the epoch of the session of the key that the actor has: from the answer that its PIN was verified until the end is answered
abbrev pub session_since : Script → ℕ → ℕ → List Line → Option ℕ
session_since s actor key [] = None
session_since s actor key (l ∷ earlier) = if is_of_key s actor key l then (if session_begun s l then Some (epoch_number earlier) else None) else session_since s actor key earlier

-- ---- what an actor was answered, and had seen

-- the line answers an operation of the actor
abbrev pub answers_of : ℕ → Line → Bool
answers_of actor (line.Answered a i given) = a == actor
answers_of actor l = false

abbrev pub answer_count : ℕ → List Line → ℕ
answer_count actor lines = length (filter (answers_of actor) lines)

-- how many publications there were before the last answer to the actor
abbrev pub seen_before : ℕ → List Line → ℕ
seen_before actor [] = 0
seen_before actor (l ∷ earlier) = if answers_of actor l then publication_count earlier else seen_before actor earlier

-- ---- the attempt of an edit

-- the actor's operation begins, or is answered
abbrev pub is_job_border : ℕ → Line → Bool
is_job_border actor (line.Begin a i) = a == actor
is_job_border actor (line.Answered a i given) = a == actor
is_job_border actor l = false

-- a turn of the actor begins, or its operation does
abbrev pub is_start_of : ℕ → Line → Bool
is_start_of actor (line.Turn a) = a == actor
is_start_of actor (line.Begin a i) = a == actor
is_start_of actor l = false

-- the attempt that begins with the line
abbrev pub attempt_begun : Script → ℕ → Line → List Line → Option Attempt
attempt_begun s actor l earlier = if is_start_of actor l then (decision_at s l (kept_of s earlier)).attempt else None

-- an UPDATE of the actor that is no repetition of the command before it
abbrev pub is_new_update : CommandValue → Option Chain → Bool
is_new_update c None = is_update_ins c.ins
is_new_update c (Some chain) = false

abbrev pub sends_update : Script → ℕ → Line → List Line → Bool
sends_update s actor (line.Exchange a c r) earlier = (a == actor) && is_new_update c (kept_of s earlier).chain
sends_update s actor (line.Failed a c d) earlier = (a == actor) && is_new_update c (kept_of s earlier).chain
sends_update s actor l earlier = false

-- the main file of the family that is edited is current
abbrev pub is_main_current : Option (List ℕ) → Option (ℕ × Edit) → Bool
is_main_current selected None = false
is_main_current selected (Some (f, e)) = is_at selected (family_path f 0)

-- the actor's deciding update succeeded
abbrev pub decides_edit : Script → ℕ → Line → List Line → Bool
decides_edit s actor (line.Exchange a c r) earlier = (a == actor) && (is_update c r && is_main_current (kept_of s earlier).selected (edit_of (operation_now s actor (kept_of s earlier).jobs)))
decides_edit s actor l earlier = false

-- it did since the operation began
abbrev pub was_decided : Script → ℕ → List Line → Bool
was_decided s actor [] = false
was_decided s actor (l ∷ earlier) = not (is_job_border actor l) && (decides_edit s actor l earlier || was_decided s actor earlier)

-- the line moved a path of the attempt
abbrev pub moves_attempt : Script → Line → List Line → Attempt → Bool
moves_attempt s l earlier a = moves_one (facts_of s l (kept_of s earlier)).touch a.paths

-- an attempt goes on, unless one of its paths moved before the deciding success
abbrev pub unless_moved : Bool → (Attempt → Bool) → Option Attempt → Option Attempt
unless_moved decided moves None = None
unless_moved decided moves (Some a) = if moves a && not decided then None else Some a

-- the attempt that the actor's operation began last, unless it was moved
abbrev pub attempt_since : Script → ℕ → List Line → Option Attempt
attempt_since s actor [] = None
attempt_since s actor (l ∷ earlier) =
    if is_job_border actor l then attempt_begun s actor l earlier
    else or_else (attempt_begun s actor l earlier) (unless_moved (was_decided s actor earlier) (moves_attempt s l earlier) (attempt_since s actor earlier))

-- the operation or its last attempt begins with the line
abbrev pub begins_attempt : Script → ℕ → Line → List Line → Bool
begins_attempt s actor l earlier = is_job_border actor l || is_some (attempt_begun s actor l earlier)

-- the updates that the actor sent since
abbrev pub updates_sent : Script → ℕ → List Line → ℕ
updates_sent s actor [] = 0
updates_sent s actor (l ∷ earlier) = if begins_attempt s actor l earlier then 0 else counted (sends_update s actor l earlier) (updates_sent s actor earlier)

-- a path of the attempt moved since
abbrev pub was_moved : Script → ℕ → List Line → Bool
was_moved s actor [] = false
was_moved s actor (l ∷ earlier) = not (begins_attempt s actor l earlier) && (has_value (moves_attempt s l earlier) (attempt_since s actor earlier) || was_moved s actor earlier)

-- ---- the plan of an attempt

abbrev pub turn_updates : World → Option EditTurn → List RowUpdate
turn_updates world None = []
turn_updates world (Some e) = card_updates world e

-- the first update of the actor's attempt
abbrev pub is_first_update : Script → ℕ → Line → List Line → Bool
is_first_update s actor l earlier = sends_update s actor l earlier && (updates_sent s actor earlier == 0)

-- the updates of the plan for the card as it was before the first update of the attempt
abbrev pub updates_planned : Script → ℕ → List Line → List RowUpdate
updates_planned s actor [] = []
updates_planned s actor (l ∷ earlier) = if is_first_update s actor l earlier then turn_updates (world_of s earlier) (edit_turn s (kept_of s earlier)) else updates_planned s actor earlier
