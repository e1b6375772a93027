-- Laws of runs whose each line is the one that is due.
use Rattle.std.specs.Prelude.{◌≡◌, ◌≤◌, ℕ, ◌+◌, ◌==◌, ◌&&◌, ◌++◌, if◌then◌else◌, not, Bool, true, false, nat_lt, nat_le, List, [], ◌∷◌, length, Option, Some, None, is_some}
use Rattle.std.specs.List.{list_all}
use Rattle.script_reader.specs.declared.types.Script.{Script}
use Rattle.script_reader.specs.Rules.{keeps_rules}
use Rattle.report.specs.declared.answer.Answer.TheVariants as answer
use Rattle.report.specs.declared.line.Mode.{Mode}
use Rattle.report.specs.declared.line.Line.{Line}
use Rattle.report.specs.declared.line.Line.TheVariants as line
use Rattle.report.specs.declared.lines.Report.{Report}
use Rattle.watchers.specs.declared.mailbox.Mailbox.{Mailbox}
use Rattle.rules.specs.declared.holdings.Handle.{Handle}
use Rattle.rules.specs.declared.kept.Job.{Job}
use Rattle.rules.specs.declared.kept.Kept.{Kept}
use Rattle.rules.specs.History.{ends_epoch}
use Rattle.rules.specs.Work.{is_finished, is_idle}
use Rattle.rules.specs.After.{is_mark, kept_after, kept_of}
use Rattle.rules.specs.Due.{due}
use Rattle.rules.specs.Kept.{actor_count}
use Rattle.rules.specs.Legal.{are_legal_lines, legal}
use Rattle.rules.specs.Performed.{ends_turn, are_due}
use Rattle.performed.specs.Names.{has_utf8_names}
use Rattle.performed.specs.Followed.{are_followed}
use Rattle.performed.specs.Told.{are_told}
use Rattle.performed.specs.Placed.{are_placed, is_turn_allowed}
use Rattle.performed.specs.Measure.{one_if, steps_left}
use Rattle.performed.specs.Progress.{operations_left, Moves}

-- ---- legality

-- lines that are due, that show what the slot gave, and whose turns are those of the mode, break no rule
abbrev pub LinesAreLegal : Type 0
LinesAreLegal = (s : Script) (m : Mode) (lines : List Line) → keeps_rules s ≡ true → has_utf8_names s ≡ true → are_followed s lines ≡ true → are_told s lines ≡ true → are_placed s m lines ≡ true → are_legal_lines s m lines ≡ true

-- and neither does their end, where the run is finished and nothing is due in its last turn
abbrev pub RunIsLegal : Type 0
RunIsLegal = (r : Report) → keeps_rules r.script ≡ true → has_utf8_names r.script ≡ true → are_followed r.script r.lines ≡ true → are_told r.script r.lines ≡ true → are_placed r.script r.mode r.lines ≡ true → is_turn_allowed r.mode (kept_of r.script r.lines).turn ≡ true → ends_turn (due r.script (kept_of r.script r.lines)) ≡ true → is_finished r.script (kept_of r.script r.lines) ≡ true → legal r ≡ true

-- each of them is what is due, with its numbers and its text
abbrev pub LinesArePerformed : Type 0
LinesArePerformed = (s : Script) (lines : List Line) → are_followed s lines ≡ true → are_told s lines ≡ true → are_due s lines ≡ true

-- ---- turns end

-- each line that is due within a turn leaves fewer steps in it
abbrev pub TurnsEnd : Type 0
TurnsEnd = (s : Script) (lines : List Line) (l : Line) → are_followed s (l ∷ lines) ≡ true → is_mark l ≡ false → nat_lt (steps_left (kept_of s (l ∷ lines))) (steps_left (kept_of s lines)) ≡ true

-- ---- turns move

-- a turn that neither waits nor finds nothing left has something to do, where the lines show what the slot gave: an attempt of an edit has
-- an update to send only as long as a card answers it
abbrev pub MarksMove : Type 0
MarksMove = (s : Script) (lines : List Line) (a : ℕ) → keeps_rules s ≡ true → has_utf8_names s ≡ true → are_followed s (line.Turn a ∷ lines) ≡ true → are_told s lines ≡ true → is_idle s (kept_of s lines) a ≡ false → ends_turn (due s (kept_of s (line.Turn a ∷ lines))) ≡ false

-- so has one that begins an operation, also behind its first line
abbrev pub BeginsMove : Type 0
BeginsMove = (s : Script) (lines : List Line) (a i : ℕ) → has_utf8_names s ≡ true → are_followed s (line.Begin a i ∷ lines) ≡ true → ends_turn (due s (kept_of s (line.Begin a i ∷ lines))) ≡ false

-- an actor whose turn would move
pub record IsAwake (s : Script) (k : Kept) : Type 0 where
  pub actor : ℕ
  pub valid : actor ≤ actor_count s
  pub moves : is_idle s k actor ≡ false

-- while the run is not finished, there is one
abbrev pub SomebodyMoves : Type 0
SomebodyMoves = (s : Script) (lines : List Line) → has_utf8_names s ≡ true → are_followed s lines ≡ true → is_finished s (kept_of s lines) ≡ false → IsAwake s (kept_of s lines)

-- a mark leaves open what is open
pub record LeavesOpen (s : Script) (before after : Kept) : Type 0 where
  pub events : after.history.events ≡ before.history.events
  pub operations : operations_left s after ≡ operations_left s before
  pub stale : after.standings ≡ before.standings
  pub finished : is_finished s after ≡ is_finished s before
  pub idle : (actor : ℕ) → is_idle s after actor ≡ is_idle s before actor

abbrev pub MarksLeaveOpen : Type 0
MarksLeaveOpen = (s : Script) (k : Kept) (a : ℕ) → LeavesOpen s k (kept_after s (line.Turn a) k)

-- a whole turn that neither waits nor finds nothing left: it adds an event, answers an operation, or publishes what was stale
abbrev pub has_no_mark : List Line → Bool
has_no_mark lines = list_all (λ l. not (is_mark l)) lines

abbrev pub TurnsMove : Type 0
TurnsMove = (s : Script) (earlier added : List Line) (a : ℕ) → keeps_rules s ≡ true → has_utf8_names s ≡ true → are_followed s (added ++ line.Turn a ∷ earlier) ≡ true → are_told s earlier ≡ true → has_no_mark added ≡ true → is_idle s (kept_of s earlier) a ≡ false → ends_turn (due s (kept_of s (added ++ line.Turn a ∷ earlier))) ≡ true → Moves s (kept_of s earlier) (kept_of s (added ++ line.Turn a ∷ earlier))

-- nobody's turn would move once it is
abbrev pub NobodyMoves : Type 0
NobodyMoves = (s : Script) (k : Kept) (a : ℕ) → a ≤ actor_count s → is_finished s k ≡ true → is_idle s k a ≡ true

-- ---- epochs end

-- how many ends of epochs the lines tell
abbrev pub tells_end : Line → Bool
tells_end (line.EpochEnd k e n) = true
tells_end l = false

abbrev pub ends_told : List Line → ℕ
ends_told [] = 0
ends_told (l ∷ earlier) = one_if (tells_end l) + ends_told earlier

-- and how many events of them ended an epoch that lived
abbrev pub ends_happened : Script → List Line → ℕ
ends_happened s [] = 0
ends_happened s (l ∷ earlier) = one_if (ends_epoch l (kept_of s earlier).history) + ends_happened s earlier

-- each is told once, in its turn: while a turn has one to tell, that one is missing
abbrev pub EndsAreTold : Type 0
EndsAreTold = (s : Script) (lines : List Line) → are_followed s lines ≡ true → ends_told lines + one_if (is_some (kept_of s lines).turn.ended) ≡ ends_happened s lines

-- the event that ended the epoch of this number
abbrev pub ended_at : Script → ℕ → List Line → Option ℕ
ended_at s e [] = None
ended_at s e (l ∷ earlier) = if ends_epoch l (kept_of s earlier).history && ((kept_of s earlier).history.epoch == e) then Some ((kept_of s earlier).history.events + 1) else ended_at s e earlier

-- an answer that an epoch ended names the event that ended it
abbrev pub EndsAreNamed : Type 0
EndsAreNamed = (s : Script) (lines : List Line) (a i e n : ℕ) (unsure : Bool) → are_followed s (line.Answered a i (answer.EpochEnded e n unsure) ∷ lines) ≡ true → ended_at s e lines ≡ Some n

-- ---- what is kept

-- the counters are at most as many as the lines, and an actor's answers as its operations
pub record AreCounted (n : ℕ) (k : Kept) : Type 0 where
  pub events : k.history.events ≤ n
  pub calls : k.history.calls ≤ n
  pub epoch : k.history.epoch ≤ n
  pub publications : k.publications ≤ n
  pub marks : k.marks ≤ n

abbrev pub KeepsCounts : Type 0
KeepsCounts = (s : Script) (lines : List Line) → AreCounted (length lines) (kept_of s lines)

-- a mailbox dropped at most so many notices
abbrev pub DropsAtMost : ℕ → Option Mailbox → Type 0
DropsAtMost n None = Unit {0}
DropsAtMost n (Some m) = m.dropped ≤ n

-- an actor dropped no more notices than there were publications, and has answered at most 1000 operations
pub record IsPlainJob (publications : ℕ) (job : Job) : Type 0 where
  pub answered : job.answered ≤ 1000
  pub mailbox : DropsAtMost publications job.mailbox

abbrev pub ArePlainJobs : ℕ → List Job → Type 0
ArePlainJobs publications [] = Unit {0}
ArePlainJobs publications (job ∷ jobs) = IsPlainJob publications job × ArePlainJobs publications jobs

-- the number of a channel that it holds is that of a logical channel beside the basic one, ETSI TS 102 221 clause 8.7
abbrev pub is_channel : Handle → Bool
is_channel h = nat_le 1 h.number && nat_le h.number 19

pub record IsPlain (k : Kept) : Type 0 where
  pub jobs : ArePlainJobs k.publications k.jobs
  pub handles : list_all is_channel k.handles ≡ true

abbrev pub StaysPlain : Type 0
StaysPlain = (s : Script) (lines : List Line) → keeps_rules s ≡ true → are_followed s lines ≡ true → IsPlain (kept_of s lines)
