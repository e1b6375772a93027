-- A run between two turns: whose turn comes, and how much is left to do.
use Rattle.std.specs.Prelude.{◌≡◌, ◌<◌, ℕ, ◌+◌, ◌*◌, ◌-◌, ◌&&◌, not, Bool, true, false, nat_lt, length, IsSome}
use Rattle.script_reader.specs.declared.types.Script.{Script}
use Rattle.script_reader.specs.Rules.{keeps_rules}
use Rattle.report.specs.declared.line.Mode.TheVariants.{Replay as in_replay}
use Rattle.rules.specs.declared.kept.Kept.{Kept}
use Rattle.rules.specs.After.{kept_of}
use Rattle.rules.specs.Kept.{actor_count}
use Rattle.rules.specs.Work.{is_finished, is_idle}
use Rattle.performed.specs.Placed.{are_placed}
use Rattle.performed.specs.Progress.{operations_left, stale_count}
use Rattle.performed.specs.Laws.{LeavesOpen}
use Rattle.replay.specs.Budget.{budget_of, within_budget}
use Rattle.replay.specs.declared.run.Run.{Run}

-- what is kept of the lines so far
abbrev pub kept_in : Script → Run → Kept
kept_in s r = kept_of s r.hub.lines

-- a run of a script, in the order of its schedule and within its budget
pub record IsUnderWay (s : Script) (r : Run) : Type 0 where
  pub script : r.hub.script ≡ s
  pub budget : r.budget ≡ budget_of s
  pub rules : keeps_rules s ≡ true
  pub whole : r.hub.whole ≡ true
  pub told : IsSome r.hub.world
  pub placed : are_placed s in_replay r.hub.lines ≡ true
  pub within : within_budget s r.hub.lines ≡ true

-- a further turn comes: the run is not finished, and its budget not spent
abbrev pub goes_on : Script → Kept → Bool
goes_on s k = not (is_finished s k) && nat_lt k.history.events (budget_of s)

-- ---- rounds

-- so many turns are those of the schedule and of whole rounds
pub record AreRounds (s : Script) (marks : ℕ) : Type 0 where
  pub rounds : ℕ
  pub count : marks ≡ rounds * (actor_count s + 1) + length s.schedule

-- a further turn would begin a round
abbrev pub BeginsRound : Script → Kept → Type 0
BeginsRound s k = goes_on s k ≡ true → AreRounds s k.marks

-- ---- progress

-- the events and answers that may still come, and the families that are stale, of which an event may make three
abbrev pub work_left : Script → Kept → ℕ
work_left s k = 4 * ((budget_of s - k.history.events) + operations_left s k) + stale_count k.standings

-- the turn of an actor that waits, or has nothing left, leaves open what is open; any other leaves less
abbrev pub AdvancesBy : Bool → Script → Kept → Kept → Type 0
AdvancesBy true s before after = LeavesOpen s before after
AdvancesBy false s before after = work_left s after < work_left s before

-- a turn of the actor was taken
pub record HasTurned (actor : ℕ) (s : Script) (before after : Run) : Type 0 where
  pub under_way : IsUnderWay s after
  pub marks : (kept_in s after).marks ≡ (kept_in s before).marks + 1
  pub advances : AdvancesBy (is_idle s (kept_in s before) actor) s (kept_in s before) (kept_in s after)

-- a round was taken, unless the run ended within it
pub record HasGoneRound (s : Script) (before after : Run) : Type 0 where
  pub under_way : IsUnderWay s after
  pub round : BeginsRound s (kept_in s after)
  pub nearer : work_left s (kept_in s after) < work_left s (kept_in s before)
