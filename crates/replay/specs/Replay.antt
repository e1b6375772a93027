-- What the replay of a script gives.
use Rattle.std.specs.Prelude.{◌≡◌, ◌≤◌, ℕ, true, false, List}
use Rattle.script_reader.specs.declared.types.Script.{Script}
use Rattle.report.specs.declared.line.Mode.TheVariants.{Replay}
use Rattle.report.specs.declared.line.Line.{Line}
use Rattle.report.specs.declared.lines.Report.{Report}
use Rattle.rules.specs.After.{kept_of}
use Rattle.rules.specs.Due.{due}
use Rattle.rules.specs.Legal.{are_legal_lines, legal}
use Rattle.rules.specs.Performed.{ends_turn}
use Rattle.rules.specs.Work.{is_finished}
use Rattle.performed.specs.Followed.{are_followed}
use Rattle.replay.specs.Budget.{budget_of, within_budget}
use Rattle.replay.specs.declared.run.Replayed.{Replayed}
use Rattle.replay.specs.declared.run.Replayed.TheVariants.{Finished, Spent}

-- a legal report of mode replay; no turn of it began with the budget spent
pub record IsReplay (r : Report) : Type 0 where
  pub mode : r.mode ≡ Replay
  pub legal : legal r ≡ true
  pub within : within_budget r.script r.lines ≡ true

-- whole turns of a run that is not finished, each begun before the budget was spent, which it is by so many events
pub record IsSpentRun (s : Script) (lines : List Line) (n : ℕ) : Type 0 where
  pub followed : are_followed s lines ≡ true
  pub whole : ends_turn (due s (kept_of s lines)) ≡ true
  pub legal : are_legal_lines s Replay lines ≡ true
  pub unfinished : is_finished s (kept_of s lines) ≡ false
  pub within : within_budget s lines ≡ true
  pub events : n ≡ (kept_of s lines).history.events
  pub spent : budget_of s ≤ n

-- there is such a run of the script
pub record IsSpent (s : Script) (events : ℕ) : Type 0 where
  pub lines : List Line
  pub run : IsSpentRun s lines events

-- how the replay of a script ends
abbrev pub IsReplayed : Script → Replayed → Type 0
IsReplayed s (Finished r) = (r.script ≡ s) × IsReplay r
IsReplayed s (Spent events) = IsSpent s events
