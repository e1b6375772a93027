-- What a run has still to do.
use Rattle.std.specs.Prelude.{◌≡◌, ◌≤◌, ◌<◌, ◌⊎◌, ℕ, suc, ◌+◌, ◌-◌, List, [], ◌∷◌, length}
use Rattle.script_reader.specs.declared.types.Script.{Script}
use Rattle.script_reader.specs.declared.types.Operation.{Operation}
use Rattle.rules.specs.declared.kept.Job.{Job}
use Rattle.rules.specs.declared.kept.Kept.{Kept}
use Rattle.rules.specs.declared.standing.Standing.{Standing}
use Rattle.rules.specs.Kept.{job_of}
use Rattle.rules.specs.Standing.{is_stale}
use Rattle.performed.specs.Measure.{one_if}

-- how many operations of these actors, of which the first has this number, are not answered
abbrev pub unanswered : ℕ → List (List Operation) → List Job → ℕ
unanswered actor [] jobs = 0
unanswered actor (ops ∷ rest) jobs = (length ops - (job_of actor jobs).answered) + unanswered (suc actor) rest jobs

abbrev pub operations_left : Script → Kept → ℕ
operations_left s k = unanswered 1 s.actors k.jobs

-- how many families are stale
abbrev pub stale_count : List Standing → ℕ
stale_count [] = 0
stale_count (s ∷ rest) = one_if (is_stale s) + stale_count rest

-- between the two an event was added, an operation answered, or a family published that was stale
pub record Moves (s : Script) (before after : Kept) : Type 0 where
  pub events : before.history.events ≤ after.history.events
  pub operations : operations_left s after ≤ operations_left s before
  pub stale : before.history.events ≡ after.history.events → stale_count after.standings ≤ stale_count before.standings
  pub moved : (before.history.events < after.history.events) ⊎ ((operations_left s after < operations_left s before) ⊎ (stale_count after.standings < stale_count before.standings))
