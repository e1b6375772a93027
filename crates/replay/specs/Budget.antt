-- How many events a run may have.
use Rattle.std.specs.Prelude.{ℕ, ◌&&◌, Bool, true, nat_lt, unwrap_or, List, [], ◌∷◌}
use Rattle.script_reader.specs.declared.types.Script.{Script}
use Rattle.report.specs.declared.line.Line.{Line}
use Rattle.report.specs.declared.line.Line.TheVariants as line
use Rattle.rules.specs.declared.kept.Kept.{Kept}
use Rattle.rules.specs.After.{kept_of}

-- the script's limit, or else 20,000,000 events
abbrev pub budget_of : Script → ℕ
budget_of s = unwrap_or s.budget 20000000

-- a turn begins before the budget is spent
abbrev pub begins_within : Script → Kept → Line → Bool
begins_within s k (line.Turn a) = nat_lt k.history.events (budget_of s)
begins_within s k l = true

-- no turn begins with the budget spent; the lines are the newest first
abbrev pub within_budget : Script → List Line → Bool
within_budget s [] = true
within_budget s (l ∷ earlier) = within_budget s earlier && begins_within s (kept_of s earlier) l
