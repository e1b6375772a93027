-- What fits into commands, lines and counters of the edits that are under way.
use Rattle.std.specs.Prelude.{ℕ, ◌&&◌, Bool, true, nat_le, List, Option, Some, None}
use Rattle.std.specs.List.{list_all}
use Rattle.families.specs.Plans.{plan_updates}
use Rattle.editor.specs.declared.editing.Attempt.{Attempt}
use Rattle.editor.specs.declared.editing.Editing.{Editing}
use Rattle.rules.specs.declared.kept.Begun.{Begun}
use Rattle.rules.specs.declared.kept.Job.{Job}
use Rattle.planner.specs.Room.{is_short}

-- its updates fit into commands, and at most so many were sent
abbrev pub is_short_attempt : ℕ → Option Attempt → Bool
is_short_attempt n None = true
is_short_attempt n (Some a) = list_all is_short (plan_updates a.plan) && nat_le a.sent n

-- the number of a row is a byte
abbrev pub is_row_number : ℕ → Bool
is_row_number row = nat_le row 255

-- so have the rows that it marked
abbrev pub is_short_editing : ℕ → Editing → Bool
is_short_editing n e = is_short_attempt n e.attempt && list_all is_row_number e.marked

abbrev pub is_short_begun : ℕ → Option Begun → Bool
is_short_begun n None = true
is_short_begun n (Some b) = is_short_editing n b.editing

abbrev pub is_short_job : ℕ → Job → Bool
is_short_job n job = is_short_begun n job.begun

-- of every actor
abbrev pub are_short : ℕ → List Job → Bool
are_short n jobs = list_all (is_short_job n) jobs
