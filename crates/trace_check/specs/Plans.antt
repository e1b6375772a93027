-- The updates of two plans.
use Rattle.std.specs.Prelude.{ℕ, ◌&&◌, Bool, true, false, slice_get, Option, Some, None}
use Rattle.adn.specs.declared.edit.RowUpdate.{RowUpdate}
use Rattle.adn.specs.declared.edit.Plan.{Plan}
use Rattle.families.specs.Plans.{plan_updates}
use Rattle.rules.specs.Rules.{same_update as same_updates_of}

abbrev pub same_update : Option RowUpdate → Option RowUpdate → Bool
same_update None None = true
same_update None (Some b) = false
same_update (Some a) None = false
same_update (Some a) (Some b) = same_updates_of a b

abbrev pub same_at : ℕ → Plan → Plan → Bool
same_at n a b = same_update (slice_get (plan_updates a) n) (slice_get (plan_updates b) n)

-- a plan has at most three updates
abbrev pub same_plan : Plan → Plan → Bool
same_plan a b = same_at 0 a b && same_at 1 a b && same_at 2 a b
