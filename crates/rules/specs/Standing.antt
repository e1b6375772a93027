-- How each family stands: wanted, stale since an event, on the board, or with a reading that was refused.
--
-- Looking back over the lines: a family is wanted from the first line of the first load, set or clear of it on. A wanted family becomes
-- stale at an insertion or a reset, at an application's UPDATE that succeeded, and at a FETCH of a REFRESH of qualifier 00 or 03, or of 01
-- or 02 with a path of the family in its list. It is stale since that event until a publication of it at a later point, or a refused
-- reading of it whose first event is later. The board shows of each family the last publication behind the last end of an epoch.
use Rattle.std.specs.Prelude.{ℕ, ◌==◌, ◌&&◌, ◌||◌, Bool, false, nat_lt, if◌then◌else◌, List, map, find, Option, Some, None, option_map, is_some}
use Rattle.apdu.specs.Words.{has_value}
use Rattle.script_reader.specs.declared.types.Operation.{Operation}
use Rattle.script_reader.specs.declared.types.Operation.TheVariants as operation
use Rattle.report.specs.declared.line.Line.{Line}
use Rattle.report.specs.declared.line.Line.TheVariants as line
use Rattle.families.specs.Families.{family_paths, has_path}
use Rattle.loader.specs.declared.reading.RefusedReading.{RefusedReading}
use Rattle.epoch_cache.specs.declared.cached.Touch.{Touch}
use Rattle.rules.specs.declared.standing.Standing.{Standing}
use Rattle.epoch_cache.specs.Cache.{renews_one}

abbrev pub first_standing : ℕ → Standing
first_standing f = record { family = f; wanted = false; stale = None; renewed = 0; refused = None; shown = None }

-- ---- kinds of operations

-- the family of a load, set or clear
abbrev pub family_wanted : Operation → Option ℕ
family_wanted (operation.Load f) = Some f
family_wanted (operation.Set f at name number) = Some f
family_wanted (operation.Clear f at) = Some f
family_wanted op = None

-- ---- steps

-- the point at which the line shows that the family was looked at: a publication's point, or where a refused reading began
abbrev pub settled_by : ℕ → Line → Option ℕ → Option ℕ
settled_by f (line.Published k g e n text) refused = if g == f then Some n else refused
settled_by f l refused = refused

-- stale since event v, until something later settles it
abbrev pub unless_settled : Option ℕ → Option ℕ → Option ℕ
unless_settled settled None = None
unless_settled settled (Some v) = if has_value (nat_lt v) settled then None else Some v

abbrev pub latest : Option ℕ → Option ℕ → Option ℕ
latest None b = b
latest (Some a) None = Some a
latest (Some a) (Some b) = if nat_lt a b then Some b else Some a

abbrev pub shown_behind : ℕ → Line → Option ℕ → Option ℕ
shown_behind f (line.Published k g e n text) before = if g == f then Some k else before
shown_behind f (line.EpochEnd k e n) before = None
shown_behind f l before = before

-- `event` is the number of the event that the line is, `renews` says that it makes the family stale, `refused` where a reading of the family
-- began that it refused, and `begun` is the family of a load, set or clear that it begins
abbrev pub standing_by : Line → ℕ → Bool → Option ℕ → Option ℕ → Standing → Standing
standing_by l event renews refused begun s = record {
  family = s.family;
  wanted = s.wanted || has_value (λ f. f == s.family) begun;
  stale = if renews then Some event else unless_settled (settled_by s.family l refused) s.stale;
  renewed = if renews then event else s.renewed;
  refused = latest refused s.refused;
  shown = shown_behind s.family l s.shown;
}

abbrev pub refused_in : ℕ → Option RefusedReading → Option ℕ
refused_in f None = None
refused_in f (Some r) = if has_path f r.path then Some r.first_event else None

abbrev pub standing_after : Line → ℕ → Touch → Option RefusedReading → Option ℕ → Standing → Standing
standing_after l event touch refused begun s = standing_by l event (s.wanted && renews_one touch (family_paths s.family)) (refused_in s.family refused) begun s

abbrev pub is_stale : Standing → Bool
is_stale s = is_some s.stale

-- the first stale family
abbrev pub first_stale : List Standing → Option ℕ
first_stale standings = option_map (λ (s : Standing). s.family) (find is_stale standings)

-- the numbers that the board shows
abbrev pub board_of : List Standing → List (Option ℕ)
board_of standings = map (λ (s : Standing). s.shown) standings
