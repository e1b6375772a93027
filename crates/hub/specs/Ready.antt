-- The family that a turn publishes before any event of its own.
use Rattle.std.specs.Prelude.{ℕ, zero, suc, if◌then◌else◌, Option, Some, None, option_and_then}
use Rattle.script_reader.specs.declared.types.Script.{Script}
use Rattle.families.specs.Families.{family_paths}
use Rattle.epoch_cache.specs.Cache.{all_current}
use Rattle.rules.specs.declared.kept.Begun.{Begun}
use Rattle.rules.specs.declared.kept.Kept.{Kept}
use Rattle.rules.specs.Kept.{begun_of, job_of, operation_at}
use Rattle.rules.specs.After.{family_at, family_of_begun, fresh_begun}

-- the family of an operation that begins
abbrev pub family_anew : Script → Kept → ℕ → ℕ → Option ℕ
family_anew s k a i = family_of_begun k (Some (fresh_begun i k.history)) (operation_at s a i)

-- of the operation that is under way, or of the one that begins
abbrev pub family_by : Script → Kept → ℕ → Option Begun → Option ℕ
family_by s k a (Some b) = family_at s a k
family_by s k a None = family_anew s k a (job_of a k.jobs).answered

abbrev pub family_next : Script → Kept → ℕ → Option ℕ
family_next s k zero = family_at s zero k
family_next s k (suc a) = family_by s k (suc a) (begun_of (suc a) k.jobs)

abbrev pub if_current : Kept → ℕ → Option ℕ
if_current k f = if all_current k.files (family_paths f) then Some f else None

-- where all files of it are current
abbrev pub family_ready : Script → Kept → ℕ → Option ℕ
family_ready s k a = option_and_then (if_current k) (family_next s k a)
