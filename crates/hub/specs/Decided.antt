-- What the beginning of a turn, and of an operation, decides.
use Rattle.std.specs.Prelude.{◌≡◌, ℕ, true, Option, Some, None, ⊤}
use Rattle.script_reader.specs.declared.types.Script.{Script}
use Rattle.report.specs.declared.line.Line.{Line}
use Rattle.report.specs.declared.line.Line.TheVariants as line
use Rattle.rules.specs.declared.due.Due.{Due}
use Rattle.rules.specs.declared.due.Due.TheVariants.{Begin as begin}
use Rattle.rules.specs.declared.kept.Decision.{Decision}
use Rattle.rules.specs.declared.kept.Kept.{Kept}
use Rattle.rules.specs.Kept.{begun_of, job_of}
use Rattle.rules.specs.After.{decision_at}
use Rattle.planner.specs.Room.{is_new_attempt}

-- it is what the line decides, and an attempt that it begins is new
pub record IsDecision (s : Script) (l : Line) (k : Kept) (d : Decision) : Type 0 where
  pub value : d ≡ decision_at s l k
  pub new : is_new_attempt d.attempt ≡ true

abbrev pub IsSomeDecision : Script → Line → Kept → Option Decision → Type 0
IsSomeDecision s l k None = ⊥
IsSomeDecision s l k (Some d) = IsDecision s l k d

-- where no operation of the actor is under way, it is what the first line of its next one decides
abbrev pub MayBegin : Script → Kept → ℕ → Option Decision → Type 0
MayBegin s k a d = begun_of a k.jobs ≡ None → IsSomeDecision s (line.Begin a (job_of a k.jobs).answered) k d

-- where this line begins an operation
abbrev pub IsBegun : Script → ℕ → Kept → Due → Option Decision → Type 0
IsBegun s a k (begin i) d = IsSomeDecision s (line.Begin a i) k d
IsBegun s a k l d = ⊤
