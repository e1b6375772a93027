-- What contracts see of a file that is being read.
use Rattle.std.specs.Prelude.{ℕ, Bool, true, nat_lt, List}
use Rattle.apdu.specs.Words.{is_between}
use Rattle.fcp.specs.declared.control.Fcp.{Fcp}
use Rattle.fcp.specs.declared.rows.FileKind.{FileKind}
use Rattle.fcp.specs.declared.rows.FileKind.TheVariants.{Transparent, Linear, Directory}

pub record ReadingValue : Type 0 where
  pub path : List ℕ
  pub control : Fcp
  -- the rows, or the pieces, that came so far
  pub rows : List (List ℕ)
  -- the first exchange of its SELECT
  pub first_event : ℕ

abbrev pub is_readable_by : FileKind → ℕ → ℕ → Bool
is_readable_by Transparent size width = nat_lt size 32768
is_readable_by Linear size width = is_between 1 255 width
is_readable_by Directory size width = true

-- its READs can be written as commands
abbrev pub is_readable : Fcp → Bool
is_readable f = is_readable_by f.kind f.size f.width

-- what a load job keeps between its turns
pub record JobValue : Type 0 where
  pub paths : List (List ℕ)
  -- the readings under way
  pub readings : List ReadingValue
