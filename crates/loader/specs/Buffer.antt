-- The rows of a reading, one behind another in one list of bytes.
use Rattle.std.specs.Prelude.{◌≡◌, ◌≤◌, ◌+◌, ◌*◌, ℕ, true, min, length}
use Rattle.apdu.specs.Reserved.{Room}
use Rattle.fcp.specs.declared.control.Fcp.{Fcp}
use Rattle.fcp.specs.declared.rows.FileKind.{FileKind}
use Rattle.fcp.specs.declared.rows.FileKind.TheVariants.{Transparent, Linear, Directory}
use Rattle.loader.specs.Values.{is_readable}
use Rattle.loader.specs.Reading.{piece_len, reads_needed}

-- how long a row is; the last piece of a transparent file may be shorter
abbrev pub row_len_by : FileKind → ℕ → ℕ
row_len_by Transparent width = piece_len
row_len_by Linear width = width
row_len_by Directory width = width

abbrev pub row_len : Fcp → ℕ
row_len f = row_len_by f.kind f.width

-- how many bytes so many rows have
abbrev pub len_of_rows_by : FileKind → ℕ → ℕ → ℕ → ℕ
len_of_rows_by Transparent size width count = min (count * piece_len) size
len_of_rows_by Linear size width count = count * width
len_of_rows_by Directory size width count = 0

abbrev pub len_of_rows : Fcp → ℕ → ℕ
len_of_rows f count = len_of_rows_by f.kind f.size f.width count

-- the bytes are those of so many rows, and there is room for all
pub record IsBuffer (f : Fcp) (count : ℕ) (bytes : Room ℕ) : Type 0 where
  pub readable : is_readable f ≡ true
  pub within : count ≤ reads_needed f
  pub whole : length bytes.items ≡ len_of_rows f count
  pub room : len_of_rows f (reads_needed f) ≤ length bytes.items + bytes.spare
