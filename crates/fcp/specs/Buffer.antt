-- The rows of a file one behind another in one list of bytes.
use Rattle.std.specs.Prelude.{◌≡◌, ◌≤◌, ◌<◌, ◌^◌, ◌*◌, ℕ, zero, suc, List, [], ◌∷◌, length, take, drop}
use Rattle.fcp.specs.declared.rows.FileKind.{FileKind}
use Rattle.fcp.specs.declared.rows.FileKind.TheVariants.{Transparent, Linear, Directory}

-- so many rows of that width
abbrev pub rows_of : ℕ → ℕ → List ℕ → List (List ℕ)
rows_of zero width bytes = []
rows_of (suc count) width bytes = take width bytes ∷ rows_of count width (drop width bytes)

-- a transparent file has one row, a linear one at most 255, and no file is a directory
abbrev pub HasShape : FileKind → ℕ → ℕ → Type 0
HasShape Transparent width count = (count ≡ 1) × (width < 2 ^ 16)
HasShape Linear width count = (width ≤ 255) × (count ≤ 255)
HasShape Directory width count = ⊥

-- the bytes are those of so many rows
pub record IsBuffer (kind : FileKind) (width count : ℕ) (bytes : List ℕ) : Type 0 where
  pub shape : HasShape kind width count
  pub whole : length bytes ≡ count * width
