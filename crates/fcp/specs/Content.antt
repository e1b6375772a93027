-- What a file of a card holds, ETSI TS 102 221 clause 8.2.2.
use Rattle.std.specs.Prelude.{◌≡◌, ◌≤◌, ◌<◌, ◌^◌, ℕ, ◌==◌, Bool, true, false, List, [], ◌∷◌, length, slice_set, All}
use Rattle.fcp.specs.declared.rows.FileKind.{FileKind}
use Rattle.fcp.specs.declared.rows.FileKind.TheVariants.{Transparent, Linear, Directory}

-- the kind, the width of a row, and the rows; a transparent file has one row, as wide as the file
pub record Content : Type 0 where
  pub kind : FileKind
  pub width : ℕ
  pub rows : List (List ℕ)

-- what stands for a file that is not there
abbrev pub missing : Content
missing = record { kind = Linear; width = 0; rows = [] }

abbrev pub transparent : List ℕ → Content
transparent bytes = record { kind = Transparent; width = length bytes; rows = bytes ∷ [] }

abbrev pub linear : ℕ → List (List ℕ) → Content
linear width rows = record { kind = Linear; width = width; rows = rows }

-- the content with another row at index i
abbrev pub with_row : ℕ → List ℕ → Content → Content
with_row i row content = record { kind = content.kind; width = content.width; rows = slice_set content.rows i row }

abbrev pub is_linear : FileKind → Bool
is_linear Transparent = false
is_linear Linear = true
is_linear Directory = false

abbrev pub is_transparent : FileKind → Bool
is_transparent Transparent = true
is_transparent Linear = false
is_transparent Directory = false

abbrev pub is_directory : FileKind → Bool
is_directory Transparent = false
is_directory Linear = false
is_directory Directory = true

-- the bytes of a transparent file
abbrev pub first_row : List (List ℕ) → List ℕ
first_row [] = []
first_row (row ∷ rows) = row

-- the row is so wide, as a test and as a fact
abbrev pub has_width : ℕ → List ℕ → Bool
has_width width row = length row == width

abbrev pub HasWidth : ℕ → List ℕ → Type 0
HasWidth width row = length row ≡ width

-- a transparent file has one row of its width, a linear one at most 255 rows of its width, and no file is a directory
abbrev pub HasRows : FileKind → ℕ → List (List ℕ) → Type 0
HasRows Transparent width [] = ⊥
HasRows Transparent width (row ∷ []) = (length row ≡ width) × (width < 2 ^ 16)
HasRows Transparent width (row ∷ other ∷ rows) = ⊥
HasRows Linear width rows = (width ≤ 255) × (length rows ≤ 255) × All (HasWidth width) rows
HasRows Directory width rows = ⊥

abbrev pub IsContent : Content → Type 0
IsContent content = HasRows content.kind content.width content.rows
