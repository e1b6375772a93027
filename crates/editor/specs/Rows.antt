-- The rows that an edit leaves marked, row by row.
use Rattle.std.specs.Prelude.{ℕ, suc, ◌==◌, nat_le, Bool, if◌then◌else◌, List, [], ◌∷◌, slice_get}
use Rattle.apdu.specs.Words.{has_value}
use Rattle.editor.specs.declared.editing.Decided.{Decided}
use Rattle.editor.specs.Editing.{names_row, with_row}

-- how many rows are less
abbrev pub place_of : ℕ → List ℕ → ℕ
place_of row [] = 0
place_of row (x ∷ xs) = if nat_le row x then 0 else suc (place_of row xs)

abbrev pub is_row_at : ℕ → List ℕ → ℕ → Bool
is_row_at row rows at = has_value (λ x. x == row) (slice_get rows at)

-- the rows and these
abbrev pub rows_onto : List ℕ → List ℕ → List ℕ
rows_onto [] rows = rows
rows_onto (r ∷ rs) rows = with_row r (rows_onto rs rows)

abbrev pub row_onto : Decided → ℕ → List ℕ → List ℕ
row_onto d row rows = if names_row d row then rows else with_row row rows

-- the rows and those of these that the deciding bytes do not name
abbrev pub marked_onto : Decided → List ℕ → List ℕ → List ℕ
marked_onto d [] rows = rows
marked_onto d (r ∷ rs) rows = row_onto d r (marked_onto d rs rows)
