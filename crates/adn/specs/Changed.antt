-- A book behind an update of a row of one of its two files.
use Rattle.std.specs.Prelude.{◌≡◌, ℕ, ◌+◌, ◌-◌, ◌==◌, Bool, if◌then◌else◌, List, [], ◌∷◌, length, slice_set, slice_index}
use Rattle.fcp.specs.Content.{Content, with_row}
use Rattle.adn.specs.declared.entry.BookRow.{BookRow}
use Rattle.adn.specs.declared.update.Renewed.{Renewed}
use Rattle.adn.specs.Book.{book_row, decode_book}

-- the book is that of the two files before a row of one of them was written; file 0 is the main file, and rows count from 1
pub record WasBook (file row : ℕ) (main_now ext_now : Content) (book : List BookRow) : Type 0 where
  pub main_before : Content
  pub ext_before : Content
  pub bytes : List ℕ
  pub decoded : book ≡ decode_book main_before ext_before
  pub main : main_now ≡ (if file == 0 then with_row (row - 1) bytes main_before else main_before)
  pub ext : ext_now ≡ (if file == 0 then ext_before else with_row (row - 1) bytes ext_before)

-- the last byte of a main row is this number
abbrev pub ends_in : ℕ → List ℕ → Bool
ends_in number row = slice_index row (length row - 1) == number

-- the main rows that end in this number, from index i on, decoded anew
abbrev pub renewed_from : List (List ℕ) → ℕ → ℕ → List (List ℕ) → List Renewed
renewed_from ext number i [] = []
renewed_from ext number i (row ∷ rows) =
    if ends_in number row then record { index = i; row = book_row ext row } ∷ renewed_from ext number (i + 1) rows
    else renewed_from ext number (i + 1) rows

-- each put in its place, the last one first
abbrev pub with_renewed : List BookRow → List Renewed → List BookRow
with_renewed book [] = book
with_renewed book (r ∷ rest) = slice_set (with_renewed book rest) r.index r.row
