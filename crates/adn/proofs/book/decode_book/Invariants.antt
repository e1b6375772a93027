use Rattle.std.proofs.Common.{◌≡◌, ◌++◌, ◌-◌, drop, map, length}
use Rattle.adn.specs.Book.{book_row, extension_rows}
use Rattle.adn.proofs.book.decode_book.Given as goal

-- the rows so far, and then those to come, are the whole book
abbrev pub invariant-loop-row : goal.invariant-loop-row
invariant-loop-row l =
    map (book_row (extension_rows l.ext)) l.main.rows ≡ l.book ++ map (book_row (extension_rows l.ext)) (drop (length l.book) l.main.rows)

abbrev pub decreases-loop-row : goal.decreases-loop-row
decreases-loop-row l = length l.main.rows - length l.book
