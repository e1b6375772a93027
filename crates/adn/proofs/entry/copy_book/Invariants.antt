use Rattle.std.proofs.Common.{◌≡◌, ◌++◌, drop}
use Rattle.adn.proofs.entry.copy_book.Given as goal

-- the copies so far, and the rows to come, are the book
abbrev pub invariant-loop-row : goal.invariant-loop-row
invariant-loop-row l = l.copy ++ drop l.row-index l.rows ≡ l.fn.book
