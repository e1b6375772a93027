use Rattle.std.proofs.Common.{◌≡◌, ◌++◌, ◌-◌, drop, length}
use Rattle.adn.specs.Book.{extension_rows}
use Rattle.book_plans.specs.Phonebook.{names_of}
use Rattle.book_plans.proofs.phonebook.names_of.Given as goal

-- the names so far, and then those to come, are all
abbrev pub invariant-loop-row : goal.invariant-loop-row
invariant-loop-row l =
    names_of (extension_rows l.ext) l.main.rows ≡ l.names ++ names_of (extension_rows l.ext) (drop (length l.names) l.main.rows)

abbrev pub decreases-loop-row : goal.decreases-loop-row
decreases-loop-row l = length l.main.rows - length l.names
