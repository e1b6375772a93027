use Rattle.std.proofs.Common.{◌≡◌, length}
use Rattle.families.specs.Plans.{same_book}
use Rattle.trace_check.proofs.books.same_book.Given as goal

-- the rows so far are the same
abbrev pub invariant-rows : goal.invariant-rows
invariant-rows l = same_book l.a l.b ≡ same_book l.rest_a l.rest_b

abbrev pub decreases-rows : goal.decreases-rows
decreases-rows l = length l.rest_a
