use Rattle.std.proofs.Common.{◌≡◌}
use Rattle.adn.specs.Changed.{with_renewed}
use Rattle.adn.proofs.update.put_all.Given as goal

-- the rest put into the book give all put into it
abbrev pub invariant-loop-last : goal.invariant-loop-last
invariant-loop-last l = with_renewed l.book l.rest.items ≡ with_renewed l.fn.book l.fn.list

abbrev pub decreases-loop-last : goal.decreases-loop-last
decreases-loop-last l = goal.left-loop-last l
