use Rattle.std.proofs.Common.{◌≡◌, ◌++◌, drop}
use Rattle.trace_check.proofs.answer_codes.add_numbers.Given as goal

-- the numbers so far, and those that are left, are all of them
abbrev pub invariant-loop-item : goal.invariant-loop-item
invariant-loop-item l = l.fn.code ++ l.items ≡ l.code ++ drop l.item-index l.items
