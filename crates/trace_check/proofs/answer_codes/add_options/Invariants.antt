use Rattle.std.proofs.Common.{◌≡◌, ◌++◌, drop, map}
use Rattle.rules.specs.Rules.{optional_number}
use Rattle.trace_check.proofs.answer_codes.add_options.Given as goal

-- the numbers so far, and those that are left, are all of them
abbrev pub invariant-loop-item : goal.invariant-loop-item
invariant-loop-item l = l.fn.code ++ map optional_number l.items ≡ l.code ++ map optional_number (drop l.item-index l.items)
