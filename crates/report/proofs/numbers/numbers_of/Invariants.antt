use Rattle.std.proofs.Common.{◌≡◌, ◌≤◌, ◌-◌, ◌++◌, length}
use Rattle.report.specs.Kept.{words_of}
use Rattle.report.proofs.numbers.numbers_of.Given as goal

abbrev pub invariant-numbers : goal.invariant-numbers
invariant-numbers l = record {
  read : words_of l.fn.count l.fn.bytes ≡ l.numbers.items ++ words_of (l.fn.count - length l.numbers.items) l.rest;
  few : length l.numbers.items ≤ l.fn.count;
}

abbrev pub decreases-numbers : goal.decreases-numbers
decreases-numbers l = l.fn.count - length l.numbers.items
