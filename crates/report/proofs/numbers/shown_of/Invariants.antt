use Rattle.std.proofs.Common.{◌≡◌, ◌≤◌, ◌-◌, ◌++◌, length}
use Rattle.report.specs.Kept.{places_of}
use Rattle.report.proofs.numbers.shown_of.Given as goal

abbrev pub invariant-places : goal.invariant-places
invariant-places l = record {
  read : places_of l.fn.families l.fn.bytes ≡ l.shown.items ++ places_of (l.fn.families - length l.shown.items) l.rest;
  few : length l.shown.items ≤ l.fn.families;
}

abbrev pub decreases-places : goal.decreases-places
decreases-places l = l.fn.families - length l.shown.items
