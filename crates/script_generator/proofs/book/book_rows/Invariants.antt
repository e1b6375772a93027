use Rattle.std.proofs.Common.{◌≡◌}
use Rattle.script_generator.specs.Generated as spec
use Rattle.script_generator.proofs.book.book_rows.Given as goal

abbrev pub invariant-loop-row : goal.invariant-loop-row
invariant-loop-row l = record {
  rows : l.rows ≡ spec.book_rows l.fn.draws.state l.row;
  state : l.draws.state ≡ spec.behind_rows l.fn.draws.state l.row;
}
