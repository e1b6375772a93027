use Rattle.std.proofs.Common.{◌≡◌, replicate}
use Rattle.script_generator.proofs.files.extension_rows.Given as goal

abbrev pub invariant-loop-row : goal.invariant-loop-row
invariant-loop-row l = l.rows ≡ replicate l._row (replicate 13 0xFF)
