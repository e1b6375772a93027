use Rattle.std.proofs.Common.{◌≡◌, ◌++◌, ◌+◌, ◌*◌, ◌≤◌, length}
use Rattle.bcd.specs.Digits.{written_digits}
use Rattle.bcd.proofs.packed.Given as goal

abbrev pub invariant-loop-rest : goal.invariant-loop-rest
invariant-loop-rest l = record {
  written : written_digits l.fn.digits ≡ l.bytes.items ++ written_digits l.rest;
  room : 2 * length l.bytes.items + length l.rest ≤ 40;
}

abbrev pub decreases-loop-rest : goal.decreases-loop-rest
decreases-loop-rest l = length l.rest
