use Rattle.std.proofs.Common.{◌≡◌, ◌++◌, drop, string_bytes}
use Rattle.bcd.specs.Digits.{read_digits}
use Rattle.bcd.proofs.read_digits.Given as goal

abbrev pub invariant-loop-byte : goal.invariant-loop-byte
invariant-loop-byte l = read_digits l.bytes ≡ string_bytes l.digits ++ read_digits (drop l.byte-index l.bytes)
