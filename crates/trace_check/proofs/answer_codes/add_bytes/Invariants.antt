use Rattle.std.proofs.Common.{◌≡◌, ◌++◌, drop}
use Rattle.trace_check.proofs.answer_codes.add_bytes.Given as goal

-- the numbers so far, and those that are left, are all of them
abbrev pub invariant-loop-byte : goal.invariant-loop-byte
invariant-loop-byte l = l.fn.code ++ l.bytes ≡ l.code ++ drop l.byte-index l.bytes
