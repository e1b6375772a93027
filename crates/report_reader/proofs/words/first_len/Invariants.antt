use Rattle.std.proofs.Common.{◌≡◌, ◌+◌, drop}
use Rattle.report_reader.specs.Words as spec
use Rattle.report_reader.proofs.words.first_len.Given as goal

-- no space stands among the bytes so far
abbrev pub invariant-loop-index : goal.invariant-loop-index
invariant-loop-index l = spec.first_len l.line ≡ l.index + spec.first_len (drop l.index l.line)
