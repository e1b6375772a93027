use Rattle.std.proofs.Common.{◌≡◌, ◌≤◌, drop}
use Rattle.report_reader.specs.Words.{number_behind}
use Rattle.report_reader.proofs.words.number_in.Given as goal

-- the digits so far write the number
abbrev pub invariant-loop-byte : goal.invariant-loop-byte
invariant-loop-byte l = record {
  value : number_behind l.base l.limit 0 l.word ≡ number_behind l.base l.limit l.number (drop l.byte-index l.word);
  within : l.number ≤ l.limit;
}
