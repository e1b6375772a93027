use Rattle.std.proofs.Common.{◌≡◌, drop}
use Rattle.arrayvec.specs.ArrayVec.{array_vec_len}
use Rattle.report_reader.specs.Reads.{all_of, texts}
use Rattle.report_reader.specs.Words.{number}
use Rattle.report_reader.proofs.Lists.{onto}
use Rattle.report_reader.proofs.answers.numbers_of.Given as goal

-- what was read and what is left are the whole list
abbrev pub invariant-loop-word : goal.invariant-loop-word
invariant-loop-word l = record {
  read : onto l.numbers.items (all_of number (texts (drop l.word-index l.words))) ≡ all_of number (texts l.words);
  few : array_vec_len l.numbers ≡ l.word-index;
}
