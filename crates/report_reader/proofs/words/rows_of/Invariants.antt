use Rattle.std.proofs.Common.{◌≡◌, drop}
use Rattle.report_reader.specs.Reads.{all_of, texts}
use Rattle.report_reader.specs.Words.{byte}
use Rattle.report_reader.proofs.Lists.{onto}
use Rattle.report_reader.proofs.words.rows_of.Given as goal

-- what was read and what is left are the whole list
abbrev pub invariant-loop-word : goal.invariant-loop-word
invariant-loop-word l = onto l.rows (all_of byte (texts (drop l.word-index l.words))) ≡ all_of byte (texts l.words)
