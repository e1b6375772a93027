use Rattle.std.proofs.Common.{◌≡◌, ◌+◌, [], length}
use Rattle.report_reader.specs.Reads.{texts}
use Rattle.report_reader.specs.Reports.{lines_from}
use Rattle.report_reader.proofs.read.lines_of.Given as goal

-- what is left is read behind the lines so far
abbrev pub invariant-lines : goal.invariant-lines
invariant-lines l = record {
  read : lines_from l.script 3 [] (texts l.fn.parts) ≡ lines_from l.script l.number l.lines (texts l.rest);
  count : l.number + length l.rest ≡ 3 + length l.fn.parts;
}

abbrev pub decreases-lines : goal.decreases-lines
decreases-lines l = length l.rest
