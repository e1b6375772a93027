use Rattle.std.proofs.Common.{◌∙◌, sym}
use Rattle.report_reader.proofs.Steps.{next_line, one_less}
use Rattle.report_reader.proofs.read.lines_of.Goals as goal

pub lines-preserved : goal.lines-preserved
lines-preserved c = record {
  read = c.lines.invariant.read ∙ next_line c.args.script.now c.lines.number c.lines.lines c.add_line.new.lines c.lines.rest.now _ c.in-len1-up.len_at_least (sym c.is_empty.ensures ∙ c.if-is_empty.false) (sym c.is_word.ensures ∙ c.if-is_word.false) c.in_ok-add_line.ensures;
  count = one_less c.lines.number c.lines.rest.now _ c.in-len1-up.len_at_least c.lines.invariant.count;
}
