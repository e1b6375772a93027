use Rattle.report_reader.proofs.ReportsSpelled.{one_spelling}
use Rattle.report_reader.proofs.laws.reports_have_one_spelling.Goals as goal

pub returns : goal.returns
returns c = one_spelling
