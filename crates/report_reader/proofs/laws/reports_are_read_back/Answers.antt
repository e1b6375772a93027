use Rattle.report_reader.proofs.ReportsBack.{reports_back}
use Rattle.report_reader.proofs.laws.reports_are_read_back.Goals as goal

pub returns : goal.returns
returns c = reports_back
