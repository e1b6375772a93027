use Rattle.report_reader.proofs.ReportsBack.{written_back}
use Rattle.report_reader.proofs.laws.write_read_back.Goals as goal

pub returns-clause-read_back : goal.returns-clause-read_back
returns-clause-read_back c =
    written_back c.args.report.now c.in_ok-write_script.field-0 c.in_ok-write_script.ensures.text c.in_ok-write_script.ensures.read_back c.write_report.result c.write_report.ensures
