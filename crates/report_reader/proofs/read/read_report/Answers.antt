use Rattle.std.proofs.Common.{rules}
use Rattle.report_reader.specs.Reads.{AnswersAs}
use Rattle.report_reader.specs.Reports.{report_of}
use Rattle.report_reader.proofs.Places.{reads_text, refuses_first}
use Rattle.report_reader.proofs.read.read_report.Goals as goal

pub returns-clause-text : goal.returns-clause-text
returns-clause-text c =
    let answers : AnswersAs (report_of c.args.bytes.now) c.report_of_parts.result = search rules in
    reads_text c.args.bytes.now c.report_of_parts.result answers

pub returns-clause-refused : goal.returns-clause-refused
returns-clause-refused c =
    let answers : AnswersAs (report_of c.args.bytes.now) c.report_of_parts.result = search rules in
    refuses_first c.args.bytes.now c.report_of_parts.result answers
