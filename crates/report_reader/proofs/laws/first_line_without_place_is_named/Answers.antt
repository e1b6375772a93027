use Rattle.report_reader.proofs.Places.{names_first}
use Rattle.report_reader.proofs.laws.first_line_without_place_is_named.Goals as goal

pub returns : goal.returns
returns c = names_first
