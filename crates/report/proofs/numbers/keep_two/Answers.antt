use Rattle.std.proofs.Common.{arith}
use Rattle.report.specs.Kept.{number_bytes}
use Rattle.report.proofs.Words.{first_back, second_sole_back}
use Rattle.report.proofs.numbers.keep_two.Goals as goal

pub returns-clause-first : goal.returns-clause-first
returns-clause-first c = first_back c.args.first (number_bytes c.args.second) (omega arith)

pub returns-clause-second : goal.returns-clause-second
returns-clause-second c = second_sole_back c.args.first c.args.second (omega arith)
