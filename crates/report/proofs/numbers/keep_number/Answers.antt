use Rattle.std.proofs.Common.{arith}
use Rattle.report.proofs.Words.{sole_back, number_small}
use Rattle.report.proofs.numbers.keep_number.Goals as goal

pub returns-then-number-lt253-clause-back : goal.returns-then-number-lt253-clause-back
returns-then-number-lt253-clause-back c = sole_back c.args.number (omega arith)

pub returns-then-number-lt65536-clause-back : goal.returns-then-number-lt65536-clause-back
returns-then-number-lt65536-clause-back c = sole_back c.args.number (omega arith)

pub returns-then-number-lt4294967296-clause-back : goal.returns-then-number-lt4294967296-clause-back
returns-then-number-lt4294967296-clause-back c = sole_back c.args.number (omega arith)

pub returns-else-number-lt4294967296-clause-back : goal.returns-else-number-lt4294967296-clause-back
returns-else-number-lt4294967296-clause-back c = sole_back c.args.number (omega arith)

pub returns-then-number-lt253-clause-small : goal.returns-then-number-lt253-clause-small
returns-then-number-lt253-clause-small c = number_small c.args.number (omega arith)

pub returns-then-number-lt65536-clause-small : goal.returns-then-number-lt65536-clause-small
returns-then-number-lt65536-clause-small c = number_small c.args.number (omega arith)

pub returns-then-number-lt4294967296-clause-small : goal.returns-then-number-lt4294967296-clause-small
returns-then-number-lt4294967296-clause-small c = number_small c.args.number (omega arith)

pub returns-else-number-lt4294967296-clause-small : goal.returns-else-number-lt4294967296-clause-small
returns-else-number-lt4294967296-clause-small c = number_small c.args.number (omega arith)
