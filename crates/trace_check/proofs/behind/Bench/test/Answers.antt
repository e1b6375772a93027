-- A mark has the tests of the turn that it ends, and each other line its own.
use Rattle.std.proofs.Common.{rules, ap, arith}
use Rattle.rules.specs.After.{is_mark}
use Rattle.trace_check.proofs.Sent.{mark_said, other_said, tested_still}
use Rattle.trace_check.proofs.behind.Bench.test.Goals as goal

pub returns-in-Turn-clause-broken : goal.returns-in-Turn-clause-broken
returns-in-Turn-clause-broken c = mark_said c.args.self.now.script.now c.args.self.now.mode c.args.line.now c.args.behind.now c.test_mark.result (ap is_mark c.in-Turn.is) c.test_mark.ensures

pub returns-in-Exchange-clause-broken : goal.returns-in-Exchange-clause-broken
returns-in-Exchange-clause-broken c = other_said c.args.self.now.script.now c.args.self.now.mode c.args.line.now c.args.behind.now c.test_exchange.result (ap is_mark c.in-Exchange.is) c.test_exchange.ensures.broken

pub returns-in-Failed-clause-broken : goal.returns-in-Failed-clause-broken
returns-in-Failed-clause-broken c = other_said c.args.self.now.script.now c.args.self.now.mode c.args.line.now c.args.behind.now c.test_failed.result (ap is_mark c.in-Failed.is) c.test_failed.ensures.broken

pub returns-in_default : goal.returns-in_default
returns-in_default c = record {
  broken = other_said c.args.self.now.script.now c.args.self.now.mode c.args.line.now c.args.behind.now c.test_other.result (first_of (search rules, grind arith)) c.test_other.ensures;
  tested = λ _. tested_still c.args.line.now c.args.behind.now (first_of (search rules, grind arith)) c.requires.space.ready;
}
