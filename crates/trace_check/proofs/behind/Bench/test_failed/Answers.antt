-- The tests of an exchange whose answer was lost.
use Rattle.std.proofs.Common.{rules, ◌∙◌}
use Rattle.trace_check.specs.Judging.{state_now}
use Rattle.trace_check.proofs.Sent.{failed_said}
use Rattle.trace_check.proofs.behind.Bench.test_failed.Goals as goal

pub returns-clause-broken : goal.returns-clause-broken
returns-clause-broken c =
    failed_said c.args.self.now.script.now c.args.self.now.mode (state_now c.args.behind.now) c.args.line.now c.args.actor c.args.command.now c.args.acted
    c.state-world.result.now c.kept-kept.result.now c.state.result.now c.in_ok-update.update c.test_sent-sent.result c.in_ok-edits.edits c.lowest_with.result
    c.requires.failed c.state-world.ensures c.kept-kept.ensures
    (search rules)
    (c.state.ensures ∙ c.lose.ensures.world)
    c.in_ok-update.ensures c.test_sent-sent.ensures c.in_ok-edits.ensures c.lowest_with.ensures
