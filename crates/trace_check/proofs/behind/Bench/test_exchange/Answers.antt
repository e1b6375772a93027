-- The tests of an exchange with the right response.
use Rattle.std.proofs.Common.{sym, ◌∙◌}
use Rattle.trace_check.specs.Judging.{state_now}
use Rattle.trace_check.proofs.Sent.{exchange_said}
use Rattle.trace_check.proofs.behind.Bench.test_exchange.Goals as goal

pub returns-clause-broken : goal.returns-clause-broken
returns-clause-broken c =
    exchange_said c.args.self.now.script.now c.args.self.now.mode (state_now c.args.behind.now) c.args.line.now c.args.actor c.args.command.now c.args.response.now
    c.state-world.result.now c.kept-kept.result.now c.state.result.now c.in_ok-update.update c.test_sent-sent.result c.in_ok-edits.edits c.lowest_with.result
    c.requires.exchange c.state-world.ensures c.kept-kept.ensures
    (sym c.is_answered_with.ensures.value ∙ c.if-not-is_answered_with.false)
    (c.state.ensures ∙ c.is_answered_with.ensures.world c.if-not-is_answered_with.false)
    c.in_ok-update.ensures c.test_sent-sent.ensures c.in_ok-edits.ensures c.lowest_with.ensures
