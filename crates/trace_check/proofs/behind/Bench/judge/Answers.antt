-- A line that breaks no rule can be followed behind its test.
use Rattle.std.proofs.Common.{Ok, ap, sym, ◌∙◌}
use Rattle.trace_check.proofs.Sent.{tested_follow, tested_follows}
use Rattle.trace_check.proofs.behind.Bench.judge.Goals as goal

pub follow-requires-clause-tested : goal.follow-requires-clause-tested
follow-requires-clause-tested c =
    tested_follow c.args.self.now.script.now c.args.self.now.mode c.args.line.now c.args.behind.now c.test.new.behind
    (c.has_room.ensures c.if-not-has_room.false)
    (sym c.in_ok-rule.ensures.broken ∙ c.in-None.is)
    (c.in_ok-rule.ensures.tested (ap Ok c.in-None.is))

pub returns-in_ok-follow-in-None-clause-follows : goal.returns-in_ok-follow-in-None-clause-follows
returns-in_ok-follow-in-None-clause-follows c = λ _.
    tested_follows c.args.self.now.script.now c.args.line.now c.args.behind.now c.test.new.behind c.follow.new.behind
    (c.in_ok-rule.ensures.tested (ap Ok c.in-None.is))
    c.in_ok-follow-in-None.ensures
