use Rattle.std.proofs.Common.{sym, ◌∙◌}
use Rattle.replay.proofs.Ends.{still_pending, to_spent, to_finished}
use Rattle.replay.proofs.run.Run.end.Goals as goal

pub returns-then-pending : goal.returns-then-pending
returns-then-pending c =
    let u = c.requires.under_way in
    let pending = still_pending _ _ u.whole (sym c.pending.ensures.value ∙ c.if-pending.true) in
    to_spent c.due_lines_are_legal.ensures c.args.self.hub c.args.self.budget c.events-events.result u (c.lines_are_due.ensures u.whole) pending c.requires.ends (c.events-events.ensures u.whole)

pub returns : goal.returns
returns c =
    let ok = c.in_ok-report.ensures in
    (ok.script, to_finished c.args.self.hub c.args.self.budget c.in_ok-report.report c.requires.under_way ok.script ok.mode ok.lines ok.legal)
