use Rattle.hub.proofs.Taken.{report_legal}
use Rattle.hub.proofs.hub.Hub.finish.Goals as goal

pub returns-clause-legal : goal.returns-clause-legal
returns-clause-legal g c = λ told. report_legal c.finished_runs_are_legal.ensures c.args.self _ c.args.mode _ _ c.self.view_is (c.self.invariant c.if-not-whole.false) c.into_lines.ensures c.requires.finished c.requires.placed c.requires.allowed told
