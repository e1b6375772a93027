use Rattle.rules.proofs.Happening.{keeps_events}
use Rattle.rules.proofs.laws.history_keeps_events.Goals as goal

pub returns : goal.returns
returns c = keeps_events
