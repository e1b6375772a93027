use Rattle.performed.proofs.Counts.{counts}
use Rattle.performed.proofs.endings.counters_are_at_most_lines.Goals as goal

pub returns : goal.returns
returns c = counts
