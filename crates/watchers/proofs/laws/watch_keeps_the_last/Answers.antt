use Rattle.watchers.proofs.TheLast.{last_kept}
use Rattle.watchers.proofs.laws.watch_keeps_the_last.Goals as goal

pub returns : goal.returns
returns c = last_kept
