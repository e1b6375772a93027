use Rattle.rules.proofs.Tracked.{tracked}
use Rattle.rules.proofs.laws.selection_is_tracked.Goals as goal

pub returns : goal.returns
returns c = tracked
