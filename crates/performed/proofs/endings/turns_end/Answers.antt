use Rattle.performed.proofs.Measure.{turns_end}
use Rattle.performed.proofs.endings.turns_end.Goals as goal

pub returns : goal.returns
returns c = turns_end
