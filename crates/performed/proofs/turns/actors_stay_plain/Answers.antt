use Rattle.performed.proofs.PlainJobs.{stays_plain}
use Rattle.performed.proofs.turns.actors_stay_plain.Goals as goal

pub returns : goal.returns
returns c = stays_plain
