use Rattle.hub.proofs.Turning.{handles_small}
use Rattle.hub.proofs.engine.Engine.begin_decision.Goals as goal

pub decision_at_begin-requires : goal.decision_at_begin-requires
decision_at_begin-requires g c = record { channels = rw c.kept-kept.ensures (handles_small c.actors_stay_plain.ensures _ c.requires) }
