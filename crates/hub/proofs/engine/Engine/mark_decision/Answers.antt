use Rattle.hub.proofs.Turning.{handles_small}
use Rattle.hub.proofs.engine.Engine.mark_decision.Goals as goal

pub decision_at_turn-requires : goal.decision_at_turn-requires
decision_at_turn-requires g c = record { channels = rw c.kept-kept.ensures (handles_small c.actors_stay_plain.ensures _ c.requires) }
