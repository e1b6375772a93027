use Rattle.replay.proofs.Turns.{InRound}
use Rattle.replay.proofs.run.Run.round.Given as goal

abbrev pub invariant-loop-actor : goal.invariant-loop-actor
invariant-loop-actor l = InRound l.fn.self.hub.script l.fn.self l.self l.actor
