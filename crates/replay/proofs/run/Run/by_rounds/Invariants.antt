use Rattle.replay.specs.Rounds.{IsUnderWay, BeginsRound, kept_in, work_left}
use Rattle.replay.proofs.run.Run.by_rounds.Given as goal

abbrev pub invariant-rounds : goal.invariant-rounds
invariant-rounds l = record {
  under_way : IsUnderWay l.fn.self.hub.script l.self;
  round : BeginsRound l.fn.self.hub.script (kept_in l.fn.self.hub.script l.self);
}

abbrev pub decreases-rounds : goal.decreases-rounds
decreases-rounds l = work_left l.fn.self.hub.script (kept_in l.fn.self.hub.script l.self)
