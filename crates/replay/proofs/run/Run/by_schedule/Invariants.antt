use Rattle.std.proofs.Common.{◌≡◌}
use Rattle.replay.specs.Rounds.{IsUnderWay, kept_in}
use Rattle.replay.proofs.run.Run.by_schedule.Given as goal

abbrev pub invariant-loop-at : goal.invariant-loop-at
invariant-loop-at l = record {
  under_way : IsUnderWay l.fn.self.hub.script l.self;
  marks : (kept_in l.fn.self.hub.script l.self).marks ≡ l.at;
}
