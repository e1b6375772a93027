use Rattle.std.proofs.Common.{◌≡◌, ◌+◌, drop}
use Rattle.epoch_cache.specs.Places.{highest_version}
use Rattle.loader.specs.Load.{load_after, load_of}
use Rattle.loader.proofs.job.LoadJob.follow_steps.Given as goal

-- the steps that are left lead to the state behind all
abbrev pub invariant-loop-step : goal.invariant-loop-step
invariant-loop-step l = record {
  events : l.turning.events ≡ l.fn.turning.events + l.step-index;
  load : load_after l.path (drop l.step-index l.steps) (load_of l.turning l.cache.files l.self.readings) ≡ load_after l.fn.path l.fn.steps (load_of l.fn.turning l.fn.cache.files l.fn.self.readings);
  paths : l.self.paths ≡ l.fn.self.paths;
  bound : highest_version l.cache.places ≡ highest_version l.fn.cache.places;
}
