use Rattle.std.proofs.Common.{◌≡◌, ◌≤◌, ◌+◌, drop}
use Rattle.epoch_cache.specs.Places.{without_listed, raised_in_turn, highest_version}
use Rattle.epoch_cache.proofs.cache.Cache.touch_listed.Given as goal

-- what is left to do of the paths gives what all of them give
abbrev pub invariant-loop-path : goal.invariant-loop-path
invariant-loop-path l = record {
  files : without_listed (drop l.path-index l.paths) l.self.files ≡ without_listed l.paths l.fn.self.files;
  places : raised_in_turn (drop l.path-index l.paths) l.self.places ≡ raised_in_turn l.paths l.fn.self.places;
  bound : highest_version l.self.places ≤ highest_version l.fn.self.places + l.path-index;
}
