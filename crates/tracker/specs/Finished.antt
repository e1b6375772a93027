-- The file of the reading that a line completed.
use Rattle.std.specs.Prelude.{ℕ, Bool, List, Option, Some, None}
use Rattle.epoch_cache.specs.declared.cached.CachedFile.{CachedFile}
use Rattle.link.specs.declared.chain.Final.{Final}
use Rattle.loader.specs.Reading.{completed_by}
use Rattle.loader.specs.Values.{ReadingValue}

abbrev pub file_completed : Bool → Option Final → Option (List ℕ) → List ReadingValue → Option CachedFile
file_completed started None selected readings = None
file_completed started (Some f) selected readings = completed_by started f selected readings
