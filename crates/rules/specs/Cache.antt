-- What a line does to what was read of the card, and to the current files.
use Rattle.std.specs.Prelude.{ℕ, Bool, if◌then◌else◌, List, [], Option, None}
use Rattle.report.specs.declared.line.Line.{Line}
use Rattle.report.specs.declared.line.Line.TheVariants as line
use Rattle.epoch_cache.specs.declared.cached.CachedFile.{CachedFile}
use Rattle.epoch_cache.specs.declared.cached.Touch.{Touch}
use Rattle.epoch_cache.specs.declared.cached.Written.TheVariants as written
use Rattle.rules.specs.History.{begins_epoch, stops_epoch}
use Rattle.epoch_cache.specs.Cache.{files_exchanged, forgotten, touch_exchanged}

abbrev pub touch_of : Bool → Option (List ℕ) → Line → Touch
touch_of raw selected (line.Exchange a c r) = touch_exchanged raw selected c r
touch_of raw selected l = record { begins = begins_epoch l; written = written.Nothing; refresh = None }

-- what moved is dropped, and so is everything at an epoch's end; `completed` is the file of a reading that the line completes
abbrev pub files_behind : Line → Touch → Option (List ℕ) → Option CachedFile → List CachedFile → List CachedFile
files_behind (line.Exchange a c r) t selected completed files = files_exchanged t selected c completed files
files_behind l t selected completed files = if stops_epoch l then [] else forgotten t files
