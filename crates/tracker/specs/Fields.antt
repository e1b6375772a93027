-- The fields of what is kept that a line changes alike, whoever's it is.
use Rattle.std.specs.Prelude.{ℕ, if◌then◌else◌, List, [], Option, None}
use Rattle.script_reader.specs.declared.types.Script.{Script}
use Rattle.report.specs.declared.line.Line.{Line}
use Rattle.epoch_cache.specs.declared.cached.CachedFile.{CachedFile}
use Rattle.epoch_cache.specs.declared.cached.Touch.{Touch}
use Rattle.epoch_cache.specs.Cache.{forgotten}
use Rattle.loader.specs.declared.reading.RefusedReading.{RefusedReading}
use Rattle.rules.specs.declared.holdings.Handle.{Handle}
use Rattle.rules.specs.declared.kept.Facts.{Facts}
use Rattle.rules.specs.declared.kept.Kept.{Kept}
use Rattle.epoch_cache.specs.Past.{counted}
use Rattle.rules.specs.History.{history_after, stops_epoch}
use Rattle.rules.specs.Commands.{chain_behind, selection_behind}
use Rattle.rules.specs.Channels.{ended_handles}
use Rattle.rules.specs.Refresh.{startup_behind, owed_behind}
use Rattle.rules.specs.After.{is_publication, is_mark, standings_behind, jobs_beside}

abbrev pub fields_behind : Script → Line → Facts → Option RefusedReading → Kept → Kept
fields_behind s l facts refused k = record k {
  history = history_after l k.history;
  publications = counted (is_publication l) k.publications;
  marks = counted (is_mark l) k.marks;
  chain = chain_behind l k.chain;
  selected = selection_behind l k.selected;
  startup = startup_behind l facts.answered k.startup;
  owed = owed_behind l facts.touch.refresh facts.answered k.owed;
  standings = standings_behind s l facts refused k.standings;
}

abbrev pub handles_beside : ℕ → Facts → List Handle → List Handle
handles_beside epoch facts handles = if facts.ends then ended_handles epoch facts.event handles else handles

-- the current files, where the line is no exchange
abbrev pub files_beside : Line → Touch → List CachedFile → List CachedFile
files_beside l touch files = if stops_epoch l then [] else forgotten touch files

-- all but the jobs and the turn, behind a line that is no exchange
abbrev pub rest_behind : Script → Line → Facts → Kept → Kept
rest_behind s l facts k = record (fields_behind s l facts None k) {
  files = files_beside l facts.touch k.files;
  handles = handles_beside k.history.epoch facts k.handles;
}

-- all but the turn, behind a line that is no exchange and belongs to no operation
abbrev pub plain_behind : Script → Line → Facts → Kept → Kept
plain_behind s l facts k = record (rest_behind s l facts k) { jobs = jobs_beside l k.history.epoch facts k.selected k.jobs }
