-- What the current files of each family are decoded to, and what an exchange may do to it.
use Rattle.std.specs.Prelude.{◌≡◌, ℕ, ◌+◌, ◌-◌, ◌^◌, min, ◌==◌, ◌&&◌, ◌||◌, Bool, true, if◌then◌else◌, List, [], ◌∷◌, map, Option, Some, None, IfSome, option_and_then}
use Rattle.apdu.specs.Words.{same_bytes}
use Rattle.apdu.specs.Values.{CommandValue, ResponseValue}
use Rattle.apdu.specs.Apdu.{fetch_ins, is_update_ins}
use Rattle.card_model.specs.declared.world.WorldEvent.{WorldEvent}
use Rattle.card_model.specs.declared.world.WorldEvent.TheVariants as world_event
use Rattle.families.specs.declared.content.StandardContent.{StandardContent}
use Rattle.families.specs.Contents.{decoded}
use Rattle.families.specs.Families.{family_paths, has_path}
use Rattle.link.specs.declared.chain.Chain.{Chain}
use Rattle.link.specs.Commands.{is_reading_select, named_path}
use Rattle.epoch_cache.specs.declared.cached.CachedFile.{CachedFile}
use Rattle.epoch_cache.specs.Cache.{all_current, is_row_update, is_update, patched_file, view_of_files}
use Rattle.loader.specs.Reading.{is_basic_read}
use Rattle.content_tracker.specs.declared.contents.Contents.{Contents}
use Rattle.content_tracker.specs.declared.follow.WrittenRow.{WrittenRow}

-- where it is kept, it is what the current files are decoded to
abbrev pub IsOf : ℕ → List CachedFile → Option StandardContent → Type 0
IsOf f files kept = IfSome kept (λ content. content ≡ decoded f (view_of_files files))

pub record AreOf (files : List CachedFile) (c : Contents) : Type 0 where
  pub records : IsOf 0 files c.records
  pub phonebook : IsOf 1 files c.phonebook
  pub fixed : IsOf 2 files c.fixed

abbrev pub no_contents : Contents
no_contents = record { records = None; phonebook = None; fixed = None }

abbrev pub kept_of : ℕ → Contents → Option StandardContent
kept_of f c = if f == 0 then c.records else if f == 1 then c.phonebook else c.fixed

-- one decoding more
abbrev pub counted_on : ℕ → ℕ
counted_on n = min (n + 1) (2 ^ 64 - 1)

-- ---- files that are read

-- the path that a command reads, or selects to read it
abbrev pub path_read : Option (List ℕ) → CommandValue → Option (List ℕ)
path_read selected c =
    if is_reading_select c then named_path c
    else if is_basic_read c then selected
    else None

-- the first form of the chain
abbrev pub first_read : Option (List ℕ) → Option Chain → Option (List ℕ)
first_read selected chain = option_and_then (λ (ch : Chain). path_read selected ch.first) chain

abbrev pub unless_in : ℕ → Option (List ℕ) → Option StandardContent → Option StandardContent
unless_in f None kept = kept
unless_in f (Some path) kept = if has_path f path then None else kept

-- the family of a path that is read is forgotten
abbrev pub without_read : Option (List ℕ) → Contents → Contents
without_read path c = record { records = unless_in 0 path c.records; phonebook = unless_in 1 path c.phonebook; fixed = unless_in 2 path c.fixed }

-- by the command, or by the first form of its chain
abbrev pub without_readings : Option (List ℕ) → CommandValue → Option Chain → Contents → Contents
without_readings selected c chain contents = without_read (first_read selected chain) (without_read (path_read selected c) contents)

-- ---- events of the world

-- a change that is armed leaves the files as they are
abbrev pub behind_event : WorldEvent → Contents → Contents
behind_event (world_event.Arm i) c = c
behind_event world_event.Out c = no_contents
behind_event (world_event.Insert j) c = no_contents

-- ---- rows that are written

-- the row of the selected file that an UPDATE wrote
abbrev pub row_written : Option (List ℕ) → CommandValue → ResponseValue → Option WrittenRow
row_written None c r = None
row_written (Some path) c r = if is_update c r && is_row_update c then Some (record { path = path; row = c.p1 }) else None

-- the files behind it
abbrev pub behind_row : Option WrittenRow → List ℕ → List CachedFile → List CachedFile
behind_row None bytes files = files
behind_row (Some w) bytes files = map (patched_file w.path w.row bytes) files

-- the number of the file of a path, which is one of two
abbrev pub number_of : List ℕ → List (List ℕ) → ℕ
number_of path [] = 1
number_of path (first ∷ paths) = if same_bytes path first then 0 else 1

-- a command that may move or write files
abbrev pub may_write : CommandValue → Bool
may_write c = is_update_ins c.ins || (c.ins == fetch_ins)

-- the content was that of the files before, and nothing but this row was written in the family's files
pub record WasBefore (f : ℕ) (row : Option WrittenRow) (content : StandardContent) (files : List CachedFile) : Type 0 where
  pub before : List CachedFile
  pub bytes : List ℕ
  pub was : content ≡ decoded f (view_of_files before)
  pub same : (q : List ℕ) → has_path f q ≡ true → view_of_files files q ≡ view_of_files (behind_row row bytes before) q

-- so it is with what is kept, where all files of the family are current
abbrev pub Follows : ℕ → Option WrittenRow → Option StandardContent → List CachedFile → Type 0
Follows f row kept files = IfSome kept (λ content. all_current files (family_paths f) ≡ true → WasBefore f row content files)

pub record AllFollow (row : Option WrittenRow) (c : Contents) (files : List CachedFile) : Type 0 where
  pub records : Follows 0 row c.records files
  pub phonebook : Follows 1 row c.phonebook files
  pub fixed : Follows 2 row c.fixed files
