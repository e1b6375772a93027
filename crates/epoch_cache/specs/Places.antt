-- The places of a cache, and their versions.
--
-- A path gets a place where it is tracked or a file of it is put. What was done to the file of a path raises the version of its place.
use Rattle.std.specs.Prelude.{◌≡◌, ℕ, ◌+◌, Bool, true, false, if◌then◌else◌, max, List, [], ◌∷◌, ◌++◌, map, filter, find, not, ◌||◌, Option, None, Some, option_map, option_and_then}
use Rattle.std.specs.List.{list_any}
use Rattle.apdu.specs.Words.{same_bytes, path_is_in, is_one_of}
use Rattle.fcp.specs.Content.{Content}
use Rattle.fcp.specs.declared.control.ArrRef.{ArrRef}
use Rattle.epoch_cache.specs.declared.cached.CachedFile.{CachedFile}
use Rattle.epoch_cache.specs.declared.cached.Touch.{Touch}
use Rattle.epoch_cache.specs.declared.cached.Written.{Written}
use Rattle.epoch_cache.specs.declared.cached.Written.TheVariants as written
use Rattle.refresh_cmd.specs.Values.{ProactiveValue}
use Rattle.epoch_cache.specs.Cache.{taken, asks_reset, is_moved_by, is_raw_write}

pub record Place : Type 0 where
  pub path : List ℕ
  pub version : ℕ

-- what a cache keeps: the files that are current, in the order in which they were put, and a place for each path that it knows
pub record CacheValue : Type 0 where
  pub files : List CachedFile
  pub places : List Place

abbrev pub is_place_of : List ℕ → Place → Bool
is_place_of path place = same_bytes path place.path

abbrev pub has_place : List ℕ → List Place → Bool
has_place path places = list_any (is_place_of path) places

abbrev pub version_or_zero : Option Place → ℕ
version_or_zero None = 0
version_or_zero (Some place) = place.version

-- a path without a place has version 0
abbrev pub version_of : List ℕ → List Place → ℕ
version_of path places = version_or_zero (find (is_place_of path) places)

abbrev pub with_place : List ℕ → List Place → List Place
with_place path places = if has_place path places then places else places ++ record { path = path; version = 0 } ∷ []

abbrev pub raised : Place → Place
raised place = record { path = place.path; version = place.version + 1 }

-- the version of this path is raised
abbrev pub raised_at : List ℕ → List Place → List Place
raised_at path [] = []
raised_at path (place ∷ places) = elim (is_place_of path place) [ true ↦ raised place ∷ places | false ↦ place ∷ raised_at path places ]

-- and so is every version
abbrev pub all_raised : List Place → List Place
all_raised places = map raised places

abbrev pub highest_version : List Place → ℕ
highest_version [] = 0
highest_version (place ∷ places) = max place.version (highest_version places)

-- ---- what is taken of a path

abbrev pub content_taken : List ℕ → List CachedFile → Option Content
content_taken path files = option_map (λ (file : CachedFile). file.content) (taken path files)

abbrev pub arr_taken : List ℕ → List CachedFile → Option ArrRef
arr_taken path files = option_and_then (λ (file : CachedFile). file.arr) (taken path files)

-- every other path has the file that it had
abbrev pub KeepsOthers : List ℕ → List CachedFile → List CachedFile → Type 0
KeepsOthers path old new = (other : List ℕ) → same_bytes path other ≡ false → taken other new ≡ taken other old

-- ---- several paths

abbrev pub without_listed : List (List ℕ) → List CachedFile → List CachedFile
without_listed paths files = filter (λ (file : CachedFile). not (path_is_in paths file.path)) files

abbrev pub without_refreshed : ProactiveValue → List CachedFile → List CachedFile
without_refreshed p files = filter (λ (file : CachedFile). not (is_moved_by file.path p)) files

-- the version of each path of the list is raised, as often as it stands there
abbrev pub raised_in_turn : List (List ℕ) → List Place → List Place
raised_in_turn [] places = places
raised_in_turn (path ∷ paths) places = raised_in_turn paths (raised_at path places)

-- ---- what an exchange does to the places

-- a reset is asked for, or every file is named
abbrev pub renews_every : ProactiveValue → Bool
renews_every p = asks_reset p || is_one_of p.qualifier (0 ∷ 3 ∷ [])

-- the files of its list are named
abbrev pub names_listed : ProactiveValue → Bool
names_listed p = is_one_of p.qualifier (1 ∷ 2 ∷ [])

abbrev pub refreshed_places : ProactiveValue → List Place → List Place
refreshed_places p places =
    if renews_every p then all_raised places
    else if names_listed p then raised_in_turn p.list places
    else places

abbrev pub refreshed_by : Option ProactiveValue → List Place → List Place
refreshed_by None places = places
refreshed_by (Some p) places = refreshed_places p places

-- every path moves, whatever was handed over
abbrev pub moves_every : Touch → Bool
moves_every t = t.begins || is_raw_write t.written

abbrev pub moved_places : Touch → List Place → List Place
moved_places t places = if moves_every t then all_raised places else refreshed_by t.refresh places

abbrev pub patched_places : Option (List ℕ) → List Place → List Place
patched_places None places = places
patched_places (Some path) places = raised_at path places

abbrev pub written_places : Option (List ℕ) → List Place → Written → List Place
written_places selected places written.Row = patched_places selected places
written_places selected places written.Unknown = all_raised places
written_places selected places written.Nothing = places
written_places selected places written.Raw = places
