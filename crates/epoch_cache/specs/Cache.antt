-- Files whose rows are current, and what moves them.
--
-- Looking back over the lines: insertion and reset move every path. So do an application's UPDATE that succeeded, and a FETCH that handed
-- over a REFRESH of qualifier 00, 03, 04, 05 or 06; one of 01 or 02 moves the listed paths. An UPDATE of the framework's own moves none:
-- it is patched. A path is current where the epoch lives, a reading of it was completed in it, and no event since moved the path.
use Rattle.std.specs.Prelude.{ℕ, ◌-◌, ◌==◌, ◌&&◌, ◌||◌, not, Bool, true, false, if◌then◌else◌, List, [], ◌∷◌, ◌++◌, length, map, filter, find, Option, Some, None, is_some, Result, Ok, Err}
use Rattle.std.specs.List.{list_any, list_all}
use Rattle.apdu.specs.Values.{CommandValue, ResponseValue}
use Rattle.apdu.specs.Words.{has_value, is_between, is_one_of, same_bytes, path_is_in}
use Rattle.apdu.specs.Apdu.{fetch_ins, update_record_ins, is_update_ins, is_success}
use Rattle.fcp.specs.Content.{Content, missing, with_row}
use Rattle.refresh_cmd.specs.Values.{ProactiveValue}
use Rattle.refresh_cmd.specs.declared.proactive.ProactiveError.{ProactiveError}
use Rattle.refresh_cmd.specs.Proactive.{read_proactive, refresh_type}
use Rattle.epoch_cache.specs.declared.cached.CachedFile.{CachedFile}
use Rattle.epoch_cache.specs.declared.cached.Touch.{Touch}
use Rattle.epoch_cache.specs.declared.cached.Written.{Written}
use Rattle.epoch_cache.specs.declared.cached.Written.TheVariants as written
use Rattle.link.specs.Commands.{is_at}

-- ---- REFRESH, TS 102 223 clause 6.4.7

abbrev pub refresh_of : Result ProactiveValue ProactiveError → Option ProactiveValue
refresh_of (Ok p) = if p.kind == refresh_type then Some p else None
refresh_of (Err e) = None

-- the REFRESH that a FETCH handed over
abbrev pub handed_refresh : CommandValue → ResponseValue → Option ProactiveValue
handed_refresh c r = elim ((c.ins == fetch_ins) && is_success r.sw) [ true ↦ refresh_of (read_proactive r.body) | false ↦ None ]

-- qualifiers 00 and 03 are of all files, and 01 and 02 of those in its list
abbrev pub is_refreshed : List ℕ → ProactiveValue → Bool
is_refreshed path p = is_one_of p.qualifier (0 ∷ 3 ∷ []) || (is_one_of p.qualifier (1 ∷ 2 ∷ []) && path_is_in p.list path)

-- qualifiers 04, 05 and 06 ask for a reset of the card
abbrev pub asks_reset : ProactiveValue → Bool
asks_reset p = is_one_of p.qualifier (4 ∷ 5 ∷ 6 ∷ [])

abbrev pub is_moved_by : List ℕ → ProactiveValue → Bool
is_moved_by path p = asks_reset p || is_refreshed path p

-- ---- what a line writes

abbrev pub is_update : CommandValue → ResponseValue → Bool
is_update c r = is_update_ins c.ins && is_success r.sw

-- UPDATE RECORD in absolute mode on the basic channel
abbrev pub is_row_update : CommandValue → Bool
is_row_update c = (c.class == 0) && (c.ins == update_record_ins) && (c.p2 == 0x04)

-- `raw` says that the command is an application's
abbrev pub written_by : Bool → Option (List ℕ) → CommandValue → ResponseValue → Written
written_by raw selected c r =
    if not (is_update c r) then written.Nothing
    else if raw then written.Raw
    else if is_row_update c && is_some selected then written.Row
    else written.Unknown

abbrev pub is_raw_write : Written → Bool
is_raw_write written.Raw = true
is_raw_write written.Nothing = false
is_raw_write written.Row = false
is_raw_write written.Unknown = false

abbrev pub is_unknown_write : Written → Bool
is_unknown_write written.Unknown = true
is_unknown_write written.Nothing = false
is_unknown_write written.Row = false
is_unknown_write written.Raw = false

-- what the framework wrote, which moves no path
abbrev pub is_overwritten : Option (List ℕ) → List ℕ → Written → Bool
is_overwritten selected path written.Row = is_at selected path
is_overwritten selected path written.Unknown = true
is_overwritten selected path written.Nothing = false
is_overwritten selected path written.Raw = false

-- ---- what a line does to what was read

abbrev pub touch_exchanged : Bool → Option (List ℕ) → CommandValue → ResponseValue → Touch
touch_exchanged raw selected c r = record { begins = false; written = written_by raw selected c r; refresh = handed_refresh c r }

-- it moves the path: what was read of it may be old
abbrev pub is_moved : Touch → List ℕ → Bool
is_moved t path = t.begins || is_raw_write t.written || has_value (is_moved_by path) t.refresh

-- it makes a family stale that has the path
abbrev pub is_renewed : Touch → List ℕ → Bool
is_renewed t path = t.begins || is_raw_write t.written || has_value (is_refreshed path) t.refresh

-- a reading of the path is to begin anew
abbrev pub is_spoiled : Touch → Option (List ℕ) → List ℕ → Bool
is_spoiled t selected path = is_moved t path || is_overwritten selected path t.written

abbrev pub moves_one : Touch → List (List ℕ) → Bool
moves_one t paths = list_any (is_moved t) paths

abbrev pub renews_one : Touch → List (List ℕ) → Bool
renews_one t paths = list_any (is_renewed t) paths

-- ---- current files

abbrev pub is_of : List ℕ → CachedFile → Bool
is_of path file = same_bytes file.path path

-- the file of a path, where it is current
abbrev pub taken : List ℕ → List CachedFile → Option CachedFile
taken path files = find (is_of path) files

abbrev pub is_current : List CachedFile → List ℕ → Bool
is_current files path = is_some (taken path files)

abbrev pub all_current : List CachedFile → List (List ℕ) → Bool
all_current files paths = list_all (is_current files) paths

-- the first path of the list that is not current
abbrev pub first_missing : List CachedFile → List (List ℕ) → Option (List ℕ)
first_missing files paths = find (λ path. not (is_current files path)) paths

abbrev pub content_or_missing : Option CachedFile → Content
content_or_missing None = missing
content_or_missing (Some file) = file.content

abbrev pub view_of_files : List CachedFile → List ℕ → Content
view_of_files files path = content_or_missing (taken path files)

-- ---- how the current files change

abbrev pub forgotten : Touch → List CachedFile → List CachedFile
forgotten t files = filter (λ (file : CachedFile). not (is_moved t file.path)) files

abbrev pub without_file : List ℕ → List CachedFile → List CachedFile
without_file path files = filter (λ (other : CachedFile). not (is_of path other)) files

abbrev pub with_file : CachedFile → List CachedFile → List CachedFile
with_file file files = without_file file.path files ++ file ∷ []

abbrev pub with_completed : Option CachedFile → List CachedFile → List CachedFile
with_completed None files = files
with_completed (Some file) files = with_file file files

-- bytes for a row that the content has
abbrev pub is_row_of : ℕ → List ℕ → Content → Bool
is_row_of row bytes content = is_between 1 (length content.rows) row && (length bytes == content.width)

abbrev pub patched_file : List ℕ → ℕ → List ℕ → CachedFile → CachedFile
patched_file path row bytes file = if is_of path file && is_row_of row bytes file.content then record file { content = with_row (row - 1) bytes file.content } else file

-- a row of the selected file was replaced
abbrev pub patched : Option (List ℕ) → CommandValue → List CachedFile → List CachedFile
patched None c files = files
patched (Some path) c files = map (patched_file path c.p1 c.body) files

-- where it is not known what was written, nothing is known of what the files hold now
abbrev pub written_files : Option (List ℕ) → CommandValue → List CachedFile → Written → List CachedFile
written_files selected c files written.Row = patched selected c files
written_files selected c files written.Unknown = []
written_files selected c files written.Nothing = files
written_files selected c files written.Raw = files

abbrev pub files_exchanged : Touch → Option (List ℕ) → CommandValue → Option CachedFile → List CachedFile → List CachedFile
files_exchanged t selected c completed files = with_completed completed (forgotten t (written_files selected c files t.written))
