-- How far a job has read a file.
--
-- Looking back over the lines: a job that reads sends SELECT by path with the control parameters for a path that it has not selected so
-- since the path last moved, and each such SELECT begins its reading of the path anew. The READs follow in order, by the control
-- parameters that came: rows from 1 with Le the width, or pieces at offsets 0, 255, 510 with Le 255 or the rest. A reading is completed
-- by 6A82 to the SELECT, or by the success of all its READs. It is refused by a final response to its SELECT or to one of its READs that
-- is a status other than a success, but for 6A82 to the SELECT; and by a success of the SELECT whose body is no template of control
-- parameters. A job keeps its reading of one path while it reads another.
use Rattle.std.specs.Prelude.{ℕ, ◌+◌, ◌-◌, ◌*◌, ◌/◌, ◌%◌, ◌==◌, ◌&&◌, ◌||◌, not, Bool, true, false, nat_le, min, if◌then◌else◌, List, [], ◌∷◌, ◌++◌, length, take, filter, find, flat_map, Option, Some, None, option_map, option_and_then, Result, Ok, Err, is_ok}
use Rattle.apdu.specs.Values.{CommandValue}
use Rattle.apdu.specs.Words.{same_bytes, filled_to, has_value}
use Rattle.apdu.specs.Apdu.{command, read_binary_ins, read_record_ins, is_read_ins, is_success, wants_more, same_command}
use Rattle.fcp.specs.declared.control.Fcp.{Fcp}
use Rattle.fcp.specs.declared.control.FcpError.{FcpError}
use Rattle.fcp.specs.declared.rows.FileKind.{FileKind}
use Rattle.fcp.specs.declared.rows.FileKind.TheVariants.{Transparent, Linear, Directory}
use Rattle.fcp.specs.Content.{Content, missing, transparent, linear}
use Rattle.fcp.specs.Control.{read_fcp}
use Rattle.card_model.specs.Card.{is_in_application}
use Rattle.link.specs.declared.chain.Final.{Final}
use Rattle.epoch_cache.specs.declared.cached.CachedFile.{CachedFile}
use Rattle.loader.specs.declared.reading.RefusedReading.{RefusedReading}
use Rattle.epoch_cache.specs.declared.cached.Touch.{Touch}
use Rattle.loader.specs.Values.{ReadingValue, is_readable}
use Rattle.link.specs.Commands.{is_reading_select, named_path, is_refused, file_not_found}
use Rattle.epoch_cache.specs.Cache.{is_spoiled}

-- ---- the READs of a file

-- the pieces of a transparent file have at most 255 bytes
abbrev pub piece_len : ℕ
piece_len = 255

-- a directory, and a file without bytes or rows, needs no READ
abbrev pub reads_needed_by : FileKind → ℕ → ℕ → ℕ
reads_needed_by Transparent size count = (size + (piece_len - 1)) / piece_len
reads_needed_by Linear size count = count
reads_needed_by Directory size count = 0

abbrev pub reads_needed : Fcp → ℕ
reads_needed f = reads_needed_by f.kind f.size f.count

abbrev pub read_piece : Fcp → ℕ → CommandValue
read_piece f i = command read_binary_ins ((i * piece_len) / 256) ((i * piece_len) % 256) [] (Some (min piece_len (f.size - i * piece_len)))

abbrev pub read_row : Fcp → ℕ → CommandValue
read_row f i = command read_record_ins (i + 1) 0x04 [] (Some f.width)

abbrev pub read_by : FileKind → Fcp → ℕ → CommandValue
read_by Transparent f i = read_piece f i
read_by Linear f i = read_row f i
read_by Directory f i = read_row f i

-- READ number i, from 0
abbrev pub read_number : Fcp → ℕ → CommandValue
read_number f i = read_by f.kind f i

-- ---- a running reading

abbrev pub is_reading_of : List ℕ → ReadingValue → Bool
is_reading_of path g = same_bytes g.path path

abbrev pub reading_of : List ℕ → List ReadingValue → Option ReadingValue
reading_of path readings = find (is_reading_of path) readings

-- the reading of the selected file
abbrev pub reading_at : Option (List ℕ) → List ReadingValue → Option ReadingValue
reading_at None readings = None
reading_at (Some path) readings = reading_of path readings

-- no READ is left
abbrev pub is_complete : ReadingValue → Bool
is_complete g = nat_le (reads_needed g.control) (length g.rows)

-- the READ that comes next, while one is left
abbrev pub next_read : ReadingValue → Option CommandValue
next_read g = if is_complete g then None else Some (read_number g.control (length g.rows))

abbrev pub content_by : FileKind → ℕ → List (List ℕ) → Content
content_by Transparent width rows = transparent (flat_map (λ row. row) rows)
content_by Linear width rows = linear width rows
content_by Directory width rows = missing

-- the file of a reading that is complete; a directory counts as a file without rows
abbrev pub file_read : ReadingValue → CachedFile
file_read g = record { path = g.path; content = content_by g.control.kind g.control.width g.rows; arr = g.control.arr }

-- a path that the card has no file of
abbrev pub no_file : List ℕ → CachedFile
no_file path = record { path = path; content = missing; arr = None }

-- ---- a step of a reading

-- behind a SELECT that succeeded, where its READs can be written
abbrev pub begun_by : Option (List ℕ) → ℕ → Result Fcp FcpError → Option ReadingValue
begun_by None first_event read = None
begun_by (Some path) first_event (Ok control) = if is_readable control then Some (record { path = path; control = control; rows = []; first_event = first_event }) else None
begun_by (Some path) first_event (Err e) = None

abbrev pub begun : Final → Option ReadingValue
begun f = elim (is_success f.response.sw) [ true ↦ begun_by (named_path f.command) f.first_event (read_fcp f.response.body) | false ↦ None ]

-- a READ on the basic channel
abbrev pub is_basic_read : CommandValue → Bool
is_basic_read c = (c.class == 0) && is_read_ins c.ins

abbrev pub asked_len : Option ℕ → ℕ
asked_len None = 0
asked_len (Some le) = le

-- the body, cut or filled with FF to the length that was asked for
abbrev pub row_read : Final → List ℕ
row_read f = take (asked_len f.command.le) (filled_to 0xFF (asked_len f.command.le) f.response.body)

-- the next READ that succeeded takes the reading one further; any other ends it
abbrev pub further : Final → ReadingValue → Option ReadingValue
further f g = if is_success f.response.sw && has_value (same_command f.command) (next_read g) then Some (record g { rows = g.rows ++ row_read f ∷ [] }) else None

-- the reading that a command of the job leads to; `selected` is current on the basic channel
abbrev pub reading_after : Final → Option (List ℕ) → List ReadingValue → Option ReadingValue
reading_after f selected readings =
    if is_reading_select f.command then begun f
    else if is_basic_read f.command then option_and_then (further f) (reading_at selected readings)
    else None

-- the path that the command reads, or selects to read it
abbrev pub path_read : Final → Option (List ℕ) → Option (List ℕ)
path_read f selected =
    if is_reading_select f.command then named_path f.command
    else if is_basic_read f.command then selected
    else None

-- the first one of the path is left out, and there is no other
abbrev pub without_path : List ℕ → List ReadingValue → List ReadingValue
without_path path [] = []
without_path path (g ∷ gs) = elim (is_reading_of path g) [ true ↦ gs | false ↦ g ∷ without_path path gs ]

abbrev pub without_reading : Option (List ℕ) → List ReadingValue → List ReadingValue
without_reading None readings = readings
without_reading (Some path) readings = without_path path readings

-- a reading that goes on
abbrev pub with_reading : Option ReadingValue → List ReadingValue → List ReadingValue
with_reading None readings = readings
with_reading (Some g) readings = if is_complete g then readings else readings ++ g ∷ []

-- the job's readings behind a command of its own
abbrev pub readings_after : Final → Option (List ℕ) → List ReadingValue → List ReadingValue
readings_after f selected readings = with_reading (reading_after f selected readings) (without_reading (path_read f selected) readings)

-- what moved or was written is to be read anew
abbrev pub unspoiled : Touch → Option (List ℕ) → List ReadingValue → List ReadingValue
unspoiled t selected readings = filter (λ (g : ReadingValue). not (is_spoiled t selected g.path)) readings

-- ---- how a reading ends

abbrev pub complete_one : Option ReadingValue → Option ReadingValue
complete_one None = None
complete_one (Some g) = if is_complete g then Some g else None

abbrev pub file_of_complete : Option ReadingValue → Option CachedFile
file_of_complete g = option_map file_read (complete_one g)

-- 6A82 to its SELECT; of a file of the USIM it tells that there is none only once the USIM was selected, where the card has one
abbrev pub tells_no_file : Bool → Final → Bool
tells_no_file started f = is_reading_select f.command && (f.response.sw == file_not_found) && (started || not (has_value is_in_application (named_path f.command)))

-- the file of the reading that the command completed; `started` says that start-up is finished
abbrev pub completed_by : Bool → Final → Option (List ℕ) → List ReadingValue → Option CachedFile
completed_by started f selected readings =
    if tells_no_file started f then option_map no_file (named_path f.command)
    else file_of_complete (reading_after f selected readings)

-- a success of a reading's SELECT whose body is no template of control parameters
abbrev pub has_bad_fcp : Final → Bool
has_bad_fcp f = elim (is_reading_select f.command && is_success f.response.sw) [ true ↦ not (is_ok (read_fcp f.response.body)) | false ↦ false ]

abbrev pub refused_at : List ℕ → ℕ → RefusedReading
refused_at path first_event = record { path = path; first_event = first_event }

-- the reading that the command ended by a refusal
abbrev pub refused_by : Final → Option (List ℕ) → List ReadingValue → Option RefusedReading
refused_by f selected readings =
    if is_reading_select f.command then (if is_refused f || wants_more f.response.sw || has_bad_fcp f then option_map (λ path. refused_at path f.first_event) (named_path f.command) else None)
    else if is_basic_read f.command && not (is_success f.response.sw) then option_map (λ (g : ReadingValue). refused_at g.path g.first_event) (reading_at selected readings)
    else None
