-- How many events a run of a script may have, whatever its order of turns and its faults: a bound by the sizes of the script, which
-- is this project's own.
use Rattle.std.specs.Prelude.{ℕ, ◌+◌, ◌*◌, ◌/◌, Bool, true, false, max, if◌then◌else◌, count_by, List, [], ◌∷◌, ◌++◌, length, Option, Some, None}
use Rattle.apdu.specs.Words.{is_one_of, same_bytes, path_is_in}
use Rattle.fcp.specs.declared.control.ArrRef.{ArrRef}
use Rattle.card_model.specs.Card.{last_id, rule_file_path}
use Rattle.script_reader.specs.declared.types.FileSpec.{FileSpec}
use Rattle.script_reader.specs.declared.types.KindSpec.{KindSpec}
use Rattle.script_reader.specs.declared.types.KindSpec.TheVariants.{Transparent, Linear}
use Rattle.script_reader.specs.declared.types.CardSpec.{CardSpec}
use Rattle.script_reader.specs.declared.types.ChangeSpec.{ChangeSpec}
use Rattle.script_reader.specs.declared.types.Operation.{Operation}
use Rattle.script_reader.specs.declared.types.Operation.TheVariants as operation
use Rattle.script_reader.specs.declared.types.Script.{Script}
use Rattle.script_reader.specs.Operations.{operation_count}

-- ---- the files of a script

abbrev pub card_files : List CardSpec → List FileSpec
card_files [] = []
card_files (card ∷ cards) = card.files ++ card_files cards

abbrev pub change_files : List ChangeSpec → List FileSpec
change_files [] = []
change_files (change ∷ changes) = change.files ++ change_files changes

-- every file of a card or of a change
abbrev pub all_files : Script → List FileSpec
all_files s = card_files s.cards ++ change_files s.changes

-- ---- the paths that a run may read

-- the files of the families, ETSI TS 102 221 clause 13 and 3GPP TS 31.102 clauses 4.2 and 4.4
abbrev pub family_paths : List (List ℕ)
family_paths =
    (0x2FE2 ∷ []) ∷ (0x7FFF ∷ 0x6F07 ∷ []) ∷ (0x7FFF ∷ 0x6FAD ∷ []) ∷ (0x7FFF ∷ 0x6F46 ∷ []) ∷ (0x7FFF ∷ 0x6F40 ∷ [])
    ∷ (0x7FFF ∷ 0x6F4E ∷ []) ∷ (0x2F00 ∷ []) ∷ (0x7F10 ∷ 0x6F3A ∷ []) ∷ (0x7F10 ∷ 0x6F4A ∷ []) ∷ (0x7FFF ∷ 0x6F3B ∷ [])
    ∷ (0x7FFF ∷ 0x6F4B ∷ []) ∷ []

-- the path ends in a usual id of EF_ARR, ETSI TS 102 221 clause 13.4
abbrev pub is_rule_path : List ℕ → Bool
is_rule_path path = is_one_of (last_id path) (0x2F06 ∷ 0x6F06 ∷ [])

-- the path, where it is that of an EF_ARR
abbrev pub own_path : List ℕ → List (List ℕ)
own_path path = if is_rule_path path then path ∷ [] else []

-- the EF_ARR that a file names, whether or not it is there
abbrev pub named_path : List ℕ → Option ArrRef → List (List ℕ)
named_path path None = []
named_path path (Some arr) = rule_file_path path arr ∷ []

-- the paths of access rules that some files bring
abbrev pub rule_paths : List FileSpec → List (List ℕ)
rule_paths [] = []
rule_paths (file ∷ files) = own_path file.path ++ named_path file.path file.arr ++ rule_paths files

-- the paths that a run may read
abbrev pub paths_read : Script → List (List ℕ)
paths_read s = rule_paths (all_files s) ++ family_paths

-- ---- commands for reading

-- a READ gives one record, or at most 255 bytes
abbrev pub reads_of : KindSpec → ℕ
reads_of (Transparent bytes) = (length bytes + 254) / 255
reads_of (Linear len rows) = length rows

abbrev pub reads_at : List ℕ → FileSpec → ℕ
reads_at path file = if same_bytes path file.path then reads_of file.kind else 0

-- the most READs that one of the files asks for at this path
abbrev pub most_reads : List ℕ → List FileSpec → ℕ
most_reads path [] = 0
most_reads path (file ∷ files) = max (reads_at path file) (most_reads path files)

-- the sum over the paths of a SELECT and the most READs, each path once
abbrev pub reading_sum : List FileSpec → List (List ℕ) → ℕ
reading_sum files [] = 0
reading_sum files (path ∷ paths) = (if path_is_in paths path then 0 else 1 + most_reads path files) + reading_sum files paths

-- the commands that read everything once, the access rules too
unfoldable pub whole_reading : Script → ℕ
whole_reading s = reading_sum (all_files s) (paths_read s)

-- ---- operations

abbrev pub is_edit : Operation → Bool
is_edit (operation.Set family at name number) = true
is_edit (operation.Clear family at) = true
is_edit _ = false

-- it may move what others read
abbrev pub is_move : Operation → Bool
is_move (operation.Insert card) = true
is_move operation.Out = true
is_move (operation.Arm change) = true
is_move (operation.Raw handle command) = true
is_move _ = false

-- how many operations of all actors pass a test
abbrev pub count_all : (Operation → Bool) → List (List Operation) → ℕ
count_all test [] = 0
count_all test (operations ∷ actors) = count_by test operations + count_all test actors

-- ---- the bound

-- how often what is read may become stale, for so many moves and edits: an edit writes at most three rows
abbrev pub disturbances : ℕ → ℕ → ℕ
disturbances moves edits = (moves + 1) * (3 * edits + 1)

unfoldable pub disturbances_of : Script → ℕ
disturbances_of s = disturbances (count_all is_move s.actors + length s.faults) (count_all is_edit s.actors)

-- for the commands of a whole reading, so many operations and so many disturbances
abbrev pub work_of : ℕ → ℕ → ℕ → ℕ
work_of reading operations disturbed = (8 * reading + 32) * (operations + disturbed + 2) * (disturbed + 1)

abbrev pub work : Script → ℕ
work s = work_of (whole_reading s) (operation_count s.actors) (disturbances_of s)
