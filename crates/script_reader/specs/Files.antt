-- The files of a card or of a change: what JSON says of them, and the rules that they keep.
use Rattle.std.specs.Prelude.{ℕ, ◌==◌, ◌&&◌, not, Bool, true, false, nat_le, if◌then◌else◌, List, [], ◌∷◌, length, slice_index, Option, Some, None, is_ok, Result, Ok, Err, codes}
use Rattle.std.specs.List.{list_all}
use Rattle.apdu.specs.Words.{◌>>=◌, pair_value, is_between, is_one_of, same_bytes, has_value}
use Rattle.fcp.specs.declared.control.ArrRef.{ArrRef}
use Rattle.fcp.specs.Control.{read_fcp}
use Rattle.refresh_cmd.specs.Proactive.{master_file}
use Rattle.card_model.specs.Card.{is_prefix}
use Rattle.serde_json.specs.Data.{Data}
use Rattle.script_reader.specs.declared.error.Why.{Why}
use Rattle.script_reader.specs.declared.error.Why.TheVariants as why
use Rattle.script_reader.specs.declared.types.FileSpec.{FileSpec}
use Rattle.script_reader.specs.declared.types.KindSpec.{KindSpec}
use Rattle.script_reader.specs.declared.types.KindSpec.TheVariants.{Transparent, Linear}
use Rattle.script_reader.specs.Fields.{flag, text, whole_to, hex, hex_of, ids, list, field, optional, with_default, only}

-- ---- what JSON says

abbrev pub reference_of : List ℕ → ArrRef
reference_of bytes = record { file_id = pair_value (slice_index bytes 0) (slice_index bytes 1); row = slice_index bytes 2 }

-- the id of EF_ARR and the number of its record
abbrev pub reference : Data → Result ArrRef Why
reference d = do
  bytes ← hex_of 3 d
  Ok (reference_of bytes)

abbrev pub transparent_fields : List (List ℕ)
transparent_fields = codes "active" ∷ codes "arr" ∷ codes "data" ∷ codes "endless" ∷ codes "fcp" ∷ codes "kind" ∷ codes "path" ∷ []

abbrev pub transparent : Data → Result KindSpec Why
transparent d = do
  known ← only transparent_fields d
  bytes ← field hex (codes "data") d
  Ok (Transparent bytes)

abbrev pub linear_fields : List (List ℕ)
linear_fields = codes "active" ∷ codes "arr" ∷ codes "endless" ∷ codes "fcp" ∷ codes "kind" ∷ codes "len" ∷ codes "path" ∷ codes "records" ∷ []

abbrev pub linear : Data → Result KindSpec Why
linear d = do
  known ← only linear_fields d
  len ← field (whole_to 65535) (codes "len") d
  rows ← field (list hex) (codes "records") d
  Ok (Linear len rows)

abbrev pub kind_named : List ℕ → Data → Result KindSpec Why
kind_named name d =
    if same_bytes name (codes "transparent") then transparent d
    else if same_bytes name (codes "linear") then linear d
    else Err why.Form

abbrev pub kind_form : Data → Result KindSpec Why
kind_form d = do
  name ← field text (codes "kind") d
  kind_named name d

unfoldable pub file_form : Data → Result FileSpec Why
file_form d = do
  kind ← kind_form d
  path ← field ids (codes "path") d
  arr ← optional reference (codes "arr") d
  active ← with_default true flag (codes "active") d
  endless ← with_default false flag (codes "endless") d
  fcp ← optional hex (codes "fcp") d
  Ok (record { path = path; kind = kind; arr = arr; active = active; endless = endless; fcp = fcp })

-- ---- limits

abbrev pub is_kind_within : KindSpec → Bool
is_kind_within (Transparent bytes) = nat_le (length bytes) 1024
is_kind_within (Linear len rows) = is_between 1 255 len && nat_le (length rows) 254

abbrev pub is_template_within : Option (List ℕ) → Bool
is_template_within None = true
is_template_within (Some bytes) = nat_le (length bytes) 256

abbrev pub is_file_within : FileSpec → Bool
is_file_within file = is_kind_within file.kind && is_template_within file.fcp

abbrev pub are_files_within : List FileSpec → Bool
are_files_within files = nat_le (length files) 64 && list_all is_file_within files

-- ---- paths

-- one to three ids, none of which is that of the master file
abbrev pub is_path : List ℕ → Bool
is_path path = is_between 1 3 (length path) && not (is_one_of master_file path)

abbrev pub has_path : FileSpec → Bool
has_path file = is_path file.path

abbrev pub with_path : FileSpec → Result FileSpec Why
with_path file = if is_path file.path then Ok file else Err why.Path

abbrev pub path_of : List ℕ → Result (List ℕ) Why
path_of ids = if is_path ids then Ok ids else Err why.Path

-- the two are different files, and neither is a directory of the other
abbrev pub are_apart : FileSpec → FileSpec → Bool
are_apart a b = not (is_prefix a.path b.path) && not (is_prefix b.path a.path)

abbrev pub are_all_apart : List FileSpec → Bool
are_all_apart [] = true
are_all_apart (file ∷ files) = list_all (are_apart file) files && are_all_apart files

-- each path is one, and the files stand apart
abbrev pub are_placed : List FileSpec → Bool
are_placed files = list_all has_path files && are_all_apart files

-- ---- shapes

abbrev pub has_rows : KindSpec → Bool
has_rows (Transparent bytes) = true
has_rows (Linear len rows) = list_all (λ (row : List ℕ). length row == len) rows

abbrev pub is_template : List ℕ → Bool
is_template bytes = is_ok (read_fcp bytes)

-- each record has the stated length, and control parameters of its own are none that can be read
abbrev pub has_shape : FileSpec → Bool
has_shape file = has_rows file.kind && not (has_value is_template file.fcp)

abbrev pub have_shape : List FileSpec → Bool
have_shape files = list_all has_shape files
