-- Cards and changes: what JSON says of them, and the rules that they keep.
use Rattle.std.specs.Prelude.{ℕ, ◌==◌, ◌&&◌, ◌||◌, not, Bool, false, nat_lt, nat_le, if◌then◌else◌, List, [], ◌∷◌, length, Result, Ok, Err, codes}
use Rattle.std.specs.List.{list_any, list_all}
use Rattle.apdu.specs.Words.{◌>>=◌, is_between, is_one_of, path_is_in}
use Rattle.refresh_cmd.specs.Proactive.{refresh_type}
use Rattle.card_model.specs.Card.{is_prefix, is_in_application, usim_aid_prefix}
use Rattle.serde_json.specs.Data.{Data}
use Rattle.script_reader.specs.declared.error.Why.{Why}
use Rattle.script_reader.specs.declared.error.Why.TheVariants as why
use Rattle.script_reader.specs.declared.types.FileSpec.{FileSpec}
use Rattle.script_reader.specs.declared.types.KeySpec.{KeySpec}
use Rattle.script_reader.specs.declared.types.CardSpec.{CardSpec}
use Rattle.script_reader.specs.declared.types.ChangeSpec.{ChangeSpec}
use Rattle.script_reader.specs.Reading.{all_of, rule}
use Rattle.script_reader.specs.Fields.{flag, whole_to, hex, first_byte, hex_of, ids, list, field, with_default, only}
use Rattle.script_reader.specs.Files.{file_form, are_files_within, path_of, with_path, is_path, are_all_apart, are_placed, have_shape}

-- ---- keys

-- the number of tries left is at most that after a success, which is 1 to 15
abbrev pub are_tries : KeySpec → Bool
are_tries key = is_between 1 15 key.max && nat_le key.tries key.max

unfoldable pub key_form : Data → Result KeySpec Why
key_form d = do
  known ← only (codes "key" ∷ codes "max" ∷ codes "pin" ∷ codes "tries" ∷ []) d
  key ← field (hex_of 1) (codes "key") d
  pin ← field (hex_of 8) (codes "pin") d
  tries ← field (whole_to 255) (codes "tries") d
  max ← field (whole_to 255) (codes "max") d
  let spec : KeySpec = record { key = first_byte key; pin = pin; tries = tries; max = max }
  if are_tries spec then Ok spec else Err why.Form

-- ---- cards

unfoldable pub card_form : Data → Result CardSpec Why
card_form d = do
  known ← only (codes "aids" ∷ codes "channels" ∷ codes "files" ∷ codes "get_response" ∷ codes "keys" ∷ []) d
  files ← field (list file_form) (codes "files") d
  aids ← with_default [] (list hex) (codes "aids") d
  keys ← with_default [] (list key_form) (codes "keys") d
  channels ← with_default 3 (whole_to 255) (codes "channels") d
  get_response ← with_default false flag (codes "get_response") d
  Ok (record { files = files; aids = aids; keys = keys; channels = channels; get_response = get_response })

-- an application identifier has 5 to 16 bytes
abbrev pub is_aid : List ℕ → Bool
is_aid aid = is_between 5 16 (length aid)

abbrev pub is_card_within : CardSpec → Bool
is_card_within card = are_files_within card.files && nat_le (length card.aids) 8 && list_all is_aid card.aids && nat_le (length card.keys) 8 && nat_le card.channels 3

-- an application whose identifier begins as that of a USIM, ETSI TS 101 220
abbrev pub is_usim : List ℕ → Bool
is_usim aid = is_prefix usim_aid_prefix aid

abbrev pub has_usim : List (List ℕ) → Bool
has_usim aids = list_any is_usim aids

abbrev pub is_outside_application : FileSpec → Bool
is_outside_application file = not (is_in_application file.path)

abbrev pub are_outside_application : List FileSpec → Bool
are_outside_application files = list_all is_outside_application files

abbrev pub has_card_shape : CardSpec → Bool
has_card_shape card = have_shape card.files && (has_usim card.aids || are_outside_application card.files)

-- the card, where the paths of its files are paths and apart
abbrev pub card_with_paths : CardSpec → Result CardSpec Why
card_with_paths form = do
  files ← all_of with_path form.files
  apart ← rule why.Path (are_all_apart files)
  Ok (record form { files = files })

-- the rules of a card, behind those of its form
abbrev pub checked_card : List CardSpec → CardSpec → Result CardSpec Why
checked_card before form = do
  limit ← rule why.Limit (nat_lt (length before) 4 && is_card_within form)
  card ← card_with_paths form
  shape ← rule why.Shape (has_card_shape card)
  Ok card

-- a card, behind the cards before it
unfoldable pub card_item : List CardSpec → Data → Result CardSpec Why
card_item before d = do
  form ← card_form d
  checked_card before form

-- a card that keeps the rules of a card
abbrev pub is_card : CardSpec → Bool
is_card card = is_card_within card && are_placed card.files && has_card_shape card && list_all are_tries card.keys

-- ---- changes

unfoldable pub change_form : Data → Result ChangeSpec Why
change_form d = do
  known ← only (codes "files" ∷ codes "list" ∷ codes "qualifier" ∷ codes "type" ∷ []) d
  qualifier ← field (whole_to 255) (codes "qualifier") d
  kind ← with_default 1 (whole_to 255) (codes "type") d
  paths ← with_default [] (list ids) (codes "list") d
  files ← with_default [] (list file_form) (codes "files") d
  Ok (record { qualifier = qualifier; kind = kind; list = paths; files = files })

abbrev pub is_listed : List (List ℕ) → FileSpec → Bool
is_listed paths file = path_is_in paths file.path

-- a REFRESH by whose qualifier every file counts as changed, or that lists each file, TS 102 223 clause 8.6
abbrev pub tells_files : ChangeSpec → Bool
tells_files change = is_one_of change.qualifier (0 ∷ 4 ∷ 5 ∷ 6 ∷ []) || (nat_lt change.qualifier 7 && list_all (is_listed change.list) change.files)

abbrev pub is_empty_list : {A : Type 0} → List A → Bool
is_empty_list xs = length xs == 0

-- what a change changes, its REFRESH tells
abbrev pub is_honest : ChangeSpec → Bool
is_honest change = is_empty_list change.files || ((change.kind == refresh_type) && tells_files change)

-- the change, where its paths are paths, and those of its files apart
abbrev pub change_with_paths : ChangeSpec → Result ChangeSpec Why
change_with_paths form = do
  list ← all_of path_of form.list
  files ← all_of with_path form.files
  apart ← rule why.Path (are_all_apart files)
  Ok (record form { list = list; files = files })

-- the rules of a change, behind those of its form; a list has at most eight paths
abbrev pub checked_change : List ChangeSpec → ChangeSpec → Result ChangeSpec Why
checked_change before form = do
  few ← rule why.Form (nat_le (length form.list) 8)
  limit ← rule why.Limit (nat_lt (length before) 64 && are_files_within form.files)
  change ← change_with_paths form
  shape ← rule why.Shape (have_shape change.files)
  honest ← rule why.Honest (is_honest change)
  Ok change

-- a change, behind the changes before it
unfoldable pub change_item : List ChangeSpec → Data → Result ChangeSpec Why
change_item before d = do
  form ← change_form d
  checked_change before form

abbrev pub is_change_within : ChangeSpec → Bool
is_change_within change = nat_le (length change.list) 8 && are_files_within change.files

abbrev pub is_change_placed : ChangeSpec → Bool
is_change_placed change = list_all is_path change.list && are_placed change.files

-- a change that keeps the rules of a change
abbrev pub is_change : ChangeSpec → Bool
is_change change = is_change_within change && is_change_placed change && have_shape change.files && is_honest change
