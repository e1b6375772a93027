-- Files, directories, access rules and channels of a card, ETSI TS 102 221 clauses 8 and 9.
use Rattle.std.specs.Prelude.{ℕ, ◌-◌, ◌*◌, ◌==◌, ◌&&◌, ◌||◌, Bool, true, false, nat_lt, nat_eq, if◌then◌else◌, List, [], ◌∷◌, ◌++◌, length, take, find, position, slice_get, Option, Some, None, is_some, is_none, unwrap_or, option_map, option_and_then}
use Rattle.std.specs.List.{list_any, starts_with}
use Rattle.apdu.specs.Words.{same_bytes, is_empty, has_value, same_number}
use Rattle.fcp.specs.declared.rows.FileKind.TheVariants.{Directory}
use Rattle.fcp.specs.declared.control.ArrRef.{ArrRef}
use Rattle.fcp.specs.declared.control.Fcp.{Fcp}
use Rattle.fcp.specs.declared.rule.Need.{Need}
use Rattle.fcp.specs.declared.rule.Need.TheVariants.{Always, Never, Key}
use Rattle.fcp.specs.declared.rule.Rule.{Rule}
use Rattle.fcp.specs.Content.{Content, is_linear, missing}
use Rattle.fcp.specs.Control.{read_rule, write_fcp}
use Rattle.refresh_cmd.specs.Proactive.{master_file, proactive_bytes}
use Rattle.card_model.specs.declared.world.FileState.{FileState}
use Rattle.card_model.specs.declared.world.PinState.{PinState}
use Rattle.card_model.specs.declared.world.ChannelState.{ChannelState}
use Rattle.card_model.specs.declared.world.Change.{Change}
use Rattle.card_model.specs.declared.world.CardState.{CardState}

-- ---- ids and paths; the master file (MF) is the empty path

-- the id that stands for the directory of the current application
abbrev pub application_id : ℕ
application_id = 0x7FFF

abbrev pub usim_aid_prefix : List ℕ
usim_aid_prefix = 0xA0 ∷ 0x00 ∷ 0x00 ∷ 0x00 ∷ 0x87 ∷ 0x10 ∷ 0x02 ∷ []

abbrev pub is_prefix : List ℕ → List ℕ → Bool
is_prefix prefix path = starts_with nat_eq path prefix

abbrev pub is_in_application : List ℕ → Bool
is_in_application path = is_prefix (application_id ∷ []) path

-- the path without its last id
abbrev pub directory_of : List ℕ → List ℕ
directory_of path = take (length path - 1) path

abbrev pub last_id : List ℕ → ℕ
last_id path = unwrap_or (slice_get path (length path - 1)) master_file

-- ---- applications

-- the first application whose identifier begins with these bytes
abbrev pub application_named : List ℕ → CardState → Option ℕ
application_named name card = position (λ aid. starts_with nat_eq aid name) card.aids

abbrev pub usim_of : CardState → Option ℕ
usim_of card = application_named usim_aid_prefix card

-- ---- files

abbrev pub has_path : List ℕ → FileState → Bool
has_path path file = same_bytes file.path path

abbrev pub file_at : List ℕ → CardState → Option FileState
file_at path card = find (has_path path) card.files

-- where the file of a path stands among the card's files
abbrev pub file_place : List ℕ → CardState → Option ℕ
file_place path card = position (has_path path) card.files

-- the file of a path for what is no channel: 7FFF, and what stands below it, is there only where the card has a USIM
abbrev pub file_of : List ℕ → CardState → Option FileState
file_of path card = if is_in_application path && is_none (usim_of card) then None else file_at path card

-- what the file of a path holds
abbrev pub rows_of : List ℕ → CardState → Content
rows_of path card = unwrap_or (option_map (λ (f : FileState). f.rows) (file_of path card)) missing

-- the file stands below this directory
abbrev pub is_below : List ℕ → FileState → Bool
is_below directory file = is_prefix directory file.path && nat_lt (length directory) (length file.path)

-- every proper prefix of a file's path is a directory
abbrev pub is_directory_path : List ℕ → CardState → Bool
is_directory_path path card = list_any (is_below path) card.files

-- ---- channels

abbrev pub has_number : ℕ → ChannelState → Bool
has_number number channel = channel.number == number

-- where the channel of a number stands among the open ones
abbrev pub channel_place : ℕ → CardState → Option ℕ
channel_place number card = position (has_number number) card.channels

-- the basic channel, and a channel just opened: no application, and the MF selected
abbrev pub fresh_channel : ℕ → ChannelState
fresh_channel number = record { number = number; app = None; current = None }

abbrev pub current_path : ChannelState → List ℕ
current_path channel = unwrap_or channel.current []

-- the channel's application is the USIM
abbrev pub is_on_usim : CardState → ChannelState → Bool
is_on_usim card channel = is_some channel.app && same_number channel.app (usim_of card)

-- 7FFF, and what stands below it, is the USIM's
abbrev pub is_visible : CardState → ChannelState → List ℕ → Bool
is_visible card channel path = if is_in_application path then is_on_usim card channel else true

-- the file of a path as a channel sees it
abbrev pub file_seen : CardState → ChannelState → List ℕ → Option FileState
file_seen card channel path = if is_visible card channel path then file_at path card else None

-- where that file stands among the card's files
abbrev pub place_seen : CardState → ChannelState → List ℕ → Option ℕ
place_seen card channel path = if is_visible card channel path then file_place path card else None

-- the file that is current on a channel, where that is no directory
abbrev pub current_file : CardState → ChannelState → Option FileState
current_file card channel = option_and_then (file_seen card channel) channel.current

-- where that file stands among the card's files
abbrev pub current_place : CardState → ChannelState → Option ℕ
current_place card channel = option_and_then (place_seen card channel) channel.current

-- the directory that is current, or that of the current file
abbrev pub current_directory : CardState → ChannelState → List ℕ
current_directory card channel = if is_some (current_file card channel) then directory_of (current_path channel) else current_path channel

-- the MF, the directory of the channel's application where one is set, a file or another directory
abbrev pub is_selectable : CardState → ChannelState → List ℕ → Bool
is_selectable card channel path =
    if is_empty path then true
    else if same_bytes path (application_id ∷ []) then is_some channel.app
    else (is_some (file_at path card) || is_directory_path path card) && is_visible card channel path

-- ---- access rules

-- where the EF_ARR of a reference stands: under the MF for its id there, else beside the file
abbrev pub rule_file_path : List ℕ → ArrRef → List ℕ
rule_file_path path arr = if arr.file_id == 0x2F06 then 0x2F06 ∷ [] else directory_of path ++ arr.file_id ∷ []

abbrev pub never_rule : Rule
never_rule = record { read = Never; update = Never }

abbrev pub always_rule : Rule
always_rule = record { read = Always; update = Always }

-- the record of a number from 1; a transparent file has one, its whole content
abbrev pub record_at : ℕ → FileState → Option (List ℕ)
record_at number file = if nat_lt 0 number then slice_get file.rows.rows (number - 1) else None

abbrev pub rule_record : CardState → List ℕ → ArrRef → Option (List ℕ)
rule_record card path arr = option_and_then (record_at arr.row) (file_of (rule_file_path path arr) card)

abbrev pub rule_of_record : Option (List ℕ) → Rule
rule_of_record None = never_rule
rule_of_record (Some bytes) = read_rule bytes

abbrev pub rule_of_reference : CardState → List ℕ → Option ArrRef → Rule
rule_of_reference card path None = always_rule
rule_of_reference card path (Some arr) = rule_of_record (rule_record card path arr)

abbrev pub rule_of : CardState → FileState → Rule
rule_of card file = rule_of_reference card file.path file.arr

abbrev pub has_key : ℕ → PinState → Bool
has_key number key = key.key == number

-- the first key with this number
abbrev pub key_at : ℕ → CardState → Option PinState
key_at number card = find (has_key number) card.keys

-- where that key stands among the card's keys
abbrev pub key_place : ℕ → CardState → Option ℕ
key_place number card = position (has_key number) card.keys

abbrev pub is_met : CardState → Need → Bool
is_met card Always = true
is_met card Never = false
is_met card (Key number) = has_value (λ (k : PinState). k.verified) (key_at number card)

-- ---- control parameters of what is selected

-- the bytes of a file
abbrev pub content_size : Content → ℕ
content_size content = if is_linear content.kind then content.width * length content.rows else content.width

abbrev pub fields_of_file : FileState → Fcp
fields_of_file file = record {
  kind = file.rows.kind;
  size = content_size file.rows;
  file_id = Some (last_id file.path);
  width = if is_linear file.rows.kind then file.rows.width else 0;
  count = if is_linear file.rows.kind then length file.rows.rows else 0;
  active = file.active;
  arr = file.arr;
}

abbrev pub file_parameters : FileState → List ℕ
file_parameters file = unwrap_or file.fcp (write_fcp (fields_of_file file) [])

abbrev pub fields_of_directory : Option ℕ → Fcp
fields_of_directory id = record { kind = Directory; size = 0; file_id = id; width = 0; count = 0; active = true; arr = None }

-- the identifier of the channel's application
abbrev pub aid_of : CardState → ChannelState → List ℕ
aid_of card channel = unwrap_or (option_and_then (λ i. slice_get card.aids i) channel.app) []

-- an application's directory has its AID in place of a file id
abbrev pub directory_parameters : CardState → ChannelState → List ℕ
directory_parameters card channel =
    if same_bytes (current_path channel) (application_id ∷ [])
    then write_fcp (fields_of_directory None) (aid_of card channel)
    else write_fcp (fields_of_directory (Some (last_id (current_path channel)))) []

abbrev pub parameters_of_found : CardState → ChannelState → Option FileState → List ℕ
parameters_of_found card channel (Some file) = file_parameters file
parameters_of_found card channel None = directory_parameters card channel

-- of the file or directory that is current
abbrev pub current_parameters : CardState → ChannelState → List ℕ
current_parameters card channel = parameters_of_found card channel (current_file card channel)

-- ---- announced changes

-- the proactive command that announces a change
abbrev pub change_command : Change → List ℕ
change_command change = proactive_bytes 1 change.kind change.qualifier change.list

abbrev pub first_armed : List Change → CardState → Option Change
first_armed changes card = option_and_then (slice_get changes) (slice_get card.armed 0)
