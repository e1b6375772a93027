-- Proactive commands, ETSI TS 102 223 clauses 6.6.13 (REFRESH), 8.6 (command details), 8.7 (device identities), 8.18 (file list) and 6.8 (terminal response).
use Rattle.std.specs.Prelude.{ℕ, ◌==◌, ◌&&◌, not, Bool, nat_le, if◌then◌else◌, List, [], ◌∷◌, ◌++◌, length, flat_map, Option, Some, None, option_map, Result, Ok, Err}
use Rattle.std.specs.List.{list_all}
use Rattle.apdu.specs.Words.{pair_value, two_bytes, is_between, is_one_of, is_empty}
use Rattle.tlv.specs.Objects.{Part, Parts, ber_parts, simple_parts, value_of_tag, part_bytes}
use Rattle.tlv.specs.declared.error.TlvError.{TlvError}
use Rattle.refresh_cmd.specs.Values.{ProactiveValue}
use Rattle.refresh_cmd.specs.declared.proactive.ProactiveError.{ProactiveError}
use Rattle.refresh_cmd.specs.declared.proactive.ProactiveError.TheVariants.{NotProactive, Tlv, Missing, BadList}

abbrev pub master_file : ℕ
master_file = 0x3F00

-- the type of REFRESH
abbrev pub refresh_type : ℕ
refresh_type = 0x01

-- ---- writing

-- a full path, which begins with the MF
abbrev pub path_bytes : List ℕ → List ℕ
path_bytes path = flat_map two_bytes (master_file ∷ path)

-- a count and the full paths, or nothing
abbrev pub list_part : List (List ℕ) → List ℕ
list_part [] = []
list_part (path ∷ paths) = part_bytes 0x92 (length (path ∷ paths) ∷ flat_map path_bytes (path ∷ paths))

-- command details and device identities, UICC to terminal, and then these bytes
abbrev pub with_details : ℕ → ℕ → ℕ → List ℕ → List ℕ
with_details number kind qualifier list =
    part_bytes 0xD0 (part_bytes 0x81 (number ∷ kind ∷ qualifier ∷ []) ++ part_bytes 0x82 (0x81 ∷ 0x82 ∷ []) ++ list)

-- the file list is there where it is not empty
abbrev pub proactive_bytes : ℕ → ℕ → ℕ → List (List ℕ) → List ℕ
proactive_bytes number kind qualifier paths = with_details number kind qualifier (list_part paths)

-- the command with these details and this file list
abbrev pub command_of : ℕ → ℕ → ℕ → List (List ℕ) → ProactiveValue
command_of number kind qualifier paths = record { number = number; kind = kind; qualifier = qualifier; list = paths }

abbrev pub write_refresh : ProactiveValue → List ℕ
write_refresh p = proactive_bytes p.number p.kind p.qualifier p.list

-- command details, device identities terminal to UICC, and the result
abbrev pub write_terminal_response : ℕ → ℕ → ℕ → ℕ → List ℕ
write_terminal_response number kind qualifier result =
    0x81 ∷ 0x03 ∷ number ∷ kind ∷ qualifier ∷ 0x82 ∷ 0x02 ∷ 0x82 ∷ 0x81 ∷ 0x83 ∷ 0x01 ∷ result ∷ []

-- no id of the path is the MF, so the path ends where the next begins
abbrev pub is_below_master : List ℕ → Bool
is_below_master path = not (is_one_of master_file path)

-- ---- reading

-- the bytes as ids of two bytes, where no byte is left over
abbrev pub ids_of : List ℕ → Option (List ℕ)
ids_of [] = Some []
ids_of (b ∷ []) = None
ids_of (high ∷ low ∷ rest) = option_map (λ ids. pair_value high low ∷ ids) (ids_of rest)

-- one id more in front: an MF begins a path with what stood before the first
abbrev pub with_id : ℕ → List ℕ × List (List ℕ) → List ℕ × List (List ℕ)
with_id id (before, paths) = if id == master_file then ([], before ∷ paths) else (id ∷ before, paths)

-- the ids cut before each MF: what stands before the first, and what stands behind each
abbrev pub split_paths : List ℕ → List ℕ × List (List ℕ)
split_paths [] = ([], [])
split_paths (id ∷ ids) = with_id id (split_paths ids)

-- one to three ids behind the MF
abbrev pub is_good_path : List ℕ → Bool
is_good_path path = is_between 1 3 (length path)

-- at most 64 paths, before which nothing stands
abbrev pub good_paths : List ℕ × List (List ℕ) → Option (List (List ℕ))
good_paths (before, paths) = if is_empty before && list_all is_good_path paths && nat_le (length paths) 64 then Some paths else None

-- the bytes as full paths
abbrev pub full_paths : List ℕ → Option (List (List ℕ))
full_paths bytes = elim (ids_of bytes) [ None ↦ None | Some ids ↦ good_paths (split_paths ids) ]

-- the paths, where there are as many as the count says
abbrev pub if_counted : ℕ → Option (List (List ℕ)) → Option (List (List ℕ))
if_counted count None = None
if_counted count (Some paths) = if length paths == count then Some paths else None

-- a count and as many full paths
abbrev pub paths_of : List ℕ → Option (List (List ℕ))
paths_of [] = None
paths_of (count ∷ bytes) = if_counted count (full_paths bytes)

-- without a file list there are no paths
abbrev pub listed_paths : Option (List ℕ) → Option (List (List ℕ))
listed_paths None = Some []
listed_paths (Some bytes) = paths_of bytes

-- the command, where its file list can be read
abbrev pub with_list : ℕ → ℕ → ℕ → Option (List (List ℕ)) → Result ProactiveValue ProactiveError
with_list number kind qualifier None = Err BadList
with_list number kind qualifier (Some paths) = Ok (command_of number kind qualifier paths)

-- the details have three bytes, and the identities two, which may be any; an object of another length counts as missing
abbrev pub proactive_from : Option (List ℕ) → Option (List ℕ) → Option (List (List ℕ)) → Result ProactiveValue ProactiveError
proactive_from (Some (number ∷ kind ∷ qualifier ∷ [])) (Some (source ∷ destination ∷ [])) paths = with_list number kind qualifier paths
proactive_from (Some (number ∷ kind ∷ qualifier ∷ [])) _ paths = Err (Missing 0x02)
proactive_from _ identities paths = Err (Missing 0x01)

-- the first object of each tag, where all objects can be read
abbrev pub proactive_parts : Parts → Result ProactiveValue ProactiveError
proactive_parts read = elim read.damage [
  | Some damage ↦ Err (Tlv damage)
  | None ↦ proactive_from (value_of_tag 0x01 read.parts) (value_of_tag 0x02 read.parts) (listed_paths (value_of_tag 0x12 read.parts))
]

-- the first object holds the command; what stands behind it is not read
abbrev pub proactive_object : List Part → Option TlvError → Result ProactiveValue ProactiveError
proactive_object (first ∷ rest) damage = proactive_parts (simple_parts first.value)
proactive_object [] (Some damage) = Err (Tlv damage)
proactive_object [] None = Err (Missing 0x01)

-- the first byte, 0 where there is none
abbrev pub first_byte : List ℕ → ℕ
first_byte [] = 0
first_byte (b ∷ bytes) = b

-- the tag of proactive commands is D0
abbrev pub read_proactive : List ℕ → Result ProactiveValue ProactiveError
read_proactive bytes =
    if first_byte bytes == 0xD0 then proactive_object (ber_parts bytes).parts (ber_parts bytes).damage
    else Err (NotProactive (first_byte bytes))
