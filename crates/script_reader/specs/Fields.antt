-- Values and fields of a JSON object. What has not its form breaks `Form`.
use Rattle.std.specs.Prelude.{ℕ, ◌+◌, ◌==◌, Bool, false, nat_le, if◌then◌else◌, List, [], ◌∷◌, slice_index, Option, Some, None, is_some, option_map, option_and_then, Result, Ok, Err}
use Rattle.std.specs.Option.{option_map_or}
use Rattle.apdu.specs.Words.{◌>>=◌, pair_value}
use Rattle.hex.specs.Hex.{decode_of, decode_sized}
use Rattle.hex.specs.declared.error.FromHexError.{FromHexError}
use Rattle.serde_json.specs.Data.{Data, Items, no_items, item, Members, no_members, member}
use Rattle.serde_json.specs.Find.{as_bool, as_number, as_str, as_array, as_object, as_u64, get}
use Rattle.script_reader.specs.declared.error.Why.{Why}
use Rattle.script_reader.specs.declared.error.Why.TheVariants.{Form}
use Rattle.script_reader.specs.Reading.{all_of, rule}

-- what is there
abbrev pub there : {A : Type 0} → Option A → Result A Why
there None = Err Form
there (Some x) = Ok x

-- ---- values

abbrev pub flag : Data → Result Bool Why
flag d = there (as_bool d)

abbrev pub text : Data → Result (List ℕ) Why
text d = there (as_str d)

-- a number without sign, fraction and exponent
abbrev pub whole : Data → Result ℕ Why
whole d = there (option_and_then as_u64 (as_number d))

abbrev pub whole_to : ℕ → Data → Result ℕ Why
whole_to limit d = do
  n ← whole d
  if nat_le n limit then Ok n else Err Form

abbrev pub decoded : Result (List ℕ) FromHexError → Result (List ℕ) Why
decoded (Ok bytes) = Ok bytes
decoded (Err error) = Err Form

-- hexadecimal digits of either case, two to a byte
abbrev pub hex : Data → Result (List ℕ) Why
hex d = do
  digits ← text d
  decoded (decode_of digits)

-- hexadecimal of so many bytes
abbrev pub hex_of : ℕ → Data → Result (List ℕ) Why
hex_of count d = do
  digits ← text d
  decoded (decode_sized digits count)

abbrev pub first_byte : List ℕ → ℕ
first_byte bytes = slice_index bytes 0

-- two bytes to a file id
abbrev pub ids_of : List ℕ → Option (List ℕ)
ids_of [] = Some []
ids_of (b ∷ []) = None
ids_of (high ∷ low ∷ bytes) = option_map (λ ids. pair_value high low ∷ ids) (ids_of bytes)

-- the file ids of a path; how many there may be is a rule of its own
abbrev pub ids : Data → Result (List ℕ) Why
ids d = do
  bytes ← hex d
  there (ids_of bytes)

-- ---- lists

abbrev pub item_list : Items → List Data
item_list no_items = []
item_list (item d ds) = d ∷ item_list ds

abbrev pub list_of : Data → Option (List Data)
list_of d = option_map item_list (as_array d)

abbrev pub list : {A : Type 0} → (Data → Result A Why) → Data → Result (List A) Why
list read d = do
  values ← there (list_of d)
  all_of read values

-- ---- fields of an object

abbrev pub field_in : {A : Type 0} → (Data → Result A Why) → Option Data → Result A Why
field_in read None = Err Form
field_in read (Some d) = read d

-- a field that has to be there
abbrev pub field : {A : Type 0} → (Data → Result A Why) → List ℕ → Data → Result A Why
field read name d = field_in read (get name d)

abbrev pub optional_in : {A : Type 0} → (Data → Result A Why) → Option Data → Result (Option A) Why
optional_in read None = Ok None
optional_in read (Some d) = do
  x ← read d
  Ok (Some x)

-- a field that may be left out
abbrev pub optional : {A : Type 0} → (Data → Result A Why) → List ℕ → Data → Result (Option A) Why
optional read name d = optional_in read (get name d)

abbrev pub default_in : {A : Type 0} → A → (Data → Result A Why) → Option Data → Result A Why
default_in default read None = Ok default
default_in default read (Some d) = read d

-- a field that is at this value where it is left out
abbrev pub with_default : {A : Type 0} → A → (Data → Result A Why) → List ℕ → Data → Result A Why
with_default default read name d = default_in default read (get name d)

abbrev pub count_members : Members → ℕ
count_members no_members = 0
count_members (member k d ms) = count_members ms + 1

-- how many of the names are members; an object has each key once
abbrev pub count_known : List (List ℕ) → Data → ℕ
count_known [] d = 0
count_known (name ∷ names) d = (if is_some (get name d) then 1 else 0) + count_known names d

-- an object that has no field beside those of these names
abbrev pub has_only : List (List ℕ) → Data → Bool
has_only names d = option_map_or (λ ms. count_members ms == count_known names d) (as_object d) false

abbrev pub only : List (List ℕ) → Data → Result (Unit {0}) Why
only names d = rule Form (has_only names d)
