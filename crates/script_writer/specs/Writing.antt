-- The text of a script: compact JSON with its keys in byte order, hexadecimal in upper case, and each optional field at its default left out.
use Rattle.std.specs.Prelude.{ℕ, ◌==◌, not, Bool, if◌then◌else◌, List, [], ◌∷◌, ◌++◌, map, flat_map, Option, Some, None, option_map, codes}
use Rattle.apdu.specs.Words.{two_bytes, is_empty}
use Rattle.apdu.specs.Apdu.{command_bytes}
use Rattle.fcp.specs.declared.control.ArrRef.{ArrRef}
use Rattle.card_model.specs.declared.world.Fault.{Fault}
use Rattle.hex.specs.Hex.{encode_upper}
use Rattle.serde_json.specs.Data.{Data, boolean, number, string, array, object, unsigned, Members, no_members, put}
use Rattle.serde_json.specs.View.{items_of}
use Rattle.serde_json.specs.Written.{compact_text}
use Rattle.script_reader.specs.declared.types.FileSpec.{FileSpec}
use Rattle.script_reader.specs.declared.types.KeySpec.{KeySpec}
use Rattle.script_reader.specs.declared.types.KindSpec.{KindSpec}
use Rattle.script_reader.specs.declared.types.KindSpec.TheVariants.{Transparent, Linear}
use Rattle.script_reader.specs.declared.types.CardSpec.{CardSpec}
use Rattle.script_reader.specs.declared.types.ChangeSpec.{ChangeSpec}
use Rattle.script_reader.specs.declared.types.Script.{Script}
use Rattle.script_reader.specs.declared.types.Operation.{Operation}
use Rattle.script_reader.specs.declared.types.Operation.TheVariants as operation

-- ---- values

abbrev pub number_data : ℕ → Data
number_data n = number (unsigned n)

abbrev pub hex_data : List ℕ → Data
hex_data bytes = string (encode_upper bytes)

abbrev pub byte_data : ℕ → Data
byte_data b = hex_data (b ∷ [])

-- two bytes to a file id
abbrev pub path_data : List ℕ → Data
path_data path = hex_data (flat_map two_bytes path)

abbrev pub reference_data : ArrRef → Data
reference_data r = hex_data (two_bytes r.file_id ++ r.row ∷ [])

abbrev pub list_data : {A : Type 0} → (A → Data) → List A → Data
list_data written xs = array (items_of (map written xs))

-- ---- fields of an object, which put themselves into byte order

-- a field that may be left out
abbrev pub with_some : List ℕ → Option Data → Members → Members
with_some name None fields = fields
with_some name (Some d) fields = put name d fields

-- a field that is left out at its default
abbrev pub unless : Bool → List ℕ → Data → Members → Members
unless is_default name d fields = if is_default then fields else put name d fields

-- a list that is left out where it is empty
abbrev pub with_list : {A : Type 0} → List ℕ → (A → Data) → List A → Members → Members
with_list name written xs fields = unless (is_empty xs) name (list_data written xs) fields

infixl 20 ◌▸◌
abbrev pub ◌▸◌ : {A B : Type 0} → A → (A → B) → B
x ▸ f = f x

-- ---- the objects of a script

-- what is the same for files of both kinds
abbrev pub file_fields : FileSpec → Members
file_fields f =
    no_members
    ▸ unless f.active (codes "active") (boolean f.active)
    ▸ with_some (codes "arr") (option_map reference_data f.arr)
    ▸ unless (not f.endless) (codes "endless") (boolean f.endless)
    ▸ with_some (codes "fcp") (option_map hex_data f.fcp)
    ▸ put (codes "path") (path_data f.path)

abbrev pub with_kind : KindSpec → Members → Members
with_kind (Transparent bytes) fields = fields ▸ put (codes "data") (hex_data bytes) ▸ put (codes "kind") (string (codes "transparent"))
with_kind (Linear len rows) fields = fields ▸ put (codes "kind") (string (codes "linear")) ▸ put (codes "len") (number_data len) ▸ put (codes "records") (list_data hex_data rows)

unfoldable pub file_data : FileSpec → Data
file_data f = object (with_kind f.kind (file_fields f))

unfoldable pub key_data : KeySpec → Data
key_data k = object (
    no_members
    ▸ put (codes "key") (byte_data k.key)
    ▸ put (codes "max") (number_data k.max)
    ▸ put (codes "pin") (hex_data k.pin)
    ▸ put (codes "tries") (number_data k.tries))

unfoldable pub card_data : CardSpec → Data
card_data c = object (
    no_members
    ▸ with_list (codes "aids") hex_data c.aids
    ▸ unless (c.channels == 3) (codes "channels") (number_data c.channels)
    ▸ put (codes "files") (list_data file_data c.files)
    ▸ unless (not c.get_response) (codes "get_response") (boolean c.get_response)
    ▸ with_list (codes "keys") key_data c.keys)

unfoldable pub change_data : ChangeSpec → Data
change_data c = object (
    no_members
    ▸ with_list (codes "files") file_data c.files
    ▸ with_list (codes "list") path_data c.list
    ▸ put (codes "qualifier") (number_data c.qualifier)
    ▸ unless (c.kind == 1) (codes "type") (number_data c.kind))

unfoldable pub fault_data : Fault → Data
fault_data f = object (
    no_members
    ▸ put (codes "acted") (boolean f.acted)
    ▸ put (codes "at") (number_data f.at))

-- ---- operations

abbrev pub family_name : ℕ → List ℕ
family_name family = if family == 0 then codes "records" else if family == 1 then codes "phonebook" else codes "fixed"

abbrev pub with_family : ℕ → Members → Members
with_family family fields = put (codes "family") (string (family_name family)) fields

abbrev pub with_ref : ℕ → Members → Members
with_ref ref fields = put (codes "ref") (number_data ref) fields

abbrev pub operation_name : Operation → List ℕ
operation_name (operation.Insert card) = codes "in"
operation_name operation.Out = codes "out"
operation_name (operation.Arm change) = codes "arm"
operation_name (operation.Load family) = codes "load"
operation_name (operation.Set family row name digits) = codes "set"
operation_name (operation.Clear family row) = codes "clear"
operation_name (operation.OpenChannel ref aid) = codes "open"
operation_name (operation.Raw ref command) = codes "raw"
operation_name (operation.Close ref) = codes "close"
operation_name (operation.Verify key pin) = codes "verify"
operation_name (operation.End key) = codes "end"
operation_name operation.Poll = codes "poll"
operation_name operation.Look = codes "look"
operation_name (operation.Watch mask) = codes "watch"
operation_name operation.Notices = codes "notices"

abbrev pub with_operation : Operation → Members → Members
with_operation (operation.Insert card) fields = put (codes "card") (number_data card) fields
with_operation operation.Out fields = fields
with_operation (operation.Arm change) fields = put (codes "change") (number_data change) fields
with_operation (operation.Load family) fields = with_family family fields
with_operation (operation.Set family row name digits) fields =
    fields ▸ with_some (codes "at") (option_map number_data row) ▸ with_family family ▸ put (codes "name") (string name) ▸ put (codes "number") (string digits)
with_operation (operation.Clear family row) fields = fields ▸ put (codes "at") (number_data row) ▸ with_family family
with_operation (operation.OpenChannel ref aid) fields = fields ▸ put (codes "aid") (hex_data aid) ▸ with_ref ref
with_operation (operation.Raw ref command) fields = fields ▸ put (codes "apdu") (hex_data (command_bytes command)) ▸ with_ref ref
with_operation (operation.Close ref) fields = with_ref ref fields
with_operation (operation.Verify key pin) fields = fields ▸ put (codes "key") (byte_data key) ▸ put (codes "pin") (hex_data pin)
with_operation (operation.End key) fields = put (codes "key") (byte_data key) fields
with_operation operation.Poll fields = fields
with_operation operation.Look fields = fields
with_operation (operation.Watch mask) fields = put (codes "mask") (number_data mask) fields
with_operation operation.Notices fields = fields

unfoldable pub operation_data : Operation → Data
operation_data op = object (put (codes "op") (string (operation_name op)) no_members ▸ with_operation op)

-- ---- the script

unfoldable pub script_data : Script → Data
script_data s = object (
    no_members
    ▸ put (codes "actors") (list_data (list_data operation_data) s.actors)
    ▸ with_some (codes "budget") (option_map number_data s.budget)
    ▸ put (codes "cards") (list_data card_data s.cards)
    ▸ with_list (codes "changes") change_data s.changes
    ▸ with_list (codes "faults") fault_data s.faults
    ▸ with_list (codes "schedule") number_data s.schedule
    ▸ put (codes "version") (number_data s.version))

abbrev pub script_text : Script → List ℕ
script_text s = compact_text (script_data s)
