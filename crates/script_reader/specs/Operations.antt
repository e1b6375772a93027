-- The operations of an actor: what JSON says of each, and the rules that it keeps.
use Rattle.std.specs.Prelude.{ℕ, ◌+◌, ◌&&◌, Bool, true, nat_lt, nat_le, if◌then◌else◌, List, [], ◌∷◌, length, Result, Ok, Err, codes}
use Rattle.std.specs.List.{list_all}
use Rattle.apdu.specs.Words.{◌>>=◌, is_between, is_one_of, same_bytes}
use Rattle.apdu.specs.Values.{CommandValue}
use Rattle.apdu.specs.Apdu.{read_command}
use Rattle.apdu.specs.declared.command.ApduError.{ApduError}
use Rattle.serde_json.specs.Data.{Data}
use Rattle.script_reader.specs.declared.error.Why.{Why}
use Rattle.script_reader.specs.declared.error.Why.TheVariants as why
use Rattle.script_reader.specs.declared.types.Operation.{Operation}
use Rattle.script_reader.specs.declared.types.Operation.TheVariants as operation
use Rattle.script_reader.specs.Reading.{rule}
use Rattle.script_reader.specs.Fields.{text, whole_to, hex, hex_of, first_byte, list, field, optional, only}
use Rattle.script_reader.specs.Pairing.{are_paired}

-- ---- values

-- the records, the phonebook and the fixed dialling numbers
abbrev pub is_family : ℕ → Bool
is_family files = nat_le files 2

abbrev pub family_named : List ℕ → Result ℕ Why
family_named name =
    if same_bytes name (codes "records") then Ok 0
    else if same_bytes name (codes "phonebook") then Ok 1
    else if same_bytes name (codes "fixed") then Ok 2
    else Err why.Form

-- a family of files by its name
abbrev pub family : Data → Result ℕ Why
family d = do
  name ← field text (codes "family") d
  family_named name

abbrev pub of_raw_class : Result CommandValue ApduError → Result CommandValue Why
of_raw_class (Err error) = Err why.Form
of_raw_class (Ok c) = if is_one_of c.class (0x00 ∷ 0x80 ∷ []) then Ok c else Err why.Form

-- a command of class 00 or 80
abbrev pub raw_command : Data → Result CommandValue Why
raw_command d = do
  bytes ← hex d
  of_raw_class (read_command bytes)

-- ---- what JSON says of each operation

abbrev pub insert : Data → Result Operation Why
insert d = do
  known ← only (codes "card" ∷ codes "op" ∷ []) d
  card ← field (whole_to 255) (codes "card") d
  Ok (operation.Insert card)

abbrev pub arm : Data → Result Operation Why
arm d = do
  known ← only (codes "change" ∷ codes "op" ∷ []) d
  change ← field (whole_to 255) (codes "change") d
  Ok (operation.Arm change)

abbrev pub load : Data → Result Operation Why
load d = do
  known ← only (codes "family" ∷ codes "op" ∷ []) d
  files ← family d
  Ok (operation.Load files)

abbrev pub set_entry : Data → Result Operation Why
set_entry d = do
  known ← only (codes "at" ∷ codes "family" ∷ codes "name" ∷ codes "number" ∷ codes "op" ∷ []) d
  files ← family d
  row ← optional (whole_to 255) (codes "at") d
  name ← field text (codes "name") d
  number ← field text (codes "number") d
  Ok (operation.Set files row name number)

abbrev pub clear : Data → Result Operation Why
clear d = do
  known ← only (codes "at" ∷ codes "family" ∷ codes "op" ∷ []) d
  files ← family d
  row ← field (whole_to 255) (codes "at") d
  Ok (operation.Clear files row)

-- a number that names a channel is at most 15
abbrev pub is_handle : ℕ → Bool
is_handle ref = nat_le ref 15

-- the number that names a channel
abbrev pub handle : Data → Result ℕ Why
handle d = do
  ref ← field (whole_to 255) (codes "ref") d
  few ← rule why.Form (is_handle ref)
  Ok ref

abbrev pub open_channel : Data → Result Operation Why
open_channel d = do
  known ← only (codes "aid" ∷ codes "op" ∷ codes "ref" ∷ []) d
  ref ← handle d
  aid ← field hex (codes "aid") d
  size ← rule why.Form (is_between 5 16 (length aid))
  Ok (operation.OpenChannel ref aid)

abbrev pub raw : Data → Result Operation Why
raw d = do
  known ← only (codes "apdu" ∷ codes "op" ∷ codes "ref" ∷ []) d
  ref ← handle d
  command ← field raw_command (codes "apdu") d
  Ok (operation.Raw ref command)

abbrev pub close : Data → Result Operation Why
close d = do
  known ← only (codes "op" ∷ codes "ref" ∷ []) d
  ref ← handle d
  Ok (operation.Close ref)

abbrev pub verify : Data → Result Operation Why
verify d = do
  known ← only (codes "key" ∷ codes "op" ∷ codes "pin" ∷ []) d
  key ← field (hex_of 1) (codes "key") d
  pin ← field (hex_of 8) (codes "pin") d
  Ok (operation.Verify (first_byte key) pin)

abbrev pub end_session : Data → Result Operation Why
end_session d = do
  known ← only (codes "key" ∷ codes "op" ∷ []) d
  key ← field (hex_of 1) (codes "key") d
  Ok (operation.End (first_byte key))

-- an operation without fields of its own
abbrev pub alone : Operation → Data → Result Operation Why
alone op d = do
  known ← only (codes "op" ∷ []) d
  Ok op

abbrev pub watch : Data → Result Operation Why
watch d = do
  known ← only (codes "mask" ∷ codes "op" ∷ []) d
  mask ← field (whole_to 255) (codes "mask") d
  Ok (operation.Watch mask)

-- ---- by name

abbrev pub channel_operation : List ℕ → Data → Result Operation Why
channel_operation name d =
    if same_bytes name (codes "open") then open_channel d
    else if same_bytes name (codes "raw") then raw d
    else if same_bytes name (codes "close") then close d
    else if same_bytes name (codes "verify") then verify d
    else if same_bytes name (codes "end") then end_session d
    else if same_bytes name (codes "poll") then alone operation.Poll d
    else if same_bytes name (codes "look") then alone operation.Look d
    else if same_bytes name (codes "watch") then watch d
    else if same_bytes name (codes "notices") then alone operation.Notices d
    else Err why.Form

abbrev pub operation_named : List ℕ → Data → Result Operation Why
operation_named name d =
    if same_bytes name (codes "in") then insert d
    else if same_bytes name (codes "out") then alone operation.Out d
    else if same_bytes name (codes "arm") then arm d
    else if same_bytes name (codes "load") then load d
    else if same_bytes name (codes "set") then set_entry d
    else if same_bytes name (codes "clear") then clear d
    else channel_operation name d

unfoldable pub operation_form : Data → Result Operation Why
operation_form d = do
  name ← field text (codes "op") d
  operation_named name d

-- ---- rules

-- what its form asks of an operation: its family, the number of its channel, its AID and its command
abbrev pub has_form : Operation → Bool
has_form (operation.Load files) = is_family files
has_form (operation.Set files row name number) = is_family files
has_form (operation.Clear files row) = is_family files
has_form (operation.OpenChannel ref aid) = is_handle ref && is_between 5 16 (length aid)
has_form (operation.Raw ref command) = is_handle ref && is_one_of command.class (0x00 ∷ 0x80 ∷ [])
has_form (operation.Close ref) = is_handle ref
has_form (operation.Insert card) = true
has_form operation.Out = true
has_form (operation.Arm change) = true
has_form (operation.Verify key pin) = true
has_form (operation.End key) = true
has_form operation.Poll = true
has_form operation.Look = true
has_form (operation.Watch mask) = true
has_form operation.Notices = true

-- a name and a number have at most 1,000 bytes each
abbrev pub is_operation_within : Operation → Bool
is_operation_within (operation.Set files row name number) = nat_le (length name) 1000 && nat_le (length number) 1000
is_operation_within (operation.Insert card) = true
is_operation_within operation.Out = true
is_operation_within (operation.Arm change) = true
is_operation_within (operation.Load files) = true
is_operation_within (operation.Clear files row) = true
is_operation_within (operation.OpenChannel ref aid) = true
is_operation_within (operation.Raw ref command) = true
is_operation_within (operation.Close ref) = true
is_operation_within (operation.Verify key pin) = true
is_operation_within (operation.End key) = true
is_operation_within operation.Poll = true
is_operation_within operation.Look = true
is_operation_within (operation.Watch mask) = true
is_operation_within operation.Notices = true

-- the phonebook and the fixed dialling numbers
abbrev pub is_editable : ℕ → Bool
is_editable files = is_one_of files (1 ∷ 2 ∷ [])

-- the card, the change or the editable family that it names is there
abbrev pub has_target : ℕ → ℕ → Operation → Bool
has_target cards changes (operation.Insert card) = nat_lt card cards
has_target cards changes (operation.Arm change) = nat_lt change changes
has_target cards changes (operation.Set files row name number) = is_editable files
has_target cards changes (operation.Clear files row) = is_editable files
has_target cards changes operation.Out = true
has_target cards changes (operation.Load files) = true
has_target cards changes (operation.OpenChannel ref aid) = true
has_target cards changes (operation.Raw ref command) = true
has_target cards changes (operation.Close ref) = true
has_target cards changes (operation.Verify key pin) = true
has_target cards changes (operation.End key) = true
has_target cards changes operation.Poll = true
has_target cards changes operation.Look = true
has_target cards changes (operation.Watch mask) = true
has_target cards changes operation.Notices = true

-- how many operations some actors have
abbrev pub operation_count : List (List Operation) → ℕ
operation_count [] = 0
operation_count (operations ∷ actors) = length operations + operation_count actors

-- at most eight actors, and 1,000 operations of all up to this one
abbrev pub is_actor_within : List (List Operation) → List Operation → Bool
is_actor_within before operations = nat_lt (length before) 8 && nat_le (length operations + operation_count before) 1000 && list_all is_operation_within operations

-- an actor, behind the actors before it
unfoldable pub actor_item : ℕ → ℕ → List (List Operation) → Data → Result (List Operation) Why
actor_item cards changes before d = do
  operations ← list operation_form d
  limit ← rule why.Limit (is_actor_within before operations)
  targets ← rule why.Target (list_all (has_target cards changes) operations)
  pairs ← rule why.Pairing (are_paired operations)
  Ok operations

-- the operations of an actor that keep its rules, where there are so many cards and changes
abbrev pub is_actor : ℕ → ℕ → List Operation → Bool
is_actor cards changes operations = list_all has_form operations && list_all is_operation_within operations && list_all (has_target cards changes) operations && are_paired operations
