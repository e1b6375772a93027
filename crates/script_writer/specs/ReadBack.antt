-- What is read back as it was, from what is written of it; where a type allows more than a script does, of what keeps the rule.
use Rattle.std.specs.Prelude.{◌≡◌, ℕ, true, nat_le, List, [], ◌∷◌, IfSome, Ok, All, ⊤}
use Rattle.std.specs.List.{list_all}
use Rattle.hex.specs.Hex.{IsBytes}
use Rattle.apdu.specs.Apdu.{read_command, command_bytes}
use Rattle.fcp.specs.declared.control.ArrRef.{ArrRef}
use Rattle.card_model.specs.declared.world.Fault.{Fault}
use Rattle.script_reader.specs.declared.types.FileSpec.{FileSpec}
use Rattle.script_reader.specs.declared.types.KeySpec.{KeySpec}
use Rattle.script_reader.specs.declared.types.KindSpec.{KindSpec}
use Rattle.script_reader.specs.declared.types.KindSpec.TheVariants.{Transparent, Linear}
use Rattle.script_reader.specs.declared.types.CardSpec.{CardSpec}
use Rattle.script_reader.specs.declared.types.ChangeSpec.{ChangeSpec}
use Rattle.script_reader.specs.declared.types.Operation.{Operation}
use Rattle.script_reader.specs.declared.types.Operation.TheVariants as operation
use Rattle.script_reader.specs.declared.types.Script.{Script}
use Rattle.script_reader.specs.Fields.{whole_to, hex, hex_of, ids}
use Rattle.script_reader.specs.Files.{reference, file_form}
use Rattle.script_reader.specs.Cards.{are_tries, key_form, card_form, change_form}
use Rattle.script_reader.specs.Operations.{operation_form, has_form}
use Rattle.script_reader.specs.Parts.{fault_form}
use Rattle.script_reader.specs.Scripts.{script_of_data}
use Rattle.script_reader.specs.Rules.{keeps_rules}
use Rattle.script_writer.specs.Writing.{number_data, hex_data, path_data, reference_data, file_data, key_data, card_data, change_data, fault_data, operation_data, script_data}

-- ---- values

-- a number, where this is the largest one
abbrev pub IsNumberBack : ℕ → ℕ → Type 0
IsNumberBack limit n = whole_to limit (number_data n) ≡ Ok n

abbrev pub IsHexBack : List ℕ → Type 0
IsHexBack bytes = hex (hex_data bytes) ≡ Ok bytes

-- so many bytes
abbrev pub IsSizedBack : ℕ → List ℕ → Type 0
IsSizedBack count bytes = hex_of count (hex_data bytes) ≡ Ok bytes

abbrev pub IsPathBack : List ℕ → Type 0
IsPathBack path = ids (path_data path) ≡ Ok path

abbrev pub IsReferenceBack : ArrRef → Type 0
IsReferenceBack r = reference (reference_data r) ≡ Ok r

-- ---- files

abbrev pub IsKindBack : KindSpec → Type 0
IsKindBack (Transparent bytes) = IsHexBack bytes
IsKindBack (Linear len rows) = IsNumberBack 65535 len × All IsHexBack rows

-- what is the same for files of both kinds
pub record AreFieldsBack (f : FileSpec) : Type 0 where
  pub path : IsPathBack f.path
  pub arr : IfSome f.arr IsReferenceBack
  pub fcp : IfSome f.fcp IsHexBack

abbrev pub IsFileBack : FileSpec → Type 0
IsFileBack f = file_form (file_data f) ≡ Ok f

-- ---- cards, changes and faults

abbrev pub IsKeyBack : KeySpec → Type 0
IsKeyBack k = are_tries k ≡ true → key_form (key_data k) ≡ Ok k

abbrev pub IsCardBack : CardSpec → Type 0
IsCardBack c = list_all are_tries c.keys ≡ true → card_form (card_data c) ≡ Ok c

abbrev pub IsChangeBack : ChangeSpec → Type 0
IsChangeBack c = change_form (change_data c) ≡ Ok c

abbrev pub IsFaultBack : Fault → Type 0
IsFaultBack f = nat_le f.at 4294967295 ≡ true → fault_form (fault_data f) ≡ Ok f

-- ---- operations

-- the fields of an operation
abbrev pub AreOwnBack : Operation → Type 0
AreOwnBack (operation.Insert card) = IsNumberBack 255 card
AreOwnBack operation.Out = ⊤
AreOwnBack (operation.Arm change) = IsNumberBack 255 change
AreOwnBack (operation.Load family) = ⊤
AreOwnBack (operation.Set family row name digits) = IfSome row (IsNumberBack 255)
AreOwnBack (operation.Clear family row) = IsNumberBack 255 row
AreOwnBack (operation.OpenChannel ref aid) = IsNumberBack 255 ref × IsHexBack aid
AreOwnBack (operation.Raw ref command) = IsNumberBack 255 ref × IsBytes (command_bytes command) × (read_command (command_bytes command) ≡ Ok command)
AreOwnBack (operation.Close ref) = IsNumberBack 255 ref
AreOwnBack (operation.Verify key pin) = IsBytes (key ∷ []) × IsSizedBack 8 pin
AreOwnBack (operation.End key) = IsBytes (key ∷ [])
AreOwnBack operation.Poll = ⊤
AreOwnBack operation.Look = ⊤
AreOwnBack (operation.Watch mask) = IsNumberBack 255 mask
AreOwnBack operation.Notices = ⊤

abbrev pub IsOperationBack : Operation → Type 0
IsOperationBack op = has_form op ≡ true → operation_form (operation_data op) ≡ Ok op

-- ---- the script

abbrev pub IsScriptBack : Script → Type 0
IsScriptBack s = keeps_rules s ≡ true → script_of_data (script_data s) ≡ Ok s
