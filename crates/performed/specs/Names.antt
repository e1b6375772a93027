-- Scripts whose names of entries are UTF-8, as every text of a program is.
use Rattle.std.specs.Prelude.{Bool, true}
use Rattle.std.specs.List.{list_all}
use Rattle.std.specs.Str.{is_utf8}
use Rattle.script_reader.specs.declared.types.Script.{Script}
use Rattle.script_reader.specs.declared.types.Operation.{Operation}
use Rattle.script_reader.specs.declared.types.Operation.TheVariants as operation

-- the name of an entry is UTF-8
abbrev pub has_utf8_name : Operation → Bool
has_utf8_name (operation.Insert card) = true
has_utf8_name operation.Out = true
has_utf8_name (operation.Arm change) = true
has_utf8_name (operation.Load f) = true
has_utf8_name (operation.Set f at name number) = is_utf8 name
has_utf8_name (operation.Clear f at) = true
has_utf8_name (operation.OpenChannel handle aid) = true
has_utf8_name (operation.Raw handle apdu) = true
has_utf8_name (operation.Close handle) = true
has_utf8_name (operation.Verify key pin) = true
has_utf8_name operation.Poll = true
has_utf8_name (operation.End key) = true
has_utf8_name operation.Look = true
has_utf8_name (operation.Watch mask) = true
has_utf8_name operation.Notices = true

abbrev pub has_utf8_names : Script → Bool
has_utf8_names s = list_all (list_all has_utf8_name) s.actors
