-- An operation that has its form is read back from what is written of it.
use Rattle.std.proofs.Common.{◌≡◌, ℕ, zero, suc, Bool, true, List, [], ◌∷◌, length, Option, Some, None, IfSome, Ok, refl, arith}
use Rattle.std.proofs.lemmas.Bool.{and_parts, leb-true}
use Rattle.hex.specs.Hex.{IsBytes}
use Rattle.apdu.specs.Words.{is_between, is_one_of}
use Rattle.apdu.specs.Values.{CommandValue}
use Rattle.apdu.specs.Apdu.{read_command, command_bytes}
use Rattle.script_reader.specs.declared.types.Operation.{Operation}
use Rattle.script_reader.specs.declared.types.Operation.TheVariants as operation
use Rattle.script_reader.specs.Fields.{hex_of}
use Rattle.script_reader.specs.Operations.{is_family, family_named, raw_command, is_handle, operation_form}
use Rattle.script_writer.specs.Writing.{hex_data, byte_data, family_name, operation_data}
use Rattle.script_writer.specs.ReadBack.{IsNumberBack, IsHexBack, IsSizedBack, AreOwnBack, IsOperationBack}
use Rattle.script_writer.proofs.Values.{hex_back, byte_back}

abbrev IsRead : Operation → Type 0
IsRead op = operation_form (operation_data op) ≡ Ok op

abbrev IsNamed : ℕ → Type 0
IsNamed f = family_named (family_name f) ≡ Ok f

-- ---- each operation, whose parts are read back

insert_back : (n : ℕ) → IsNumberBack 255 n → IsRead (operation.Insert n)
unfolding operation_form operation_data
insert_back n h = rw h refl

arm_back : (n : ℕ) → IsNumberBack 255 n → IsRead (operation.Arm n)
unfolding operation_form operation_data
arm_back n h = rw h refl

watch_back : (n : ℕ) → IsNumberBack 255 n → IsRead (operation.Watch n)
unfolding operation_form operation_data
watch_back n h = rw h refl

load_back : (f : ℕ) → IsNamed f → IsRead (operation.Load f)
unfolding operation_form operation_data
load_back f h = rw h refl

clear_back : (f row : ℕ) → IsNamed f → IsNumberBack 255 row → IsRead (operation.Clear f row)
unfolding operation_form operation_data
clear_back f row h r = rw (h, r) refl

set_back : (f : ℕ) (row : Option ℕ) (name digits : List ℕ) → IsNamed f → IfSome row (IsNumberBack 255) → IsRead (operation.Set f row name digits)
unfolding operation_form operation_data
set_back f None name digits h r = rw h refl
set_back f (Some row) name digits h r = rw (h, r) refl

open_back : (ref : ℕ) (aid : List ℕ) → IsNumberBack 255 ref → is_handle ref ≡ true → IsHexBack aid → is_between 5 16 (length aid) ≡ true → IsRead (operation.OpenChannel ref aid)
unfolding operation_form operation_data
open_back ref aid h few a size = rw (h, few, a, size) refl

raw_back : (ref : ℕ) (c : CommandValue) → IsNumberBack 255 ref → is_handle ref ≡ true → raw_command (hex_data (command_bytes c)) ≡ Ok c → IsRead (operation.Raw ref c)
unfolding operation_form operation_data
raw_back ref c h few r = rw (h, few, r) refl

close_back : (ref : ℕ) → IsNumberBack 255 ref → is_handle ref ≡ true → IsRead (operation.Close ref)
unfolding operation_form operation_data
close_back ref h few = rw (h, few) refl

verify_back : (key : ℕ) (pin : List ℕ) → hex_of 1 (byte_data key) ≡ Ok (key ∷ []) → IsSizedBack 8 pin → IsRead (operation.Verify key pin)
unfolding operation_form operation_data
verify_back key pin k p = rw (k, p) refl

end_back : (key : ℕ) → hex_of 1 (byte_data key) ≡ Ok (key ∷ []) → IsRead (operation.End key)
unfolding operation_form operation_data
end_back key k = rw k refl

out_back : IsRead operation.Out
unfolding operation_form operation_data
out_back = refl

poll_back : IsRead operation.Poll
unfolding operation_form operation_data
poll_back = refl

look_back : IsRead operation.Look
unfolding operation_form operation_data
look_back = refl

notices_back : IsRead operation.Notices
unfolding operation_form operation_data
notices_back = refl

-- ---- and the parts of one that has its form

family_back : (f : ℕ) → is_family f ≡ true → IsNamed f
family_back zero h = refl
family_back (suc zero) h = refl
family_back (suc (suc zero)) h = refl
family_back (suc (suc (suc n))) h =
    let small = leb-true (suc (suc (suc n))) 2 h in
    absurd (omega (arith, small))

abbrev is_raw_class : CommandValue → Bool
is_raw_class c = is_one_of c.class (0x00 ∷ 0x80 ∷ [])

command_back : (c : CommandValue) → is_raw_class c ≡ true → IsBytes (command_bytes c) → read_command (command_bytes c) ≡ Ok c → raw_command (hex_data (command_bytes c)) ≡ Ok c
command_back c class are_bytes read = rw (hex_back (command_bytes c) are_bytes, read, class) refl

pub operation_is_back : (op : Operation) → AreOwnBack op → IsOperationBack op
operation_is_back (operation.Insert card) own form = insert_back card own
operation_is_back operation.Out own form = out_back
operation_is_back (operation.Arm change) own form = arm_back change own
operation_is_back (operation.Load family) own form = load_back family (family_back family form)
operation_is_back (operation.Set family row name digits) own form = set_back family row name digits (family_back family form) own
operation_is_back (operation.Clear family row) own form = clear_back family row (family_back family form) own
operation_is_back (operation.OpenChannel ref aid) own form =
    let parts = and_parts (is_handle ref) (is_between 5 16 (length aid)) form in
    open_back ref aid own.0 parts.0 own.1 parts.1
operation_is_back (operation.Raw ref command) own form =
    let parts = and_parts (is_handle ref) (is_raw_class command) form in
    raw_back ref command own.0 parts.0 (command_back command parts.1 own.1 own.2)
operation_is_back (operation.Close ref) own form = close_back ref own form
operation_is_back (operation.Verify key pin) own form = verify_back key pin (byte_back key own.0) own.1
operation_is_back (operation.End key) own form = end_back key (byte_back key own)
operation_is_back operation.Poll own form = poll_back
operation_is_back operation.Look own form = look_back
operation_is_back (operation.Watch mask) own form = watch_back mask own
operation_is_back operation.Notices own form = notices_back
