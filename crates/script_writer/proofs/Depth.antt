-- The JSON of a script nests six levels.
use Rattle.std.proofs.Common.{ℕ, suc, ◌≤◌, ◌==◌, Bool, true, false, List, [], ◌∷◌, map, Option, Some, None, option_map, not, Ordering, Less, Equal, Greater, codes, arith}
use Rattle.std.specs.Ordering.{nat_cmp, match_ordering}
use Rattle.std.specs.Cmp.Lexicographic.{slice_cmp}
use Rattle.fcp.specs.declared.control.ArrRef.{ArrRef}
use Rattle.card_model.specs.declared.world.Fault.{Fault}
use Rattle.apdu.specs.Apdu.{command_bytes}
use Rattle.apdu.specs.Words.{is_empty}
use Rattle.serde_json.specs.Data.{Data, boolean, string, object, Members, no_members, member, put, depth, items_depth, members_depth}
use Rattle.serde_json.specs.View.{items_of}
use Rattle.script_reader.specs.declared.types.FileSpec.{FileSpec}
use Rattle.script_reader.specs.declared.types.KeySpec.{KeySpec}
use Rattle.script_reader.specs.declared.types.KindSpec.{KindSpec}
use Rattle.script_reader.specs.declared.types.KindSpec.TheVariants.{Transparent, Linear}
use Rattle.script_reader.specs.declared.types.CardSpec.{CardSpec}
use Rattle.script_reader.specs.declared.types.ChangeSpec.{ChangeSpec}
use Rattle.script_reader.specs.declared.types.Script.{Script}
use Rattle.script_reader.specs.declared.types.Operation.{Operation}
use Rattle.script_reader.specs.declared.types.Operation.TheVariants as operation
use Rattle.script_writer.specs.Writing as spec

-- the members nest no deeper
record Within (n : ℕ) (fields : Members) : Type 0 where
  is : members_depth fields ≤ n

abbrev IsWithin : ℕ → Data → Type 0
IsWithin n d = depth d ≤ n

one_of : (o : Ordering) (a b c : Members) (n : ℕ) → members_depth a ≤ n → members_depth b ≤ n → members_depth c ≤ n → members_depth (match_ordering o a b c) ≤ n
one_of Less a b c n p q r = p
one_of Equal a b c n p q r = q
one_of Greater a b c n p q r = r

put_depth : (k : List ℕ) (d : Data) (fields : Members) (n : ℕ) → depth d ≤ n → members_depth fields ≤ n → members_depth (put k d fields) ≤ n
put_depth k d no_members n p q = omega arith
put_depth k d (member l e fields) n p q =
    one_of (slice_cmp nat_cmp k l) (member k d (member l e fields)) (member l d fields) (member l e (put k d fields)) n (omega arith) (omega arith) (omega (arith, put_depth k d fields n p (omega arith)))

put_within : (n : ℕ) (k : List ℕ) (d : Data) (fields : Members) → IsWithin n d → Within n fields → Within n (put k d fields)
put_within n k d fields x y = record { is = put_depth k d fields n x y.is }

none : (n : ℕ) → Within n no_members
none n = record { is = omega arith }

object_within : (n : ℕ) (fields : Members) → Within n fields → IsWithin (suc n) (object fields)
object_within n fields x = omega (arith, x.is)

items_within : {A : Type 0} (n : ℕ) (f : A → Data) → ((x : A) → IsWithin n (f x)) → (xs : List A) → items_depth (items_of (map f xs)) ≤ n
items_within n f each [] = omega arith
items_within n f each (x ∷ xs) = omega (arith, each x, items_within n f each xs)

list_within : {A : Type 0} (n : ℕ) (f : A → Data) → ((x : A) → IsWithin n (f x)) → (xs : List A) → IsWithin (suc n) (spec.list_data f xs)
list_within n f each xs = omega (arith, items_within n f each xs)

some_within : {A : Type 0} (n : ℕ) (f : A → Data) → ((x : A) → IsWithin n (f x)) → (k : List ℕ) (o : Option A) (fields : Members) → Within n fields → Within n (spec.with_some k (option_map f o) fields)
some_within n f each k None fields x = x
some_within n f each k (Some y) fields x = put_within n k (f y) fields (each y) x

unless_within : (n : ℕ) (b : Bool) (k : List ℕ) (d : Data) (fields : Members) → IsWithin n d → Within n fields → Within n (spec.unless b k d fields)
unless_within n true k d fields x y = y
unless_within n false k d fields x y = put_within n k d fields x y

filled_within : {A : Type 0} (n : ℕ) (f : A → Data) → ((x : A) → IsWithin n (f x)) → (k : List ℕ) (xs : List A) (fields : Members) → Within (suc n) fields → Within (suc n) (spec.with_list k f xs fields)
filled_within n f each k xs fields x = unless_within (suc n) (is_empty xs) k (spec.list_data f xs) fields (list_within n f each xs) x

-- ---- values without items and members

number_within : (n : ℕ) (x : ℕ) → IsWithin n (spec.number_data x)
number_within n x = omega arith

hex_within : (n : ℕ) (x : List ℕ) → IsWithin n (spec.hex_data x)
hex_within n x = omega arith

path_within : (n : ℕ) (x : List ℕ) → IsWithin n (spec.path_data x)
path_within n x = omega arith

reference_within : (n : ℕ) (r : ArrRef) → IsWithin n (spec.reference_data r)
reference_within n r = omega arith

text_within : (n : ℕ) (x : List ℕ) → IsWithin n (string x)
text_within n x = omega arith

flag_within : (n : ℕ) (b : Bool) → IsWithin n (boolean b)
flag_within n b = omega arith

-- ---- objects

file_fields_within : (f : FileSpec) → Within 1 (spec.file_fields f)
file_fields_within f =
    put_within 1 (codes "path") (spec.path_data f.path) _ (path_within 1 f.path)
    (some_within 1 spec.hex_data (hex_within 1) (codes "fcp") f.fcp _
    (unless_within 1 (not f.endless) (codes "endless") (boolean f.endless) _ (flag_within 1 f.endless)
    (some_within 1 spec.reference_data (reference_within 1) (codes "arr") f.arr _
    (unless_within 1 f.active (codes "active") (boolean f.active) no_members (flag_within 1 f.active) (none 1)))))

kind_within : (k : KindSpec) (fields : Members) → Within 1 fields → Within 1 (spec.with_kind k fields)
kind_within (Transparent bytes) fields x =
    put_within 1 (codes "kind") (string (codes "transparent")) _ (text_within 1 (codes "transparent")) (put_within 1 (codes "data") (spec.hex_data bytes) fields (hex_within 1 bytes) x)
kind_within (Linear len rows) fields x =
    put_within 1 (codes "records") (spec.list_data spec.hex_data rows) _ (list_within 0 spec.hex_data (hex_within 0) rows)
    (put_within 1 (codes "len") (spec.number_data len) _ (number_within 1 len) (put_within 1 (codes "kind") (string (codes "linear")) fields (text_within 1 (codes "linear")) x))

file_within : (f : FileSpec) → IsWithin 2 (spec.file_data f)
unfolding spec.file_data
file_within f = object_within 1 _ (kind_within f.kind (spec.file_fields f) (file_fields_within f))

key_within : (k : KeySpec) → IsWithin 2 (spec.key_data k)
unfolding spec.key_data
key_within k = object_within 1 _
    (put_within 1 (codes "tries") (spec.number_data k.tries) _ (number_within 1 k.tries)
    (put_within 1 (codes "pin") (spec.hex_data k.pin) _ (hex_within 1 k.pin)
    (put_within 1 (codes "max") (spec.number_data k.max) _ (number_within 1 k.max) (put_within 1 (codes "key") (spec.byte_data k.key) no_members (hex_within 1 (k.key ∷ [])) (none 1)))))

card_within : (c : CardSpec) → IsWithin 4 (spec.card_data c)
unfolding spec.card_data
card_within c = object_within 3 _
    (filled_within 2 spec.key_data key_within (codes "keys") c.keys _
    (unless_within 3 (not c.get_response) (codes "get_response") (boolean c.get_response) _ (flag_within 3 c.get_response)
    (put_within 3 (codes "files") (spec.list_data spec.file_data c.files) _ (list_within 2 spec.file_data file_within c.files)
    (unless_within 3 (c.channels == 3) (codes "channels") (spec.number_data c.channels) _ (number_within 3 c.channels)
    (filled_within 2 spec.hex_data (hex_within 2) (codes "aids") c.aids no_members (none 3))))))

change_within : (c : ChangeSpec) → IsWithin 4 (spec.change_data c)
unfolding spec.change_data
change_within c = object_within 3 _
    (unless_within 3 (c.kind == 1) (codes "type") (spec.number_data c.kind) _ (number_within 3 c.kind)
    (put_within 3 (codes "qualifier") (spec.number_data c.qualifier) _ (number_within 3 c.qualifier)
    (filled_within 2 spec.path_data (path_within 2) (codes "list") c.list _
    (filled_within 2 spec.file_data file_within (codes "files") c.files no_members (none 3)))))

fault_within : (f : Fault) → IsWithin 4 (spec.fault_data f)
unfolding spec.fault_data
fault_within f = object_within 3 _ (put_within 3 (codes "at") (spec.number_data f.at) _ (number_within 3 f.at) (put_within 3 (codes "acted") (boolean f.acted) no_members (flag_within 3 f.acted) (none 3)))

own_within : (op : Operation) (fields : Members) → Within 1 fields → Within 1 (spec.with_operation op fields)
own_within (operation.Insert card) fields x = put_within 1 (codes "card") (spec.number_data card) fields (number_within 1 card) x
own_within operation.Out fields x = x
own_within (operation.Arm change) fields x = put_within 1 (codes "change") (spec.number_data change) fields (number_within 1 change) x
own_within (operation.Load family) fields x = put_within 1 (codes "family") (string (spec.family_name family)) fields (text_within 1 (spec.family_name family)) x
own_within (operation.Set family row name digits) fields x =
    put_within 1 (codes "number") (string digits) _ (text_within 1 digits)
    (put_within 1 (codes "name") (string name) _ (text_within 1 name)
    (put_within 1 (codes "family") (string (spec.family_name family)) _ (text_within 1 (spec.family_name family)) (some_within 1 spec.number_data (number_within 1) (codes "at") row fields x)))
own_within (operation.Clear family row) fields x =
    put_within 1 (codes "family") (string (spec.family_name family)) _ (text_within 1 (spec.family_name family)) (put_within 1 (codes "at") (spec.number_data row) fields (number_within 1 row) x)
own_within (operation.OpenChannel ref aid) fields x = put_within 1 (codes "ref") (spec.number_data ref) _ (number_within 1 ref) (put_within 1 (codes "aid") (spec.hex_data aid) fields (hex_within 1 aid) x)
own_within (operation.Raw ref command) fields x =
    put_within 1 (codes "ref") (spec.number_data ref) _ (number_within 1 ref) (put_within 1 (codes "apdu") (spec.hex_data (command_bytes command)) fields (hex_within 1 (command_bytes command)) x)
own_within (operation.Close ref) fields x = put_within 1 (codes "ref") (spec.number_data ref) fields (number_within 1 ref) x
own_within (operation.Verify key pin) fields x = put_within 1 (codes "pin") (spec.hex_data pin) _ (hex_within 1 pin) (put_within 1 (codes "key") (spec.byte_data key) fields (hex_within 1 (key ∷ [])) x)
own_within (operation.End key) fields x = put_within 1 (codes "key") (spec.byte_data key) fields (hex_within 1 (key ∷ [])) x
own_within operation.Poll fields x = x
own_within operation.Look fields x = x
own_within (operation.Watch mask) fields x = put_within 1 (codes "mask") (spec.number_data mask) fields (number_within 1 mask) x
own_within operation.Notices fields x = x

operation_within : (op : Operation) → IsWithin 2 (spec.operation_data op)
unfolding spec.operation_data
operation_within op = object_within 1 _ (own_within op _ (put_within 1 (codes "op") (string (spec.operation_name op)) no_members (text_within 1 (spec.operation_name op)) (none 1)))

actor_within : (operations : List Operation) → IsWithin 4 (spec.list_data spec.operation_data operations)
actor_within operations = omega (arith, list_within 2 spec.operation_data operation_within operations)

pub script_within : (s : Script) → depth (spec.script_data s) ≤ 6
unfolding spec.script_data
script_within s = object_within 5 _
    (put_within 5 (codes "version") (spec.number_data s.version) _ (number_within 5 s.version)
    (filled_within 4 spec.number_data (number_within 4) (codes "schedule") s.schedule _
    (filled_within 4 spec.fault_data fault_within (codes "faults") s.faults _
    (filled_within 4 spec.change_data change_within (codes "changes") s.changes _
    (put_within 5 (codes "cards") (spec.list_data spec.card_data s.cards) _ (list_within 4 spec.card_data card_within s.cards)
    (some_within 5 spec.number_data (number_within 5) (codes "budget") s.budget _
    (put_within 5 (codes "actors") (spec.list_data (spec.list_data spec.operation_data) s.actors) no_members (list_within 4 (spec.list_data spec.operation_data) actor_within s.actors) (none 5))))))))
