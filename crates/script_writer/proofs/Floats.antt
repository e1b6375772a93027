-- The JSON of a script has whole numbers alone.
use Rattle.std.proofs.Common.{◌≡◌, ◌||◌, ℕ, Bool, true, false, List, [], ◌∷◌, map, Option, Some, None, option_map, not, Ordering, Less, Equal, Greater, refl, codes, true≢false}
use Rattle.std.specs.Ordering.{nat_cmp, match_ordering}
use Rattle.std.specs.Cmp.Lexicographic.{slice_cmp}
use Rattle.apdu.specs.Words.{is_empty}
use Rattle.serde_json.specs.Data.{Data, boolean, string, Members, no_members, member, put}
use Rattle.serde_json.specs.View.{items_of}
use Rattle.serde_json.specs.Written.{has_float, items_have_float, members_have_float}
use Rattle.script_reader.specs.declared.types.FileSpec.{FileSpec}
use Rattle.script_reader.specs.declared.types.KindSpec.{KindSpec}
use Rattle.script_reader.specs.declared.types.KindSpec.TheVariants.{Transparent, Linear}
use Rattle.script_reader.specs.declared.types.Script.{Script}
use Rattle.script_reader.specs.declared.types.Operation.{Operation}
use Rattle.script_reader.specs.declared.types.Operation.TheVariants as operation
use Rattle.script_writer.specs.Writing as spec

-- the members have no float
record Whole (fields : Members) : Type 0 where
  is : members_have_float fields ≡ false

abbrev IsWhole : Data → Type 0
IsWhole d = has_float d ≡ false

both : (a b : Bool) → a ≡ false → b ≡ false → (a || b) ≡ false
both a b x y = rw (x, y) refl

first : (a b : Bool) → (a || b) ≡ false → a ≡ false
first false b e = refl
first true b e = absurd (true≢false e)

second : (a b : Bool) → (a || b) ≡ false → b ≡ false
second false b e = e
second true b e = absurd (true≢false e)

put_at : (o : Ordering) (k l : List ℕ) (d e : Data) (fields more : Members) → IsWhole d → IsWhole e → members_have_float fields ≡ false → members_have_float more ≡ false
    → members_have_float (match_ordering o (member k d (member l e fields)) (member l d fields) (member l e more)) ≡ false
put_at Less k l d e fields more x y z w = both (has_float d) _ x (both (has_float e) _ y z)
put_at Equal k l d e fields more x y z w = both (has_float d) _ x z
put_at Greater k l d e fields more x y z w = both (has_float e) _ y w

put_keeps : (k : List ℕ) (d : Data) (fields : Members) → IsWhole d → members_have_float fields ≡ false → members_have_float (put k d fields) ≡ false
put_keeps k d no_members x y = both (has_float d) false x refl
put_keeps k d (member l e fields) x y =
    put_at (slice_cmp nat_cmp k l) k l d e fields (put k d fields) x (first (has_float e) _ y) (second (has_float e) _ y) (put_keeps k d fields x (second (has_float e) _ y))

put_whole : (k : List ℕ) (d : Data) (fields : Members) → IsWhole d → Whole fields → Whole (put k d fields)
put_whole k d fields x y = record { is = put_keeps k d fields x y.is }

none : Whole no_members
none = record { is = refl }

list_whole : {A : Type 0} (f : A → Data) → ((x : A) → IsWhole (f x)) → (xs : List A) → items_have_float (items_of (map f xs)) ≡ false
list_whole f each [] = refl
list_whole f each (x ∷ xs) = both (has_float (f x)) _ (each x) (list_whole f each xs)

some_whole : {A : Type 0} (f : A → Data) → ((x : A) → IsWhole (f x)) → (k : List ℕ) (o : Option A) (fields : Members) → Whole fields → Whole (spec.with_some k (option_map f o) fields)
some_whole f each k None fields x = x
some_whole f each k (Some y) fields x = put_whole k (f y) fields (each y) x

unless_whole : (b : Bool) (k : List ℕ) (d : Data) (fields : Members) → IsWhole d → Whole fields → Whole (spec.unless b k d fields)
unless_whole true k d fields x y = y
unless_whole false k d fields x y = put_whole k d fields x y

filled_whole : {A : Type 0} (f : A → Data) → ((x : A) → IsWhole (f x)) → (k : List ℕ) (xs : List A) (fields : Members) → Whole fields → Whole (spec.with_list k f xs fields)
filled_whole f each k xs fields x = unless_whole (is_empty xs) k (spec.list_data f xs) fields (list_whole f each xs) x

-- a value that is no list and no object
abbrev plain : {A : Type 0} (f : A → Data) → Type 0
plain {A} f = (x : A) → IsWhole (f x)

number_whole : plain spec.number_data
number_whole n = refl

hex_whole : plain spec.hex_data
hex_whole bytes = refl

reference_whole : plain spec.reference_data
reference_whole r = refl

path_whole : plain spec.path_data
path_whole p = refl

file_fields_whole : (f : FileSpec) → Whole (spec.file_fields f)
file_fields_whole f =
    put_whole (codes "path") (spec.path_data f.path) _ refl
    (some_whole spec.hex_data hex_whole (codes "fcp") f.fcp _
    (unless_whole (not f.endless) (codes "endless") (boolean f.endless) _ refl
    (some_whole spec.reference_data reference_whole (codes "arr") f.arr _
    (unless_whole f.active (codes "active") (boolean f.active) no_members refl none))))

kind_whole : (k : KindSpec) (fields : Members) → Whole fields → Whole (spec.with_kind k fields)
kind_whole (Transparent bytes) fields x = put_whole (codes "kind") _ _ refl (put_whole (codes "data") (spec.hex_data bytes) fields refl x)
kind_whole (Linear len rows) fields x =
    put_whole (codes "records") (spec.list_data spec.hex_data rows) _ (list_whole spec.hex_data hex_whole rows)
    (put_whole (codes "len") (spec.number_data len) _ refl (put_whole (codes "kind") _ fields refl x))

file_whole : plain spec.file_data
unfolding spec.file_data
file_whole f = (kind_whole f.kind (spec.file_fields f) (file_fields_whole f)).is

key_whole : plain spec.key_data
unfolding spec.key_data
key_whole k =
    (put_whole (codes "tries") (spec.number_data k.tries) _ refl
    (put_whole (codes "pin") (spec.hex_data k.pin) _ refl
    (put_whole (codes "max") (spec.number_data k.max) _ refl (put_whole (codes "key") (spec.byte_data k.key) no_members refl none)))).is

card_whole : plain spec.card_data
unfolding spec.card_data
card_whole c =
    (filled_whole spec.key_data key_whole (codes "keys") c.keys _
    (unless_whole (not c.get_response) (codes "get_response") (boolean c.get_response) _ refl
    (put_whole (codes "files") (spec.list_data spec.file_data c.files) _ (list_whole spec.file_data file_whole c.files)
    (unless_whole _ (codes "channels") (spec.number_data c.channels) _ refl
    (filled_whole spec.hex_data hex_whole (codes "aids") c.aids no_members none))))).is

change_whole : plain spec.change_data
unfolding spec.change_data
change_whole c =
    (unless_whole _ (codes "type") (spec.number_data c.kind) _ refl
    (put_whole (codes "qualifier") (spec.number_data c.qualifier) _ refl
    (filled_whole spec.path_data path_whole (codes "list") c.list _
    (filled_whole spec.file_data file_whole (codes "files") c.files no_members none)))).is

fault_whole : plain spec.fault_data
unfolding spec.fault_data
fault_whole f = (put_whole (codes "at") (spec.number_data f.at) _ refl (put_whole (codes "acted") (boolean f.acted) no_members refl none)).is

own_whole : (op : Operation) (fields : Members) → Whole fields → Whole (spec.with_operation op fields)
own_whole (operation.Insert card) fields x = put_whole (codes "card") (spec.number_data card) fields refl x
own_whole operation.Out fields x = x
own_whole (operation.Arm change) fields x = put_whole (codes "change") (spec.number_data change) fields refl x
own_whole (operation.Load family) fields x = put_whole (codes "family") _ fields refl x
own_whole (operation.Set family row name digits) fields x =
    put_whole (codes "number") (string digits) _ refl
    (put_whole (codes "name") (string name) _ refl
    (put_whole (codes "family") _ _ refl (some_whole spec.number_data number_whole (codes "at") row fields x)))
own_whole (operation.Clear family row) fields x = put_whole (codes "family") _ _ refl (put_whole (codes "at") (spec.number_data row) fields refl x)
own_whole (operation.OpenChannel ref aid) fields x = put_whole (codes "ref") (spec.number_data ref) _ refl (put_whole (codes "aid") (spec.hex_data aid) fields refl x)
own_whole (operation.Raw ref command) fields x = put_whole (codes "ref") (spec.number_data ref) _ refl (put_whole (codes "apdu") _ fields refl x)
own_whole (operation.Close ref) fields x = put_whole (codes "ref") (spec.number_data ref) fields refl x
own_whole (operation.Verify key pin) fields x = put_whole (codes "pin") (spec.hex_data pin) _ refl (put_whole (codes "key") _ fields refl x)
own_whole (operation.End key) fields x = put_whole (codes "key") _ fields refl x
own_whole operation.Poll fields x = x
own_whole operation.Look fields x = x
own_whole (operation.Watch mask) fields x = put_whole (codes "mask") (spec.number_data mask) fields refl x
own_whole operation.Notices fields x = x

operation_whole : plain spec.operation_data
unfolding spec.operation_data
operation_whole op = (own_whole op _ (put_whole (codes "op") _ no_members refl none)).is

actor_whole : plain (spec.list_data spec.operation_data)
actor_whole operations = list_whole spec.operation_data operation_whole operations

pub script_whole : (s : Script) → has_float (spec.script_data s) ≡ false
unfolding spec.script_data
script_whole s =
    (put_whole (codes "version") (spec.number_data s.version) _ refl
    (filled_whole spec.number_data number_whole (codes "schedule") s.schedule _
    (filled_whole spec.fault_data fault_whole (codes "faults") s.faults _
    (filled_whole spec.change_data change_whole (codes "changes") s.changes _
    (put_whole (codes "cards") (spec.list_data spec.card_data s.cards) _ (list_whole spec.card_data card_whole s.cards)
    (some_whole spec.number_data number_whole (codes "budget") s.budget _
    (put_whole (codes "actors") (spec.list_data (spec.list_data spec.operation_data) s.actors) no_members (list_whole (spec.list_data spec.operation_data) actor_whole s.actors) none))))))).is
