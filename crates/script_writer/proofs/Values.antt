-- Values are read back from what is written of them.
use Rattle.std.proofs.Common.{◌≡◌, ℕ, ◌+◌, ◌*◌, ◌/◌, ◌%◌, ◌≤◌, Bool, true, List, [], ◌∷◌, ◌++◌, length, map, flat_map, Some, All, Result, Ok, refl, ap, arith}
use Rattle.std.specs.List.{list_all}
use Rattle.std.proofs.lemmas.Bool.{and_parts, le-leb}
use Rattle.std.proofs.lemmas.List.Elements.{All-head, All-tail}
use Rattle.apdu.specs.Words.{pair_value, two_bytes}
use Rattle.fcp.specs.declared.control.ArrRef.{ArrRef}
use Rattle.hex.specs.Hex.{IsBytes, encode_upper, upper_digits}
use Rattle.hex.proofs.HexLemmas.{decode_of-encode_upper, decode_sized-twice, length-encode_with}
use Rattle.serde_json.specs.Data.{Data}
use Rattle.serde_json.specs.View.{items_of}
use Rattle.script_reader.specs.declared.error.Why.{Why}
use Rattle.script_reader.specs.Reading.{all_of}
use Rattle.script_reader.specs.Fields.{hex_of, ids_of, item_list, list}
use Rattle.script_reader.specs.Files.{reference_of}
use Rattle.script_writer.specs.Writing as spec
use Rattle.script_writer.specs.ReadBack.{IsNumberBack, IsHexBack, IsSizedBack, IsPathBack, IsReferenceBack}

pub number_back : (limit n : ℕ) → n ≤ limit → IsNumberBack limit n
number_back limit n h = rw (le-leb n limit h) refl

-- ---- hexadecimal

pub hex_back : (bytes : List ℕ) → IsBytes bytes → IsHexBack bytes
hex_back bytes are_bytes = rw (decode_of-encode_upper bytes are_bytes) refl

pub sized_back : (n : ℕ) (bytes : List ℕ) → length bytes ≡ n → IsBytes bytes → IsSizedBack n bytes
sized_back n bytes long are_bytes =
    let twice : length (encode_upper bytes) ≡ 2 * n = omega (arith, length-encode_with upper_digits bytes, long) in
    rw (decode_sized-twice (encode_upper bytes) n twice, decode_of-encode_upper bytes are_bytes) refl

pub byte_back : (b : ℕ) → IsBytes (b ∷ []) → hex_of 1 (spec.byte_data b) ≡ Ok (b ∷ [])
byte_back b are_bytes = sized_back 1 (b ∷ []) refl are_bytes

-- ---- file ids

pair_back : (id : ℕ) → pair_value (id / 256) (id % 256) ≡ id
pair_back id = omega arith

ids_back : (path : List ℕ) → ids_of (flat_map two_bytes path) ≡ Some path
ids_back [] = refl
ids_back (id ∷ path) = rw (ids_back path, pair_back id) refl

pub path_back : (path : List ℕ) → IsBytes (flat_map two_bytes path) → IsPathBack path
path_back path are_bytes = rw (hex_back (flat_map two_bytes path) are_bytes, ids_back path) refl

reference_of_back : (file_id row : ℕ) → reference_of (two_bytes file_id ++ row ∷ []) ≡ record { file_id = file_id; row = row }
reference_of_back file_id row = rw (pair_back file_id) refl

pub reference_back : (r : ArrRef) → IsBytes (two_bytes r.file_id ++ r.row ∷ []) → IsReferenceBack r
reference_back r are_bytes = rw (sized_back 3 (two_bytes r.file_id ++ r.row ∷ []) refl are_bytes, reference_of_back r.file_id r.row) refl

-- ---- lists

pub item_list_of : (ds : List Data) → item_list (items_of ds) ≡ ds
item_list_of [] = refl
item_list_of (d ∷ ds) = ap (λ (xs : List Data). d ∷ xs) (item_list_of ds)

-- what keeps a rule is read back
abbrev pub IsBack : {A : Type 0} → (Data → Result A Why) → (A → Data) → (A → Bool) → A → Type 0
IsBack read write test x = test x ≡ true → read (write x) ≡ Ok x

all_back : {A : Type 0} (read : Data → Result A Why) (write : A → Data) (test : A → Bool) (xs : List A) → All (IsBack read write test) xs → list_all test xs ≡ true → all_of read (map write xs) ≡ Ok xs
all_back read write test [] each passed = refl
all_back read write test (x ∷ xs) each passed =
    let parts = and_parts (test x) (list_all test xs) passed in
    rw (All-head (IsBack read write test) x xs each parts.0, all_back read write test xs (All-tail (IsBack read write test) x xs each) parts.1) refl

-- a list of which each item that keeps a rule is read back
pub list_back : {A : Type 0} (read : Data → Result A Why) (write : A → Data) (test : A → Bool) (xs : List A) → All (IsBack read write test) xs → list_all test xs ≡ true → list read (spec.list_data write xs) ≡ Ok xs
list_back read write test xs each passed = rw (item_list_of (map write xs), all_back read write test xs each passed) refl

each_back : {A : Type 0} (read : Data → Result A Why) (write : A → Data) (xs : List A) → All (λ (x : A). read (write x) ≡ Ok x) xs → all_of read (map write xs) ≡ Ok xs
each_back read write [] each = refl
each_back read write (x ∷ xs) each =
    let P : _ → Type 0 = λ y. read (write y) ≡ Ok y in
    rw (All-head P x xs each, each_back read write xs (All-tail P x xs each)) refl

-- a list of which each item is read back
pub items_back : {A : Type 0} (read : Data → Result A Why) (write : A → Data) (xs : List A) → All (λ (x : A). read (write x) ≡ Ok x) xs → list read (spec.list_data write xs) ≡ Ok xs
items_back read write xs each = rw (item_list_of (map write xs), each_back read write xs each) refl
