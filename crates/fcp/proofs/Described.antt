-- What is read of a file or a directory is one that can be written and read back.
use Rattle.std.proofs.Common.{◌≡◌, ◌≤◌, ℕ, Bool, true, false, ◌&&◌, List, [], ◌∷◌, length, Option, Some, None, Result, Ok, Err, nat_le, if◌then◌else◌, refl, arith}
use Rattle.std.proofs.lemmas.Bool.Decides.{nat_tests}
use Rattle.std.specs.Prelude.{not, is_none, slice_index, IsSome, IfSome, IfOk}
use Rattle.apdu.specs.Words.{◌>>=◌, pair_value, is_between}
use Rattle.tlv.specs.declared.error.TlvError.{TlvError}
use Rattle.tlv.specs.Objects.{Parts}
use Rattle.fcp.specs.declared.rows.FileKind.{FileKind}
use Rattle.fcp.specs.declared.rows.FileKind.TheVariants.{Transparent, Linear, Directory}
use Rattle.fcp.specs.declared.control.Fcp.{Fcp}
use Rattle.fcp.specs.declared.control.ArrRef.{ArrRef}
use Rattle.fcp.specs.declared.control.FcpError.{FcpError}
use Rattle.fcp.specs.declared.control.FcpError.TheVariants.{Tlv}
use Rattle.fcp.specs.Content.{is_directory}
use Rattle.fcp.specs.Objects.{Objects, objects_of}
use Rattle.fcp.specs.Control.{Describes, rows_shape, shape_of, id_of, active_of, at_most, number_of, size_of, missing_of, unless_missing, kind_of, fields_of, fcp_of_objects, fcp_of_template, or_bad, or_missing}

abbrev IsDescribed : Fcp → Type 0
IsDescribed f = Describes f.kind f

-- ---- the fields

abbrev IsShape : FileKind → ℕ × ℕ → Type 0
IsShape Transparent shape = (shape.0 ≡ 0) × (shape.1 ≡ 0)
IsShape Linear shape = (1 ≤ shape.0) × (shape.0 ≤ 255)
IsShape Directory shape = (shape.0 ≡ 0) × (shape.1 ≡ 0)

abbrev HasId : FileKind → Option ℕ → Type 0
HasId Transparent id = IsSome id
HasId Linear id = IsSome id
HasId Directory id = Unit {0}

abbrev IsSize : FileKind → ℕ → Type 0
IsSize Transparent size = size ≤ 32767
IsSize Linear size = size ≤ 65535
IsSize Directory size = size ≡ 0

if_some : {A : Type 0} (b : Bool) (x : A) (P : A → Type 0) → (b ≡ true → P x) → IfSome (if b then Some x else None) P
if_some true x P h = h refl
if_some false x P h = tt

if_option : {A : Type 0} (b : Bool) (o : Option A) (P : A → Type 0) → IfSome o P → IfSome (if b then o else None) P
if_option true o P h = h
if_option false o P h = tt

rows_shape-is : (width count : ℕ) → IfSome (rows_shape width count) (IsShape Linear)
rows_shape-is width count = if_some (is_between 1 255 width) (width, count) (IsShape Linear) (λ e. (grind (arith, nat_tests), grind (arith, nat_tests)))

shape-is : (kind : FileKind) (bytes : List ℕ) → IfSome (shape_of kind bytes) (IsShape kind)
shape-is Transparent bytes = if_some (nat_le 2 (length bytes)) (0, 0) _ (λ e. (refl, refl))
shape-is Linear bytes = if_option (nat_le 5 (length bytes)) _ _ (rows_shape-is (pair_value (slice_index bytes 2) (slice_index bytes 3)) (slice_index bytes 4))
shape-is Directory bytes = if_some (nat_le 2 (length bytes)) (0, 0) _ (λ e. (refl, refl))

id-is : (bytes : List ℕ) → IfSome (id_of (Some bytes)) IsSome
id-is [] = tt
id-is (a ∷ []) = tt
id-is (a ∷ b ∷ []) = refl
id-is (a ∷ b ∷ c ∷ bytes) = tt

any-some : {A : Type 0} (o : Option A) → IfSome o (λ _. Unit {0})
any-some None = tt
any-some (Some x) = tt

id-there : (kind : FileKind) (id : Option (List ℕ)) (more : Option ℕ) → (if not (is_directory kind) && is_none id then Some 0x83 else more) ≡ None → IfSome (id_of id) (HasId kind)
id-there Transparent None more e = absurd (cc)
id-there Transparent (Some bytes) more e = id-is bytes
id-there Linear None more e = absurd (cc)
id-there Linear (Some bytes) more e = id-is bytes
id-there Directory id more e = any-some (id_of id)

at_most-is : (limit : ℕ) (n : Option ℕ) → IfSome (at_most limit n) (λ n. n ≤ limit)
at_most-is limit None = tt
at_most-is limit (Some n) = if_some (nat_le n limit) n _ (λ e. grind (arith, nat_tests))

size-is : (kind : FileKind) (size : Option (List ℕ)) → IfSome (size_of kind size) (IsSize kind)
size-is Transparent None = omega arith
size-is Transparent (Some bytes) = at_most-is 32767 (number_of bytes)
size-is Linear None = omega arith
size-is Linear (Some bytes) = at_most-is 65535 (number_of bytes)
size-is Directory size = refl

described : (kind : FileKind) (shape : ℕ × ℕ) (id : Option ℕ) (active : Bool) (size : ℕ) (arr : Option ArrRef) → IsShape kind shape → HasId kind id → IsSize kind size → IsDescribed (record { kind = kind; size = size; file_id = id; width = shape.0; count = shape.1; active = active; arr = arr })
described Transparent shape id active size arr hs hi hn = (hi, hn, hs.0, hs.1)
described Linear shape id active size arr hs hi hn = (hi, hs.0, hs.1)
described Directory shape id active size arr hs hi hn = (hn, hs.0, hs.1)

-- ---- the steps of the reading

or_bad-then : {A B : Type 0} (tag : ℕ) (o : Option A) (next : A → Result B FcpError) (P : A → Type 0) (Q : B → Type 0) → IfSome o P → ((x : A) → P x → IfOk (next x) Q) → IfOk (or_bad tag o >>= next) Q
or_bad-then tag None next P Q h k = tt
or_bad-then tag (Some x) next P Q h k = k x h

or_missing-then : {A B : Type 0} (tag : ℕ) (o : Option A) (next : A → Result B FcpError) (Q : B → Type 0) → ((x : A) → IfOk (next x) Q) → IfOk (or_missing tag o >>= next) Q
or_missing-then tag None next Q k = tt
or_missing-then tag (Some x) next Q k = k x

unless_missing-then : (tag : Option ℕ) (read : Result Fcp FcpError) → (tag ≡ None → IfOk read IsDescribed) → IfOk (unless_missing tag read) IsDescribed
unless_missing-then None read h = h refl
unless_missing-then (Some tag) read h = tt

fields-described : (kind : FileKind) (descriptor : List ℕ) (o : Objects) → missing_of kind o ≡ None → IfOk (fields_of kind descriptor o) IsDescribed
fields-described kind descriptor o e =
    or_bad-then 0x82 _ _ (IsShape kind) IsDescribed (shape-is kind descriptor) (λ shape hs.
    or_bad-then 0x83 _ _ (HasId kind) IsDescribed (id-there kind o.file_id _ e) (λ id hi.
    or_bad-then 0x8A _ _ (λ _. Unit {0}) IsDescribed (any-some (active_of o.life_cycle)) (λ active _.
    or_bad-then 0x80 _ _ (IsSize kind) IsDescribed (size-is kind o.size) (λ size hn.
    described kind shape id active size _ hs hi hn))))

objects-described : (o : Objects) → IfOk (fcp_of_objects o) IsDescribed
objects-described o =
    or_missing-then 0x82 o.descriptor _ IsDescribed (λ descriptor.
    or_bad-then 0x82 _ _ (λ _. Unit {0}) IsDescribed (any-some (kind_of descriptor)) (λ kind _.
    unless_missing-then (missing_of kind o) _ (fields-described kind descriptor o)))

pub template-described : (read : Parts) → IfOk (fcp_of_template read) (λ f. Describes f.kind f)
template-described read = elim read.damage as (λ (damage : Option TlvError). IfOk (elim damage [ Some error ↦ Err (Tlv error) | None ↦ fcp_of_objects (objects_of read.parts) ]) IsDescribed) [
  | None ↦ objects-described (objects_of read.parts)
  | Some error ↦ tt
]
