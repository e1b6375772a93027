-- File control parameters, ETSI TS 102 221 clause 11.1.1.3, and access rules in expanded form, clause 9.2.
use Rattle.std.specs.Prelude.{◌≡◌, ◌≤◌, ℕ, ◌+◌, ◌*◌, ◌%◌, ◌==◌, ◌&&◌, not, Bool, true, false, nat_le, if◌then◌else◌, List, [], ◌∷◌, ◌++◌, length, Option, Some, None, is_none, IsSome, slice_index, ◌^◌, Result, Ok, Err}
use Rattle.std.specs.Borrow.{Bor}
use Rattle.apdu.specs.Words.{◌>>=◌, pair_value, two_bytes, is_bit, is_one_of, is_between, same_bytes}
use Rattle.tlv.specs.declared.error.TlvError.{TlvError}
use Rattle.tlv.specs.Objects.{Part, Parts, ber_parts, part_bytes}
use Rattle.fcp.specs.declared.rows.FileKind.{FileKind}
use Rattle.fcp.specs.declared.rows.FileKind.TheVariants.{Transparent, Linear, Directory}
use Rattle.fcp.specs.declared.control.Fcp.{Fcp}
use Rattle.fcp.specs.declared.control.ArrRef.{ArrRef}
use Rattle.fcp.specs.declared.rule.Need.{Need}
use Rattle.fcp.specs.declared.rule.Need.TheVariants.{Always, Never, Key}
use Rattle.fcp.specs.declared.rule.Rule.{Rule}
use Rattle.fcp.specs.declared.control.FcpError.{FcpError}
use Rattle.fcp.specs.declared.control.FcpError.TheVariants.{Tlv, Missing, Bad}
use Rattle.fcp.specs.Content.{is_transparent, is_directory}
use Rattle.fcp.specs.Objects.{Objects, objects_of}

-- ---- writing

-- the file descriptor: transparent, linear fixed with width and count, or a directory
abbrev pub descriptor_bytes : FileKind → ℕ → ℕ → List ℕ
descriptor_bytes Transparent width count = 0x41 ∷ 0x21 ∷ []
descriptor_bytes Linear width count = 0x42 ∷ 0x21 ∷ two_bytes width ++ count ∷ []
descriptor_bytes Directory width count = 0x78 ∷ 0x21 ∷ []

-- the file id, or the AID of an application's directory
abbrev pub identity_part : Option ℕ → List ℕ → List ℕ
identity_part (Some id) aid = part_bytes 0x83 (two_bytes id)
identity_part None aid = part_bytes 0x84 aid

-- operational and activated, or deactivated
abbrev pub life_cycle_byte : Bool → ℕ
life_cycle_byte active = if active then 5 else 4

-- the reference to EF_ARR: file id and record number
abbrev pub reference_part : Option ArrRef → List ℕ
reference_part None = []
reference_part (Some r) = part_bytes 0x8B (two_bytes r.file_id ++ r.row ∷ [])

abbrev pub size_part : FileKind → ℕ → List ℕ
size_part Transparent size = part_bytes 0x80 (two_bytes size)
size_part Linear size = part_bytes 0x80 (two_bytes size)
size_part Directory size = []

-- file descriptor, identity, life cycle status, security attributes and file size
abbrev pub template_bytes : Fcp → List ℕ → List ℕ
template_bytes f aid = part_bytes 0x82 (descriptor_bytes f.kind f.width f.count) ++ identity_part f.file_id aid ++ part_bytes 0x8A (life_cycle_byte f.active ∷ []) ++ reference_part f.arr ++ size_part f.kind f.size

-- in template 62
unfoldable pub write_fcp : Fcp → List ℕ → List ℕ
write_fcp f aid = part_bytes 0x62 (template_bytes f aid)

-- a file has an id; a transparent one at most 32767 bytes and no rows, a linear one rows of 1 to 255 bytes; a directory has neither size nor rows
abbrev pub Describes : FileKind → Fcp → Type 0
Describes Transparent f = IsSome f.file_id × (f.size ≤ 32767) × (f.width ≡ 0) × (f.count ≡ 0)
Describes Linear f = IsSome f.file_id × (1 ≤ f.width) × (f.width ≤ 255)
Describes Directory f = (f.size ≡ 0) × (f.width ≡ 0) × (f.count ≡ 0)

-- ---- reading

-- the kind by the first byte of the descriptor, its two high bits left aside
abbrev pub kind_of_byte : ℕ → Option FileKind
kind_of_byte b = if b % 64 == 0x01 then Some Transparent else if b % 64 == 0x02 then Some Linear else if b % 64 == 0x38 then Some Directory else None

abbrev pub kind_of : List ℕ → Option FileKind
kind_of [] = None
kind_of (b ∷ bytes) = kind_of_byte b

-- width and count, where the width is 1 to 255
abbrev pub rows_shape : ℕ → ℕ → Option (ℕ × ℕ)
rows_shape width count = if is_between 1 255 width then Some (width, count) else None

-- width and count of a descriptor, which has two bytes at least, and five for a linear file; both are 0 where it is not linear
abbrev pub shape_of : FileKind → List ℕ → Option (ℕ × ℕ)
shape_of Transparent bytes = if nat_le 2 (length bytes) then Some (0, 0) else None
shape_of Linear bytes = if nat_le 5 (length bytes) then rows_shape (pair_value (slice_index bytes 2) (slice_index bytes 3)) (slice_index bytes 4) else None
shape_of Directory bytes = if nat_le 2 (length bytes) then Some (0, 0) else None

-- an id of two bytes, where there is one
abbrev pub id_of : Option (List ℕ) → Option (Option ℕ)
id_of None = Some None
id_of (Some (high ∷ low ∷ [])) = Some (Some (pair_value high low))
id_of (Some _) = None

-- operational and activated, or deactivated
abbrev pub active_of_byte : ℕ → Option Bool
active_of_byte b = if is_one_of b (5 ∷ 7 ∷ []) then Some true else if is_one_of b (4 ∷ 6 ∷ []) then Some false else None

-- a life cycle status of one byte; a file without one is activated
abbrev pub active_of : Option (List ℕ) → Option Bool
active_of None = Some true
active_of (Some (b ∷ [])) = active_of_byte b
active_of (Some _) = None

-- the number that one to four bytes write, most significant first
abbrev pub number_of : List ℕ → Option ℕ
number_of (a ∷ []) = Some a
number_of (a ∷ b ∷ []) = Some (a * 2 ^ 8 + b)
number_of (a ∷ b ∷ c ∷ []) = Some (a * 2 ^ 16 + b * 2 ^ 8 + c)
number_of (a ∷ b ∷ c ∷ d ∷ []) = Some (a * 2 ^ 24 + b * 2 ^ 16 + c * 2 ^ 8 + d)
number_of _ = None

abbrev pub at_most : ℕ → Option ℕ → Option ℕ
at_most limit None = None
at_most limit (Some n) = if nat_le n limit then Some n else None

-- the size, which is 0 where none is told, and is not read for a directory
abbrev pub size_of : FileKind → Option (List ℕ) → Option ℕ
size_of Directory size = Some 0
size_of Transparent None = Some 0
size_of Transparent (Some bytes) = at_most 32767 (number_of bytes)
size_of Linear None = Some 0
size_of Linear (Some bytes) = at_most 65535 (number_of bytes)

-- three bytes are the reference, another length is none
abbrev pub reference_of : Option (List ℕ) → Option ArrRef
reference_of (Some (high ∷ low ∷ row ∷ [])) = Some (record { file_id = pair_value high low; row = row })
reference_of _ = None

-- the object that has to be there and is not: the id of a file, and the size of a transparent one
abbrev pub missing_of : FileKind → Objects → Option ℕ
missing_of kind o =
    if not (is_directory kind) && is_none o.file_id then Some 0x83
    else if is_transparent kind && is_none o.size then Some 0x80
    else None

abbrev pub or_bad : {A : Type 0} → ℕ → Option A → Result A FcpError
or_bad tag None = Err (Bad tag)
or_bad tag (Some x) = Ok x

-- the fields, read in the order of descriptor, id, life cycle and size
abbrev pub fields_of : FileKind → List ℕ → Objects → Result Fcp FcpError
fields_of kind descriptor o = do
  shape ← or_bad 0x82 (shape_of kind descriptor)
  id ← or_bad 0x83 (id_of o.file_id)
  active ← or_bad 0x8A (active_of o.life_cycle)
  size ← or_bad 0x80 (size_of kind o.size)
  Ok (record { kind = kind; size = size; file_id = id; width = shape.0; count = shape.1; active = active; arr = reference_of o.reference })

abbrev pub or_missing : {A : Type 0} → ℕ → Option A → Result A FcpError
or_missing tag None = Err (Missing tag)
or_missing tag (Some x) = Ok x

abbrev pub unless_missing : Option ℕ → Result Fcp FcpError → Result Fcp FcpError
unless_missing None read = read
unless_missing (Some tag) read = Err (Missing tag)

-- what has to be there is looked for before the fields are read
abbrev pub fcp_of_objects : Objects → Result Fcp FcpError
fcp_of_objects o = do
  descriptor ← or_missing 0x82 o.descriptor
  kind ← or_bad 0x82 (kind_of descriptor)
  unless_missing (missing_of kind o) (fields_of kind descriptor o)

-- a template is read to its end before anything is looked for in it
abbrev pub fcp_of_template : Parts → Result Fcp FcpError
fcp_of_template read = elim read.damage [
  | Some error ↦ Err (Tlv error)
  | None ↦ fcp_of_objects (objects_of read.parts)
]

-- the first object is the template; what follows it is not read
abbrev pub fcp_of_parts : List Part → Option TlvError → Result Fcp FcpError
fcp_of_parts (p ∷ rest) damage = if p.tag == 0x62 then fcp_of_template (ber_parts p.value) else Err (Missing 0x62)
fcp_of_parts [] (Some error) = Err (Tlv error)
fcp_of_parts [] None = Err (Missing 0x62)

unfoldable pub read_fcp : List ℕ → Result Fcp FcpError
read_fcp bytes = fcp_of_parts (ber_parts bytes).parts (ber_parts bytes).damage

-- ---- access rules

-- a user authentication by the PIN of this key reference: 83 01 KK 95 01 08
abbrev pub key_of_condition : List ℕ → Need
key_of_condition bytes = if (length bytes == 6) && same_bytes bytes (0x83 ∷ 0x01 ∷ slice_index bytes 2 ∷ 0x95 ∷ 0x01 ∷ 0x08 ∷ []) then Key (slice_index bytes 2) else Never

-- what a condition object asks for: 90 00 always, 97 00 never, A4 a key
abbrev pub need_of : ℕ → List ℕ → Need
need_of tag value =
    if (tag == 0x90) && (length value == 0) then Always
    else if tag == 0xA4 then key_of_condition value
    else Never

-- an access mode of one byte that has this bit
abbrev pub is_mode : ℕ → List ℕ → Bool
is_mode bit bytes = (length bytes == 1) && is_bit bit (slice_index bytes 0)

-- an access mode object, tag 80, that has this bit
abbrev pub has_mode : ℕ → Part → Bool
has_mode bit p = (p.tag == 0x80) && is_mode bit p.value

-- the first pair of an access mode with this bit and a condition decides
abbrev pub need_for : ℕ → List Part → Need
need_for bit (mode ∷ condition ∷ rest) = if has_mode bit mode then need_of condition.tag condition.value else need_for bit rest
need_for bit _ = Never

-- bit 1 of the access mode is reading, bit 2 updating
unfoldable pub read_rule : List ℕ → Rule
read_rule bytes = record { read = need_for 1 (ber_parts bytes).parts; update = need_for 2 (ber_parts bytes).parts }

-- two parts were taken from the front, or there were not two
abbrev pub GivesPair : List Part → List Part → Option ((ℕ × Bor (List ℕ)) × (ℕ × Bor (List ℕ))) → Type 0
GivesPair old new None = length old ≤ 1
GivesPair old new (Some pair) = old ≡ (record { tag = pair.0.0; value = pair.0.1.now }) ∷ (record { tag = pair.1.0; value = pair.1.1.now }) ∷ new
