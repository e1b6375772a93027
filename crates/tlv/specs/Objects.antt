-- Objects of tag, length and value, ETSI TS 101 220 clause 7.1: BER-TLV, and the simple form of TS 102 223.
use Rattle.std.specs.Prelude.{◌≡◌, ℕ, zero, suc, ◌+◌, ◌%◌, ◌==◌, ◌||◌, nat_lt, if◌then◌else◌, List, [], ◌∷◌, length, take, drop, find, Option, Some, None, option_map, Result, Ok, Err}
use Rattle.std.specs.Borrow.{Bor}
use Rattle.tlv.specs.declared.error.TlvError.{TlvError}
use Rattle.tlv.specs.declared.error.TlvError.TheVariants.{Cut, BadTag, BadLength}
use Rattle.tlv.specs.declared.object.Form.{Form}
use Rattle.tlv.specs.declared.object.Form.TheVariants.{Ber, Simple}
use Rattle.tlv.specs.declared.object.TagByte.{TagByte}
use Rattle.tlv.specs.declared.object.TagByte.TheVariants.{Ends, Bad, Begins}
use Rattle.tlv.specs.declared.object.Object.{Object}

pub record Part : Type 0 where
  pub tag : ℕ
  pub value : List ℕ

-- the parts in order, and the damage that ended the reading, if any
pub record Parts : Type 0 where
  pub parts : List Part
  pub damage : Option TlvError

abbrev pub stopped : Option TlvError → Parts
stopped damage = record { parts = []; damage = damage }

abbrev pub with_part : ℕ → List ℕ → Parts → Parts
with_part tag value rest = record { parts = (record { tag = tag; value = value }) ∷ rest.parts; damage = rest.damage }

-- ---- the grammar

-- a tag byte 00 or FF ends the reading; a tag of more than one byte is not read
abbrev pub ber_tag : ℕ → TagByte
ber_tag b = if (b == 0) || (b == 0xFF) then Ends else if b % 32 == 31 then Bad else Begins b

-- bit 8 is the comprehension flag and no part of the tag
abbrev pub simple_tag : ℕ → TagByte
simple_tag b = if (b == 0) || (b == 0x7F) || (b == 0x80) || (b == 0xFF) then Bad else Begins (b % 128)

abbrev pub tag_by : Form → ℕ → TagByte
tag_by Ber = ber_tag
tag_by Simple = simple_tag

-- what stands at the front of bytes: no object; damage; or an object, the bytes behind it, and their index
pub data Front : Type 0 where
  nothing : Front
  damaged : TlvError → Front
  object : ℕ → List ℕ → List ℕ → ℕ → Front

-- the object at index `at` has a value of n bytes, which stand at index `from`
abbrev pub with_value : ℕ → ℕ → ℕ → ℕ → List ℕ → Front
with_value tag at from n bytes = if nat_lt (length bytes) n then damaged (Cut at) else object tag (take n bytes) (drop n bytes) (from + n)

abbrev pub with_long_length : ℕ → ℕ → List ℕ → Front
with_long_length tag at [] = damaged (Cut at)
with_long_length tag at (n ∷ bytes) = with_value tag at (at + 3) n bytes

-- a length is one byte up to 7F, or 81 and a byte
abbrev pub with_length : ℕ → ℕ → List ℕ → Front
with_length tag at [] = damaged (Cut at)
with_length tag at (n ∷ bytes) =
    if nat_lt n 0x80 then with_value tag at (at + 2) n bytes
    else if n == 0x81 then with_long_length tag at bytes
    else damaged (BadLength (at + 1))

abbrev pub with_tag : TagByte → ℕ → List ℕ → Front
with_tag Ends at bytes = nothing
with_tag Bad at bytes = damaged (BadTag at)
with_tag (Begins tag) at bytes = with_length tag at bytes

-- what stands at the front of bytes at index `at`
abbrev pub front : (ℕ → TagByte) → ℕ → List ℕ → Front
front tag_of at [] = nothing
front tag_of at (t ∷ bytes) = with_tag (tag_of t) at bytes

-- the parts from such a front on, where `more` are the parts of bytes at an index
abbrev pub parts_by : (ℕ → List ℕ → Parts) → Front → Parts
parts_by more nothing = stopped None
parts_by more (damaged error) = stopped (Some error)
parts_by more (object tag value rest next) = with_part tag value (more next rest)

-- at most `fuel` parts of the bytes, which stand at index `at`
abbrev pub parts_from : (ℕ → TagByte) → ℕ → ℕ → List ℕ → Parts
parts_from tag_of zero at bytes = stopped None
parts_from tag_of (suc fuel) at bytes = parts_by (parts_from tag_of fuel) (front tag_of at bytes)

-- all parts: no bytes have more parts than bytes
abbrev pub parts_of : (ℕ → TagByte) → List ℕ → Parts
parts_of tag_of bytes = parts_from tag_of (length bytes) 0 bytes

abbrev pub ber_parts : List ℕ → Parts
ber_parts bytes = parts_of ber_tag bytes

abbrev pub simple_parts : List ℕ → Parts
simple_parts bytes = parts_of simple_tag bytes

-- ---- readers

-- A reader that had `old` left to read handed out a part and has `new` left; or it had no part left,
-- told the damage once if there was any, and has nothing left.
abbrev pub Hands : Parts → Parts → Result (Option (ℕ × Bor (List ℕ))) TlvError → Type 0
Hands old new (Ok (Some part)) = old ≡ with_part part.0 part.1.now new
Hands old new (Ok None) = (old ≡ stopped None) × (new ≡ stopped None)
Hands old new (Err error) = (old ≡ stopped (Some error)) × (new ≡ stopped None)

-- what the bodies answer, as the grammar says it
abbrev pub object_seen : Result Object TlvError → Front
object_seen (Ok o) = object o.tag o.value.now o.rest.now o.next
object_seen (Err error) = damaged error

abbrev pub front_seen : Result (Option Object) TlvError → Front
front_seen (Ok None) = nothing
front_seen (Ok (Some o)) = object o.tag o.value.now o.rest.now o.next
front_seen (Err error) = damaged error

-- ---- parts

-- the value of the first part with this tag
abbrev pub value_of_tag : ℕ → List Part → Option (List ℕ)
value_of_tag tag parts = option_map (λ (p : Part). p.value) (find (λ (p : Part). p.tag == tag) parts)

-- tag, shortest length and value
abbrev pub part_bytes : ℕ → List ℕ → List ℕ
part_bytes tag value = if nat_lt (length value) 0x80 then tag ∷ length value ∷ value else tag ∷ 0x81 ∷ length value ∷ value
