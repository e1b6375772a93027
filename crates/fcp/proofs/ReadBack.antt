-- What is written of a file or a directory is read back.
use Rattle.std.proofs.Common.{◌≡◌, ◌≤◌, ℕ, ◌/◌, ◌%◌, Bool, true, false, List, [], ◌∷◌, ◌++◌, Option, Some, None, Ok, nat_le, refl, sym, ap, ◌∙◌, append_assoc, append-nil, arith}
use Rattle.std.proofs.lemmas.Bool.{le-leb, false≢true}
use Rattle.apdu.specs.Words.{pair_value, two_bytes}
use Rattle.tlv.specs.Objects.{Parts, stopped, with_part, ber_tag, ber_parts, part_bytes}
use Rattle.tlv.proofs.Written.{parts_at, parts_at-written, parts_at-last}
use Rattle.fcp.specs.declared.rows.FileKind.{FileKind}
use Rattle.fcp.specs.declared.rows.FileKind.TheVariants.{Transparent, Linear, Directory}
use Rattle.fcp.specs.declared.control.Fcp.{Fcp}
use Rattle.fcp.specs.declared.control.ArrRef.{ArrRef}
use Rattle.fcp.specs.Control.{descriptor_bytes, identity_part, life_cycle_byte, reference_part, size_part, template_bytes, write_fcp, Describes, read_fcp, fcp_of_template}

-- the parts that stand for an identity, a reference and a size
abbrev with_identity : Option ℕ → List ℕ → Parts → Parts
with_identity (Some id) aid rest = with_part 0x83 (two_bytes id) rest
with_identity None aid rest = with_part 0x84 aid rest

abbrev with_reference : Option ArrRef → Parts → Parts
with_reference None rest = rest
with_reference (Some r) rest = with_part 0x8B (two_bytes r.file_id ++ r.row ∷ []) rest

abbrev with_size : FileKind → ℕ → Parts → Parts
with_size Transparent size rest = with_part 0x80 (two_bytes size) rest
with_size Linear size rest = with_part 0x80 (two_bytes size) rest
with_size Directory size rest = rest

parts_at-tail : (kind : FileKind) (size byte at : ℕ) (arr : Option ArrRef) → parts_at ber_tag at (part_bytes 0x8A (byte ∷ []) ++ (reference_part arr ++ size_part kind size)) ≡ with_part 0x8A (byte ∷ []) (with_reference arr (with_size kind size (stopped None)))
parts_at-tail Transparent size byte at None = refl
parts_at-tail Transparent size byte at (Some r) = refl
parts_at-tail Linear size byte at None = refl
parts_at-tail Linear size byte at (Some r) = refl
parts_at-tail Directory size byte at None = refl
parts_at-tail Directory size byte at (Some r) = refl

parts_at-identity : (id : Option ℕ) (aid : List ℕ) (at : ℕ) (rest : List ℕ) (parts : Parts) → ((next : ℕ) → parts_at ber_tag next rest ≡ parts) → parts_at ber_tag at (identity_part id aid ++ rest) ≡ with_identity id aid parts
parts_at-identity (Some id) aid at rest parts same = parts_at-written ber_tag 0x83 0x83 at (two_bytes id) rest refl ∙ ap (with_part 0x83 (two_bytes id)) (same _)
parts_at-identity None aid at rest parts same = parts_at-written ber_tag 0x84 0x84 at aid rest refl ∙ ap (with_part 0x84 aid) (same _)

abbrev whole : Fcp → List ℕ → Parts
whole f aid = with_part 0x82 (descriptor_bytes f.kind f.width f.count) (with_identity f.file_id aid (with_part 0x8A (life_cycle_byte f.active ∷ []) (with_reference f.arr (with_size f.kind f.size (stopped None)))))

parts-template : (f : Fcp) (aid : List ℕ) → ber_parts (template_bytes f aid) ≡ whole f aid
parts-template f aid =
    let last : List ℕ = part_bytes 0x8A (life_cycle_byte f.active ∷ []) ++ (reference_part f.arr ++ size_part f.kind f.size) in
    let grouped : template_bytes f aid ≡ part_bytes 0x82 (descriptor_bytes f.kind f.width f.count) ++ (identity_part f.file_id aid ++ last) = simp append_assoc in
    ap ber_parts grouped
    ∙ parts_at-written ber_tag 0x82 0x82 0 (descriptor_bytes f.kind f.width f.count) (identity_part f.file_id aid ++ last) refl
    ∙ ap (with_part 0x82 (descriptor_bytes f.kind f.width f.count)) (parts_at-identity f.file_id aid _ last _ (λ next. parts_at-tail f.kind f.size (life_cycle_byte f.active) next f.arr))

-- the two bytes of a number are that number
pair_value-two_bytes : (n : ℕ) → pair_value (n / 256) (n % 256) ≡ n
pair_value-two_bytes n = omega arith

-- the parameters of these fields
abbrev fcp_with : FileKind → ℕ → Option ℕ → ℕ → ℕ → Bool → Option ArrRef → Fcp
fcp_with kind size id width count active arr = record { kind = kind; size = size; file_id = id; width = width; count = count; active = active; arr = arr }

transparent-whole : (size id : ℕ) (active : Bool) (arr : Option ArrRef) (aid : List ℕ) → nat_le size 32767 ≡ true → fcp_of_template (whole (fcp_with Transparent size (Some id) 0 0 active arr) aid) ≡ Ok (fcp_with Transparent size (Some id) 0 0 active arr)
transparent-whole size id true None aid small = simp (pair_value-two_bytes, small)
transparent-whole size id true (Some r) aid small = simp (pair_value-two_bytes, small)
transparent-whole size id false None aid small = simp (pair_value-two_bytes, small)
transparent-whole size id false (Some r) aid small = simp (pair_value-two_bytes, small)

linear-whole : (size id width count : ℕ) (active : Bool) (arr : Option ArrRef) (aid : List ℕ) → nat_le size 65535 ≡ true → nat_le 1 width ≡ true → nat_le width 255 ≡ true → fcp_of_template (whole (fcp_with Linear size (Some id) width count active arr) aid) ≡ Ok (fcp_with Linear size (Some id) width count active arr)
linear-whole size id width count true None aid small some narrow = simp (pair_value-two_bytes, small, some, narrow)
linear-whole size id width count true (Some r) aid small some narrow = simp (pair_value-two_bytes, small, some, narrow)
linear-whole size id width count false None aid small some narrow = simp (pair_value-two_bytes, small, some, narrow)
linear-whole size id width count false (Some r) aid small some narrow = simp (pair_value-two_bytes, small, some, narrow)

directory-whole : (id : Option ℕ) (active : Bool) (arr : Option ArrRef) (aid : List ℕ) → fcp_of_template (whole (fcp_with Directory 0 id 0 0 active arr) aid) ≡ Ok (fcp_with Directory 0 id 0 0 active arr)
directory-whole None true None aid = refl
directory-whole None true (Some r) aid = simp pair_value-two_bytes
directory-whole None false None aid = refl
directory-whole None false (Some r) aid = simp pair_value-two_bytes
directory-whole (Some id) true None aid = simp pair_value-two_bytes
directory-whole (Some id) true (Some r) aid = simp pair_value-two_bytes
directory-whole (Some id) false None aid = simp pair_value-two_bytes
directory-whole (Some id) false (Some r) aid = simp pair_value-two_bytes

template-whole : (kind : FileKind) (size : ℕ) (id : Option ℕ) (width count : ℕ) (active : Bool) (arr : Option ArrRef) (aid : List ℕ) → size ≤ 65535 → Describes kind (fcp_with kind size id width count active arr) → fcp_of_template (whole (fcp_with kind size id width count active arr) aid) ≡ Ok (fcp_with kind size id width count active arr)
template-whole Transparent size None width count active arr aid fits h = absurd (false≢true h.0)
template-whole Transparent size (Some id) width count active arr aid fits h = rw (h.2, h.3) (transparent-whole size id active arr aid (le-leb _ _ h.1))
template-whole Linear size None width count active arr aid fits h = absurd (false≢true h.0)
template-whole Linear size (Some id) width count active arr aid fits h = linear-whole size id width count active arr aid (le-leb _ _ fits) (le-leb _ _ h.1) (le-leb _ _ h.2)
template-whole Directory size id width count active arr aid fits h = rw (h.0, h.1, h.2) (directory-whole id active arr aid)

pub read_fcp-write_fcp : (f : Fcp) (aid : List ℕ) → f.size ≤ 65535 → Describes f.kind f → read_fcp (write_fcp f aid) ≡ Ok f
unfolding read_fcp write_fcp
read_fcp-write_fcp f aid fits describes =
    let outer : ber_parts (write_fcp f aid) ≡ with_part 0x62 (template_bytes f aid) (stopped None) = parts_at-last ber_tag 0x62 0x62 0 (template_bytes f aid) refl in
    rw outer (rw (parts-template f aid) (template-whole f.kind f.size f.file_id f.width f.count f.active f.arr aid fits describes))
