-- What is written of an object is read back, whatever stands behind it.
use Rattle.std.proofs.Common.{◌≡◌, ℕ, ◌+◌, Bool, true, false, List, [], ◌∷◌, ◌++◌, length, nat_lt, if◌then◌else◌, None, refl, sym, ap, ◌∙◌, append-nil, arith}
use Rattle.std.proofs.lemmas.List.{length-append}
use Rattle.std.proofs.lemmas.Bool.{le-ltb}
use Rattle.std.proofs.Math.Seq.{take-append_seam, drop-append_seam}
use Rattle.tlv.specs.declared.object.TagByte.{TagByte}
use Rattle.tlv.specs.declared.object.TagByte.TheVariants.{Begins}
use Rattle.tlv.specs.Objects.{Parts, object, stopped, with_part, parts_by, parts_from, front, with_value, part_bytes}
use Rattle.tlv.proofs.Fuel.{parts_from-front}

-- the parts of all these bytes, which stand at index `at`
abbrev pub parts_at : (ℕ → TagByte) → ℕ → List ℕ → Parts
parts_at tag_of at bytes = parts_from tag_of (length bytes) at bytes

-- the index behind an object with this value
abbrev pub index_behind : ℕ → List ℕ → ℕ
index_behind at value = at + (if nat_lt (length value) 0x80 then 2 else 3) + length value

pub with_value-written : (tag at from : ℕ) (value rest : List ℕ) → with_value tag at from (length value) (value ++ rest) ≡ object tag value rest (from + length value)
with_value-written tag at from value rest =
    let enough : nat_lt (length (value ++ rest)) (length value) ≡ false = le-ltb _ _ (omega (arith, length-append value rest)) in
    rw (enough, take-append_seam value rest, drop-append_seam value rest) refl

pub front-by_form : (tag_of : ℕ → TagByte) (tag read at : ℕ) (value rest : List ℕ) (short : Bool) → tag_of tag ≡ Begins read → nat_lt (length value) 0x80 ≡ short → front tag_of at ((if short then tag ∷ length value ∷ value else tag ∷ 0x81 ∷ length value ∷ value) ++ rest) ≡ object read value rest (at + (if short then 2 else 3) + length value)
front-by_form tag_of tag read at value rest true begins form = rw (begins, form) (with_value-written read at (at + 2) value rest)
front-by_form tag_of tag read at value rest false begins form = rw begins (with_value-written read at (at + 3) value rest)

pub parts_at-written : (tag_of : ℕ → TagByte) (tag read at : ℕ) (value rest : List ℕ) → tag_of tag ≡ Begins read → parts_at tag_of at (part_bytes tag value ++ rest) ≡ with_part read value (parts_at tag_of (index_behind at value) rest)
parts_at-written tag_of tag read at value rest begins =
    parts_from-front tag_of at (part_bytes tag value ++ rest)
    ∙ ap (parts_by (parts_at tag_of)) (front-by_form tag_of tag read at value rest (nat_lt (length value) 0x80) begins refl)

pub parts_at-last : (tag_of : ℕ → TagByte) (tag read at : ℕ) (value : List ℕ) → tag_of tag ≡ Begins read → parts_at tag_of at (part_bytes tag value) ≡ with_part read value (stopped None)
parts_at-last tag_of tag read at value begins =
    ap (parts_at tag_of at) (sym (append-nil (part_bytes tag value)))
    ∙ parts_at-written tag_of tag read at value [] begins
