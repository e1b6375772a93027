-- A row of EF_DIR, ETSI TS 102 221 clause 13.1.
use Rattle.std.specs.Prelude.{ℕ, ◌==◌, ◌||◌, if◌then◌else◌, List, [], ◌∷◌, length, Option, Some, None, unwrap_or, Result, Ok, Err}
use Rattle.apdu.specs.Words.{is_between}
use Rattle.tlv.specs.Objects.{Part, Parts, ber_parts, value_of_tag}
use Rattle.sim_codecs.specs.declared.values.AppRow.{AppRow}

-- an identifier has 1 to 16 bytes
abbrev pub row_of : List ℕ → List ℕ → Result (Option AppRow) ℕ
row_of aid label = if is_between 1 16 (length aid) then Ok (Some (record { aid = aid; label = label })) else Err 0

-- an identifier has to be there, and a label need not be
abbrev pub row_of_values : Option (List ℕ) → Option (List ℕ) → Result (Option AppRow) ℕ
row_of_values None label = Err 0
row_of_values (Some aid) label = row_of aid (unwrap_or label [])

-- the first object of each tag, where the template can be read to its end
abbrev pub template_row : Parts → Result (Option AppRow) ℕ
template_row read = elim read.damage [
  | Some error ↦ Err 0
  | None ↦ row_of_values (value_of_tag 0x4F read.parts) (value_of_tag 0x50 read.parts)
]

-- the row begins with an application template, and nothing behind it is read
abbrev pub row_of_parts : List Part → Result (Option AppRow) ℕ
row_of_parts [] = Err 0
row_of_parts (p ∷ parts) = if p.tag == 0x61 then template_row (ber_parts p.value) else Err 0

-- a row that is empty or filled has no application
abbrev pub dir_row_of : List ℕ → Result (Option AppRow) ℕ
dir_row_of [] = Ok None
dir_row_of (b ∷ bytes) = if b == 0x00 || b == 0xFF then Ok None else row_of_parts (ber_parts (b ∷ bytes)).parts
