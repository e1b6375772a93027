-- Names in the default alphabet, 3GPP TS 23.038 clause 6.2.1, and in UCS2, ETSI TS 102 221 annex A.
use Rattle.std.specs.Prelude.{ℕ, ◌+◌, ◌*◌, ◌%◌, ◌==◌, ◌||◌, ◌&&◌, not, Bool, false, nat_lt, nat_le, if◌then◌else◌, List, [], ◌∷◌, ◌++◌, length, take, position, find, flat_map, slice_index, Option, Some, None, is_some, unwrap_or, encode_utf8_all}
use Rattle.std.specs.List.{list_all, before_first}
use Rattle.std.specs.Str.{chars}
use Rattle.apdu.specs.Words.{pair_value, two_bytes, is_between, filled_to}
use Rattle.alpha.specs.Alphabet.{escape, space, default_alphabet, extension_table}
use Rattle.alpha.specs.declared.encode.AlphaError.{AlphaError}
use Rattle.alpha.specs.declared.encode.AlphaError.TheVariants.{NotWritable, TooLong}

-- ---- reading

-- what stands for a value that is no character
abbrev pub replacement : ℕ
replacement = 0xFFFD

-- a surrogate, or a value past FFFF, is no character of UCS2
abbrev pub unit_character : ℕ → ℕ
unit_character u = if is_between 0xD800 0xDFFF u || nat_lt 0xFFFF u then replacement else u

-- a byte with bit 8 is its low seven bits past the base, and no character where there is no base
abbrev pub high_character : Option ℕ → ℕ → ℕ
high_character None b = replacement
high_character (Some base) b = unit_character (base + b % 0x80)

abbrev pub default_character : ℕ → ℕ
default_character b = slice_index default_alphabet b

abbrev pub extension_character : ℕ → Option ℕ
extension_character b = if slice_index extension_table b == space then None else Some (slice_index extension_table b)

-- a byte below 80 behind an escape: the two read as its extension character, else for a second escape as a space, else as its default character
abbrev pub escaped_character : ℕ → ℕ
escaped_character b = unwrap_or (extension_character b) (if b == escape then space else default_character b)

-- what a byte adds, `after` an escape or not: an escape before a byte with bit 8 is a space, and before another it is read with that byte
abbrev pub byte_characters : Option ℕ → Bool → ℕ → List ℕ
byte_characters base after b =
    if nat_le 0x80 b then (if after then space ∷ high_character base b ∷ [] else high_character base b ∷ [])
    else if after then escaped_character b ∷ []
    else if b == escape then []
    else default_character b ∷ []

-- bytes in the default alphabet, where `after` an escape stands just before them; an escape with no byte behind it is a space
abbrev pub alphabet_characters : Option ℕ → Bool → List ℕ → List ℕ
alphabet_characters base after [] = if after then space ∷ [] else []
alphabet_characters base after (b ∷ rest) = byte_characters base after b ++ alphabet_characters base (not after && b == escape) rest

-- units of two bytes up to the unit FFFF or the last whole pair
abbrev pub unit_characters : List ℕ → List ℕ
unit_characters (high ∷ low ∷ rest) = if pair_value high low == 0xFFFF then [] else unit_character (pair_value high low) ∷ unit_characters rest
unit_characters _ = []

-- a count, bits 15 to 8 of the base, and that many bytes
abbrev pub narrow_characters : List ℕ → List ℕ
narrow_characters (count ∷ base ∷ bytes) = alphabet_characters (Some (base * 0x80)) false (take count bytes)
narrow_characters _ = []

-- a count, the base in two bytes, and that many bytes
abbrev pub wide_characters : List ℕ → List ℕ
wide_characters (count ∷ high ∷ low ∷ bytes) = alphabet_characters (Some (pair_value high low)) false (take count bytes)
wide_characters _ = []

-- the byte FF ends a name in the default alphabet
abbrev pub default_characters : List ℕ → List ℕ
default_characters bytes = alphabet_characters None false (before_first (λ b. b == 0xFF) bytes)

-- the first byte tells the form
abbrev pub name_characters : List ℕ → List ℕ
name_characters [] = []
name_characters (form ∷ bytes) =
    if form == 0x80 then unit_characters bytes
    else if form == 0x81 then narrow_characters bytes
    else if form == 0x82 then wide_characters bytes
    else default_characters (form ∷ bytes)

-- the name in UTF-8
abbrev pub decode_name : List ℕ → List ℕ
decode_name bytes = encode_utf8_all (name_characters bytes)

-- ---- writing

-- the first place of a character in a table
abbrev pub place_in : List ℕ → ℕ → Option ℕ
place_in table c = position (λ d. d == c) table

-- a byte of the default alphabet, or else the escape and a byte of the extension table
abbrev pub bytes_at : Option ℕ → Option ℕ → Option (List ℕ)
bytes_at (Some b) extension = Some (b ∷ [])
bytes_at None (Some b) = Some (escape ∷ b ∷ [])
bytes_at None None = None

-- the bytes of a character in the default alphabet, if it has any there
abbrev pub alphabet_bytes : ℕ → Option (List ℕ)
alphabet_bytes c = bytes_at (place_in default_alphabet c) (place_in extension_table c)

-- a name without its fill: in the default alphabet where each character is there, and else in units
abbrev pub written_name : List ℕ → List ℕ
written_name characters =
    if list_all (λ c. is_some (alphabet_bytes c)) characters
    then flat_map (λ c. unwrap_or (alphabet_bytes c) []) characters
    else 0x80 ∷ flat_map two_bytes characters

-- the first character that is U+FFFF or past it
abbrev pub not_writable : List ℕ → Option ℕ
not_writable characters = find (λ c. nat_le 0xFFFF c) characters

abbrev pub refusal_of : Option ℕ → ℕ → ℕ → Option AlphaError
refusal_of (Some c) need room = Some (NotWritable c)
refusal_of None need room = if nat_lt room need then Some (TooLong need room) else None

-- why a name cannot be written: a character that is not writable, or else more bytes than there is room for
abbrev pub name_refusal : List ℕ → ℕ → Option AlphaError
name_refusal characters room = refusal_of (not_writable characters) (length (written_name characters)) room

-- the bytes of a text, which is UTF-8, in that room
abbrev pub encode_name : List ℕ → ℕ → List ℕ
encode_name text room = filled_to 0xFF room (written_name (chars text))
