-- The words of a line, and the numbers and bytes that they write. Each has one spelling.
use Rattle.std.specs.Prelude.{ℕ, ◌+◌, ◌-◌, ◌*◌, ◌==◌, ◌||◌, Bool, false, nat_le, if◌then◌else◌, List, [], ◌∷◌, take, drop, codes, Option, Some, None, option_map, Result, Ok, Err}
use Rattle.std.specs.List.{slice_split}
use Rattle.hex.specs.Hex.{decode_of, encode_upper}
use Rattle.hex.specs.declared.error.FromHexError.{FromHexError}
use Rattle.apdu.specs.Words.{is_between, is_empty, same_bytes, pair_value}
use Rattle.apdu.specs.Values.{CommandValue, ResponseValue}
use Rattle.apdu.specs.Apdu.{read_command, read_response}
use Rattle.apdu.specs.declared.command.ApduError.{ApduError}
use Rattle.report_reader.specs.Reads.{◌>>=◌, all_of}

-- the parts between the bytes of this value
abbrev pub parts_of : ℕ → List ℕ → List (List ℕ)
parts_of at bytes = slice_split (λ b. b == at) bytes

-- the parts between spaces
abbrev pub words_of : List ℕ → List (List ℕ)
words_of line = parts_of 32 line

-- how many bytes stand before the first space, or in all
abbrev pub first_len : List ℕ → ℕ
first_len [] = 0
first_len (b ∷ bytes) = if b == 32 then 0 else first_len bytes + 1

abbrev pub first_word : List ℕ → List ℕ
first_word line = take (first_len line) line

-- what stands behind the first space
abbrev pub behind_word : List ℕ → List ℕ
behind_word line = drop (first_len line + 1) line

-- ---- numbers

-- a decimal digit, or an upper-case one of the further hexadecimal digits
abbrev pub digit_of : ℕ → Option ℕ
digit_of b =
    if is_between 48 57 b then Some (b - 48)
    else if is_between 65 70 b then Some (b - 55)
    else None

abbrev pub at_most : ℕ → ℕ → Option ℕ
at_most limit n = if nat_le n limit then Some n else None

-- the number with one digit more
abbrev pub with_digit : ℕ → ℕ → ℕ → ℕ → Option ℕ
with_digit base limit n b = do
  digit ← digit_of b
  within ← at_most (base - 1) digit
  at_most limit (n * base + within)

-- the number that the digits write behind those of another
abbrev pub number_behind : ℕ → ℕ → ℕ → List ℕ → Option ℕ
number_behind base limit n [] = Some n
number_behind base limit n (b ∷ bytes) = do
  more ← with_digit base limit n b
  number_behind base limit more bytes

-- a zero stands before other digits
abbrev pub has_leading_zero : List ℕ → Bool
has_leading_zero [] = false
has_leading_zero (b ∷ []) = false
has_leading_zero (b ∷ other ∷ bytes) = b == 48

-- the number that the digits of this base write, if it is at most the limit: no sign and no leading zero
abbrev pub number_in : ℕ → ℕ → List ℕ → Option ℕ
number_in base limit word = if is_empty word || has_leading_zero word then None else number_behind base limit 0 word

abbrev pub number_to : ℕ → List ℕ → Option ℕ
number_to limit word = number_in 10 limit word

abbrev pub byte : List ℕ → Option ℕ
byte word = number_to 255 word

abbrev pub number : List ℕ → Option ℕ
number word = number_to 18446744073709551615 word

-- a code point of a character, which is no surrogate
abbrev pub character : List ℕ → Option ℕ
character word = do
  code ← number_in 16 0x10_FFFF word
  if is_between 0xD800 0xDFFF code then None else Some code

-- `-` for none
abbrev pub optional : List ℕ → Option (Option ℕ)
optional word = if same_bytes word (codes "-") then Some None else option_map Some (number word)

-- numbers of one byte joined by commas, or `-` for none
abbrev pub rows : List ℕ → Option (List ℕ)
rows word = if same_bytes word (codes "-") then Some [] else all_of byte (parts_of 44 word)

-- ---- bytes

-- the bytes, if this is their text
abbrev pub spelled : List ℕ → List ℕ → Option (List ℕ)
spelled word bytes = if same_bytes (encode_upper bytes) word then Some bytes else None

abbrev pub decoded : List ℕ → Result (List ℕ) FromHexError → Option (List ℕ)
decoded word (Ok bytes) = spelled word bytes
decoded word (Err error) = None

-- upper-case hexadecimal, two digits to a byte
abbrev pub hex : List ℕ → Option (List ℕ)
hex word = decoded word (decode_of word)

abbrev pub only_byte : List ℕ → Option ℕ
only_byte (b ∷ []) = Some b
only_byte [] = None
only_byte (b ∷ other ∷ bytes) = None

abbrev pub hex_byte : List ℕ → Option ℕ
hex_byte word = hex word >>= only_byte

abbrev pub only_pair : List ℕ → Option ℕ
only_pair [] = None
only_pair (high ∷ []) = None
only_pair (high ∷ low ∷ []) = Some (pair_value high low)
only_pair (high ∷ low ∷ other ∷ bytes) = None

-- a status word
abbrev pub hex_pair : List ℕ → Option ℕ
hex_pair word = hex word >>= only_pair

abbrev pub accepted : {A : Type 0} → Result A ApduError → Option A
accepted (Ok x) = Some x
accepted (Err error) = None

abbrev pub command : List ℕ → Option CommandValue
command word = do
  bytes ← hex word
  accepted (read_command bytes)

abbrev pub response : List ℕ → Option ResponseValue
response word = do
  bytes ← hex word
  accepted (read_response bytes)

-- ---- families

abbrev pub family : List ℕ → Option ℕ
family word =
    if same_bytes word (codes "records") then Some 0
    else if same_bytes word (codes "phonebook") then Some 1
    else if same_bytes word (codes "fixed") then Some 2
    else None
