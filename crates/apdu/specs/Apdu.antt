-- Commands and responses, ETSI TS 102 221 clause 10: their bytes, the class byte and the status words.
use Rattle.std.specs.Prelude.{ℕ, ◌+◌, ◌-◌, ◌%◌, ◌/◌, ◌==◌, ◌&&◌, ◌||◌, not, Bool, true, false, nat_lt, if◌then◌else◌, List, [], ◌∷◌, ◌++◌, length, take, drop, Option, Some, None, Result, Ok, Err}
use Rattle.apdu.specs.Values.{CommandValue, ResponseValue}
use Rattle.apdu.specs.Words.{two_bytes, pair_value, is_between, is_one_of, same_bytes, same_number}
use Rattle.apdu.specs.declared.class.ClassKind.{ClassKind}
use Rattle.apdu.specs.declared.class.ClassKind.TheVariants.{Plain, Toolkit}
use Rattle.apdu.specs.declared.command.ApduError.{ApduError}
use Rattle.apdu.specs.declared.command.ApduError.TheVariants.{TooShort, BadLength}

-- ---- instruction bytes, TS 102 221 table 10.5 and TS 102 223

abbrev pub select_ins : ℕ
select_ins = 0xA4

abbrev pub get_response_ins : ℕ
get_response_ins = 0xC0

abbrev pub status_ins : ℕ
status_ins = 0xF2

abbrev pub read_binary_ins : ℕ
read_binary_ins = 0xB0

abbrev pub update_binary_ins : ℕ
update_binary_ins = 0xD6

abbrev pub read_record_ins : ℕ
read_record_ins = 0xB2

abbrev pub update_record_ins : ℕ
update_record_ins = 0xDC

abbrev pub verify_ins : ℕ
verify_ins = 0x20

abbrev pub manage_channel_ins : ℕ
manage_channel_ins = 0x70

abbrev pub terminal_profile_ins : ℕ
terminal_profile_ins = 0x10

abbrev pub fetch_ins : ℕ
fetch_ins = 0x12

abbrev pub terminal_response_ins : ℕ
terminal_response_ins = 0x14

-- UPDATE BINARY or UPDATE RECORD
abbrev pub is_update_ins : ℕ → Bool
is_update_ins ins = is_one_of ins (update_binary_ins ∷ update_record_ins ∷ [])

-- READ BINARY or READ RECORD
abbrev pub is_read_ins : ℕ → Bool
is_read_ins ins = is_one_of ins (read_binary_ins ∷ read_record_ins ∷ [])

-- ---- the class byte, TS 102 221 clause 10.1.1

-- channels 0 to 3 in the two low bits, 4 to 19 in the four low bits of the further classes
abbrev pub class_for : ClassKind → ℕ → ℕ
class_for Plain channel = if nat_lt channel 4 then channel else 0x40 + (channel - 4)
class_for Toolkit channel = if nat_lt channel 4 then 0x80 + channel else 0xC0 + (channel - 4)

abbrev pub channel_of : ℕ → Option (ClassKind × ℕ)
channel_of class =
    if is_between 0 3 class then Some (Plain, class)
    else if is_between 0x40 0x4F class then Some (Plain, class - 0x40 + 4)
    else if is_between 0x80 0x83 class then Some (Toolkit, class - 0x80)
    else if is_between 0xC0 0xCF class then Some (Toolkit, class - 0xC0 + 4)
    else None

abbrev pub is_toolkit : ClassKind → Bool
is_toolkit Plain = false
is_toolkit Toolkit = true

-- ---- bytes

-- Le is one byte; 256 is written 00
abbrev pub le_bytes : Option ℕ → List ℕ
le_bytes None = []
le_bytes (Some le) = (le % 256) ∷ []

-- Lc and the body, where there is one
abbrev pub body_bytes : List ℕ → List ℕ
body_bytes [] = []
body_bytes (b ∷ bytes) = length (b ∷ bytes) ∷ b ∷ bytes

abbrev pub command_bytes : CommandValue → List ℕ
command_bytes c = c.class ∷ c.ins ∷ c.p1 ∷ c.p2 ∷ (body_bytes c.body ++ le_bytes c.le)

abbrev pub response_bytes : ResponseValue → List ℕ
response_bytes r = r.body ++ two_bytes r.sw

-- a command of the plain class on the basic channel
abbrev pub command : ℕ → ℕ → ℕ → List ℕ → Option ℕ → CommandValue
command ins p1 p2 body le = record { class = 0; ins = ins; p1 = p1; p2 = p2; body = body; le = le }

abbrev pub with_class : ℕ → CommandValue → CommandValue
with_class class c = record c { class = class }

abbrev pub with_le : ℕ → CommandValue → CommandValue
with_le le c = record c { le = Some le }

-- Le as it stands in its byte: 00 asks for 256
abbrev pub le_of_byte : ℕ → ℕ
le_of_byte b = if b == 0 then 256 else b

-- the Le that stands last, where there is one; two bytes and more are none
abbrev pub read_le : List ℕ → Option (Option ℕ)
read_le [] = Some None
read_le (b ∷ []) = Some (Some (le_of_byte b))
read_le (b ∷ d ∷ bytes) = None

abbrev pub with_last_le : CommandValue → ApduError → Option (Option ℕ) → Result CommandValue ApduError
with_last_le c error None = Err error
with_last_le c error (Some le) = Ok (record c { le = le })

-- Lc, and behind it the body and perhaps Le
abbrev pub read_body : CommandValue → ℕ → List ℕ → Result CommandValue ApduError
read_body c lc rest =
    if (lc == 0) || nat_lt (length rest) lc then Err (BadLength lc (5 + length rest))
    else with_last_le (record c { body = take lc rest }) (BadLength lc (5 + length rest)) (read_le (drop lc rest))

-- behind the header stands nothing, or Le, or Lc and more
abbrev pub read_behind : CommandValue → List ℕ → Result CommandValue ApduError
read_behind c [] = Ok c
read_behind c (le ∷ []) = Ok (with_le (le_of_byte le) c)
read_behind c (lc ∷ b ∷ rest) = read_body c lc (b ∷ rest)

abbrev pub read_command : List ℕ → Result CommandValue ApduError
read_command [] = Err (TooShort 0)
read_command (class ∷ []) = Err (TooShort 1)
read_command (class ∷ ins ∷ []) = Err (TooShort 2)
read_command (class ∷ ins ∷ p1 ∷ []) = Err (TooShort 3)
read_command (class ∷ ins ∷ p1 ∷ p2 ∷ rest) = read_behind (with_class class (command ins p1 p2 [] None)) rest

abbrev pub word_of : List ℕ → ℕ
word_of [] = 0
word_of (high ∷ []) = 0
word_of (high ∷ low ∷ rest) = pair_value high low

-- the body is all but the last two bytes
abbrev pub read_response : List ℕ → Result ResponseValue ApduError
read_response bytes =
    if nat_lt (length bytes) 2 then Err (TooShort (length bytes))
    else if nat_lt 258 (length bytes) then Err (BadLength 256 (length bytes))
    else Ok (record { body = take (length bytes - 2) bytes; sw = word_of (drop (length bytes - 2) bytes) })

abbrev pub same_command : CommandValue → CommandValue → Bool
same_command a b = (a.class == b.class) && (a.ins == b.ins) && (a.p1 == b.p1) && (a.p2 == b.p2) && same_bytes a.body b.body && same_number a.le b.le

abbrev pub same_response : ResponseValue → ResponseValue → Bool
same_response a b = same_bytes a.body b.body && (a.sw == b.sw)

-- ---- status words, TS 102 221 clause 10.2.1

-- a status word without a body
abbrev pub refusal : ℕ → ResponseValue
refusal word = record { body = []; sw = word }

-- 91XX: normal ending, and a proactive command of XX bytes is pending
abbrev pub is_announcement : ℕ → Bool
is_announcement sw = sw / 256 == 0x91

-- 9000 or 91XX
abbrev pub is_success : ℕ → Bool
is_success sw = (sw == 0x9000) || is_announcement sw

-- 61XX: XX bytes are to be fetched by GET RESPONSE
abbrev pub has_more : ℕ → Bool
has_more sw = sw / 256 == 0x61

-- 6CXX: wrong Le, and XX is the right one
abbrev pub wants_other_le : ℕ → Bool
wants_other_le sw = sw / 256 == 0x6C

-- 61XX or 6CXX, after which the terminal sends one command more
abbrev pub wants_more : ℕ → Bool
wants_more sw = has_more sw || wants_other_le sw

-- a status that is neither a success nor 61XX nor 6CXX
abbrev pub is_refusal : ℕ → Bool
is_refusal sw = not (is_success sw || wants_more sw)
