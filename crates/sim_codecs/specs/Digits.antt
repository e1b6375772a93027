-- The fields whose bytes hold digits of four bits, the low half of a byte first: EF_ICCID, ETSI TS 102 221 clause 13.2, and EF_IMSI, 3GPP TS 31.102 clause 4.2.2.
use Rattle.std.specs.Prelude.{ℕ, ◌+◌, ◌-◌, ◌==◌, ◌||◌, not, Bool, nat_lt, List, [], ◌∷◌, ◌++◌, length, take, Option, Some, None, Result, Ok, Err, if◌then◌else◌}
use Rattle.apdu.specs.Words.{low_half, high_half, is_between}

-- a digit is written as its character
abbrev pub with_digit : ℕ → Result (List ℕ) ℕ → Result (List ℕ) ℕ
with_digit d (Ok digits) = Ok ((48 + d) ∷ digits)
with_digit d (Err at) = Err at

-- a digit of the byte at this index, and what follows it: A to F is no digit
abbrev pub digit_at : ℕ → ℕ → Result (List ℕ) ℕ → Result (List ℕ) ℕ
digit_at d at rest = if nat_lt 9 d then Err at else with_digit d rest

-- ---- EF_ICCID

-- F ends the number
abbrev pub digit_or_end : ℕ → ℕ → Result (List ℕ) ℕ → Result (List ℕ) ℕ
digit_or_end d at rest = if d == 15 then Ok [] else digit_at d at rest

abbrev pub iccid_from : ℕ → List ℕ → Result (List ℕ) ℕ
iccid_from at [] = Ok []
iccid_from at (b ∷ bytes) = digit_or_end (low_half b) at (digit_or_end (high_half b) at (iccid_from (at + 1) bytes))

-- the digits up to the first F or the tenth byte, or the index of the first byte that has none; a file that is too short is damaged at its end
abbrev pub iccid_of : List ℕ → Result (List ℕ) ℕ
iccid_of bytes = if nat_lt (length bytes) 10 then Err (length bytes) else iccid_from 0 (take 10 bytes)

-- ---- EF_IMSI

-- the last half: where the count of digits is even it is no digit, and F
abbrev pub last_half : Bool → ℕ → ℕ → Result (List ℕ) ℕ
last_half even d at = if even then (if d == 15 then Ok [] else Err at) else digit_at d at (Ok [])

-- the digits from the high half of the byte at this index on, and of the bytes behind it
abbrev pub imsi_from : Bool → ℕ → ℕ → List ℕ → Result (List ℕ) ℕ
imsi_from even at b [] = last_half even (high_half b) at
imsi_from even at b (c ∷ bytes) = digit_at (high_half b) at (digit_at (low_half c) (at + 1) (imsi_from even (at + 1) c bytes))

-- the low half of the byte at index 1 is the parity: 9 for an odd count of digits, 1 for an even one
abbrev pub imsi_by_parity : ℕ → ℕ → List ℕ → Result (List ℕ) ℕ
imsi_by_parity count b bytes =
    if not (low_half b == 1 || low_half b == 9) then Err 1
    else if nat_lt (length bytes + 2) (count + 1) then Err (length bytes + 2)
    else imsi_from (low_half b == 1) 1 b (take (count - 1) bytes)

-- the bytes behind the first, which says how many of them are read
abbrev pub imsi_in : ℕ → List ℕ → Result (List ℕ) ℕ
imsi_in count [] = Err 1
imsi_in count (b ∷ bytes) = imsi_by_parity count b bytes

-- the digits, or the index of the first damage: in the count of bytes, in the parity, at the end of a file that is too short, and then in the digits
abbrev pub imsi_of : List ℕ → Result (List ℕ) ℕ
imsi_of [] = Err 0
imsi_of (count ∷ bytes) = if is_between 1 8 count then imsi_in count bytes else Err 0

-- ---- digits put at the end of a text

-- the text with the digits, or the index of the damage
abbrev pub onto : List ℕ → Result (List ℕ) ℕ → Result (List ℕ) ℕ
onto out (Ok digits) = Ok (out ++ digits)
onto out (Err at) = Err at

abbrev pub ends_at : Option ℕ → List ℕ → Result (List ℕ) ℕ
ends_at None out = Ok out
ends_at (Some at) out = Err at
