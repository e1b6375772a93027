-- The calls that the lines of a conversation make: `reset`, `out`, `in` and the number of a card, `arm` and the number of a change, or a
-- command in hexadecimal. What stands behind the call's own words, as an answer of before, is not read.
use Rattle.std.specs.Prelude.{ℕ, Bool, false, ◌+◌, ◌-◌, ◌*◌, ◌==◌, nat_lt, if◌then◌else◌, List, [], ◌∷◌, codes, Option, Some, None, Result, Ok, Err}
use Rattle.std.specs.List.{slice_split}
use Rattle.std.specs.Option.{option_map}
use Rattle.hex.specs.Hex.{decode_of}
use Rattle.hex.specs.declared.error.FromHexError.{FromHexError}
use Rattle.apdu.specs.Words.{is_between, is_empty, same_bytes}
use Rattle.apdu.specs.Values.{CommandValue}
use Rattle.apdu.specs.Apdu.{read_command}
use Rattle.apdu.specs.declared.command.ApduError.{ApduError}
use Rattle.card_model.specs.declared.world.WorldEvent.TheVariants.{Arm, Out, Insert}
use Rattle.sim_card.specs.declared.calls.Call.{Call}
use Rattle.sim_card.specs.declared.calls.Call.TheVariants.{Exchange, Reset, World}

-- the parts between line feeds
abbrev pub lines_of : List ℕ → List (List ℕ)
lines_of bytes = slice_split (λ b. b == 10) bytes

-- the parts between spaces
abbrev pub words_of : List ℕ → List (List ℕ)
words_of line = slice_split (λ b. b == 32) line

-- ---- numbers

-- a number that is one byte
abbrev pub byte_of : ℕ → Option ℕ
byte_of n = if nat_lt n 256 then Some n else None

-- the number with one decimal digit more
abbrev pub with_digit : ℕ → ℕ → Option ℕ
with_digit n digit = if is_between 48 57 digit then byte_of (n * 10 + (digit - 48)) else None

-- the number that the digits write behind those of another
abbrev pub number_behind : Option ℕ → List ℕ → Option ℕ
number_behind n [] = n
number_behind None (digit ∷ digits) = None
number_behind (Some n) (digit ∷ digits) = number_behind (with_digit n digit) digits

-- a zero stands before other digits
abbrev pub has_leading_zero : List ℕ → Bool
has_leading_zero [] = false
has_leading_zero (digit ∷ []) = false
has_leading_zero (digit ∷ other ∷ digits) = digit == 48

-- the byte that decimal digits write, with no sign and no leading zero
abbrev pub number_of : List ℕ → Option ℕ
number_of digits =
    if is_empty digits then None
    else if has_leading_zero digits then None
    else number_behind (Some 0) digits

abbrev pub first_number : List (List ℕ) → Option ℕ
first_number [] = None
first_number (word ∷ words) = number_of word

-- ---- calls

abbrev pub command_of_result : Result CommandValue ApduError → Option Call
command_of_result (Ok c) = Some (Exchange c)
command_of_result (Err error) = None

abbrev pub command_of_bytes : Result (List ℕ) FromHexError → Option Call
command_of_bytes (Ok bytes) = command_of_result (read_command bytes)
command_of_bytes (Err error) = None

abbrev pub command_of : List ℕ → Option Call
command_of text = command_of_bytes (decode_of text)

abbrev pub named_call : List ℕ → List (List ℕ) → Option Call
named_call word behind =
    if same_bytes word (codes "reset") then Some Reset
    else if same_bytes word (codes "out") then Some (World Out)
    else if same_bytes word (codes "in") then option_map (λ card. World (Insert card)) (first_number behind)
    else if same_bytes word (codes "arm") then option_map (λ change. World (Arm change)) (first_number behind)
    else command_of word

abbrev pub call_of_words : List (List ℕ) → Option Call
call_of_words [] = None
call_of_words (word ∷ behind) = named_call word behind

-- the call that a line makes, if any
abbrev pub call_of : List ℕ → Option Call
call_of line = call_of_words (words_of line)
