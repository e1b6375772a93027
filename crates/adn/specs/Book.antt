-- The phonebook of EF_ADN or EF_FDN and its extension file: 3GPP TS 31.102 clauses 4.2.24 (FDN), 4.4.2.3 (ADN) and 4.4.2.4 (EXT1).
use Rattle.std.specs.Prelude.{ℕ, ◌-◌, ◌%◌, ◌/◌, ◌==◌, ◌&&◌, Bool, nat_lt, nat_le, if◌then◌else◌, List, [], ◌∷◌, ◌++◌, length, take, drop, map, slice_get, slice_index, Option, Some, None}
use Rattle.apdu.specs.Words.{is_between, is_empty}
use Rattle.fcp.specs.Content.{Content, is_linear}
use Rattle.alpha.specs.Names.{decode_name}
use Rattle.bcd.specs.Digits.{read_digits}
use Rattle.adn.specs.declared.entry.AdnEntry.{AdnEntry}
use Rattle.adn.specs.declared.entry.BookRow.{BookRow}
use Rattle.adn.specs.declared.entry.BookRow.TheVariants.{Free, Entry, Unreadable}

-- ---- the bytes of a row behind its name: a count, type and plan of the number, ten bytes of digits, capability, and an extension row

abbrev pub footer_len : ℕ
footer_len = 14

-- the count is of the type and the bytes of digits; 00, 01 and FF leave no digits
abbrev pub own_bytes : List ℕ → List ℕ
own_bytes footer = if is_between 2 11 (slice_index footer 0) then take (slice_index footer 0 - 1) (drop 2 footer) else []

-- the type of the number, bits 7 to 5, is 001
abbrev pub is_international : List ℕ → Bool
is_international footer = (slice_index footer 1 / 16) % 8 == 1

-- ---- extension rows

-- the rows of an extension file; one that is not linear, or narrower than 13, has none
abbrev pub extension_rows : Content → List (List ℕ)
extension_rows ext = if is_linear ext.kind && nat_le 13 ext.width then ext.rows else []

-- the row of a number from 1; 00 and FF name none
abbrev pub extension_row : List (List ℕ) → ℕ → Option (List ℕ)
extension_row ext number = if is_between 1 254 number then slice_get ext (number - 1) else None

-- additional data: type 02, the count of bytes, and the digits; a count above 10 has none
abbrev pub additional_bytes : List ℕ → List ℕ
additional_bytes (kind ∷ count ∷ digits) = if (kind == 0x02) && nat_le count 10 then take count digits else []
additional_bytes _ = []

abbrev pub additional_of : Option (List ℕ) → List ℕ
additional_of None = []
additional_of (Some row) = additional_bytes row

-- what stands in the extension row that the last byte names
abbrev pub further_bytes : List (List ℕ) → List ℕ → List ℕ
further_bytes ext footer = additional_of (extension_row ext (slice_index footer 13))

-- ---- rows and book

-- `+` where it is international, and the digits of the row and of its extension row
abbrev pub signed_digits : Bool → List ℕ → List ℕ → List ℕ
signed_digits international own further = (if international then 43 ∷ [] else []) ++ own ++ further

-- empty where the row itself has no digits
abbrev pub number_of : List (List ℕ) → List ℕ → List ℕ
number_of ext footer =
    if is_empty (read_digits (own_bytes footer)) then []
    else signed_digits (is_international footer) (read_digits (own_bytes footer)) (read_digits (further_bytes ext footer))

abbrev pub entry_row : AdnEntry → BookRow
entry_row entry = if is_empty entry.name && is_empty entry.number then Free else Entry entry

-- the name and the bytes behind it; a count from 12 to 254 is none
abbrev pub row_of : List (List ℕ) → List ℕ → List ℕ → BookRow
row_of ext name footer =
    if is_between 12 254 (slice_index footer 0) then Unreadable
    else entry_row (record { name = decode_name name; number = number_of ext footer })

abbrev pub book_row : List (List ℕ) → List ℕ → BookRow
book_row ext row =
    if nat_lt (length row) footer_len then Unreadable
    else row_of ext (take (length row - footer_len) row) (drop (length row - footer_len) row)

-- a main file that is not linear has no rows
abbrev pub main_rows : Content → List (List ℕ)
main_rows main = if is_linear main.kind then main.rows else []

abbrev pub decode_book : Content → Content → List BookRow
decode_book main ext = map (book_row (extension_rows ext)) (main_rows main)
