-- The default alphabet and its extension table, 3GPP TS 23.038 clauses 6.2.1 and 6.2.1.1, sixteen places to a row.
use Rattle.std.specs.Prelude.{ℕ, List, ◌∷◌, ◌++◌, codes}

-- the escape to the extension table
abbrev pub escape : ℕ
escape = 0x1B

abbrev pub space : ℕ
space = 0x20

-- U+FFFF is no character, and no name that is written has it: it stands in the escape's place
abbrev pub no_character : ℕ
no_character = 0xFFFF

unfoldable pub default_alphabet : List ℕ
default_alphabet =
    codes "@£$¥èéùìòÇ\nØø\rÅå"
    ++ (codes "Δ_ΦΓΛΩΠΨΣΘΞ" ++ no_character ∷ codes "ÆæßÉ")
    ++ codes " !\"#¤%&'()*+,-./"
    ++ codes "0123456789:;<=>?"
    ++ codes "¡ABCDEFGHIJKLMNO"
    ++ codes "PQRSTUVWXYZÄÖÑÜ§"
    ++ codes "¿abcdefghijklmno"
    ++ codes "pqrstuvwxyzäöñüà"

-- a blank is a place without a character; the character of 0A is the form feed, 0C
unfoldable pub extension_table : List ℕ
extension_table =
    (codes "          " ++ 0x0C ∷ codes "     ")
    ++ codes "    ^           "
    ++ codes "        {}     \\"
    ++ codes "            [~] "
    ++ codes "|               "
    ++ codes "                "
    ++ codes "     €          "
    ++ codes "                "
