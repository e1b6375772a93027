-- The rules of the escape in the default alphabet, each by the byte behind it: what the definition of a name's characters comes to.
use Rattle.std.proofs.Common.{◌≡◌, ◌≢◌, ℕ, ◌<◌, ◌≤◌, ◌==◌, nat_le, true, false, Option, Some, None, List, [], ◌∷◌, refl, arith}
use Rattle.std.proofs.lemmas.Bool.Decides.{nat_tests}
use Rattle.alpha.specs.Alphabet.{escape, space, extension_table}
use Rattle.alpha.specs.Names.{default_character, extension_character, alphabet_characters}

no_byte_behind : (base : Option ℕ) → alphabet_characters base false (escape ∷ []) ≡ space ∷ []
no_byte_behind base = refl

high_byte_behind : (base : Option ℕ) (b : ℕ) (rest : List ℕ) → 0x80 ≤ b → alphabet_characters base false (escape ∷ b ∷ rest) ≡ space ∷ alphabet_characters base false (b ∷ rest)
high_byte_behind base b rest high =
    let above : nat_le 0x80 b ≡ true = grind (arith, nat_tests) in
    let plain : (b == 0x1B) ≡ false = grind (arith, nat_tests) in
    rw (above, plain) refl

extension_behind : (base : Option ℕ) (b c : ℕ) (rest : List ℕ) → b < 0x80 → extension_character b ≡ Some c → alphabet_characters base false (escape ∷ b ∷ rest) ≡ c ∷ alphabet_characters base false rest
extension_behind base b c rest small e =
    let low : nat_le 0x80 b ≡ false = grind (arith, nat_tests) in
    rw (low, e) refl

escape_behind : (base : Option ℕ) (rest : List ℕ) → alphabet_characters base false (escape ∷ escape ∷ rest) ≡ space ∷ alphabet_characters base false rest
unfolding extension_table
escape_behind base rest = refl

other_byte_behind : (base : Option ℕ) (b : ℕ) (rest : List ℕ) → b < 0x80 → extension_character b ≡ None → b ≢ escape → alphabet_characters base false (escape ∷ b ∷ rest) ≡ default_character b ∷ alphabet_characters base false rest
other_byte_behind base b rest small e other =
    let low : nat_le 0x80 b ≡ false = grind (arith, nat_tests) in
    let plain : (b == 0x1B) ≡ false = grind (arith, nat_tests) in
    rw (low, e, plain) refl
