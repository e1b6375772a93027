-- A name that was written is read back.
use Rattle.std.proofs.Common.{◌≡◌, ◌≢◌, ℕ, suc, zero, ◌-◌, ◌/◌, ◌%◌, ◌<◌, ◌==◌, ◌&&◌, not, nat_lt, nat_le, cond, Bool, true, false, Option, Some, None, List, [], ◌∷◌, ◌++◌, length, get_or, replicate, refl, sym, ap, subst, ◌∙◌, arith}
use Rattle.std.specs.List.{list_all, flat_map, before_first}
use Rattle.std.specs.Option.{is_some, unwrap_or}
use Rattle.std.specs.Str.{chars, IsUtf8, encode_utf8_all, all_scalars}
use Rattle.std.specs.Char.{IsScalar}
use Rattle.std.proofs.lemmas.Bool.{eqb-true}
use Rattle.std.proofs.lemmas.Option.{none-some}
use Rattle.std.proofs.lemmas.Bool.Decides.{nat_tests}
use Rattle.std.proofs.lemmas.Str.{encodes-chars, scalars-chars}
use Rattle.std.proofs.lemmas.List.Sums.{take_while-cons}
use Rattle.std.proofs.lemmas.List.Folds.{list_all-append}
use Rattle.std.proofs.lemmas.List.Quantifiers.{position-Some}
use Rattle.apdu.specs.Words.{pair_value, two_bytes, is_between}
use Rattle.alpha.specs.Alphabet.{escape, default_alphabet, extension_table}
use Rattle.alpha.specs.Names.{unit_character, alphabet_characters, unit_characters, name_characters, decode_name, place_in, bytes_at, alphabet_bytes, written_name, not_writable, refusal_of, name_refusal, encode_name}

-- ---- characters that can be written

below_end : (b : Bool) (c : ℕ) (rest : Option ℕ) → cond b (Some c) rest ≡ None → (b ≡ false) × (rest ≡ None)
below_end true c rest e = cc
below_end false c rest e = (refl, e)

not_writable-cons : (c : ℕ) (rest : List ℕ) → not_writable (c ∷ rest) ≡ None → (c < 0xFFFF) × (not_writable rest ≡ None)
not_writable-cons c rest e =
    let parts = below_end (nat_le 0xFFFF c) c (not_writable rest) e in
    let above : nat_le 0xFFFF c ≡ false = parts.0 in
    (grind (arith, nat_tests), parts.1)

pub writable_at : (characters : List ℕ) (i c : ℕ) → not_writable characters ≡ None → i < length characters → c ≡ get_or characters i c → c < 0xFFFF
writable_at [] i c e within is = absurd (omega arith)
writable_at (d ∷ rest) zero c e within is = subst (λ x. x < 0xFFFF) (sym is) (not_writable-cons d rest e).0
writable_at (d ∷ rest) (suc i) c e within is = writable_at rest i c (not_writable-cons d rest e).1 (omega arith) is

-- ---- units

both : (a b : Bool) → (a && b) ≡ true → (a ≡ true) × (b ≡ true)
both true b e = (refl, e)
both false b e = cc

pair_value-two_bytes : (c : ℕ) → pair_value (c / 256) (c % 256) ≡ c
pair_value-two_bytes c = omega arith

between_no_scalar : (c : ℕ) → IsScalar c → is_between 0xD800 0xDFFF c ≡ false
between_no_scalar c s = grind (arith, nat_tests)

unit_character-scalar : (c : ℕ) → IsScalar c → c < 0xFFFF → unit_character c ≡ c
unit_character-scalar c s small =
    let no_surrogate : is_between 0xD800 0xDFFF c ≡ false = between_no_scalar c s in
    let within : nat_lt 0xFFFF c ≡ false = grind (arith, nat_tests) in
    rw (no_surrogate, within) refl

unit_characters-fill : (n : ℕ) → unit_characters (replicate n 0xFF) ≡ []
unit_characters-fill zero = refl
unit_characters-fill (suc zero) = refl
unit_characters-fill (suc (suc n)) = refl

unit_characters-step : (c : ℕ) (rest : List ℕ) → IsScalar c → c < 0xFFFF → unit_characters (two_bytes c ++ rest) ≡ c ∷ unit_characters rest
unit_characters-step c rest s small =
    let other : (c == 0xFFFF) ≡ false = grind (arith, nat_tests) in
    rw (pair_value-two_bytes c, other, unit_character-scalar c s small) refl

unit_characters-units : (characters : List ℕ) (n : ℕ) → all_scalars characters ≡ true → not_writable characters ≡ None → unit_characters (flat_map two_bytes characters ++ replicate n 0xFF) ≡ characters
unit_characters-units [] n s w = unit_characters-fill n
unit_characters-units (c ∷ rest) n s w =
    let scalar = both _ _ s in
    let writable = not_writable-cons c rest w in
    unit_characters-step c (flat_map two_bytes rest ++ replicate n 0xFF) scalar.0 writable.0 ∙ ap (λ cs. c ∷ cs) (unit_characters-units rest n scalar.1 writable.1)

-- ---- the default alphabet

length-default_alphabet : length default_alphabet ≡ 128
unfolding default_alphabet
length-default_alphabet = refl

length-extension_table : length extension_table ≡ 128
unfolding extension_table
length-extension_table = refl

place_of_escape : get_or default_alphabet 0x1B 0 ≡ 0xFFFF
unfolding default_alphabet
place_of_escape = refl

place_of_space : place_in default_alphabet 0x20 ≡ Some 0x20
unfolding default_alphabet
place_of_space = refl

-- the character is read from its bytes, whatever follows, and each of them is below 80
pub record IsReadFrom (c : ℕ) (bytes : List ℕ) : Type 0 where
  pub reads : (rest : List ℕ) → alphabet_characters None false (bytes ++ rest) ≡ c ∷ alphabet_characters None false rest
  pub low : list_all (λ b. nat_lt b 0x80) bytes ≡ true

default_reads : (c b : ℕ) (rest : List ℕ) → b < 128 → b ≢ 0x1B → get_or default_alphabet b 0 ≡ c → alphabet_characters None false (b ∷ rest) ≡ c ∷ alphabet_characters None false rest
default_reads c b rest small other e =
    let low : nat_le 0x80 b ≡ false = grind (arith, nat_tests) in
    let plain : (b == 0x1B) ≡ false = grind (arith, nat_tests) in
    rw (low, plain, e) refl

extension_reads : (c b : ℕ) (rest : List ℕ) → b < 128 → c ≢ 0x20 → get_or extension_table b 0 ≡ c → alphabet_characters None false (0x1B ∷ b ∷ rest) ≡ c ∷ alphabet_characters None false rest
extension_reads c b rest small other e =
    let low : nat_le 0x80 b ≡ false = grind (arith, nat_tests) in
    let there : (c == 0x20) ≡ false = grind (arith, nat_tests) in
    rw (low, e, there) refl

is_low : (b : ℕ) → b < 0x80 → list_all (λ x. nat_lt x 0x80) (b ∷ []) ≡ true
is_low b small =
    let low : nat_lt b 0x80 ≡ true = grind (arith, nat_tests) in
    rw low refl

IsReadFrom-default : (c b : ℕ) → c < 0xFFFF → place_in default_alphabet c ≡ Some b → IsReadFrom c (b ∷ [])
IsReadFrom-default c b writable e =
    let found = position-Some (λ d. d == c) default_alphabet b 0 e in
    let is : get_or default_alphabet b 0 ≡ c = eqb-true _ _ found.1 in
    let small : b < 128 = subst (λ n. b < n) length-default_alphabet found.0 in
    let at_escape = λ (same : b ≡ 0x1B). subst (λ n. get_or default_alphabet n 0 ≡ 0xFFFF) (sym same) place_of_escape in
    let other : b ≢ 0x1B = λ same. omega (arith, at_escape same) in
    record {
      reads = λ rest. default_reads c b rest small other is;
      low = is_low b small;
    }

IsReadFrom-extension : (c b : ℕ) → place_in default_alphabet c ≡ None → place_in extension_table c ≡ Some b → IsReadFrom c (escape ∷ b ∷ [])
IsReadFrom-extension c b absent e =
    let found = position-Some (λ d. d == c) extension_table b 0 e in
    let is : get_or extension_table b 0 ≡ c = eqb-true _ _ found.1 in
    let small : b < 128 = subst (λ n. b < n) length-extension_table found.0 in
    let at_space = λ (same : c ≡ 0x20). subst (λ d. place_in default_alphabet d ≡ Some 0x20) (sym same) place_of_space in
    let other : c ≢ 0x20 = λ same. none-some 0x20 (sym absent ∙ at_space same) in
    record {
      reads = λ rest. extension_reads c b rest small other is;
      low = is_low b small;
    }

IsReadFrom-bytes_at : (c : ℕ) (default extension : Option ℕ) → c < 0xFFFF → place_in default_alphabet c ≡ default → place_in extension_table c ≡ extension → is_some (bytes_at default extension) ≡ true
    → IsReadFrom c (unwrap_or (bytes_at default extension) [])
IsReadFrom-bytes_at c (Some b) extension w d e s = IsReadFrom-default c b w d
IsReadFrom-bytes_at c None (Some b) w d e s = IsReadFrom-extension c b d e
IsReadFrom-bytes_at c None None w d e s = cc

IsReadFrom-alphabet_bytes : (c : ℕ) → c < 0xFFFF → is_some (alphabet_bytes c) ≡ true → IsReadFrom c (unwrap_or (alphabet_bytes c) [])
IsReadFrom-alphabet_bytes c w s = IsReadFrom-bytes_at c (place_in default_alphabet c) (place_in extension_table c) w refl refl s

bytes_of : List ℕ → List ℕ
bytes_of characters = flat_map (λ c. unwrap_or (alphabet_bytes c) []) characters

alphabet_characters-bytes : (characters : List ℕ) → not_writable characters ≡ None → list_all (λ c. is_some (alphabet_bytes c)) characters ≡ true → alphabet_characters None false (bytes_of characters) ≡ characters
unfolding bytes_of
alphabet_characters-bytes [] w s = refl
alphabet_characters-bytes (c ∷ rest) w s =
    let writable = not_writable-cons c rest w in
    let all = both _ _ s in
    (IsReadFrom-alphabet_bytes c writable.0 all.0).reads _ ∙ ap (λ cs. c ∷ cs) (alphabet_characters-bytes rest writable.1 all.1)

bytes_are_low : (characters : List ℕ) → not_writable characters ≡ None → list_all (λ c. is_some (alphabet_bytes c)) characters ≡ true → list_all (λ b. nat_lt b 0x80) (bytes_of characters) ≡ true
unfolding bytes_of
bytes_are_low [] w s = refl
bytes_are_low (c ∷ rest) w s =
    let writable = not_writable-cons c rest w in
    let all = both _ _ s in
    rw (list_all-append, (IsReadFrom-alphabet_bytes c writable.0 all.0).low) (bytes_are_low rest writable.1 all.1)

-- ---- the fill

low-cons : (b : ℕ) (rest : List ℕ) → list_all (λ x. nat_lt x 0x80) (b ∷ rest) ≡ true → (b < 0x80) × (list_all (λ x. nat_lt x 0x80) rest ≡ true)
low-cons b rest low =
    let parts = both (nat_lt b 0x80) (list_all (λ x. nat_lt x 0x80) rest) low in
    let first : nat_lt b 0x80 ≡ true = parts.0 in
    (grind (arith, nat_tests), parts.1)

before_first-fill : (bytes : List ℕ) (n : ℕ) → list_all (λ b. nat_lt b 0x80) bytes ≡ true → before_first (λ b. b == 0xFF) (bytes ++ replicate n 0xFF) ≡ bytes
before_first-fill [] zero low = refl
before_first-fill [] (suc n) low = refl
before_first-fill (b ∷ rest) n low =
    let lows = low-cons b rest low in
    let small : b < 0x80 = lows.0 in
    let plain : (b == 0xFF) ≡ false = grind (arith, nat_tests) in
    take_while-cons (λ x. not (x == 0xFF)) b (rest ++ replicate n 0xFF) ∙ rw plain (ap (λ bs. b ∷ bs) (before_first-fill rest n lows.1))

name_characters-low : (bytes : List ℕ) (n : ℕ) → list_all (λ b. nat_lt b 0x80) bytes ≡ true → name_characters (bytes ++ replicate n 0xFF) ≡ alphabet_characters None false bytes
name_characters-low [] zero low = refl
name_characters-low [] (suc n) low = refl
name_characters-low (b ∷ rest) n low =
    let lows = low-cons b rest low in
    let small : b < 0x80 = lows.0 in
    let units : (b == 0x80) ≡ false = grind (arith, nat_tests) in
    let narrow : (b == 0x81) ≡ false = grind (arith, nat_tests) in
    let wide : (b == 0x82) ≡ false = grind (arith, nat_tests) in
    rw (units, narrow, wide) (ap (λ bs. alphabet_characters None false bs) (before_first-fill (b ∷ rest) n low))

-- ---- a whole name

name_characters-written : (characters : List ℕ) (n : ℕ) (all : Bool) → all_scalars characters ≡ true → not_writable characters ≡ None → list_all (λ c. is_some (alphabet_bytes c)) characters ≡ all
    → name_characters (cond all (bytes_of characters) (0x80 ∷ flat_map two_bytes characters) ++ replicate n 0xFF) ≡ characters
name_characters-written characters n true s w e = name_characters-low (bytes_of characters) n (bytes_are_low characters w e) ∙ alphabet_characters-bytes characters w e
name_characters-written characters n false s w e = unit_characters-units characters n s w

accepted : (bad : Option ℕ) (need room : ℕ) → refusal_of bad need room ≡ None → bad ≡ None
accepted None need room e = refl
accepted (Some c) need room e = cc

pub read_back : (text : List ℕ) (room : ℕ) → IsUtf8 text → name_refusal (chars text) room ≡ None → decode_name (encode_name text room) ≡ text
unfolding bytes_of
read_back text room u e =
    let characters = chars text in
    ap encode_utf8_all (name_characters-written characters (room - length (written_name characters)) _ (scalars-chars text u) (accepted _ _ _ e) refl) ∙ encodes-chars text u
