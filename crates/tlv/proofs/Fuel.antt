-- The parts of bytes do not hang on how much fuel there is, as long as it is enough.
use Rattle.std.proofs.Common.{◌≡◌, ℕ, zero, suc, ◌<◌, ◌≤◌, Bool, true, false, List, [], ◌∷◌, length, nat_lt, if◌then◌else◌, ◌==◌, refl, ap, arith, length-drop}
use Rattle.tlv.specs.declared.object.TagByte.{TagByte}
use Rattle.tlv.specs.declared.object.TagByte.TheVariants.{Ends, Bad, Begins}
use Rattle.tlv.specs.Objects.{Parts, Front, nothing, damaged, object, with_part, parts_by, parts_from, front, with_tag, with_length, with_long_length, with_value}

-- what is behind the object is shorter than n
abbrev pub IsBelow : ℕ → Front → Type 0
IsBelow n nothing = Unit {0}
IsBelow n (damaged error) = Unit {0}
IsBelow n (object tag value rest next) = length rest < n

pub IsBelow-if : (n : ℕ) (b : Bool) (f g : Front) → IsBelow n f → IsBelow n g → IsBelow n (if b then f else g)
IsBelow-if n true f g p q = p
IsBelow-if n false f g p q = q

pub with_value-below : (n tag at from count : ℕ) (bytes : List ℕ) → length bytes < n → IsBelow n (with_value tag at from count bytes)
with_value-below n tag at from count bytes h = IsBelow-if n (nat_lt (length bytes) count) _ _ tt (omega (arith, length-drop count bytes))

pub with_long_length-below : (n tag at : ℕ) (bytes : List ℕ) → length bytes < n → IsBelow n (with_long_length tag at bytes)
with_long_length-below n tag at [] h = tt
with_long_length-below n tag at (b ∷ bytes) h = with_value-below n tag at _ b bytes (omega arith)

pub with_length-below : (n tag at : ℕ) (bytes : List ℕ) → length bytes < n → IsBelow n (with_length tag at bytes)
with_length-below n tag at [] h = tt
with_length-below n tag at (b ∷ bytes) h =
    IsBelow-if n (nat_lt b 0x80) _ _ (with_value-below n tag at _ b bytes (omega arith)) (IsBelow-if n (b == 0x81) _ _ (with_long_length-below n tag at bytes (omega arith)) tt)

pub with_tag-below : (n : ℕ) (byte : TagByte) (at : ℕ) (bytes : List ℕ) → length bytes < n → IsBelow n (with_tag byte at bytes)
with_tag-below n Ends at bytes h = tt
with_tag-below n Bad at bytes h = tt
with_tag-below n (Begins tag) at bytes h = with_length-below n tag at bytes h

pub front-below : (tag_of : ℕ → TagByte) (at : ℕ) (bytes : List ℕ) → IsBelow (length bytes) (front tag_of at bytes)
front-below tag_of at [] = tt
front-below tag_of at (b ∷ bytes) = with_tag-below _ (tag_of b) at bytes (omega arith)

-- two ways on that agree below n agree behind a front below n
pub parts_by-same : (n : ℕ) (more other : ℕ → List ℕ → Parts) (f : Front) → IsBelow n f → ((at : ℕ) (bytes : List ℕ) → length bytes < n → more at bytes ≡ other at bytes) → parts_by more f ≡ parts_by other f
parts_by-same n more other nothing below same = refl
parts_by-same n more other (damaged error) below same = refl
parts_by-same n more other (object tag value rest next) below same = ap (with_part tag value) (same next rest below)

pub parts_from-enough : (tag_of : ℕ → TagByte) (fuel other at : ℕ) (bytes : List ℕ) → length bytes ≤ fuel → length bytes ≤ other → parts_from tag_of fuel at bytes ≡ parts_from tag_of other at bytes
parts_from-enough tag_of zero zero at bytes h k = refl
parts_from-enough tag_of zero (suc other) at [] h k = refl
parts_from-enough tag_of zero (suc other) at (b ∷ bytes) h k = absurd (omega arith)
parts_from-enough tag_of (suc fuel) zero at [] h k = refl
parts_from-enough tag_of (suc fuel) zero at (b ∷ bytes) h k = absurd (omega arith)
parts_from-enough tag_of (suc fuel) (suc other) at bytes h k =
    parts_by-same (length bytes) _ _ (front tag_of at bytes) (front-below tag_of at bytes)
    (λ next rest below. parts_from-enough tag_of fuel other next rest (omega arith) (omega arith))

-- the parts of bytes are those from their front on
pub parts_from-front : (tag_of : ℕ → TagByte) (at : ℕ) (bytes : List ℕ) → parts_from tag_of (length bytes) at bytes ≡ parts_by (λ next rest. parts_from tag_of (length rest) next rest) (front tag_of at bytes)
parts_from-front tag_of at [] = refl
parts_from-front tag_of at (b ∷ bytes) =
    parts_by-same (length (b ∷ bytes)) _ _ (front tag_of at (b ∷ bytes)) (front-below tag_of at (b ∷ bytes))
    (λ next rest below. parts_from-enough tag_of _ _ next rest (omega arith) (omega arith))
