-- The name of a row, by how many digits its number has.
use Rattle.std.proofs.Common.{◌≡◌, ℕ, ◌+◌, ◌/◌, ◌%◌, ◌<◌, ◌≤◌, ◌∷◌, replicate, refl, arith}
use Rattle.std.proofs.lemmas.Fmt.{decimal_digit, decimal_step}
use Rattle.script_generator.specs.Generated.{name}

pub one_digit : (i : ℕ) → i < 10 → name i ≡ 0x50 ∷ (48 + i) ∷ replicate 12 0xFF
one_digit i small = rw (decimal_digit i small) refl

pub two_digits : (i : ℕ) → 10 ≤ i → i < 100 → name i ≡ 0x50 ∷ (48 + i / 10) ∷ (48 + i % 10) ∷ replicate 11 0xFF
two_digits i more small = rw (decimal_step i more (omega (arith, small)), decimal_digit (i / 10) (omega (arith, small))) refl

pub three_digits : (i : ℕ) → 100 ≤ i → i < 256 → name i ≡ 0x50 ∷ (48 + i / 10 / 10) ∷ (48 + i / 10 % 10) ∷ (48 + i % 10) ∷ replicate 10 0xFF
three_digits i more small = rw (decimal_step i (omega (arith, more)) (omega (arith, small)), decimal_step (i / 10) (omega (arith, more)) (omega (arith, small)), decimal_digit (i / 10 / 10) (omega (arith, small))) refl
