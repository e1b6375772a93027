-- Bits that a byte has not.
use Rattle.std.proofs.Common.{◌≡◌, ◌<◌, ◌≤◌, ◌/◌, ◌^◌, ℕ}
use Rattle.std.proofs.Math.Nat.{div-eq_of_lt, le_trans}
use Rattle.std.proofs.Math.Pow.{pow_mono}

pub high_bit : (mask bit : ℕ) → mask < 256 → 8 ≤ bit → mask / 2 ^ bit ≡ 0
high_bit mask bit byte high = div-eq_of_lt (le_trans byte (pow_mono high))
