-- What stands before the first byte FF.
use Rattle.std.proofs.Common.{◌≡◌, ℕ, Bool, true, false, cond, nat_lt, Some, None, List, length, take, ap}
use Rattle.std.specs.List.{position, position_or_len, before_first}

place_is : (found : Bool) (k i : ℕ) → Some i ≡ cond found (Some k) None → i ≡ k
place_is true k i e = cc
place_is false k i e = cc

pub before_first_at : (p : ℕ → Bool) (xs : List ℕ) (i : ℕ) → Some i ≡ position p xs → take i xs ≡ before_first p xs
before_first_at p xs i e = ap (λ k. take k xs) (place_is (nat_lt (position_or_len p xs) (length xs)) (position_or_len p xs) i e)
