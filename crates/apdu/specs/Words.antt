-- Small words on bytes, lists and options that the definitions of all crates share.
use Rattle.std.specs.Prelude.{ℕ, ◌+◌, ◌-◌, ◌*◌, ◌/◌, ◌%◌, ◌^◌, ◌==◌, ◌&&◌, Bool, true, false, nat_le, nat_eq, if◌then◌else◌, List, [], ◌∷◌, ◌++◌, length, take, drop, replicate, Option, Some, None, Result, Ok, Err}
use Rattle.std.specs.Cmp.Lexicographic.{pointwise}
use Rattle.std.specs.List.{list_any}

-- steps in order, of which the first refusal is the whole's
infixl 10 ◌>>=◌
abbrev pub ◌>>=◌ : {A B E : Type 0} → Result A E → (A → Result B E) → Result B E
Ok x >>= next = next x
Err error >>= next = Err error

-- two lists of bytes, or of file ids, are the same
abbrev pub same_bytes : List ℕ → List ℕ → Bool
same_bytes = pointwise nat_eq

-- two bytes as a number, the high one first
abbrev pub pair_value : ℕ → ℕ → ℕ
pair_value high low = high * 256 + low

-- a number below 65536 as two bytes, the high one first
abbrev pub two_bytes : ℕ → List ℕ
two_bytes n = (n / 256) ∷ (n % 256) ∷ []

-- bit 1 is the lowest
abbrev pub is_bit : ℕ → ℕ → Bool
is_bit k n = (n / 2 ^ (k - 1)) % 2 == 1

abbrev pub low_half : ℕ → ℕ
low_half b = b % 16

abbrev pub high_half : ℕ → ℕ
high_half b = b / 16

-- n is between the two, both included
abbrev pub is_between : ℕ → ℕ → ℕ → Bool
is_between low high n = nat_le low n && nat_le n high

-- n is one of the list
abbrev pub is_one_of : ℕ → List ℕ → Bool
is_one_of n xs = list_any (λ x. x == n) xs

abbrev pub is_empty : {A : Type 0} → List A → Bool
is_empty [] = true
is_empty (x ∷ xs) = false

-- the bytes, filled up with `fill` to that length
abbrev pub filled_to : ℕ → ℕ → List ℕ → List ℕ
filled_to fill len bytes = bytes ++ replicate (len - length bytes) fill

-- the bytes with those from this place on written over
abbrev pub written_at : ℕ → List ℕ → List ℕ → List ℕ
written_at at new old = take at old ++ new ++ drop (at + length new) old

-- two options of numbers are the same
abbrev pub same_number : Option ℕ → Option ℕ → Bool
same_number None None = true
same_number None (Some b) = false
same_number (Some a) None = false
same_number (Some a) (Some b) = a == b

-- the value is there and passes the test
abbrev pub has_value : {A : Type 0} → (A → Bool) → Option A → Bool
has_value test None = false
has_value test (Some x) = test x

-- the first, or else the second
abbrev pub or_else : {A : Type 0} → Option A → Option A → Option A
or_else None b = b
or_else (Some a) b = Some a

-- the path of these ids: one to three below the master file, which itself stands as none
abbrev pub path_of : List ℕ → Option (List ℕ)
path_of ids = if is_between 1 3 (length ids) then Some ids else None

abbrev pub path_is_in : List (List ℕ) → List ℕ → Bool
path_is_in paths path = list_any (same_bytes path) paths
