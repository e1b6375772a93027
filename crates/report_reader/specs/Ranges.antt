-- The ranges of numbers, commands and responses in a report.
use Rattle.std.specs.Prelude.{◌≡◌, ℕ, ◌≤◌, false, List, length}
use Rattle.std.specs.List.{AllByRecursion}
use Rattle.apdu.specs.Words.{is_between}
use Rattle.apdu.specs.Values.{CommandValue, ResponseValue, HasLe}

-- ---- numbers

abbrev pub IsByte : ℕ → Type 0
IsByte n = n ≤ 255

abbrev pub AreBytes : List ℕ → Type 0
AreBytes bytes = AllByRecursion IsByte bytes

abbrev pub IsWord : ℕ → Type 0
IsWord n = n ≤ 65535

-- an operation among those of its actor
abbrev pub IsPlace : ℕ → Type 0
IsPlace n = n ≤ 4294967295

abbrev pub IsNumber : ℕ → Type 0
IsNumber n = n ≤ 18446744073709551615

abbrev pub IsFamily : ℕ → Type 0
IsFamily f = f ≤ 2

-- under which a script holds a channel
abbrev pub IsHandle : ℕ → Type 0
IsHandle n = n ≤ 15

-- a code point that is no surrogate
abbrev pub IsCharacter : ℕ → Type 0
IsCharacter code = (code ≤ 0x10_FFFF) × (is_between 0xD800 0xDFFF code ≡ false)

-- ---- commands and responses

pub record IsCommand (c : CommandValue) : Type 0 where
  pub class : IsByte c.class
  pub ins : IsByte c.ins
  pub p1 : IsByte c.p1
  pub p2 : IsByte c.p2
  pub body : AreBytes c.body
  pub len : length c.body ≤ 255
  pub le : HasLe c.le

pub record IsResponse (r : ResponseValue) : Type 0 where
  pub body : AreBytes r.body
  pub len : length r.body ≤ 256
  pub sw : IsWord r.sw
