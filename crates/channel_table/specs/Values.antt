-- The channels that are held.
use Rattle.std.specs.Prelude.{◌≡◌, ℕ, ◌==◌, true, if◌then◌else◌, List, [], ◌∷◌}
use Rattle.apdu.specs.Words.{is_between}
use Rattle.card_effects.specs.Numbers.{AllApart}

-- a channel of an epoch
pub record ChannelValue : Type 0 where
  pub number : ℕ
  pub epoch : ℕ

-- ETSI TS 102 221 clause 8.7: those beside the basic one have the numbers 1 to 19
abbrev pub IsNumber : ℕ → Type 0
IsNumber n = is_between 1 19 n ≡ true

-- each is between the two, both included
abbrev pub AllBetween : ℕ → ℕ → List ℕ → Type 0
AllBetween low high [] = Unit {0}
AllBetween low high (n ∷ ns) = (is_between low high n ≡ true) × AllBetween low high ns

-- the numbers of channels beside the basic one, each once
pub record AreHeld (held : List ℕ) : Type 0 where
  pub numbers : AllBetween 1 19 held
  pub apart : AllApart held

-- the list without this number
abbrev pub without : ℕ → List ℕ → List ℕ
without n [] = []
without n (x ∷ xs) = if x == n then xs else x ∷ without n xs
