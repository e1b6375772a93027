-- Which channels a command opens and closes, by their numbers, ETSI TS 102 221 clause 8.7.
use Rattle.std.specs.Prelude.{◌≡◌, ◌≤◌, ◌⊎◌, ◌&&◌, ℕ, ◌==◌, false, true, List, [], ◌∷◌, ◌++◌, map}
use Rattle.apdu.specs.Values.{CommandValue, ResponseValue}
use Rattle.apdu.specs.Words.{is_one_of}
use Rattle.apdu.specs.Apdu.{is_success, manage_channel_ins}
use Rattle.card_model.specs.declared.world.ChannelState.{ChannelState}
use Rattle.card_model.specs.declared.world.CardState.{CardState}

abbrev pub number_of : ChannelState → ℕ
number_of channel = channel.number

-- the numbers of the open channels
abbrev pub numbers : CardState → List ℕ
numbers card = map number_of card.channels

-- each number once
abbrev pub AllApart : List ℕ → Type 0
AllApart [] = Unit {0}
AllApart (n ∷ ns) = (is_one_of n ns ≡ false) × AllApart ns

-- no MANAGE CHANNEL was done, and the numbers are as they were
pub record KeepsNumbers (card : CardState) (c : CommandValue) (p : CardState × ResponseValue) : Type 0 where
  pub status : ((c.ins == manage_channel_ins) && is_success p.1.sw) ≡ false
  pub same : numbers p.0 ≡ numbers card

-- MANAGE CHANNEL P1 00: the body is a number that was not among them, and joins them
pub record AddsNumber (card : CardState) (c : CommandValue) (p : CardState × ResponseValue) : Type 0 where
  pub ins : c.ins ≡ manage_channel_ins
  pub opening : c.p1 ≡ 0x00
  pub status : is_success p.1.sw ≡ true
  pub number : ℕ
  pub body : p.1.body ≡ number ∷ []
  pub beside : 1 ≤ number
  pub free : is_one_of number (numbers card) ≡ false
  pub added : numbers p.0 ≡ numbers card ++ number ∷ []

-- MANAGE CHANNEL P1 80: the number of P2 was among them, and leaves them
pub record DropsNumber (card : CardState) (c : CommandValue) (p : CardState × ResponseValue) : Type 0 where
  pub ins : c.ins ≡ manage_channel_ins
  pub closing : c.p1 ≡ 0x80
  pub status : is_success p.1.sw ≡ true
  pub beside : (c.p2 == 0) ≡ false
  pub there : is_one_of c.p2 (numbers card) ≡ true
  pub others : (number : ℕ) → (c.p2 == number) ≡ false → is_one_of number (numbers p.0) ≡ is_one_of number (numbers card)
  pub gone : AllApart (numbers card) → is_one_of c.p2 (numbers p.0) ≡ false

-- what a command changes of them; each stays there once
pub record ChangesNumbers (card : CardState) (c : CommandValue) (p : CardState × ResponseValue) : Type 0 where
  pub does : KeepsNumbers card c p ⊎ (AddsNumber card c p ⊎ DropsNumber card c p)
  pub apart : AllApart (numbers card) → AllApart (numbers p.0)
