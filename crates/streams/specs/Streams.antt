-- What a source and a sink tell of themselves, as contracts see the two; what was read, and what was written.
use Rattle.std.specs.Prelude.{◌≡◌, ◌<◌, ◌≤◌, ℕ, ◌+◌, ◌-◌, ◌^◌, min, Bool, true, List, length, Option, IfSome}
use Rattle.apdu.specs.Stream.{Rose, Appends, AppendsPart}
use Rattle.streams.specs.declared.input.Input.{Input}
use Rattle.streams.specs.declared.input.Input.TheVariants.{All, TooLong, Fault}

-- what is left, where the source tells it; whether it was read to its end; how many bytes it gave; how often it failed
pub record SourceValue : Type 0 where
  pub left : Option (List ℕ)
  pub ended : Bool
  pub given : ℕ
  pub faults : ℕ

-- what was written, where the sink tells it; how often it failed
pub record SinkValue : Type 0 where
  pub written : Option (List ℕ)
  pub faults : ℕ

pub record StreamsValue : Type 0 where
  pub source : SourceValue
  pub sink : SinkValue

-- ---- reading

-- the source gave so many bytes; its count stops at the last value of a u64
abbrev pub Gave : SourceValue → SourceValue → ℕ → Type 0
Gave before after n = after.given ≡ min (before.given + n) (2 ^ 64 - 1)

-- the source gave more bytes than the limit
abbrev pub GaveMore : ℕ → SourceValue → SourceValue → Type 0
GaveMore limit before after = (n : ℕ) × (limit < n) × Gave before after n

-- the source has more bytes than the limit
pub record HasMore (limit : ℕ) (before after : SourceValue) : Type 0 where
  pub told : IfSome before.left (λ left. limit < length left)
  pub gave : GaveMore limit before after

-- these bytes, no more than the limit, were read: they are all that the source had left, and it is at its end
pub record IsRead (limit : ℕ) (before after : SourceValue) (bytes : List ℕ) : Type 0 where
  pub ended : after.ended ≡ true
  pub all : IfSome before.left (λ left. left ≡ bytes)
  pub few : length bytes ≤ limit
  pub gave : Gave before after (length bytes)

abbrev pub IsInput : ℕ → SourceValue → SourceValue → Input → Type 0
IsInput limit before after (All bytes) = IsRead limit before after bytes.items
IsInput limit before after TooLong = HasMore limit before after
IsInput limit before after Fault = Rose before.faults after.faults

-- ---- writing

-- the piece was written whole
abbrev pub WritesWhole : SinkValue → SinkValue → List ℕ → Type 0
WritesWhole before after piece = Appends before.written after.written piece

-- a call wrote the piece
abbrev pub Wrote : StreamsValue → StreamsValue → List ℕ → Type 0
Wrote before after piece = WritesWhole before.sink after.sink piece

-- the sink failed behind a front of the piece
pub record WritesFront (before after : SinkValue) (piece : List ℕ) : Type 0 where
  pub part : AppendsPart before.written after.written piece
  pub fault : Rose before.faults after.faults
