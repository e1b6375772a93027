-- What contracts see of a source and a sink in memory.
use Rattle.std.specs.Prelude.{ℕ, Bool, List}

-- `given` is not bounded here: it is the number of bytes that went out
pub record SourceState : Type 0 where
  pub left : List ℕ
  pub given : ℕ
  pub ended : Bool
  pub failing : List ℕ
  pub calls : ℕ
  pub faults : ℕ

pub record SinkState : Type 0 where
  pub written : List ℕ
  pub failing : List ℕ
  pub calls : ℕ
  pub faults : ℕ
