-- Bytes that wait for a GET RESPONSE, as contracts see them.
use Rattle.std.specs.Prelude.{ℕ, List}

pub record WaitingValue : Type 0 where
  pub channel : ℕ
  pub bytes : List ℕ
