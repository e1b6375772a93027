-- A proactive command as contracts see it, ETSI TS 102 223 clause 6.6.
use Rattle.std.specs.Prelude.{ℕ, List}

-- number, type and qualifier of the command details, and the paths of the file list
pub record ProactiveValue : Type 0 where
  pub number : ℕ
  pub kind : ℕ
  pub qualifier : ℕ
  pub list : List (List ℕ)
