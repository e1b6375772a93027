-- A command and a response of a card as contracts see them, ETSI TS 102 221 clause 10.
use Rattle.std.specs.Prelude.{ℕ, ◌≤◌, List, Option, IfSome}

pub record CommandValue : Type 0 where
  pub class : ℕ
  pub ins : ℕ
  pub p1 : ℕ
  pub p2 : ℕ
  pub body : List ℕ
  pub le : Option ℕ

pub record ResponseValue : Type 0 where
  pub body : List ℕ
  pub sw : ℕ

-- Le, where it is there, is 1 to 256
abbrev pub HasLe : Option ℕ → Type 0
HasLe le = IfSome le (λ n. (1 ≤ n) × (n ≤ 256))
