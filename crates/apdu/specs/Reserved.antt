-- What contracts see of a list with room reserved.
use Rattle.std.specs.Prelude.{ℕ, List, refl}
use Rattle.std.specs.Coded.{Coded, code_by, coded×, coded_ℕ, coded_list}

-- the items, and how many more the list takes without asking for memory
pub record Room (A : Type 0) : Type 0 where
  pub items : List A
  pub spare : ℕ

-- a list with room is stored as the pair of the two
abbrev pub room_code : {A : Type 0} → Coded A → Coded (Room A)
room_code {A} code =
    code_by (List A × ℕ) (coded× (coded_list code) coded_ℕ) (λ room. (room.items, room.spare)) (λ pair. record { items = pair.0; spare = pair.1 }) (λ _. refl)
