-- Readings that may fail: the value, or the first rule that is broken.
use Rattle.std.specs.Prelude.{ℕ, Bool, if◌then◌else◌, List, [], ◌∷◌, Result, Ok, Err}
use Rattle.apdu.specs.Words.{◌>>=◌}
use Rattle.script_reader.specs.declared.error.Part.{Part}
use Rattle.script_reader.specs.declared.error.Why.{Why}

-- what each of the list is read as
abbrev pub all_of : {A B : Type 0} → (A → Result B Why) → List A → Result (List B) Why
all_of read [] = Ok []
all_of read (x ∷ xs) = do
  y ← read x
  ys ← all_of read xs
  Ok (y ∷ ys)

-- the rule has to hold
abbrev pub rule : Why → Bool → Result (Unit {0}) Why
rule why holds = if holds then Ok tt else Err why

-- where bytes are no script: the part, the index of its first item that breaks a rule, and the first rule that this item breaks
pub record Refusal : Type 0 where
  pub part : Part
  pub index : ℕ
  pub why : Why

abbrev pub refusal : Part → ℕ → Why → Refusal
refusal part index why = record { part = part; index = index; why = why }
