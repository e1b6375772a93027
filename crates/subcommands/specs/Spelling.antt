-- How the words of a command are spelt, whichever command it is.
use Rattle.std.specs.Prelude.{ℕ, ◌==◌, ◌&&◌, Bool, true, false, not, List, [], ◌∷◌, map, String, string_bytes}
use Rattle.std.specs.declared.alloc.Global.{Global}
use Rattle.subcommands.specs.Subcommands.{spells_number}

-- the word does not begin with `-`
abbrev pub spells_name : List ℕ → Bool
spells_name [] = true
spells_name (c ∷ cs) = not (c == 45)

abbrev pub texts_are_spelt : List (List ℕ) → Bool
texts_are_spelt [] = false
texts_are_spelt (name ∷ []) = spells_name name
texts_are_spelt (name ∷ seed ∷ []) = false
texts_are_spelt (name ∷ seed ∷ size ∷ []) = spells_name name && spells_number 10 seed && spells_number 3 size
texts_are_spelt (name ∷ seed ∷ size ∷ other ∷ words) = false

-- a name, or a name with two numbers
abbrev pub are_spelt : List (String Global) → Bool
are_spelt words = texts_are_spelt (map string_bytes words)
