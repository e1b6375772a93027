-- What the words of a call ask for.
use Rattle.std.specs.Prelude.{◌≤◌, ℕ, ◌&&◌, Bool, if◌then◌else◌, List, [], ◌∷◌, length, map, Option, Some, None, option_and_then, codes, String, string_bytes}
use Rattle.std.specs.List.{list_all}
use Rattle.std.specs.Char.{is_ascii_digit}
use Rattle.std.specs.Str.Parse.{digits_value}
use Rattle.std.specs.declared.alloc.Global.{Global}
use Rattle.apdu.specs.Words.{same_bytes, is_between}
use Rattle.subcommands.specs.declared.words.Subcommand.{Subcommand}
use Rattle.subcommands.specs.declared.words.Subcommand.TheVariants.{Replay, Run, Check, Generate, Bulk}

-- one to so many decimal digits, of which the first may be zeros
abbrev pub spells_number : ℕ → List ℕ → Bool
spells_number most text = is_between 1 most (length text) && list_all is_ascii_digit text

-- the number that such digits write, where it is in the bounds
abbrev pub number_of : ℕ → ℕ → ℕ → List ℕ → Option ℕ
number_of most low high text =
    if spells_number most text && is_between low high (digits_value 10 text) then Some (digits_value 10 text) else None

abbrev pub seed_of : List ℕ → Option ℕ
seed_of text = number_of 10 0 4294967295 text

abbrev pub size_of : List ℕ → Option ℕ
size_of text = number_of 3 1 250 text

-- the subcommands of a name alone, and those of a name with a seed and a size
abbrev pub single_of : List ℕ → Option Subcommand
single_of name =
    if same_bytes name (codes "replay") then Some Replay
    else if same_bytes name (codes "run") then Some Run
    else if same_bytes name (codes "check") then Some Check
    else None

abbrev pub sized_of : List ℕ → ℕ → ℕ → Option Subcommand
sized_of name seed size =
    if same_bytes name (codes "gen") then Some (Generate seed size)
    else if same_bytes name (codes "bulk") then Some (Bulk seed size)
    else None

abbrev pub asked_by : List (List ℕ) → Option Subcommand
asked_by [] = None
asked_by (name ∷ []) = single_of name
asked_by (name ∷ seed ∷ []) = None
asked_by (name ∷ seed ∷ size ∷ []) =
    option_and_then (λ s. option_and_then (λ n. sized_of name s n) (size_of size)) (seed_of seed)
asked_by (name ∷ seed ∷ size ∷ other ∷ words) = None

-- `replay`, `run`, `check`, or `gen` or `bulk` with a seed and a size
abbrev pub subcommand_of : List (String Global) → Option Subcommand
subcommand_of words = asked_by (map string_bytes words)

-- a script is generated for 1 to 250 rows
abbrev pub HasSize : Subcommand → Type 0
HasSize Replay = Unit {0}
HasSize Run = Unit {0}
HasSize Check = Unit {0}
HasSize (Generate seed size) = (1 ≤ size) × (size ≤ 250)
HasSize (Bulk seed size) = (1 ≤ size) × (size ≤ 250)
