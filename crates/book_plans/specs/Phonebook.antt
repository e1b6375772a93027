-- The two files of a phonebook, and the extension rows that its main rows name.
use Rattle.std.specs.Prelude.{◌≡◌, ◌≤◌, ℕ, ◌==◌, Bool, IsTrue, true, List, map, slice_set, Option, None, Some}
use Rattle.std.specs.List.{list_any}
use Rattle.apdu.specs.Words.{has_value}
use Rattle.fcp.specs.Content.{Content, is_linear}
use Rattle.adn.specs.Book.{footer_len, extension_rows}
use Rattle.families.specs.Plans.{named_extension}

pub record Files : Type 0 where
  pub main : Content
  pub ext : Content

-- what each of these main rows names
abbrev pub names_of : List (List ℕ) → List (List ℕ) → List (Option ℕ)
names_of ext rows = map (named_extension ext) rows

-- one of them is this number
abbrev pub is_among : List (Option ℕ) → ℕ → Bool
is_among names number = list_any (has_value (λ n. n == number)) names

-- the rows of a linear main file have room for a number, and these are what they name
pub record IsPhonebook (main ext : Content) (names : List (Option ℕ)) : Type 0 where
  pub linear : IsTrue (is_linear main.kind)
  pub wide : footer_len ≤ main.width
  pub named : names ≡ names_of (extension_rows ext) main.rows

-- the marks with one more for a name
abbrev pub marked : List Bool → Option ℕ → List Bool
marked marks None = marks
marked marks (Some number) = slice_set marks number true
