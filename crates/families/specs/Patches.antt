-- The content of a family behind an update of a row of one of its files.
use Rattle.std.specs.Prelude.{◌≡◌, ◌<◌, ℕ, ◌-◌, ◌==◌, if◌then◌else◌, List, [], length, slice_get, unwrap_or}
use Rattle.fcp.specs.Content.{Content, with_row}
use Rattle.families.specs.Families.{View}

abbrev pub path_at : List (List ℕ) → ℕ → List ℕ
path_at paths i = unwrap_or (slice_get paths i) []

-- the content is what the files were decoded to before a row of one of them was written; the files are numbered from 0 as their paths
-- stand, and rows count from 1
pub record WasContent {C : Type 0} (decode : View → C) (paths : List (List ℕ)) (file row : ℕ) (content : C) (view : View) : Type 0 where
  pub before : View
  pub bytes : List ℕ
  pub decoded : content ≡ decode before
  pub files : (i : ℕ) → i < length paths → view (path_at paths i) ≡ (if file == i then with_row (row - 1) bytes (before (path_at paths i)) else before (path_at paths i))
