-- Files that are well formed: what is asked of the files of cards and changes.
use Rattle.std.specs.Prelude.{◌≡◌, ◌≤◌, ℕ, false, List, [], ◌∷◌, find, slice_get, Some, is_ok}
use Rattle.fcp.specs.Content.{IsContent}
use Rattle.fcp.specs.Control.{read_fcp, Describes}
use Rattle.card_model.specs.declared.world.FileState.{FileState}
use Rattle.card_model.specs.declared.world.Change.{Change}
use Rattle.card_model.specs.Card.{has_path, content_size, fields_of_file}

-- a file as a reader takes it to be
pub record FineFile (file : FileState) : Type 0 where
  -- control parameters of its own are none that can be read
  pub template : (bytes : List ℕ) → file.fcp ≡ Some bytes → is_ok (read_fcp bytes) ≡ false
  -- its rows are as wide as it says
  pub rows : IsContent file.rows
  -- its control parameters can be written
  pub describes : Describes file.rows.kind (fields_of_file file)
  pub size : content_size file.rows ≤ 65535

-- each file that a path finds
abbrev pub FineFiles : List FileState → Type 0
FineFiles files = (path : List ℕ) (file : FileState) → find (has_path path) files ≡ Some file → FineFile file

-- each of the files
abbrev pub AllFine : List FileState → Type 0
AllFine [] = Unit {0}
AllFine (file ∷ files) = FineFile file × AllFine files

-- the files of each change
abbrev pub FineImages : List Change → Type 0
FineImages changes = (i : ℕ) (ch : Change) → slice_get changes i ≡ Some ch → AllFine ch.files
