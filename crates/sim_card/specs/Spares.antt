-- Files that stand ready beside a card, so that FETCH takes no memory: each change finds a file of each of its shapes.
use Rattle.std.specs.Prelude.{◌≤◌, ℕ, ◌+◌, ◌==◌, ◌&&◌, ◌||◌, Bool, List, [], ◌∷◌, length, find, map, All, IsTrue}
use Rattle.std.specs.List.{list_any}
use Rattle.apdu.specs.Words.{same_bytes, same_number, has_value}
use Rattle.fcp.specs.declared.rows.FileKind.{FileKind}
use Rattle.fcp.specs.declared.rows.FileKind.TheVariants.{Transparent, Linear, Directory}
use Rattle.fcp.specs.Content.{is_transparent, is_linear, is_directory}
use Rattle.card_model.specs.Room.{most_files}
use Rattle.card_model.specs.declared.world.FileState.{FileState}
use Rattle.card_model.specs.declared.world.Change.{Change}
use Rattle.card_model.specs.declared.world.CardState.{CardState}
use Rattle.card_model.specs.declared.world.World.{World}
use Rattle.card_rows.specs.Shapes.{Shape, shape_of, shapes}

abbrev pub same_kind : FileKind → FileKind → Bool
same_kind Transparent kind = is_transparent kind
same_kind Linear kind = is_linear kind
same_kind Directory kind = is_directory kind

abbrev pub same_shape : Shape → Shape → Bool
same_shape a b = same_bytes b.path a.path && same_kind a.kind b.kind && (a.width == b.width) && (a.count == b.count) && same_number a.template b.template

-- the new file can be written over this one
abbrev pub fits : FileState → FileState → Bool
fits new file = same_shape (shape_of new) (shape_of file)

abbrev pub has_shape_path : List ℕ → Shape → Bool
has_shape_path path shape = same_bytes shape.path path

-- the first file of its path has the shape, or a spare has it
abbrev pub is_ready : List Shape → List Shape → Shape → Bool
is_ready files spares shape = has_value (same_shape shape) (find (has_shape_path shape.path) files) || list_any (same_shape shape) spares

abbrev pub IsReadyFor : List FileState → List FileState → FileState → Type 0
IsReadyFor files spares new = IsTrue (is_ready (shapes files) (shapes spares) (shape_of new))

abbrev pub IsReadyForChange : List FileState → List FileState → Change → Type 0
IsReadyForChange files spares change = All (IsReadyFor files spares) change.files

-- what was ready still is
abbrev pub StaysReady : List FileState → List FileState → List FileState → List FileState → Type 0
StaysReady files spares new_files new_spares = (shape : Shape) → IsTrue (is_ready (shapes files) (shapes spares) shape) → IsTrue (is_ready (shapes new_files) (shapes new_spares) shape)

-- a card's files and its spares are ready for every change, and the card has room for all of them
pub record IsStocked (changes : List Change) (files spares : List FileState) : Type 0 where
  pub ready : All (IsReadyForChange files spares) changes
  pub room : length files + length spares ≤ most_files

-- the spares of each card, card by card
abbrev pub AreStocked : List Change → List (List FileState) → List (List FileState) → Type 0
AreStocked changes [] [] = Unit
AreStocked changes [] (spares ∷ rest) = ⊥
AreStocked changes (files ∷ others) [] = ⊥
AreStocked changes (files ∷ others) (spares ∷ rest) = IsStocked changes files spares × AreStocked changes others rest

abbrev pub files_of : CardState → List FileState
files_of card = card.files

abbrev pub IsStockedWorld : World → List (List FileState) → Type 0
IsStockedWorld w spares = AreStocked w.changes (map files_of w.cards) spares
