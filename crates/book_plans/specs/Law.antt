-- What a plan does to a phonebook, update by update.
use Rattle.std.specs.Prelude.{◌≡◌, ◌≤◌, ◌-◌, ◌==◌, ℕ, All, true, length, if◌then◌else◌, List, Option, Some, None, IfOk, ⊤}
use Rattle.std.specs.Str.{IsUtf8}
use Rattle.fcp.specs.Content.{Content, is_linear, with_row}
use Rattle.adn.specs.declared.entry.BookRow.{BookRow}
use Rattle.adn.specs.declared.edit.Edit.{Edit}
use Rattle.adn.specs.declared.edit.Edit.TheVariants.{Set, Clear}
use Rattle.adn.specs.declared.edit.RowUpdate.{RowUpdate}
use Rattle.adn.specs.declared.edit.Plan.{Plan}
use Rattle.adn.specs.Book.{decode_book}
use Rattle.families.specs.Plans.{edited, plan_edit, plan_updates}
use Rattle.book_plans.specs.Phonebook.{Files}

abbrev pub book_of : Files → List BookRow
book_of files = decode_book files.main files.ext

-- the files with one row written
abbrev pub written : Files → RowUpdate → Files
written files u =
    if u.file == 0 then record { main = with_row (u.row - 1) u.bytes files.main; ext = files.ext }
    else record { main = files.main; ext = with_row (u.row - 1) u.bytes files.ext }

abbrev pub written_some : Files → Option RowUpdate → Files
written_some files None = files
written_some files (Some u) = written files u

-- the files behind the deciding update
abbrev pub decided : Files → Plan → Files
decided files p = written (written_some files p.before) p.deciding

-- the update before leaves the book as it is, the deciding one makes it the edited one, and the update after leaves that
pub record Makes (files : Files) (e : Edit) (p : Plan) : Type 0 where
  pub before : book_of (written_some files p.before) ≡ book_of files
  pub deciding : book_of (decided files p) ≡ edited (book_of files) e
  pub after : book_of (written_some (decided files p) p.after) ≡ edited (book_of files) e

-- the name of an entry is UTF-8
abbrev pub HasText : Edit → Type 0
HasText (Set at entry) = IsUtf8 entry.name
HasText (Clear at) = ⊤

-- each plan makes its edit
abbrev pub PlansMakeEdits : Type 0
PlansMakeEdits = (e : Edit) (files : Files) → HasText e → IfOk (plan_edit e files.main files.ext) (Makes files e)

-- the file is linear, and the update writes a row that it has, with as many bytes
pub record FitsFile (content : Content) (u : RowUpdate) : Type 0 where
  pub linear : is_linear content.kind ≡ true
  pub first : 1 ≤ u.row
  pub last : u.row ≤ length content.rows
  pub wide : length u.bytes ≡ content.width

abbrev pub file_of : Files → ℕ → Content
file_of files file = if file == 0 then files.main else files.ext

abbrev pub Fits : Files → RowUpdate → Type 0
Fits files u = FitsFile (file_of files u.file) u

-- each update of each plan does
abbrev pub PlansFit : Type 0
PlansFit = (e : Edit) (files : Files) → IfOk (plan_edit e files.main files.ext) (λ p. All (Fits files) (plan_updates p))
