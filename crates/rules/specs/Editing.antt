-- What an operation edits, and the sessions that its updates ask for.
use Rattle.std.specs.Prelude.{ℕ, List, [], ◌∷◌, Option, Some, None}
use Rattle.script_reader.specs.declared.types.Operation.{Operation}
use Rattle.script_reader.specs.declared.types.Operation.TheVariants as operation
use Rattle.adn.specs.declared.edit.Edit.{Edit}
use Rattle.adn.specs.declared.edit.Edit.TheVariants as edit
use Rattle.adn.specs.declared.edit.RowUpdate.{RowUpdate}
use Rattle.families.specs.Families.{family_path}
use Rattle.epoch_cache.specs.declared.past.Past.{Past}
use Rattle.epoch_cache.specs.declared.cached.CachedFile.{CachedFile}
use Rattle.rules.specs.declared.holdings.Session.{Session}
use Rattle.editor.specs.declared.editing.Attempt.{Attempt}
use Rattle.rules.specs.declared.kept.Begun.{Begun}
use Rattle.rules.specs.Sessions.{lacking_key}
use Rattle.editor.specs.Editing.{update_need}

-- the family and the edit of an operation
abbrev pub family_edit : Operation → Option (ℕ × Edit)
family_edit (operation.Set f at name number) = Some (f, edit.Set at (record { name = name; number = number }))
family_edit (operation.Clear f at) = Some (f, edit.Clear at)
family_edit op = None

abbrev pub attempt_of : Option Begun → Option Attempt
attempt_of None = None
attempt_of (Some b) = b.editing.attempt

-- the key that the actor lacks for one update
abbrev pub lacks_for : Past → ℕ → List Session → List CachedFile → ℕ → RowUpdate → Option ℕ
lacks_for history actor sessions files f u = lacking_key history actor sessions (update_need files (family_path f u.file))

abbrev pub first_lack : Past → ℕ → List Session → List CachedFile → ℕ → List RowUpdate → Option ℕ
first_lack history actor sessions files f [] = None
first_lack history actor sessions files f (u ∷ updates) = elim (lacks_for history actor sessions files f u) [
  | Some key ↦ Some key
  | None ↦ first_lack history actor sessions files f updates
]
