-- What a script that keeps its rules comes to, of its changes and of each world of a run.
use Rattle.std.proofs.Common.{◌≡◌, ℕ, ◌==◌, ◌&&◌, ◌||◌, Bool, true, List, [], ◌∷◌, length, Some}
use Rattle.std.specs.Prelude.{nat_lt, slice_get, Ok}
use Rattle.std.specs.List.{list_all}
use Rattle.apdu.specs.Words.{is_one_of, path_is_in}
use Rattle.refresh_cmd.specs.Proactive.{read_proactive, refresh_type, command_of}
use Rattle.card_model.specs.declared.world.FileState.{FileState}
use Rattle.card_model.specs.declared.world.Change.{Change}
use Rattle.card_model.specs.declared.world.CardState.{CardState}
use Rattle.card_model.specs.declared.world.World.{World}
use Rattle.card_model.specs.Card.{change_command}
use Rattle.card_effects.specs.Fine.{FineFiles, FineImages}

-- ---- a change

abbrev pub tells_files : Change → Bool
tells_files ch = is_one_of ch.qualifier (0 ∷ 4 ∷ 5 ∷ 6 ∷ []) || (nat_lt ch.qualifier 7 && list_all (λ (f : FileState). path_is_in ch.list f.path) ch.files)

pub record FineChange (ch : Change) : Type 0 where
  -- the terminal reads the command as it is
  pub reads : read_proactive (change_command ch) ≡ Ok (command_of 1 ch.kind ch.qualifier ch.list)
  -- it is a REFRESH that tells each file that it changes, or changes none
  pub honest : ((length ch.files == 0) || ((ch.kind == refresh_type) && tells_files ch)) ≡ true

abbrev pub FineChanges : List Change → Type 0
FineChanges changes = (i : ℕ) (ch : Change) → slice_get changes i ≡ Some ch → FineChange ch

-- ---- a world

abbrev pub FineCards : List CardState → Type 0
FineCards cards = (i : ℕ) (card : CardState) → slice_get cards i ≡ Some card → FineFiles card.files

pub record Sane (w : World) : Type 0 where
  pub cards : FineCards w.cards
  pub changes : FineChanges w.changes
  pub changed : FineImages w.changes
