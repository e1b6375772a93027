-- The limits of simulated cards and changes on which the card's step relies: what is answered fits a response, and what
-- changes give a card has room.
use Rattle.std.specs.Prelude.{◌≤◌, ◌+◌, ℕ, List, [], ◌∷◌, ◌++◌, length, All, IfSome}
use Rattle.card_model.specs.Room.{most_files}
use Rattle.card_model.specs.declared.world.FileState.{FileState}
use Rattle.card_model.specs.declared.world.Change.{Change}
use Rattle.card_model.specs.declared.world.CardState.{CardState}
use Rattle.card_model.specs.declared.world.World.{World}

-- the control parameters that a file has of its own fit a response
abbrev pub HasFittingParameters : FileState → Type 0
HasFittingParameters file = IfSome file.fcp (λ bytes. length bytes ≤ 256)

-- an AID has at most 16 bytes
abbrev pub IsAid : List ℕ → Type 0
IsAid aid = length aid ≤ 16

-- an application's index fits a channel
pub record IsFittingCard (card : CardState) : Type 0 where
  pub files : All HasFittingParameters card.files
  pub aids : All IsAid card.aids
  pub applications : length card.aids ≤ 256

-- a change lists at most eight files
pub record IsFittingChange (change : Change) : Type 0 where
  pub list : length change.list ≤ 8
  pub files : All HasFittingParameters change.files

-- the files of all changes
abbrev pub all_files : List Change → List FileState
all_files [] = []
all_files (change ∷ changes) = change.files ++ all_files changes

-- a card has room for its own files and for those of every change
abbrev pub HasRoom : List Change → CardState → Type 0
HasRoom changes card = length card.files + length (all_files changes) ≤ most_files

pub record IsFittingWorld (w : World) : Type 0 where
  pub cards : All IsFittingCard w.cards
  pub changes : All IsFittingChange w.changes
