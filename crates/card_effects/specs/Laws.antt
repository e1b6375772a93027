-- Laws of the card's step.
use Rattle.std.specs.Prelude.{◌≡◌, ◌⊎◌, List}
use Rattle.apdu.specs.Values.{CommandValue}
use Rattle.card_model.specs.declared.world.Change.{Change}
use Rattle.card_model.specs.declared.world.CardState.{CardState}
use Rattle.card_model.specs.Step.{on_card}
use Rattle.card_effects.specs.Effect.{Effect}
use Rattle.card_effects.specs.Basic.{LeavesBasic, SelectsBasic}
use Rattle.card_effects.specs.Numbers.{ChangesNumbers}
use Rattle.card_effects.specs.Touched.{Spares}
use Rattle.card_effects.specs.Fine.{FineFiles, FineImages}

-- what any command does is one of the effects
abbrev pub HasEffect : Type 0
HasEffect = (changes : List Change) (card : CardState) (c : CommandValue) → Effect changes card c (on_card changes card c)

-- the basic channel changes by a SELECT on it that was done alone
abbrev pub HasBasicEffect : Type 0
HasBasicEffect = (changes : List Change) (card : CardState) (c : CommandValue) → LeavesBasic card c (on_card changes card c) ⊎ SelectsBasic card c (on_card changes card c)

-- channels open and close by MANAGE CHANNEL alone
abbrev pub HasNumbersEffect : Type 0
HasNumbersEffect = (changes : List Change) (card : CardState) (c : CommandValue) → ChangesNumbers card c (on_card changes card c)

-- a file changes only where the command touches it
abbrev pub SparesOthers : Type 0
SparesOthers = (changes : List Change) (card : CardState) (c : CommandValue) → Spares changes card c (on_card changes card c)

-- the applications stay
abbrev pub KeepsApplications : Type 0
KeepsApplications = (changes : List Change) (card : CardState) (c : CommandValue) → (on_card changes card c).0.aids ≡ card.aids

-- well formed files stay well formed, where those of the changes are
abbrev pub KeepsFine : Type 0
KeepsFine = (changes : List Change) (card : CardState) (c : CommandValue) → FineFiles card.files → FineImages changes → FineFiles (on_card changes card c).0.files
