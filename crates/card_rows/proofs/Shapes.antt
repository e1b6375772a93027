-- No row but FETCH changes the shape of a card's file.
use Rattle.std.proofs.Common.{◌≡◌, ℕ, Bool, true, false, if◌then◌else◌, List, Option, Some, None, refl, sym, ap, ◌∙◌, true≢false}
use Rattle.apdu.specs.Values.{CommandValue, ResponseValue}
use Rattle.card_model.specs.declared.instruction.Instruction.{Instruction}
use Rattle.card_model.specs.declared.instruction.Instruction.TheVariants.{Fetch}
use Rattle.card_model.specs.declared.world.ChannelState.{ChannelState}
use Rattle.card_model.specs.declared.world.Change.{Change}
use Rattle.card_model.specs.declared.world.CardState.{CardState}
use Rattle.card_model.specs.Instructions.{instruction_of}
use Rattle.card_model.specs.Answers.{with_waiting}
use Rattle.card_model.specs.Step.{on_row}
use Rattle.card_rows.specs.Shapes.{shapes, is_fetch}
use Rattle.card_rows.proofs.Walk.{row-of-table-keeps}

-- ---- commands

fetches : Option Instruction → Bool
fetches None = false
fetches (Some row) = is_fetch row

no_fetch : (row : Instruction) → is_fetch row ≡ false → Some row ≡ Some Fetch → ⊥
unfolding fetches
no_fetch row other e = true≢false (sym (ap fetches e) ∙ other)

module _ (c : CommandValue) where
  -- unless the command is FETCH, each file has its shape
  abbrev Keeps : CardState → CardState × ResponseValue → Type 0
  Keeps card outcome = (instruction_of c.ins ≡ Some Fetch → ⊥) → shapes outcome.0.files ≡ shapes card.files

  dropped : (card : CardState) (b : Bool) (outcome : CardState × ResponseValue) → Keeps (if b then card else with_waiting card None) outcome → Keeps card outcome
  dropped card true outcome h = h
  dropped card false outcome h = h

-- a command other than FETCH keeps the shape of every file
pub row_keeps : (changes : List Change) (card : CardState) (place : ℕ) (channel : ChannelState) (c : CommandValue) (row : Instruction) → instruction_of c.ins ≡ Some row → is_fetch row ≡ false → shapes (on_row changes card place channel c row).0.files ≡ shapes card.files
row_keeps changes card place channel c row is other =
    row-of-table-keeps changes c (Keeps c) (λ card word fails no. refl) (λ card new body same alike no. alike) (λ card new bytes same alike no. alike)
    (λ card change fetch no. absurd (no fetch)) (λ card place key here is no. refl) (λ card place key here is no. refl) (dropped c)
    card place channel row is (λ fetch. no_fetch row other (sym is ∙ fetch))

pub row_shapes : (changes : List Change) (card new : CardState) (place : ℕ) (channel : ChannelState) (c : CommandValue) (row : Instruction) (response : ResponseValue) → instruction_of c.ins ≡ Some row → is_fetch row ≡ false → (new, response) ≡ on_row changes card place channel c row → shapes new.files ≡ shapes card.files
row_shapes changes card new place channel c row response is other value =
    ap (λ (outcome : CardState × ResponseValue). shapes outcome.0.files) value ∙ row_keeps changes card place channel c row is other
