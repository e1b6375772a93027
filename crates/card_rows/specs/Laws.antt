-- Laws of the card's table that a reader would want of any card.
use Rattle.std.specs.Prelude.{◌≡◌, ◌⊎◌, ◌<◌, ◌≤◌, ℕ, ◌-◌, ◌&&◌, ◌||◌, not, Bool, List, [], ◌∷◌, map, slice_get, All, Some, None, is_some, IsTrue, IsFalse}
use Rattle.apdu.specs.Values.{CommandValue, ResponseValue}
use Rattle.apdu.specs.Words.{same_bytes}
use Rattle.apdu.specs.Apdu.{is_success, is_announcement, has_more, refusal}
use Rattle.card_model.specs.declared.instruction.Instruction.TheVariants.{Verify}
use Rattle.card_model.specs.declared.world.PinState.{PinState}
use Rattle.card_model.specs.declared.world.Change.{Change}
use Rattle.card_model.specs.declared.world.CardState.{CardState}
use Rattle.card_model.specs.Card.{fresh_channel, first_armed}
use Rattle.card_model.specs.Instructions.{instruction_of}
use Rattle.card_model.specs.Answers.{with_waiting}
use Rattle.card_model.specs.Verify.{with_key, wrong_key, tries_word}
use Rattle.card_model.specs.Step.{on_card, reset_card}

-- ---- resets

abbrev pub tries_of : PinState → ℕ
tries_of key = key.tries

-- a reset leaves files, tries and armed changes as they are, and the basic channel alone open
pub record KeepsOverReset (card reset : CardState) : Type 0 where
  pub files : reset.files ≡ card.files
  pub tries : map tries_of reset.keys ≡ map tries_of card.keys
  pub armed : reset.armed ≡ card.armed
  pub channels : reset.channels ≡ fresh_channel 0 ∷ []

abbrev pub ResetKeeps : Type 0
ResetKeeps = (card : CardState) → KeepsOverReset card (reset_card card)

-- ---- successes

-- the tries of a key are a byte, so that what tells them is no success
abbrev pub HasByteTries : PinState → Type 0
HasByteTries key = key.tries ≤ 255

-- an answer with 9000 or 91XX is 91XX exactly where the card that it leaves has something armed and awaits nothing
pub record Announces (changes : List Change) (card : CardState) (outcome : CardState × ResponseValue) : Type 0 where
  pub announces : All HasByteTries card.keys → IsTrue (is_success outcome.1.sw) → is_announcement outcome.1.sw ≡ (is_some (first_armed changes outcome.0) && not outcome.0.awaiting)

abbrev pub AnnouncesArmed : Type 0
AnnouncesArmed = (changes : List Change) (card : CardState) (c : CommandValue) → Announces changes card (on_card changes card c)

-- ---- tries

-- a VERIFY of this key, which has tries left, with its PIN
pub record IsRight (c : CommandValue) (key : PinState) : Type 0 where
  pub verifies : instruction_of c.ins ≡ Some Verify
  pub names : key.key ≡ c.p2
  pub left : 0 < key.tries
  pub pin : IsTrue (same_bytes c.body key.secret)

-- a VERIFY of this key, which has tries left, with other bytes than its PIN
pub record IsWrong (c : CommandValue) (key : PinState) : Type 0 where
  pub verifies : instruction_of c.ins ≡ Some Verify
  pub names : key.key ≡ c.p2
  pub left : 0 < key.tries
  pub pin : IsFalse (same_bytes c.body key.secret)

-- where a key has more tries after a command, that is a VERIFY of it with its PIN
pub record KeepsTries (c : CommandValue) (card new : CardState) : Type 0 where
  pub grown : (place : ℕ) (before after : PinState) → slice_get card.keys place ≡ Some before → slice_get new.keys place ≡ Some after → before.tries < after.tries → IsRight c before

abbrev pub TriesKeep : Type 0
TriesKeep = (changes : List Change) (card : CardState) (c : CommandValue) → KeepsTries c card (on_card changes card c).0

-- ---- refusals

-- a status that is neither 9000 or 91XX nor 61XX
abbrev pub is_refused : ℕ → Bool
is_refused sw = not (is_success sw || has_more sw)

-- what a card is beside what waits for GET RESPONSE
abbrev pub beside_waiting : CardState → CardState
beside_waiting card = with_waiting card None

-- a wrong PIN: its key alone is another, with a try less and not verified, and 63CX tells the tries that are left
pub record TakesTry (c : CommandValue) (card : CardState) (outcome : CardState × ResponseValue) : Type 0 where
  pub place : ℕ
  pub key : PinState
  pub here : slice_get card.keys place ≡ Some key
  pub wrong : IsWrong c key
  pub taken : beside_waiting outcome.0 ≡ beside_waiting (with_key card place (wrong_key key))
  pub told : outcome.1 ≡ refusal (tries_word (key.tries - 1))

-- a refusal changes nothing but what was waiting, the try aside that a wrong PIN takes
pub record KeepsRefused (c : CommandValue) (card : CardState) (outcome : CardState × ResponseValue) : Type 0 where
  pub kept : IsTrue (is_refused outcome.1.sw) → (beside_waiting outcome.0 ≡ beside_waiting card) ⊎ TakesTry c card outcome

abbrev pub RefusedKeeps : Type 0
RefusedKeeps = (changes : List Change) (card : CardState) (c : CommandValue) → KeepsRefused c card (on_card changes card c)
