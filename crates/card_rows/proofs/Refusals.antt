-- A refused command changes nothing but what was waiting, the try of a wrong PIN aside.
use Rattle.std.proofs.Common.{◌≡◌, ◌⊎◌, inl, inr, ℕ, ◌+◌, ◌-◌, ◌||◌, ◌==◌, not, Bool, true, false, if◌then◌else◌, List, length, Option, Some, None, refl, sym, ◌∙◌, true≢false}
use Rattle.std.specs.Prelude.{slice_get}
use Rattle.apdu.specs.Values.{CommandValue, ResponseValue}
use Rattle.apdu.specs.Apdu.{refusal}
use Rattle.card_model.specs.declared.world.PinState.{PinState}
use Rattle.card_model.specs.declared.world.Change.{Change}
use Rattle.card_model.specs.declared.world.CardState.{CardState}
use Rattle.card_model.specs.Card.{change_command, first_armed}
use Rattle.card_model.specs.Answers.{announced_word, length_byte, answer, answers, with_waiting}
use Rattle.card_model.specs.Verify.{wrong_key, with_key, tries_word}
use Rattle.card_model.specs.Toolkit.{with_change}
use Rattle.card_model.specs.Step.{on_card}
use Rattle.card_rows.specs.Laws.{KeepsRefused, IsWrong, TakesTry, is_refused, beside_waiting}
use Rattle.card_rows.proofs.Walk.{asks_more, announces, card-keeps}

-- ---- status words

no_refusal : (a b c : Bool) → b ≡ true → not ((a || b) || c) ≡ false
no_refusal true b c h = refl
no_refusal false true c h = refl
no_refusal false false c h = absurd (true≢false (sym h))

more_no_refusal : (a b : Bool) → b ≡ true → not (a || b) ≡ false
more_no_refusal true b h = refl
more_no_refusal false true h = refl
more_no_refusal false false h = absurd (true≢false (sym h))

-- a success is no refusal
success-is_no_refusal : (awaiting : Bool) (change : Option Change) → is_refused (announced_word awaiting change) ≡ false
success-is_no_refusal awaiting None = refl
success-is_no_refusal true (Some change) = refl
success-is_no_refusal false (Some change) = no_refusal (0x9100 + length_byte (length (change_command change)) == 0x9000) _ _ (announces (length (change_command change)))

-- ---- rows

-- what is no refusal may change anything
settles : (c : CommandValue) (card : CardState) (outcome : CardState × ResponseValue) → is_refused outcome.1.sw ≡ false → KeepsRefused c card outcome
settles c card outcome h = record { kept = λ t. absurd (true≢false (sym t ∙ h)) }

module _ (c : CommandValue) where
  takes-try : (card : CardState) (place : ℕ) (key : PinState) → slice_get card.keys place ≡ Some key → IsWrong c key → KeepsRefused c card (with_key card place (wrong_key key), refusal (tries_word (key.tries - 1)))
  takes-try card place key here is = record { kept = λ h. inr (record { place = place; key = key; here = here; wrong = is; taken = refl; told = refl }) }

  dropped : (card : CardState) (b : Bool) (outcome : CardState × ResponseValue) → KeepsRefused c (if b then card else with_waiting card None) outcome → KeepsRefused c card outcome
  dropped card true outcome h = h
  dropped card false outcome h = record { kept = λ t. moved (h.kept t) }
    where
      moved : (beside_waiting outcome.0 ≡ beside_waiting card) ⊎ TakesTry c (with_waiting card None) outcome → (beside_waiting outcome.0 ≡ beside_waiting card) ⊎ TakesTry c card outcome
      moved (inl same) = inl same
      moved (inr takes) = inr (record { place = takes.place; key = takes.key; here = takes.here; wrong = takes.wrong; taken = takes.taken; told = takes.told })

pub refusal-keeps : (changes : List Change) (card : CardState) (c : CommandValue) → KeepsRefused c card (on_card changes card c)
refusal-keeps changes card c =
    card-keeps changes c (KeepsRefused c) (λ card word fails. record { kept = λ t. inl refl })
    (λ card new body same alike. settles c card (answers changes new body) (success-is_no_refusal new.awaiting (first_armed changes new)))
    (λ card new bytes same alike. settles c card (new, refusal (0x6100 + length_byte (length bytes))) (more_no_refusal _ _ (asks_more (length bytes))))
    (λ card change is. settles c card (with_change card change, answer (change_command change) 0x9000) refl)
    (λ card place key here is. settles c card _ (success-is_no_refusal card.awaiting (first_armed changes card)))
    (takes-try c) (dropped c) card
