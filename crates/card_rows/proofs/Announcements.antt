-- A success announces exactly while something is armed and nothing is awaited.
use Rattle.std.proofs.Common.{◌≡◌, ◌≤◌, ℕ, ◌+◌, ◌-◌, ◌%◌, ◌&&◌, not, Bool, true, false, if◌then◌else◌, List, length, All, Option, Some, None, is_some, refl, sym, subst, ◌∙◌, arith, true≢false}
use Rattle.std.specs.Prelude.{slice_get}
use Rattle.std.proofs.lemmas.List.Elements.{All-get_or}
use Rattle.std.proofs.lemmas.Option.{get_or_from_slice_get, slice_get_within}
use Rattle.apdu.specs.Values.{CommandValue, ResponseValue}
use Rattle.apdu.specs.Apdu.{is_success, is_announcement, refusal}
use Rattle.card_model.specs.declared.world.PinState.{PinState}
use Rattle.card_model.specs.declared.world.Change.{Change}
use Rattle.card_model.specs.declared.world.CardState.{CardState}
use Rattle.card_model.specs.Card.{change_command, first_armed}
use Rattle.card_model.specs.Answers.{refuses, announced_word, length_byte, answer, answers, with_waiting}
use Rattle.card_model.specs.Verify.{wrong_key, with_key, tries_word}
use Rattle.card_model.specs.Toolkit.{with_change}
use Rattle.card_model.specs.Step.{on_card}
use Rattle.card_rows.specs.Laws.{HasByteTries, Announces}
use Rattle.card_rows.proofs.Walk.{announces, low_fails, card-keeps}

announced : (awaiting : Bool) (change : Option Change) → is_announcement (announced_word awaiting change) ≡ (is_some change && not awaiting)
announced awaiting None = refl
announced true (Some change) = refl
announced false (Some change) = announces (length (change_command change))

silent : (b : Bool) → false ≡ (b && false)
silent true = refl
silent false = refl

byte_tries : (keys : List PinState) (place : ℕ) (key : PinState) → slice_get keys place ≡ Some key → All HasByteTries keys → key.tries ≤ 255
byte_tries keys place key here all = subst HasByteTries (get_or_from_slice_get keys place key key here) (All-get_or HasByteTries keys place key (slice_get_within keys place key here) all)

module _ (changes : List Change) where
  -- what is no success announces nothing
  fails : (card : CardState) (outcome : CardState × ResponseValue) → is_success outcome.1.sw ≡ false → Announces changes card outcome
  fails card outcome other = record { announces = λ few success. absurd (true≢false (sym success ∙ other)) }

  answered : (card new : CardState) (body : List ℕ) → Announces changes card (answers changes new body)
  answered card new body = record { announces = λ few success. announced new.awaiting (first_armed changes new) }

  fetched : (card : CardState) (change : Change) → Announces changes card (with_change card change, answer (change_command change) 0x9000)
  fetched card change = record { announces = λ few success. silent (is_some (first_armed changes (with_change card change))) }

  wrong : (card : CardState) (place : ℕ) (key : PinState) → slice_get card.keys place ≡ Some key → Announces changes card (with_key card place (wrong_key key), refusal (tries_word (key.tries - 1)))
  wrong card place key here = record {
    announces = λ few success.
        let byte : key.tries ≤ 255 = byte_tries card.keys place key here few in
        absurd (true≢false (sym success ∙ low_fails (tries_word (key.tries - 1)) (omega arith)));
  }

  dropped : (card : CardState) (b : Bool) (outcome : CardState × ResponseValue) → Announces changes (if b then card else with_waiting card None) outcome → Announces changes card outcome
  dropped card true outcome h = h
  dropped card false outcome h = record { announces = h.announces }

pub success-announces : (changes : List Change) (card : CardState) (c : CommandValue) → Announces changes card (on_card changes card c)
success-announces changes card c =
    card-keeps changes c (Announces changes) (λ card word other. fails changes card (refuses card word) other) (λ card new body same alike. answered changes card new body)
    (λ card new bytes same alike. fails changes card (new, refusal (0x6100 + length_byte (length bytes))) (low_fails (0x6100 + length bytes % 256) (omega arith)))
    (λ card change is. fetched changes card change) (λ card place key here is. answered changes card _ _) (λ card place key here is. wrong changes card place key here) (dropped changes) card
