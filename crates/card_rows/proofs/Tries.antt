-- The tries of a key grow by a VERIFY of it with its own PIN alone.
use Rattle.std.proofs.Common.{◌≡◌, ◌<◌, ◌-◌, ℕ, suc, zero, Bool, true, false, if◌then◌else◌, List, [], ◌∷◌, Option, Some, None, refl, sym, ap, subst, ◌∙◌, arith}
use Rattle.std.specs.Prelude.{slice_get, slice_set, unwrap_or, option_map}
use Rattle.apdu.specs.Values.{CommandValue, ResponseValue}
use Rattle.card_model.specs.declared.world.PinState.{PinState}
use Rattle.card_model.specs.declared.world.Change.{Change}
use Rattle.card_model.specs.declared.world.CardState.{CardState}
use Rattle.card_model.specs.Answers.{refuses, with_waiting}
use Rattle.card_model.specs.Verify.{right_key, wrong_key, with_key}
use Rattle.card_model.specs.Toolkit.{with_change}
use Rattle.card_model.specs.Step.{on_card}
use Rattle.card_rows.specs.Laws.{tries_of, IsRight, KeepsTries}
use Rattle.card_rows.proofs.Walk.{card-keeps}

-- the tries of a key that may be there
tries_in : Option PinState → ℕ
tries_in key = unwrap_or (option_map tries_of key) 0

same_tries : (found : Option PinState) (before after : PinState) → found ≡ Some before → found ≡ Some after → before.tries < after.tries → ⊥
unfolding tries_in
same_tries found before after b a less = let e : before.tries ≡ after.tries = ap tries_in (sym b ∙ a) in omega arith

-- a key that is written over is the only one whose tries change
only_there : (keys : List PinState) (place : ℕ) (key new : PinState) (at : ℕ) (before after : PinState) → slice_get keys place ≡ Some key → slice_get keys at ≡ Some before → slice_get (slice_set keys place new) at ≡ Some after → before.tries < after.tries → (Some key ≡ Some before) × (Some new ≡ Some after)
only_there [] place key new at before after here b a less = cc
only_there (k ∷ ks) zero key new zero before after here b a less = (sym here ∙ b, a)
only_there (k ∷ ks) zero key new (suc at) before after here b a less = absurd (same_tries _ before after b a less)
only_there (k ∷ ks) (suc place) key new zero before after here b a less = absurd (same_tries _ before after b a less)
only_there (k ∷ ks) (suc place) key new (suc at) before after here b a less = only_there ks place key new at before after here b a less

module _ (c : CommandValue) where
  refused : (card : CardState) (word : ℕ) → KeepsTries c card (refuses card word).0
  refused card word = record { grown = λ at before after b a less. absurd (same_tries (slice_get card.keys at) before after b a less) }

  same_keys : (card new : CardState) → new.keys ≡ card.keys → KeepsTries c card new
  same_keys card new same = record { grown = λ at before after b a less. absurd (same_tries (slice_get card.keys at) before after b (ap (λ (keys : List PinState). slice_get keys at) (sym same) ∙ a) less) }

  key_of : (key before : PinState) → Some key ≡ Some before → key ≡ before
  key_of key before e = ap (λ (o : Option PinState). unwrap_or o key) e

  right : (card : CardState) (place : ℕ) (key : PinState) → slice_get card.keys place ≡ Some key → IsRight c key → KeepsTries c card (with_key card place (right_key key))
  right card place key here is = record {
    grown = λ at before after b a less.
        let e : (Some key ≡ Some before) × (Some (right_key key) ≡ Some after) = only_there card.keys place key (right_key key) at before after here b a less in
        subst (λ (k : PinState). IsRight c k) (key_of key before e.0) is;
  }

  wrong : (card : CardState) (place : ℕ) (key : PinState) → slice_get card.keys place ≡ Some key → KeepsTries c card (with_key card place (wrong_key key))
  wrong card place key here = record {
    grown = λ at before after b a less.
        let e : (Some key ≡ Some before) × (Some (wrong_key key) ≡ Some after) = only_there card.keys place key (wrong_key key) at before after here b a less in
        let old : key.tries ≡ before.tries = ap tries_of (key_of key before e.0) in
        let new : key.tries - 1 ≡ after.tries = ap tries_of (key_of (wrong_key key) after e.1) in
        absurd (omega arith);
  }

  dropped : (card : CardState) (b : Bool) (outcome : CardState × ResponseValue) → KeepsTries c (if b then card else with_waiting card None) outcome.0 → KeepsTries c card outcome.0
  dropped card true outcome h = h
  dropped card false outcome h = record { grown = h.grown }

pub tries-keep : (changes : List Change) (card : CardState) (c : CommandValue) → KeepsTries c card (on_card changes card c).0
tries-keep changes card c =
    card-keeps changes c (λ card outcome. KeepsTries c card outcome.0) (λ card word fails. refused c card word) (λ card new body same alike. same_keys c card new same) (λ card new bytes same alike. same_keys c card new same)
    (λ card change is. same_keys c card (with_change card change) refl) (right c) (λ card place key here is. wrong c card place key here) (dropped c) card
