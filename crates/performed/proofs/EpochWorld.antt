-- What arming a change does to the card in the slot: its files and applications stay, and so what it shows.
use Rattle.std.proofs.Common.{◌≡◌, ℕ, Option, Some, None, List, refl, sym, ap, ◌∙◌}
use Rattle.std.specs.Prelude.{option_and_then, slice_get}
use Rattle.card_model.specs.declared.world.FileState.{FileState}
use Rattle.card_model.specs.declared.world.CardState.{CardState}
use Rattle.card_model.specs.declared.world.World.{World}
use Rattle.card_model.specs.declared.world.WorldEvent.TheVariants.{Arm}
use Rattle.card_model.specs.Step.{after_event, armed_at, armed_card, armed_in, card_inside}
use Rattle.families.specs.Families.{shown}
use Rattle.rules.specs.State.{content_on, shown_in, shown_on}
use Rattle.performed.proofs.CalmLent.{get_set}

-- ---- the card

arms_at : (w : World) (i j : ℕ) (card : CardState) (o : Option CardState) → w.inside ≡ Some j → slice_get w.cards j ≡ o → o ≡ Some card → card_inside (armed_at w i j o) ≡ Some (armed_card i card)
arms_at w i j card None here at e = absurd (cc)
arms_at w i j card (Some old) here at e = let same : old ≡ card = cc in rw (here, same) (get_set w.cards j card (armed_card i card) (at ∙ e))

arms_in : (w : World) (i : ℕ) (card : CardState) (o : Option ℕ) → w.inside ≡ o → option_and_then (λ j. slice_get w.cards j) o ≡ Some card → card_inside (armed_in w i o) ≡ Some (armed_card i card)
arms_in w i card None here h = absurd (cc)
arms_in w i card (Some j) here h = arms_at w i j card (slice_get w.cards j) here refl h

pub arms : (w : World) (i : ℕ) (card : CardState) → card_inside w ≡ Some card → card_inside (after_event w (Arm i)) ≡ Some (armed_card i card)
unfolding after_event
arms w i card h = arms_in w i card w.inside refl h

-- ---- an empty slot

none_at : (w : World) (i j : ℕ) (o : Option CardState) → w.inside ≡ Some j → slice_get w.cards j ≡ o → o ≡ None → card_inside (armed_at w i j o) ≡ None
none_at w i j None here at e = rw here at
none_at w i j (Some old) here at e = absurd (cc)

none_in : (w : World) (i : ℕ) (o : Option ℕ) → w.inside ≡ o → option_and_then (λ j. slice_get w.cards j) o ≡ None → card_inside (armed_in w i o) ≡ None
none_in w i None here h = ap (λ (o : Option ℕ). option_and_then (λ j. slice_get w.cards j) o) here
none_in w i (Some j) here h = none_at w i j (slice_get w.cards j) here refl h

pub arms_none : (w : World) (i : ℕ) → card_inside w ≡ None → card_inside (after_event w (Arm i)) ≡ None
unfolding after_event
arms_none w i h = none_in w i w.inside refl h

-- ---- what is shown

-- what the card with these files and applications shows
abbrev text_with : CardState → List FileState → List (List ℕ) → ℕ → List ℕ
text_with card files aids f = shown f (content_on (Some (record card { files = files; aids = aids })))

text_same : (old new : CardState) (f : ℕ) → new.files ≡ old.files → new.aids ≡ old.aids → shown f (content_on (Some new)) ≡ shown f (content_on (Some old))
text_same old new f files aids = ap (λ (x : List FileState). text_with new x new.aids f) files ∙ ap (λ (x : List (List ℕ)). text_with new old.files x f) aids

pub arm_shown : (w : World) (i f : ℕ) → shown_in (after_event w (Arm i)) f ≡ shown_in w f
arm_shown w i f = by_card (card_inside w) refl
  where
    by_card : (o : Option CardState) → card_inside w ≡ o → shown_in (after_event w (Arm i)) f ≡ shown_in w f
    by_card None e = ap (λ (o : Option CardState). shown_on o f) (arms_none w i e) ∙ sym (ap (λ (o : Option CardState). shown_on o f) e)
    by_card (Some card) e =
        ap (λ (o : Option CardState). shown_on o f) (arms w i card e)
        ∙ ap (λ (text : List ℕ). Some text) (text_same card (armed_card i card) f refl refl)
        ∙ sym (ap (λ (o : Option CardState). shown_on o f) e)
