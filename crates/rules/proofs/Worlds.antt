-- The world behind a line: what of it the facts about one card need.
use Rattle.std.proofs.Common.{◌≡◌, ℕ, zero, suc, ◌==◌, true, Option, Some, None, List, [], ◌∷◌, refl, ap, ◌∙◌, subst}
use Rattle.std.specs.Prelude.{slice_get, slice_set, option_and_then}
use Rattle.std.proofs.lemmas.Bool.{and_parts, eqb-true}
use Rattle.apdu.specs.Values.{CommandValue, ResponseValue}
use Rattle.apdu.specs.Words.{same_bytes}
use Rattle.apdu.specs.Apdu.{same_response}
use Rattle.card_effects.proofs.Same.{same_bytes_is}
use Rattle.card_model.specs.declared.world.CardState.{CardState}
use Rattle.card_model.specs.declared.world.World.{World}
use Rattle.card_model.specs.declared.world.WorldEvent.TheVariants.{Arm}
use Rattle.card_model.specs.Step.{on_card, card_inside, with_card, step, step_of_place, step_of_card, armed_in, armed_at, armed_card, after_event}

pub get_set : {X : Type 0} (xs : List X) (j : ℕ) (x y : X) → slice_get xs j ≡ Some x → slice_get (slice_set xs j y) j ≡ Some y
get_set [] j x y h = absurd (cc)
get_set (z ∷ xs) zero x y h = refl
get_set (z ∷ xs) (suc j) x y h = get_set xs j x y h

-- a command makes the step of the card in the slot
pub record StepsCard (w : World) (card : CardState) (c : CommandValue) : Type 0 where
  pub inside : card_inside (step w c).0 ≡ Some (on_card w.changes card c).0
  pub response : (step w c).1 ≡ (on_card w.changes card c).1

steps_at : (w : World) (j : ℕ) (card : CardState) (c : CommandValue) → slice_get w.cards j ≡ Some card → (o : Option CardState) → slice_get w.cards j ≡ o → w.inside ≡ Some j → (card_inside (step_of_card w j o c).0 ≡ Some (on_card w.changes card c).0) × ((step_of_card w j o c).1 ≡ (on_card w.changes card c).1)
steps_at w j card c h None e i = absurd (cc)
steps_at w j card c h (Some k) e i = let same : k ≡ card = cc in rw (i, same) (get_set w.cards j card (on_card w.changes card c).0 h, refl)

steps_in : (w : World) (card : CardState) (c : CommandValue) (o : Option ℕ) → w.inside ≡ o → option_and_then (λ j. slice_get w.cards j) o ≡ Some card → (card_inside (step_of_place w o c).0 ≡ Some (on_card w.changes card c).0) × ((step_of_place w o c).1 ≡ (on_card w.changes card c).1)
steps_in w card c None i h = absurd (cc)
steps_in w card c (Some j) i h = steps_at w j card c h (slice_get w.cards j) refl i

pub steps_card : (w : World) (card : CardState) (c : CommandValue) → card_inside w ≡ Some card → StepsCard w card c
unfolding step
steps_card w card c h = let q = steps_in w card c w.inside refl h in record { inside = q.0; response = q.1 }

-- files, channels, applications and what waits are the same
pub record Alike (old new : CardState) : Type 0 where
  pub files : new.files ≡ old.files
  pub channels : new.channels ≡ old.channels
  pub aids : new.aids ≡ old.aids
  pub waiting : new.waiting ≡ old.waiting

armed_alike : (w : World) (i j : ℕ) (o : Option CardState) (new : CardState) → slice_get w.cards j ≡ o → w.inside ≡ Some j → card_inside (armed_at w i j o) ≡ Some new → (old : CardState) × (card_inside w ≡ Some old) × Alike old new
armed_alike w i j None new e h n = (new, n, record { files = refl; channels = refl; aids = refl; waiting = refl })
armed_alike w i j (Some old) new e h n =
    let m : card_inside (with_card w j (armed_card i old)) ≡ Some (armed_card i old) = rw h (get_set w.cards j old (armed_card i old) e) in
    let same : armed_card i old ≡ new = cc in
    (old, rw h e, subst (λ (x : CardState). Alike old x) same (record { files = refl; channels = refl; aids = refl; waiting = refl }))

armed_in_alike : (w : World) (i : ℕ) (o : Option ℕ) (new : CardState) → w.inside ≡ o → card_inside (armed_in w i o) ≡ Some new → (old : CardState) × (card_inside w ≡ Some old) × Alike old new
armed_in_alike w i None new h n = (new, n, record { files = refl; channels = refl; aids = refl; waiting = refl })
armed_in_alike w i (Some j) new h n = armed_alike w i j (slice_get w.cards j) new refl h n

-- a change that is armed leaves the card's files, channels and applications
pub arm_alike : (w : World) (i : ℕ) (new : CardState) → card_inside (after_event w (Arm i)) ≡ Some new → (old : CardState) × (card_inside w ≡ Some old) × Alike old new
unfolding after_event
arm_alike w i new n = armed_in_alike w i w.inside new refl n

pub response_is : (r q : ResponseValue) → same_response r q ≡ true → r ≡ q
response_is r q h = let p = and_parts (same_bytes r.body q.body) (r.sw == q.sw) h in
    let b : r.body ≡ q.body = same_bytes_is r.body q.body p.0 in
    let w : r.sw ≡ q.sw = eqb-true r.sw q.sw p.1 in
    let make : List ℕ → ℕ → ResponseValue = λ body sw. record { body = body; sw = sw } in
    ap (λ body. make body r.sw) b ∙ ap (λ sw. make q.body sw) w
