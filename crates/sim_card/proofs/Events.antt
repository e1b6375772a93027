-- Events and resets leave the files of the cards as they are.
use Rattle.std.proofs.Common.{◌≡◌, ℕ, map, Option, Some, None, refl, sym, ap, ◌∙◌}
use Rattle.std.specs.Prelude.{slice_get, slice_set}
use Rattle.std.proofs.Math.Seq.{map-set_same}
use Rattle.std.proofs.lemmas.Option.{get_or_from_slice_get}
use Rattle.card_model.specs.declared.world.CardState.{CardState}
use Rattle.card_model.specs.declared.world.World.{World}
use Rattle.card_model.specs.declared.world.WorldEvent.{WorldEvent}
use Rattle.card_model.specs.declared.world.WorldEvent.TheVariants.{Arm, Out, Insert}
use Rattle.card_model.specs.Step.{reset_card, armed_card, inserted, armed_at, armed_in, after_event, reset_in, after_reset}

card_keeps : (w : World) (j : ℕ) (card new : CardState) → slice_get w.cards j ≡ Some card → new.files ≡ card.files → map (λ (card : CardState). card.files) (slice_set w.cards j new) ≡ map (λ (card : CardState). card.files) w.cards
card_keeps w j card new here same = map-set_same (λ (card : CardState). card.files) w.cards j new card (same ∙ ap (λ (card : CardState). card.files) (sym (get_or_from_slice_get w.cards j card card here)))

inserted_keeps : (w : World) (j : ℕ) (found : Option CardState) → slice_get w.cards j ≡ found → map (λ (card : CardState). card.files) (inserted w j found).cards ≡ map (λ (card : CardState). card.files) w.cards
inserted_keeps w j None here = refl
inserted_keeps w j (Some card) here = card_keeps w j card (reset_card card) here refl

inserted_keeps_changes : (w : World) (j : ℕ) (found : Option CardState) → (inserted w j found).changes ≡ w.changes
inserted_keeps_changes w j None = refl
inserted_keeps_changes w j (Some card) = refl

pub insert_keeps_files : (w : World) (j : ℕ) → map (λ (card : CardState). card.files) (inserted w j (slice_get w.cards j)).cards ≡ map (λ (card : CardState). card.files) w.cards
insert_keeps_files w j = inserted_keeps w j (slice_get w.cards j) refl

pub insert_keeps_changes : (w : World) (j : ℕ) → (inserted w j (slice_get w.cards j)).changes ≡ w.changes
insert_keeps_changes w j = inserted_keeps_changes w j (slice_get w.cards j)

reset_in_keeps : (w : World) (place : Option ℕ) → map (λ (card : CardState). card.files) (reset_in w place).cards ≡ map (λ (card : CardState). card.files) w.cards
reset_in_keeps w None = refl
reset_in_keeps w (Some j) = insert_keeps_files w j

reset_in_keeps_changes : (w : World) (place : Option ℕ) → (reset_in w place).changes ≡ w.changes
reset_in_keeps_changes w None = refl
reset_in_keeps_changes w (Some j) = insert_keeps_changes w j

pub reset_keeps_files : (w : World) → map (λ (card : CardState). card.files) (after_reset w).cards ≡ map (λ (card : CardState). card.files) w.cards
unfolding after_reset
reset_keeps_files w = reset_in_keeps w w.inside

pub reset_keeps_changes : (w : World) → (after_reset w).changes ≡ w.changes
unfolding after_reset
reset_keeps_changes w = reset_in_keeps_changes w w.inside

armed_at_keeps : (w : World) (i j : ℕ) (found : Option CardState) → slice_get w.cards j ≡ found → map (λ (card : CardState). card.files) (armed_at w i j found).cards ≡ map (λ (card : CardState). card.files) w.cards
armed_at_keeps w i j None here = refl
armed_at_keeps w i j (Some card) here = card_keeps w j card (armed_card i card) here refl

armed_at_keeps_changes : (w : World) (i j : ℕ) (found : Option CardState) → (armed_at w i j found).changes ≡ w.changes
armed_at_keeps_changes w i j None = refl
armed_at_keeps_changes w i j (Some card) = refl

armed_in_keeps : (w : World) (i : ℕ) (place : Option ℕ) → map (λ (card : CardState). card.files) (armed_in w i place).cards ≡ map (λ (card : CardState). card.files) w.cards
armed_in_keeps w i None = refl
armed_in_keeps w i (Some j) = armed_at_keeps w i j (slice_get w.cards j) refl

armed_in_keeps_changes : (w : World) (i : ℕ) (place : Option ℕ) → (armed_in w i place).changes ≡ w.changes
armed_in_keeps_changes w i None = refl
armed_in_keeps_changes w i (Some j) = armed_at_keeps_changes w i j (slice_get w.cards j)

pub event_keeps : (w : World) (e : WorldEvent) → map (λ (card : CardState). card.files) (after_event w e).cards ≡ map (λ (card : CardState). card.files) w.cards
unfolding after_event
event_keeps w (Arm i) = armed_in_keeps w i w.inside
event_keeps w Out = refl
event_keeps w (Insert j) = insert_keeps_files w j

pub event_keeps_changes : (w : World) (e : WorldEvent) → (after_event w e).changes ≡ w.changes
unfolding after_event
event_keeps_changes w (Arm i) = armed_in_keeps_changes w i w.inside
event_keeps_changes w Out = refl
event_keeps_changes w (Insert j) = insert_keeps_changes w j
