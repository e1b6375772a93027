-- While an epoch lives there is a card in the slot, where lines show what the slot gave.
use Rattle.std.proofs.Common.{◌≡◌, ℕ, suc, zero, Bool, true, false, List, [], ◌∷◌, length, slice_get, slice_set, Option, Some, None, is_some, is_none, refl, sym, ap, ◌∙◌, true≢false, arith}
use Rattle.std.specs.Prelude.{nat_lt, option_and_then}
use Rattle.std.proofs.lemmas.Bool.{and_parts}
use Rattle.apdu.specs.Values.{CommandValue}
use Rattle.card_model.specs.declared.world.CardState.{CardState}
use Rattle.card_model.specs.declared.world.World.{World}
use Rattle.card_model.specs.declared.world.WorldEvent.{WorldEvent}
use Rattle.card_model.specs.declared.world.WorldEvent.TheVariants as world_event
use Rattle.card_model.specs.Slot.{insert_refusal, refusal_of}
use Rattle.card_model.specs.Step.{after_event, after_reset, armed_at, armed_card, armed_in, card_inside, inserted, reset_card, reset_in, step}
use Rattle.script_reader.specs.declared.types.Script.{Script}
use Rattle.report.specs.declared.line.Line.{Line}
use Rattle.report.specs.declared.line.Line.TheVariants as line
use Rattle.rules.specs.declared.kept.Kept.{Kept}
use Rattle.rules.specs.After.{kept_after, kept_of}
use Rattle.rules.specs.Rules.{has_right_fault, has_right_response}
use Rattle.rules.specs.State.{world_after, world_of}
use Rattle.performed.specs.Told.{are_told, is_told}
use Rattle.performed.proofs.CalmCards.{dead, done_there}
use Rattle.performed.proofs.CalmLent.{get_set, steps_card}

-- ---- a command

steps_inside : (w : World) (c : CommandValue) (o : Option CardState) → card_inside w ≡ o → is_some o ≡ true → is_some (card_inside (step w c).0) ≡ true
steps_inside w c None e h = dead h
steps_inside w c (Some card) e h = ap is_some (steps_card w card c e)

-- ---- a card is set in its place

set_inside : (w : World) (j : ℕ) (o : Option CardState) → slice_get w.cards j ≡ o → is_some o ≡ true → is_some (card_inside (inserted w j o)) ≡ true
set_inside w j None e h = dead h
set_inside w j (Some card) e h = ap is_some (get_set w.cards j card (reset_card card) e)

below : (j n : ℕ) → nat_lt (suc j) (suc n) ≡ true → nat_lt j n ≡ true
below j n h = grind arith

some_at : {X : Type 0} (xs : List X) (j : ℕ) → nat_lt j (length xs) ≡ true → is_some (slice_get xs j) ≡ true
some_at [] j h = absurd (let n : nat_lt j 0 ≡ false = grind arith in true≢false (sym h ∙ n))
some_at (x ∷ xs) zero h = refl
some_at (x ∷ xs) (suc j) h = some_at xs j (below j (length xs) h)

valid_of : (valid full : Bool) (j : ℕ) → is_none (insert_refusal valid full j) ≡ true → valid ≡ true
valid_of true full j h = refl
valid_of false full j h = dead h

insert_inside : (w : World) (j : ℕ) → is_none (refusal_of w (world_event.Insert j)) ≡ true → is_some (card_inside (after_event w (world_event.Insert j))) ≡ true
unfolding after_event
insert_inside w j h = set_inside w j (slice_get w.cards j) refl (some_at w.cards j (valid_of (nat_lt j (length w.cards)) (is_some (card_inside w)) j h))

reset_by : (w : World) (o : Option ℕ) → is_some (option_and_then (λ j. slice_get w.cards j) o) ≡ true → is_some (card_inside (reset_in w o)) ≡ true
reset_by w None h = dead h
reset_by w (Some j) h = set_inside w j (slice_get w.cards j) refl h

reset_inside : (w : World) → is_some (card_inside w) ≡ true → is_some (card_inside (after_reset w)) ≡ true
unfolding after_reset
reset_inside w h = reset_by w w.inside h

armed_on : (w : World) (i j : ℕ) (o : Option CardState) → w.inside ≡ Some j → slice_get w.cards j ≡ o → is_some o ≡ true → is_some (card_inside (armed_at w i j o)) ≡ true
armed_on w i j None e g h = dead h
armed_on w i j (Some card) e g h =
    ap (λ (x : Option ℕ). is_some (option_and_then (λ n. slice_get (slice_set w.cards j (armed_card i card)) n) x)) e
    ∙ ap is_some (get_set w.cards j card (armed_card i card) g)

armed_by : (w : World) (i : ℕ) (o : Option ℕ) → w.inside ≡ o → is_some (option_and_then (λ j. slice_get w.cards j) o) ≡ true → is_some (card_inside (armed_in w i o)) ≡ true
armed_by w i None e h = dead h
armed_by w i (Some j) e h = armed_on w i j (slice_get w.cards j) e refl h

arm_inside : (w : World) (i : ℕ) → is_some (card_inside w) ≡ true → is_some (card_inside (after_event w (world_event.Arm i))) ≡ true
unfolding after_event
arm_inside w i h = armed_by w i w.inside refl h

-- ---- behind a line

-- there is a card while an epoch lives
Within : World → Kept → Type 0
Within w k = k.history.living ≡ true → is_some (card_inside w) ≡ true

event_within : (s : Script) (w : World) (k : Kept) (a : ℕ) (e : WorldEvent) → is_none (refusal_of w e) ≡ true → Within w k → Within (after_event w e) (kept_after s (line.World a e) k)
unfolding Within
event_within s w k a (world_event.Insert j) told h = λ living. insert_inside w j told
event_within s w k a world_event.Out told h = λ living. dead living
event_within s w k a (world_event.Arm i) told h = λ living. arm_inside w i (h living)

line_within : (s : Script) (w : World) (k : Kept) (l : Line) → is_told s w k l ≡ true → Within w k → Within (world_after l w) (kept_after s l k)
unfolding Within
line_within s w k (line.Turn a) told h = h
line_within s w k (line.Begin a i) told h = h
line_within s w k (line.Exchange a c r) told h = λ living.
    steps_inside w c (card_inside w) refl (done_there s w k (and_parts (has_right_response w (line.Exchange a c r)) (has_right_fault s w k (line.Exchange a c r)) told).1)
line_within s w k (line.Failed a c d) told h = λ living. dead living
line_within s w k (line.Reset a) told h = λ living. reset_inside w (done_there s w k told)
line_within s w k (line.ResetFailed a) told h = λ living. dead living
line_within s w k (line.World a e) told h = event_within s w k a e told h
line_within s w k (line.Published n f e v text) told h = h
line_within s w k (line.EpochEnd n e v) told h = h
line_within s w k (line.Refused f n) told h = h
line_within s w k (line.Answered a i given) told h = h

within : (s : Script) (lines : List Line) → are_told s lines ≡ true → Within (world_of s lines) (kept_of s lines)
unfolding Within
within s [] t = λ living. dead living
within s (l ∷ earlier) t =
    let q = and_parts (are_told s earlier) (is_told s (world_of s earlier) (kept_of s earlier) l) t in
    line_within s (world_of s earlier) (kept_of s earlier) l q.1 (within s earlier q.0)

pub inside_while : (s : Script) (lines : List Line) → are_told s lines ≡ true → (kept_of s lines).history.living ≡ true → is_some (card_inside (world_of s lines)) ≡ true
unfolding Within
inside_while s lines t living = within s lines t living
