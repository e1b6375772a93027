-- Calls of a slot of which none is planned to fail.
use Rattle.std.proofs.Common.{◌≡◌, ◌||◌, ◌&&◌, ℕ, Bool, true, false, Option, Some, None, [], Result, Ok, Err, refl, ap, sym, subst, ◌∙◌}
use Rattle.std.specs.Prelude.{is_some, is_none, is_err, slice_get, option_and_then, OnOk}
use Rattle.apdu.specs.Values.{CommandValue, ResponseValue}
use Rattle.card_model.specs.declared.slot.SlotFault.{SlotFault}
use Rattle.card_model.specs.declared.slot.WorldRefusal.{WorldRefusal}
use Rattle.card_model.specs.declared.world.CardState.{CardState}
use Rattle.card_model.specs.declared.world.World.{World}
use Rattle.card_model.specs.declared.world.WorldEvent.{WorldEvent}
use Rattle.card_model.specs.Slot.{Plan, fault_at, next_fault, one_more, PlannedExchange, ResetsAt, PlannedReset, IsResultOf}
use Rattle.card_model.specs.Step.{card_inside, step, inserted, reset_in, after_reset, after_event}
use Rattle.apdu.specs.Apdu.{same_response}
use Rattle.rules.specs.Rules.{is_response_right}

none_inside : (o : Option CardState) → is_none o ≡ true → is_some o ≡ false
none_inside None h = refl
none_inside (Some card) h = absurd (cc)

-- then there is no card
pub no_card : {T : Type 0} (p : Plan) (w : World) (new : Option World) (c : CommandValue) (r : Result T SlotFault) → PlannedExchange (next_fault p) w new c r → p.faults ≡ [] → is_err r ≡ true → is_some (card_inside w) ≡ false
no_card p w new c r planned faults e =
    none_inside (card_inside w) (
    sym (ap (λ faults. is_some (fault_at (one_more p.calls) faults) || is_none (card_inside w)) faults)
    ∙ sym planned.fails ∙ e)

-- without a card no response is right
pub never_right : (w : World) (c : CommandValue) (r : ResponseValue) → is_some (card_inside w) ≡ false → is_response_right w c r ≡ false
never_right w c r h = ap (λ (b : Bool). b && same_response r (step w c).1) h

-- ---- resets

inserted_none : (w : World) (j : ℕ) (o : Option CardState) → o ≡ None → inserted w j o ≡ w
inserted_none w j None h = refl
inserted_none w j (Some card) h = absurd (cc)

reset_none : (w : World) (inside : Option ℕ) → option_and_then (λ j. slice_get w.cards j) inside ≡ None → reset_in w inside ≡ w
reset_none w None h = refl
reset_none w (Some j) h = inserted_none w j (slice_get w.cards j) h

-- without a card nothing is reset
reset_of_nothing : (w : World) → card_inside w ≡ None → after_reset w ≡ w
unfolding after_reset
reset_of_nothing w h = reset_none w w.inside h

nothing_inside : (o : Option CardState) → is_none o ≡ true → o ≡ None
nothing_inside None h = refl
nothing_inside (Some card) h = absurd (cc)

-- where the reset fails there is no card, and nothing is reset
pub reset_anyway : (p : Plan) (w new : World) (r : Result (Unit {0}) SlotFault) → PlannedReset (next_fault p) w (Some new) r → p.faults ≡ [] → OnOk r (ResetsAt w (Some new)) → new ≡ after_reset w
reset_anyway p w new (Ok u) planned faults ok =
    let behind : Some new ≡ Some (after_reset w) = ok.world in
    cc
reset_anyway p w new (Err e) planned faults ok =
    let left : Some new ≡ Some w = planned.left in
    let same : new ≡ w = cc in
    let none : is_none (card_inside w) ≡ true = sym (ap (λ xs. is_some (fault_at (one_more p.calls) xs) || is_none (card_inside w)) faults) ∙ sym planned.fails in
    same ∙ sym (reset_of_nothing w (nothing_inside (card_inside w) none))

-- ---- events of the world

-- what is not refused happens
pub happens_by : (o : Option WorldRefusal) (w new : World) (e : WorldEvent) (r : Result (Unit {0}) WorldRefusal) → IsResultOf o r → is_some o ≡ false → OnOk r (Some new ≡ Some (after_event w e)) → new ≡ after_event w e
happens_by None w new e r is h ok =
    let behind : Some new ≡ Some (after_event w e) = subst (λ (x : Result (Unit {0}) WorldRefusal). OnOk x (Some new ≡ Some (after_event w e))) is ok in
    cc
happens_by (Some refusal) w new e r is h ok = absurd (cc)
