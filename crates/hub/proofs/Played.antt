-- What the slot's calls do where it tells its world and its plan.
use Rattle.std.proofs.Common.{◌≡◌, ◌<◌, ◌&&◌, ◌+◌, ◌-◌, ◌^◌, min, not, ℕ, Bool, true, false, if◌then◌else◌, Option, Some, None, IfSome, is_some, is_none, is_err, Result, Ok, Err, refl, sym, ap, ◌∙◌, subst, true≢false, arith, eq-eqb}
use Rattle.apdu.specs.Values.{CommandValue, ResponseValue}
use Rattle.apdu.specs.Apdu.{same_response}
use Rattle.card_model.specs.declared.slot.SlotFault.{SlotFault}
use Rattle.card_model.specs.declared.world.Fault.{Fault}
use Rattle.card_model.specs.declared.slot.WorldRefusal.{WorldRefusal}
use Rattle.card_model.specs.declared.world.World.{World}
use Rattle.card_model.specs.declared.world.WorldEvent.{WorldEvent}
use Rattle.card_model.specs.Slot.{Plan, PlannedExchange, StaysTold, ToldWith, Answers, Counts, ExchangesAsPlanned, Happens, IsRefused, IsResultOf, Resets, ResetsAsPlanned, refusal_of, acted_of, fails_at, fault_at, next_fault as fault_of_plan, one_more}
use Rattle.card_model.specs.Step.{card_inside, step}
use Rattle.epoch_cache.specs.Past.{counted}
use Rattle.script_reader.specs.declared.types.Script.{Script}
use Rattle.report.specs.declared.line.Line.{Line}
use Rattle.report.specs.declared.line.Line.TheVariants as line
use Rattle.rules.specs.declared.kept.Kept.{Kept}
use Rattle.rules.specs.History.{is_call}
use Rattle.rules.specs.Rules.{is_acting, is_failing, next_fault, same_flag}
use Rattle.rules.specs.State.{world_after}
use Rattle.performed.specs.Told.{is_told}
use Rattle.hub.specs.Settled.{IsPlanOf}
use Rattle.hub.proofs.Follows.{both, bytes-same}
use Rattle.hub.proofs.Ties.{IsPlayed}

pub response-same : (r : ResponseValue) → same_response r r ≡ true
response-same r = rw (bytes-same r.body, eq-eqb r.sw r.sw refl) refl

-- ---- calls are counted

counts_call : (s : Script) (k : Kept) (l : Line) (p q : Option Plan) → is_call l ≡ true → IfSome p (IsPlanOf s k) → k.history.calls + 1 < 2 ^ 64 → Counts p q → IfSome p (λ x. q ≡ Some (record { faults = x.faults; calls = counted (is_call l) x.calls }))
counts_call s k l None q call h n c = tt
counts_call s k l (Some x) q call h n c =
    let calls : x.calls ≡ k.history.calls = h.calls in
    let more : min (x.calls + 1) (2 ^ 64 - 1) ≡ x.calls + 1 = omega arith in
    c ∙ ap (λ (m : ℕ). Some (record { faults = x.faults; calls = m })) (more ∙ sym (ap (λ (b : Bool). counted b x.calls) call))

-- ---- the fault that the slot plans for its next call is the script's

same_fault : (s : Script) (k : Kept) (p : Plan) → IsPlanOf s k p → k.history.calls + 1 < 2 ^ 64 → fault_of_plan p ≡ next_fault s k
same_fault s k p h n =
    let calls : p.calls ≡ k.history.calls = h.calls in
    let more : one_more p.calls ≡ k.history.calls + 1 = omega arith in
    ap (fault_at (one_more p.calls)) h.faults ∙ ap (λ (m : ℕ). fault_at m s.faults) more

fails_as : (s : Script) (k : Kept) (p : Plan) (x : World) (b : Bool) → IsPlanOf s k p → k.history.calls + 1 < 2 ^ 64 → b ≡ fails_at (fault_of_plan p) x → is_failing s x k ≡ b
fails_as s k p x b h n e = ap (λ (o : Option Fault). fails_at o x) (sym (same_fault s k p h n)) ∙ sym e

-- ---- an exchange

answered_told : (s : Script) (k : Kept) (a : ℕ) (c : CommandValue) (r : ResponseValue) (x : World) → is_failing s x k ≡ false → is_some (card_inside x) ≡ true → r ≡ (step x c).1 → is_told s x k (line.Exchange a c r) ≡ true
answered_told s k a c r x done inside response =
    let same : same_response r (step x c).1 ≡ true = subst (λ (y : ResponseValue). same_response r y ≡ true) response (response-same r) in
    both (is_some (card_inside x) && same_response r (step x c).1) (not (is_failing s x k)) (both (is_some (card_inside x)) (same_response r (step x c).1) inside same) (ap not done)

exchange_done : (s : Script) (k : Kept) (c : CommandValue) (r : ResponseValue) (x : World) (v : Option World) (p : Option Plan) → is_some p ≡ true → IfSome p (IsPlanOf s k) → k.history.calls + 1 < 2 ^ 64 → ExchangesAsPlanned p (Some x) v c (Ok r) → is_failing s x k ≡ false
exchange_done s k c r x v None told plan n h = absurd (true≢false (sym told))
exchange_done s k c r x v (Some y) told plan n h = fails_as s k y x false plan n h.fails

answers_show : (s : Script) (k : Kept) (a : ℕ) (c : CommandValue) (r : ResponseValue) (w v : Option World) (p : Option Plan) → ToldWith w p → IfSome p (IsPlanOf s k) → k.history.calls + 1 < 2 ^ 64 → ExchangesAsPlanned p w v c (Ok r) → Answers w v c r → IfSome w (λ x. (v ≡ Some (world_after (line.Exchange a c r) x)) × (is_told s x k (line.Exchange a c r) ≡ true))
answers_show s k a c r None v p told plan n e h = tt
answers_show s k a c r (Some x) v p told plan n e h = (h.world, answered_told s k a c r x (exchange_done s k c r x v p (told refl) plan n e) h.inside h.response)

pub exchange_played : (s : Script) (k : Kept) (a : ℕ) (c : CommandValue) (r : ResponseValue) (w v : Option World) (p q : Option Plan) → ToldWith w p → IfSome p (IsPlanOf s k) → k.history.calls + 1 < 2 ^ 64 → StaysTold w v → StaysTold p q → Counts p q → ExchangesAsPlanned p w v c (Ok r) → Answers w v c r → IsPlayed s k (line.Exchange a c r) w v p q
exchange_played s k a c r w v p q told plan n tells tells_plan count planned answers = record {
  tells = tells;
  tells_plan = tells_plan;
  shows = answers_show s k a c r w v p told plan n planned answers;
  counts = counts_call s k (line.Exchange a c r) p q refl plan n count;
}

-- ---- an exchange that failed, to a card that is there: it acted where the plan says so

flag-same : (b : Bool) → same_flag b b ≡ true
flag-same true = refl
flag-same false = refl

acts_there : (s : Script) (k : Kept) (x : World) → is_some (card_inside x) ≡ true → is_acting s x k ≡ acted_of (next_fault s k)
acts_there s k x inside = ap (λ (b : Bool). acted_of (next_fault s k) && b) inside ∙ with_true (acted_of (next_fault s k))
  where
    with_true : (b : Bool) → (b && true) ≡ b
    with_true true = refl
    with_true false = refl

failed_told : (s : Script) (k : Kept) (a : ℕ) (c : CommandValue) (acted : Bool) (x : World) → is_failing s x k ≡ true → is_some (card_inside x) ≡ true → acted ≡ acted_of (next_fault s k) → is_told s x k (line.Failed a c acted) ≡ true
failed_told s k a c acted x fails inside flag =
    let acts : acted ≡ is_acting s x k = flag ∙ sym (acts_there s k x inside) in
    let same : same_flag acted (is_acting s x k) ≡ true = subst (λ (b : Bool). same_flag acted b ≡ true) acts (flag-same acted) in
    both (is_some (card_inside x)) (is_failing s x k && same_flag acted (is_acting s x k)) inside (both (is_failing s x k) (same_flag acted (is_acting s x k)) fails same)

-- what such an exchange leaves
left_by : (a : ℕ) (c : CommandValue) (acted : Bool) (x : World) → (if acted then (step x c).0 else x) ≡ world_after (line.Failed a c acted) x
left_by a c true x = refl
left_by a c false x = refl

failed_shows : (s : Script) (k : Kept) (a : ℕ) (c : CommandValue) (acted : Bool) (e : SlotFault) (x : World) (v : Option World) (p : Plan) → IsPlanOf s k p → k.history.calls + 1 < 2 ^ 64 → PlannedExchange {T = ResponseValue} (fault_of_plan p) x v c (Err e) → is_some (card_inside x) ≡ true → acted ≡ acted_of (next_fault s k) → (v ≡ Some (world_after (line.Failed a c acted) x)) × (is_told s x k (line.Failed a c acted) ≡ true)
failed_shows s k a c acted e x v p plan n h inside flag =
    let same : acted_of (fault_of_plan p) ≡ acted = ap acted_of (same_fault s k p plan n) ∙ sym flag in (
      h.left ∙ ap (λ (b : Bool). Some (if b then (step x c).0 else x)) same ∙ ap (λ (y : World). Some y) (left_by a c acted x),
      failed_told s k a c acted x (fails_as s k p x true plan n h.fails) inside flag,
    )

fails_show : (s : Script) (k : Kept) (a : ℕ) (c : CommandValue) (acted : Bool) (e : SlotFault) (w v : Option World) (p : Option Plan) → ToldWith w p → IfSome p (IsPlanOf s k) → k.history.calls + 1 < 2 ^ 64 → ExchangesAsPlanned {T = ResponseValue} p w v c (Err e) → IfSome w (λ x. is_some (card_inside x) ≡ true) → acted ≡ acted_of (next_fault s k) → IfSome w (λ x. (v ≡ Some (world_after (line.Failed a c acted) x)) × (is_told s x k (line.Failed a c acted) ≡ true))
fails_show s k a c acted e None v p told plan n h inside flag = tt
fails_show s k a c acted e (Some x) v None told plan n h inside flag = absurd (true≢false (sym (told refl)))
fails_show s k a c acted e (Some x) v (Some y) told plan n h inside flag = failed_shows s k a c acted e x v y plan n h inside flag

pub failed_played : (s : Script) (k : Kept) (a : ℕ) (c : CommandValue) (acted : Bool) (e : SlotFault) (w v : Option World) (p q : Option Plan) → ToldWith w p → IfSome p (IsPlanOf s k) → k.history.calls + 1 < 2 ^ 64 → StaysTold w v → StaysTold p q → Counts p q → ExchangesAsPlanned {T = ResponseValue} p w v c (Err e) → IfSome w (λ x. is_some (card_inside x) ≡ true) → acted ≡ acted_of (next_fault s k) → IsPlayed s k (line.Failed a c acted) w v p q
failed_played s k a c acted e w v p q told plan n tells tells_plan count planned inside flag = record {
  tells = tells;
  tells_plan = tells_plan;
  shows = fails_show s k a c acted e w v p told plan n planned inside flag;
  counts = counts_call s k (line.Failed a c acted) p q refl plan n count;
}

-- ---- a reset, and one that failed

reset_done : (s : Script) (k : Kept) (r : Result (Unit {0}) SlotFault) (b : Bool) (x : World) (v : Option World) (p : Option Plan) → is_some p ≡ true → IfSome p (IsPlanOf s k) → k.history.calls + 1 < 2 ^ 64 → ResetsAsPlanned p (Some x) v r → is_err r ≡ b → is_failing s x k ≡ b
reset_done s k r b x v None told plan n h e = absurd (true≢false (sym told))
reset_done s k r b x v (Some y) told plan n h e = fails_as s k y x b plan n (sym e ∙ h.fails)

reset_shows : (s : Script) (k : Kept) (a : ℕ) (w v : Option World) (p : Option Plan) → ToldWith w p → IfSome p (IsPlanOf s k) → k.history.calls + 1 < 2 ^ 64 → ResetsAsPlanned {T = Unit {0}} p w v (Ok tt) → Resets w v → IfSome w (λ x. (v ≡ Some (world_after (line.Reset a) x)) × (is_told s x k (line.Reset a) ≡ true))
reset_shows s k a None v p told plan n h g = tt
reset_shows s k a (Some x) v p told plan n h g = (g.world, ap not (reset_done s k (Ok tt) false x v p (told refl) plan n h refl))

pub reset_played : (s : Script) (k : Kept) (a : ℕ) (w v : Option World) (p q : Option Plan) → ToldWith w p → IfSome p (IsPlanOf s k) → k.history.calls + 1 < 2 ^ 64 → StaysTold w v → StaysTold p q → Counts p q → ResetsAsPlanned {T = Unit {0}} p w v (Ok tt) → Resets w v → IsPlayed s k (line.Reset a) w v p q
reset_played s k a w v p q told plan n tells tells_plan count planned resets = record {
  tells = tells;
  tells_plan = tells_plan;
  shows = reset_shows s k a w v p told plan n planned resets;
  counts = counts_call s k (line.Reset a) p q refl plan n count;
}

reset_left : (e : SlotFault) (x : World) (v : Option World) (p : Option Plan) → is_some p ≡ true → ResetsAsPlanned {T = Unit {0}} p (Some x) v (Err e) → v ≡ Some x
reset_left e x v None told h = absurd (true≢false (sym told))
reset_left e x v (Some y) told h = h.left

reset_failed_shows : (s : Script) (k : Kept) (a : ℕ) (e : SlotFault) (w v : Option World) (p : Option Plan) → ToldWith w p → IfSome p (IsPlanOf s k) → k.history.calls + 1 < 2 ^ 64 → ResetsAsPlanned {T = Unit {0}} p w v (Err e) → IfSome w (λ x. (v ≡ Some (world_after (line.ResetFailed a) x)) × (is_told s x k (line.ResetFailed a) ≡ true))
reset_failed_shows s k a e None v p told plan n h = tt
reset_failed_shows s k a e (Some x) v p told plan n h = (reset_left e x v p (told refl) h, reset_done s k (Err e) true x v p (told refl) plan n h refl)

pub reset_failed_played : (s : Script) (k : Kept) (a : ℕ) (e : SlotFault) (w v : Option World) (p q : Option Plan) → ToldWith w p → IfSome p (IsPlanOf s k) → k.history.calls + 1 < 2 ^ 64 → StaysTold w v → StaysTold p q → Counts p q → ResetsAsPlanned {T = Unit {0}} p w v (Err e) → IsPlayed s k (line.ResetFailed a) w v p q
reset_failed_played s k a e w v p q told plan n tells tells_plan count planned = record {
  tells = tells;
  tells_plan = tells_plan;
  shows = reset_failed_shows s k a e w v p told plan n planned;
  counts = counts_call s k (line.ResetFailed a) p q refl plan n count;
}

-- ---- an event of the world

allowed : (o : Option WorldRefusal) → IsResultOf o (Ok tt) → is_none o ≡ true
allowed None h = refl
allowed (Some e) h = absurd (cc)

event_shows : (s : Script) (k : Kept) (a : ℕ) (e : WorldEvent) (w v : Option World) → Happens w v e → IsRefused w e (Ok tt) → IfSome w (λ x. (v ≡ Some (world_after (line.World a e) x)) × (is_told s x k (line.World a e) ≡ true))
event_shows s k a e None v h r = tt
event_shows s k a e (Some x) v h r = (h, allowed (refusal_of x e) r)

counts_same : (l : Line) (p q : Option Plan) → q ≡ p → is_call l ≡ false → IfSome p (λ x. q ≡ Some (record { faults = x.faults; calls = counted (is_call l) x.calls }))
counts_same l None q e c = tt
counts_same l (Some x) q e c = rw c e

pub event_played : (s : Script) (k : Kept) (a : ℕ) (e : WorldEvent) (w v : Option World) (p q : Option Plan) → StaysTold w v → q ≡ p → Happens w v e → IsRefused w e (Ok tt) → IsPlayed s k (line.World a e) w v p q
event_played s k a e w v p q tells same h r = record {
  tells = tells;
  tells_plan = ap is_some same;
  shows = event_shows s k a e w v h r;
  counts = counts_same (line.World a e) p q same refl;
}
