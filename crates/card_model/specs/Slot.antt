-- What a slot that tells its world says of its calls.
use Rattle.std.specs.Prelude.{◌≡◌, ◌⊎◌, ℕ, ◌+◌, ◌-◌, ◌^◌, min, ◌==◌, ◌||◌, Bool, true, false, nat_lt, is_some, is_none, List, length, find, Option, Some, None, option_map, Result, Ok, Err, IfSome, OnErr, is_err, IsTrue, if◌then◌else◌}
use Rattle.apdu.specs.Values.{CommandValue, ResponseValue}
use Rattle.card_model.specs.declared.world.World.{World}
use Rattle.card_model.specs.declared.world.CardState.{CardState}
use Rattle.card_model.specs.declared.world.Fault.{Fault}
use Rattle.card_model.specs.declared.world.WorldEvent.{WorldEvent}
use Rattle.card_model.specs.declared.world.WorldEvent.TheVariants.{Arm, Out, Insert}
use Rattle.card_model.specs.declared.slot.SlotFault.{SlotFault}
use Rattle.card_model.specs.declared.slot.WorldRefusal.{WorldRefusal}
use Rattle.card_model.specs.declared.slot.WorldRefusal.TheVariants.{SlotEmpty, SlotFull, ArmFull, NoImage, NoChange}
use Rattle.card_model.specs.Step.{step, after_event, after_reset, card_inside}

-- ---- what is told

-- what is told stays told, and what is not told never comes to be
abbrev pub StaysTold : {X : Type 0} → Option X → Option X → Type 0
StaysTold old new = is_some new ≡ is_some old

-- where the first is told, so is the second
abbrev pub ToldWith : {X Y : Type 0} → Option X → Option Y → Type 0
ToldWith first second = IsTrue (is_some first) → IsTrue (is_some second)

-- ---- exchanges and resets

-- the slot holds a card, which made this step to the new world and gave this response
pub record AnswersAt (w : World) (new : Option World) (c : CommandValue) (r : ResponseValue) : Type 0 where
  pub inside : IsTrue (is_some (card_inside w))
  pub world : new ≡ Some (step w c).0
  pub response : r ≡ (step w c).1

abbrev pub Answers : Option World → Option World → CommandValue → ResponseValue → Type 0
Answers old new c r = IfSome old (λ w. AnswersAt w new c r)

-- an exchange that failed: the card acted or not
abbrev pub MayHaveActed : Option World → Option World → CommandValue → Type 0
MayHaveActed old new c = IfSome old (λ w. (new ≡ Some w) ⊎ (new ≡ Some (step w c).0))

-- the slot holds a card, which is reset
pub record ResetsAt (w : World) (new : Option World) : Type 0 where
  pub inside : IsTrue (is_some (card_inside w))
  pub world : new ≡ Some (after_reset w)

abbrev pub Resets : Option World → Option World → Type 0
Resets old new = IfSome old (λ w. ResetsAt w new)

abbrev pub MayHaveReset : Option World → Option World → Type 0
MayHaveReset old new = IfSome old (λ w. (new ≡ Some w) ⊎ (new ≡ Some (after_reset w)))

-- ---- planned faults

-- the calls that fail, and how many calls of exchange and reset there were
pub record Plan : Type 0 where
  pub faults : List Fault
  pub calls : ℕ

-- a number goes up by one, up to the last value of a u64
abbrev pub one_more : ℕ → ℕ
one_more n = min (n + 1) (2 ^ 64 - 1)

-- a call is counted, and the fault list stays
abbrev pub Counts : Option Plan → Option Plan → Type 0
Counts old new = IfSome old (λ p. new ≡ Some (record { faults = p.faults; calls = one_more p.calls }))

-- the fault of a call number
abbrev pub fault_at : ℕ → List Fault → Option Fault
fault_at call faults = find (λ (f : Fault). f.at == call) faults

-- the fault of the next call
abbrev pub next_fault : Plan → Option Fault
next_fault p = fault_at (one_more p.calls) p.faults

abbrev pub acted_of : Option Fault → Bool
acted_of None = false
acted_of (Some f) = f.acted

-- the call fails exactly where a fault is planned or the slot is empty
abbrev pub fails_at : Option Fault → World → Bool
fails_at fault w = is_some fault || is_none (card_inside w)

-- a failed exchange leaves the step's world exactly where the fault says that the card acted; on an empty slot that is the old one
pub record PlannedExchange {T : Type 0} (fault : Option Fault) (w : World) (new : Option World) (c : CommandValue) (result : Result T SlotFault) : Type 0 where
  pub fails : is_err result ≡ fails_at fault w
  pub left : OnErr result (new ≡ Some (if acted_of fault then (step w c).0 else w))

abbrev pub ExchangesAsPlanned : {T : Type 0} → Option Plan → Option World → Option World → CommandValue → Result T SlotFault → Type 0
ExchangesAsPlanned plan old new c result = IfSome plan (λ p. IfSome old (λ w. PlannedExchange (next_fault p) w new c result))

-- a failed reset changes nothing
pub record PlannedReset {T : Type 0} (fault : Option Fault) (w : World) (new : Option World) (result : Result T SlotFault) : Type 0 where
  pub fails : is_err result ≡ fails_at fault w
  pub left : OnErr result (new ≡ Some w)

abbrev pub ResetsAsPlanned : {T : Type 0} → Option Plan → Option World → Option World → Result T SlotFault → Type 0
ResetsAsPlanned plan old new result = IfSome plan (λ p. IfSome old (λ w. PlannedReset (next_fault p) w new result))

-- ---- world events

abbrev pub Happens : Option World → Option World → WorldEvent → Type 0
Happens old new e = IfSome old (λ w. new ≡ Some (after_event w e))

-- how many changes are armed on the card, where there is one
abbrev pub armed_count : Option CardState → Option ℕ
armed_count card = option_map (λ (k : CardState). length k.armed) card

-- no change of this number; no card in the slot; no room for a further armed change
abbrev pub arm_refusal : Bool → Option ℕ → ℕ → Option WorldRefusal
arm_refusal false armed i = Some (NoChange i)
arm_refusal true None i = Some SlotEmpty
arm_refusal true (Some n) i = if nat_lt n 64 then None else Some ArmFull

-- no card of this number; a card in the slot already
abbrev pub insert_refusal : Bool → Bool → ℕ → Option WorldRefusal
insert_refusal false full j = Some (NoImage j)
insert_refusal true true j = Some SlotFull
insert_refusal true false j = None

abbrev pub out_refusal : Bool → Option WorldRefusal
out_refusal true = None
out_refusal false = Some SlotEmpty

-- why the event cannot happen, if so; the number is tested first
abbrev pub refusal_of : World → WorldEvent → Option WorldRefusal
refusal_of w (Arm i) = arm_refusal (nat_lt i (length w.changes)) (armed_count (card_inside w)) i
refusal_of w Out = out_refusal (is_some (card_inside w))
refusal_of w (Insert j) = insert_refusal (nat_lt j (length w.cards)) (is_some (card_inside w)) j

abbrev pub IsResultOf : Option WorldRefusal → Result (Unit {0}) WorldRefusal → Type 0
IsResultOf None r = r ≡ Ok tt
IsResultOf (Some e) r = r ≡ Err e

-- the event is refused exactly where it has to be
abbrev pub IsRefused : Option World → WorldEvent → Result (Unit {0}) WorldRefusal → Type 0
IsRefused old e r = IfSome old (λ w. IsResultOf (refusal_of w e) r)
