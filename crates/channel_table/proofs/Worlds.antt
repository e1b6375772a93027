-- The card in the slot behind an exchange.
use Rattle.std.proofs.Common.{◌≡◌, ℕ, zero, suc, ◌==◌, true, ◌&&◌, Option, Some, None, List, [], ◌∷◌, refl, ap, sym, ◌∙◌, is_some, true≢false}
use Rattle.std.specs.Prelude.{slice_get, slice_set, option_and_then, option_map, IsTrue}
use Rattle.std.proofs.lemmas.Bool.{and_parts, eqb-true}
use Rattle.apdu.specs.Values.{CommandValue, ResponseValue}
use Rattle.apdu.specs.Words.{same_bytes, same_number}
use Rattle.apdu.specs.Apdu.{same_command}
use Rattle.card_model.specs.declared.world.CardState.{CardState}
use Rattle.card_model.specs.declared.world.World.{World}
use Rattle.card_model.specs.Slot.{AnswersAt}
use Rattle.card_model.specs.Step.{on_card, card_inside, step, step_of_place, step_of_card}
use Rattle.card_effects.proofs.Same.{same_bytes_is}

pub some_is : {X : Type 0} (x y : X) → Some x ≡ Some y → x ≡ y
some_is x y h = cc

pub first_is : {X Y : Type 0} (a : X) (xs : Y) (b : X) (ys : Y) → ◌≡◌ {A = Option (X × Y)} (Some (a, xs)) (Some (b, ys)) → a ≡ b
first_is {X} {Y} a xs b ys h = some_is a b (ap (option_map (λ (z : X × Y). z.0)) h)

pub rest_is : {X Y : Type 0} (a : X) (xs : Y) (b : X) (ys : Y) → ◌≡◌ {A = Option (X × Y)} (Some (a, xs)) (Some (b, ys)) → xs ≡ ys
rest_is {X} {Y} a xs b ys h = some_is xs ys (ap (option_map (λ (z : X × Y). z.1)) h)

-- ---- the same command

same_number_is : (a b : Option ℕ) → same_number a b ≡ true → a ≡ b
same_number_is None None h = refl
same_number_is None (Some b) h = absurd (cc)
same_number_is (Some a) None h = absurd (cc)
same_number_is (Some a) (Some b) h = ap (λ n. Some n) (eqb-true a b h)

pub same_command_is : (a b : CommandValue) → same_command a b ≡ true → a ≡ b
same_command_is a b h =
    let make : ℕ → ℕ → ℕ → ℕ → List ℕ → Option ℕ → CommandValue = λ class ins p1 p2 body le. record { class = class; ins = ins; p1 = p1; p2 = p2; body = body; le = le } in
    let q1 = and_parts ((a.class == b.class) && (a.ins == b.ins) && (a.p1 == b.p1) && (a.p2 == b.p2) && same_bytes a.body b.body) (same_number a.le b.le) h in
    let q2 = and_parts ((a.class == b.class) && (a.ins == b.ins) && (a.p1 == b.p1) && (a.p2 == b.p2)) (same_bytes a.body b.body) q1.0 in
    let q3 = and_parts ((a.class == b.class) && (a.ins == b.ins) && (a.p1 == b.p1)) (a.p2 == b.p2) q2.0 in
    let q4 = and_parts ((a.class == b.class) && (a.ins == b.ins)) (a.p1 == b.p1) q3.0 in
    let q5 = and_parts (a.class == b.class) (a.ins == b.ins) q4.0 in
    let e1 : a.class ≡ b.class = eqb-true a.class b.class q5.0 in
    let e2 : a.ins ≡ b.ins = eqb-true a.ins b.ins q5.1 in
    let e3 : a.p1 ≡ b.p1 = eqb-true a.p1 b.p1 q4.1 in
    let e4 : a.p2 ≡ b.p2 = eqb-true a.p2 b.p2 q3.1 in
    let e5 : a.body ≡ b.body = same_bytes_is a.body b.body q2.1 in
    let e6 : a.le ≡ b.le = same_number_is a.le b.le q1.1 in
    let whole : make a.class a.ins a.p1 a.p2 a.body a.le ≡ make b.class b.ins b.p1 b.p2 b.body b.le = cc in whole

-- ---- the step of the card in the slot

get_set : {X : Type 0} (xs : List X) (j : ℕ) (x y : X) → slice_get xs j ≡ Some x → slice_get (slice_set xs j y) j ≡ Some y
get_set [] j x y h = absurd (cc)
get_set (z ∷ xs) zero x y h = refl
get_set (z ∷ xs) (suc j) x y h = get_set xs j x y h

steps_at : (w : World) (j : ℕ) (card : CardState) (c : CommandValue) → slice_get w.cards j ≡ Some card → (o : Option CardState) → slice_get w.cards j ≡ o → w.inside ≡ Some j → (card_inside (step_of_card w j o c).0 ≡ Some (on_card w.changes card c).0) × ((step_of_card w j o c).1 ≡ (on_card w.changes card c).1)
steps_at w j card c h None e i = absurd (cc)
steps_at w j card c h (Some k) e i = let same : k ≡ card = cc in rw (i, same) (get_set w.cards j card (on_card w.changes card c).0 h, refl)

steps_in : (w : World) (card : CardState) (c : CommandValue) (o : Option ℕ) → w.inside ≡ o → option_and_then (λ j. slice_get w.cards j) o ≡ Some card → (card_inside (step_of_place w o c).0 ≡ Some (on_card w.changes card c).0) × ((step_of_place w o c).1 ≡ (on_card w.changes card c).1)
steps_in w card c None i h = absurd (cc)
steps_in w card c (Some j) i h = steps_at w j card c h (slice_get w.cards j) refl i

steps_card : (w : World) (card : CardState) (c : CommandValue) → card_inside w ≡ Some card → (card_inside (step w c).0 ≡ Some (on_card w.changes card c).0) × ((step w c).1 ≡ (on_card w.changes card c).1)
unfolding step
steps_card w card c h = steps_in w card c w.inside refl h

-- the card in the slot behind an exchange that was answered
pub record Behind (w : World) (card : CardState) (c : CommandValue) (r : ResponseValue) (new : Option World) : Type 0 where
  pub world : World
  pub told : new ≡ Some world
  pub inside : card_inside world ≡ Some (on_card w.changes card c).0
  pub response : r ≡ (on_card w.changes card c).1

pub behind : (w : World) (card : CardState) (c : CommandValue) (r : ResponseValue) (new : Option World) → card_inside w ≡ Some card → AnswersAt w new c r → Behind w card c r new
behind w card c r new inside a =
    let q = steps_card w card c inside in
    record { world = (step w c).0; told = a.world; inside = q.0; response = a.response ∙ q.1 }

pub there : (o : Option CardState) → IsTrue (is_some o) → (card : CardState) × (o ≡ Some card)
there None h = absurd (true≢false (sym h))
there (Some card) h = (card, refl)
