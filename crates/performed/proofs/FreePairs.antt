-- In a script that keeps its rules each open of a reference is followed by one close of it before the next open.
use Rattle.std.proofs.Common.{◌≡◌, ℕ, zero, suc, ◌+◌, ◌==◌, ◌&&◌, Bool, true, false, if◌then◌else◌, List, [], ◌∷◌, length, drop, Some, refl, sym, ap, subst, arith, true≢false}
use Rattle.std.specs.Prelude.{nat_le, slice_get, unwrap_or}
use Rattle.std.specs.List.{list_all}
use Rattle.std.proofs.lemmas.Bool.{and_parts}
use Rattle.apdu.specs.Words.{is_between}
use Rattle.script_reader.specs.declared.types.Script.{Script}
use Rattle.script_reader.specs.declared.types.Operation.{Operation}
use Rattle.script_reader.specs.declared.types.Operation.TheVariants as operation
use Rattle.script_reader.specs.Pairing.{opens, closes, ends_before_next, ends_once, is_given_back, are_given_back, is_watching_once, are_paired}
use Rattle.script_reader.specs.Operations.{has_form, is_operation_within, has_target, is_actor, operation_count}
use Rattle.script_reader.specs.Rules.{cards_keep_rules, changes_keep_rules, actors_keep_rules, schedule_keeps_rules, faults_keep_rules, budget_keeps_rules, keeps_rules}
use Rattle.rules.specs.Kept.{operations_of, operation_at}

-- ---- operations from one on

pub drop_at : (ops : List Operation) (n : ℕ) (op : Operation) → slice_get ops n ≡ Some op → drop n ops ≡ op ∷ drop (suc n) ops
drop_at [] n op e = absurd (cc)
drop_at (x ∷ ops) zero op e = let same : x ≡ op = cc in ap (λ (y : Operation). y ∷ ops) same
drop_at (x ∷ ops) (suc n) op e = drop_at ops n op e

given_back_at : (ops : List Operation) (n : ℕ) (op : Operation) → are_given_back ops ≡ true → slice_get ops n ≡ Some op → is_given_back op (drop (suc n) ops) ≡ true
given_back_at [] n op g e = absurd (cc)
given_back_at (x ∷ ops) zero op g e = let same : x ≡ op = cc in subst (λ (y : Operation). is_given_back y ops ≡ true) same (and_parts (is_given_back x ops) (are_given_back ops) g).0
given_back_at (x ∷ ops) (suc n) op g e = given_back_at ops n op (and_parts (is_given_back x ops) (are_given_back ops) g).1 e

-- ---- one close before the next open

abbrev pub closes_once : ℕ → List Operation → Bool
closes_once ref later = ends_once (opens ref) (closes ref) later

nothing_added : (n : ℕ) → 0 + n ≡ n
nothing_added n = omega arith

by_kind : (b c : Bool) (n : ℕ) → ((if b then 0 else (if c then 1 else 0) + n) == 1) ≡ true → c ≡ false → (n == 1) ≡ true
by_kind true c n h e = absurd (true≢false (sym h))
by_kind false true n h e = absurd (true≢false e)
by_kind false false n h e = subst (λ (m : ℕ). (m == 1) ≡ true) (nothing_added n) h

-- it is still to come behind an operation that is not it
pub closes_later : (ref : ℕ) (op : Operation) (later : List Operation) → closes_once ref (op ∷ later) ≡ true → closes ref op ≡ false → closes_once ref later ≡ true
closes_later ref op later h e = by_kind (opens ref op) (closes ref op) (ends_before_next (opens ref) (closes ref) later) h e

opens_first : (b : Bool) (n : ℕ) → b ≡ true → ((if b then 0 else n) == 1) ≡ false
opens_first true n e = refl
opens_first false n e = absurd (true≢false (sym e))

itself : (n : ℕ) → (n == n) ≡ true
itself n = grind arith

-- none comes before an open
pub open_before : (ref : ℕ) (aid : List ℕ) (later : List Operation) → closes_once ref (operation.OpenChannel ref aid ∷ later) ≡ false
open_before ref aid later = opens_first (ref == ref) (0 + ends_before_next (opens ref) (closes ref) later) (itself ref)

-- ---- the operations of a script

actor_paired : (cards changes : ℕ) (ops : List Operation) → is_actor cards changes ops ≡ true → are_given_back ops ≡ true
actor_paired cards changes ops h =
    let p = and_parts (list_all has_form ops && list_all is_operation_within ops && list_all (has_target cards changes) ops) (are_paired ops) h in
    (and_parts (are_given_back ops) (is_watching_once false ops) p.1).0

place_paired : (cards changes : ℕ) (actors : List (List Operation)) (a : ℕ) → list_all (is_actor cards changes) actors ≡ true → are_given_back (unwrap_or (slice_get actors a) []) ≡ true
place_paired cards changes [] a h = refl
place_paired cards changes (ops ∷ actors) zero h = actor_paired cards changes ops (and_parts (is_actor cards changes ops) (list_all (is_actor cards changes) actors) h).0
place_paired cards changes (ops ∷ actors) (suc a) h = place_paired cards changes actors a (and_parts (is_actor cards changes ops) (list_all (is_actor cards changes) actors) h).1

actors_keep : (s : Script) → keeps_rules s ≡ true → list_all (is_actor (length s.cards) (length s.changes)) s.actors ≡ true
actors_keep s h =
    let version = s.version == 1 in
    let cards = cards_keep_rules s.cards in
    let changes = changes_keep_rules s.changes in
    let actors = actors_keep_rules (length s.cards) (length s.changes) s.actors in
    let schedule = schedule_keeps_rules (length s.actors) s.schedule in
    let faults = faults_keep_rules s.faults in
    let q1 = and_parts (version && cards && changes && actors && schedule && faults) (budget_keeps_rules s.budget) h in
    let q2 = and_parts (version && cards && changes && actors && schedule) faults q1.0 in
    let q3 = and_parts (version && cards && changes && actors) schedule q2.0 in
    let q4 = and_parts (version && cards && changes) actors q3.0 in
    (and_parts (is_between 1 8 (length s.actors) && nat_le (operation_count s.actors) 1000) (list_all (is_actor (length s.cards) (length s.changes)) s.actors) q4.1).1

operations_paired : (s : Script) → keeps_rules s ≡ true → (a : ℕ) → are_given_back (operations_of s a) ≡ true
operations_paired s h zero = refl
operations_paired s h (suc a) = place_paired (length s.cards) (length s.changes) s.actors a (actors_keep s h)

-- what an actor opens it closes
pub closed_at : (s : Script) → keeps_rules s ≡ true → (a i ref : ℕ) (aid : List ℕ) → operation_at s a i ≡ Some (operation.OpenChannel ref aid) → closes_once ref (drop (suc i) (operations_of s a)) ≡ true
closed_at s h a i ref aid e = given_back_at (operations_of s a) i (operation.OpenChannel ref aid) (operations_paired s h a) e
