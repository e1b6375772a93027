-- The watches that a script asks for.
use Rattle.std.proofs.Common.{◌≡◌, ◌==◌, ◌&&◌, ◌||◌, not, ℕ, zero, suc, Bool, true, false, List, [], ◌∷◌, map, length, nat_le, Option, Some, None, refl, sym, ap, ◌∙◌, subst, true≢false}
use Rattle.std.specs.Prelude.{slice_get, option_map, unwrap_or}
use Rattle.std.specs.List.{list_all}
use Rattle.std.proofs.lemmas.Bool.{and_parts}
use Rattle.std.proofs.lemmas.Option.{slice_get-map}
use Rattle.apdu.specs.Words.{is_between, or_else}
use Rattle.script_reader.specs.declared.types.Script.{Script}
use Rattle.script_reader.specs.declared.types.Operation.{Operation}
use Rattle.script_reader.specs.declared.types.Operation.TheVariants as operation
use Rattle.script_reader.specs.Pairing.{are_given_back, are_paired, is_notices, is_watch, is_watching_once}
use Rattle.script_reader.specs.Operations.{has_form, has_target, is_actor, is_operation_within, operation_count}
use Rattle.script_reader.specs.Rules.{keeps_rules, cards_keep_rules, changes_keep_rules, actors_keep_rules, schedule_keeps_rules, faults_keep_rules, budget_keeps_rules}
use Rattle.rules.specs.Kept.{operation_at}
use Rattle.watched_tracker.specs.Asked.{mask_asked, mask_of, masks_asked}

-- no watch behind a watch
never_again : (ops : List Operation) (i m : ℕ) → is_watching_once true ops ≡ true → slice_get ops i ≡ Some (operation.Watch m) → ⊥
never_again [] i m h e = absurd (cc)
never_again (op ∷ later) zero m h e =
    let same : op ≡ operation.Watch m = cc in
    true≢false (sym (subst (λ (x : Operation). is_watching_once true (x ∷ later) ≡ true) same h))
never_again (op ∷ later) (suc i) m h e =
    never_again later i m (and_parts (not (is_watch op && true) && (true || not (is_notices op))) (is_watching_once true later) h).1 e

-- so the first is that one
the_first : (ops : List Operation) (i m : ℕ) → is_watching_once false ops ≡ true → slice_get ops i ≡ Some (operation.Watch m) → mask_asked ops ≡ Some m
the_first [] i m h e = absurd (cc)
the_first (op ∷ later) zero m h e =
    let same : op ≡ operation.Watch m = cc in
    ap (λ (x : Operation). or_else (mask_of x) (mask_asked later)) same
the_first (operation.Watch n ∷ later) (suc i) m h e = absurd (never_again later i m h e)
the_first (op ∷ later) (suc i) m h e =
    the_first later i m (and_parts (not (is_watch op && false) && (false || not (is_notices op))) (is_watching_once false later) h).1 e

-- ---- the rules of a script

all_get : {A : Type 0} (p : A → Bool) (xs : List A) (i : ℕ) (x : A) → slice_get xs i ≡ Some x → list_all p xs ≡ true → p x ≡ true
all_get p [] i x e h = absurd (cc)
all_get p (y ∷ xs) zero x e h = let same : y ≡ x = cc in ap p (sym same) ∙ (and_parts (p y) (list_all p xs) h).0
all_get p (y ∷ xs) (suc i) x e h = all_get p xs i x e (and_parts (p y) (list_all p xs) h).1

actors_right : (s : Script) → keeps_rules s ≡ true → list_all (is_actor (length s.cards) (length s.changes)) s.actors ≡ true
actors_right s h =
    let version = s.version == 1 in
    let cards = cards_keep_rules s.cards in
    let changes = changes_keep_rules s.changes in
    let actors = actors_keep_rules (length s.cards) (length s.changes) s.actors in
    let schedule = schedule_keeps_rules (length s.actors) s.schedule in
    let faults = faults_keep_rules s.faults in
    let q1 = and_parts (version && cards && changes && actors && schedule && faults) (budget_keeps_rules s.budget) h in
    let q2 = and_parts (version && cards && changes && actors && schedule) faults q1.0 in
    let q3 = and_parts (version && cards && changes && actors) schedule q2.0 in
    let q4 = and_parts (version && cards && changes) actors q3.0 in
    (and_parts (is_between 1 8 (length s.actors) && nat_le (operation_count s.actors) 1000) (list_all (is_actor (length s.cards) (length s.changes)) s.actors) q4.1).1

actor_once : (cards changes : ℕ) (ops : List Operation) → is_actor cards changes ops ≡ true → is_watching_once false ops ≡ true
actor_once cards changes ops h =
    let paired = and_parts (list_all has_form ops && list_all is_operation_within ops && list_all (has_target cards changes) ops) (are_paired ops) h in
    (and_parts (are_given_back ops) (is_watching_once false ops) paired.1).1

none_there : (i : ℕ) {op : Operation} → slice_get [] i ≡ Some op → ⊥
none_there i e = absurd (cc)

-- a watch that the script has is the one that is asked for
pub asked_there : (s : Script) → keeps_rules s ≡ true → (a i m : ℕ) → operation_at s a i ≡ Some (operation.Watch m) → slice_get (masks_asked s) a ≡ Some (Some m)
asked_there s rules zero i m e = absurd (cc)
asked_there s rules (suc a) i m e = by (slice_get s.actors a) refl
  where
    by : (o : Option (List Operation)) → slice_get s.actors a ≡ o → slice_get (map mask_asked s.actors) a ≡ Some (Some m)
    by None h = absurd (none_there i (ap (λ (o : Option (List Operation)). slice_get (unwrap_or o []) i) (sym h) ∙ e))
    by (Some ops) h =
        let there : slice_get ops i ≡ Some (operation.Watch m) = ap (λ (o : Option (List Operation)). slice_get (unwrap_or o []) i) (sym h) ∙ e in
        slice_get-map mask_asked s.actors a ∙ ap (option_map mask_asked) h
        ∙ ap (λ (x : Option ℕ). Some x) (the_first ops i m (actor_once (length s.cards) (length s.changes) ops (all_get (is_actor (length s.cards) (length s.changes)) s.actors a ops h (actors_right s rules))) there)
