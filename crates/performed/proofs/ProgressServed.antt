-- The operations of a script.
use Rattle.std.proofs.Common.{◌≡◌, ℕ, zero, suc, true, List, [], ◌∷◌, Some, refl, subst}
use Rattle.std.specs.Prelude.{slice_get, unwrap_or}
use Rattle.std.specs.List.{list_all}
use Rattle.std.proofs.lemmas.Bool.{and_parts}
use Rattle.script_reader.specs.declared.types.Script.{Script}
use Rattle.script_reader.specs.declared.types.Operation.{Operation}
use Rattle.rules.specs.Kept.{operation_at}
use Rattle.performed.specs.Names.{has_utf8_name, has_utf8_names}

one_served : (ops : List Operation) (i : ℕ) (op : Operation) → list_all has_utf8_name ops ≡ true → slice_get ops i ≡ Some op → has_utf8_name op ≡ true
one_served [] i op h e = absurd (cc)
one_served (x ∷ ops) zero op h e = let same : x ≡ op = cc in subst (λ (o : Operation). has_utf8_name o ≡ true) same (and_parts (has_utf8_name x) (list_all has_utf8_name ops) h).0
one_served (x ∷ ops) (suc i) op h e = one_served ops i op (and_parts (has_utf8_name x) (list_all has_utf8_name ops) h).1 e

actor_served : (xs : List (List Operation)) (a : ℕ) → list_all (list_all has_utf8_name) xs ≡ true → list_all has_utf8_name (unwrap_or (slice_get xs a) []) ≡ true
actor_served [] a h = refl
actor_served (ops ∷ xs) zero h = (and_parts (list_all has_utf8_name ops) (list_all (list_all has_utf8_name) xs) h).0
actor_served (ops ∷ xs) (suc a) h = actor_served xs a (and_parts (list_all has_utf8_name ops) (list_all (list_all has_utf8_name) xs) h).1

pub served_at : (s : Script) (actor i : ℕ) (op : Operation) → has_utf8_names s ≡ true → operation_at s actor i ≡ Some op → has_utf8_name op ≡ true
served_at s zero i op h e = absurd (cc)
served_at s (suc a) i op h e = one_served (unwrap_or (slice_get s.actors a) []) i op (actor_served s.actors a h) e
