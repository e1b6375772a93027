-- Whose turn it is: the schedule's, and then round from the framework on.
use Rattle.std.proofs.Common.{◌≡◌, ℕ, ◌+◌, ◌-◌, ◌*◌, ◌%◌, ◌≤◌, ◌&&◌, true, nat_le, zero, suc, List, [], ◌∷◌, length, Option, Some, refl, ap, sym, ◌∙◌, subst, arith}
use Rattle.std.specs.Prelude.{slice_get}
use Rattle.std.specs.List.{list_all}
use Rattle.std.proofs.lemmas.Bool.{and_parts, leb-true}
use Rattle.std.proofs.lemmas.Nat.{mod-mul-add}
use Rattle.std.proofs.lemmas.Option.{slice_get_past}
use Rattle.apdu.specs.Words.{is_between}
use Rattle.script_reader.specs.Operations.{operation_count, is_actor}
use Rattle.script_reader.specs.declared.types.Script.{Script}
use Rattle.script_reader.specs.Rules.{is_turn, keeps_rules}
use Rattle.script_reader.proofs.RulesKept.{kept_rules}
use Rattle.rules.specs.Kept.{actor_count}
use Rattle.rules.specs.Rules.{scheduled_actor, scheduled_or}
use Rattle.replay.specs.Rounds.{AreRounds}

-- ---- the schedule

all_known : (actors : ℕ) (turns : List ℕ) (n a : ℕ) → list_all (is_turn actors) turns ≡ true → slice_get turns n ≡ Some a → a ≤ actors
all_known actors [] n a h e = absurd (cc)
all_known actors (turn ∷ turns) zero a h e =
    let same : turn ≡ a = cc in
    subst (λ (x : ℕ). x ≤ actors) same (leb-true turn actors (and_parts (is_turn actors turn) (list_all (is_turn actors) turns) h).0)
all_known actors (turn ∷ turns) (suc n) a h e = all_known actors turns n a (and_parts (is_turn actors turn) (list_all (is_turn actors) turns) h).1 e

pub known_in_schedule : (s : Script) (n a : ℕ) → keeps_rules s ≡ true → slice_get s.schedule n ≡ Some a → a ≤ actor_count s
known_in_schedule s n a rules e = all_known (length s.actors) s.schedule n a (and_parts (nat_le (length s.schedule) 10000) (list_all (is_turn (length s.actors)) s.schedule) (kept_rules s rules).schedule).1 e

pub scheduled_first : (s : Script) (n m a : ℕ) → slice_get s.schedule n ≡ Some a → m ≡ n → a ≡ scheduled_actor s m
scheduled_first s n m a e same = rw (same, e) refl

-- ---- rounds

pub scheduled_round : (s : Script) (start n a : ℕ) → AreRounds s start → n ≡ start + a → a ≤ actor_count s → a ≡ scheduled_actor s n
scheduled_round s start n a h is known =
    let count = h.count in
    let past : length s.schedule ≤ n = omega arith in
    let behind : n - length s.schedule ≡ h.rounds * (actor_count s + 1) + a = omega arith in
    sym (ap (λ (o : Option ℕ). scheduled_or o ((n - length s.schedule) % (actor_count s + 1))) (slice_get_past s.schedule n past)
    ∙ ap (λ (m : ℕ). m % (actor_count s + 1)) behind
    ∙ mod-mul-add h.rounds (actor_count s + 1) a (omega arith))

pub rounds_begin : (s : Script) (n : ℕ) → n ≡ length s.schedule → AreRounds s n
rounds_begin s n is = record { rounds = 0; count = omega arith }

pub round_more : (s : Script) (start n : ℕ) → AreRounds s start → n ≡ start + (actor_count s + 1) → AreRounds s n
round_more s start n h is = let count = h.count in record { rounds = h.rounds + 1; count = omega arith }

-- ---- actors

pub few_actors : (s : Script) → keeps_rules s ≡ true → actor_count s ≤ 8
few_actors s rules =
    let each = list_all (is_actor (length s.cards) (length s.changes)) s.actors in
    let few = is_between 1 8 (length s.actors) in
    let count = nat_le (operation_count s.actors) 1000 in
    let counts = (and_parts (few && count) each (kept_rules s rules).actors).0 in
    leb-true (length s.actors) 8 (and_parts (nat_le 1 (length s.actors)) (nat_le (length s.actors) 8) (and_parts few count counts).0).1
