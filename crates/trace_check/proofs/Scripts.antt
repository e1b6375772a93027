-- What the rules of a script say of its actors.
use Rattle.std.proofs.Common.{◌≡◌, ◌≤◌, ◌&&◌, ◌==◌, true, length, nat_le, arith}
use Rattle.std.specs.List.{list_all}
use Rattle.std.proofs.lemmas.Bool.{and_parts, leb-true}
use Rattle.apdu.specs.Words.{is_between}
use Rattle.script_reader.specs.declared.types.Script.{Script}
use Rattle.script_reader.specs.Operations.{operation_count, is_actor}
use Rattle.script_reader.specs.Rules.{keeps_rules, cards_keep_rules, changes_keep_rules, actors_keep_rules, schedule_keeps_rules, faults_keep_rules, budget_keeps_rules}

pub few_actors : (s : Script) → keeps_rules s ≡ true → length s.actors ≤ 254
few_actors s h =
    let version = s.version == 1 in
    let cards = cards_keep_rules s.cards in
    let changes = changes_keep_rules s.changes in
    let actors = actors_keep_rules (length s.cards) (length s.changes) s.actors in
    let schedule = schedule_keeps_rules (length s.actors) s.schedule in
    let faults = faults_keep_rules s.faults in
    let q1 = and_parts (version && cards && changes && actors && schedule && faults) (budget_keeps_rules s.budget) h in
    let q2 = and_parts (version && cards && changes && actors && schedule) faults q1.0 in
    let q3 = and_parts (version && cards && changes && actors) schedule q2.0 in
    let q4 = and_parts (version && cards && changes) actors q3.0 in
    let q5 = and_parts (is_between 1 8 (length s.actors) && nat_le (operation_count s.actors) 1000) (list_all (is_actor (length s.cards) (length s.changes)) s.actors) q4.1 in
    let q6 = and_parts (is_between 1 8 (length s.actors)) (nat_le (operation_count s.actors) 1000) q5.0 in
    let q7 = and_parts (nat_le 1 (length s.actors)) (nat_le (length s.actors) 8) q6.0 in
    let few = leb-true (length s.actors) 8 q7.1 in
    omega arith
