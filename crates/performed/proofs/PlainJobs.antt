-- An actor of a script has answered at most 1000 operations, and dropped no more notices than there were publications.
use Rattle.std.proofs.Common.{◌≡◌, ℕ, zero, suc, ◌≤◌, ◌==◌, ◌&&◌, true, List, [], ◌∷◌, length, Some, refl, arith}
use Rattle.std.specs.Prelude.{nat_le, slice_get, unwrap_or}
use Rattle.std.specs.List.{list_all}
use Rattle.std.proofs.lemmas.Bool.{and_parts, leb-true}
use Rattle.apdu.specs.Words.{is_between}
use Rattle.script_reader.specs.declared.types.Script.{Script}
use Rattle.script_reader.specs.declared.types.Operation.{Operation}
use Rattle.script_reader.specs.Rules.{keeps_rules, cards_keep_rules, changes_keep_rules, actors_keep_rules, schedule_keeps_rules, faults_keep_rules, budget_keeps_rules}
use Rattle.script_reader.specs.Operations.{operation_count, is_actor}
use Rattle.report.specs.declared.line.Line.{Line}
use Rattle.rules.specs.declared.kept.Job.{Job}
use Rattle.rules.specs.declared.kept.Kept.{Kept}
use Rattle.rules.specs.Kept.{operations_of}
use Rattle.rules.specs.After.{kept_of}
use Rattle.performed.specs.Followed.{are_followed}
use Rattle.performed.specs.Laws.{IsPlainJob, ArePlainJobs, IsPlain}
use Rattle.performed.proofs.Plain.{Keeps, KeepsJob, keeps}

-- ---- at most 1000 operations

count_in : (actors : List (List Operation)) (a : ℕ) → length (unwrap_or (slice_get actors a) []) ≤ operation_count actors
count_in [] a = omega arith
count_in (ops ∷ actors) zero = omega arith
count_in (ops ∷ actors) (suc a) = let h = count_in actors a in omega arith

count_of_actor : (s : Script) (i : ℕ) → length (operations_of s i) ≤ operation_count s.actors
count_of_actor s zero = omega arith
count_of_actor s (suc a) = count_in s.actors a

most : (s : Script) → keeps_rules s ≡ true → operation_count s.actors ≤ 1000
most s h =
    let a1 = and_parts ((s.version == 1) && cards_keep_rules s.cards && changes_keep_rules s.changes && actors_keep_rules (length s.cards) (length s.changes) s.actors && schedule_keeps_rules (length s.actors) s.schedule && faults_keep_rules s.faults) (budget_keeps_rules s.budget) h in
    let a2 = and_parts ((s.version == 1) && cards_keep_rules s.cards && changes_keep_rules s.changes && actors_keep_rules (length s.cards) (length s.changes) s.actors && schedule_keeps_rules (length s.actors) s.schedule) (faults_keep_rules s.faults) a1.0 in
    let a3 = and_parts ((s.version == 1) && cards_keep_rules s.cards && changes_keep_rules s.changes && actors_keep_rules (length s.cards) (length s.changes) s.actors) (schedule_keeps_rules (length s.actors) s.schedule) a2.0 in
    let a4 = and_parts ((s.version == 1) && cards_keep_rules s.cards && changes_keep_rules s.changes) (actors_keep_rules (length s.cards) (length s.changes) s.actors) a3.0 in
    let a5 = and_parts (is_between 1 8 (length s.actors) && nat_le (operation_count s.actors) 1000) (list_all (is_actor (length s.cards) (length s.changes)) s.actors) a4.1 in
    let a6 = and_parts (is_between 1 8 (length s.actors)) (nat_le (operation_count s.actors) 1000) a5.0 in
    leb-true (operation_count s.actors) 1000 a6.1

plain_job : (s : Script) (n i : ℕ) (x : Job) → keeps_rules s ≡ true → KeepsJob s n i x → IsPlainJob n x
plain_job s n i x rules h =
    let a = h.answered in
    let b = count_of_actor s i in
    let c = most s rules in
    record { answered = omega arith; mailbox = h.mailbox }

plain_jobs : (n : ℕ) (jobs : List Job) → ((i : ℕ) (x : Job) → slice_get jobs i ≡ Some x → IsPlainJob n x) → ArePlainJobs n jobs
plain_jobs n [] h = tt
plain_jobs n (job ∷ jobs) h = (h 0 job refl, plain_jobs n jobs (λ i x e. h (suc i) x e))

pub stays_plain : (s : Script) (lines : List Line) → keeps_rules s ≡ true → are_followed s lines ≡ true → IsPlain (kept_of s lines)
stays_plain s lines rules followed =
    let h : Keeps s (kept_of s lines) = keeps s lines followed in
    let k : Kept = kept_of s lines in
    record {
      jobs = plain_jobs k.publications k.jobs (λ i x here. plain_job s k.publications i x rules (h.jobs i x here));
      handles = h.handles;
    }
