-- What the rules of a script, and that its names are UTF-8, say of it.
use Rattle.std.proofs.Common.{◌≡◌, ◌≤◌, ◌<◌, ◌&&◌, ◌||◌, ◌⊎◌, inl, inr, eqb-true, ◌==◌, ℕ, zero, suc, Bool, true, false, nat_le, List, ◌∷◌, length, Option, Some, None, if◌then◌else◌, refl, sym, subst, arith, le-leb, leb-true, true≢false}
use Rattle.std.specs.List.{list_all}
use Rattle.std.specs.Prelude.{option_and_then}
use Rattle.std.proofs.lemmas.Bool.{and_parts}
use Rattle.apdu.specs.Words.{has_value, is_between, is_one_of}
use Rattle.families.specs.Contents.{family_count}
use Rattle.families.specs.Families.{all_families}
use Rattle.script_reader.specs.declared.types.Script.{Script}
use Rattle.script_reader.specs.declared.types.Operation.{Operation}
use Rattle.script_reader.specs.declared.types.Operation.TheVariants as operation
use Rattle.script_reader.specs.Operations.{has_form, is_handle, operation_count, is_actor}
use Rattle.script_reader.specs.Rules.{keeps_rules, cards_keep_rules, changes_keep_rules, actors_keep_rules, schedule_keeps_rules, faults_keep_rules, budget_keeps_rules}
use Rattle.report.specs.declared.line.Line.{Line}
use Rattle.report.specs.declared.line.Line.TheVariants as line
use Rattle.rules.specs.declared.kept.Begun.{Begun}
use Rattle.rules.specs.declared.kept.Job.{Job}
use Rattle.rules.specs.declared.kept.Kept.{Kept}
use Rattle.rules.specs.Kept.{begun_of, job_of, operation_now}
use Rattle.rules.specs.After.{kept_of}
use Rattle.epoch_cache.specs.Cache.{all_current}
use Rattle.families.specs.Families.{family_paths}
use Rattle.tracker.specs.Held.{gives_holding}
use Rattle.tracker.specs.Room.{operation_fits}
use Rattle.report.specs.declared.answer.Answer.{Answer}
use Rattle.report.specs.declared.answer.Answer.TheVariants as answer
use Rattle.hub.specs.Performing.{is_holding}
use Rattle.performed.specs.Names.{has_utf8_names}
use Rattle.performed.specs.Followed.{is_slot_answer}
use Rattle.performed.proofs.LegalScript.{IsPlain, family_known, is_family_or_none, plain_now}
use Rattle.hub.specs.Ready.{family_by, family_next, family_ready, if_current}
use Rattle.hub.specs.Parts.{Parts}
use Rattle.hub.specs.Settled.{IsTied}

pub few_actors : (s : Script) → keeps_rules s ≡ true → length s.actors ≤ 254
few_actors s h =
    let version = s.version == 1 in
    let cards = cards_keep_rules s.cards in
    let changes = changes_keep_rules s.changes in
    let actors = actors_keep_rules (length s.cards) (length s.changes) s.actors in
    let schedule = schedule_keeps_rules (length s.actors) s.schedule in
    let faults = faults_keep_rules s.faults in
    let q1 = and_parts (version && cards && changes && actors && schedule && faults) (budget_keeps_rules s.budget) h in
    let q2 = and_parts (version && cards && changes && actors && schedule) faults q1.0 in
    let q3 = and_parts (version && cards && changes && actors) schedule q2.0 in
    let q4 = and_parts (version && cards && changes) actors q3.0 in
    let q5 = and_parts (is_between 1 8 (length s.actors) && nat_le (operation_count s.actors) 1000) (list_all (is_actor (length s.cards) (length s.changes)) s.actors) q4.1 in
    let q6 = and_parts (is_between 1 8 (length s.actors)) (nat_le (operation_count s.actors) 1000) q5.0 in
    let q7 = and_parts (nat_le 1 (length s.actors)) (nat_le (length s.actors) 8) q6.0 in
    let few = leb-true (length s.actors) 8 q7.1 in
    omega arith

-- ---- the operations of a script

aid_fits : (handle : ℕ) (aid : List ℕ) → has_form (operation.OpenChannel handle aid) ≡ true → nat_le (length aid) 255 ≡ true
aid_fits handle aid h =
    let q = and_parts (is_handle handle) (is_between 5 16 (length aid)) h in
    let few = leb-true (length aid) 16 (and_parts (nat_le 5 (length aid)) (nat_le (length aid) 16) q.1).1 in
    le-leb (length aid) 255 (omega arith)

fits_op : (o : Option Operation) → IsPlain o → operation_fits o ≡ true
fits_op (Some (operation.OpenChannel handle aid)) h = aid_fits handle aid (h.formed (operation.OpenChannel handle aid) refl)
fits_op op h = refl

pub fits_now : (s : Script) (a : ℕ) (jobs : List Job) → keeps_rules s ≡ true → has_utf8_names s ≡ true → operation_fits (operation_now s a jobs) ≡ true
fits_now s a jobs rules h = fits_op (operation_now s a jobs) (plain_now s rules h a jobs)

-- ---- answers that give a channel or a session

gives_by : (given : Answer) (op : Operation) → is_holding given ≡ false → gives_holding op given ≡ false
gives_by (answer.Opened channel) op h = absurd (true≢false h)
gives_by answer.Verified op h = absurd (true≢false h)
gives_by given (operation.OpenChannel handle aid) h = refl
gives_by given (operation.Verify key pin) h = refl
gives_by given op h = refl

pub gives_nothing : (given : Answer) (op : Option Operation) → is_holding given ≡ false → has_value (λ o. gives_holding o given) op ≡ false
gives_nothing given None h = refl
gives_nothing given (Some op) h = gives_by given op h

-- the slot's answers give none
pub slot_holds_nothing : (given : Answer) (P : Type 0) → is_slot_answer given ≡ true → is_holding given ≡ true → P
slot_holds_nothing answer.SlotFull P h g = absurd (true≢false (sym g))
slot_holds_nothing answer.SlotEmpty P h g = absurd (true≢false (sym g))
slot_holds_nothing answer.ArmFull P h g = absurd (true≢false (sym g))
slot_holds_nothing given P h g = absurd (true≢false (sym h))

-- ---- families

one_of_three : (a b c : Bool) → (a || (b || (c || false))) ≡ true → (a ≡ true) ⊎ ((b ≡ true) ⊎ (c ≡ true))
one_of_three true b c h = inl refl
one_of_three false true c h = inr (inl refl)
one_of_three false false true h = inr (inr refl)
one_of_three false false false h = absurd (true≢false (sym h))

below : (f : ℕ) → is_one_of f all_families ≡ true → f < family_count
below f h = elim (one_of_three (0 == f) (1 == f) (2 == f) h) [
  | inl e ↦ let same = eqb-true 0 f e in omega arith
  | inr other ↦ elim other [
    | inl e ↦ let same = eqb-true 1 f e in omega arith
    | inr e ↦ let same = eqb-true 2 f e in omega arith
  ]
]

pub known_some : (o : Option ℕ) (f : ℕ) → is_family_or_none o ≡ true → o ≡ Some f → f < family_count
known_some None f h e = absurd (cc)
known_some (Some g) f h e = let same : g ≡ f = cc in subst (λ n. n < family_count) same (below g h)

if_some : (k : Kept) (o : Option ℕ) (f : ℕ) → option_and_then (if_current k) o ≡ Some f → o ≡ Some f
if_some k None f h = absurd (cc)
if_some k (Some g) f h = by (all_current k.files (family_paths g)) h
  where
    by : (b : Bool) → (if b then Some g else None) ≡ Some f → Some g ≡ Some f
    by true e = e
    by false e = absurd (cc)

module _ (s : Script) (lines : List Line) (rules : keeps_rules s ≡ true) (served : has_utf8_names s ≡ true) where
  by_begun : (a : ℕ) (o : Option Begun) → is_family_or_none (family_by s (kept_of s lines) (suc a) o) ≡ true
  by_begun a (Some b) = family_known s (line.Turn (suc a) ∷ lines) rules served
  by_begun a None = family_known s (line.Begin (suc a) (job_of (suc a) (kept_of s lines).jobs).answered ∷ lines) rules served

  next_known : (a : ℕ) → is_family_or_none (family_next s (kept_of s lines) a) ≡ true
  next_known zero = family_known s (line.Turn zero ∷ lines) rules served
  next_known (suc a) = by_begun a (begun_of (suc a) (kept_of s lines).jobs)

  pub ready_known : (a f : ℕ) → family_ready s (kept_of s lines) a ≡ Some f → f < family_count
  ready_known a f h = known_some (family_next s (kept_of s lines) a) f (next_known a) (if_some (kept_of s lines) (family_next s (kept_of s lines) a) f h)

pub ready_family : (p : Parts) (a f : ℕ) → IsTied p → family_ready p.script p.kept a ≡ Some f → f < family_count
ready_family p a f t h =
    ready_known p.script p.lines.lines t.lines.rules t.lines.served a f
    (subst (λ (k : Kept). family_ready p.script k a ≡ Some f) t.kept h)
