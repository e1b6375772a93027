-- What the operations of a served script are; and so what a turn may publish, and that the framework alone resets the card.
use Rattle.std.proofs.Common.{◌≡◌, ℕ, zero, suc, ◌==◌, ◌&&◌, ◌||◌, Bool, true, false, if◌then◌else◌, Option, Some, None, List, [], ◌∷◌, length, map, refl, subst, arith}
use Rattle.std.specs.Prelude.{nat_le, slice_get, unwrap_or, option_map, find, is_some, not}
use Rattle.std.specs.List.{list_all}
use Rattle.std.proofs.lemmas.Bool.{and_parts, and_from, leb-true}
use Rattle.apdu.specs.Words.{is_between, is_one_of}
use Rattle.script_reader.specs.declared.types.Operation.{Operation}
use Rattle.script_reader.specs.declared.types.Operation.TheVariants as operation
use Rattle.script_reader.specs.declared.types.Script.{Script}
use Rattle.script_reader.specs.Operations.{has_form, is_operation_within, has_target, is_actor, operation_count}
use Rattle.script_reader.specs.Pairing.{are_paired}
use Rattle.script_reader.specs.Rules.{cards_keep_rules, changes_keep_rules, actors_keep_rules, schedule_keeps_rules, faults_keep_rules, budget_keeps_rules, keeps_rules}
use Rattle.report.specs.declared.line.Line.{Line}
use Rattle.report.specs.declared.line.Line.TheVariants as line
use Rattle.families.specs.Families.{all_families}
use Rattle.epoch_cache.specs.declared.cached.Touch.{Touch}
use Rattle.link.specs.declared.chain.Final.{Final}
use Rattle.loader.specs.declared.reading.RefusedReading.{RefusedReading}
use Rattle.rules.specs.declared.kept.Begun.{Begun}
use Rattle.rules.specs.declared.kept.Facts.{Facts}
use Rattle.rules.specs.declared.kept.Job.{Job}
use Rattle.rules.specs.declared.kept.Kept.{Kept}
use Rattle.rules.specs.declared.kept.Work.{Work}
use Rattle.rules.specs.declared.standing.Standing.{Standing}
use Rattle.rules.specs.History.{lives_in}
use Rattle.rules.specs.Kept.{operation_at, begun_of, begun_operation, operation_now, job_of}
use Rattle.rules.specs.Channels.{held_numbers}
use Rattle.rules.specs.Standing.{standing_after, is_stale, first_stale}
use Rattle.rules.specs.Work.{is_starting, is_edit_over, family_of_operation, family_read}
use Rattle.rules.specs.After.{facts_of, refused_of, family_begun, jobs_beside, fresh_begun, decision_at, family_of_begun, family_at, turn_exchanged, turn_behind, kept_of}
use Rattle.performed.specs.Names.{has_utf8_name, has_utf8_names}

-- ---- operations

all_at : {A : Type 0} (test : A → Bool) (xs : List A) (i : ℕ) (x : A) → list_all test xs ≡ true → slice_get xs i ≡ Some x → test x ≡ true
all_at test [] i x h e = absurd (cc)
all_at test (y ∷ ys) zero x h e = let same : y ≡ x = cc in subst (λ z. test z ≡ true) same (and_parts (test y) (list_all test ys) h).0
all_at test (y ∷ ys) (suc i) x h e = all_at test ys i x (and_parts (test y) (list_all test ys) h).1 e

module _ (test : Operation → Bool) (s : Script) (all : list_all (list_all test) s.actors ≡ true) where
  of_actor : (a i : ℕ) (op : Operation) (o : Option (List Operation)) → slice_get s.actors a ≡ o → slice_get (unwrap_or o []) i ≡ Some op → test op ≡ true
  of_actor a i op None e h = absurd (cc)
  of_actor a i op (Some ops) e h = all_at test ops i op (all_at (list_all test) s.actors a ops all e) h

  pub at_passes : (actor i : ℕ) (op : Operation) → operation_at s actor i ≡ Some op → test op ≡ true
  at_passes zero i op h = absurd (cc)
  at_passes (suc a) i op h = of_actor a i op (slice_get s.actors a) refl h

  begun_passes : (actor : ℕ) (b : Option Begun) (op : Operation) → begun_operation s actor b ≡ Some op → test op ≡ true
  begun_passes actor None op h = absurd (cc)
  begun_passes actor (Some b) op h = at_passes actor b.index op h

-- the operation that there may be is served, and has its form
pub record IsPlain (o : Option Operation) : Type 0 where
  pub served : (op : Operation) → o ≡ Some op → has_utf8_name op ≡ true
  pub formed : (op : Operation) → o ≡ Some op → has_form op ≡ true

all_served : (s : Script) → has_utf8_names s ≡ true → list_all (list_all has_utf8_name) s.actors ≡ true
all_served s v = v

have_form : (cards changes : ℕ) (actors : List (List Operation)) → list_all (is_actor cards changes) actors ≡ true → list_all (list_all has_form) actors ≡ true
have_form cards changes [] h = refl
have_form cards changes (ops ∷ actors) h =
    let q = and_parts (is_actor cards changes ops) (list_all (is_actor cards changes) actors) h in
    let p1 = and_parts (list_all has_form ops && list_all is_operation_within ops && list_all (has_target cards changes) ops) (are_paired ops) q.0 in
    let p2 = and_parts (list_all has_form ops && list_all is_operation_within ops) (list_all (has_target cards changes) ops) p1.0 in
    let p3 = and_parts (list_all has_form ops) (list_all is_operation_within ops) p2.0 in
    and_from (list_all has_form ops) (list_all (list_all has_form) actors) p3.0 (have_form cards changes actors q.1)

all_formed : (s : Script) → keeps_rules s ≡ true → list_all (list_all has_form) s.actors ≡ true
all_formed s h =
    let version = s.version == 1 in
    let cards = cards_keep_rules s.cards in
    let changes = changes_keep_rules s.changes in
    let actors = actors_keep_rules (length s.cards) (length s.changes) s.actors in
    let schedule = schedule_keeps_rules (length s.actors) s.schedule in
    let faults = faults_keep_rules s.faults in
    let q1 = and_parts (version && cards && changes && actors && schedule && faults) (budget_keeps_rules s.budget) h in
    let q2 = and_parts (version && cards && changes && actors && schedule) faults q1.0 in
    let q3 = and_parts (version && cards && changes && actors) schedule q2.0 in
    let q4 = and_parts (version && cards && changes) actors q3.0 in
    let each = (and_parts (is_between 1 8 (length s.actors) && nat_le (operation_count s.actors) 1000) (list_all (is_actor (length s.cards) (length s.changes)) s.actors) q4.1).1 in
    have_form (length s.cards) (length s.changes) s.actors each

module _ (s : Script) (rules : keeps_rules s ≡ true) (v : has_utf8_names s ≡ true) where
  pub plain_at : (actor i : ℕ) → IsPlain (operation_at s actor i)
  plain_at actor i = record { served = at_passes has_utf8_name s (all_served s v) actor i; formed = at_passes has_form s (all_formed s rules) actor i }

  pub plain_now : (actor : ℕ) (jobs : List Job) → IsPlain (operation_now s actor jobs)
  plain_now actor jobs = record {
    served = begun_passes has_utf8_name s (all_served s v) actor (begun_of actor jobs);
    formed = begun_passes has_form s (all_formed s rules) actor (begun_of actor jobs);
  }

-- ---- families

abbrev pub is_family_or_none : Option ℕ → Bool
is_family_or_none None = true
is_family_or_none (Some f) = is_one_of f all_families

below_three : (f : ℕ) → nat_le f 2 ≡ true → is_one_of f all_families ≡ true
below_three zero h = refl
below_three (suc zero) h = refl
below_three (suc (suc zero)) h = refl
below_three (suc (suc (suc n))) h = absurd (let q = leb-true (suc (suc (suc n))) 2 h in omega (arith, q))

if_some : (c : Bool) (o : Option ℕ) → is_family_or_none o ≡ true → is_family_or_none (if c then o else None) ≡ true
if_some true o h = h
if_some false o h = refl

if_none : (c : Bool) (o : Option ℕ) → is_family_or_none o ≡ true → is_family_or_none (if c then None else o) ≡ true
if_none true o h = refl
if_none false o h = h

family_of_op : (b : Begun) (op : Operation) → has_utf8_name op ≡ true → has_form op ≡ true → is_family_or_none (family_of_operation b op) ≡ true
family_of_op b (operation.Insert card) served form = refl
family_of_op b operation.Out served form = refl
family_of_op b (operation.Arm change) served form = refl
family_of_op b (operation.Load f) served form = below_three f form
family_of_op b (operation.OpenChannel handle aid) served form = refl
family_of_op b (operation.Raw handle apdu) served form = refl
family_of_op b (operation.Close handle) served form = refl
family_of_op b (operation.Verify key pin) served form = refl
family_of_op b operation.Poll served form = refl
family_of_op b (operation.End key) served form = refl
family_of_op b operation.Look served form = refl
family_of_op b (operation.Set f at name number) served form = if_some (is_edit_over b.editing) (Some f) (below_three f form)
family_of_op b (operation.Clear f at) served form = if_some (is_edit_over b.editing) (Some f) (below_three f form)
family_of_op b (operation.Watch mask) served form = refl
family_of_op b operation.Notices served form = refl

module _ (k : Kept) where
  begun_family : (b : Option Begun) (o : Option Operation) → IsPlain o → is_family_or_none (family_of_begun k b o) ≡ true
  begun_family None o p = refl
  begun_family (Some b) None p = refl
  begun_family (Some b) (Some op) p = if_some (lives_in k.history b.epoch) (family_of_operation b op) (family_of_op b op (p.served op refl) (p.formed op refl))

-- the families that stand
abbrev pub is_known : Standing → Bool
is_known st = is_one_of st.family all_families

after_known : (l : Line) (event : ℕ) (touch : Touch) (refused : Option RefusedReading) (begun : Option ℕ) (xs : List Standing) → list_all is_known xs ≡ true → list_all is_known (map (standing_after l event touch refused begun) xs) ≡ true
after_known l event touch refused begun [] h = refl
after_known l event touch refused begun (x ∷ xs) h =
    let q = and_parts (is_known x) (list_all is_known xs) h in
    and_from (is_known x) (list_all is_known (map (standing_after l event touch refused begun) xs)) q.0 (after_known l event touch refused begun xs q.1)

pub all_known : (s : Script) (lines : List Line) → list_all is_known (kept_of s lines).standings ≡ true
all_known s [] = refl
all_known s (l ∷ earlier) =
    let k : Kept = kept_of s earlier in
    let facts : Facts = facts_of s l k in
    after_known l facts.event facts.touch (refused_of k.selected (jobs_beside l k.history.epoch facts k.selected k.jobs) facts.answered) (family_begun s l) k.standings (all_known s earlier)

by_stale : (x : Standing) (rest : Option Standing) → is_known x ≡ true → is_family_or_none (option_map (λ (s : Standing). s.family) rest) ≡ true → (b : Bool) → is_family_or_none (option_map (λ (s : Standing). s.family) (if b then Some x else rest)) ≡ true
by_stale x rest h more true = h
by_stale x rest h more false = more

found_known : (xs : List Standing) → list_all is_known xs ≡ true → is_family_or_none (first_stale xs) ≡ true
found_known [] h = refl
found_known (x ∷ xs) h =
    let q = and_parts (is_known x) (list_all is_known xs) h in
    by_stale x (find is_stale xs) q.0 (found_known xs q.1) (is_stale x)

module _ (s : Script) (rules : keeps_rules s ≡ true) (v : has_utf8_names s ≡ true) (k : Kept) (known : list_all is_known k.standings ≡ true) where
  read_known : is_family_or_none (family_read k) ≡ true
  read_known = if_none (k.history.owes_reset || not k.history.living || is_starting k || is_some k.owed || is_some k.history.announced) (first_stale k.standings) (found_known k.standings known)

  family_marked : (a : ℕ) → is_family_or_none (family_at s a k) ≡ true
  family_marked zero = read_known
  family_marked (suc a) = begun_family k (begun_of (suc a) k.jobs) (operation_now s (suc a) k.jobs) (plain_now s rules v (suc a) k.jobs)

  family_exchanged : (op : Option Operation) (job : Job) (held : List ℕ) (facts : Facts) (refused : Option RefusedReading) → is_family_or_none k.turn.family ≡ true → (o : Option Final) → facts.answered ≡ o → is_family_or_none (turn_exchanged op job held facts refused k.turn).family ≡ true
  family_exchanged op job held facts refused h None e = rw e h
  family_exchanged op job held facts refused h (Some f) e = rw e h

  family_line : (l : Line) (facts : Facts) (refused : Option RefusedReading) (work : Work) (jobs : List Job) → is_family_or_none k.turn.family ≡ true → is_family_or_none (turn_behind s l k facts refused work jobs).family ≡ true
  family_line (line.Turn a) facts refused work jobs h = family_marked a
  family_line (line.Begin a i) facts refused work jobs h = begun_family k (Some (fresh_begun i k.history)) (operation_at s a i) (plain_at s rules v a i)
  family_line (line.Exchange a c r) facts refused work jobs h =
      family_exchanged (operation_now s a k.jobs) (job_of a jobs) (held_numbers k.history k.handles) facts refused h facts.answered refl
  family_line (line.Failed a c d) facts refused work jobs h = h
  family_line (line.Reset a) facts refused work jobs h = h
  family_line (line.ResetFailed a) facts refused work jobs h = h
  family_line (line.World a e) facts refused work jobs h = h
  family_line (line.Published n f e p text) facts refused work jobs h = h
  family_line (line.EpochEnd n e p) facts refused work jobs h = h
  family_line (line.Refused f n) facts refused work jobs h = h
  family_line (line.Answered a i given) facts refused work jobs h = refl

-- what a turn may publish is a family
pub family_known : (s : Script) (lines : List Line) → keeps_rules s ≡ true → has_utf8_names s ≡ true → is_family_or_none (kept_of s lines).turn.family ≡ true
family_known s [] rules v = refl
family_known s (l ∷ earlier) rules v =
    let k : Kept = kept_of s earlier in
    let facts : Facts = facts_of s l k in
    family_line s rules v k (all_known s earlier) l facts
    (refused_of k.selected (jobs_beside l k.history.epoch facts k.selected k.jobs) facts.answered)
    (decision_at s l k).work (kept_of s (l ∷ earlier)).jobs (family_known s earlier rules v)
