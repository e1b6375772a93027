-- The edits that are under way stay short from line to line.
use Rattle.std.proofs.Common.{◌≡◌, ◌<◌, ◌^◌, ◌+◌, ◌&&◌, ◌==◌, ℕ, zero, suc, Bool, true, false, nat_le, if◌then◌else◌, List, [], ◌∷◌, map, slice_get, slice_set, replicate, Option, Some, None, refl, sym, ap, ◌∙◌, true≢false, arith, le-leb, leb-true, eqb-true}
use Rattle.std.specs.Prelude.{option_map}
use Rattle.std.specs.List.{list_all}
use Rattle.std.proofs.lemmas.Bool.{and_parts}
use Rattle.apdu.specs.Values.{CommandValue, ResponseValue}
use Rattle.apdu.specs.Apdu.{is_update_ins}
use Rattle.families.specs.Plans.{plan_updates}
use Rattle.families.specs.Families.{family_path}
use Rattle.adn.specs.declared.edit.Edit.{Edit}
use Rattle.epoch_cache.specs.declared.cached.Touch.{Touch}
use Rattle.epoch_cache.specs.Cache.{is_update, moves_one}
use Rattle.link.specs.declared.chain.Chain.{Chain}
use Rattle.link.specs.Commands.{is_at}
use Rattle.script_reader.specs.declared.types.Script.{Script}
use Rattle.report.specs.declared.line.Line.{Line}
use Rattle.report.specs.declared.line.Line.TheVariants as line
use Rattle.editor.specs.declared.editing.Attempt.{Attempt}
use Rattle.editor.specs.declared.editing.Decided.{Decided}
use Rattle.editor.specs.declared.editing.Editing.{Editing}
use Rattle.editor.specs.Editing.{attempt_behind, decided_by, extended_by, lost_update, moved_attempt, moved_editing, no_editing, sent_update, updated_by, with_attempt}
use Rattle.rules.specs.declared.kept.Begun.{Begun}
use Rattle.rules.specs.declared.kept.Facts.{Facts}
use Rattle.rules.specs.declared.kept.Job.{Job}
use Rattle.rules.specs.declared.kept.Kept.{Kept}
use Rattle.rules.specs.Kept.{change_at, changed_at, first_job, operation_now}
use Rattle.rules.specs.After.{actor_of, begun_beside, begun_exchanged, begun_failed, begun_with, decision_at, edit_of, editing_answered, editing_lost, editing_sent, facts_of, job_beside, jobs_beside, jobs_of_actor, kept_after, own_job}
use Rattle.planner.specs.Room.{is_new_attempt, is_short}
use Rattle.hub.specs.Short.{are_short, is_row_number, is_short_attempt, is_short_begun, is_short_editing, is_short_job}

both : (a b : Bool) → a ≡ true → b ≡ true → (a && b) ≡ true
both true b e f = f
both false b e f = absurd (true≢false (sym e))

-- ---- lists

all_map : {A B : Type 0} (p : A → Bool) (q : B → Bool) (f : A → B) → ((x : A) → p x ≡ true → q (f x) ≡ true) → (xs : List A) → list_all p xs ≡ true → list_all q (map f xs) ≡ true
all_map p q f each [] h = refl
all_map p q f each (x ∷ xs) h = let parts = and_parts (p x) (list_all p xs) h in both (q (f x)) (list_all q (map f xs)) (each x parts.0) (all_map p q f each xs parts.1)

all_set : {A : Type 0} (p : A → Bool) (xs : List A) (i : ℕ) (y : A) → p y ≡ true → list_all p xs ≡ true → list_all p (slice_set xs i y) ≡ true
all_set p [] i y own h = refl
all_set p (x ∷ xs) zero y own h = both (p y) (list_all p xs) own (and_parts (p x) (list_all p xs) h).1
all_set p (x ∷ xs) (suc i) y own h = let parts = and_parts (p x) (list_all p xs) h in both (p x) (list_all p (slice_set xs i y)) parts.0 (all_set p xs i y own parts.1)

all_get : {A : Type 0} (p : A → Bool) (xs : List A) (i : ℕ) (x : A) → slice_get xs i ≡ Some x → list_all p xs ≡ true → p x ≡ true
all_get p [] i x e h = absurd (cc)
all_get p (y ∷ xs) zero x e h = let same : y ≡ x = cc in ap p (sym same) ∙ (and_parts (p y) (list_all p xs) h).0
all_get p (y ∷ xs) (suc i) x e h = all_get p xs i x e (and_parts (p y) (list_all p xs) h).1

all_change : {A : Type 0} (p : A → Bool) (f : A → A) (xs : List A) (i : ℕ) → ((x : A) → p x ≡ true → p (f x) ≡ true) → list_all p xs ≡ true → list_all p (change_at i f xs) ≡ true
all_change p f xs i each h = by (slice_get xs i) refl
  where
    by : (o : Option _) → slice_get xs i ≡ o → list_all p (changed_at i f xs o) ≡ true
    by None e = h
    by (Some x) e = all_set p xs i (f x) (each x (all_get p xs i x e h)) h

-- ---- an edit

more_allowed : (n m : ℕ) → nat_le m n ≡ true → nat_le m (suc n) ≡ true
more_allowed n m h = let low = leb-true m n h in le-leb m (suc n) (omega arith)

one_more : (n m : ℕ) → nat_le m n ≡ true → nat_le (m + 1) (suc n) ≡ true
one_more n m h = let low = leb-true m n h in le-leb (m + 1) (suc n) (omega arith)

grown : (n : ℕ) (a : Option Attempt) → is_short_attempt n a ≡ true → is_short_attempt (suc n) a ≡ true
grown n None h = refl
grown n (Some a) h =
    let parts = and_parts (list_all is_short (plan_updates a.plan)) (nat_le a.sent n) h in
    both (list_all is_short (plan_updates a.plan)) (nat_le a.sent (suc n)) parts.0 (more_allowed n a.sent parts.1)

sent_short : (n : ℕ) (a : Option Attempt) → is_short_attempt n a ≡ true → is_short_attempt (suc n) (option_map (λ (x : Attempt). let y : Attempt = record x { sent = x.sent + 1 } in y) a) ≡ true
sent_short n None h = refl
sent_short n (Some a) h =
    let parts = and_parts (list_all is_short (plan_updates a.plan)) (nat_le a.sent n) h in
    both (list_all is_short (plan_updates a.plan)) (nat_le (a.sent + 1) (suc n)) parts.0 (one_more n a.sent parts.1)

moved_short : (n : ℕ) (d : Option Decided) (a : Attempt) → is_short_attempt n (Some a) ≡ true → is_short_attempt n (moved_attempt d a) ≡ true
moved_short n None a h = refl
moved_short n (Some d) a h = h

behind_short : (n : ℕ) (t : Touch) (d : Option Decided) (a : Option Attempt) → is_short_attempt n a ≡ true → is_short_attempt n (attempt_behind t d a) ≡ true
behind_short n t d None h = refl
behind_short n t d (Some a) h = by (moves_one t a.paths)
  where
    by : (b : Bool) → is_short_attempt n (if b then moved_attempt d a else Some a) ≡ true
    by true = moved_short n d a h
    by false = h

-- what an edit is made of
record Short (n : ℕ) (e : Editing) : Type 0 where
  attempt : is_short_attempt n e.attempt ≡ true
  marked : list_all is_row_number e.marked ≡ true

parts_of : (n : ℕ) (e : Editing) → is_short_editing n e ≡ true → Short n e
parts_of n e h = let parts = and_parts (is_short_attempt n e.attempt) (list_all is_row_number e.marked) h in record { attempt = parts.0; marked = parts.1 }

whole_of : (n : ℕ) (e : Editing) → Short n e → is_short_editing n e ≡ true
whole_of n e h = both (is_short_attempt n e.attempt) (list_all is_row_number e.marked) h.attempt h.marked

editing_moved : (n : ℕ) (t : Touch) (e : Editing) → Short n e → Short n (moved_editing t e)
editing_moved n t e h = record { attempt = behind_short n t e.decided e.attempt h.attempt; marked = h.marked }

editing_grown : (n : ℕ) (e : Editing) → Short n e → Short (suc n) e
editing_grown n e h = record { attempt = grown n e.attempt h.attempt; marked = h.marked }

editing_sent_short : (n : ℕ) (c : CommandValue) (chain : Option Chain) (e : Editing) → Short n e → Short (suc n) (editing_sent c chain e)
editing_sent_short n c (Some chain) e h = editing_grown n e h
editing_sent_short n c None e h = by (is_update_ins c.ins)
  where
    by : (b : Bool) → Short (suc n) (let x : Editing = (if b then sent_update e else e) in x)
    by true = record { attempt = sent_short n e.attempt h.attempt; marked = h.marked }
    by false = editing_grown n e h

extended_short : (n : ℕ) (c : CommandValue) (d : Option Decided) (e : Editing) → is_row_number c.p1 ≡ true → Short n e → Short n (extended_by c d e)
extended_short n c None e row h = record { attempt = h.attempt; marked = both (is_row_number c.p1) (list_all is_row_number e.marked) row h.marked }
extended_short n c (Some d) e row h = record { attempt = h.attempt; marked = h.marked }

updated_short : (n f : ℕ) (selected : Option (List ℕ)) (event : ℕ) (c : CommandValue) (e : Editing) → is_row_number c.p1 ≡ true → Short n e → Short n (updated_by f selected event c e)
updated_short n f selected event c e row h = by (is_at selected (family_path f 0))
  where
    by : (b : Bool) → Short n (let x : Editing = (if b then decided_by event c e else extended_by c e.decided e) in x)
    by true = record { attempt = h.attempt; marked = h.marked }
    by false = extended_short n c e.decided e row h

answered_short : (n : ℕ) (edit : Option (ℕ × Edit)) (selected : Option (List ℕ)) (event : ℕ) (c : CommandValue) (r : ResponseValue) (e : Editing) → is_row_number c.p1 ≡ true → Short n e → Short n (editing_answered edit selected event c r e)
answered_short n None selected event c r e row h = h
answered_short n (Some (f, ed)) selected event c r e row h = by (is_update c r)
  where
    by : (b : Bool) → Short n (let x : Editing = (if b then updated_by f selected event c e else e) in x)
    by true = updated_short n f selected event c e row h
    by false = h

lost_short : (n : ℕ) (edit : Option (ℕ × Edit)) (selected : Option (List ℕ)) (event : ℕ) (c : CommandValue) (e : Editing) → Short n e → Short n (editing_lost edit selected event c e)
lost_short n None selected event c e h = h
lost_short n (Some (f, ed)) selected event c e h = by (is_update_ins c.ins)
  where
    at : (b : Bool) → Short n (let x : Editing = (if b then record e { lost = Some event } else e) in x)
    at true = record { attempt = h.attempt; marked = h.marked }
    at false = h

    by : (b : Bool) → Short n (let x : Editing = (if b then lost_update f selected event e else e) in x)
    by true = at (is_at selected (family_path f 0))
    by false = h

new_short : (n : ℕ) (a : Option Attempt) → is_new_attempt a ≡ true → is_short_attempt n a ≡ true
new_short n None h = refl
new_short n (Some a) h =
    let parts = and_parts (list_all is_short (plan_updates a.plan)) (a.sent == 0) h in
    let none : a.sent ≡ 0 = eqb-true a.sent 0 parts.1 in
    both (list_all is_short (plan_updates a.plan)) (nat_le a.sent n) parts.0 (le-leb a.sent n (omega arith))

with_short : (n : ℕ) (a : Option Attempt) (e : Editing) → is_new_attempt a ≡ true → Short n e → Short n (with_attempt a e)
with_short n None e new h = h
with_short n (Some a) e new h = record { attempt = new_short n (Some a) new; marked = h.marked }

-- ---- a job

begun_short : (n : ℕ) (f : Begun → Begun) (o : Option Begun) → ((b : Begun) → Short n b.editing → Short n (f b).editing) → is_short_begun n o ≡ true → is_short_begun n (option_map f o) ≡ true
begun_short n f None each h = refl
begun_short n f (Some b) each h = whole_of n (f b).editing (each b (parts_of n b.editing h))

begun_longer : (n : ℕ) (f : Begun → Begun) (o : Option Begun) → ((b : Begun) → Short n b.editing → Short (suc n) (f b).editing) → is_short_begun n o ≡ true → is_short_begun (suc n) (option_map f o) ≡ true
begun_longer n f None each h = refl
begun_longer n f (Some b) each h = whole_of (suc n) (f b).editing (each b (parts_of n b.editing h))

begun_grown : (n : ℕ) (o : Option Begun) → is_short_begun n o ≡ true → is_short_begun (suc n) o ≡ true
begun_grown n None h = refl
begun_grown n (Some b) h = whole_of (suc n) b.editing (editing_grown n b.editing (parts_of n b.editing h))

beside_short : (n : ℕ) (l : Line) (epoch : ℕ) (facts : Facts) (selected : Option (List ℕ)) (job : Job) → is_short_job n job ≡ true → is_short_job n (job_beside l epoch facts selected job) ≡ true
beside_short n l epoch facts selected job h = begun_short n (begun_beside l epoch facts) job.begun (λ b e. editing_moved n facts.touch b.editing e) h

-- the row that a command names is a byte
abbrev pub has_row : Line → Bool
has_row (line.Exchange a c r) = is_row_number c.p1
has_row l = true

own_short : (n : ℕ) (s : Script) (l : Line) (k : Kept) (facts : Facts) (attempt : Option Attempt) (job : Job) → is_new_attempt attempt ≡ true → has_row l ≡ true → is_short_job n job ≡ true → is_short_job (suc n) (own_job s l k facts attempt job) ≡ true
own_short n s (line.Turn zero) k facts attempt job new row h = begun_grown n job.begun h
own_short n s (line.Turn (suc a)) k facts attempt job new row h = begun_grown n (option_map (begun_with attempt) job.begun) (begun_short n (begun_with attempt) job.begun (λ b e. with_short n attempt b.editing new e) h)
own_short n s (line.Begin a i) k facts attempt job new row h = whole_of (suc n) (with_attempt attempt no_editing) (with_short (suc n) attempt no_editing new (record { attempt = refl; marked = refl }))
own_short n s (line.Exchange a c r) k facts attempt job new row h =
    begun_longer n (begun_exchanged (edit_of (operation_now s a k.jobs)) k.selected k.chain facts.event c r) job.begun (λ b e. answered_short (suc n) (edit_of (operation_now s a k.jobs)) k.selected facts.event c r (editing_sent c k.chain b.editing) row (editing_sent_short n c k.chain b.editing e)) h
own_short n s (line.Failed a c d) k facts attempt job new row h =
    begun_longer n (begun_failed (edit_of (operation_now s a k.jobs)) k.selected k.chain facts.event c) job.begun (λ b e. lost_short (suc n) (edit_of (operation_now s a k.jobs)) k.selected facts.event c (editing_sent c k.chain b.editing) (editing_sent_short n c k.chain b.editing e)) h
own_short n s (line.Reset a) k facts attempt job new row h = begun_grown n job.begun h
own_short n s (line.ResetFailed a) k facts attempt job new row h = begun_grown n job.begun h
own_short n s (line.World a e) k facts attempt job new row h = begun_grown n job.begun h
own_short n s (line.Published m f e v text) k facts attempt job new row h = begun_grown n job.begun h
own_short n s (line.EpochEnd m e v) k facts attempt job new row h = begun_grown n job.begun h
own_short n s (line.Refused f m) k facts attempt job new row h = begun_grown n job.begun h
own_short n s (line.Answered a i given) k facts attempt job new row h = refl

-- ---- all jobs

jobs_grown : (n : ℕ) (jobs : List Job) → are_short n jobs ≡ true → are_short (suc n) jobs ≡ true
jobs_grown n [] h = refl
jobs_grown n (job ∷ jobs) h =
    let parts = and_parts (is_short_job n job) (are_short n jobs) h in
    both (is_short_job (suc n) job) (are_short (suc n) jobs) (begun_grown n job.begun parts.0) (jobs_grown n jobs parts.1)

-- one job changes, and grows with the lines
all_longer : (n i : ℕ) (f : Job → Job) (jobs : List Job) → ((x : Job) → is_short_job n x ≡ true → is_short_job (suc n) (f x) ≡ true) → are_short n jobs ≡ true → are_short (suc n) (change_at i f jobs) ≡ true
all_longer n i f jobs each h = by (slice_get jobs i) refl
  where
    by : (o : Option Job) → slice_get jobs i ≡ o → are_short (suc n) (changed_at i f jobs o) ≡ true
    by None e = jobs_grown n jobs h
    by (Some x) e = all_set (is_short_job (suc n)) jobs i (f x) (each x (all_get (is_short_job n) jobs i x e h)) (jobs_grown n jobs h)

actor_short : (n : ℕ) (s : Script) (l : Line) (k : Kept) (facts : Facts) (attempt : Option Attempt) (o : Option ℕ) (jobs : List Job) → is_new_attempt attempt ≡ true → has_row l ≡ true → are_short n jobs ≡ true → are_short (suc n) (jobs_of_actor s l k facts attempt o jobs) ≡ true
actor_short n s l k facts attempt None jobs new row h = jobs_grown n jobs h
actor_short n s l k facts attempt (Some a) jobs new row h = all_longer n a (own_job s l k facts attempt) jobs (λ x e. own_short n s l k facts attempt x new row e) h

pub short_after : (n : ℕ) (s : Script) (l : Line) (k : Kept) → is_new_attempt (decision_at s l k).attempt ≡ true → has_row l ≡ true → are_short n k.jobs ≡ true → are_short (suc n) (kept_after s l k).jobs ≡ true
short_after n s l k new row h =
    actor_short n s l k (facts_of s l k) (decision_at s l k).attempt (actor_of l) (jobs_beside l k.history.epoch (facts_of s l k) k.selected k.jobs) new row
    (all_map (is_short_job n) (is_short_job n) (job_beside l k.history.epoch (facts_of s l k) k.selected) (λ x e. beside_short n l k.history.epoch (facts_of s l k) k.selected x e) k.jobs h)

-- before the first line
pub none_short : (n m : ℕ) → are_short n (replicate m first_job) ≡ true
none_short n zero = refl
none_short n (suc m) = none_short n m

-- a byte numbers a row
pub row_number : (p q : ℕ) → p ≡ q → p < 2 ^ 8 → is_row_number q ≡ true
row_number p q e h = le-leb q 255 (omega arith)
