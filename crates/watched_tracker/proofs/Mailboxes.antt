-- What a line does to the mailboxes, and what the watches hold behind it.
use Rattle.std.proofs.Common.{◌≡◌, ◌<◌, ◌+◌, ◌^◌, ◌&&◌, ℕ, zero, suc, Bool, true, false, nat_lt, if◌then◌else◌, List, [], ◌∷◌, ◌++◌, length, drop, map, Option, Some, None, refl, sym, ap, ◌∙◌, subst, true≢false, arith, add-one}
use Rattle.std.specs.Prelude.{slice_get, option_map, option_and_then, unwrap_or, replicate}
use Rattle.std.specs.List.{list_all}
use Rattle.std.proofs.lemmas.Bool.{and_parts}
use Rattle.std.proofs.lemmas.Option.{slice_get-map}
use Rattle.std.proofs.lemmas.List.{map-append, drop-map, length-map}
use Rattle.std.proofs.lemmas.List.Folds.{list_all-map}
use Rattle.script_reader.specs.declared.types.Script.{Script}
use Rattle.script_reader.specs.declared.types.Operation.{Operation}
use Rattle.script_reader.specs.declared.types.Operation.TheVariants as operation
use Rattle.report.specs.declared.answer.Answer.{Answer}
use Rattle.report.specs.declared.answer.Answer.TheVariants as answer
use Rattle.report.specs.declared.line.Line.{Line}
use Rattle.report.specs.declared.line.Line.TheVariants as line
use Rattle.watchers.specs.declared.filter.Notice.{Notice}
use Rattle.watchers.specs.declared.mailbox.Mailbox.{Mailbox}
use Rattle.watchers.specs.Watching.{offered, offered_to, wants, with_notice}
use Rattle.watchers.specs.Watches.{WatchValue, mailbox_of, nothing_noticed, told, with_one_more}
use Rattle.rules.specs.declared.kept.Facts.{Facts}
use Rattle.rules.specs.declared.kept.Job.{Job}
use Rattle.rules.specs.declared.kept.Kept.{Kept}
use Rattle.rules.specs.Kept.{change_at, first_job, job_of, nothing_kept, operation_at}
use Rattle.rules.specs.Watching.{mailbox_after, notices_of}
use Rattle.rules.specs.After.{decision_at, facts_of, job_beside, jobs_beside, kept_after, mailbox_behind, own_job}
use Rattle.tracker.specs.Lines.{is_answered, is_exchange, is_failed}
use Rattle.tracker.specs.Room.{HasRoom, job_has_room, mailbox_has_room, begun_has_room}
use Rattle.script_reader.specs.Rules.{keeps_rules}
use Rattle.watched_tracker.specs.Asked.{if_watch, mask_asked, masks_asked, watcher_asked, watcher_with, watchers_asked, watching_behind}
use Rattle.watched_tracker.specs.Watched.{WatchedValue}
use Rattle.watched_tracker.proofs.ScriptWatches.{asked_there}
use Rattle.watched_tracker.specs.Watchers.{WatcherValue, AreHeld, HoldMailboxes, actor_has_room, begun, begun_at, mailbox_at, mailbox_of_actor, mailbox_of_watcher, mask_of_actor, offered_to_actor, offered_to_watcher}
use Rattle.watched_tracker.proofs.Changes.{change_mapped, change_same, map_changed, map_same}

abbrev mailbox : Job → Option Mailbox
mailbox job = job.mailbox

-- ---- a notice

told_mailbox : (n : Notice) (w : WatchValue) → mailbox_of (told n w) ≡ offered n.family n.number (mailbox_of w)
told_mailbox n w = by_want (wants w.mask n.family)
  where
    with_numbers : ℕ → List ℕ → Mailbox
    with_numbers dropped numbers = record { mask = w.mask; dropped = dropped; numbers = record { items = numbers } }

    by_room : (b : Bool) → nat_lt (length w.notices) 64 ≡ b → mailbox_of (with_one_more n w) ≡ with_notice n.number (mailbox_of w)
    by_room true e = rw (length-map w.notices (λ (x : Notice). x.number), e) (ap (with_numbers w.dropped) (map-append (λ (x : Notice). x.number) w.notices (n ∷ [])))
    by_room false e = rw (length-map w.notices (λ (x : Notice). x.number), e) (ap (with_numbers (w.dropped + 1)) (map-append (λ (x : Notice). x.number) (drop 1 w.notices) (n ∷ []) ∙ ap (λ (l : List ℕ). l ++ n.number ∷ []) (sym (drop-map (λ (x : Notice). x.number) 1 w.notices))))

    by_want : (b : Bool) → mailbox_of (if b then with_one_more n w else w) ≡ (if b then with_notice n.number (mailbox_of w) else mailbox_of w)
    by_want true = by_room (nat_lt (length w.notices) 64) refl
    by_want false = refl

told_keeps_mask : (n : Notice) (w : WatchValue) → (told n w).mask ≡ w.mask
told_keeps_mask n w = by_want (wants w.mask n.family)
  where
    by_room : (b : Bool) → (if b then record w { notices = w.notices ++ n ∷ [] } else record w { dropped = w.dropped + 1; notices = drop 1 w.notices ++ n ∷ [] }).mask ≡ w.mask
    by_room true = refl
    by_room false = refl

    by_want : (b : Bool) → (if b then with_one_more n w else w).mask ≡ w.mask
    by_want true = by_room (nat_lt (length w.notices) 64)
    by_want false = refl

offered_mailbox : (n : Notice) (w : Option WatcherValue) → mailbox_of_actor (offered_to_actor n w) ≡ offered_to n.family n.number (mailbox_of_actor w)
offered_mailbox n None = refl
offered_mailbox n (Some w) = by_watching w.watching refl
  where
    by_watching : (b : Bool) → w.watching ≡ b → mailbox_of_watcher (offered_to_watcher n w) ≡ offered_to n.family n.number (mailbox_of_watcher w)
    by_watching true e = rw e (ap (λ (m : Mailbox). Some m) (told_mailbox n w.watch))
    by_watching false e = rw e refl

offered_mask : (n : Notice) (w : Option WatcherValue) → mask_of_actor (offered_to_actor n w) ≡ mask_of_actor w
offered_mask n None = refl
offered_mask n (Some w) = by_watching w.watching
  where
    by_watching : (b : Bool) → Some (if b then record w { watch = told n w.watch } else w).watch.mask ≡ Some w.watch.mask
    by_watching true = ap (λ (m : ℕ). Some m) (told_keeps_mask n w.watch)
    by_watching false = refl

masks_offered : (n : Notice) (ws : List (Option WatcherValue)) → map mask_of_actor (map (offered_to_actor n) ws) ≡ map mask_of_actor ws
masks_offered n ws = map_same (offered_to_actor n) mask_of_actor (offered_mask n) ws

-- of what the watches become
pub offered_masks : (n : Notice) (ws new : List (Option WatcherValue)) → new ≡ map (offered_to_actor n) ws → map mask_of_actor new ≡ map mask_of_actor ws
offered_masks n ws new e = ap (map mask_of_actor) e ∙ masks_offered n ws

-- ---- room

job_room : (job : Job) → job_has_room job ≡ true → mailbox_has_room job.mailbox ≡ true
job_room job h =
    let left = and_parts (nat_lt (job.answered + 1) (2 ^ 32) && mailbox_has_room job.mailbox) (begun_has_room job.begun) h in
    (and_parts (nat_lt (job.answered + 1) (2 ^ 32)) (mailbox_has_room job.mailbox) left.0).1

rooms : (jobs : List Job) → list_all job_has_room jobs ≡ true → list_all mailbox_has_room (map mailbox jobs) ≡ true
rooms [] h = refl
rooms (job ∷ jobs) h =
    let both = and_parts (job_has_room job) (list_all job_has_room jobs) h in
    rw (job_room job both.0) (rooms jobs both.1)

pub watchers_have_room : (ws : List (Option WatcherValue)) (k : Kept) → HoldMailboxes ws k.jobs → HasRoom k → list_all actor_has_room ws ≡ true
watchers_have_room ws k h room = sym (list_all-map mailbox_has_room mailbox_of_actor ws) ∙ ap (list_all mailbox_has_room) h ∙ rooms k.jobs room.jobs

-- ---- the mailboxes behind a line

beside_changes : (g : Option Mailbox → Option Mailbox) (l : Line) (epoch : ℕ) (facts : Facts) (selected : Option (List ℕ)) → ((m : Option Mailbox) → mailbox_behind l m ≡ g m) → (jobs : List Job) → map mailbox (jobs_beside l epoch facts selected jobs) ≡ map g (map mailbox jobs)
beside_changes g l epoch facts selected h jobs = map_changed (job_beside l epoch facts selected) g mailbox (λ job. h job.mailbox) jobs

beside_same : (l : Line) (epoch : ℕ) (facts : Facts) (selected : Option (List ℕ)) → ((m : Option Mailbox) → mailbox_behind l m ≡ m) → (jobs : List Job) → map mailbox (jobs_beside l epoch facts selected jobs) ≡ map mailbox jobs
beside_same l epoch facts selected h jobs = map_same (job_beside l epoch facts selected) mailbox (λ job. h job.mailbox) jobs

module _ (s : Script) (k : Kept) where
  abbrev beside : Line → List Job
  beside l = jobs_beside l k.history.epoch (facts_of s l k) k.selected k.jobs

  abbrev own : Line → Job → Job
  own l = own_job s l k (facts_of s l k) (decision_at s l k).attempt

  quiet_own : (l : Line) (a : ℕ) → ((m : Option Mailbox) → mailbox_behind l m ≡ m) → ((job : Job) → (own l job).mailbox ≡ job.mailbox) → map mailbox (change_at a (own l) (beside l)) ≡ map mailbox k.jobs
  quiet_own l a h g = change_same (own l) mailbox a (beside l) (λ job e. g job) ∙ beside_same l k.history.epoch (facts_of s l k) k.selected h k.jobs

  pub quiet_turn : (a : ℕ) → map mailbox (kept_after s (line.Turn a) k).jobs ≡ map mailbox k.jobs
  quiet_turn zero = quiet_own (line.Turn zero) zero (λ m. refl) (λ job. refl)
  quiet_turn (suc a) = quiet_own (line.Turn (suc a)) (suc a) (λ m. refl) (λ job. refl)

  pub quiet_begin : (a i : ℕ) → map mailbox (kept_after s (line.Begin a i) k).jobs ≡ map mailbox k.jobs
  quiet_begin a i = quiet_own (line.Begin a i) a (λ m. refl) (λ job. refl)

  pub quiet_exchange : (l : Line) → is_exchange l ≡ true → map mailbox (kept_after s l k).jobs ≡ map mailbox k.jobs
  quiet_exchange (line.Exchange a c r) e = quiet_own (line.Exchange a c r) a (λ m. refl) (λ job. refl)
  quiet_exchange l e = absurd (true≢false (sym e))

  pub quiet_failed : (l : Line) → is_failed l ≡ true → map mailbox (kept_after s l k).jobs ≡ map mailbox k.jobs
  quiet_failed (line.Failed a c d) e = quiet_own (line.Failed a c d) a (λ m. refl) (λ job. refl)
  quiet_failed l e = absurd (true≢false (sym e))

  pub quiet_reset : (a : ℕ) → map mailbox (kept_after s (line.Reset a) k).jobs ≡ map mailbox k.jobs
  quiet_reset a = beside_same (line.Reset a) k.history.epoch (facts_of s (line.Reset a) k) k.selected (λ m. refl) k.jobs

  pub quiet_fail_reset : (a : ℕ) → map mailbox (kept_after s (line.ResetFailed a) k).jobs ≡ map mailbox k.jobs
  quiet_fail_reset a = beside_same (line.ResetFailed a) k.history.epoch (facts_of s (line.ResetFailed a) k) k.selected (λ m. refl) k.jobs

  pub quiet_world : (a : ℕ) (e : _) → map mailbox (kept_after s (line.World a e) k).jobs ≡ map mailbox k.jobs
  quiet_world a e = beside_same (line.World a e) k.history.epoch (facts_of s (line.World a e) k) k.selected (λ m. refl) k.jobs

  pub quiet_refused : (f n : ℕ) → map mailbox (kept_after s (line.Refused f n) k).jobs ≡ map mailbox k.jobs
  quiet_refused f n = beside_same (line.Refused f n) k.history.epoch (facts_of s (line.Refused f n) k) k.selected (λ m. refl) k.jobs

  -- ---- publications

  offers : (l : Line) (n : Notice) (ws : List (Option WatcherValue)) → ((m : Option Mailbox) → mailbox_behind l m ≡ offered_to n.family n.number m) → HoldMailboxes ws k.jobs → map mailbox_of_actor (map (offered_to_actor n) ws) ≡ map mailbox (beside l)
  offers l n ws h holds =
      map_changed (offered_to_actor n) (offered_to n.family n.number) mailbox_of_actor (offered_mailbox n) ws
      ∙ ap (map (offered_to n.family n.number)) holds
      ∙ sym (beside_changes (offered_to n.family n.number) l k.history.epoch (facts_of s l k) k.selected h k.jobs)

  pub published_offers : (v f e p : ℕ) (text : List ℕ) (ws : List (Option WatcherValue)) → HoldMailboxes ws k.jobs → HoldMailboxes (map (offered_to_actor (record { number = v; family = Some f; epoch = e; point = p })) ws) (kept_after s (line.Published v f e p text) k).jobs
  published_offers v f e p text ws holds = offers (line.Published v f e p text) (record { number = v; family = Some f; epoch = e; point = p }) ws (λ m. refl) holds

  pub end_offers : (v e p : ℕ) (ws : List (Option WatcherValue)) → HoldMailboxes ws k.jobs → HoldMailboxes (map (offered_to_actor (record { number = v; family = None; epoch = e; point = p })) ws) (kept_after s (line.EpochEnd v e p) k).jobs
  end_offers v e p ws holds = offers (line.EpochEnd v e p) (record { number = v; family = None; epoch = e; point = p }) ws (λ m. refl) holds

  -- ---- answers

  op_keeps : (a : ℕ) (op : Operation) (given : Answer) (m : Option Mailbox) (i : ℕ) → operation_at s a i ≡ Some op → watching_behind s (line.Answered a i given) ≡ None → mailbox_after op given m ≡ m
  op_keeps a (operation.Watch mask) answer.Watching m i e none = absurd (some_none (sym (ap (if_watch a) e) ∙ none))
    where
      some_none : {x : ℕ} → Some x ≡ None → ⊥
      some_none h = absurd (cc)
  op_keeps a op given m i e none = refl

  pub quiet_answer : (l : Line) → is_answered l ≡ true → watching_behind s l ≡ None → map mailbox (kept_after s l k).jobs ≡ map mailbox k.jobs
  quiet_answer (line.Answered a i given) kind none = quiet_own (line.Answered a i given) a (λ m. refl) (λ job. by (operation_at s a i) refl job)
    where
      by : (op : Option Operation) → operation_at s a i ≡ op → (job : Job) → (elim op as (λ x. Option Mailbox) [ None ↦ job.mailbox | Some o ↦ mailbox_after o given job.mailbox ]) ≡ job.mailbox
      by None e job = refl
      by (Some o) e job = op_keeps a o given job.mailbox i e none
  quiet_answer l kind none = absurd (true≢false (sym kind))

-- ---- who begins to watch

begun_mask : (w : Option WatcherValue) → mask_of_actor (option_map begun w) ≡ mask_of_actor w
begun_mask None = refl
begun_mask (Some w) = refl

pub masks_begun : (a : ℕ) (ws : List (Option WatcherValue)) → map mask_of_actor (begun_at a ws) ≡ map mask_of_actor ws
masks_begun a ws = change_same (option_map begun) mask_of_actor a ws (λ w e. begun_mask w)

abbrev fresh : ℕ → Option Mailbox
fresh m = Some (mailbox_of (nothing_noticed m))

begun_fresh : (m : ℕ) (w : Option WatcherValue) → mask_of_actor w ≡ Some m → mailbox_of_actor (option_map begun w) ≡ fresh m
begun_fresh m None e = absurd (cc)
begun_fresh m (Some w) e = let same : w.watch.mask ≡ m = cc in ap fresh same

module _ (s : Script) (k : Kept) where
  begins_at : (a i m : ℕ) (ws : List (Option WatcherValue)) → operation_at s a i ≡ Some (operation.Watch m) → slice_get (map mask_of_actor ws) a ≡ Some (Some m) → HoldMailboxes ws k.jobs → HoldMailboxes (begun_at a ws) (kept_after s (line.Answered a i answer.Watching) k).jobs
  begins_at a i m ws op mask holds =
      change_mapped (option_map begun) (λ x. fresh m) mailbox_of_actor a ws (λ w e. begun_fresh m w (masked w e))
      ∙ ap (change_at a (λ x. fresh m)) (holds ∙ sym (beside_same (line.Answered a i answer.Watching) k.history.epoch (facts_of s (line.Answered a i answer.Watching) k) k.selected (λ x. refl) k.jobs))
      ∙ sym (change_mapped (own s k (line.Answered a i answer.Watching)) (λ x. fresh m) mailbox a (beside s k (line.Answered a i answer.Watching)) (λ job e. answered job))
    where
      masked : (w : Option WatcherValue) → slice_get ws a ≡ Some w → mask_of_actor w ≡ Some m
      masked w e = let there : Some (mask_of_actor w) ≡ Some (Some m) = sym (slice_get-map mask_of_actor ws a ∙ ap (option_map mask_of_actor) e) ∙ mask in cc

      answered : (job : Job) → (own s k (line.Answered a i answer.Watching) job).mailbox ≡ fresh m
      answered job = rw op refl

  pub watching_begins : (l : Line) (b : ℕ) (ws : List (Option WatcherValue)) → watching_behind s l ≡ Some b → keeps_rules s ≡ true → map mask_of_actor ws ≡ masks_asked s → HoldMailboxes ws k.jobs → HoldMailboxes (begun_at b ws) (kept_after s l k).jobs
  watching_begins (line.Answered a i answer.Watching) b ws e rules masks holds = by (operation_at s a i) refl
    where
      by : (op : Option Operation) → operation_at s a i ≡ op → HoldMailboxes (begun_at b ws) (kept_after s (line.Answered a i answer.Watching) k).jobs
      by (Some (operation.Watch m)) h =
          let same : a ≡ b = let told : Some a ≡ Some b = sym (ap (if_watch a) h) ∙ e in cc in
          subst (λ (x : ℕ). HoldMailboxes (begun_at x ws) (kept_after s (line.Answered a i answer.Watching) k).jobs) same
          (begins_at a i m ws h (ap (λ (l : List (Option ℕ)). slice_get l a) masks ∙ asked_there s rules a i m h) holds)
      by op h = absurd (let told : if_watch a op ≡ Some b = sym (ap (if_watch a) h) ∙ e in cc)
  watching_begins l b ws e rules masks holds = absurd (cc)

-- ---- what is kept, as a tracker gives it

pub held_on : (ws : List (Option WatcherValue)) (before now after : Kept) → AreHeld ws before.jobs → map mailbox after.jobs ≡ map mailbox before.jobs → now ≡ after → AreHeld ws now.jobs
held_on ws before now after h same e more = h more ∙ sym same ∙ sym (ap (λ (k : Kept). map mailbox k.jobs) e)

pub none_held : (jobs : List Job) → AreHeld [] jobs
none_held jobs more = absurd (omega arith)

pub held_have_room : (ws : List (Option WatcherValue)) (k : Kept) → AreHeld ws k.jobs → HasRoom k → list_all actor_has_room ws ≡ true
held_have_room [] k h room = refl
held_have_room (w ∷ ws) k h room = watchers_have_room (w ∷ ws) k (h (omega arith)) room

-- with watches whose masks are the same
pub held_with : (old new : List (Option WatcherValue)) (before now after : Kept) → map mask_of_actor new ≡ map mask_of_actor old → (HoldMailboxes old before.jobs → HoldMailboxes new after.jobs) → AreHeld old before.jobs → now ≡ after → AreHeld new now.jobs
held_with old new before now after masks step h e more = step (h (subst (λ (l : List (Option ℕ)). 0 < length l) masks more)) ∙ sym (ap (λ (k : Kept). map mailbox k.jobs) e)

-- ---- what a watch holds

mailbox_there : (ws : List (Option WatcherValue)) (jobs : List Job) (a : ℕ) → HoldMailboxes ws jobs → mailbox_at a ws ≡ (job_of a jobs).mailbox
mailbox_there ws jobs a h = there (slice_get ws a) (slice_get jobs a) (sym (slice_get-map mailbox_of_actor ws a) ∙ ap (λ (l : List (Option Mailbox)). slice_get l a) h ∙ slice_get-map mailbox jobs a)
  where
    there : (w : Option (Option WatcherValue)) (job : Option Job) → option_map mailbox_of_actor w ≡ option_map mailbox job → option_and_then mailbox_of_actor w ≡ (unwrap_or job first_job).mailbox
    there None None e = refl
    there (Some w) (Some job) e = cc
    there None (Some job) e = absurd (cc)
    there (Some w) None e = absurd (cc)

pub notices_there : (ws : List (Option WatcherValue)) (jobs : List Job) (a : ℕ) → AreHeld ws jobs → 0 < length (map mask_of_actor ws) → notices_of (mailbox_at a ws) ≡ notices_of (job_of a jobs).mailbox
notices_there ws jobs a h more = ap notices_of (mailbox_there ws jobs a (h more))

-- ---- before the first line

waiting_none : (mask : Option ℕ) → mailbox_of_actor (watcher_with mask) ≡ None
waiting_none None = refl
waiting_none (Some m) = refl

none_yet : (actors : List (List Operation)) → map mailbox_of_actor (map watcher_asked actors) ≡ map mailbox (replicate (length actors) first_job)
none_yet [] = refl
none_yet (ops ∷ actors) = ap (λ (m : Option Mailbox). m ∷ map mailbox_of_actor (map watcher_asked actors)) (waiting_none (mask_asked ops)) ∙ ap (λ (l : List (Option Mailbox)). None ∷ l) (none_yet actors)

pub first_held : (s : Script) (ws : List (Option WatcherValue)) (k : Kept) → ws ≡ watchers_asked s → k ≡ nothing_kept s → AreHeld ws k.jobs
first_held s ws k e first more =
    ap (map mailbox_of_actor) e ∙ rw add-one (ap (λ (l : List (Option Mailbox)). None ∷ l) (none_yet s.actors)) ∙ sym (ap (λ (x : Kept). map mailbox x.jobs) first)

waiting_mask : (mask : Option ℕ) → mask_of_actor (watcher_with mask) ≡ mask
waiting_mask None = refl
waiting_mask (Some m) = refl

masks_there : (actors : List (List Operation)) → map mask_of_actor (map watcher_asked actors) ≡ map mask_asked actors
masks_there [] = refl
masks_there (ops ∷ actors) = ap (λ (m : Option ℕ). m ∷ map mask_of_actor (map watcher_asked actors)) (waiting_mask (mask_asked ops)) ∙ ap (λ (l : List (Option ℕ)). mask_asked ops ∷ l) (masks_there actors)

pub first_masks : (s : Script) (ws : List (Option WatcherValue)) → ws ≡ watchers_asked s → map mask_of_actor ws ≡ masks_asked s
first_masks s ws e = ap (map mask_of_actor) e ∙ ap (λ (l : List (Option ℕ)). None ∷ l) (masks_there s.actors)

-- ---- as a value

abbrev watched_value : Kept → List (Option ℕ) → WatchedValue
watched_value k masks = record { kept = k; masks = masks }

pub same_value : (k now : Kept) (masks : List (Option ℕ)) (ms : List (Option ℕ)) → k ≡ now → masks ≡ ms → watched_value k masks ≡ watched_value now ms
same_value k now masks ms e f = ap (λ (x : Kept). watched_value x masks) e ∙ ap (watched_value now) f

-- ---- nobody

pub not_watching : (o : Option ℕ) → ((a : ℕ) → o ≡ Some a → ⊥) → o ≡ None
not_watching None h = refl
not_watching (Some a) h = absurd (h a refl)
