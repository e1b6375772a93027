-- An actor answers at most its operations, has one left while one has begun, and dropped no more notices than there were publications. The
-- channels that are held are logical channels beside the basic one.
use Rattle.std.proofs.Common.{◌≡◌, ℕ, zero, suc, ◌+◌, ◌≤◌, ◌<◌, ◌==◌, ◌&&◌, Bool, true, false, if◌then◌else◌, List, [], ◌∷◌, length, not, Option, Some, None, is_some, refl, sym, ap, ◌∙◌, subst, arith, true≢false}
use Rattle.std.specs.Prelude.{nat_lt, nat_le, ◌++◌, drop, option_map, slice_get, unwrap_or}
use Rattle.std.specs.List.{list_all}
use Rattle.std.proofs.lemmas.Bool.{and_parts, eqb-true, ltb-true}
use Rattle.apdu.specs.Words.{is_between, is_one_of, or_else}
use Rattle.apdu.specs.Apdu.{is_success, wants_more, select_ins}
use Rattle.script_reader.specs.declared.types.Script.{Script}
use Rattle.script_reader.specs.declared.types.Operation.{Operation}
use Rattle.script_reader.specs.declared.types.Operation.TheVariants as operation
use Rattle.report.specs.declared.answer.Answer.{Answer}
use Rattle.report.specs.declared.answer.Answer.TheVariants as answer
use Rattle.report.specs.declared.line.Line.{Line}
use Rattle.report.specs.declared.line.Line.TheVariants as line
use Rattle.link.specs.declared.chain.Final.{Final}
use Rattle.link.specs.Commands.{is_refused}
use Rattle.channels.specs.Channels.{is_opening, new_number, opened_number}
use Rattle.loader.specs.Reading.{has_bad_fcp}
use Rattle.loader.specs.declared.reading.RefusedReading.{RefusedReading}
use Rattle.epoch_cache.specs.Past.{counted}
use Rattle.watchers.specs.declared.mailbox.Mailbox.{Mailbox}
use Rattle.watchers.specs.Watching.{mailbox_len, offered_to, wants, with_notice}
use Rattle.rules.specs.declared.holdings.Handle.{Handle}
use Rattle.rules.specs.declared.kept.Begun.{Begun}
use Rattle.rules.specs.declared.kept.Facts.{Facts}
use Rattle.rules.specs.declared.kept.Job.{Job}
use Rattle.rules.specs.declared.kept.Kept.{Kept}
use Rattle.rules.specs.declared.kept.Outcome.{Outcome}
use Rattle.rules.specs.declared.kept.Outcome.TheVariants as outcome
use Rattle.rules.specs.declared.kept.Turn.{Turn}
use Rattle.rules.specs.History.{ends_epoch}
use Rattle.rules.specs.Channels.{held_numbers, ended_handle, ended_handles}
use Rattle.rules.specs.Watching.{mailbox_after}
use Rattle.rules.specs.Kept.{actor_count, first_job, job_of, begun_of, begun_operation, operation_at, operation_now, operations_of}
use Rattle.rules.specs.Work.{has_operations_left}
use Rattle.rules.specs.Due.{due}
use Rattle.rules.specs.Rules.{is_turn_of, is_begun_at}
use Rattle.rules.specs.After.{is_publication, begun_beside, begun_with, begun_exchanged, begun_failed, mailbox_behind, job_beside, jobs_beside, edit_of, own_job, handles_given, decision_at, facts_of, refused_of, opened_behind, no_channel_left, refused_outcome, success_or_refusal, opening_outcome, selecting_outcome, outcome_of, turn_answered, turn_exchanged, kept_after, kept_of}
use Rattle.performed.proofs.TurnsJobs.{Before, before, behind_job, first_jobs, is_own}
use Rattle.performed.proofs.TurnsSays.{BeginsNow, begins_now}
use Rattle.performed.proofs.Handles.{given_good, Opens, opens}
use Rattle.performed.proofs.Lists.{all_mapped}
use Rattle.performed.specs.Names.{has_utf8_name, has_utf8_names}
use Rattle.performed.specs.Followed.{are_followed, is_followed, is_given_or_refused}
use Rattle.performed.specs.Laws.{is_channel, DropsAtMost}

-- ---- the operations of a script

abbrev pub ServesAt : Option Operation → Type 0
ServesAt None = Unit {0}
ServesAt (Some op) = has_utf8_name op ≡ true

served_in : (ops : List Operation) (i : ℕ) → list_all has_utf8_name ops ≡ true → ServesAt (slice_get ops i)
served_in [] i h = tt
served_in (op ∷ ops) zero h = (and_parts (has_utf8_name op) (list_all has_utf8_name ops) h).0
served_in (op ∷ ops) (suc i) h = served_in ops i (and_parts (has_utf8_name op) (list_all has_utf8_name ops) h).1

served_actor : (actors : List (List Operation)) (a i : ℕ) → list_all (list_all has_utf8_name) actors ≡ true → ServesAt (slice_get (unwrap_or (slice_get actors a) []) i)
served_actor [] a i h = tt
served_actor (ops ∷ actors) zero i h = served_in ops i (and_parts (list_all has_utf8_name ops) (list_all (list_all has_utf8_name) actors) h).0
served_actor (ops ∷ actors) (suc a) i h = served_actor actors a i (and_parts (list_all has_utf8_name ops) (list_all (list_all has_utf8_name) actors) h).1

pub served_at : (s : Script) (a i : ℕ) → has_utf8_names s ≡ true → ServesAt (operation_at s a i)
served_at s zero i h = tt
served_at s (suc a) i h = served_actor s.actors a i h

pub served_now : (s : Script) (a : ℕ) (o : Option Begun) → has_utf8_names s ≡ true → ServesAt (begun_operation s a o)
served_now s a None h = tt
served_now s a (Some b) h = served_at s a b.index h

-- ---- a mailbox

with_notice_drops : (n number : ℕ) (m : Mailbox) → m.dropped ≤ n → (with_notice number m).dropped ≤ n + 1
with_notice_drops n number m h = by_room (nat_lt (length m.numbers.items) mailbox_len)
  where
    by_room : (b : Bool) → (if b then record m { numbers = record { items = m.numbers.items ++ number ∷ [] } } else record m { dropped = m.dropped + 1; numbers = record { items = drop 1 m.numbers.items ++ number ∷ [] } }).dropped ≤ n + 1
    by_room true = omega (arith, h)
    by_room false = omega (arith, h)

offered_drops : (kind : Option ℕ) (number n : ℕ) (o : Option Mailbox) → DropsAtMost n o → DropsAtMost (n + 1) (offered_to kind number o)
offered_drops kind number n None h = tt
offered_drops kind number n (Some m) h = by_want (wants m.mask kind)
  where
    by_want : (b : Bool) → (if b then with_notice number m else m).dropped ≤ n + 1
    by_want true = with_notice_drops n number m h
    by_want false = omega (arith, h)

-- behind a line
drops_behind : (l : Line) (n : ℕ) (o : Option Mailbox) → DropsAtMost n o → DropsAtMost (counted (is_publication l) n) (mailbox_behind l o)
drops_behind (line.Published k f e v text) n o h = offered_drops (Some f) k n o h
drops_behind (line.EpochEnd k e v) n o h = offered_drops None k n o h
drops_behind (line.Turn a) n o h = h
drops_behind (line.Begin a op) n o h = h
drops_behind (line.Exchange a c r) n o h = h
drops_behind (line.Failed a c d) n o h = h
drops_behind (line.Reset a) n o h = h
drops_behind (line.ResetFailed a) n o h = h
drops_behind (line.World a e) n o h = h
drops_behind (line.Refused f v) n o h = h
drops_behind (line.Answered a op given) n o h = h

-- behind the answer to an operation
drops_after : (op : Operation) (given : Answer) (n : ℕ) (o : Option Mailbox) → DropsAtMost n o → DropsAtMost n (mailbox_after op given o)
drops_after (operation.Watch mask) answer.Watching n o h = omega arith
drops_after op given n o h = h

drops_answered : (op : Option Operation) (given : Answer) (n : ℕ) (o : Option Mailbox) → DropsAtMost n o → DropsAtMost n (elim op as (λ x. Option Mailbox) [ None ↦ o | Some x ↦ mailbox_after x given o ])
drops_answered None given n o h = h
drops_answered (Some op) given n o h = drops_after op given n o h

-- ---- a job

-- it has answered at most its operations, has one left while one has begun, and dropped at most so many notices
pub record KeepsJob (s : Script) (n i : ℕ) (x : Job) : Type 0 where
  pub answered : x.answered ≤ length (operations_of s i)
  pub left : is_some x.begun ≡ true → x.answered < length (operations_of s i)
  pub mailbox : DropsAtMost n x.mailbox

some_map : (f : Begun → Begun) (o : Option Begun) → is_some (option_map f o) ≡ is_some o
some_map f None = refl
some_map f (Some b) = refl

module _ (s : Script) (i : ℕ) where
  -- what changes its operation and its mailbox, and not its answers
  changed : (f : Begun → Begun) → (n m : ℕ) (x y : Job) → y.answered ≡ x.answered → y.begun ≡ option_map f x.begun → DropsAtMost m y.mailbox → KeepsJob s n i x → KeepsJob s m i y
  changed f n m x y same begun mailbox k = record {
    answered = subst (λ (n : ℕ). n ≤ length (operations_of s i)) (sym same) k.answered;
    left = λ e. subst (λ (n : ℕ). n < length (operations_of s i)) (sym same) (k.left (sym (some_map f x.begun) ∙ sym (ap is_some begun) ∙ e));
    mailbox = mailbox;
  }

  beside : (l : Line) (epoch : ℕ) (facts : Facts) (selected : Option (List ℕ)) (n : ℕ) (x : Job) → KeepsJob s n i x → KeepsJob s (counted (is_publication l) n) i (job_beside l epoch facts selected x)
  beside l epoch facts selected n x k = changed (begun_beside l epoch facts) n (counted (is_publication l) n) x (job_beside l epoch facts selected x) refl refl (drops_behind l n x.mailbox k.mailbox) k

-- ---- what its own line does

not_false : (b : Bool) → not b ≡ false → b ≡ true
not_false true h = refl
not_false false h = absurd (true≢false h)

pub begun_some : (op : ℕ) (o : Option Begun) → is_begun_at op o ≡ true → is_some o ≡ true
begun_some op None h = h
begun_some op (Some b) h = refl

module _ (s : Script) (k : Kept) (i : ℕ) where
  either : (b : Bool) (n : ℕ) (y z : Job) → (b ≡ true → KeepsJob s n i y) → KeepsJob s n i z → KeepsJob s n i (if b then y else z)
  either true n y z h g = h refl
  either false n y z h g = g

  -- how many publications there were before, and behind a line
  abbrev so_far : ℕ
  so_far = k.publications

  abbrev behind : Line → ℕ
  behind l = counted (is_publication l) k.publications

  -- behind what the line does to every job
  abbrev near : Line → Job → Job
  near l x = job_beside l k.history.epoch (facts_of s l k) k.selected x

  abbrev own : Line → Job → Job
  own l x = own_job s l k (facts_of s l k) (decision_at s l k).attempt (near l x)

  near_kept : (l : Line) (x : Job) → KeepsJob s so_far i x → KeepsJob s (behind l) i (near l x)
  near_kept l x h = beside s i l k.history.epoch (facts_of s l k) k.selected so_far x h

  job_here : (x : Job) → slice_get k.jobs i ≡ Some x → job_of i k.jobs ≡ x
  job_here x here = ap (λ (o : Option Job). unwrap_or o first_job) here

  -- one that begins is left
  begin_left : (a op : ℕ) (x : Job) → is_followed s k (line.Begin a op) ≡ true → slice_get k.jobs i ≡ Some x → (a == i) ≡ true → x.answered < length (operations_of s i)
  begin_left a op x f here same =
      let n : BeginsNow s k a op = begins_now s k a op f in
      let more : has_operations_left s k (suc n.begins.actor) ≡ true = not_false (has_operations_left s k (suc n.begins.actor)) n.begins.left in
      let at : suc n.begins.actor ≡ i = sym n.same ∙ eqb-true a i same in
      let t : nat_lt (job_of i k.jobs).answered (length (operations_of s i)) ≡ true = subst (λ (m : ℕ). nat_lt (job_of m k.jobs).answered (length (operations_of s m)) ≡ true) at more in
      subst (λ (y : Job). y.answered < length (operations_of s i)) (job_here x here) (ltb-true (job_of i k.jobs).answered (length (operations_of s i)) t)

  -- one that is answered had begun
  answer_left : (a op : ℕ) (given : Answer) (x : Job) → is_followed s k (line.Answered a op given) ≡ true → slice_get k.jobs i ≡ Some x → (a == i) ≡ true → is_some x.begun ≡ true
  answer_left a op given x f here same =
      let p = and_parts (is_turn_of a k.turn) (is_begun_at op (begun_of a k.jobs) && is_given_or_refused given (due s k)) f in
      let q = and_parts (is_begun_at op (begun_of a k.jobs)) (is_given_or_refused given (due s k)) p.1 in
      let t : is_begun_at op (begun_of i k.jobs) ≡ true = subst (λ (n : ℕ). is_begun_at op (begun_of n k.jobs) ≡ true) (eqb-true a i same) q.0 in
      begun_some op x.begun (subst (λ (y : Job). is_begun_at op y.begun ≡ true) (job_here x here) t)

  own_kept : (l : Line) (x : Job) → is_followed s k l ≡ true → slice_get k.jobs i ≡ Some x → is_own i l ≡ true → KeepsJob s so_far i x → KeepsJob s (behind l) i (own l x)
  own_kept (line.Turn zero) x f here same h =
      let n = near_kept (line.Turn zero) x h in
      record { answered = n.answered; left = n.left; mailbox = n.mailbox }
  own_kept (line.Turn (suc a)) x f here same h =
      let l : Line = line.Turn (suc a) in
      let n = near_kept l x h in
      changed s i (begun_with (decision_at s l k).attempt) so_far so_far (near l x) (own l x) refl refl n.mailbox n
  own_kept (line.Begin a op) x f here same h =
      let l : Line = line.Begin a op in
      let n = near_kept l x h in
      record {
        answered = n.answered;
        left = λ e. begin_left a op x f here same;
        mailbox = n.mailbox;
      }
  own_kept (line.Exchange a c r) x f here same h =
      let l : Line = line.Exchange a c r in
      let n = near_kept l x h in
      changed s i (begun_exchanged (edit_of (operation_now s a k.jobs)) k.selected k.chain (facts_of s l k).event c r) so_far so_far (near l x) (own l x) refl refl n.mailbox n
  own_kept (line.Failed a c d) x f here same h =
      let l : Line = line.Failed a c d in
      let n = near_kept l x h in
      changed s i (begun_failed (edit_of (operation_now s a k.jobs)) k.selected k.chain (facts_of s l k).event c) so_far so_far (near l x) (own l x) refl refl n.mailbox n
  own_kept (line.Answered a op given) x f here same h =
      let l : Line = line.Answered a op given in
      let n = near_kept l x h in
      let more = h.left (answer_left a op given x f here same) in
      record {
        answered = omega arith;
        left = λ e. absurd (true≢false (sym e));
        mailbox = drops_answered (operation_at s a op) given so_far (near l x).mailbox n.mailbox;
      }
  own_kept l x f here same h = absurd (true≢false (sym same))

  job_kept : (l : Line) (x : Job) → is_followed s k l ≡ true → slice_get k.jobs i ≡ Some x → KeepsJob s so_far i x → KeepsJob s (behind l) i (behind_job s l k i x)
  job_kept l x f here h = either (is_own i l) (behind l) (own l x) (near l x) (λ same. own_kept l x f here same h) (near_kept l x h)

-- ---- the channels that are opened

abbrev is_number : ℕ → Bool
is_number n = nat_le 1 n && nat_le n 19

abbrev is_opened : Option ℕ → Bool
is_opened None = true
is_opened (Some n) = is_number n

abbrev is_outcome : Option Outcome → Bool
is_outcome (Some (outcome.Opened n)) = is_number n
is_outcome o = true

-- what a turn opened has such a number
pub record KeepsTurn (t : Turn) : Type 0 where
  pub opened : is_opened t.opened ≡ true
  pub outcome : is_outcome t.outcome ≡ true

number_between : (n : ℕ) (held : List ℕ) (b : Bool) → is_between 1 19 n && not (is_one_of n held) ≡ b → is_opened (if b then Some n else None) ≡ true
number_between n held true h = (and_parts (is_between 1 19 n) (not (is_one_of n held)) h).0
number_between n held false h = refl

number_new : (held body : List ℕ) → is_opened (new_number held body) ≡ true
number_new held [] = refl
number_new held (n ∷ []) = number_between n held (is_between 1 19 n && not (is_one_of n held)) refl
number_new held (n ∷ m ∷ body) = refl

either_opened : (b : Bool) (x y : Option ℕ) → is_opened x ≡ true → is_opened y ≡ true → is_opened (if b then x else y) ≡ true
either_opened true x y h g = h
either_opened false x y h g = g

opened_kept : (held : List ℕ) (f : Final) (before : Option ℕ) → is_opened before ≡ true → is_opened (opened_behind held f before) ≡ true
opened_kept held f before h = either_opened (is_opening f.command) (opened_number held f) before (either_opened (is_success f.response.sw) (new_number held f.response.body) None (number_new held f.response.body) refl) h

either_outcome : (b : Bool) (x y : Option Outcome) → is_outcome x ≡ true → is_outcome y ≡ true → is_outcome (if b then x else y) ≡ true
either_outcome true x y h g = h
either_outcome false x y h g = g

else_outcome : (x y : Option Outcome) → is_outcome x ≡ true → is_outcome y ≡ true → is_outcome (or_else x y) ≡ true
else_outcome None y h g = g
else_outcome (Some x) y h g = h

module _ (f : Final) where
  abbrev status : Outcome
  status = outcome.Status (record { 0 = f.response.sw }) f.event

  abbrev bad_fcp : Option Outcome
  bad_fcp = if has_bad_fcp f then Some (outcome.BadFcp f.event) else None

  refused_kept : is_outcome (refused_outcome f) ≡ true
  refused_kept =
      either_outcome (wants_more f.response.sw) (Some (outcome.Loop f.event)) (if is_refused f then Some status else bad_fcp) refl
      (either_outcome (is_refused f) (Some status) bad_fcp refl (either_outcome (has_bad_fcp f) (Some (outcome.BadFcp f.event)) None refl refl))

  success_kept : (good : Outcome) → is_outcome (Some good) ≡ true → is_outcome (success_or_refusal good f) ≡ true
  success_kept good h = either_outcome (is_success f.response.sw) (Some good) (refused_outcome f) h refused_kept

  opening_kept : (opened : Option ℕ) → is_outcome (opening_outcome opened f) ≡ true
  opening_kept (Some n) = refl
  opening_kept None =
      either_outcome (f.response.sw == no_channel_left) (Some (outcome.Exhausted f.event)) (if is_success f.response.sw then Some status else refused_outcome f) refl
      (either_outcome (is_success f.response.sw) (Some status) (refused_outcome f) refl refused_kept)

  selecting_kept : (opened : Option ℕ) → is_opened opened ≡ true → is_outcome (selecting_outcome opened f) ≡ true
  selecting_kept None h = refused_kept
  selecting_kept (Some n) h = success_kept (outcome.Opened n) h

  abbrev selects : Option ℕ → Option Outcome
  selects opened = if f.command.ins == select_ins then selecting_outcome opened f else None

  outcome_kept : (op : Option Operation) (opened : Option ℕ) → is_opened opened ≡ true → is_outcome (outcome_of op opened f) ≡ true
  outcome_kept (Some (operation.OpenChannel handle aid)) opened h =
      either_outcome (is_opening f.command) (opening_outcome opened f) (selects opened) (opening_kept opened)
      (either_outcome (f.command.ins == select_ins) (selecting_outcome opened f) None (selecting_kept opened h) refl)
  outcome_kept (Some (operation.Raw handle apdu)) opened h = either_outcome (wants_more f.response.sw) (Some (outcome.Loop f.event)) (Some (outcome.Raw f.response)) refl refl
  outcome_kept (Some (operation.Close handle)) opened h = success_kept outcome.Closed refl
  outcome_kept (Some (operation.Verify key pin)) opened h = either_outcome (is_success f.response.sw) (Some outcome.Verified) (Some status) refl refl
  outcome_kept (Some operation.Poll) opened h = success_kept outcome.Polled refl
  outcome_kept op opened h = refused_kept

-- a command of the turn, answered or not yet
module _ (op : Option Operation) (job : Job) (held : List ℕ) (facts : Facts) (refused : Option RefusedReading) (t : Turn) (h : KeepsTurn t) where
  exchanged_by : (o : Option Final) → KeepsTurn (elim o [ None ↦ record t { bare = false } | Some f ↦ turn_answered op job (opened_behind held f t.opened) facts.touch.refresh refused f t ])
  exchanged_by None = record { opened = h.opened; outcome = h.outcome }
  exchanged_by (Some f) =
      let opened = opened_kept held f t.opened h.opened in
      record {
        opened = opened;
        outcome = else_outcome t.outcome (outcome_of op (opened_behind held f t.opened) f) h.outcome (outcome_kept f op (opened_behind held f t.opened) opened);
      }

  exchanged_kept : KeepsTurn (turn_exchanged op job held facts refused t)
  exchanged_kept = exchanged_by facts.answered

module _ (s : Script) (k : Kept) (h : KeepsTurn k.turn) where
  turn_kept : (l : Line) → KeepsTurn (kept_after s l k).turn
  turn_kept (line.Turn a) = record { opened = refl; outcome = refl }
  turn_kept (line.Exchange a c r) =
      let l : Line = line.Exchange a c r in
      let facts : Facts = facts_of s l k in
      exchanged_kept (operation_now s a k.jobs) (job_of a (kept_after s l k).jobs) (held_numbers k.history k.handles) facts
      (refused_of k.selected (jobs_beside l k.history.epoch facts k.selected k.jobs) facts.answered) k.turn h
  turn_kept (line.Begin a i) = record { opened = h.opened; outcome = h.outcome }
  turn_kept (line.Failed a c d) = record { opened = h.opened; outcome = h.outcome }
  turn_kept (line.Reset a) = record { opened = h.opened; outcome = h.outcome }
  turn_kept (line.ResetFailed a) = record { opened = h.opened; outcome = h.outcome }
  turn_kept (line.World a e) = record { opened = h.opened; outcome = h.outcome }
  turn_kept (line.Published n f e v text) = record { opened = h.opened; outcome = h.outcome }
  turn_kept (line.EpochEnd n e v) = record { opened = h.opened; outcome = h.outcome }
  turn_kept (line.Refused f n) = record { opened = h.opened; outcome = h.outcome }
  turn_kept (line.Answered a i given) = record { opened = h.opened; outcome = h.outcome }

  -- ---- the channels that are held

  ended_channel : (epoch event : ℕ) (b : Bool) (x : Handle) → is_channel x ≡ true → is_channel (if b then record x { ended = Some event } else x) ≡ true
  ended_channel epoch event true x e = e
  ended_channel epoch event false x e = e

  given_channel : (l : Line) (a i handle number : ℕ) (aid : List ℕ) → is_followed s k l ≡ true → l ≡ line.Answered a i (answer.Opened number) → operation_at s a i ≡ Some (operation.OpenChannel handle aid) → is_number number ≡ true
  given_channel l a i handle number aid f e op =
      let o : Opens k a number = opens s k a i number handle aid op (subst (λ (x : Line). is_followed s k x ≡ true) e f) in
      subst (λ (x : Option Outcome). is_outcome x ≡ true) o.outcome h.outcome

  channels_by : (l : Line) (b : Bool) → is_followed s k l ≡ true → list_all is_channel k.handles ≡ true → list_all is_channel (if b then ended_handles k.history.epoch (facts_of s l k).event k.handles else handles_given s l k.history.epoch k.handles) ≡ true
  channels_by l true f held =
      let event : ℕ = k.history.events + 1 in
      all_mapped is_channel is_channel (ended_handle k.history.epoch event) (λ x e. ended_channel k.history.epoch event (x.epoch == k.history.epoch) x e) k.handles held
  channels_by l false f held = given_good is_channel s l k.history.epoch k.handles held (λ a i handle number aid e op. given_channel l a i handle number aid f e op)

  channels_kept : (l : Line) → is_followed s k l ≡ true → list_all is_channel k.handles ≡ true → list_all is_channel (kept_after s l k).handles ≡ true
  channels_kept l f held = channels_by l (ends_epoch l k.history) f held

-- ---- all lines

pub record Keeps (s : Script) (k : Kept) : Type 0 where
  pub jobs : (i : ℕ) (x : Job) → slice_get k.jobs i ≡ Some x → KeepsJob s k.publications i x
  pub handles : list_all is_channel k.handles ≡ true
  pub turn : KeepsTurn k.turn

first_keeps : (s : Script) (i : ℕ) → KeepsJob s 0 i first_job
first_keeps s i = record { answered = omega arith; left = λ e. absurd (true≢false (sym e)); mailbox = tt }

pub keeps : (s : Script) (lines : List Line) → are_followed s lines ≡ true → Keeps s (kept_of s lines)
keeps s [] followed = record {
  jobs = λ i x h. subst (λ (y : Job). KeepsJob s 0 i y) (sym (first_jobs (actor_count s + 1) i x h)) (first_keeps s i);
  handles = refl;
  turn = record { opened = refl; outcome = refl };
}
keeps s (l ∷ earlier) followed =
    let k : Kept = kept_of s earlier in
    let p = and_parts (are_followed s earlier) (is_followed s k l) followed in
    let h : Keeps s k = keeps s earlier p.0 in
    record {
      jobs = λ i y here.
          let b : Before s l k i y = before s l k i y here in
          subst (λ (z : Job). KeepsJob s (kept_after s l k).publications i z) (sym b.became) (job_kept s k i l b.job p.1 b.here (h.jobs i b.job b.here));
      handles = channels_kept s k h.turn l p.1 h.handles;
      turn = turn_kept s k h.turn l;
    }
