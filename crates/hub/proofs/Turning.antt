-- A turn under way: what its next line may ask for, and what it leaves.
use Rattle.std.proofs.Common.{◌≡◌, ◌≤◌, ◌<◌, ◌+◌, ◌^◌, ◌++◌, inl, inr, ℕ, zero, suc, not, Bool, true, false, nat_le, nat_lt, if◌then◌else◌, List, [], ◌∷◌, length, Option, Some, None, is_some, refl, sym, ap, ◌∙◌, subst, true≢false, arith, leb-true, lt-ltb, ltb-true, ltb-false}
use Rattle.std.specs.List.{list_all}
use Rattle.std.proofs.lemmas.Bool.{and_parts}
use Rattle.script_reader.specs.declared.types.Script.{Script}
use Rattle.script_reader.specs.declared.types.Operation.{Operation}
use Rattle.report.specs.declared.line.Line.{Line}
use Rattle.report.specs.declared.line.Line.TheVariants as line
use Rattle.link.specs.declared.chain.Final.{Final}
use Rattle.loader.specs.declared.reading.RefusedReading.{RefusedReading}
use Rattle.rules.specs.declared.holdings.Handle.{Handle}
use Rattle.rules.specs.declared.kept.Begun.{Begun}
use Rattle.rules.specs.declared.kept.Facts.{Facts}
use Rattle.rules.specs.declared.kept.Job.{Job}
use Rattle.rules.specs.declared.kept.Kept.{Kept}
use Rattle.rules.specs.declared.kept.Turn.{Turn}
use Rattle.rules.specs.Kept.{begun_of}
use Rattle.rules.specs.After.{facts_of, is_mark, kept_after, kept_of, turn_exchanged}
use Rattle.families.specs.Plans.{plan_updates}
use Rattle.adn.specs.declared.edit.RowUpdate.{RowUpdate}
use Rattle.editor.specs.declared.editing.Attempt.{Attempt}
use Rattle.watchers.specs.declared.mailbox.Mailbox.{Mailbox}
use Rattle.planner.specs.Room.{attempt_fits, begun_fits as updates_fit, is_short, turn_fits, update_fits, handles_fit}
use Rattle.tracker.specs.Room.{CountsOn, HasRoom, attempt_has_room, begun_has_room, job_has_room, mailbox_has_room}
use Rattle.hub.specs.Short.{are_short, is_row_number, is_short_attempt, is_short_begun, is_short_job}
use Rattle.performed.specs.Laws.{AreCounted, ArePlainJobs, IsPlain, IsPlainJob, DropsAtMost, StaysPlain, has_no_mark, is_channel}
use Rattle.performed.proofs.Counts.{counts}
use Rattle.performed.proofs.TurnsKept.{goes_on}
use Rattle.hub.specs.Parts.{Parts}
use Rattle.hub.specs.Settled.{IsReady, IsTied, IsSince, IsTurning, IsUnderWay, most_of_text}

-- ---- plain jobs

answered_fits : (n : ℕ) → n ≤ 1000 → nat_lt (n + 1) (2 ^ 32) ≡ true
answered_fits n h = lt-ltb (n + 1) (2 ^ 32) (omega arith)

all_weaker : {A : Type 0} (p q : A → Bool) (xs : List A) → ((x : A) → p x ≡ true → q x ≡ true) → list_all p xs ≡ true → list_all q xs ≡ true
all_weaker p q [] each h = refl
all_weaker p q (x ∷ xs) each h = let parts = and_parts (p x) (list_all p xs) h in rw (each x parts.0) (all_weaker p q xs each parts.1)

-- ---- edits that are short

updates_short : (updates : List RowUpdate) → list_all is_short updates ≡ true → list_all update_fits updates ≡ true
updates_short updates h = all_weaker is_short update_fits updates (λ u e. (and_parts (update_fits u) (nat_le u.row 255) e).0) h

attempt_room : (n : ℕ) (a : Option Attempt) → n + 1 < 2 ^ 64 → is_short_attempt n a ≡ true → attempt_has_room a ≡ true
attempt_room n None few h = refl
attempt_room n (Some a) few h =
    let parts = and_parts (list_all is_short (plan_updates a.plan)) (nat_le a.sent n) h in
    let low = leb-true a.sent n parts.1 in
    rw (lt-ltb (a.sent + 1) (2 ^ 64) (omega arith)) (updates_short (plan_updates a.plan) parts.0)

begun_room : (n : ℕ) (o : Option Begun) → n + 1 < 2 ^ 64 → is_short_begun n o ≡ true → begun_has_room o ≡ true
begun_room n None few h = refl
begun_room n (Some b) few h = attempt_room n b.editing.attempt few (and_parts (is_short_attempt n b.editing.attempt) (list_all is_row_number b.editing.marked) h).0

mailbox_room : (n published : ℕ) (o : Option Mailbox) → n + 1 < 2 ^ 64 → published ≤ n → DropsAtMost published o → mailbox_has_room o ≡ true
mailbox_room n published None few most h = refl
mailbox_room n published (Some m) few most h = lt-ltb (m.dropped + 1) (2 ^ 64) (omega (arith, most, few, h))

module _ (n published : ℕ) (few : n + 1 < 2 ^ 64) (most : published ≤ n) where
  job_room : (job : Job) → IsPlainJob published job → is_short_job n job ≡ true → job_has_room job ≡ true
  job_room job h short = rw (answered_fits job.answered h.answered, mailbox_room n published job.mailbox few most h.mailbox, begun_room n job.begun few short) refl

  jobs_room : (jobs : List Job) → ArePlainJobs published jobs → are_short n jobs ≡ true → list_all job_has_room jobs ≡ true
  jobs_room [] h short = refl
  jobs_room (job ∷ jobs) h short =
      let parts = and_parts (is_short_job n job) (are_short n jobs) short in
      rw (job_room job h.0 parts.0) (jobs_room jobs h.1 parts.1)

attempt_updates : (n : ℕ) (a : Option Attempt) → is_short_attempt n a ≡ true → attempt_fits a ≡ true
attempt_updates n None h = refl
attempt_updates n (Some a) h = updates_short (plan_updates a.plan) (and_parts (list_all is_short (plan_updates a.plan)) (nat_le a.sent n) h).0

begun_updates : (n : ℕ) (o : Option Begun) → is_short_begun n o ≡ true → updates_fit o ≡ true
begun_updates n None h = refl
begun_updates n (Some b) h = attempt_updates n b.editing.attempt (and_parts (is_short_attempt n b.editing.attempt) (list_all is_row_number b.editing.marked) h).0

pub begun_short_at : (n : ℕ) (jobs : List Job) (a : ℕ) → are_short n jobs ≡ true → is_short_begun n (begun_of a jobs) ≡ true
begun_short_at n [] a h = refl
begun_short_at n (job ∷ jobs) zero h = (and_parts (is_short_job n job) (are_short n jobs) h).0
begun_short_at n (job ∷ jobs) (suc a) h = begun_short_at n jobs a (and_parts (is_short_job n job) (are_short n jobs) h).1

turn_updates : (n : ℕ) (o : Option ℕ) (jobs : List Job) → are_short n jobs ≡ true → turn_fits o jobs ≡ true
turn_updates n None jobs h = refl
turn_updates n (Some a) jobs h = begun_updates n (begun_of a jobs) (begun_short_at n jobs a h)

-- ---- room to keep one line more

counts_on : (n : ℕ) (k : Kept) → AreCounted n k → n + 1 < 2 ^ 64 → CountsOn k.history k.publications k.marks
counts_on n k c h =
    let e = c.events in
    let l = c.calls in
    let p = c.epoch in
    let q = c.publications in
    let m = c.marks in
    record { events = omega arith; calls = omega arith; epoch = omega arith; publications = omega arith; marks = omega arith }

-- ---- the channels that are held

handles_by : (hs : List Handle) → list_all is_channel hs ≡ true → handles_fit hs ≡ true
handles_by [] h = refl
handles_by (x ∷ hs) h =
    let q = and_parts (is_channel x) (list_all is_channel hs) h in
    let few = and_parts (nat_le 1 x.number) (nat_le x.number 19) q.0 in
    rw (few.1) (handles_by hs q.1)

module _ (law : StaysPlain) (p : Parts) (t : IsTied p) where
  plain : IsPlain p.kept
  plain = subst IsPlain (sym t.kept) (law p.script p.lines.lines t.lines.rules t.lines.followed)

  counted : AreCounted (length p.lines.lines) p.kept
  counted = subst (AreCounted (length p.lines.lines)) (sym t.kept) (counts p.script p.lines.lines)

  pub has_room : length p.lines.lines + 1 < 2 ^ 64 → HasRoom p.kept
  has_room h = record {
    counters = counts_on (length p.lines.lines) p.kept counted h;
    jobs = jobs_room (length p.lines.lines) p.kept.publications h counted.publications p.kept.jobs plain.jobs t.short;
  }

  pub handles_small : handles_fit p.kept.handles ≡ true
  handles_small = handles_by p.kept.handles plain.handles

-- ---- whose turn it is

led_actor : (op : Option Operation) (job : Job) (held : List ℕ) (facts : Facts) (refused : Option RefusedReading) (t : Turn) (o : Option Final) → facts.answered ≡ o → (turn_exchanged op job held facts refused t).actor ≡ t.actor
led_actor op job held facts refused t None e = rw e refl
led_actor op job held facts refused t (Some f) e = rw e refl

line_actor : (s : Script) (l : Line) (k : Kept) → is_mark l ≡ false → (kept_after s l k).turn.actor ≡ k.turn.actor
line_actor s (line.Turn a) k m = absurd (true≢false m)
line_actor s (line.Begin a i) k m = refl
line_actor s (line.Exchange a c r) k m = led_actor _ _ _ (facts_of s (line.Exchange a c r) k) _ k.turn (facts_of s (line.Exchange a c r) k).answered refl
line_actor s (line.Failed a c d) k m = refl
line_actor s (line.Reset a) k m = refl
line_actor s (line.ResetFailed a) k m = refl
line_actor s (line.World a e) k m = refl
line_actor s (line.Published n f e v text) k m = refl
line_actor s (line.EpochEnd n e v) k m = refl
line_actor s (line.Refused f n) k m = refl
line_actor s (line.Answered a i given) k m = refl

-- ---- behind a line of its own a turn is not bare

led_filled : (op : Option Operation) (job : Job) (held : List ℕ) (facts : Facts) (refused : Option RefusedReading) (t : Turn) (o : Option Final) → facts.answered ≡ o → (turn_exchanged op job held facts refused t).bare ≡ false
led_filled op job held facts refused t None e = rw e refl
led_filled op job held facts refused t (Some f) e = rw e refl

pub line_filled : (s : Script) (l : Line) (k : Kept) → is_mark l ≡ false → (kept_after s l k).turn.bare ≡ false
line_filled s (line.Turn a) k m = absurd (true≢false m)
line_filled s (line.Begin a i) k m = refl
line_filled s (line.Exchange a c r) k m = led_filled _ _ _ (facts_of s (line.Exchange a c r) k) _ k.turn (facts_of s (line.Exchange a c r) k).answered refl
line_filled s (line.Failed a c d) k m = refl
line_filled s (line.Reset a) k m = refl
line_filled s (line.ResetFailed a) k m = refl
line_filled s (line.World a e) k m = refl
line_filled s (line.Published n f e v text) k m = refl
line_filled s (line.EpochEnd n e v) k m = refl
line_filled s (line.Refused f n) k m = refl
line_filled s (line.Answered a i given) k m = refl

pub unmarked : (b : Bool) → not b ≡ true → b ≡ false
unmarked true h = absurd (true≢false (sym h))
unmarked false h = refl

pub turn_actor : (s : Script) (added earlier : List Line) (a : ℕ) → has_no_mark added ≡ true → (kept_of s (added ++ line.Turn a ∷ earlier)).turn.actor ≡ Some a
turn_actor s [] earlier a h = refl
turn_actor s (l ∷ added) earlier a h =
    let q = and_parts (not (is_mark l)) (has_no_mark added) h in
    line_actor s l (kept_of s (added ++ line.Turn a ∷ earlier)) (unmarked (is_mark l) q.0) ∙ turn_actor s added earlier a q.1

-- ---- the next line may come

pub under_way : StaysPlain → (a : ℕ) (earlier : List Line) (text : Option (List ℕ)) (p : Parts) → IsTurning a earlier text p → IsUnderWay a p
under_way law a earlier text p t =
    let few = t.few in
    let spare = t.spare in
    let spare_bytes = t.spare_bytes in
    record {
      tied = t.tied;
      turn = ap (λ (k : Kept). k.turn.actor) t.tied.kept ∙ ap (λ (x : List Line). (kept_of p.script x).turn.actor) t.turn.lines ∙ turn_actor p.script t.turn.added earlier a t.turn.own;
      counts = has_room law p t.tied (omega arith);
      handles = handles_small law p t.tied;
      fits = turn_updates (length p.lines.lines) p.kept.turn.actor p.kept.jobs t.tied.short;
      spare = omega arith;
      spare_bytes = omega arith;
    }

-- ---- one line more

published_led : (op : Option Operation) (job : Job) (held : List ℕ) (facts : Facts) (refused : Option RefusedReading) (t : Turn) (o : Option Final) → facts.answered ≡ o → (turn_exchanged op job held facts refused t).published ≡ t.published
published_led op job held facts refused t None e = rw e refl
published_led op job held facts refused t (Some f) e = rw e refl

published_stays : (s : Script) (l : Line) (k : Kept) → is_mark l ≡ false → is_some k.turn.published ≡ true → is_some (kept_after s l k).turn.published ≡ true
published_stays s (line.Turn a) k m h = absurd (true≢false m)
published_stays s (line.Begin a i) k m h = h
published_stays s (line.Exchange a c r) k m h = ap is_some (published_led _ _ _ (facts_of s (line.Exchange a c r) k) _ k.turn (facts_of s (line.Exchange a c r) k).answered refl) ∙ h
published_stays s (line.Failed a c d) k m h = h
published_stays s (line.Reset a) k m h = h
published_stays s (line.ResetFailed a) k m h = h
published_stays s (line.World a e) k m h = h
published_stays s (line.Published n f e v text) k m h = refl
published_stays s (line.EpochEnd n e v) k m h = h
published_stays s (line.Refused f n) k m h = h
published_stays s (line.Answered a i given) k m h = h

-- what a turn's commands came to came of an event
pub came_on : (s : Script) (l : Line) (k : Kept) (n : ℕ) → is_mark l ≡ false → IsSince n k → IsSince n (kept_after s l k)
came_on s (line.Turn a) k n m h = absurd (true≢false m)
came_on s (line.Begin a i) k n m h = record { started = h.started; came = h.came }
came_on s (line.Exchange a c r) k n m h = let low = h.started in record { started = omega arith; came = λ e. omega arith }
came_on s (line.Failed a c d) k n m h = let low = h.started in record { started = omega arith; came = λ e. omega arith }
came_on s (line.Reset a) k n m h = let low = h.started in record { started = omega arith; came = λ e. omega arith }
came_on s (line.ResetFailed a) k n m h = let low = h.started in record { started = omega arith; came = λ e. omega arith }
came_on s (line.World a e) k n m h = let low = h.started in record { started = omega arith; came = λ e. omega arith }
came_on s (line.Published x f e v text) k n m h = record { started = h.started; came = h.came }
came_on s (line.EpochEnd x e v) k n m h = record { started = h.started; came = h.came }
came_on s (line.Refused f x) k n m h = record { started = h.started; came = h.came }
came_on s (line.Answered a i given) k n m h = record { started = h.started; came = h.came }

-- what was made ready stays so while no event comes
abbrev pub unless : ℕ → ℕ → Option (List ℕ) → Option (List ℕ)
unless before now text = if nat_lt before now then None else text

module _ (a : ℕ) (s : Script) (before k : Kept) (l : Line) (own : is_mark l ≡ false) where
  none_on : IsReady a s before k None → IsReady a s before (kept_after s l k) None
  none_on (inl never) = inl never
  none_on (inr (inl moved)) = let e = (goes_on s l k).events in inr (inl (omega arith))
  none_on (inr (inr published)) = inr (inr (published_stays s l k own published))

  pub ready_by : (text : Option (List ℕ)) (b : Bool) → nat_lt before.history.events (kept_after s l k).history.events ≡ b → IsReady a s before k text → IsReady a s before (kept_after s l k) (if b then None else text)
  ready_by text true e h = inr (inl (ltb-true before.history.events (kept_after s l k).history.events e))
  ready_by None false e h = none_on h
  ready_by (Some text) false e h = let g = (goes_on s l k).events in let n = ltb-false before.history.events (kept_after s l k).history.events e in let same = h.0 in (omega arith, h.1)

pub less_text : (before now : ℕ) (text : Option (List ℕ)) (b : Bool) → most_of_text (if b then None else text) ≤ most_of_text text
less_text before now text true = omega arith
less_text before now text false = omega arith
