-- An answer that an epoch ended names the event that ended it: the epoch of an operation and that of a handle have as their end the event that
-- the lines tell.
use Rattle.std.proofs.Common.{◌≡◌, ◌<◌, ℕ, zero, suc, ◌+◌, ◌==◌, ◌&&◌, ◌||◌, not, Bool, true, false, if◌then◌else◌, List, [], ◌∷◌, replicate, Option, Some, None, refl, sym, ap, ◌∙◌, subst, arith, true≢false}
use Rattle.std.specs.Prelude.{option_map}
use Rattle.std.specs.List.{list_all}
use Rattle.std.proofs.lemmas.Bool.{and_parts, and_from, eqb-true, eq-eqb}
use Rattle.apdu.specs.Words.{or_else, same_number}
use Rattle.card_effects.proofs.Same.{same_bytes_is}
use Rattle.script_reader.specs.declared.types.Script.{Script}
use Rattle.script_reader.specs.declared.types.Operation.{Operation}
use Rattle.script_reader.specs.declared.types.Operation.TheVariants as operation
use Rattle.report.specs.declared.answer.Answer.{Answer}
use Rattle.report.specs.declared.answer.Answer.TheVariants as answer
use Rattle.report.specs.declared.line.Line.{Line}
use Rattle.report.specs.declared.line.Line.TheVariants as line
use Rattle.adn.specs.declared.edit.PlanError.{PlanError}
use Rattle.adn.specs.declared.edit.PlanError.TheVariants as plan_error
use Rattle.editor.specs.declared.editing.Decided.{Decided}
use Rattle.epoch_cache.specs.declared.past.Past.{Past}
use Rattle.watchers.specs.declared.mailbox.Mailbox.{Mailbox}
use Rattle.epoch_cache.specs.Past.{counted}
use Rattle.rules.specs.declared.due.Due.{Due}
use Rattle.rules.specs.declared.due.Due.TheVariants.{TryEvent as try_event, Give as give}
use Rattle.rules.specs.declared.holdings.Handle.{Handle}
use Rattle.rules.specs.declared.kept.Begun.{Begun}
use Rattle.rules.specs.declared.kept.Job.{Job}
use Rattle.rules.specs.declared.kept.Kept.{Kept}
use Rattle.rules.specs.declared.kept.Outcome.{Outcome}
use Rattle.rules.specs.declared.kept.Outcome.TheVariants as outcome
use Rattle.rules.specs.declared.kept.Turn.{Turn}
use Rattle.rules.specs.declared.kept.Work.{Work}
use Rattle.rules.specs.declared.kept.Work.TheVariants.{Refuses as refuses, Lacks as lacks}
use Rattle.rules.specs.History.{begins_epoch, stops_epoch, ends_epoch, is_living}
use Rattle.rules.specs.Channels.{is_handle_of, handle_of, is_raw_ins, ended_handle, ended_handles}
use Rattle.rules.specs.Sessions.{has_session}
use Rattle.rules.specs.Kept.{actor_count, first_job, job_of, begun_of, operation_at, operation_now, change_at}
use Rattle.rules.specs.Watching.{notices_of}
use Rattle.rules.specs.After.{begun_beside, begun_exchanged, begun_failed, begun_with, decision_at, edit_of, ended_by, facts_of, handles_given, job_beside, jobs_beside, own_job, kept_after, kept_of}
use Rattle.rules.specs.Due.{answer_of, answer_of_actor, answer_of_begun, answer_of_outcome, decided_answer, due, done_publication, edit_answer, is_lost, loaded, on_handle, outcome_answer, plan_refusal, planning_answer, raw_on_handle, with_card, with_ended}
use Rattle.rules.specs.Rules.{is_turn_of, is_begun_at, flag, same_answer}
use Rattle.performed.specs.Followed.{is_given_or_refused, are_followed, is_followed}
use Rattle.performed.specs.Laws.{ended_at, EndsAreNamed}
use Rattle.performed.proofs.Handles.{new_handle, given_good}
use Rattle.performed.proofs.Lists.{all_found, all_mapped, all_still}
use Rattle.performed.proofs.ProgressJobs.{changed, mapped}
use Rattle.performed.proofs.ProgressSound.{sound}
use Rattle.performed.proofs.ProgressHandles.{given_alive}
use Rattle.performed.proofs.TurnsSays.{says_of}
use Rattle.performed.proofs.EpochLives.{impossible}

-- ---- no line ended an epoch that lives or is still to come

no_match : (ends : Bool) (epoch e : ℕ) (event : ℕ) (before : Option ℕ) → epoch < e → (if ends && (epoch == e) then Some event else before) ≡ before
no_match ends epoch e event before h = by_test (ends && (epoch == e)) (unlike ends (epoch == e) (grind (arith, h)))
  where
    unlike : (a b : Bool) → b ≡ false → (a && b) ≡ false
    unlike true b e = e
    unlike false b e = refl

    by_test : (b : Bool) → b ≡ false → (if b then Some event else before) ≡ before
    by_test true e = absurd (true≢false e)
    by_test false e = refl

past_number : (begins : Bool) (epoch e : ℕ) → counted begins epoch < e → epoch < e
past_number true epoch e h = omega (arith, h)
past_number false epoch e h = h

never_yet : (s : Script) (e : ℕ) (lines : List Line) → (kept_of s lines).history.epoch < e → ended_at s e lines ≡ None
never_yet s e [] h = refl
never_yet s e (l ∷ earlier) h =
    let k : Kept = kept_of s earlier in
    let before : k.history.epoch < e = past_number (begins_epoch l) k.history.epoch e h in
    no_match (ends_epoch l k.history) k.history.epoch e (k.history.events + 1) (ended_at s e earlier) before ∙ never_yet s e earlier before

one_less : (epoch e : ℕ) → (epoch + 1 == e) ≡ true → epoch < e
one_less epoch e h = let same : epoch + 1 ≡ e = eqb-true (epoch + 1) e h in omega (arith, same)

-- a line begins the epoch, or it lived before and the line does not end it
lived_on : (s : Script) (e : ℕ) (l : Line) (earlier : List Line) (begins stops living : Bool) → begins_epoch l ≡ begins → stops_epoch l ≡ stops → (kept_of s earlier).history.living ≡ living → ((begins || (not stops && living)) && (counted begins (kept_of s earlier).history.epoch == e)) ≡ true → (is_living (kept_of s earlier).history e ≡ true → ended_at s e earlier ≡ None) → ended_at s e (l ∷ earlier) ≡ None
lived_on s e l earlier true stops living b t v h before =
    let less : (kept_of s earlier).history.epoch < e = one_less (kept_of s earlier).history.epoch e h in
    no_match (ends_epoch l (kept_of s earlier).history) (kept_of s earlier).history.epoch e ((kept_of s earlier).history.events + 1) (ended_at s e earlier) less ∙ never_yet s e earlier less
lived_on s e l earlier false true living b t v h before = impossible h
lived_on s e l earlier false false living b t v h before =
    let k : Kept = kept_of s earlier in
    ap (λ (x : Bool). if ((x || stops_epoch l) && k.history.living) && (k.history.epoch == e) then Some (k.history.events + 1) else ended_at s e earlier) b
    ∙ ap (λ (x : Bool). if ((false || x) && k.history.living) && (k.history.epoch == e) then Some (k.history.events + 1) else ended_at s e earlier) t
    ∙ before (ap (λ (x : Bool). x && (k.history.epoch == e)) v ∙ h)

pub none_ended : (s : Script) (e : ℕ) (lines : List Line) → is_living (kept_of s lines).history e ≡ true → ended_at s e lines ≡ None
none_ended s e [] h = refl
none_ended s e (l ∷ earlier) h = lived_on s e l earlier (begins_epoch l) (stops_epoch l) (kept_of s earlier).history.living refl refl refl h (none_ended s e earlier)

-- ---- an end that is kept is the one that the lines tell

abbrev pub IsEndOf : Script → List Line → Option ℕ → Option ℕ → Type 0
IsEndOf s lines None ended = Unit {0}
IsEndOf s lines (Some e) ended = ended ≡ ended_at s e lines

turned : (a b : ℕ) → (a == b) ≡ (b == a)
turned a b = grind arith

end_step : (s : Script) (l : Line) (earlier : List Line) (o ended : Option ℕ) → IsEndOf s earlier o ended → IsEndOf s (l ∷ earlier) o (ended_by (ends_epoch l (kept_of s earlier).history) (kept_of s earlier).history.epoch ((kept_of s earlier).history.events + 1) o ended)
end_step s l earlier None ended p = tt
end_step s l earlier (Some e) ended p =
    let k : Kept = kept_of s earlier in
    ap (λ (x : Option ℕ). if ends_epoch l k.history && (e == k.history.epoch) then Some (k.history.events + 1) else x) p
    ∙ ap (λ (b : Bool). if ends_epoch l k.history && b then Some (k.history.events + 1) else ended_at s e earlier) (turned e k.history.epoch)

-- ---- operations

abbrev pub EndBegun : Script → List Line → Option Begun → Type 0
EndBegun s lines None = Unit {0}
EndBegun s lines (Some b) = IsEndOf s lines b.epoch b.ended

abbrev pub EndJob : Script → List Line → ℕ → Job → Type 0
EndJob s lines i job = EndBegun s lines job.begun

end_map : (s : Script) (lines : List Line) (f : Begun → Begun) → ((b : Begun) → IsEndOf s lines b.epoch b.ended → IsEndOf s lines (f b).epoch (f b).ended) → (o : Option Begun) → EndBegun s lines o → EndBegun s lines (option_map f o)
end_map s lines f keeps None p = tt
end_map s lines f keeps (Some b) p = keeps b p

fresh_end : (s : Script) (lines : List Line) (living : Bool) → (kept_of s lines).history.living ≡ living → IsEndOf s lines (if living then Some (kept_of s lines).history.epoch else None) None
fresh_end s lines true e = let h : Past = (kept_of s lines).history in sym (none_ended s h.epoch lines (and_from h.living (h.epoch == h.epoch) e (eq-eqb h.epoch h.epoch refl)))
fresh_end s lines false e = tt

module _ (s : Script) (earlier : List Line) (each : (i : ℕ) → EndJob s earlier i (job_of i (kept_of s earlier).jobs)) where
  abbrev k : Kept
  k = kept_of s earlier

  begun_end : (l : Line) (o : Option Begun) → EndBegun s earlier o → EndBegun s (l ∷ earlier) (option_map (begun_beside l k.history.epoch (facts_of s l k)) o)
  begun_end l None p = tt
  begun_end l (Some b) p = end_step s l earlier b.epoch b.ended p

  beside_end : (l : Line) (i : ℕ) → EndJob s (l ∷ earlier) i (job_of i (jobs_beside l k.history.epoch (facts_of s l k) k.selected k.jobs))
  beside_end l i =
      mapped (job_beside l k.history.epoch (facts_of s l k) k.selected) (EndJob s earlier) (EndJob s (l ∷ earlier)) k.jobs each
      (λ (j : ℕ) (x : Job). begun_end l x.begun)
      (λ (j : ℕ) p. tt) i

  own_end : (l : Line) (a : ℕ) → ((x : Job) → EndJob s (l ∷ earlier) a x → EndJob s (l ∷ earlier) a (own_job s l k (facts_of s l k) (decision_at s l k).attempt x)) → (i : ℕ) → EndJob s (l ∷ earlier) i (job_of i (change_at a (own_job s l k (facts_of s l k) (decision_at s l k).attempt) (jobs_beside l k.history.epoch (facts_of s l k) k.selected k.jobs)))
  own_end l a own i =
      changed (own_job s l k (facts_of s l k) (decision_at s l k).attempt) (EndJob s (l ∷ earlier))
      (jobs_beside l k.history.epoch (facts_of s l k) k.selected k.jobs) a own (beside_end l) i

  marked_end : (a : ℕ) (x : Job) → EndJob s (line.Turn a ∷ earlier) a x → EndJob s (line.Turn a ∷ earlier) a (own_job s (line.Turn a) k (facts_of s (line.Turn a) k) (decision_at s (line.Turn a) k).attempt x)
  marked_end zero x p = p
  marked_end (suc a) x p = end_map s (line.Turn (suc a) ∷ earlier) (begun_with (decision_at s (line.Turn (suc a)) k).attempt) (λ b q. q) x.begun p

  line_end : (l : Line) (i : ℕ) → EndJob s (l ∷ earlier) i (job_of i (kept_after s l k).jobs)
  line_end (line.Turn a) i = own_end (line.Turn a) a (marked_end a) i
  line_end (line.Begin a op) i = own_end (line.Begin a op) a (λ x p. fresh_end s (line.Begin a op ∷ earlier) k.history.living refl) i
  line_end (line.Exchange a c r) i = own_end (line.Exchange a c r) a (λ x p. end_map s (line.Exchange a c r ∷ earlier) (begun_exchanged (edit_of (operation_now s a k.jobs)) k.selected k.chain (facts_of s (line.Exchange a c r) k).event c r) (λ b q. q) x.begun p) i
  line_end (line.Failed a c d) i = own_end (line.Failed a c d) a (λ x p. end_map s (line.Failed a c d ∷ earlier) (begun_failed (edit_of (operation_now s a k.jobs)) k.selected k.chain (facts_of s (line.Failed a c d) k).event c) (λ b q. q) x.begun p) i
  line_end (line.Answered a op given) i = own_end (line.Answered a op given) a (λ x p. tt) i
  line_end (line.Reset a) i = beside_end (line.Reset a) i
  line_end (line.ResetFailed a) i = beside_end (line.ResetFailed a) i
  line_end (line.World a e) i = beside_end (line.World a e) i
  line_end (line.Published n f e v text) i = beside_end (line.Published n f e v text) i
  line_end (line.EpochEnd n e v) i = beside_end (line.EpochEnd n e v) i
  line_end (line.Refused f n) i = beside_end (line.Refused f n) i

first_begun : (n i : ℕ) → begun_of i (replicate n first_job) ≡ None
first_begun zero i = refl
first_begun (suc n) zero = refl
first_begun (suc n) (suc i) = first_begun n i

pub begun_ends : (s : Script) (lines : List Line) (i : ℕ) → EndJob s lines i (job_of i (kept_of s lines).jobs)
begun_ends s [] i = subst (λ (o : Option Begun). EndBegun s [] o) (sym (first_begun (actor_count s + 1) i)) tt
begun_ends s (l ∷ earlier) i = line_end s earlier (begun_ends s earlier) l i

-- ---- handles

same_optional : (o p : Option ℕ) → o ≡ p → same_number o p ≡ true
same_optional None None e = refl
same_optional None (Some n) e = absurd (cc)
same_optional (Some m) None e = absurd (cc)
same_optional (Some m) (Some n) e = let same : m ≡ n = cc in eq-eqb m n same

optional_is : (o p : Option ℕ) → same_number o p ≡ true → o ≡ p
optional_is None None h = refl
optional_is None (Some n) h = impossible h
optional_is (Some m) None h = impossible h
optional_is (Some m) (Some n) h = ap (λ (x : ℕ). Some x) (eqb-true m n h)

abbrev is_named : Script → List Line → Handle → Bool
is_named s lines h = same_number h.ended (ended_at s h.epoch lines)

module _ (s : Script) (l : Line) (earlier : List Line) where
  abbrev kept : Kept
  kept = kept_of s earlier

  abbrev event : ℕ
  event = kept.history.events + 1

  ends_here : (h : Handle) (b : Bool) → (kept.history.epoch == h.epoch) ≡ b → (h.epoch == kept.history.epoch) ≡ b → ends_epoch l kept.history ≡ true → h.ended ≡ ended_at s h.epoch earlier → (if h.epoch == kept.history.epoch then record h { ended = Some event } else h).ended ≡ ended_at s h.epoch (l ∷ earlier)
  ends_here h true e f ends p = rw (f, ends, e) refl
  ends_here h false e f ends p = rw (f, ends, e) p

  same_epoch : (h : Handle) → (ended_handle kept.history.epoch event h).epoch ≡ h.epoch
  same_epoch h = by_test (h.epoch == kept.history.epoch)
    where
      by_test : (b : Bool) → (if b then record h { ended = Some event } else h).epoch ≡ h.epoch
      by_test true = refl
      by_test false = refl

  one_ended : ends_epoch l kept.history ≡ true → (h : Handle) → is_named s earlier h ≡ true → is_named s (l ∷ earlier) (ended_handle kept.history.epoch event h) ≡ true
  one_ended ends h p =
      same_optional (ended_handle kept.history.epoch event h).ended (ended_at s (ended_handle kept.history.epoch event h).epoch (l ∷ earlier))
      (ends_here h (h.epoch == kept.history.epoch) (turned kept.history.epoch h.epoch) refl ends (optional_is h.ended (ended_at s h.epoch earlier) p)
      ∙ sym (ap (λ (n : ℕ). ended_at s n (l ∷ earlier)) (same_epoch h)))

  still_at : ends_epoch l kept.history ≡ false → (e : ℕ) → ended_at s e (l ∷ earlier) ≡ ended_at s e earlier
  still_at ends e = ap (λ (b : Bool). if b && (kept.history.epoch == e) then Some event else ended_at s e earlier) ends

  one_still : ends_epoch l kept.history ≡ false → (h : Handle) → is_named s earlier h ≡ true → is_named s (l ∷ earlier) h ≡ true
  one_still ends h p = ap (same_number h.ended) (still_at ends h.epoch) ∙ p

  or_none : (a : Bool) → (a || false) ≡ true → a ≡ true
  or_none true h = refl
  or_none false h = h

  new_named : is_followed s kept l ≡ true → are_followed s earlier ≡ true → ends_epoch l kept.history ≡ false → (a i handle number : ℕ) (aid : List ℕ) → l ≡ line.Answered a i (answer.Opened number) → operation_at s a i ≡ Some (operation.OpenChannel handle aid) → is_named s (l ∷ earlier) (new_handle a handle number kept.history.epoch) ≡ true
  new_named h followed ends a i handle number aid e op =
      let lives : is_living kept.history kept.history.epoch ≡ true = or_none (is_living kept.history kept.history.epoch) (given_alive s kept (sound s earlier followed) l a i handle number aid h e op) in
      ap (same_number None) (still_at ends kept.history.epoch ∙ none_ended s kept.history.epoch earlier lives)

  by_end : (b : Bool) → ends_epoch l kept.history ≡ b → is_followed s kept l ≡ true → are_followed s earlier ≡ true → list_all (is_named s earlier) kept.handles ≡ true → list_all (is_named s (l ∷ earlier)) (if b then ended_handles kept.history.epoch event kept.handles else handles_given s l kept.history.epoch kept.handles) ≡ true
  by_end true ends h followed held = all_mapped (is_named s earlier) (is_named s (l ∷ earlier)) (ended_handle kept.history.epoch event) (one_ended ends) kept.handles held
  by_end false ends h followed held =
      given_good (is_named s (l ∷ earlier)) s l kept.history.epoch kept.handles
      (all_still (is_named s earlier) (is_named s (l ∷ earlier)) (one_still ends) kept.handles held)
      (λ a i handle number aid e op. new_named h followed ends a i handle number aid e op)

handles_named : (s : Script) (lines : List Line) → are_followed s lines ≡ true → list_all (is_named s lines) (kept_of s lines).handles ≡ true
handles_named s [] h = refl
handles_named s (l ∷ earlier) h =
    let q = and_parts (are_followed s earlier) (is_followed s (kept_of s earlier) l) h in
    by_end s l earlier (ends_epoch l (kept_of s earlier).history) refl q.1 q.0 (handles_named s earlier q.0)

-- ---- answers

abbrev Names : Script → List Line → Option Answer → Type 0
Names s lines None = Unit {0}
Names s lines (Some (answer.EpochEnded e n unsure)) = ended_at s e lines ≡ Some n
Names s lines (Some given) = Unit {0}

-- an answer of another kind
abbrev Other : Option Answer → Type 0
Other None = Unit {0}
Other (Some (answer.EpochEnded e n unsure)) = ⊥
Other (Some given) = Unit {0}

module _ (s : Script) (lines : List Line) where
  other_names : (o : Option Answer) → Other o → Names s lines o
  other_names None h = tt
  other_names (Some (answer.EpochEnded e n unsure)) h = absurd h
  other_names (Some given) h = tt

  ended_names : (e : ℕ) (ended : Option ℕ) (unsure : Bool) (other : Option Answer) → ended ≡ ended_at s e lines → Other other → Names s lines (with_ended e ended unsure other)
  ended_names e None unsure other h o = other_names other o
  ended_names e (Some n) unsure other h o = sym h

  card_names : (epoch : Option ℕ) (b : Begun) (other : Option Answer) → IsEndOf s lines epoch b.ended → Other other → Names s lines (with_card epoch b other)
  card_names None b other h o = tt
  card_names (Some e) b other h o = ended_names e b.ended (is_lost b.ended b.editing.lost) other h o

  handle_names : (handle : ℕ) (o : Option Handle) (other : Option Answer) → ((h : Handle) → o ≡ Some h → is_named s lines h ≡ true) → Other other → Names s lines (on_handle handle o other)
  handle_names handle None other h g = tt
  handle_names handle (Some x) other h g = ended_names x.epoch x.ended false other (optional_is x.ended (ended_at s x.epoch lines) (h x refl)) g

  raw_by : (b : Bool) (ins : ℕ) (x : Option Answer) → Names s lines x → Names s lines (if b then x else Some (answer.RawRefused ins))
  raw_by true ins x h = h
  raw_by false ins x h = tt

  raw_names : (handle : ℕ) (o : Option Handle) (ins : ℕ) (other : Option Answer) → ((h : Handle) → o ≡ Some h → is_named s lines h ≡ true) → Other other → Names s lines (raw_on_handle handle o ins other)
  raw_names handle None ins other h g = tt
  raw_names handle (Some x) ins other h g = raw_by (is_raw_ins ins) ins (with_ended x.epoch x.ended false other) (ended_names x.epoch x.ended false other (optional_is x.ended (ended_at s x.epoch lines) (h x refl)) g)

came_other : (o : Option Outcome) → Other (option_map answer_of_outcome o)
came_other None = tt
came_other (Some (outcome.Status sw n)) = tt
came_other (Some (outcome.Loop n)) = tt
came_other (Some (outcome.BadFcp n)) = tt
came_other (Some (outcome.Opened channel)) = tt
came_other (Some (outcome.Exhausted n)) = tt
came_other (Some (outcome.Raw response)) = tt
came_other (Some outcome.Closed) = tt
came_other (Some outcome.Verified) = tt
came_other (Some outcome.Polled) = tt

loaded_other : (o : Option ℕ) → Other (loaded o)
loaded_other None = tt
loaded_other (Some n) = tt

else_other : (a b : Option Answer) → Other a → Other b → Other (or_else a b)
else_other None b h g = g
else_other (Some a) b h g = h

if_names : (s : Script) (lines : List Line) (b : Bool) (x y : Option Answer) → Names s lines x → Names s lines y → Names s lines (if b then x else y)
if_names s lines true x y h g = h
if_names s lines false x y h g = g

plan_other : (e : PlanError) → Other (Some (plan_refusal e))
plan_other (plan_error.BadFile width) = tt
plan_other (plan_error.NoRecord at) = tt
plan_other (plan_error.Full count) = tt
plan_other (plan_error.NotWritable found) = tt
plan_other (plan_error.NameTooLong need room) = tt
plan_other (plan_error.BadDigit at) = tt
plan_other (plan_error.NumberTooLong count) = tt
plan_other (plan_error.ExtFull count) = tt
plan_other plan_error.Memory = tt

planning_other : (w : Work) → Other (planning_answer w)
planning_other (refuses e) = plan_other e
planning_other (lacks key) = tt
planning_other w = tt

notices_names : (s : Script) (lines : List Line) (o : Option Mailbox) → Names s lines (Some (notices_of o))
notices_names s lines None = tt
notices_names s lines (Some m) = tt

module _ (s : Script) (lines : List Line) where
  abbrev now : Kept
  now = kept_of s lines

  decided_names : (b : Begun) (d : Decided) (t : Turn) (o : Option (Option ℕ)) → done_publication b t ≡ o → Names s lines (decided_answer b d t)
  decided_names b d t None e = rw e tt
  decided_names b d t (Some x) e = rw e tt

  edit_names : (b : Begun) (t : Turn) (o : Option Decided) → IsEndOf s lines b.epoch b.ended → Names s lines (edit_answer b t o)
  edit_names b t (Some d) h = decided_names b d t (done_publication b t) refl
  edit_names b t None h = card_names s lines b.epoch b (or_else (outcome_answer t) (planning_answer t.work)) h (else_other (outcome_answer t) (planning_answer t.work) (came_other t.outcome) (planning_other t.work))

  operation_names : (a : ℕ) (job : Job) (b : Begun) (op : Operation) → list_all (is_named s lines) now.handles ≡ true → IsEndOf s lines b.epoch b.ended → Names s lines (answer_of now a job b op)
  operation_names a job b (operation.Insert card) held h = if_names s lines now.turn.happened (Some answer.Moved) None tt tt
  operation_names a job b operation.Out held h = if_names s lines now.turn.happened (Some answer.Moved) None tt tt
  operation_names a job b (operation.Arm change) held h = if_names s lines now.turn.happened (Some answer.Moved) None tt tt
  operation_names a job b (operation.Load f) held h = card_names s lines b.epoch b (or_else (loaded now.turn.published) (outcome_answer now.turn)) h (else_other (loaded now.turn.published) (outcome_answer now.turn) (loaded_other now.turn.published) (came_other now.turn.outcome))
  operation_names a job b (operation.OpenChannel handle aid) held h = card_names s lines b.epoch b (outcome_answer now.turn) h (came_other now.turn.outcome)
  operation_names a job b (operation.Raw handle apdu) held h = raw_names s lines handle (handle_of a handle now.handles) apdu.ins (outcome_answer now.turn) (λ x e. all_found (is_named s lines) (is_handle_of a handle) now.handles x held e) (came_other now.turn.outcome)
  operation_names a job b (operation.Close handle) held h = handle_names s lines handle (handle_of a handle now.handles) (outcome_answer now.turn) (λ x e. all_found (is_named s lines) (is_handle_of a handle) now.handles x held e) (came_other now.turn.outcome)
  operation_names a job b (operation.Verify key pin) held h = card_names s lines b.epoch b (outcome_answer now.turn) h (came_other now.turn.outcome)
  operation_names a job b operation.Poll held h = card_names s lines b.epoch b (outcome_answer now.turn) h (came_other now.turn.outcome)
  operation_names a job b (operation.End key) held h = if_names s lines (has_session a key now.sessions) (Some answer.Ended) (Some (answer.NotHeldKey key)) tt tt
  operation_names a job b operation.Look held h = tt
  operation_names a job b (operation.Watch mask) held h = tt
  operation_names a job b operation.Notices held h = notices_names s lines job.mailbox
  operation_names a job b (operation.Set f at name number) held h = edit_names b now.turn b.editing.decided h
  operation_names a job b (operation.Clear f at) held h = edit_names b now.turn b.editing.decided h

  begun_names : (a : ℕ) (b : Option Begun) (op : Option Operation) → list_all (is_named s lines) now.handles ≡ true → EndBegun s lines b → Names s lines (answer_of_begun now a b op)
  begun_names a (Some b) (Some op) held h = operation_names a (job_of a now.jobs) b op held h
  begun_names a (Some b) None held h = tt
  begun_names a None op held h = tt

  actor_names : (o : Option ℕ) → list_all (is_named s lines) now.handles ≡ true → Names s lines (answer_of_actor s now o)
  actor_names None held = tt
  actor_names (Some a) held = begun_names a (begun_of a now.jobs) (operation_now s a now.jobs) held (begun_ends s lines a)

  same_end : (e n : ℕ) (unsure : Bool) (x : Answer) → Names s lines (Some x) → same_answer (answer.EpochEnded e n unsure) x ≡ true → ended_at s e lines ≡ Some n
  same_end e n unsure (answer.EpochEnded f m other) h same =
      let codes : (5 ∷ e ∷ n ∷ flag unsure ∷ []) ≡ (5 ∷ f ∷ m ∷ flag other ∷ []) = same_bytes_is (5 ∷ e ∷ n ∷ flag unsure ∷ []) (5 ∷ f ∷ m ∷ flag other ∷ []) same in
      let epoch : e ≡ f = cc in
      let event : m ≡ n = cc in
      ap (λ (y : ℕ). ended_at s y lines) epoch ∙ h ∙ ap (λ (y : ℕ). Some y) event
  same_end e n unsure x h same = impossible same

  given_names : (e n : ℕ) (unsure : Bool) (d : Due) → are_followed s lines ≡ true → due s now ≡ d → is_given_or_refused (answer.EpochEnded e n unsure) d ≡ true → ended_at s e lines ≡ Some n
  given_names e n unsure (give x) f is h = same_end e n unsure x (subst (λ (o : Option Answer). Names s lines o) (says_of s now (give x) is) (actor_names now.turn.actor (handles_named s lines f))) h
  given_names e n unsure (try_event x) f is h = impossible h
  given_names e n unsure d f is h = impossible h

pub ends_are_named : EndsAreNamed
ends_are_named s lines a i e n unsure h =
    let k : Kept = kept_of s lines in
    let p = and_parts (are_followed s lines) (is_followed s k (line.Answered a i (answer.EpochEnded e n unsure))) h in
    let q = and_parts (is_turn_of a k.turn) (is_begun_at i (begun_of a k.jobs) && is_given_or_refused (answer.EpochEnded e n unsure) (due s k)) p.1 in
    given_names s lines e n unsure (due s k) p.0 refl (and_parts (is_begun_at i (begun_of a k.jobs)) (is_given_or_refused (answer.EpochEnded e n unsure) (due s k)) q.1).1
