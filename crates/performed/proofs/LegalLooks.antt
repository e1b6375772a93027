-- What a look shows that is due: the board behind all publications, of which the actor has seen no more.
use Rattle.std.proofs.Common.{◌≡◌, ◌≤◌, ℕ, ◌+◌, ◌-◌, ◌==◌, ◌&&◌, Bool, true, false, if◌then◌else◌, Option, Some, None, List, [], ◌∷◌, length, map, refl, sym, ap, ◌∙◌, true≢false, arith}
use Rattle.std.specs.Prelude.{filter, nat_le, option_map, slice_get, unwrap_or}
use Rattle.std.proofs.lemmas.Bool.{and_parts, and_from, eqb-true, eq-eqb, le-leb}
use Rattle.card_effects.proofs.Same.{same_bytes_is, same_bytes_self}
use Rattle.apdu.specs.Words.{or_else, same_bytes}
use Rattle.epoch_cache.specs.declared.cached.Touch.{Touch}
use Rattle.epoch_cache.specs.Past.{counted}
use Rattle.adn.specs.declared.edit.PlanError.{PlanError}
use Rattle.adn.specs.declared.edit.PlanError.TheVariants as plan_error
use Rattle.script_reader.specs.declared.types.Operation.{Operation}
use Rattle.script_reader.specs.declared.types.Operation.TheVariants as operation
use Rattle.script_reader.specs.declared.types.Script.{Script}
use Rattle.loader.specs.declared.reading.RefusedReading.{RefusedReading}
use Rattle.report.specs.Values.{SeenValue}
use Rattle.report.specs.declared.answer.Answer.{Answer}
use Rattle.report.specs.declared.answer.Answer.TheVariants as answer
use Rattle.report.specs.declared.line.Line.{Line}
use Rattle.report.specs.declared.line.Line.TheVariants as line
use Rattle.report.specs.declared.line.Mode.{Mode}
use Rattle.report.specs.declared.line.Mode.TheVariants.{Replay, Run}
use Rattle.editor.specs.declared.editing.Decided.{Decided}
use Rattle.editor.specs.Editing.{left_rows}
use Rattle.watchers.specs.declared.mailbox.Mailbox.{Mailbox}
use Rattle.rules.specs.declared.holdings.Handle.{Handle}
use Rattle.rules.specs.declared.kept.Begun.{Begun}
use Rattle.rules.specs.declared.kept.Facts.{Facts}
use Rattle.rules.specs.declared.kept.Job.{Job}
use Rattle.rules.specs.declared.kept.Kept.{Kept}
use Rattle.rules.specs.declared.kept.Outcome.{Outcome}
use Rattle.rules.specs.declared.kept.Outcome.TheVariants as outcome
use Rattle.rules.specs.declared.kept.Turn.{Turn}
use Rattle.rules.specs.declared.kept.Work.{Work}
use Rattle.rules.specs.declared.kept.Work.TheVariants.{Refuses as refuses, Lacks as lacks}
use Rattle.rules.specs.declared.standing.Standing.{Standing}
use Rattle.rules.specs.Kept.{first_job, job_of, begun_of, operation_now}
use Rattle.rules.specs.Channels.{handle_of, is_raw_ins}
use Rattle.rules.specs.Sessions.{has_session}
use Rattle.rules.specs.Watching.{notices_of}
use Rattle.rules.specs.Standing.{shown_behind, standing_after, board_of}
use Rattle.rules.specs.After.{is_publication, facts_of, refused_of, family_begun, jobs_beside, kept_of}
use Rattle.rules.specs.State.{boards_of, board_after}
use Rattle.rules.specs.Due.{answer_of_outcome, outcome_answer, with_ended, with_card, is_lost, loaded, done_publication, plan_refusal, planning_answer, edit_answer, on_handle, raw_on_handle, answer_of, answer_of_begun, answer_of_actor, due_answer, seen_now}
use Rattle.rules.specs.LookingBack.{answers_of, publication_count, seen_before}
use Rattle.rules.specs.Rules.{same_answer, optional_number, same_board, is_count_right}
use Rattle.rules.specs.Laws.{KeptLooksBack}

-- ---- the answer that is due

-- no look, or the one at the board as it is
abbrev pub is_now : Kept → Option Answer → Bool
is_now k None = true
is_now k (Some (answer.Look seen)) = (seen.count == k.publications) && same_board seen.shown (board_of k.standings)
is_now k (Some given) = true

module _ (k : Kept) where
  outcome_now : (o : Option Outcome) → is_now k (option_map answer_of_outcome o) ≡ true
  outcome_now None = refl
  outcome_now (Some (outcome.Status sw n)) = refl
  outcome_now (Some (outcome.Loop n)) = refl
  outcome_now (Some (outcome.BadFcp n)) = refl
  outcome_now (Some (outcome.Opened channel)) = refl
  outcome_now (Some (outcome.Exhausted n)) = refl
  outcome_now (Some (outcome.Raw response)) = refl
  outcome_now (Some outcome.Closed) = refl
  outcome_now (Some outcome.Verified) = refl
  outcome_now (Some outcome.Polled) = refl

  ended_now : (epoch : ℕ) (ended : Option ℕ) (unsure : Bool) (other : Option Answer) → is_now k other ≡ true → is_now k (with_ended epoch ended unsure other) ≡ true
  ended_now epoch None unsure other h = h
  ended_now epoch (Some n) unsure other h = refl

  card_now : (epoch : Option ℕ) (b : Begun) (other : Option Answer) → is_now k other ≡ true → is_now k (with_card epoch b other) ≡ true
  card_now None b other h = refl
  card_now (Some epoch) b other h = ended_now epoch b.ended (is_lost b.ended b.editing.lost) other h

  either_now : (a b : Option Answer) → is_now k a ≡ true → is_now k b ≡ true → is_now k (or_else a b) ≡ true
  either_now None b ha hb = hb
  either_now (Some x) b ha hb = ha

  loaded_now : (o : Option ℕ) → is_now k (loaded o) ≡ true
  loaded_now None = refl
  loaded_now (Some n) = refl

  moved_now : (c : Bool) → is_now k (if c then Some answer.Moved else None) ≡ true
  moved_now true = refl
  moved_now false = refl

  refusal_now : (e : PlanError) → is_now k (Some (plan_refusal e)) ≡ true
  refusal_now (plan_error.BadFile width) = refl
  refusal_now (plan_error.NoRecord at) = refl
  refusal_now (plan_error.Full count) = refl
  refusal_now (plan_error.NotWritable found) = refl
  refusal_now (plan_error.NameTooLong need room) = refl
  refusal_now (plan_error.BadDigit at) = refl
  refusal_now (plan_error.NumberTooLong count) = refl
  refusal_now (plan_error.ExtFull count) = refl
  refusal_now plan_error.Memory = refl

  planning_now : (work : Work) → is_now k (planning_answer work) ≡ true
  planning_now (refuses refused) = refusal_now refused
  planning_now (lacks key) = refl
  planning_now work = refl

  done_now : (n : ℕ) (left : List ℕ) (o : Option (Option ℕ)) → is_now k (option_map (λ p. answer.Done n p left) o) ≡ true
  done_now n left None = refl
  done_now n left (Some p) = refl

  edit_now : (b : Begun) (t : Turn) (o : Option Decided) → is_now k (edit_answer b t o) ≡ true
  edit_now b t (Some d) = done_now d.event (left_rows b.editing d) (done_publication b t)
  edit_now b t None = card_now b.epoch b (or_else (outcome_answer t) (planning_answer t.work)) (either_now (outcome_answer t) (planning_answer t.work) (outcome_now t.outcome) (planning_now t.work))

  handle_now : (handle : ℕ) (h : Option Handle) (other : Option Answer) → is_now k other ≡ true → is_now k (on_handle handle h other) ≡ true
  handle_now handle None other o = refl
  handle_now handle (Some h) other o = ended_now h.epoch h.ended false other o

  raw_now : (handle : ℕ) (h : Option Handle) (ins : ℕ) (other : Option Answer) → is_now k other ≡ true → is_now k (raw_on_handle handle h ins other) ≡ true
  raw_now handle None ins other o = refl
  raw_now handle (Some h) ins other o = by_ins (is_raw_ins ins) (ended_now h.epoch h.ended false other o)
    where
      by_ins : (c : Bool) → is_now k (with_ended h.epoch h.ended false other) ≡ true → is_now k (if c then with_ended h.epoch h.ended false other else Some (answer.RawRefused ins)) ≡ true
      by_ins true g = g
      by_ins false g = refl

  end_now : (key : ℕ) (c : Bool) → is_now k (if c then Some answer.Ended else Some (answer.NotHeldKey key)) ≡ true
  end_now key true = refl
  end_now key false = refl

  notices_now : (m : Option Mailbox) → is_now k (Some (notices_of m)) ≡ true
  notices_now None = refl
  notices_now (Some m) = refl

  look_now : is_now k (Some (answer.Look (seen_now k))) ≡ true
  look_now = and_from (k.publications == k.publications) (same_board (board_of k.standings) (board_of k.standings)) (eq-eqb k.publications k.publications refl) (same_bytes_self (map optional_number (board_of k.standings)))

  answer_now : (actor : ℕ) (job : Job) (b : Begun) (op : Operation) → is_now k (answer_of k actor job b op) ≡ true
  answer_now actor job b (operation.Insert card) = moved_now k.turn.happened
  answer_now actor job b operation.Out = moved_now k.turn.happened
  answer_now actor job b (operation.Arm change) = moved_now k.turn.happened
  answer_now actor job b (operation.Load f) = card_now b.epoch b (or_else (loaded k.turn.published) (outcome_answer k.turn)) (either_now (loaded k.turn.published) (outcome_answer k.turn) (loaded_now k.turn.published) (outcome_now k.turn.outcome))
  answer_now actor job b (operation.OpenChannel handle aid) = card_now b.epoch b (outcome_answer k.turn) (outcome_now k.turn.outcome)
  answer_now actor job b (operation.Raw handle apdu) = raw_now handle (handle_of actor handle k.handles) apdu.ins (outcome_answer k.turn) (outcome_now k.turn.outcome)
  answer_now actor job b (operation.Close handle) = handle_now handle (handle_of actor handle k.handles) (outcome_answer k.turn) (outcome_now k.turn.outcome)
  answer_now actor job b (operation.Verify key pin) = card_now b.epoch b (outcome_answer k.turn) (outcome_now k.turn.outcome)
  answer_now actor job b operation.Poll = card_now b.epoch b (outcome_answer k.turn) (outcome_now k.turn.outcome)
  answer_now actor job b (operation.End key) = end_now key (has_session actor key k.sessions)
  answer_now actor job b operation.Look = look_now
  answer_now actor job b (operation.Watch mask) = refl
  answer_now actor job b operation.Notices = notices_now job.mailbox
  answer_now actor job b (operation.Set f at name number) = edit_now b k.turn b.editing.decided
  answer_now actor job b (operation.Clear f at) = edit_now b k.turn b.editing.decided

  begun_now : (actor : ℕ) (b : Option Begun) (op : Option Operation) → is_now k (answer_of_begun k actor b op) ≡ true
  begun_now actor None op = refl
  begun_now actor (Some b) None = refl
  begun_now actor (Some b) (Some op) = answer_now actor (job_of actor k.jobs) b op

  actor_now : (s : Script) (o : Option ℕ) → is_now k (answer_of_actor s k o) ≡ true
  actor_now s None = refl
  actor_now s (Some actor) = begun_now actor (begun_of actor k.jobs) (operation_now s actor k.jobs)

  pub due_now : (s : Script) → is_now k (due_answer s k) ≡ true
  due_now s = actor_now s k.turn.actor

  -- a look that is the same shows the same
  same_now : (seen : SeenValue) (x : Answer) → is_now k (Some x) ≡ true → same_answer (answer.Look seen) x ≡ true → is_now k (Some (answer.Look seen)) ≡ true
  same_now seen (answer.Look other) n h =
      let q = and_parts (other.count == k.publications) (same_board other.shown (board_of k.standings)) n in
      let p = and_parts (seen.count == other.count) (same_bytes (map optional_number seen.shown) (map optional_number other.shown)) h in
      let count : seen.count ≡ other.count = eqb-true seen.count other.count p.0 in
      let shown : map optional_number seen.shown ≡ map optional_number other.shown = same_bytes_is (map optional_number seen.shown) (map optional_number other.shown) p.1 in
      and_from (seen.count == k.publications) (same_board seen.shown (board_of k.standings))
      (ap (λ (m : ℕ). m == k.publications) count ∙ q.0)
      (ap (λ (xs : List ℕ). same_bytes xs (map optional_number (board_of k.standings))) shown ∙ q.1)
  same_now seen x n h = absurd (true≢false (sym h))

-- ---- the board

front : (p : ℕ) (board : List (Option ℕ)) (boards : List (List (Option ℕ))) → board_after (p + 1) (p + 1) (board ∷ boards) ≡ board
front p board boards = rw (not_zero p, no_rest p) refl
  where
    not_zero : (n : ℕ) → (n + 1 == 0) ≡ false
    not_zero n = grind arith

    no_rest : (n : ℕ) → (n + 1) - (n + 1) ≡ 0
    no_rest n = omega arith

board_step : (b : Bool) (p : ℕ) (old new : List (Option ℕ)) (boards : List (List (Option ℕ))) → board_after p p boards ≡ old → (b ≡ false → new ≡ old) → board_after (counted b p) (counted b p) (if b then new ∷ boards else boards) ≡ new
board_step true p old new boards h same = front p new boards
board_step false p old new boards h same = h ∙ sym (same refl)

shown_same : (l : Line) (f : ℕ) (o : Option ℕ) → is_publication l ≡ false → shown_behind f l o ≡ o
shown_same (line.Published n g e v text) f o h = absurd (true≢false h)
shown_same (line.EpochEnd n e v) f o h = absurd (true≢false h)
shown_same l f o h = refl

board_same : (l : Line) (event : ℕ) (touch : Touch) (refused : Option RefusedReading) (begun : Option ℕ) (xs : List Standing) → is_publication l ≡ false → board_of (map (standing_after l event touch refused begun) xs) ≡ board_of xs
board_same l event touch refused begun [] h = refl
board_same l event touch refused begun (x ∷ xs) h =
    ap (λ (o : Option ℕ). o ∷ board_of (map (standing_after l event touch refused begun) xs)) (shown_same l x.family x.shown h)
    ∙ ap (λ (os : List (Option ℕ)). x.shown ∷ os) (board_same l event touch refused begun xs h)

-- behind all publications it is that of the families
pub board_now : (s : Script) (lines : List Line) → board_after (kept_of s lines).publications (kept_of s lines).publications (boards_of s lines) ≡ board_of (kept_of s lines).standings
board_now s [] = refl
board_now s (l ∷ earlier) =
    let k : Kept = kept_of s earlier in
    let facts : Facts = facts_of s l k in
    board_step (is_publication l) k.publications (board_of k.standings) (board_of (kept_of s (l ∷ earlier)).standings) (boards_of s earlier) (board_now s earlier)
    (board_same l facts.event facts.touch (refused_of k.selected (jobs_beside l k.history.epoch facts k.selected k.jobs) facts.answered) (family_begun s l) k.standings)

-- ---- what the actor has seen

below_more : (p q : Bool) (m : ℕ) (l : Line) (found : List Line) → m ≤ length found → (if p then length found else m) ≤ length (if q then l ∷ found else found)
below_more true true m l found h = omega arith
below_more true false m l found h = omega arith
below_more false true m l found h = omega (arith, h)
below_more false false m l found h = h

seen_below : (actor : ℕ) (lines : List Line) → seen_before actor lines ≤ publication_count lines
seen_below actor [] = omega arith
seen_below actor (l ∷ earlier) = below_more (answers_of actor l) (is_publication l) (seen_before actor earlier) l (filter is_publication earlier) (seen_below actor earlier)

module _ (looks : KeptLooksBack) (s : Script) (lines : List Line) where
  job_seen : (actor : ℕ) (o : Option Job) → slice_get (kept_of s lines).jobs actor ≡ o → (unwrap_or o first_job).seen ≤ (kept_of s lines).publications
  job_seen actor None e = omega arith
  job_seen actor (Some job) e =
      let seen : job.seen ≡ seen_before actor lines = ((looks s lines).answers actor job e).1 in
      let publications : (kept_of s lines).publications ≡ publication_count lines = (looks s lines).history.publications in
      let below : seen_before actor lines ≤ publication_count lines = seen_below actor lines in
      omega (arith, seen, publications, below)

  count_by : (m : Mode) (a n : ℕ) → (n == (kept_of s lines).publications) ≡ true → is_count_right m (kept_of s lines) a n ≡ true
  count_by Replay a n h = h
  count_by Run a n h =
      let same : n ≡ (kept_of s lines).publications = eqb-true n (kept_of s lines).publications h in
      let seen : (job_of a (kept_of s lines).jobs).seen ≤ (kept_of s lines).publications = job_seen a (slice_get (kept_of s lines).jobs a) refl in
      and_from (nat_le (job_of a (kept_of s lines).jobs).seen n) (nat_le n (kept_of s lines).publications)
      (le-leb (job_of a (kept_of s lines).jobs).seen n (omega (arith, same, seen)))
      (le-leb n (kept_of s lines).publications (omega (arith, same)))

  -- a look that is due has its place
  pub look_placed : (m : Mode) (a : ℕ) (seen : SeenValue) (x : Answer) → due_answer s (kept_of s lines) ≡ Some x → same_answer (answer.Look seen) x ≡ true → is_count_right m (kept_of s lines) a seen.count && same_board seen.shown (board_after (kept_of s lines).publications seen.count (boards_of s lines)) ≡ true
  look_placed m a seen x e h =
      let k : Kept = kept_of s lines in
      let now : is_now k (Some x) ≡ true = ap (is_now k) (sym e) ∙ due_now k s in
      let q = and_parts (seen.count == k.publications) (same_board seen.shown (board_of k.standings)) (same_now k seen x now h) in
      let count : seen.count ≡ k.publications = eqb-true seen.count k.publications q.0 in
      and_from (is_count_right m k a seen.count) (same_board seen.shown (board_after k.publications seen.count (boards_of s lines)))
      (count_by m a seen.count q.0)
      (ap (λ (n : ℕ). same_board seen.shown (board_after k.publications n (boards_of s lines))) count
      ∙ ap (same_board seen.shown) (board_now s lines) ∙ q.1)
