-- A turn that neither waits nor finds nothing left has something to do, also behind the line that begins its operation.
use Rattle.std.proofs.Common.{◌≡◌, ℕ, zero, suc, ◌+◌, ◌&&◌, ◌||◌, not, Bool, true, false, if◌then◌else◌, List, [], ◌∷◌, length, Option, Some, None, is_some, is_none, refl, sym, ap, ◌∙◌, true≢false}
use Rattle.std.specs.Prelude.{option_map, nat_le}
use Rattle.std.proofs.lemmas.Bool.{and_parts, or_parts}
use Rattle.apdu.specs.Values.{CommandValue, ResponseValue}
use Rattle.script_reader.specs.declared.types.Script.{Script}
use Rattle.script_reader.specs.declared.types.Operation.{Operation}
use Rattle.report.specs.declared.line.Line.{Line}
use Rattle.report.specs.declared.line.Line.TheVariants as line
use Rattle.families.specs.Families.{family_paths}
use Rattle.link.specs.declared.chain.Final.{Final}
use Rattle.loader.specs.declared.reading.RefusedReading.{RefusedReading}
use Rattle.editor.specs.declared.editing.Attempt.{Attempt}
use Rattle.editor.specs.Editing.{moved_editing, no_editing, with_attempt}
use Rattle.epoch_cache.specs.declared.cached.CachedFile.{CachedFile}
use Rattle.refresher.specs.Refresh.{startup_command, fetch_command}
use Rattle.rules.specs.declared.kept.Begun.{Begun}
use Rattle.rules.specs.declared.kept.Decision.{Decision}
use Rattle.rules.specs.declared.kept.Facts.{Facts}
use Rattle.rules.specs.declared.kept.Job.{Job}
use Rattle.rules.specs.declared.kept.Kept.{Kept}
use Rattle.rules.specs.declared.kept.Stage.TheVariants.{Fresh as fresh}
use Rattle.rules.specs.declared.kept.Turn.{Turn}
use Rattle.rules.specs.declared.kept.Work.{Work}
use Rattle.rules.specs.declared.kept.Work.TheVariants.{Rests as rests, Sends as sends, Resets as resets}
use Rattle.rules.specs.declared.due.Due.TheVariants.{Begin as begin, WaitFor as wait_for, EndOfActor as end_of_actor, Rest as rest}
use Rattle.rules.specs.Standing.{first_stale}
use Rattle.rules.specs.Kept.{actor_count, operation_at, job_of, begun_of, begun_operation, operation_now}
use Rattle.rules.specs.Work.{is_starting, has_work_alive, has_work, has_operations_left, first_actor, all_answered, is_finished, has_ended, waits_on, is_idle, reads_first, read_stale, first_item, framework_work, family_read, work_of_operation}
use Rattle.rules.specs.After.{edit_of, facts_of, decision_at, decision_of_begun, family_of_begun, fresh_begun, begun_with, jobs_beside, opened_behind, refused_of, turn_answered, turn_exchanged, kept_after, kept_of}
use Rattle.rules.specs.Channels.{held_numbers}
use Rattle.rules.specs.Due.{begin_or_rest, due}
use Rattle.rules.specs.Laws.{KeptAgrees, PlansForCard}
use Rattle.rules.specs.Rules.{is_turn_of}
use Rattle.rules.specs.Performed.{ends_turn, begins_as}
use Rattle.performed.specs.Names.{has_utf8_names}
use Rattle.performed.specs.Followed.{are_followed, begins_turn}
use Rattle.performed.specs.Laws.{MarksMove, BeginsMove}
use Rattle.performed.proofs.EditsBegun.{near, begun_marks}
use Rattle.performed.proofs.EditsState.{unmoved_attempt}
use Rattle.performed.proofs.ProgressEdits.{edit_goes}
use Rattle.performed.proofs.ProgressReady.{AreReady, are_ready, fresh_ready}
use Rattle.performed.proofs.JobPlaces.{begun_there, job_count}
use Rattle.performed.proofs.ProgressMarks.{seen_of, SameWork, ended_same, waits_same, same_work, all_kept}
use Rattle.performed.proofs.ProgressServed.{served_at}
use Rattle.performed.proofs.ProgressBegins.{Starts, starts, operation_there}
use Rattle.performed.proofs.ProgressSound.{lives_or_ended, IsSoundOption, IsSoundJob, fresh_lives, sound}
use Rattle.performed.proofs.ProgressHandles.{are_sound_handles, sound_handles}
use Rattle.performed.proofs.ProgressGoes.{IsFreshTurn, RunsAs, goes_by_actor, sends_goes, resets_goes, load_goes, operation_goes}

-- ---- the framework

abbrev stale_work : List CachedFile → Option ℕ → Work
stale_work files None = rests
stale_work files (Some f) = reads_first files (family_paths f)

stale_is : (files : List CachedFile) (o : Option ℕ) → stale_work files o ≡ (elim o [ Some f ↦ reads_first files (family_paths f) | None ↦ rests ])
stale_is files None = refl
stale_is files (Some f) = refl

abbrev announced_work : Work → Option ℕ → Work
announced_work w None = w
announced_work w (Some byte) = sends (fetch_command byte)

announced_is : (w : Work) (o : Option ℕ) → announced_work w o ≡ (elim o [ Some byte ↦ sends (fetch_command byte) | None ↦ w ])
announced_is w None = refl
announced_is w (Some byte) = refl

abbrev owed_work : Work → Option CommandValue → Work
owed_work w None = w
owed_work w (Some c) = sends c

owed_is : (w : Work) (o : Option CommandValue) → owed_work w o ≡ (elim o [ Some c ↦ sends c | None ↦ w ])
owed_is w None = refl
owed_is w (Some c) = refl

living_is : (living : Bool) (w : Work) → (if living then w else rests) ≡ (elim living [ true ↦ w | false ↦ rests ])
living_is true w = refl
living_is false w = refl

last_of : (a b c d : Bool) → (a || b || c || d) ≡ true → a ≡ false → b ≡ false → c ≡ false → d ≡ true
last_of false false false d h ea eb ec = h
last_of true b c d h ea eb ec = absurd (true≢false ea)
last_of false true c d h ea eb ec = absurd (true≢false eb)
last_of false false true d h ea eb ec = absurd (true≢false ec)

module _ (s : Script) (k : Kept) where
  abbrev marked : ℕ → Kept
  marked a = kept_after s (line.Turn a) k

  marked_fresh : (a : ℕ) → IsFreshTurn (marked a) a
  marked_fresh a = record { chain = refl; actor_is = refl; stage = refl; published = refl }

  item_work : first_item k ≡ (if is_starting k then sends (startup_command k.startup) else owed_work (announced_work (stale_work k.files (first_stale k.standings)) k.history.announced) k.owed)
  item_work =
      ap (λ (w : Work). if is_starting k then sends (startup_command k.startup) else w)
      (sym (owed_is (elim k.history.announced [ Some byte ↦ sends (fetch_command byte) | None ↦ read_stale k ]) k.owed)
      ∙ ap (λ (w : Work). owed_work w k.owed) (sym (announced_is (read_stale k) k.history.announced)
      ∙ ap (λ (w : Work). announced_work w k.history.announced) (sym (stale_is k.files (first_stale k.standings)))))

  stale_goes : (o : Option ℕ) → is_some o ≡ true → framework_work k ≡ stale_work k.files o → family_read k ≡ o → ends_turn (due s (marked zero)) ≡ false
  stale_goes None h w family = absurd (true≢false (sym h))
  stale_goes (Some f) h w family = load_goes s (marked zero) zero (marked_fresh zero) f (w ∙ ap (λ (fs : List CachedFile). reads_first fs (family_paths f)) (sym (all_kept k.files))) family

  announced_goes : (o : Option ℕ) → k.history.announced ≡ o → k.history.owes_reset ≡ false → k.history.living ≡ true → is_starting k ≡ false → k.owed ≡ None → has_work_alive k ≡ true → framework_work k ≡ announced_work (stale_work k.files (first_stale k.standings)) o → ends_turn (due s (marked zero)) ≡ false
  announced_goes (Some byte) e owes living starting owed alive w = sends_goes s (marked zero) zero (marked_fresh zero) (fetch_command byte) w
  announced_goes None e owes living starting owed alive w =
      stale_goes (first_stale k.standings) (last_of (is_starting k) (is_some k.owed) (is_some k.history.announced) (is_some (first_stale k.standings)) alive starting (ap is_some owed) (ap is_some e)) w
      (ap (λ (b : Bool). if b || not k.history.living || is_starting k || is_some k.owed || is_some k.history.announced then None else first_stale k.standings) owes
      ∙ ap (λ (b : Bool). if false || not b || is_starting k || is_some k.owed || is_some k.history.announced then None else first_stale k.standings) living
      ∙ ap (λ (b : Bool). if false || not true || b || is_some k.owed || is_some k.history.announced then None else first_stale k.standings) starting
      ∙ ap (λ (x : Option CommandValue). if false || not true || false || is_some x || is_some k.history.announced then None else first_stale k.standings) owed
      ∙ ap (λ (x : Option ℕ). if false || not true || false || false || is_some x then None else first_stale k.standings) e)

  owed_goes : (o : Option CommandValue) → k.owed ≡ o → k.history.owes_reset ≡ false → k.history.living ≡ true → is_starting k ≡ false → has_work_alive k ≡ true → framework_work k ≡ owed_work (announced_work (stale_work k.files (first_stale k.standings)) k.history.announced) o → ends_turn (due s (marked zero)) ≡ false
  owed_goes (Some c) e owes living starting alive w = sends_goes s (marked zero) zero (marked_fresh zero) c w
  owed_goes None e owes living starting alive w = announced_goes k.history.announced refl owes living starting e alive w

  item_goes : (starting : Bool) → is_starting k ≡ starting → k.history.owes_reset ≡ false → k.history.living ≡ true → has_work_alive k ≡ true → framework_work k ≡ (if starting then sends (startup_command k.startup) else owed_work (announced_work (stale_work k.files (first_stale k.standings)) k.history.announced) k.owed) → ends_turn (due s (marked zero)) ≡ false
  item_goes true e owes living alive w = sends_goes s (marked zero) zero (marked_fresh zero) (startup_command k.startup) w
  item_goes false e owes living alive w = owed_goes k.owed refl owes living e alive w

  alive_goes : k.history.owes_reset ≡ false → k.history.living ≡ true → has_work_alive k ≡ true → ends_turn (due s (marked zero)) ≡ false
  alive_goes owes living alive =
      item_goes (is_starting k) refl owes living alive
      (ap (λ (b : Bool). if b then resets else elim k.history.living [ true ↦ first_item k | false ↦ rests ]) owes
      ∙ sym (living_is k.history.living (first_item k))
      ∙ ap (λ (b : Bool). if b then first_item k else rests) living
      ∙ item_work)

  work_goes : (owes : Bool) → k.history.owes_reset ≡ owes → (owes || (k.history.living && has_work_alive k)) ≡ true → ends_turn (due s (marked zero)) ≡ false
  work_goes true e h = resets_goes s (marked zero) zero (marked_fresh zero) (ap (λ (b : Bool). if b then resets else elim k.history.living [ true ↦ first_item k | false ↦ rests ]) e)
  work_goes false e h = let q = and_parts k.history.living (has_work_alive k) h in alive_goes e q.0 q.1

  none_or_some : (o : Option ℕ) → is_none o ≡ false → is_some o ≡ false → ⊥
  none_or_some None n h = true≢false n
  none_or_some (Some a) n h = true≢false h

  has_work_awake : (b : Bool) → has_work k ≡ b → (all_answered s k && not b) ≡ false → is_some (if b then None else first_actor (has_operations_left s k) 0 s.actors) ≡ false → has_work k ≡ true
  has_work_awake true e fin wait = e
  has_work_awake false e fin wait = absurd (none_or_some (first_actor (has_operations_left s k) 0 s.actors) (unfinished (all_answered s k) fin) wait)
    where
      unfinished : (a : Bool) → (a && true) ≡ false → a ≡ false
      unfinished true h = h
      unfinished false h = h

  framework_moves : is_idle s k zero ≡ false → ends_turn (due s (marked zero)) ≡ false
  framework_moves idle =
      let q = or_parts (is_finished s k) (is_some (waits_on s k zero)) idle in
      work_goes k.history.owes_reset refl (has_work_awake (has_work k) refl q.0 q.1)

  -- ---- an actor

  begins_goes : (a : ℕ) (b : Bool) → b ≡ true → ends_turn (if b then begin (job_of (suc a) (marked (suc a)).jobs).answered else rest) ≡ false
  begins_goes a true h = refl
  begins_goes a false h = absurd (true≢false (sym h))

  waits_goes : (a : ℕ) (o : Option ℕ) → o ≡ None → is_none (begun_of (suc a) (marked (suc a)).jobs) ≡ true → ends_turn (elim o [ Some b ↦ wait_for b | None ↦ begin_or_rest s (marked (suc a)) (suc a) ]) ≡ false
  waits_goes a None e free = begins_goes a (is_none (begun_of (suc a) (marked (suc a)).jobs)) free
  waits_goes a (Some b) e free = absurd (cc)

  ended_goes : (a : ℕ) (b : Bool) → b ≡ false → waits_on s (marked (suc a)) (suc a) ≡ None → is_none (begun_of (suc a) (marked (suc a)).jobs) ≡ true → ends_turn (elim b [ true ↦ end_of_actor | false ↦ elim (waits_on s (marked (suc a)) (suc a)) [ Some n ↦ wait_for n | None ↦ begin_or_rest s (marked (suc a)) (suc a) ] ]) ≡ false
  ended_goes a true e waits free = absurd (true≢false e)
  ended_goes a false e waits free = waits_goes a (waits_on s (marked (suc a)) (suc a)) waits free

  none_seen : (o : Option Begun) → option_map seen_of o ≡ None → is_none o ≡ true
  none_seen None h = refl
  none_seen (Some b) h = absurd (cc)

  no_value : (o : Option ℕ) → is_some o ≡ false → o ≡ None
  no_value None h = refl
  no_value (Some x) h = absurd (true≢false h)

  -- none under way: it begins
  free_goes : (a : ℕ) → begun_of (suc a) k.jobs ≡ None → has_ended s k (suc a) ≡ false → waits_on s k (suc a) ≡ None → ends_turn (due s (marked (suc a))) ≡ false
  free_goes a none ended waits =
      let w : SameWork (marked (suc a)) k = same_work s k (suc a) in
      goes_by_actor s (marked (suc a))
      (ended_goes a (has_ended s (marked (suc a)) (suc a)) (ended_same s (marked (suc a)) k w (suc a) ∙ ended) (waits_same s (marked (suc a)) k w (suc a) ∙ waits)
      (none_seen (begun_of (suc a) (marked (suc a)).jobs) ((w.jobs (suc a)).begun ∙ ap (option_map seen_of) none)))

  -- one under way goes on
  module _ (held : are_sound_handles k.history k.handles ≡ true) (ready : AreReady s k) where
    -- no event moves anything
    editing_same : (a : ℕ) (b : Begun) → moved_editing (facts_of s (line.Turn a) k).touch b.editing ≡ b.editing
    editing_same a b = ap (λ (o : Option Attempt). record b.editing { attempt = o }) (unmoved_attempt (facts_of s (line.Turn a) k).touch (λ path. refl) b.editing.decided b.editing.attempt)

    abbrev marked_begun : ℕ → Begun → Begun
    marked_begun a b = begun_with (decision_at s (line.Turn (suc a)) k).attempt (near s (line.Turn (suc a)) k b)

    runs : (a : ℕ) (b : Begun) (op : Operation) → begun_of (suc a) k.jobs ≡ Some b → operation_at s (suc a) b.index ≡ Some op → lives_or_ended k.history b.epoch b.ended ≡ true → RunsAs s (marked (suc a)) k (suc a) b (marked_begun a b) op
    runs a b op eb eo lives =
        let begun : begun_of (suc a) (marked (suc a)).jobs ≡ Some (marked_begun a b) = begun_marks s k a b eb in
        let of : operation_now s (suc a) k.jobs ≡ Some op = ap (begun_operation s (suc a)) eb ∙ eo in
        let decides : decision_at s (line.Turn (suc a)) k ≡ work_of_operation k (suc a) b op =
        ap (λ (o : Option Begun). decision_of_begun k (suc a) o (operation_now s (suc a) k.jobs)) eb
        ∙ ap (λ (o : Option Operation). decision_of_begun k (suc a) (Some b) o) of in
        record {
          turn = marked_fresh (suc a);
          begun = begun;
          operation = ap (begun_operation s (suc a)) begun ∙ eo;
          work = ap (λ (d : Decision). d.work) decides;
          family = ap (λ (o : Option Begun). family_of_begun k o (operation_now s (suc a) k.jobs)) eb ∙ ap (λ (o : Option Operation). family_of_begun k (Some b) o) of;
          files = all_kept k.files;
          epoch = refl;
          lives = lives;
          handles = refl;
          held = held;
          told = refl;
          editing =
              ap (with_attempt (decision_at s (line.Turn (suc a)) k).attempt) (editing_same (suc a) b)
              ∙ ap (λ (d : Decision). with_attempt d.attempt b.editing) decides;
        }

    begun_goes : (a : ℕ) (b : Begun) (o : Option Operation) → begun_of (suc a) k.jobs ≡ Some b → operation_at s (suc a) b.index ≡ o → is_some o ≡ true → has_utf8_names s ≡ true → lives_or_ended k.history b.epoch b.ended ≡ true → ends_turn (due s (marked (suc a))) ≡ false
    begun_goes a b None eb eo there served lives = absurd (true≢false (sym there))
    begun_goes a b (Some op) eb eo there served lives =
        let r : RunsAs s (marked (suc a)) k (suc a) b (marked_begun a b) op = runs a b op eb eo lives in
        operation_goes s (marked (suc a)) k (suc a) b (marked_begun a b) op (served_at s (suc a) b.index op served eo) r
        (λ f e edits. edit_goes s (marked (suc a)) k (suc a) b (marked_begun a b) op r f e edits (ready (suc a) b f e eb (ap edit_of eo ∙ edits)))

    by_begun : (a : ℕ) (o : Option Begun) → begun_of (suc a) k.jobs ≡ o → IsSoundOption s k.history (suc a) o → has_utf8_names s ≡ true → has_ended s k (suc a) ≡ false → waits_on s k (suc a) ≡ None → ends_turn (due s (marked (suc a))) ≡ false
    by_begun a None e p served ended waits = free_goes a e ended waits
    by_begun a (Some b) e p served ended waits = begun_goes a b (operation_at s (suc a) b.index) e refl p.there served p.lives

    actor_moves : (a : ℕ) → IsSoundJob s k.history (suc a) (job_of (suc a) k.jobs) → has_utf8_names s ≡ true → is_idle s k (suc a) ≡ false → ends_turn (due s (marked (suc a))) ≡ false
    actor_moves a p served idle =
        let q = or_parts (has_ended s k (suc a)) (is_some (waits_on s k (suc a))) idle in
        by_begun a (begun_of (suc a) k.jobs) refl p served q.0 (no_value (waits_on s k (suc a)) q.1)

pub marks_move : KeptAgrees → PlansForCard → MarksMove
marks_move agrees plans s lines zero rules served followed told idle = framework_moves s (kept_of s lines) idle
marks_move agrees plans s lines (suc a) rules served followed told idle =
    let k : Kept = kept_of s lines in
    let q = and_parts (are_followed s lines) (begins_turn s k (due s k) (suc a)) followed in
    let ends = (and_parts (ends_turn (due s k)) (not (is_finished s k)) (and_parts (ends_turn (due s k) && not (is_finished s k)) (nat_le (suc a) (actor_count s)) q.1).0).0 in
    actor_moves s k (sound_handles s lines q.0) (are_ready agrees plans s rules served lines q.0 told ends) a (sound s lines q.0 (suc a)) served idle

-- ---- behind the line that begins an operation

-- a turn whose last line is its mark has done nothing
abbrev is_bare : Turn → Bool
is_bare t = t.bare

exchanged_bare : (op : Option Operation) (job : Job) (held : List ℕ) (facts : Facts) (refused : Option RefusedReading) (t : Turn) (o : Option Final) → is_bare (elim o [ None ↦ record t { bare = false } | Some f ↦ turn_answered op job (opened_behind held f t.opened) facts.touch.refresh refused f t ]) ≡ false
exchanged_bare op job held facts refused t None = refl
exchanged_bare op job held facts refused t (Some f) = refl

answered_bare : (op : Option Operation) (job : Job) (held : List ℕ) (facts : Facts) (refused : Option RefusedReading) (t : Turn) → (turn_exchanged op job held facts refused t).bare ≡ false
answered_bare op job held facts refused t = exchanged_bare op job held facts refused t facts.answered

exchange_bare : (s : Script) (k : Kept) (a : ℕ) (c : CommandValue) (r : ResponseValue) → (kept_after s (line.Exchange a c r) k).turn.bare ≡ false
exchange_bare s k a c r =
    let facts : Facts = facts_of s (line.Exchange a c r) k in
    answered_bare (operation_now s a k.jobs) (job_of a (kept_after s (line.Exchange a c r) k).jobs) (held_numbers k.history k.handles) facts
    (refused_of k.selected (jobs_beside (line.Exchange a c r) k.history.epoch facts k.selected k.jobs) facts.answered) k.turn

abbrev IsUndone : Kept → Type 0
IsUndone k = (k.turn.stage ≡ fresh) × (k.turn.published ≡ None)

bare_mark : (s : Script) (lines : List Line) → (kept_of s lines).turn.bare ≡ true → IsUndone (kept_of s lines)
bare_mark s [] h = absurd (true≢false (sym h))
bare_mark s (line.Turn a ∷ e) h = (refl, refl)
bare_mark s (line.Begin a i ∷ e) h = absurd (true≢false (sym h))
bare_mark s (line.Exchange a c r ∷ e) h = absurd (true≢false (sym h ∙ exchange_bare s (kept_of s e) a c r))
bare_mark s (line.Failed a c d ∷ e) h = absurd (true≢false (sym h))
bare_mark s (line.Reset a ∷ e) h = absurd (true≢false (sym h))
bare_mark s (line.ResetFailed a ∷ e) h = absurd (true≢false (sym h))
bare_mark s (line.World a x ∷ e) h = absurd (true≢false (sym h))
bare_mark s (line.Published n f v p text ∷ e) h = absurd (true≢false (sym h))
bare_mark s (line.EpochEnd n v p ∷ e) h = absurd (true≢false (sym h))
bare_mark s (line.Refused f n ∷ e) h = absurd (true≢false (sym h))
bare_mark s (line.Answered a i given ∷ e) h = absurd (true≢false (sym h))

module _ (s : Script) (k : Kept) (a i : ℕ) (t : Starts s k a i) (undone : IsUndone k) (held : are_sound_handles k.history k.handles ≡ true) where
  abbrev begun_kept : Kept
  begun_kept = kept_after s (line.Begin a i) k

  abbrev fresh_one : Begun
  fresh_one = fresh_begun i k.history

  abbrev now_begun : Begun
  now_begun = begun_with (decision_at s (line.Begin a i) k).attempt fresh_one

  fresh_turn : IsFreshTurn begun_kept a
  fresh_turn = record { chain = refl; actor_is = t.turn; stage = undone.0; published = undone.1 }

  fresh_runs : (op : Operation) → operation_at s a i ≡ Some op → begun_of a begun_kept.jobs ≡ Some now_begun → RunsAs s begun_kept k a fresh_one now_begun op
  fresh_runs op eo en = record {
    turn = fresh_turn;
    begun = en;
    operation = ap (begun_operation s a) en ∙ eo;
    work = ap (λ (o : Option Operation). (decision_of_begun k a (Some fresh_one) o).work) eo;
    family = ap (λ (o : Option Operation). family_of_begun k (Some fresh_one) o) eo;
    files = all_kept k.files;
    epoch = refl;
    lives = fresh_lives i k.history;
    handles = refl;
    held = held;
    told = refl;
    editing = ap (λ (o : Option Operation). with_attempt (decision_of_begun k a (Some fresh_one) o).attempt no_editing) eo;
  }

  begun_moves : (o : Option Operation) → operation_at s a i ≡ o → is_some o ≡ true → has_utf8_names s ≡ true → length k.jobs ≡ actor_count s + 1 → ends_turn (due s begun_kept) ≡ false
  begun_moves None e there served count = absurd (true≢false (sym there))
  begun_moves (Some op) e there served count =
      let r : RunsAs s begun_kept k a fresh_one now_begun op = fresh_runs op e (begun_there s k a i t count) in
      operation_goes s begun_kept k a fresh_one now_begun op (served_at s a i op served e) r
      (λ f d edits. edit_goes s begun_kept k a fresh_one now_begun op r f d edits (fresh_ready k.history k.history i))

pub begins_move : BeginsMove
begins_move s lines a i served followed =
    let q = and_parts (are_followed s lines) (is_turn_of a (kept_of s lines).turn && begins_as i (due s (kept_of s lines))) followed in
    let t : Starts s (kept_of s lines) a i = starts s (kept_of s lines) i a q.1 in
    begun_moves s (kept_of s lines) a i t (bare_mark s lines t.bare) (sound_handles s lines q.0) (operation_at s a i) refl (operation_there s (kept_of s lines) a i t) served (job_count s lines)
