-- What makes a line due in a turn whose beginning has done nothing yet.
use Rattle.std.proofs.Common.{◌≡◌, ℕ, ◌&&◌, ◌||◌, Bool, true, false, if◌then◌else◌, List, Option, Some, None, is_some, is_none, refl, sym, ap, ◌∙◌, true≢false}
use Rattle.std.specs.Prelude.{option_and_then}
use Rattle.apdu.specs.Values.{CommandValue}
use Rattle.card_model.specs.declared.world.WorldEvent.{WorldEvent}
use Rattle.card_model.specs.declared.world.WorldEvent.TheVariants as world_event
use Rattle.script_reader.specs.declared.types.Script.{Script}
use Rattle.script_reader.specs.declared.types.Operation.{Operation}
use Rattle.script_reader.specs.declared.types.Operation.TheVariants as operation
use Rattle.report.specs.declared.answer.Answer.{Answer}
use Rattle.report.specs.declared.answer.Answer.TheVariants as answer
use Rattle.adn.specs.declared.edit.Edit.{Edit}
use Rattle.adn.specs.declared.edit.Edit.TheVariants as edit
use Rattle.families.specs.Families.{family_paths}
use Rattle.editor.specs.Editing.{with_attempt}
use Rattle.epoch_cache.specs.declared.cached.CachedFile.{CachedFile}
use Rattle.epoch_cache.specs.Cache.{all_current, first_missing}
use Rattle.link.specs.declared.chain.Chain.{Chain}
use Rattle.channels.specs.Channels.{on_channel, open_command, close_command}
use Rattle.rules.specs.declared.holdings.Handle.{Handle}
use Rattle.rules.specs.declared.kept.Begun.{Begun}
use Rattle.rules.specs.declared.kept.Kept.{Kept}
use Rattle.rules.specs.declared.kept.Stage.{Stage}
use Rattle.rules.specs.declared.kept.Stage.TheVariants.{Fresh as fresh}
use Rattle.rules.specs.declared.kept.Work.{Work}
use Rattle.rules.specs.declared.kept.Work.TheVariants.{Rests as rests, Sends as sends, Reads as reads, Resets as resets, Happens as happens}
use Rattle.rules.specs.History.{lives_in, is_living}
use Rattle.rules.specs.Kept.{job_of, begun_of, operation_now}
use Rattle.rules.specs.Channels.{is_handle_of, handle_of, is_living_handle, is_raw_ins}
use Rattle.rules.specs.Sessions.{has_session, verify_command}
use Rattle.rules.specs.Editing.{family_edit}
use Rattle.rules.specs.Work.{reads_first, status_command, living_handle, sends_raw, sends_close, work_of_operation, family_published}
use Rattle.apdu.specs.Words.{or_else}
use Rattle.rules.specs.Due.{with_card, with_ended, is_lost, loaded, outcome_answer, on_handle, raw_on_handle, first_command, first_of_turn, command_by_stage, command_by_chain, reset_by_stage, event_by_stage, event_of, is_resetting, published_by, answer_of_begun, answer_of_actor, due_of_actor, due_by_answer, due_by_publication, due_by_refusal, due_by_event, due_by_reset, due_by_command, due_by_end, due, due_command, is_reset_due, tried_event, due_publication, due_answer}
use Rattle.rules.specs.Performed.{ends_turn}
use Rattle.performed.specs.Names.{has_utf8_name}
use Rattle.performed.proofs.ProgressSound.{lives_or_ended}
use Rattle.performed.proofs.EditsDecides.{none_missing}
use Rattle.performed.proofs.Lists.{all_found}
use Rattle.performed.proofs.ProgressHandles.{is_sound_handle, are_sound_handles}

-- ---- the walk: what is due first is a line

module _ (s : Script) (k : Kept) where
  actor_line : ends_turn (due_of_actor s k k.turn.actor) ≡ false → (o : Option Answer) → ends_turn (due_by_answer s k o) ≡ false
  actor_line h (Some given) = refl
  actor_line h None = h

  answer_line : (o : Option Answer) → is_some o ≡ true → ends_turn (due_by_answer s k o) ≡ false
  answer_line (Some given) h = refl
  answer_line None h = absurd (true≢false (sym h))

  past_publication : ends_turn (due_by_answer s k (due_answer s k)) ≡ false → (o : Option ℕ) → ends_turn (due_by_publication s k o) ≡ false
  past_publication h (Some f) = refl
  past_publication h None = h

  publication_line : (o : Option ℕ) → is_some o ≡ true → ends_turn (due_by_publication s k o) ≡ false
  publication_line (Some f) h = refl
  publication_line None h = absurd (true≢false (sym h))

  past_refusal : ends_turn (due_by_publication s k (due_publication k)) ≡ false → (o : Option (ℕ × ℕ)) → ends_turn (due_by_refusal s k o) ≡ false
  past_refusal h (Some (f, n)) = refl
  past_refusal h None = h

  past_event : ends_turn (due_by_refusal s k k.turn.refused) ≡ false → (o : Option WorldEvent) → ends_turn (due_by_event s k o) ≡ false
  past_event h (Some e) = refl
  past_event h None = h

  event_line : (o : Option WorldEvent) → is_some o ≡ true → ends_turn (due_by_event s k o) ≡ false
  event_line (Some e) h = refl
  event_line None h = absurd (true≢false (sym h))

  past_reset : ends_turn (due_by_event s k (tried_event k)) ≡ false → (b : Bool) → ends_turn (due_by_reset s k b) ≡ false
  past_reset h true = refl
  past_reset h false = h

  reset_line : (b : Bool) → b ≡ true → ends_turn (due_by_reset s k b) ≡ false
  reset_line true h = refl
  reset_line false h = absurd (true≢false (sym h))

  past_command : ends_turn (due_by_reset s k (is_reset_due k)) ≡ false → (o : Option CommandValue) → ends_turn (due_by_command s k o) ≡ false
  past_command h (Some c) = refl
  past_command h None = h

  command_line : (o : Option CommandValue) → is_some o ≡ true → ends_turn (due_by_command s k o) ≡ false
  command_line (Some c) h = refl
  command_line None h = absurd (true≢false (sym h))

  past_end : ends_turn (due_by_command s k (due_command k)) ≡ false → (o : Option (ℕ × ℕ)) → ends_turn (due_by_end s k o) ≡ false
  past_end h (Some (epoch, event)) = refl
  past_end h None = h

  pub goes_by_command : is_some (due_command k) ≡ true → ends_turn (due s k) ≡ false
  goes_by_command h = past_end (command_line (due_command k) h) k.turn.ended

  pub goes_by_reset : is_reset_due k ≡ true → ends_turn (due s k) ≡ false
  goes_by_reset h = past_end (past_command (reset_line (is_reset_due k) h) (due_command k)) k.turn.ended

  from_event : ends_turn (due_by_event s k (tried_event k)) ≡ false → ends_turn (due s k) ≡ false
  from_event h = past_end (past_command (past_reset h (is_reset_due k)) (due_command k)) k.turn.ended

  pub goes_by_event : is_some (tried_event k) ≡ true → ends_turn (due s k) ≡ false
  goes_by_event h = from_event (event_line (tried_event k) h)

  from_publication : ends_turn (due_by_publication s k (due_publication k)) ≡ false → ends_turn (due s k) ≡ false
  from_publication h = from_event (past_event (past_refusal h k.turn.refused) (tried_event k))

  pub goes_by_publication : is_some (due_publication k) ≡ true → ends_turn (due s k) ≡ false
  goes_by_publication h = from_publication (publication_line (due_publication k) h)

  pub goes_by_answer : is_some (due_answer s k) ≡ true → ends_turn (due s k) ≡ false
  goes_by_answer h = from_publication (past_publication (answer_line (due_answer s k) h) (due_publication k))

  pub goes_by_actor : ends_turn (due_of_actor s k k.turn.actor) ≡ false → ends_turn (due s k) ≡ false
  goes_by_actor h = from_publication (past_publication (actor_line h (due_answer s k)) (due_publication k))

-- ---- a turn in which nothing was done yet

pub record IsFreshTurn (k : Kept) (actor : ℕ) : Type 0 where
  pub chain : k.chain ≡ None
  pub actor_is : k.turn.actor ≡ Some actor
  pub stage : k.turn.stage ≡ fresh
  pub published : k.turn.published ≡ None

abbrev read_of : Option (List ℕ) → Work
read_of None = rests
read_of (Some path) = reads path

read_is : (o : Option (List ℕ)) → read_of o ≡ (elim o [ None ↦ rests | Some path ↦ reads path ])
read_is None = refl
read_is (Some path) = refl

module _ (s : Script) (k : Kept) (actor : ℕ) (t : IsFreshTurn k actor) where
  pub first_sent : is_some (due_command k) ≡ is_some (first_command k.selected (job_of actor k.jobs) k.turn.work)
  first_sent =
      ap (λ (o : Option Chain). is_some (command_by_chain k o)) t.chain
      ∙ ap (λ (st : Stage). is_some (command_by_stage k st)) t.stage
      ∙ ap (λ (o : Option ℕ). is_some (first_of_turn k.selected k.jobs k.turn.work o)) t.actor_is

  pub sends_goes : (c : CommandValue) → k.turn.work ≡ sends c → ends_turn (due s k) ≡ false
  sends_goes c w = goes_by_command s k (first_sent ∙ ap (λ (x : Work). is_some (first_command k.selected (job_of actor k.jobs) x)) w)

  pub reads_goes : (path : List ℕ) → k.turn.work ≡ reads path → ends_turn (due s k) ≡ false
  reads_goes path w = goes_by_command s k (first_sent ∙ ap (λ (x : Work). is_some (first_command k.selected (job_of actor k.jobs) x)) w)

  pub resets_goes : k.turn.work ≡ resets → ends_turn (due s k) ≡ false
  resets_goes w = goes_by_reset s k (ap (reset_by_stage k.turn.work) t.stage ∙ ap is_resetting w)

  pub happens_goes : (e : WorldEvent) → k.turn.work ≡ happens e → ends_turn (due s k) ≡ false
  happens_goes e w = goes_by_event s k (ap (λ (st : Stage). is_some (event_by_stage k.turn.work st)) t.stage ∙ ap (λ (x : Work). is_some (event_of x)) w)

  publishes : (f : ℕ) → k.turn.family ≡ Some f → all_current k.files (family_paths f) ≡ true → is_some (due_publication k) ≡ true
  publishes f family current =
      ap (λ (o : Option ℕ). is_some (option_and_then (published_by k) o)) family
      ∙ ap (λ (o : Option ℕ). is_some (if is_none o && all_current k.files (family_paths f) then Some f else None)) t.published
      ∙ ap (λ (b : Bool). is_some (if b then Some f else None)) current

  load_by : (f : ℕ) (o : Option (List ℕ)) → first_missing k.files (family_paths f) ≡ o → k.turn.work ≡ read_of o → k.turn.family ≡ Some f → ends_turn (due s k) ≡ false
  load_by f (Some path) e w family = reads_goes path w
  load_by f None e w family = goes_by_publication s k (publishes f family (none_missing k.files (family_paths f) e))

  -- a family is read, or published
  pub load_goes : (f : ℕ) → k.turn.work ≡ reads_first k.files (family_paths f) → k.turn.family ≡ Some f → ends_turn (due s k) ≡ false
  load_goes f w family = load_by f (first_missing k.files (family_paths f)) refl (w ∙ sym (read_is (first_missing k.files (family_paths f)))) family

-- ---- an operation under way

-- `before` and `b` are those that the work was decided by
pub record RunsAs (s : Script) (k before : Kept) (actor : ℕ) (b now : Begun) (op : Operation) : Type 0 where
  pub turn : IsFreshTurn k actor
  pub begun : begun_of actor k.jobs ≡ Some now
  pub operation : operation_now s actor k.jobs ≡ Some op
  pub work : k.turn.work ≡ (work_of_operation before actor b op).work
  pub family : k.turn.family ≡ family_published before b op
  pub files : k.files ≡ before.files
  pub epoch : now.epoch ≡ b.epoch
  pub lives : lives_or_ended before.history now.epoch now.ended ≡ true
  pub handles : k.handles ≡ before.handles
  pub held : are_sound_handles before.history before.handles ≡ true
  pub told : now.told ≡ b.told
  pub editing : now.editing ≡ with_attempt (work_of_operation before actor b op).attempt b.editing

or_none : (a : Bool) → (a || false) ≡ true → a ≡ true
or_none true h = refl
or_none false h = h

module _ (s : Script) (k before : Kept) (actor : ℕ) (b now : Begun) where
  answers : (op : Operation) → RunsAs s k before actor b now op → due_answer s k ≡ answer_of_begun k actor (Some now) (Some op)
  answers op r =
      ap (λ (o : Option ℕ). answer_of_actor s k o) r.turn.actor_is
      ∙ ap (λ (o : Option Begun). answer_of_begun k actor o (operation_now s actor k.jobs)) r.begun
      ∙ ap (λ (o : Option Operation). answer_of_begun k actor (Some now) o) r.operation

  -- a load, of each epoch and end
  abbrev other : Option Answer
  other = or_else (loaded k.turn.published) (outcome_answer k.turn)

  load_alive : (f e : ℕ) → RunsAs s k before actor b now (operation.Load f) → now.epoch ≡ Some e → is_living before.history e ≡ true → ends_turn (due s k) ≡ false
  load_alive f e r epoch lives =
      let alive : lives_in before.history b.epoch ≡ true = ap (lives_in before.history) (sym r.epoch ∙ epoch) ∙ lives in
      load_goes s k actor r.turn f
      (r.work ∙ ap (λ (c : Bool). if c then reads_first before.files (family_paths f) else rests) alive ∙ ap (λ (fs : List CachedFile). reads_first fs (family_paths f)) (sym r.files))
      (r.family ∙ ap (λ (c : Bool). if c then Some f else None) alive)

  load_ended : (f e : ℕ) (d : Option ℕ) → RunsAs s k before actor b now (operation.Load f) → now.epoch ≡ Some e → now.ended ≡ d → ends_turn (due s k) ≡ false
  load_ended f e (Some n) r epoch ended =
      goes_by_answer s k (ap is_some (answers (operation.Load f) r) ∙ ap (λ (o : Option ℕ). is_some (with_card o now other)) epoch
      ∙ ap (λ (o : Option ℕ). is_some (with_ended e o (is_lost now.ended now.editing.lost) other)) ended)
  load_ended f e None r epoch ended =
      load_alive f e r epoch (or_none (is_living before.history e) (sym (ap (λ (o : Option ℕ). lives_or_ended before.history o now.ended) epoch ∙ ap (λ (o : Option ℕ). lives_or_ended before.history (Some e) o) ended) ∙ r.lives))

  load_of : (f : ℕ) (o : Option ℕ) → RunsAs s k before actor b now (operation.Load f) → now.epoch ≡ o → ends_turn (due s k) ≡ false
  load_of f None r epoch = goes_by_answer s k (ap is_some (answers (operation.Load f) r) ∙ ap (λ (o : Option ℕ). is_some (with_card o now other)) epoch)
  load_of f (Some e) r epoch = load_ended f e now.ended r epoch refl

  ended_answers : (ended : Option ℕ) (e : ℕ) (unsure : Bool) (given : Option Answer) → is_some ended ≡ true → is_some (with_ended e ended unsure given) ≡ true
  ended_answers None e unsure given h = absurd (true≢false (sym h))
  ended_answers (Some n) e unsure given h = refl

  -- a command that its operation sends in its epoch, and what comes of it
  record SendsInEpoch (c : CommandValue) (op : Operation) : Type 0 where
    work : k.turn.work ≡ (if lives_in before.history b.epoch then sends c else rests)
    answer : answer_of_begun k actor (Some now) (Some op) ≡ with_card now.epoch now (outcome_answer k.turn)

  module _ (c : CommandValue) (op : Operation) (r : RunsAs s k before actor b now op) (w : SendsInEpoch c op) where
    sent_by : (e : ℕ) (lives : Bool) → now.epoch ≡ Some e → is_living before.history e ≡ lives → (lives || is_some now.ended) ≡ true → ends_turn (due s k) ≡ false
    sent_by e true epoch living p =
        sends_goes s k actor r.turn c
        (w.work ∙ ap (λ (x : Bool). if x then sends c else rests) (ap (lives_in before.history) (sym r.epoch ∙ epoch) ∙ living))
    sent_by e false epoch living p =
        goes_by_answer s k
        (ap is_some (answers op r ∙ w.answer) ∙ ap (λ (o : Option ℕ). is_some (with_card o now (outcome_answer k.turn))) epoch
        ∙ ended_answers now.ended e (is_lost now.ended now.editing.lost) (outcome_answer k.turn) p)

    sent_of : (o : Option ℕ) → now.epoch ≡ o → ends_turn (due s k) ≡ false
    sent_of None epoch = goes_by_answer s k (ap is_some (answers op r ∙ w.answer) ∙ ap (λ (o : Option ℕ). is_some (with_card o now (outcome_answer k.turn))) epoch)
    sent_of (Some e) epoch = sent_by e (is_living before.history e) epoch refl (sym (ap (λ (o : Option ℕ). lives_or_ended before.history o now.ended) epoch) ∙ r.lives)

  -- a command on a handle: not held, or refused, or of an epoch that lives or has an end
  abbrev held_as : ℕ → Option Handle → Type 0
  held_as handle o = handle_of actor handle before.handles ≡ o

  abbrev raw_given : CommandValue → Handle → Bool → Option Answer
  raw_given apdu h allowed = if allowed then with_ended h.epoch h.ended false (outcome_answer k.turn) else Some (answer.RawRefused apdu.ins)

  module _ (handle : ℕ) (apdu : CommandValue) (r : RunsAs s k before actor b now (operation.Raw handle apdu)) where
    raw_work : (o : Option Handle) → held_as handle o → k.turn.work ≡ sends_raw apdu (living_handle before o)
    raw_work o e = r.work ∙ ap (λ (x : Option Handle). sends_raw apdu (living_handle before x)) e

    raw_answers : (o : Option Handle) → held_as handle o → due_answer s k ≡ raw_on_handle handle o apdu.ins (outcome_answer k.turn)
    raw_answers o e = answers (operation.Raw handle apdu) r ∙ ap (λ (x : Option Handle). raw_on_handle handle x apdu.ins (outcome_answer k.turn)) (ap (handle_of actor handle) r.handles ∙ e)

    raw_by : (h : Handle) (lives : Bool) → held_as handle (Some h) → is_raw_ins apdu.ins ≡ true → is_living_handle before.history h ≡ lives → (lives || is_some h.ended) ≡ true → ends_turn (due s k) ≡ false
    raw_by h true e allowed living p =
        sends_goes s k actor r.turn (on_channel h.number apdu)
        (raw_work (Some h) e ∙ ap (λ (x : Bool). sends_raw apdu (if x then Some h else None)) living ∙ ap (λ (x : Bool). if x then sends (on_channel h.number apdu) else rests) allowed)
    raw_by h false e allowed living p =
        goes_by_answer s k
        (ap is_some (raw_answers (Some h) e) ∙ ap (λ (x : Bool). is_some (raw_given apdu h x)) allowed
        ∙ ended_answers h.ended h.epoch false (outcome_answer k.turn) p)

    raw_allowed : (h : Handle) (allowed : Bool) → held_as handle (Some h) → is_raw_ins apdu.ins ≡ allowed → ends_turn (due s k) ≡ false
    raw_allowed h true e allowed = raw_by h (is_living_handle before.history h) e allowed refl (all_found (is_sound_handle before.history) (is_handle_of actor handle) before.handles h r.held e)
    raw_allowed h false e allowed = goes_by_answer s k (ap is_some (raw_answers (Some h) e) ∙ ap (λ (x : Bool). is_some (raw_given apdu h x)) allowed)

    raw_of : (o : Option Handle) → held_as handle o → ends_turn (due s k) ≡ false
    raw_of None e = goes_by_answer s k (ap is_some (raw_answers None e))
    raw_of (Some h) e = raw_allowed h (is_raw_ins apdu.ins) e refl

  module _ (handle : ℕ) (r : RunsAs s k before actor b now (operation.Close handle)) where
    close_work : (o : Option Handle) → held_as handle o → k.turn.work ≡ sends_close (living_handle before o)
    close_work o e = r.work ∙ ap (λ (x : Option Handle). sends_close (living_handle before x)) e

    close_answers : (o : Option Handle) → held_as handle o → due_answer s k ≡ on_handle handle o (outcome_answer k.turn)
    close_answers o e = answers (operation.Close handle) r ∙ ap (λ (x : Option Handle). on_handle handle x (outcome_answer k.turn)) (ap (handle_of actor handle) r.handles ∙ e)

    close_by : (h : Handle) (lives : Bool) → held_as handle (Some h) → is_living_handle before.history h ≡ lives → (lives || is_some h.ended) ≡ true → ends_turn (due s k) ≡ false
    close_by h true e living p = sends_goes s k actor r.turn (close_command h.number) (close_work (Some h) e ∙ ap (λ (x : Bool). sends_close (if x then Some h else None)) living)
    close_by h false e living p = goes_by_answer s k (ap is_some (close_answers (Some h) e) ∙ ended_answers h.ended h.epoch false (outcome_answer k.turn) p)

    close_of : (o : Option Handle) → held_as handle o → ends_turn (due s k) ≡ false
    close_of None e = goes_by_answer s k (ap is_some (close_answers None e))
    close_of (Some h) e = close_by h (is_living_handle before.history h) e refl (all_found (is_sound_handle before.history) (is_handle_of actor handle) before.handles h r.held e)

  either_given : (held : Bool) (x y : Answer) → is_some (if held then Some x else Some y) ≡ true
  either_given true x y = refl
  either_given false x y = refl

  -- given what becomes of an edit
  pub operation_goes : (op : Operation) → has_utf8_name op ≡ true → RunsAs s k before actor b now op → ((f : ℕ) (e : Edit) → family_edit op ≡ Some (f, e) → ends_turn (due s k) ≡ false) → ends_turn (due s k) ≡ false
  operation_goes (operation.Insert card) served r edits = happens_goes s k actor r.turn (world_event.Insert card) r.work
  operation_goes operation.Out served r edits = happens_goes s k actor r.turn world_event.Out r.work
  operation_goes (operation.Arm change) served r edits = happens_goes s k actor r.turn (world_event.Arm change) r.work
  operation_goes (operation.Load f) served r edits = load_of f now.epoch r refl
  operation_goes (operation.OpenChannel handle aid) served r edits = sent_of open_command (operation.OpenChannel handle aid) r (record { work = r.work; answer = refl }) now.epoch refl
  operation_goes (operation.Raw handle apdu) served r edits = raw_of handle apdu r (handle_of actor handle before.handles) refl
  operation_goes (operation.Close handle) served r edits = close_of handle r (handle_of actor handle before.handles) refl
  operation_goes (operation.Verify key pin) served r edits = sent_of (verify_command key pin) (operation.Verify key pin) r (record { work = r.work; answer = refl }) now.epoch refl
  operation_goes operation.Poll served r edits = sent_of status_command operation.Poll r (record { work = r.work; answer = refl }) now.epoch refl
  operation_goes (operation.End key) served r edits = goes_by_answer s k (ap is_some (answers (operation.End key) r) ∙ either_given (has_session actor key k.sessions) answer.Ended (answer.NotHeldKey key))
  operation_goes operation.Look served r edits = goes_by_answer s k (ap is_some (answers operation.Look r))
  operation_goes (operation.Set f at name number) served r edits = edits f (edit.Set at (record { name = name; number = number })) refl
  operation_goes (operation.Clear f at) served r edits = edits f (edit.Clear at) refl
  operation_goes (operation.Watch mask) served r edits = goes_by_answer s k (ap is_some (answers (operation.Watch mask) r))
  operation_goes operation.Notices served r edits = goes_by_answer s k (ap is_some (answers operation.Notices r))
