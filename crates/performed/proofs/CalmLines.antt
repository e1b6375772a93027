-- What a served turn sends fits its operation, line by line.
use Rattle.std.proofs.Common.{◌≡◌, inl, inr, ℕ, zero, suc, ◌==◌, ◌&&◌, not, Bool, true, false, if◌then◌else◌, Option, Some, None, List, [], ◌∷◌, ◌+◌, length, refl, ap, sym, ◌∙◌, subst, true≢false, ◌-◌}
use Rattle.std.specs.Prelude.{option_map, option_and_then}
use Rattle.std.proofs.lemmas.Bool.{and_parts, eqb-true}
use Rattle.apdu.specs.Values.{CommandValue, ResponseValue}
use Rattle.apdu.specs.Words.{has_value, same_number}
use Rattle.apdu.specs.Apdu.{terminal_response_ins, fetch_ins, is_success, select_ins}
use Rattle.refresh_cmd.specs.Values.{ProactiveValue}
use Rattle.card_model.specs.declared.world.WorldEvent.{WorldEvent}
use Rattle.card_model.specs.declared.world.WorldEvent.TheVariants.{Arm, Out, Insert}
use Rattle.script_reader.specs.declared.types.Script.{Script}
use Rattle.script_reader.specs.declared.types.Operation.{Operation}
use Rattle.script_reader.specs.declared.types.Operation.TheVariants as operation
use Rattle.report.specs.declared.answer.Answer.{Answer}
use Rattle.report.specs.declared.line.Line.{Line}
use Rattle.report.specs.declared.line.Line.TheVariants as line
use Rattle.families.specs.Families.{family_paths}
use Rattle.link.specs.declared.chain.Chain.{Chain}
use Rattle.link.specs.declared.chain.Final.{Final}
use Rattle.link.specs.Commands.{follow_up, asks_more, chain_count, chain_first, final_after}
use Rattle.epoch_cache.specs.declared.cached.CachedFile.{CachedFile}
use Rattle.epoch_cache.specs.Cache.{first_missing, asks_reset, handed_refresh}
use Rattle.loader.specs.Load.{is_selected, read_behind}
use Rattle.refresher.specs.Refresh.{profile_command, select_usim, startup_command, fetch_command, owed_unless, owed_to, owed_by}
use Rattle.rules.specs.declared.kept.Begun.{Begun}
use Rattle.rules.specs.declared.kept.Facts.{Facts}
use Rattle.rules.specs.declared.kept.Job.{Job}
use Rattle.rules.specs.declared.kept.Kept.{Kept}
use Rattle.rules.specs.declared.kept.Stage.{Stage}
use Rattle.rules.specs.declared.kept.Stage.TheVariants.{Fresh as fresh, Next as next, Resetting as resetting, Over as over}
use Rattle.rules.specs.declared.kept.Turn.{Turn}
use Rattle.rules.specs.declared.kept.Work.{Work}
use Rattle.rules.specs.declared.kept.Work.TheVariants.{Rests as rests, Refuses as refuses, Lacks as lacks, Sends as sends, Reads as reads, Writes as writes, Resets as resets, Happens as happens}
use Rattle.loader.specs.declared.reading.RefusedReading.{RefusedReading}
use Rattle.rules.specs.History.{lives_in, is_living}
use Rattle.rules.specs.Channels.{held_numbers, handle_of, is_living_handle, is_raw_ins}
use Rattle.rules.specs.Kept.{operation_at, begun_of, begun_operation, operation_now, job_of, actor_count, change_at}
use Rattle.rules.specs.Standing.{first_stale}
use Rattle.rules.specs.Work.{is_starting, read_stale, first_item, framework_work, reads_first, status_command, work_of_operation, if_living, living_handle, sends_raw, sends_close}
use Rattle.rules.specs.After.{next_or_over, stage_of_sent, stage_after, opened_behind, turn_answered, decision_of_begun, decision_at, fresh_begun, facts_of, refused_of, jobs_beside, jobs_of_actor, kept_after, kept_of, stage_of_open, job_beside, own_job, begun_exchanged, begun_with, begun_beside, edit_of}
use Rattle.rules.specs.Due.{due}
use Rattle.rules.specs.Rules.{is_turn_of, turn_operation, operation_in_turn}
use Rattle.rules.specs.Performed.{is_sent}
use Rattle.performed.specs.Names.{has_utf8_name, has_utf8_names}
use Rattle.performed.specs.Followed.{is_followed, are_followed}
use Rattle.performed.proofs.ProgressBegins.{Starts, starts}
use Rattle.performed.proofs.ProgressJobs.{changed, mapped}
use Rattle.performed.proofs.JobPlaces.{job_count, begun_place}
use Rattle.performed.proofs.CalmKinds.{is_calm, Calm, IsHeld, IsReader, WorkFits, SendsNext, Fits, IsOfTurn, ChainFits, Sends, is_writer, TurnIs}
use Rattle.rules.specs.declared.holdings.Handle.{Handle}
use Rattle.rules.specs.Sessions.{verify_command}
use Rattle.channels.specs.Channels.{open_command, close_command, select_application, on_channel, is_opening}
use Rattle.editor.specs.declared.editing.Attempt.{Attempt}
use Rattle.adn.specs.declared.edit.RowUpdate.{RowUpdate}
use Rattle.editor.specs.Editing.{next_update, update_command}
use Rattle.rules.specs.Editing.{attempt_of}
use Rattle.rules.specs.Work.{work_of_edit}
use Rattle.rules.specs.After.{stage_of_write}
use Rattle.performed.proofs.EditsDecides.{work_passes}
use Rattle.performed.proofs.CalmSends.{ServedOp, behind_calm, exchange_of_turn, follow_calm_by, follow_turn, never, no_verify_asks, served_at, served_now, work_there}

-- ---- what a turn decides

module _ (alive : ℕ → Bool) (handles : List Handle) (actor : Option ℕ) (op : Option Operation) where
  reads_fit : (o : Option (List ℕ)) → IsReader op → WorkFits alive handles actor op (elim o [ None ↦ rests | Some path ↦ reads path ])
  reads_fit None h = tt
  reads_fit (Some path) h = h

  reads_first_fit : (files : List CachedFile) (paths : List (List ℕ)) → IsReader op → WorkFits alive handles actor op (reads_first files paths)
  reads_first_fit files paths h = reads_fit (first_missing files paths) h

  work_if : (b : Bool) (v w : Work) → WorkFits alive handles actor op v → WorkFits alive handles actor op w → WorkFits alive handles actor op (if b then v else w)
  work_if true v w h g = h
  work_if false v w h g = g

  work_elim : (b : Bool) (v w : Work) → WorkFits alive handles actor op v → WorkFits alive handles actor op w → WorkFits alive handles actor op (elim b [ true ↦ v | false ↦ w ])
  work_elim true v w h g = h
  work_elim false v w h g = g

-- an operation on a channel that its actor may hold
module _ (k : Kept) (actor handle : ℕ) where
  held_by : (h : Handle) → handle_of actor handle k.handles ≡ Some h → is_living_handle k.history h ≡ true → IsHeld (is_living k.history) k.handles (Some actor) handle h
  held_by h e lives = record { who = actor; is = refl; held = e; lives = lives }

  module _ (apdu : CommandValue) where
    raw_allowed : (h : Handle) (b : Bool) → handle_of actor handle k.handles ≡ Some h → is_living_handle k.history h ≡ true → is_raw_ins apdu.ins ≡ b → WorkFits (is_living k.history) k.handles (Some actor) (Some (operation.Raw handle apdu)) (if b then sends (on_channel h.number apdu) else rests)
    raw_allowed h true e lives allowed = record { on = h; held = held_by h e lives; allowed = allowed; is = refl }
    raw_allowed h false e lives allowed = tt

    raw_living : (h : Handle) (b : Bool) → handle_of actor handle k.handles ≡ Some h → is_living_handle k.history h ≡ b → WorkFits (is_living k.history) k.handles (Some actor) (Some (operation.Raw handle apdu)) (sends_raw apdu (if b then Some h else None))
    raw_living h true e lives = raw_allowed h (is_raw_ins apdu.ins) e lives refl
    raw_living h false e lives = tt

    raw_fits : (o : Option Handle) → handle_of actor handle k.handles ≡ o → WorkFits (is_living k.history) k.handles (Some actor) (Some (operation.Raw handle apdu)) (sends_raw apdu (living_handle k o))
    raw_fits None e = tt
    raw_fits (Some h) e = raw_living h (is_living_handle k.history h) e refl

  close_living : (h : Handle) (b : Bool) → handle_of actor handle k.handles ≡ Some h → is_living_handle k.history h ≡ b → WorkFits (is_living k.history) k.handles (Some actor) (Some (operation.Close handle)) (sends_close (if b then Some h else None))
  close_living h true e lives = record { on = h; held = held_by h e lives; is = refl }
  close_living h false e lives = tt

  close_fits : (o : Option Handle) → handle_of actor handle k.handles ≡ o → WorkFits (is_living k.history) k.handles (Some actor) (Some (operation.Close handle)) (sends_close (living_handle k o))
  close_fits None e = tt
  close_fits (Some h) e = close_living h (is_living_handle k.history h) e refl

module _ (k : Kept) (actor : ℕ) (b : Begun) where
  while_living : (op : Operation) (work : Work) → WorkFits (is_living k.history) k.handles (Some actor) (Some op) work → WorkFits (is_living k.history) k.handles (Some actor) (Some op) (if_living k b work)
  while_living op work h = work_if (is_living k.history) k.handles (Some actor) (Some op) (lives_in k.history b.epoch) work rests h tt

  edit_operation : (op : Option Operation) → is_writer op ≡ true → IsReader op → WorkFits (is_living k.history) k.handles (Some actor) op (work_of_edit k actor b (edit_of op)).work
  edit_operation op w r = work_passes (WorkFits (is_living k.history) k.handles (Some actor) op) (record { writing = w; reading = λ path. r; resting = tt; lacking = λ key. tt; refusing = λ refusal. tt }) k actor b (edit_of op)

  operation_fits : (op : Operation) → has_utf8_name op ≡ true → WorkFits (is_living k.history) k.handles (Some actor) (Some op) (work_of_operation k actor b op).work
  operation_fits (operation.Insert card) h = tt
  operation_fits operation.Out h = tt
  operation_fits (operation.Arm change) h = tt
  operation_fits (operation.Load f) h = while_living (operation.Load f) (reads_first k.files (family_paths f)) (reads_first_fit (is_living k.history) k.handles (Some actor) (Some (operation.Load f)) k.files (family_paths f) tt)
  operation_fits (operation.OpenChannel handle aid) h = while_living (operation.OpenChannel handle aid) (sends open_command) refl
  operation_fits (operation.Raw handle apdu) h = raw_fits k actor handle apdu (handle_of actor handle k.handles) refl
  operation_fits (operation.Close handle) h = close_fits k actor handle (handle_of actor handle k.handles) refl
  operation_fits (operation.Verify key pin) h = while_living (operation.Verify key pin) (sends (verify_command key pin)) refl
  operation_fits operation.Poll h = while_living operation.Poll (sends status_command) refl
  operation_fits (operation.End key) h = tt
  operation_fits operation.Look h = tt
  operation_fits (operation.Set f at name number) h = edit_operation (Some (operation.Set f at name number)) refl tt
  operation_fits (operation.Clear f at) h = edit_operation (Some (operation.Clear f at)) refl tt
  operation_fits (operation.Watch mask) h = tt
  operation_fits operation.Notices h = tt

begun_fits : (k : Kept) (actor : ℕ) (b : Option Begun) (op : Option Operation) → ServedOp op → WorkFits (is_living k.history) k.handles (Some actor) op (decision_of_begun k actor b op).work
begun_fits k actor (Some b) (Some op) h = operation_fits k actor b op h
begun_fits k actor (Some b) None h = tt
begun_fits k actor None op h = tt

startup_calm : (step : ℕ) → is_calm (startup_command step).ins ≡ true
startup_calm step = follow_calm_by (step == 0) profile_command select_usim refl refl

abbrev announced_item : Kept → Option ℕ → Work
announced_item k o = elim o [ Some byte ↦ sends (fetch_command byte) | None ↦ read_stale k ]

abbrev owed_item : Kept → Option CommandValue → Work
owed_item k o = elim o [ Some c ↦ sends c | None ↦ announced_item k k.history.announced ]

module _ (k : Kept) where
  -- the framework has no operation
  abbrev FrameworkFits : Work → Type 0
  FrameworkFits work = WorkFits (is_living k.history) k.handles (Some 0) None work

  stale_fits : (o : Option ℕ) → FrameworkFits (elim o [ Some f ↦ reads_first k.files (family_paths f) | None ↦ rests ])
  stale_fits None = tt
  stale_fits (Some f) = reads_first_fit (is_living k.history) k.handles (Some 0) None k.files (family_paths f) tt

  announced_fits : (o : Option ℕ) → FrameworkFits (announced_item k o)
  announced_fits None = stale_fits (first_stale k.standings)
  announced_fits (Some byte) = refl

  owed_item_fits : (o : Option CommandValue) → Calm o → FrameworkFits (owed_item k o)
  owed_item_fits None h = announced_fits k.history.announced
  owed_item_fits (Some c) h = h

  item_fits : Calm k.owed → FrameworkFits (first_item k)
  item_fits h = work_if (is_living k.history) k.handles (Some 0) None (is_starting k) (sends (startup_command k.startup)) (owed_item k k.owed) (startup_calm k.startup) (owed_item_fits k.owed h)

  framework_fits : Calm k.owed → FrameworkFits (framework_work k)
  framework_fits h = work_if (is_living k.history) k.handles (Some 0) None k.history.owes_reset resets (elim k.history.living [ true ↦ first_item k | false ↦ rests ]) tt (work_elim (is_living k.history) k.handles (Some 0) None k.history.living (first_item k) rests (item_fits h) tt)

no_operation : (s : Script) (b : Option Begun) → begun_operation s zero b ≡ None
no_operation s None = refl
no_operation s (Some b) = refl

marked_fits : (s : Script) (a : ℕ) (k : Kept) → has_utf8_names s ≡ true → Calm k.owed → WorkFits (is_living k.history) k.handles (Some a) (operation_now s a k.jobs) (decision_at s (line.Turn a) k).work
marked_fits s zero k served h = subst (λ (o : Option Operation). WorkFits (is_living k.history) k.handles (Some 0) o (framework_work k)) (sym (no_operation s (begun_of zero k.jobs))) (framework_fits k h)
marked_fits s (suc a) k served h = begun_fits k (suc a) (begun_of (suc a) k.jobs) (operation_now s (suc a) k.jobs) (served_now s (suc a) k.jobs served)

-- ---- the stage behind an exchange

abbrev NextFits : Option ℕ → Option Operation → Work → Stage → Type 0
NextFits opened op work fresh = ⊥
NextFits opened op work (next c) = SendsNext opened op work c
NextFits opened op work resetting = Unit {0}
NextFits opened op work over = Unit {0}

module _ (opened : Option ℕ) (op : Option Operation) (work : Work) where
  next_if : (b : Bool) (v w : Stage) → NextFits opened op work v → NextFits opened op work w → NextFits opened op work (if b then v else w)
  next_if true v w h g = h
  next_if false v w h g = g

module _ (handle : ℕ) (aid : List ℕ) (work : Work) where
  selects_next : (opened o : Option ℕ) → opened ≡ o → NextFits opened (Some (operation.OpenChannel handle aid)) work (next_or_over (option_map (λ n. select_application n aid) o))
  selects_next opened None e = tt
  selects_next opened (Some n) e = record { number = n; gave = e; is = inl refl }

  closes_next : (opened o : Option ℕ) → opened ≡ o → NextFits opened (Some (operation.OpenChannel handle aid)) work (next_or_over (option_map close_command o))
  closes_next opened None e = tt
  closes_next opened (Some n) e = record { number = n; gave = e; is = inr refl }

  open_next : (opened : Option ℕ) (f : Final) → NextFits opened (Some (operation.OpenChannel handle aid)) work (stage_of_open aid opened f)
  open_next opened f =
      let op : Option Operation = Some (operation.OpenChannel handle aid) in
      let closing : Stage = next_or_over (option_map close_command opened) in
      let refused : Bool = (f.command.ins == select_ins) && not (is_success f.response.sw) in
      next_if opened op work (is_opening f.command) (next_or_over (option_map (λ n. select_application n aid) opened)) (if refused then closing else over) (selects_next opened opened refl)
      (next_if opened op work refused closing over (closes_next opened opened refl) tt)

sent_by_next : (work : Work) (op : Operation) (opened : Option ℕ) (refresh : Option ProactiveValue) (f : Final) → has_utf8_name op ≡ true → NextFits opened (Some op) work (stage_of_sent (Some op) opened refresh f)
sent_by_next work (operation.OpenChannel handle aid) opened refresh f h = open_next handle aid work opened f
sent_by_next work (operation.Insert card) opened refresh f h = tt
sent_by_next work operation.Out opened refresh f h = tt
sent_by_next work (operation.Arm change) opened refresh f h = tt
sent_by_next work (operation.Load g) opened refresh f h = tt
sent_by_next work (operation.Raw handle apdu) opened refresh f h = tt
sent_by_next work (operation.Close handle) opened refresh f h = tt
sent_by_next work (operation.Verify key pin) opened refresh f h = tt
sent_by_next work operation.Poll opened refresh f h = tt
sent_by_next work (operation.End key) opened refresh f h = tt
sent_by_next work operation.Look opened refresh f h = tt
sent_by_next work (operation.Set g at name number) opened refresh f h = tt
sent_by_next work (operation.Clear g at) opened refresh f h = tt
sent_by_next work (operation.Watch mask) opened refresh f h = tt
sent_by_next work operation.Notices opened refresh f h = tt

sent_next : (work : Work) (op : Option Operation) (opened : Option ℕ) (refresh : Option ProactiveValue) (f : Final) → ServedOp op → NextFits opened op work (stage_of_sent op opened refresh f)
sent_next work None opened refresh f h = next_if opened None work (has_value asks_reset refresh) resetting over tt tt
sent_next work (Some op) opened refresh f h = sent_by_next work op opened refresh f h

reading_next : (path : List ℕ) (opened : Option ℕ) (op : Option Operation) (o : Option CommandValue) → IsReader op → Calm o → NextFits opened op (reads path) (next_or_over o)
reading_next path opened op None r h = tt
reading_next path opened None (Some c) r h = h
reading_next path opened (Some (operation.Load f)) (Some c) r h = h
reading_next path opened (Some (operation.Set f at name number)) (Some c) r h = h
reading_next path opened (Some (operation.Clear f at)) (Some c) r h = h
reading_next path opened (Some op) (Some c) r h = absurd r

update_next : (opened : Option ℕ) (op : Option Operation) (o : Option RowUpdate) → is_writer op ≡ true → NextFits opened op writes (next_or_over (option_map update_command o))
update_next opened op None w = tt
update_next opened (Some (operation.Set f at name number)) (Some u) w = refl
update_next opened (Some (operation.Clear f at)) (Some u) w = refl
update_next opened op (Some u) w = never w

writing_next : (opened : Option ℕ) (op : Option Operation) (attempt : Option Attempt) (f : Final) → is_writer op ≡ true → NextFits opened op writes (stage_of_write attempt f)
writing_next opened op attempt f w =
    next_if opened op writes (is_selected f) (next_or_over (option_map update_command (option_and_then next_update attempt))) over
    (update_next opened op (option_and_then next_update attempt) w) tt

module _ (alive : ℕ → Bool) (handles : List Handle) (actor : Option ℕ) (op : Option Operation) where
  stage_next : (work : Work) (opened : Option ℕ) (job : Job) (refresh : Option ProactiveValue) (f : Final) → ServedOp op → WorkFits alive handles actor op work → NextFits opened op work (stage_after work op opened job refresh f)
  stage_next (sends c) opened job refresh f h w = sent_next (sends c) op opened refresh f h
  stage_next (reads path) opened job refresh f h w = reading_next path opened op (read_behind path job.readings f) w (behind_calm path job.readings f)
  stage_next writes opened job refresh f h w = writing_next opened op (attempt_of job.begun) f w
  stage_next rests opened job refresh f h w = tt
  stage_next (refuses r) opened job refresh f h w = tt
  stage_next (lacks key) opened job refresh f h w = tt
  stage_next resets opened job refresh f h w = tt
  stage_next (happens e) opened job refresh f h w = tt

  with_work : (opened : Option ℕ) (work : Work) (stage : Stage) → NextFits opened op work stage → WorkFits alive handles actor op work → Fits alive handles actor op opened work stage
  with_work opened work fresh n w = absurd n
  with_work opened work (next c) n w = (n, w)
  with_work opened work resetting n w = tt
  with_work opened work over n w = tt

-- behind an exchange, final or not
abbrev pub turn_by : Option Operation → Job → List ℕ → Facts → Option RefusedReading → Turn → Option Final → Turn
turn_by op job held facts refused t o = elim o [ None ↦ record t { bare = false } | Some f ↦ turn_answered op job (opened_behind held f t.opened) facts.touch.refresh refused f t ]

module _ (op : Option Operation) (job : Job) (held : List ℕ) (facts : Facts) (refused : Option RefusedReading) (t : Turn) where
  exchanged_fits : (alive : ℕ → Bool) (handles : List Handle) (actor : Option ℕ) (o : Option Final) → ServedOp op → Fits alive handles actor op t.opened t.work t.stage → WorkFits alive handles actor op t.work → Fits alive handles actor op (turn_by op job held facts refused t o).opened (turn_by op job held facts refused t o).work (turn_by op job held facts refused t o).stage
  exchanged_fits alive handles actor None h g w = g
  exchanged_fits alive handles actor (Some f) h g w =
      let opened : Option ℕ = opened_behind held f t.opened in
      with_work alive handles actor op opened t.work (stage_after t.work op opened job facts.touch.refresh f) (stage_next alive handles actor op t.work opened job facts.touch.refresh f h w) w

  exchanged_chain : (b : Bool) (chain : Chain) (f : Final) → (b ≡ true → IsOfTurn t.work t.stage chain.next) → ChainFits (turn_by op job held facts refused t (if b then None else Some f)).work (turn_by op job held facts refused t (if b then None else Some f)).stage (if b then Some chain else None)
  exchanged_chain true chain f h = h refl
  exchanged_chain false chain f h = tt

  pub exchanged_actor : (o : Option Final) → (turn_by op job held facts refused t o).actor ≡ t.actor
  exchanged_actor None = refl
  exchanged_actor (Some f) = refl

  pub exchanged_bare : (o : Option Final) → (turn_by op job held facts refused t o).bare ≡ false
  exchanged_bare None = refl
  exchanged_bare (Some f) = refl

-- ---- the TERMINAL RESPONSE

owed_reset_calm : (b : Bool) (body : List ℕ) → Calm (owed_unless b body)
owed_reset_calm true body = tt
owed_reset_calm false body = refl

calm_elim : (b : Bool) (o p : Option CommandValue) → Calm o → Calm p → Calm (elim b [ true ↦ o | false ↦ p ])
calm_elim true o p h g = h
calm_elim false o p h g = g

owed_to_calm : (refresh : Option ProactiveValue) (f : Final) → Calm (owed_to refresh f)
owed_to_calm refresh f = calm_elim (is_success f.response.sw) (owed_unless (has_value asks_reset refresh) f.response.body) None (owed_reset_calm (has_value asks_reset refresh) f.response.body) tt

calm_none_if : (b : Bool) (o : Option CommandValue) → Calm o → Calm (if b then None else o)
calm_none_if true o h = tt
calm_none_if false o h = h

owed_calm : (refresh : Option ProactiveValue) (f : Option Final) (before : Option CommandValue) → Calm before → Calm (owed_by refresh f before)
owed_calm refresh None before h = h
owed_calm refresh (Some f) before h = calm_elim (f.command.ins == fetch_ins) (owed_to refresh f) (if f.command.ins == terminal_response_ins then None else before) (owed_to_calm refresh f) (calm_none_if (f.command.ins == terminal_response_ins) before h)

-- ---- the operation of the turn

pub index_kept : (s : Script) (a : ℕ) (f : Begun → Begun) → ((b : Begun) → (f b).index ≡ b.index) → (o : Option Begun) → begun_operation s a (option_map f o) ≡ begun_operation s a o
index_kept s a f keeps None = refl
index_kept s a f keeps (Some b) = ap (operation_at s a) (keeps b)

module _ (s : Script) (k : Kept) where
  abbrev StaysAt : ℕ → Job → Type 0
  StaysAt i job = begun_operation s i job.begun ≡ operation_now s i k.jobs

  pub beside_stays : (l : Line) (i : ℕ) → StaysAt i (job_of i (jobs_beside l k.history.epoch (facts_of s l k) k.selected k.jobs))
  beside_stays l i =
      mapped (job_beside l k.history.epoch (facts_of s l k) k.selected) StaysAt StaysAt k.jobs (λ (j : ℕ). refl)
      (λ (j : ℕ) (x : Job) p. index_kept s j (begun_beside l k.history.epoch (facts_of s l k)) (λ b. refl) x.begun ∙ p)
      (λ (j : ℕ) p. p) i

  own_stays : (l : Line) (a : ℕ) → ((x : Job) → begun_operation s a (own_job s l k (facts_of s l k) (decision_at s l k).attempt x).begun ≡ begun_operation s a x.begun) → (i : ℕ) → StaysAt i (job_of i (change_at a (own_job s l k (facts_of s l k) (decision_at s l k).attempt) (jobs_beside l k.history.epoch (facts_of s l k) k.selected k.jobs)))
  own_stays l a own i =
      changed (own_job s l k (facts_of s l k) (decision_at s l k).attempt) StaysAt (jobs_beside l k.history.epoch (facts_of s l k) k.selected k.jobs) a
      (λ (x : Job) p. own x ∙ p) (beside_stays l) i

  marked_stays : (a : ℕ) (attempt : Option Attempt) (x : Job) → begun_operation s a (own_job s (line.Turn a) k (facts_of s (line.Turn a) k) attempt x).begun ≡ begun_operation s a x.begun
  marked_stays zero attempt x = refl
  marked_stays (suc a) attempt x = index_kept s (suc a) (begun_with attempt) (λ b. refl) x.begun

  turn_stays : (a : ℕ) → operation_now s a (kept_after s (line.Turn a) k).jobs ≡ operation_now s a k.jobs
  turn_stays a = own_stays (line.Turn a) a (marked_stays a (decision_at s (line.Turn a) k).attempt) a

  exchange_stays : (a : ℕ) (c : CommandValue) (r : ResponseValue) → operation_now s a (kept_after s (line.Exchange a c r) k).jobs ≡ operation_now s a k.jobs
  exchange_stays a c r = own_stays (line.Exchange a c r) a (λ x. index_kept s a (begun_exchanged (edit_of (operation_now s a k.jobs)) k.selected k.chain (facts_of s (line.Exchange a c r) k).event c r) (λ b. refl) x.begun) a

  -- of whose turn it is
  in_turn_stays : (jobs : List Job) → ((i : ℕ) → begun_operation s i (begun_of i jobs) ≡ operation_now s i k.jobs) → (k' : Kept) → k'.jobs ≡ jobs → (o : Option ℕ) → operation_in_turn s k' o ≡ operation_in_turn s k o
  in_turn_stays jobs stays k' e None = refl
  in_turn_stays jobs stays k' e (Some a) = ap (operation_now s a) e ∙ stays a

pub turn_of : (a : ℕ) (o : Option ℕ) → same_number o (Some a) ≡ true → o ≡ Some a
turn_of a None h = absurd (true≢false (sym h))
turn_of a (Some b) h = ap (λ (n : ℕ). Some n) (eqb-true b a h)

-- a line's actor is the turn's
pub turn_is : TurnIs
turn_is s k a c r h = ap (operation_in_turn s k) (turn_of a k.turn.actor (and_parts (is_turn_of a k.turn) (is_sent (due s k) (line.Exchange a c r)) h).0)

-- the same turn and the same operation
pub refit : (alive : ℕ → Bool) (handles : List Handle) (actor to : Option ℕ) (op new : Option Operation) (opened : Option ℕ) (work : Work) (stage : Stage) → actor ≡ to → op ≡ new → Fits alive handles actor op opened work stage → Fits alive handles to new opened work stage
refit alive handles actor to op new opened work stage a o h = subst (λ (x : Option ℕ). Fits alive handles x new opened work stage) a (subst (λ (x : Option Operation). Fits alive handles actor x opened work stage) o h)

fresh_opened : (alive : ℕ → Bool) (handles : List Handle) (actor : Option ℕ) (op : Option Operation) (opened : Option ℕ) (work : Work) (stage : Stage) → stage ≡ fresh → Fits alive handles actor op opened work stage → opened ≡ None
fresh_opened alive handles actor op opened work fresh e h = h.0
fresh_opened alive handles actor op opened work (next c) e h = absurd (cc)
fresh_opened alive handles actor op opened work resetting e h = absurd (cc)
fresh_opened alive handles actor op opened work over e h = absurd (cc)

fits_fresh : (alive : ℕ → Bool) (handles : List Handle) (actor : Option ℕ) (op : Option Operation) (opened : Option ℕ) (work : Work) (stage : Stage) → stage ≡ fresh → opened ≡ None → WorkFits alive handles actor op work → Fits alive handles actor op opened work stage
fits_fresh alive handles actor op opened work stage e o w = subst (λ (x : Stage). Fits alive handles actor op opened work x) (sym e) (o, w)

-- ---- every line

module _ (s : Script) (served : has_utf8_names s ≡ true) (k : Kept) (t : Sends s k) where
  turn_sends : (a : ℕ) → Sends s (kept_after s (line.Turn a) k)
  turn_sends a = record {
    fits = (refl, subst (λ (o : Option Operation). WorkFits (is_living k.history) k.handles (Some a) o (decision_at s (line.Turn a) k).work) (sym (turn_stays s k a)) (marked_fits s a k served t.owed));
    chain = tt;
    owed = t.owed;
    bare = λ h. refl;
  }

  begin_sends : (a i : ℕ) → Starts s k a i → operation_now s a (kept_after s (line.Begin a i) k).jobs ≡ operation_at s a i → Sends s (kept_after s (line.Begin a i) k)
  begin_sends a i starts here =
      let new : Kept = kept_after s (line.Begin a i) k in
      let fresh_now : k.turn.stage ≡ fresh = t.bare starts.bare in
      let opened : k.turn.opened ≡ None = fresh_opened (is_living k.history) k.handles k.turn.actor (turn_operation s k) k.turn.opened k.turn.work k.turn.stage fresh_now t.fits in
      let work : WorkFits (is_living k.history) k.handles (Some a) (operation_at s a i) new.turn.work = begun_fits k a (Some (fresh_begun i k.history)) (operation_at s a i) (served_at s a i served) in
      let op : operation_at s a i ≡ turn_operation s new = sym here ∙ ap (operation_in_turn s new) (sym starts.turn) in
      record {
        fits = refit (is_living k.history) k.handles (Some a) k.turn.actor (operation_at s a i) (turn_operation s new) k.turn.opened new.turn.work k.turn.stage (sym starts.turn) op (fits_fresh (is_living k.history) k.handles (Some a) (operation_at s a i) k.turn.opened new.turn.work k.turn.stage fresh_now opened work);
        chain = tt;
        owed = t.owed;
        bare = λ h. never h;
      }

  exchange_sends : (a : ℕ) (c : CommandValue) (r : ResponseValue) → k.turn.actor ≡ Some a → IsOfTurn k.turn.work k.turn.stage c → Sends s (kept_after s (line.Exchange a c r) k)
  exchange_sends a c r turn sent =
      let l : Line = line.Exchange a c r in
      let new : Kept = kept_after s l k in
      let facts : Facts = facts_of s l k in
      let op : Option Operation = operation_now s a k.jobs in
      let beside : List Job = jobs_beside l k.history.epoch facts k.selected k.jobs in
      let job : Job = job_of a (jobs_of_actor s l k facts (decision_at s l k).attempt (Some a) beside) in
      let held : List ℕ = held_numbers k.history k.handles in
      let refused : Option RefusedReading = refused_of k.selected beside facts.answered in
      let now : turn_operation s k ≡ op = ap (operation_in_turn s k) turn in
      let before : Fits (is_living k.history) k.handles (Some a) op k.turn.opened k.turn.work k.turn.stage = refit (is_living k.history) k.handles k.turn.actor (Some a) (turn_operation s k) op k.turn.opened k.turn.work k.turn.stage turn now t.fits in
      let work : WorkFits (is_living k.history) k.handles (Some a) op k.turn.work = work_there (is_living k.history) k.handles (Some a) op k.turn.opened k.turn.work k.turn.stage c sent before in
      let behind : Fits (is_living k.history) k.handles (Some a) op new.turn.opened new.turn.work new.turn.stage = exchanged_fits op job held facts refused k.turn (is_living k.history) k.handles (Some a) facts.answered (served_now s a k.jobs served) before work in
      let actor : new.turn.actor ≡ Some a = exchanged_actor op job held facts refused k.turn facts.answered ∙ turn in
      let stays : op ≡ turn_operation s new = sym (ap (operation_in_turn s new) actor ∙ exchange_stays s k a c r) in
      record {
        fits = refit (is_living k.history) k.handles (Some a) new.turn.actor op (turn_operation s new) new.turn.opened new.turn.work new.turn.stage (sym actor) stays behind;
        chain =
            exchanged_chain op job held facts refused k.turn (asks_more (chain_count c k.chain + 1) c r)
            (record { first = chain_first c k.chain; count = chain_count c k.chain + 1; next = follow_up c r })
            (record { actor = a; command = chain_first c k.chain; response = r; event = k.history.events + 1; first_event = k.history.events + 1 - chain_count c k.chain })
            (λ asks. follow_turn k.turn.work k.turn.stage c r (no_verify_asks (chain_count c k.chain + 1) c r asks) sent);
        owed = owed_calm (handed_refresh c r) (final_after a c r k.history.events k.chain) k.owed t.owed;
        bare = λ h. never (sym (exchanged_bare op job held facts refused k.turn facts.answered) ∙ h);
      }

  failed_sends : (a : ℕ) (c : CommandValue) (d : Bool) → Sends s (kept_after s (line.Failed a c d) k)
  failed_sends a c d = record { fits = tt; chain = tt; owed = tt; bare = λ h. never h }

  reset_sends : (a : ℕ) → Sends s (kept_after s (line.Reset a) k)
  reset_sends a = record { fits = tt; chain = tt; owed = tt; bare = λ h. never h }

  reset_failed_sends : (a : ℕ) → Sends s (kept_after s (line.ResetFailed a) k)
  reset_failed_sends a = record { fits = tt; chain = tt; owed = tt; bare = λ h. never h }

  world_sends : (a : ℕ) (e : WorldEvent) → Sends s (kept_after s (line.World a e) k)
  world_sends a (Insert j) = record { fits = tt; chain = tt; owed = tt; bare = λ h. never h }
  world_sends a Out = record { fits = tt; chain = tt; owed = tt; bare = λ h. never h }
  world_sends a (Arm i) = record { fits = tt; chain = tt; owed = t.owed; bare = λ h. never h }

  published_sends : (n f e v : ℕ) (text : List ℕ) → Sends s (kept_after s (line.Published n f e v text) k)
  published_sends n f e v text = record { fits = tt; chain = tt; owed = t.owed; bare = λ h. never h }

  -- the turn goes on as it was
  same_turn : (new : Kept) → ((i : ℕ) → operation_now s i new.jobs ≡ operation_now s i k.jobs) → Fits (is_living k.history) k.handles k.turn.actor (operation_in_turn s new k.turn.actor) k.turn.opened k.turn.work k.turn.stage
  same_turn new stays = refit (is_living k.history) k.handles k.turn.actor k.turn.actor (turn_operation s k) (operation_in_turn s new k.turn.actor) k.turn.opened k.turn.work k.turn.stage refl (sym (in_turn_stays s k new.jobs stays new refl k.turn.actor)) t.fits

  epoch_end_sends : (n e v : ℕ) → Sends s (kept_after s (line.EpochEnd n e v) k)
  epoch_end_sends n e v = record { fits = same_turn (kept_after s (line.EpochEnd n e v) k) (beside_stays s k (line.EpochEnd n e v)); chain = tt; owed = t.owed; bare = λ h. never h }

  refused_sends : (f n : ℕ) → Sends s (kept_after s (line.Refused f n) k)
  refused_sends f n = record { fits = same_turn (kept_after s (line.Refused f n) k) (beside_stays s k (line.Refused f n)); chain = tt; owed = t.owed; bare = λ h. never h }

  answered_sends : (a i : ℕ) (given : Answer) → Sends s (kept_after s (line.Answered a i given) k)
  answered_sends a i given = record { fits = tt; chain = tt; owed = t.owed; bare = λ h. never h }

  line_sends : (l : Line) → length k.jobs ≡ actor_count s + 1 → is_followed s k l ≡ true → Sends s (kept_after s l k)
  line_sends (line.Turn a) count h = turn_sends a
  line_sends (line.Begin a i) count h = let st : Starts s k a i = starts s k i a h in begin_sends a i st (begun_place s k a i st count)
  line_sends (line.Exchange a c r) count h = exchange_sends a c r (turn_of a k.turn.actor (and_parts (is_turn_of a k.turn) (is_sent (due s k) (line.Exchange a c r)) h).0) (exchange_of_turn s k a c r t h)
  line_sends (line.Failed a c d) count h = failed_sends a c d
  line_sends (line.Reset a) count h = reset_sends a
  line_sends (line.ResetFailed a) count h = reset_failed_sends a
  line_sends (line.World a e) count h = world_sends a e
  line_sends (line.Published n f e v text) count h = published_sends n f e v text
  line_sends (line.EpochEnd n e v) count h = epoch_end_sends n e v
  line_sends (line.Refused f n) count h = refused_sends f n
  line_sends (line.Answered a i given) count h = answered_sends a i given

pub sends_of : (s : Script) (lines : List Line) → has_utf8_names s ≡ true → are_followed s lines ≡ true → Sends s (kept_of s lines)
sends_of s [] served h = record { fits = tt; chain = tt; owed = tt; bare = λ h. never h }
sends_of s (l ∷ earlier) served h =
    let p = and_parts (are_followed s earlier) (is_followed s (kept_of s earlier) l) h in
    line_sends s served (kept_of s earlier) (sends_of s earlier served p.0) l (job_count s earlier) p.1
