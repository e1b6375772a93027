-- Whatever a script does: a command is due only while an epoch lives; without one no file is current and nothing is published, and once the
-- end of the last one is told the board shows nothing.
use Rattle.std.proofs.Common.{◌≡◌, ℕ, zero, suc, ◌+◌, ◌==◌, ◌&&◌, not, Bool, true, false, if◌then◌else◌, List, [], ◌∷◌, map, Option, Some, None, is_some, refl, sym, ap, ◌∙◌, subst, arith, true≢false}
use Rattle.std.specs.Prelude.{nat_le}
use Rattle.std.specs.List.{list_all}
use Rattle.std.proofs.lemmas.Bool.{and_parts, eqb-true}
use Rattle.apdu.specs.Values.{CommandValue}
use Rattle.apdu.specs.Words.{is_one_of}
use Rattle.adn.specs.declared.edit.Edit.{Edit}
use Rattle.card_model.specs.declared.world.WorldEvent.{WorldEvent}
use Rattle.card_model.specs.declared.world.WorldEvent.TheVariants as world_event
use Rattle.families.specs.Families.{all_families, family_paths}
use Rattle.script_reader.specs.declared.types.Script.{Script}
use Rattle.script_reader.specs.declared.types.Operation.{Operation}
use Rattle.script_reader.specs.declared.types.Operation.TheVariants as operation
use Rattle.report.specs.declared.line.Line.{Line}
use Rattle.report.specs.declared.line.Line.TheVariants as line
use Rattle.link.specs.declared.chain.Chain.{Chain}
use Rattle.channels.specs.Channels.{open_command}
use Rattle.epoch_cache.specs.declared.cached.CachedFile.{CachedFile}
use Rattle.epoch_cache.specs.declared.past.Past.{Past}
use Rattle.epoch_cache.specs.Cache.{all_current, forgotten}
use Rattle.rules.specs.declared.due.Due.{Due}
use Rattle.rules.specs.declared.due.Due.TheVariants.{TellEnd as tell_end, Send as send, ResetCard as reset_card, TryEvent as try_event, TellRefusal as tell_refusal, Publish as publish, Give as give, Begin as begin, WaitFor as wait_for, EndOfActor as end_of_actor, Rest as rests_now}
use Rattle.rules.specs.declared.holdings.Handle.{Handle}
use Rattle.rules.specs.declared.kept.Begun.{Begun}
use Rattle.rules.specs.declared.kept.Decision.{Decision}
use Rattle.rules.specs.declared.kept.Job.{Job}
use Rattle.rules.specs.declared.kept.Kept.{Kept}
use Rattle.rules.specs.declared.kept.Stage.{Stage}
use Rattle.rules.specs.declared.kept.Stage.TheVariants.{Fresh as fresh, Next as next, Resetting as resetting, Over as over}
use Rattle.rules.specs.declared.kept.Work.{Work}
use Rattle.rules.specs.declared.kept.Work.TheVariants.{Rests as rests, Refuses as refuses, Lacks as lacks, Sends as sends, Reads as reads, Writes as writes, Resets as resets, Happens as happens}
use Rattle.rules.specs.declared.standing.Standing.{Standing}
use Rattle.rules.specs.Kept.{actor_count, begun_of, job_of, operation_at, operation_now}
use Rattle.rules.specs.History.{lives_in}
use Rattle.rules.specs.Channels.{handle_of, is_living_handle}
use Rattle.rules.specs.Editing.{family_edit}
use Rattle.rules.specs.Sessions.{verify_command}
use Rattle.rules.specs.Standing.{first_standing, standing_after}
use Rattle.rules.specs.Work.{is_finished, decides, edit_work, first_item, living_handle, reads_first, sends_close, sends_raw, status_command, work_of_edit, work_of_operation}
use Rattle.rules.specs.After.{decision_at, decision_of_begun, facts_of, family_begun, fresh_begun, jobs_beside, refused_of, kept_after, kept_of}
use Rattle.rules.specs.Due.{due, due_by_end, due_by_command, due_by_reset, due_command, is_reset_due, command_by_chain, command_by_stage, first_command, first_of_turn}
use Rattle.rules.specs.Performed.{ends_turn, is_sent, is_reset, is_published}
use Rattle.rules.specs.Rules.{is_turn_of}
use Rattle.performed.specs.Followed.{is_tried, are_followed, is_followed}
use Rattle.performed.proofs.TurnsSays.{says_of, turn_done}
use Rattle.performed.proofs.TurnsKept.{quiet_touch}
use Rattle.performed.proofs.TurnsPhase.{Publishes, publishes}
use Rattle.performed.proofs.LegalScript.{is_known, all_known}

pub impossible : {X : Type 0} → false ≡ true → X
impossible h = absurd (true≢false (sym h))

-- ---- what sends commands

abbrev pub sends_work : Work → Bool
sends_work (sends c) = true
sends_work (reads path) = true
sends_work writes = true
sends_work rests = false
sends_work (refuses e) = false
sends_work (lacks key) = false
sends_work resets = false
sends_work (happens e) = false

abbrev pub sends_stage : Work → Stage → Bool
sends_stage work fresh = sends_work work
sends_stage work (next c) = true
sends_stage work resetting = false
sends_stage work over = false

-- what may still be sent is sent in a living epoch
pub record Lively (k : Kept) : Type 0 where
  pub chain : is_some k.chain ≡ true → k.history.living ≡ true
  pub stage : sends_stage k.turn.work k.turn.stage ≡ true → k.history.living ≡ true

-- ---- a command that is due

command_sends : (selected : Option (List ℕ)) (job : Job) (work : Work) (c : CommandValue) → first_command selected job work ≡ Some c → sends_work work ≡ true
command_sends selected job (sends d) c h = refl
command_sends selected job (reads path) c h = refl
command_sends selected job writes c h = refl
command_sends selected job rests c h = absurd (cc)
command_sends selected job (refuses e) c h = absurd (cc)
command_sends selected job (lacks key) c h = absurd (cc)
command_sends selected job resets c h = absurd (cc)
command_sends selected job (happens e) c h = absurd (cc)

first_sends : (k : Kept) (o : Option ℕ) (c : CommandValue) → first_of_turn k.selected k.jobs k.turn.work o ≡ Some c → sends_work k.turn.work ≡ true
first_sends k None c h = absurd (cc)
first_sends k (Some a) c h = command_sends k.selected (job_of a k.jobs) k.turn.work c h

stage_sends : (k : Kept) (stage : Stage) (c : CommandValue) → command_by_stage k stage ≡ Some c → sends_stage k.turn.work stage ≡ true
stage_sends k fresh c h = first_sends k k.turn.actor c h
stage_sends k (next d) c h = refl
stage_sends k resetting c h = absurd (cc)
stage_sends k over c h = absurd (cc)

chain_lives : (k : Kept) (o : Option Chain) (c : CommandValue) → Lively k → k.chain ≡ o → command_by_chain k o ≡ Some c → k.history.living ≡ true
chain_lives k (Some chain) c t e h = t.chain (ap is_some e)
chain_lives k None c t e h = t.stage (stage_sends k k.turn.stage c h)

pub due_lives : (s : Script) (k : Kept) (c : CommandValue) → Lively k → due s k ≡ send c → k.history.living ≡ true
due_lives s k c t h = chain_lives k k.chain c t refl (says_of s k (send c) h)

sent_by : (s : Script) (k : Kept) (l : Line) (d : Due) → Lively k → due s k ≡ d → is_sent d l ≡ true → k.history.living ≡ true
sent_by s k l (send c) t e h = due_lives s k c t e
sent_by s k l d t e h = impossible h

-- a line that sends a command stands in a living epoch
pub sent_lives : (s : Script) (k : Kept) (a : ℕ) (l : Line) → Lively k → is_turn_of a k.turn && is_sent (due s k) l ≡ true → k.history.living ≡ true
sent_lives s k a l t h = sent_by s k l (due s k) t refl (and_parts (is_turn_of a k.turn) (is_sent (due s k) l) h).1

-- ---- what a turn decides

work_if : (b : Bool) (work : Work) → sends_work (if b then work else rests) ≡ true → b ≡ true
work_if true work h = refl
work_if false work h = impossible h

epoch_lives : (h : Past) (o : Option ℕ) → lives_in h o ≡ true → h.living ≡ true
epoch_lives h None e = impossible e
epoch_lives h (Some n) e = (and_parts h.living (h.epoch == n) e).0

item_lives : (k : Kept) (owes living : Bool) → k.history.living ≡ living → sends_work (if owes then resets else elim living [ true ↦ first_item k | false ↦ rests ]) ≡ true → k.history.living ≡ true
item_lives k true living e h = impossible h
item_lives k false true e h = e
item_lives k false false e h = impossible h

-- a command on a channel goes to a handle of a living epoch
living_by : (k : Kept) (on : Option Handle → Work) → sends_work (on None) ≡ false → (h : Handle) (b : Bool) → is_living_handle k.history h ≡ b → sends_work (on (if b then Some h else None)) ≡ true → k.history.living ≡ true
living_by k on none h true e g = (and_parts k.history.living (k.history.epoch == h.epoch) e).0
living_by k on none h false e g = absurd (true≢false (sym g ∙ none))

handle_lives : (k : Kept) (on : Option Handle → Work) → sends_work (on None) ≡ false → (o : Option Handle) → sends_work (on (living_handle k o)) ≡ true → k.history.living ≡ true
handle_lives k on none None g = absurd (true≢false (sym g ∙ none))
handle_lives k on none (Some h) g = living_by k on none h (is_living_handle k.history h) refl g

edit_lives : (k : Kept) (a : ℕ) (b : Begun) (o : Option (ℕ × Edit)) → sends_work (work_of_edit k a b o).work ≡ true → k.history.living ≡ true
edit_lives k a b None h = impossible h
edit_lives k a b (Some (f, e)) h = by_epoch (lives_in k.history b.epoch) refl h
  where
    by_epoch : (x : Bool) → lives_in k.history b.epoch ≡ x → sends_work (elim x as (λ y. Decision) [ true ↦ edit_work k a f e b.editing | false ↦ decides rests ]).work ≡ true → k.history.living ≡ true
    by_epoch true q g = epoch_lives k.history b.epoch q
    by_epoch false q g = impossible g

operation_lives : (k : Kept) (a : ℕ) (b : Begun) (op : Operation) → sends_work (work_of_operation k a b op).work ≡ true → k.history.living ≡ true
operation_lives k a b (operation.Insert card) h = impossible h
operation_lives k a b operation.Out h = impossible h
operation_lives k a b (operation.Arm change) h = impossible h
operation_lives k a b (operation.Load f) h = epoch_lives k.history b.epoch (work_if (lives_in k.history b.epoch) (reads_first k.files (family_paths f)) h)
operation_lives k a b (operation.OpenChannel handle aid) h = epoch_lives k.history b.epoch (work_if (lives_in k.history b.epoch) (sends open_command) h)
operation_lives k a b (operation.Raw handle apdu) h = handle_lives k (sends_raw apdu) refl (handle_of a handle k.handles) h
operation_lives k a b (operation.Close handle) h = handle_lives k sends_close refl (handle_of a handle k.handles) h
operation_lives k a b (operation.Verify key pin) h = epoch_lives k.history b.epoch (work_if (lives_in k.history b.epoch) (sends (verify_command key pin)) h)
operation_lives k a b operation.Poll h = epoch_lives k.history b.epoch (work_if (lives_in k.history b.epoch) (sends status_command) h)
operation_lives k a b (operation.End key) h = impossible h
operation_lives k a b operation.Look h = impossible h
operation_lives k a b (operation.Watch mask) h = impossible h
operation_lives k a b operation.Notices h = impossible h
operation_lives k a b (operation.Set f at name number) h = edit_lives k a b (family_edit (operation.Set f at name number)) h
operation_lives k a b (operation.Clear f at) h = edit_lives k a b (family_edit (operation.Clear f at)) h

begun_lives : (k : Kept) (a : ℕ) (b : Option Begun) (op : Option Operation) → sends_work (decision_of_begun k a b op).work ≡ true → k.history.living ≡ true
begun_lives k a (Some b) (Some op) h = operation_lives k a b op h
begun_lives k a (Some b) None h = impossible h
begun_lives k a None op h = impossible h

mark_lives : (s : Script) (k : Kept) (a : ℕ) → sends_work (decision_at s (line.Turn a) k).work ≡ true → k.history.living ≡ true
mark_lives s k zero h = item_lives k k.history.owes_reset k.history.living refl h
mark_lives s k (suc a) h = begun_lives k (suc a) (begun_of (suc a) k.jobs) (operation_now s (suc a) k.jobs) h

begin_stage : (s : Script) (k : Kept) (a i : ℕ) (stage : Stage) → Lively k → k.turn.stage ≡ stage → sends_stage (decision_at s (line.Begin a i) k).work stage ≡ true → k.history.living ≡ true
begin_stage s k a i fresh t e h = begun_lives k a (Some (fresh_begun i k.history)) (operation_at s a i) h
begin_stage s k a i (next c) t e h = t.stage (ap (sends_stage k.turn.work) e)
begin_stage s k a i resetting t e h = impossible h
begin_stage s k a i over t e h = impossible h

-- ---- behind a line

line_lively : (s : Script) (k : Kept) (l : Line) → is_followed s k l ≡ true → Lively k → Lively (kept_after s l k)
line_lively s k (line.Turn a) f t = record { chain = λ h. impossible h; stage = λ h. mark_lives s k a h }
line_lively s k (line.Begin a i) f t = record { chain = λ h. impossible h; stage = λ h. begin_stage s k a i k.turn.stage t refl h }
line_lively s k (line.Exchange a c r) f t =
    let lives : k.history.living ≡ true = sent_lives s k a (line.Exchange a c r) t f in
    record { chain = λ h. lives; stage = λ h. lives }
line_lively s k (line.Failed a c d) f t = record { chain = λ h. impossible h; stage = λ h. impossible h }
line_lively s k (line.Reset a) f t = record { chain = λ h. impossible h; stage = λ h. impossible h }
line_lively s k (line.ResetFailed a) f t = record { chain = λ h. impossible h; stage = λ h. impossible h }
line_lively s k (line.World a e) f t = record { chain = λ h. impossible h; stage = λ h. impossible h }
line_lively s k (line.Published n g e p text) f t = record { chain = λ h. impossible h; stage = λ h. impossible h }
line_lively s k (line.EpochEnd n e p) f t = record { chain = λ h. impossible h; stage = λ h. t.stage h }
line_lively s k (line.Refused g n) f t = record { chain = λ h. impossible h; stage = λ h. t.stage h }
line_lively s k (line.Answered a i given) f t = record { chain = λ h. impossible h; stage = λ h. impossible h }

pub lively : (s : Script) (lines : List Line) → are_followed s lines ≡ true → Lively (kept_of s lines)
lively s [] f = record { chain = λ h. impossible h; stage = λ h. impossible h }
lively s (l ∷ earlier) f =
    let p = and_parts (are_followed s earlier) (is_followed s (kept_of s earlier) l) f in
    line_lively s (kept_of s earlier) l p.1 (lively s earlier p.0)

-- ---- without a living epoch no file is current

abbrev pub Bare : Kept → Type 0
Bare k = k.history.living ≡ false → k.files ≡ []

quiet_none : (files : List CachedFile) → files ≡ [] → forgotten quiet_touch files ≡ []
quiet_none files h = rw h refl

event_bare : (s : Script) (k : Kept) (a : ℕ) (e : WorldEvent) → Bare k → Bare (kept_after s (line.World a e) k)
event_bare s k a world_event.Out t dead = refl
event_bare s k a (world_event.Insert j) t dead = absurd (true≢false dead)
event_bare s k a (world_event.Arm i) t dead = quiet_none k.files (t dead)

line_bare : (s : Script) (k : Kept) (l : Line) → is_followed s k l ≡ true → Lively k → Bare k → Bare (kept_after s l k)
line_bare s k (line.Exchange a c r) f v t dead = absurd (true≢false (sym (sent_lives s k a (line.Exchange a c r) v f) ∙ dead))
line_bare s k (line.Failed a c d) f v t dead = refl
line_bare s k (line.Reset a) f v t dead = absurd (true≢false dead)
line_bare s k (line.ResetFailed a) f v t dead = refl
line_bare s k (line.World a e) f v t dead = event_bare s k a e t dead
line_bare s k (line.Turn a) f v t dead = quiet_none k.files (t dead)
line_bare s k (line.Begin a i) f v t dead = quiet_none k.files (t dead)
line_bare s k (line.Published n g e p text) f v t dead = quiet_none k.files (t dead)
line_bare s k (line.EpochEnd n e p) f v t dead = quiet_none k.files (t dead)
line_bare s k (line.Refused g n) f v t dead = quiet_none k.files (t dead)
line_bare s k (line.Answered a i given) f v t dead = quiet_none k.files (t dead)

pub bare_of : (s : Script) (lines : List Line) → are_followed s lines ≡ true → Bare (kept_of s lines)
bare_of s [] f dead = refl
bare_of s (l ∷ earlier) f dead =
    let p = and_parts (are_followed s earlier) (is_followed s (kept_of s earlier) l) f in
    line_bare s (kept_of s earlier) l p.1 (lively s earlier p.0) (bare_of s earlier p.0) dead

-- ---- so a publication stands in a living epoch

some_missing : (f : ℕ) → is_one_of f all_families ≡ true → all_current [] (family_paths f) ≡ false
some_missing zero h = refl
some_missing (suc zero) h = refl
some_missing (suc (suc zero)) h = refl
some_missing (suc (suc (suc n))) h = absurd (true≢false (sym h ∙ no_family n))
  where
    no_family : (n : ℕ) → is_one_of (suc (suc (suc n))) all_families ≡ false
    no_family n = grind arith

current_lives : (k : Kept) (f : ℕ) → Bare k → is_one_of f all_families ≡ true → all_current k.files (family_paths f) ≡ true → k.history.living ≡ true
current_lives k f t one current = by_life k.history.living refl
  where
    by_life : (b : Bool) → k.history.living ≡ b → b ≡ true
    by_life true e = refl
    by_life false e = absurd (true≢false (sym current ∙ ap (λ (files : List CachedFile). all_current files (family_paths f)) (t e) ∙ some_missing f one))

pub published_lives : (s : Script) (lines : List Line) (number f e n : ℕ) (text : List ℕ) → are_followed s lines ≡ true → is_one_of f all_families ≡ true → is_published (kept_of s lines) number f e n text (due s (kept_of s lines)) ≡ true → (kept_of s lines).history.living ≡ true
published_lives s lines number f e n text followed one h =
    let p : Publishes (kept_of s lines) f n = publishes s (kept_of s lines) number f e n text h in
    current_lives (kept_of s lines) f (bare_of s lines followed) one p.current

-- ---- what is due behind the commands and the reset of a turn

-- it comes behind them
abbrev pub comes_last : Due → Bool
comes_last (tell_end e n) = false
comes_last (send c) = false
comes_last reset_card = false
comes_last d = true

-- it is no end of an epoch
abbrev pub is_no_end : Due → Bool
is_no_end (tell_end e n) = false
is_no_end d = true

module _ (s : Script) (k : Kept) where
  ended_by : (o : Option (ℕ × ℕ)) → k.turn.ended ≡ o → is_no_end (due s k) ≡ true → o ≡ None
  ended_by None e h = refl
  ended_by (Some (epoch, event)) e h = absurd (true≢false (sym h ∙ ap is_no_end (ap (due_by_end s k) e)))

  -- an end is told before all else
  pub none_ended : is_no_end (due s k) ≡ true → k.turn.ended ≡ None
  none_ended h = ended_by k.turn.ended refl h

  last_no_end : (d : Due) → comes_last d ≡ true → is_no_end d ≡ true
  last_no_end (tell_end e n) h = impossible h
  last_no_end (send c) h = impossible h
  last_no_end reset_card h = impossible h
  last_no_end (try_event e) h = refl
  last_no_end (tell_refusal f n) h = refl
  last_no_end (publish f) h = refl
  last_no_end (give a) h = refl
  last_no_end (begin i) h = refl
  last_no_end (wait_for b) h = refl
  last_no_end end_of_actor h = refl
  last_no_end rests_now h = refl

  by_parts : (o : Option CommandValue) (b : Bool) → due_command k ≡ o → is_reset_due k ≡ b → k.turn.ended ≡ None → comes_last (due s k) ≡ true → b ≡ false
  by_parts (Some c) b e r t h = absurd (true≢false (sym h ∙ ap comes_last (ap (due_by_end s k) t ∙ ap (due_by_command s k) e)))
  by_parts None false e r t h = refl
  by_parts None true e r t h = absurd (true≢false (sym h ∙ ap comes_last (ap (due_by_end s k) t ∙ ap (due_by_command s k) e ∙ ap (due_by_reset s k) r)))

  -- no reset is due then
  pub none_resets : comes_last (due s k) ≡ true → is_reset_due k ≡ false
  none_resets h = by_parts (due_command k) (is_reset_due k) refl refl (none_ended (last_no_end (due s k) h)) h

-- each line but the end of an epoch does what is no end
pub sent_no_end : (d : Due) (l : Line) → is_sent d l ≡ true → is_no_end d ≡ true
sent_no_end (send c) l h = refl
sent_no_end d l h = impossible h

pub reset_no_end : (d : Due) → is_reset d ≡ true → is_no_end d ≡ true
reset_no_end reset_card h = refl
reset_no_end d h = impossible h

pub tried_no_end : (e : WorldEvent) (d : Due) → is_tried e d ≡ true → is_no_end d ≡ true
tried_no_end e (try_event x) h = refl
tried_no_end e d h = impossible h

-- ---- once the end of an epoch is told, the board shows nothing

abbrev pub AllHidden : List Standing → Type 0
AllHidden [] = Unit {0}
AllHidden (st ∷ rest) = (st.shown ≡ None) × AllHidden rest

-- an epoch lives, or its end is still to be told, or nothing is shown
abbrev pub Hidden : Kept → Type 0
Hidden k = k.history.living ≡ false → k.turn.ended ≡ None → AllHidden k.standings

hidden_map : (g : Standing → Standing) → ((st : Standing) → st.shown ≡ None → (g st).shown ≡ None) → (sts : List Standing) → AllHidden sts → AllHidden (map g sts)
hidden_map g each [] t = tt
hidden_map g each (st ∷ rest) t = (each st t.0, hidden_map g each rest t.1)

all_hidden : (g : Standing → Standing) → ((st : Standing) → (g st).shown ≡ None) → (sts : List Standing) → AllHidden (map g sts)
all_hidden g each [] = tt
all_hidden g each (st ∷ rest) = (each st, all_hidden g each rest)

first_hidden : (families : List ℕ) → AllHidden (map first_standing families)
first_hidden [] = tt
first_hidden (f ∷ families) = (refl, first_hidden families)

not_shown : (b : Bool) (number : ℕ) (o : Option ℕ) → b ≡ false → o ≡ None → (if b then Some number else o) ≡ None
not_shown true number o e h = absurd (true≢false e)
not_shown false number o e h = h

published_map : (g : Standing → Standing) (f number : ℕ) → ((st : Standing) → (g st).shown ≡ (if f == st.family then Some number else st.shown)) → (is_one_of f all_families ≡ true → ⊥) → (sts : List Standing) → list_all is_known sts ≡ true → AllHidden sts → AllHidden (map g sts)
published_map g f number shows none [] known t = tt
published_map g f number shows none (st ∷ rest) known t =
    let q = and_parts (is_known st) (list_all is_known rest) known in
    (shows st ∙ not_shown (f == st.family) number st.shown (other (f == st.family) refl q.0) t.0, published_map g f number shows none rest q.1 t.1)
  where
    other : (b : Bool) → (f == st.family) ≡ b → is_one_of st.family all_families ≡ true → b ≡ false
    other false e h = refl
    other true e h = absurd (none (subst (λ (n : ℕ). is_one_of n all_families ≡ true) (sym (eqb-true f st.family e)) h))

module _ (s : Script) (earlier : List Line) (followed : are_followed s earlier ≡ true) (t : Hidden (kept_of s earlier)) where
  abbrev k : Kept
  k = kept_of s earlier

  abbrev stands : Line → Standing → Standing
  stands l st = standing_after l (facts_of s l k).event (facts_of s l k).touch (refused_of k.selected (jobs_beside l k.history.epoch (facts_of s l k) k.selected k.jobs) (facts_of s l k).answered) (family_begun s l) st

  lives : Lively k
  lives = lively s earlier followed

  ended_first : (living : Bool) (epoch event : ℕ) → living ≡ true → (if living then Some (epoch, event) else k.turn.ended) ≡ None → ⊥
  ended_first true epoch event e h = absurd (cc)
  ended_first false epoch event e h = true≢false (sym e)

  -- an epoch that lived ends with the line
  stop_hidden : (l : Line) (living : Bool) → k.history.living ≡ living → k.turn.ended ≡ None → (kept_after s l k).turn.ended ≡ (if living then Some (k.history.epoch, k.history.events + 1) else k.turn.ended) → ((st : Standing) → (stands l st).shown ≡ st.shown) → (kept_after s l k).turn.ended ≡ None → AllHidden (map (stands l) k.standings)
  stop_hidden l true e none is same h = absurd (ended_first true k.history.epoch (k.history.events + 1) refl (sym is ∙ h))
  stop_hidden l false e none is same h = hidden_map (stands l) (λ st x. same st ∙ x) k.standings (t e none)

  still_hidden : (l : Line) → ((st : Standing) → (stands l st).shown ≡ st.shown) → k.history.living ≡ false → k.turn.ended ≡ None → AllHidden (map (stands l) k.standings)
  still_hidden l same dead none = hidden_map (stands l) (λ st x. same st ∙ x) k.standings (t dead none)

  event_hidden : (a : ℕ) (e : WorldEvent) → k.turn.ended ≡ None → Hidden (kept_after s (line.World a e) k)
  event_hidden a world_event.Out none dead h = stop_hidden (line.World a world_event.Out) k.history.living refl none refl (λ st. refl) h
  event_hidden a (world_event.Insert j) none dead h = absurd (true≢false dead)
  event_hidden a (world_event.Arm i) none dead h = still_hidden (line.World a (world_event.Arm i)) (λ st. refl) dead none

  line_hidden : (l : Line) → is_followed s k l ≡ true → Hidden (kept_after s l k)
  line_hidden (line.Turn a) f dead h =
      let ends : ends_turn (due s k) ≡ true = (and_parts (ends_turn (due s k)) (not (is_finished s k)) (and_parts (ends_turn (due s k) && not (is_finished s k)) (nat_le a (actor_count s)) f).0).0 in
      still_hidden (line.Turn a) (λ st. refl) dead (turn_done s k ends).ended
  line_hidden (line.Begin a i) f dead h = still_hidden (line.Begin a i) (λ st. refl) dead h
  line_hidden (line.Exchange a c r) f dead h = absurd (true≢false (sym (sent_lives s k a (line.Exchange a c r) lives f) ∙ dead))
  line_hidden (line.Failed a c d) f dead h =
      absurd (ended_first k.history.living k.history.epoch (k.history.events + 1) (sent_lives s k a (line.Failed a c d) lives f) h)
  line_hidden (line.Reset a) f dead h = absurd (true≢false dead)
  line_hidden (line.ResetFailed a) f dead h =
      stop_hidden (line.ResetFailed a) k.history.living refl (none_ended s k (reset_no_end (due s k) (and_parts (is_turn_of a k.turn) (is_reset (due s k)) f).1)) refl (λ st. refl) h
  line_hidden (line.World a e) f dead h = event_hidden a e (none_ended s k (tried_no_end e (due s k) (and_parts (is_turn_of a k.turn) (is_tried e (due s k)) f).1)) dead h
  line_hidden (line.Published n g e v text) f dead h =
      published_map (stands (line.Published n g e v text)) g n (λ st. refl)
      (λ one. true≢false (sym (published_lives s earlier n g e v text followed one f) ∙ dead))
      k.standings (all_known s earlier) (t dead h)
  line_hidden (line.EpochEnd n e v) f dead h = all_hidden (stands (line.EpochEnd n e v)) (λ st. refl) k.standings
  line_hidden (line.Refused g n) f dead h = still_hidden (line.Refused g n) (λ st. refl) dead h
  line_hidden (line.Answered a i given) f dead h = still_hidden (line.Answered a i given) (λ st. refl) dead h

pub hidden_of : (s : Script) (lines : List Line) → are_followed s lines ≡ true → Hidden (kept_of s lines)
hidden_of s [] f dead h = first_hidden all_families
hidden_of s (l ∷ earlier) f dead h =
    let p = and_parts (are_followed s earlier) (is_followed s (kept_of s earlier) l) f in
    line_hidden s earlier p.0 (hidden_of s earlier p.0) l p.1 dead h
