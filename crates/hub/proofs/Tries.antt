-- An event that is due names one of the script's cards or changes, and is for an operation that has begun.
use Rattle.std.proofs.Common.{◌≡◌, ◌≤◌, ◌&&◌, ◌==◌, ℕ, zero, suc, Bool, true, false, if◌then◌else◌, nat_lt, nat_le, List, [], ◌∷◌, length, slice_get, slice_set, unwrap_or, Option, Some, None, IfSome, is_some, Result, Ok, Err, option_map, refl, sym, ap, ◌∙◌, subst, true≢false, arith}
use Rattle.std.specs.Prelude.{option_and_then}
use Rattle.std.specs.List.{list_all}
use Rattle.std.proofs.lemmas.List.{length-map}
use Rattle.std.proofs.lemmas.Bool.{and_parts}
use Rattle.apdu.specs.Apdu.{select_ins}
use Rattle.apdu.specs.Values.{CommandValue}
use Rattle.apdu.specs.Words.{has_value, is_between}
use Rattle.card_model.specs.declared.world.CardState.{CardState}
use Rattle.card_model.specs.declared.world.World.{World}
use Rattle.card_model.specs.declared.world.WorldEvent.{WorldEvent}
use Rattle.card_model.specs.declared.world.WorldEvent.TheVariants as world_event
use Rattle.card_model.specs.declared.slot.WorldRefusal.{WorldRefusal}
use Rattle.card_model.specs.declared.slot.WorldRefusal.TheVariants as refusal
use Rattle.card_model.specs.Slot.{arm_refusal, armed_count, insert_refusal, out_refusal, refusal_of, IsRefused, IsResultOf}
use Rattle.card_model.specs.Step.{after_event, after_reset, armed_at, armed_card, armed_in, card_inside, inserted, on_card, reset_card, reset_in, step, step_of_card, step_of_place}
use Rattle.channels.specs.Channels.{is_opening, on_channel, open_command}
use Rattle.families.specs.Families.{family_paths}
use Rattle.epoch_cache.specs.Cache.{first_missing}
use Rattle.link.specs.declared.chain.Final.{Final}
use Rattle.loader.specs.declared.reading.RefusedReading.{RefusedReading}
use Rattle.refresher.specs.Refresh.{startup_command, fetch_command}
use Rattle.script_reader.specs.World.{card_of, change_of}
use Rattle.script_reader.specs.declared.types.Script.{Script}
use Rattle.script_reader.specs.declared.types.Operation.{Operation}
use Rattle.script_reader.specs.declared.types.Operation.TheVariants as operation
use Rattle.script_reader.specs.Operations.{has_form, has_target, is_actor, is_operation_within, operation_count}
use Rattle.script_reader.specs.Pairing.{are_paired}
use Rattle.script_reader.specs.Rules.{keeps_rules, cards_keep_rules, changes_keep_rules, actors_keep_rules, schedule_keeps_rules, faults_keep_rules, budget_keeps_rules}
use Rattle.report.specs.declared.answer.Answer.{Answer}
use Rattle.report.specs.declared.line.Line.{Line}
use Rattle.report.specs.declared.line.Line.TheVariants as line
use Rattle.rules.specs.declared.due.Due.TheVariants.{TryEvent as try_event}
use Rattle.rules.specs.declared.holdings.Handle.{Handle}
use Rattle.rules.specs.declared.kept.Begun.{Begun}
use Rattle.rules.specs.declared.kept.Facts.{Facts}
use Rattle.rules.specs.declared.kept.Job.{Job}
use Rattle.rules.specs.declared.kept.Kept.{Kept}
use Rattle.rules.specs.declared.kept.Stage.{Stage}
use Rattle.rules.specs.declared.kept.Stage.TheVariants.{Fresh as fresh, Next as next, Resetting as resetting, Over as over}
use Rattle.rules.specs.declared.kept.Turn.{Turn}
use Rattle.rules.specs.declared.kept.Work.{Work}
use Rattle.rules.specs.declared.kept.Work.TheVariants.{Rests as rests, Refuses as refuses, Lacks as lacks, Sends as sends, Reads as reads, Writes as writes, Resets as resets, Happens as happens}
use Rattle.rules.specs.History.{lives_in}
use Rattle.rules.specs.Standing.{first_stale}
use Rattle.rules.specs.Kept.{begun_of, begun_operation, operation_at, operation_now}
use Rattle.rules.specs.After.{decision_at, decision_of_begun, facts_of, fresh_begun, kept_after, kept_of, opened_behind, stage_after, turn_exchanged}
use Rattle.rules.specs.Due.{answer_of_refusal, due, event_by_stage, event_of, slot_answer_by, tried_event}
use Rattle.rules.specs.Rules.{same_answer}
use Rattle.rules.specs.State.{world_after, world_of}
use Rattle.rules.specs.Channels.{handle_of, is_raw_ins}
use Rattle.rules.specs.Sessions.{verify_command}
use Rattle.adn.specs.declared.edit.Edit.{Edit}
use Rattle.adn.specs.declared.edit.Edit.TheVariants as edit
use Rattle.adn.specs.declared.edit.Plan.{Plan}
use Rattle.adn.specs.declared.edit.PlanError.{PlanError}
use Rattle.families.specs.Families.{family_plan}
use Rattle.families.specs.Plans.{plan_updates}
use Rattle.editor.specs.declared.editing.Attempt.{Attempt}
use Rattle.editor.specs.declared.editing.Decided.{Decided}
use Rattle.editor.specs.declared.editing.Editing.{Editing}
use Rattle.editor.specs.Editing.{edit_paths, next_update, owed_update, planned}
use Rattle.epoch_cache.specs.Cache.{view_of_files}
use Rattle.rules.specs.Editing.{first_lack}
use Rattle.rules.specs.declared.kept.Decision.{Decision}
use Rattle.rules.specs.Work.{attempts, begins_plan, decided_work, decides, edit_work, undecided_work, first_item, is_starting, living_handle, read_stale, reads_first, sends_close, sends_raw, status_command, work_of_operation}
use Rattle.performed.specs.Names.{has_utf8_name, has_utf8_names}
use Rattle.performed.specs.Followed.{are_followed, is_followed}
use Rattle.performed.specs.Measure.{calls_left, is_begun}
use Rattle.performed.specs.Told.{is_refusal_told}
use Rattle.performed.proofs.CalmSends.{ServedOp, served_at, served_now}
use Rattle.performed.proofs.MeasureBegun.{begun_beside_line, begun_exchange, same_turn}
use Rattle.performed.proofs.MeasureShape.{falls}
use Rattle.performed.proofs.ProgressBegins.{starts}
use Rattle.performed.proofs.ProgressMarks.{same_work, seen_of}
use Rattle.performed.proofs.JobPlaces.{begun_there, job_count}
use Rattle.performed.proofs.TurnsSays.{says_of}
use Rattle.hub.specs.Parts.{Parts}
use Rattle.hub.specs.Settled.{IsTied, IsWorldOf}
use Rattle.hub.proofs.Follows.{answer-same}

-- ---- what a turn tries

-- the card that is inserted, or the change that is armed, is one of the script's
fits : Script → WorldEvent → Bool
fits s (world_event.Insert j) = nat_lt j (length s.cards)
fits s world_event.Out = true
fits s (world_event.Arm i) = nat_lt i (length s.changes)

-- the event that the turn tries fits, and its actor has an operation that has begun
record Tries (s : Script) (k : Kept) : Type 0 where
  event : (e : WorldEvent) → tried_event k ≡ Some e → fits s e ≡ true
  begun : (e : WorldEvent) → tried_event k ≡ Some e → is_begun k.turn.actor k.jobs ≡ true

work_fits : Script → Work → Type 0
work_fits s (happens e) = fits s e ≡ true
work_fits s rests = Unit {0}
work_fits s (refuses r) = Unit {0}
work_fits s (lacks key) = Unit {0}
work_fits s (sends c) = Unit {0}
work_fits s (reads path) = Unit {0}
work_fits s writes = Unit {0}
work_fits s resets = Unit {0}

event_fits : (s : Script) (work : Work) (e : WorldEvent) → work_fits s work → event_of work ≡ Some e → fits s e ≡ true
unfolding work_fits
event_fits s (happens x) e h g = let same : x ≡ e = cc in subst (λ y. fits s y ≡ true) same h
event_fits s rests e h g = absurd (cc)
event_fits s (refuses r) e h g = absurd (cc)
event_fits s (lacks key) e h g = absurd (cc)
event_fits s (sends c) e h g = absurd (cc)
event_fits s (reads path) e h g = absurd (cc)
event_fits s writes e h g = absurd (cc)
event_fits s resets e h g = absurd (cc)

-- ---- the operations of a script

all_at : {A : Type 0} (test : A → Bool) (xs : List A) (i : ℕ) (x : A) → list_all test xs ≡ true → slice_get xs i ≡ Some x → test x ≡ true
all_at test [] i x h e = absurd (cc)
all_at test (y ∷ ys) zero x h e = let same : y ≡ x = cc in subst (λ z. test z ≡ true) same (and_parts (test y) (list_all test ys) h).0
all_at test (y ∷ ys) (suc i) x h e = all_at test ys i x (and_parts (test y) (list_all test ys) h).1 e

target_of : (cards changes i : ℕ) (op : Operation) (o : Option (List Operation)) (actors : List (List Operation)) (a : ℕ) → list_all (is_actor cards changes) actors ≡ true → slice_get actors a ≡ o → slice_get (unwrap_or o []) i ≡ Some op → has_target cards changes op ≡ true
target_of cards changes i op None actors a h e g = absurd (cc)
target_of cards changes i op (Some ops) actors a h e g =
    let actor : is_actor cards changes ops ≡ true = all_at (is_actor cards changes) actors a ops h e in
    let p1 = and_parts (list_all has_form ops && list_all is_operation_within ops && list_all (has_target cards changes) ops) (are_paired ops) actor in
    let p2 = and_parts (list_all has_form ops && list_all is_operation_within ops) (list_all (has_target cards changes) ops) p1.0 in
    all_at (has_target cards changes) ops i op p2.1 g

actors_right : (s : Script) → keeps_rules s ≡ true → list_all (is_actor (length s.cards) (length s.changes)) s.actors ≡ true
actors_right s h =
    let version = s.version == 1 in
    let cards = cards_keep_rules s.cards in
    let changes = changes_keep_rules s.changes in
    let actors = actors_keep_rules (length s.cards) (length s.changes) s.actors in
    let schedule = schedule_keeps_rules (length s.actors) s.schedule in
    let faults = faults_keep_rules s.faults in
    let q1 = and_parts (version && cards && changes && actors && schedule && faults) (budget_keeps_rules s.budget) h in
    let q2 = and_parts (version && cards && changes && actors && schedule) faults q1.0 in
    let q3 = and_parts (version && cards && changes && actors) schedule q2.0 in
    let q4 = and_parts (version && cards && changes) actors q3.0 in
    (and_parts (is_between 1 8 (length s.actors) && nat_le (operation_count s.actors) 1000) (list_all (is_actor (length s.cards) (length s.changes)) s.actors) q4.1).1

target_at : (s : Script) (a i : ℕ) (op : Operation) → keeps_rules s ≡ true → operation_at s a i ≡ Some op → has_target (length s.cards) (length s.changes) op ≡ true
target_at s zero i op h e = absurd (cc)
target_at s (suc a) i op h e = target_of (length s.cards) (length s.changes) i op (slice_get s.actors a) s.actors a (actors_right s h) refl e

target_now : (s : Script) (a : ℕ) (b : Option Begun) (op : Operation) → keeps_rules s ≡ true → begun_operation s a b ≡ Some op → has_target (length s.cards) (length s.changes) op ≡ true
target_now s a None op h e = absurd (cc)
target_now s a (Some b) op h e = target_at s a b.index op h e

-- ---- what a turn decides

if_fits : (s : Script) (b : Bool) (work : Work) → work_fits s work → work_fits s (if b then work else rests)
unfolding work_fits
if_fits s true work h = h
if_fits s false work h = tt

missing_fits : (s : Script) (o : Option (List ℕ)) → work_fits s (elim o [ None ↦ rests | Some path ↦ reads path ])
unfolding work_fits
missing_fits s None = tt
missing_fits s (Some path) = tt

raw_fits : (s : Script) (c : CommandValue) (o : Option Handle) → work_fits s (sends_raw c o)
unfolding work_fits
raw_fits s c None = tt
raw_fits s c (Some h) = if_fits s (is_raw_ins c.ins) (sends (on_channel h.number c)) tt

close_fits : (s : Script) (o : Option Handle) → work_fits s (sends_close o)
unfolding work_fits
close_fits s None = tt
close_fits s (Some h) = tt

-- an edit tries no event
lack_fits : (s : Script) (o : Option ℕ) (attempt : Option Attempt) → work_fits s (let d : Decision = elim o [ Some key ↦ decides (lacks key) | None ↦ record { work = writes; attempt = attempt } ] in d).work
unfolding work_fits
lack_fits s None attempt = tt
lack_fits s (Some key) attempt = tt

plan_fits : (s : Script) (k : Kept) (a f : ℕ) (paths : List (List ℕ)) (r : Result Plan PlanError) → work_fits s (let d : Decision = elim r [ Err refusal ↦ decides (refuses refusal) | Ok plan ↦ begins_plan k a f plan paths ] in d).work
unfolding work_fits
plan_fits s k a f paths (Err refusal) = tt
plan_fits s k a f paths (Ok plan) = lack_fits s (first_lack k.history a k.sessions k.files f (plan_updates plan)) (Some (planned f plan paths))

writes_fit : (s : Script) (b : Bool) (other : Work) → work_fits s other → work_fits s (if b then writes else other)
unfolding work_fits
writes_fit s true other h = tt
writes_fit s false other h = h

attempt_fits : (s : Script) (k : Kept) (a f : ℕ) (e : Edit) (o : Option Attempt) (paths : List (List ℕ)) → work_fits s (attempts k a f e o paths).work
unfolding work_fits
attempt_fits s k a f e None paths = plan_fits s k a f paths (family_plan f e (view_of_files k.files))
attempt_fits s k a f e (Some x) paths = writes_fit s (is_some (next_update x)) rests tt

undecided_fits : (s : Script) (k : Kept) (a f : ℕ) (e : Edit) (x : Option Attempt) (o : Option (List ℕ)) → work_fits s (let d : Decision = elim o [ Some path ↦ decides (reads path) | None ↦ attempts k a f e x (edit_paths k.files f) ] in d).work
unfolding work_fits
undecided_fits s k a f e x None = attempt_fits s k a f e x (edit_paths k.files f)
undecided_fits s k a f e x (Some path) = tt

edit_by : (s : Script) (k : Kept) (a f : ℕ) (e : Edit) (editing : Editing) (o : Option Decided) → work_fits s (let d : Decision = elim o [ None ↦ undecided_work k a f e editing.attempt | Some x ↦ decides (decided_work k f editing) ] in d).work
unfolding work_fits
edit_by s k a f e editing None = undecided_fits s k a f e editing.attempt (first_missing k.files (edit_paths k.files f))
edit_by s k a f e editing (Some d) = writes_fit s (is_some (owed_update true editing)) (reads_first k.files (family_paths f)) (missing_fits s (first_missing k.files (family_paths f)))

edit_fits : (s : Script) (k : Kept) (a : ℕ) (b : Begun) (f : ℕ) (e : Edit) (lives : Bool) → work_fits s (let d : Decision = elim lives [ true ↦ edit_work k a f e b.editing | false ↦ decides rests ] in d).work
unfolding work_fits
edit_fits s k a b f e true = edit_by s k a f e b.editing b.editing.decided
edit_fits s k a b f e false = tt

operation_fits : (s : Script) (k : Kept) (a : ℕ) (b : Begun) (op : Operation) → has_utf8_name op ≡ true → has_target (length s.cards) (length s.changes) op ≡ true → work_fits s (work_of_operation k a b op).work
unfolding work_fits fits
operation_fits s k a b (operation.Insert card) v h = h
operation_fits s k a b operation.Out v h = refl
operation_fits s k a b (operation.Arm change) v h = h
operation_fits s k a b (operation.Load f) v h = if_fits s (lives_in k.history b.epoch) (reads_first k.files (family_paths f)) (missing_fits s (first_missing k.files (family_paths f)))
operation_fits s k a b (operation.OpenChannel handle aid) v h = if_fits s (lives_in k.history b.epoch) (sends open_command) tt
operation_fits s k a b (operation.Raw handle apdu) v h = raw_fits s apdu (living_handle k (handle_of a handle k.handles))
operation_fits s k a b (operation.Close handle) v h = close_fits s (living_handle k (handle_of a handle k.handles))
operation_fits s k a b (operation.Verify key pin) v h = if_fits s (lives_in k.history b.epoch) (sends (verify_command key pin)) tt
operation_fits s k a b operation.Poll v h = if_fits s (lives_in k.history b.epoch) (sends status_command) tt
operation_fits s k a b (operation.End key) v h = tt
operation_fits s k a b operation.Look v h = tt
operation_fits s k a b (operation.Set f at name number) v h = edit_fits s k a b f (edit.Set at (record { name = name; number = number })) (lives_in k.history b.epoch)
operation_fits s k a b (operation.Clear f at) v h = edit_fits s k a b f (edit.Clear at) (lives_in k.history b.epoch)
operation_fits s k a b (operation.Watch mask) v h = tt
operation_fits s k a b operation.Notices v h = tt

begun_fits : (s : Script) (k : Kept) (a : ℕ) (b : Option Begun) (op : Option Operation) → ServedOp op → ((x : Operation) → op ≡ Some x → has_target (length s.cards) (length s.changes) x ≡ true) → work_fits s (decision_of_begun k a b op).work
unfolding work_fits
begun_fits s k a (Some b) (Some op) v h = operation_fits s k a b op v (h op refl)
begun_fits s k a (Some b) None v h = tt
begun_fits s k a None op v h = tt

-- the framework tries none
missing_none : (o : Option (List ℕ)) → event_of (elim o [ None ↦ rests | Some path ↦ reads path ]) ≡ None
missing_none None = refl
missing_none (Some path) = refl

stale_none : (k : Kept) (o : Option ℕ) → event_of (elim o [ Some f ↦ reads_first k.files (family_paths f) | None ↦ rests ]) ≡ None
stale_none k (Some f) = missing_none (first_missing k.files (family_paths f))
stale_none k None = refl

announced_none : (k : Kept) (o : Option ℕ) → event_of (elim o [ Some byte ↦ sends (fetch_command byte) | None ↦ read_stale k ]) ≡ None
announced_none k (Some byte) = refl
announced_none k None = stale_none k (first_stale k.standings)

owed_none : (k : Kept) (o : Option CommandValue) → event_of (elim o [ Some c ↦ sends c | None ↦ elim k.history.announced [ Some byte ↦ sends (fetch_command byte) | None ↦ read_stale k ] ]) ≡ None
owed_none k (Some c) = refl
owed_none k None = announced_none k k.history.announced

item_none : (k : Kept) (b : Bool) → event_of (if b then sends (startup_command k.startup) else elim k.owed [ Some c ↦ sends c | None ↦ elim k.history.announced [ Some byte ↦ sends (fetch_command byte) | None ↦ read_stale k ] ]) ≡ None
item_none k true = refl
item_none k false = owed_none k k.owed

framework_none : (k : Kept) (owes living : Bool) → event_of (if owes then resets else elim living [ true ↦ first_item k | false ↦ rests ]) ≡ None
framework_none k true living = refl
framework_none k false true = item_none k (is_starting k)
framework_none k false false = refl

mark_begun : (k : Kept) (a : ℕ) (b : Option Begun) (op : Option Operation) (e : WorldEvent) → event_of (decision_of_begun k a b op).work ≡ Some e → is_some b ≡ true
mark_begun k a (Some b) op e h = refl
mark_begun k a None op e h = absurd (cc)

-- ---- behind a line

stage_event : (work : Work) (stage : Stage) (e : WorldEvent) → event_by_stage work stage ≡ Some e → event_of work ≡ Some e
stage_event work fresh e h = h
stage_event work (next c) e h = absurd (cc)
stage_event work resetting e h = absurd (cc)
stage_event work over e h = absurd (cc)

fresh_sent : (work : Work) (stage : Stage) (e : WorldEvent) → event_by_stage work stage ≡ Some e → calls_left stage ≡ 4
fresh_sent work fresh e h = refl
fresh_sent work (next c) e h = absurd (cc)
fresh_sent work resetting e h = absurd (cc)
fresh_sent work over e h = absurd (cc)

few_behind : (a b : Bool) → (if a then 3 else if b then 2 else 1) ≤ 3
few_behind true b = omega arith
few_behind false true = omega arith
few_behind false false = omega arith

-- behind a command that was answered, none is tried
led_none : (op : Option Operation) (job : Job) (held : List ℕ) (facts : Facts) (refused : Option RefusedReading) (t : Turn) (o : Option Final) (e : WorldEvent) → facts.answered ≡ o → event_by_stage (turn_exchanged op job held facts refused t).work (turn_exchanged op job held facts refused t).stage ≡ Some e → event_by_stage t.work t.stage ≡ Some e
led_none op job held facts refused t None e h = rw h (λ g. g)
led_none op job held facts refused t (Some f) e h = rw h (λ g.
    let opened = opened_behind held f t.opened in
    let stage = stage_after t.work op opened job facts.touch.refresh f in
    let calls = (falls t.work op opened job facts.touch.refresh f).calls in
    let most = few_behind (is_opening f.command) (f.command.ins == select_ins) in
    let sent = fresh_sent t.work stage e g in
    absurd (omega arith))

led_actor : (op : Option Operation) (job : Job) (held : List ℕ) (facts : Facts) (refused : Option RefusedReading) (t : Turn) (o : Option Final) → facts.answered ≡ o → (turn_exchanged op job held facts refused t).actor ≡ t.actor
led_actor op job held facts refused t None e = rw e refl
led_actor op job held facts refused t (Some f) e = rw e refl

seen_some : (o p : Option Begun) → option_map seen_of o ≡ option_map seen_of p → is_some p ≡ true → is_some o ≡ true
seen_some None None e h = h
seen_some None (Some b) e h = absurd (cc)
seen_some (Some b) p e h = refl

over_none : {X : Type 0} (work : Work) (e : WorldEvent) → event_by_stage work over ≡ Some e → X
over_none work e h = absurd (cc)

line_tries : (s : Script) (earlier : List Line) (l : Line) → keeps_rules s ≡ true → has_utf8_names s ≡ true → is_followed s (kept_of s earlier) l ≡ true → Tries s (kept_of s earlier) → Tries s (kept_of s (l ∷ earlier))
line_tries s earlier (line.Turn zero) r v f t =
    let k : Kept = kept_of s earlier in
    let none = framework_none k k.history.owes_reset k.history.living in
    record {
      event = λ e h. let both : None ≡ Some e = sym none ∙ h in absurd (cc);
      begun = λ e h. let both : None ≡ Some e = sym none ∙ h in absurd (cc);
    }
line_tries s earlier (line.Turn (suc a)) r v f t =
    let k : Kept = kept_of s earlier in
    let op = operation_now s (suc a) k.jobs in
    record {
      event = λ e h. event_fits s (decision_at s (line.Turn (suc a)) k).work e (begun_fits s k (suc a) (begun_of (suc a) k.jobs) op (served_now s (suc a) k.jobs v) (λ x g. target_now s (suc a) (begun_of (suc a) k.jobs) x r g)) h;
      begun = λ e h. seen_some (begun_of (suc a) (kept_after s (line.Turn (suc a)) k).jobs) (begun_of (suc a) k.jobs) (((same_work s k (suc a)).jobs (suc a)).begun) (mark_begun k (suc a) (begun_of (suc a) k.jobs) op e h);
    }
line_tries s earlier (line.Begin a i) r v f t =
    let k : Kept = kept_of s earlier in
    let now = starts s k i a f in
    record {
      event = λ e h. event_fits s (decision_at s (line.Begin a i) k).work e (begun_fits s k a (Some (fresh_begun i k.history)) (operation_at s a i) (served_at s a i v) (λ x g. target_at s a i x r g)) (stage_event (decision_at s (line.Begin a i) k).work k.turn.stage e h);
      begun = λ e h. ap (λ (o : Option ℕ). is_begun o (kept_after s (line.Begin a i) k).jobs) now.turn ∙ ap is_some (begun_there s k a i now (job_count s earlier));
    }
line_tries s earlier (line.Exchange a c x) r v f t =
    let k : Kept = kept_of s earlier in
    let facts = facts_of s (line.Exchange a c x) k in
    record {
      event = λ e h. t.event e (led_none _ _ _ facts _ k.turn facts.answered e refl h);
      begun = λ e h.
          ap (λ (o : Option ℕ). is_begun o (kept_after s (line.Exchange a c x) k).jobs) (led_actor _ _ _ facts _ k.turn facts.answered refl)
          ∙ same_turn k.jobs (kept_after s (line.Exchange a c x) k).jobs (begun_exchange s k a c x) k.turn.actor
          ∙ t.begun e (led_none _ _ _ facts _ k.turn facts.answered e refl h);
    }
line_tries s earlier (line.Failed a c d) r v f t = record { event = λ e h. over_none (kept_of s earlier).turn.work e h; begun = λ e h. over_none (kept_of s earlier).turn.work e h }
line_tries s earlier (line.Reset a) r v f t = record { event = λ e h. over_none (kept_of s earlier).turn.work e h; begun = λ e h. over_none (kept_of s earlier).turn.work e h }
line_tries s earlier (line.ResetFailed a) r v f t = record { event = λ e h. over_none (kept_of s earlier).turn.work e h; begun = λ e h. over_none (kept_of s earlier).turn.work e h }
line_tries s earlier (line.World a w) r v f t = record { event = λ e h. over_none (kept_of s earlier).turn.work e h; begun = λ e h. over_none (kept_of s earlier).turn.work e h }
line_tries s earlier (line.Published n g x y text) r v f t = record { event = λ e h. over_none (kept_of s earlier).turn.work e h; begun = λ e h. over_none (kept_of s earlier).turn.work e h }
line_tries s earlier (line.Answered a i given) r v f t = record { event = λ e h. over_none (kept_of s earlier).turn.work e h; begun = λ e h. over_none (kept_of s earlier).turn.work e h }
line_tries s earlier (line.EpochEnd n x y) r v f t =
    let k : Kept = kept_of s earlier in
    record {
      event = t.event;
      begun = λ e h. same_turn k.jobs (kept_after s (line.EpochEnd n x y) k).jobs (begun_beside_line s (line.EpochEnd n x y) k) k.turn.actor ∙ t.begun e h;
    }
line_tries s earlier (line.Refused g n) r v f t =
    let k : Kept = kept_of s earlier in
    record {
      event = t.event;
      begun = λ e h. same_turn k.jobs (kept_after s (line.Refused g n) k).jobs (begun_beside_line s (line.Refused g n) k) k.turn.actor ∙ t.begun e h;
    }

tries : (s : Script) (lines : List Line) → keeps_rules s ≡ true → has_utf8_names s ≡ true → are_followed s lines ≡ true → Tries s (kept_of s lines)
tries s [] r v f = record { event = λ e h. absurd (cc); begun = λ e h. absurd (cc) }
tries s (l ∷ earlier) r v f =
    let p = and_parts (are_followed s earlier) (is_followed s (kept_of s earlier) l) f in
    line_tries s earlier l r v p.1 (tries s earlier r v p.0)

pub tries_begun : (p : Parts) (a : ℕ) (e : WorldEvent) → IsTied p → p.kept.turn.actor ≡ Some a → due p.script p.kept ≡ try_event e → is_some (begun_of a p.kept.jobs) ≡ true
tries_begun p a e t o h =
    let s : Script = p.script in
    let k : Kept = kept_of s p.lines.lines in
    let said = says_of s k (try_event e) (ap (due s) (sym t.kept) ∙ h) in
    let begun = (tries s p.lines.lines t.lines.rules t.lines.served t.lines.followed).begun e said in
    ap (λ (x : Kept). is_some (begun_of a x.jobs)) t.kept
    ∙ ap (λ (x : Option ℕ). is_begun x k.jobs) (sym (ap (λ (x : Kept). x.turn.actor) (sym t.kept) ∙ o)) ∙ begun

tries_fits : (s : Script) (lines : List Line) (e : WorldEvent) → keeps_rules s ≡ true → has_utf8_names s ≡ true → are_followed s lines ≡ true → due s (kept_of s lines) ≡ try_event e → fits s e ≡ true
tries_fits s lines e r v f h = (tries s lines r v f).event e (says_of s (kept_of s lines) (try_event e) h)

-- ---- there are as many cards and changes as at first

set_length : (xs : List CardState) (n : ℕ) (x : CardState) → length (slice_set xs n x) ≡ length xs
set_length [] zero x = refl
set_length [] (suc n) x = refl
set_length (y ∷ ys) zero x = refl
set_length (y ∷ ys) (suc n) x = ap suc (set_length ys n x)

step_cards : (w : World) (c : CommandValue) → length (step w c).0.cards ≡ length w.cards
unfolding step
step_cards w c = by w.inside
  where
    at : (j : ℕ) (o : Option CardState) → length (step_of_card w j o c).0.cards ≡ length w.cards
    at j None = refl
    at j (Some card) = set_length w.cards j (on_card w.changes card c).0

    by : (o : Option ℕ) → length (step_of_place w o c).0.cards ≡ length w.cards
    by None = refl
    by (Some j) = at j (slice_get w.cards j)

inserted_cards : (w : World) (j : ℕ) (o : Option CardState) → length (inserted w j o).cards ≡ length w.cards
inserted_cards w j None = refl
inserted_cards w j (Some card) = set_length w.cards j (reset_card card)

reset_cards : (w : World) → length (after_reset w).cards ≡ length w.cards
unfolding after_reset
reset_cards w = by w.inside
  where
    by : (o : Option ℕ) → length (reset_in w o).cards ≡ length w.cards
    by None = refl
    by (Some j) = inserted_cards w j (slice_get w.cards j)

event_cards : (w : World) (e : WorldEvent) → length (after_event w e).cards ≡ length w.cards
unfolding after_event
event_cards w (world_event.Insert j) = inserted_cards w j (slice_get w.cards j)
event_cards w world_event.Out = refl
event_cards w (world_event.Arm i) = by w.inside
  where
    at : (j : ℕ) (o : Option CardState) → length (armed_at w i j o).cards ≡ length w.cards
    at j None = refl
    at j (Some card) = set_length w.cards j (armed_card i card)

    by : (o : Option ℕ) → length (armed_in w i o).cards ≡ length w.cards
    by None = refl
    by (Some j) = at j (slice_get w.cards j)

line_cards : (l : Line) (w : World) → length (world_after l w).cards ≡ length w.cards
line_cards (line.Exchange a c r) w = step_cards w c
line_cards (line.Failed a c true) w = step_cards w c
line_cards (line.Failed a c false) w = refl
line_cards (line.Reset a) w = reset_cards w
line_cards (line.ResetFailed a) w = refl
line_cards (line.World a e) w = event_cards w e
line_cards (line.Turn a) w = refl
line_cards (line.Begin a i) w = refl
line_cards (line.Published n f e v text) w = refl
line_cards (line.EpochEnd n e v) w = refl
line_cards (line.Refused f n) w = refl
line_cards (line.Answered a i given) w = refl

same_cards : (s : Script) (lines : List Line) → length (world_of s lines).cards ≡ length s.cards
same_cards s [] = length-map s.cards card_of
same_cards s (l ∷ earlier) = line_cards l (world_of s earlier) ∙ same_cards s earlier

step_changes : (w : World) (c : CommandValue) → (step w c).0.changes ≡ w.changes
unfolding step
step_changes w c = by w.inside
  where
    at : (j : ℕ) (o : Option CardState) → (step_of_card w j o c).0.changes ≡ w.changes
    at j None = refl
    at j (Some card) = refl

    by : (o : Option ℕ) → (step_of_place w o c).0.changes ≡ w.changes
    by None = refl
    by (Some j) = at j (slice_get w.cards j)

inserted_changes : (w : World) (j : ℕ) (o : Option CardState) → (inserted w j o).changes ≡ w.changes
inserted_changes w j None = refl
inserted_changes w j (Some card) = refl

reset_changes : (w : World) → (after_reset w).changes ≡ w.changes
unfolding after_reset
reset_changes w = by w.inside
  where
    by : (o : Option ℕ) → (reset_in w o).changes ≡ w.changes
    by None = refl
    by (Some j) = inserted_changes w j (slice_get w.cards j)

event_changes : (w : World) (e : WorldEvent) → (after_event w e).changes ≡ w.changes
unfolding after_event
event_changes w (world_event.Insert j) = inserted_changes w j (slice_get w.cards j)
event_changes w world_event.Out = refl
event_changes w (world_event.Arm i) = by w.inside
  where
    at : (j : ℕ) (o : Option CardState) → (armed_at w i j o).changes ≡ w.changes
    at j None = refl
    at j (Some card) = refl

    by : (o : Option ℕ) → (armed_in w i o).changes ≡ w.changes
    by None = refl
    by (Some j) = at j (slice_get w.cards j)

line_changes : (l : Line) (w : World) → (world_after l w).changes ≡ w.changes
line_changes (line.Exchange a c r) w = step_changes w c
line_changes (line.Failed a c true) w = step_changes w c
line_changes (line.Failed a c false) w = refl
line_changes (line.Reset a) w = reset_changes w
line_changes (line.ResetFailed a) w = refl
line_changes (line.World a e) w = event_changes w e
line_changes (line.Turn a) w = refl
line_changes (line.Begin a i) w = refl
line_changes (line.Published n f e v text) w = refl
line_changes (line.EpochEnd n e v) w = refl
line_changes (line.Refused f n) w = refl
line_changes (line.Answered a i given) w = refl

same_changes : (s : Script) (lines : List Line) → length (world_of s lines).changes ≡ length s.changes
same_changes s [] = length-map s.changes change_of
same_changes s (l ∷ earlier) = ap length (line_changes l (world_of s earlier)) ∙ same_changes s earlier

-- ---- the slot's refusal

-- a refusal that is an answer
abbrev IsTold : Option WorldRefusal → Type 0
IsTold refused = (r : WorldRefusal) → refused ≡ Some r → is_some (answer_of_refusal r) ≡ true

told_as : (x : WorldRefusal) → is_some (answer_of_refusal x) ≡ true → IsTold (Some x)
told_as x h r e = let same : x ≡ r = cc in subst (λ (y : WorldRefusal). is_some (answer_of_refusal y) ≡ true) same h

insert_told : (full : Bool) (j : ℕ) → IsTold (insert_refusal true full j)
insert_told true j = told_as refusal.SlotFull refl
insert_told false j = λ r h. absurd (cc)

out_told : (full : Bool) → IsTold (out_refusal full)
out_told true = λ r h. absurd (cc)
out_told false = told_as refusal.SlotEmpty refl

room_told : (room : Bool) → IsTold (if room then None else Some refusal.ArmFull)
room_told true = λ r h. absurd (cc)
room_told false = told_as refusal.ArmFull refl

arm_told : (armed : Option ℕ) (i : ℕ) → IsTold (arm_refusal true armed i)
arm_told None i = told_as refusal.SlotEmpty refl
arm_told (Some n) i = room_told (nat_lt n 64)

given_told : (o : Option Answer) (given : Answer) → is_some o ≡ true → IfSome o (λ x. given ≡ x) → has_value (same_answer given) o ≡ true
given_told None given h g = absurd (true≢false (sym h))
given_told (Some x) given h g = subst (λ (y : Answer). same_answer given y ≡ true) g (answer-same given)

refused_as : (o : Option WorldRefusal) (r : WorldRefusal) → IsResultOf o (Err r) → o ≡ Some r
refused_as None r h = absurd (cc)
refused_as (Some x) r h = cc

event_told : (s : Script) (lines : List Line) (e : WorldEvent) → keeps_rules s ≡ true → has_utf8_names s ≡ true → are_followed s lines ≡ true → due s (kept_of s lines) ≡ try_event e → IsTold (refusal_of (world_of s lines) e)
unfolding fits
event_told s lines (world_event.Insert j) rules v f h =
    let x : World = world_of s lines in
    let valid : nat_lt j (length x.cards) ≡ true = ap (nat_lt j) (same_cards s lines) ∙ tries_fits s lines (world_event.Insert j) rules v f h in
    subst (λ (b : Bool). IsTold (insert_refusal b (is_some (card_inside x)) j)) (sym valid) (insert_told (is_some (card_inside x)) j)
event_told s lines world_event.Out rules v f h = out_told (is_some (card_inside (world_of s lines)))
event_told s lines (world_event.Arm i) rules v f h =
    let x : World = world_of s lines in
    let valid : nat_lt i (length x.changes) ≡ true = ap (nat_lt i) (same_changes s lines) ∙ tries_fits s lines (world_event.Arm i) rules v f h in
    subst (λ (b : Bool). IsTold (arm_refusal b (armed_count (card_inside x)) i)) (sym valid) (arm_told (armed_count (card_inside x)) i)

told_now : (s : Script) (lines : List Line) (e : WorldEvent) (r : WorldRefusal) (x : World) → keeps_rules s ≡ true → has_utf8_names s ≡ true → are_followed s lines ≡ true → x ≡ world_of s lines → due s (kept_of s lines) ≡ try_event e → refusal_of x e ≡ Some r → is_some (answer_of_refusal r) ≡ true
told_now s lines e r x rules v f same h g = event_told s lines e rules v f h r (ap (λ (y : World). refusal_of y e) (sym same) ∙ g)

refusal_by : (s : Script) (lines : List Line) (e : WorldEvent) (r : WorldRefusal) (given : Answer) (w : Option World) → keeps_rules s ≡ true → has_utf8_names s ≡ true → are_followed s lines ≡ true → due s (kept_of s lines) ≡ try_event e → IfSome w (IsWorldOf s lines) → IsRefused w e (Err r) → IfSome (answer_of_refusal r) (λ y. given ≡ y) → IfSome w (λ x. is_refusal_told x given (Some e) ≡ true)
refusal_by s lines e r given None rules v f h t g y = tt
refusal_by s lines e r given (Some x) rules v f h t g y =
    let refused : refusal_of x e ≡ Some r = refused_as (refusal_of x e) r g in
    let answer : slot_answer_by x (Some e) ≡ answer_of_refusal r = ap (option_and_then answer_of_refusal) refused in
    subst (λ (o : Option Answer). has_value (same_answer given) o ≡ true) (sym answer) (given_told (answer_of_refusal r) given (told_now s lines e r x rules v f t.world h refused) y)

pub refusal_told : (p : Parts) (e : WorldEvent) (r : WorldRefusal) (given : Answer) (v : Option World) → IsTied p → due p.script p.kept ≡ try_event e → v ≡ p.world → IsRefused p.world e (Err r) → IfSome (answer_of_refusal r) (λ y. given ≡ y) → IfSome v (λ x. is_refusal_told x given (tried_event p.kept) ≡ true)
refusal_told p e r given v t h same g y =
    let tried : tried_event p.kept ≡ Some e = says_of p.script p.kept (try_event e) h in
    subst (λ (o : Option WorldEvent). IfSome v (λ x. is_refusal_told x given o ≡ true)) (sym tried)
    (subst (λ (w : Option World). IfSome w (λ x. is_refusal_told x given (Some e) ≡ true)) (sym same)
    (refusal_by p.script p.lines.lines e r given p.world t.lines.rules t.lines.served t.lines.followed (ap (due p.script) (sym t.kept) ∙ h) t.lines.world g y))
