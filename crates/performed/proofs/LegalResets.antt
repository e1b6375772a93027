-- The framework alone resets the card: a turn of another actor of a served script sends its operation's commands, behind which comes no reset.
use Rattle.std.proofs.Common.{◌≡◌, ℕ, zero, suc, ◌==◌, ◌&&◌, Bool, true, false, if◌then◌else◌, Option, Some, None, List, [], ◌∷◌, refl, sym, ap, ◌∙◌, subst, true≢false}
use Rattle.std.specs.Prelude.{is_some, not, option_map}
use Rattle.std.proofs.lemmas.Bool.{and_parts, eqb-true}
use Rattle.apdu.specs.Values.{CommandValue, ResponseValue}
use Rattle.apdu.specs.Words.{same_number}
use Rattle.apdu.specs.Apdu.{select_ins, is_success}
use Rattle.channels.specs.Channels.{is_opening, on_channel, open_command, close_command, select_application}
use Rattle.refresh_cmd.specs.Values.{ProactiveValue}
use Rattle.script_reader.specs.declared.types.Operation.{Operation}
use Rattle.script_reader.specs.declared.types.Operation.TheVariants as operation
use Rattle.script_reader.specs.declared.types.Script.{Script}
use Rattle.script_reader.specs.Rules.{keeps_rules}
use Rattle.report.specs.declared.line.Line.{Line}
use Rattle.report.specs.declared.line.Line.TheVariants as line
use Rattle.families.specs.Families.{family_paths}
use Rattle.epoch_cache.specs.Cache.{first_missing}
use Rattle.link.specs.declared.chain.Final.{Final}
use Rattle.link.specs.Commands.{chain_first}
use Rattle.loader.specs.declared.reading.RefusedReading.{RefusedReading}
use Rattle.loader.specs.Load.{is_selected, read_behind}
use Rattle.editor.specs.declared.editing.Attempt.{Attempt}
use Rattle.rules.specs.declared.holdings.Handle.{Handle}
use Rattle.rules.specs.declared.kept.Begun.{Begun}
use Rattle.rules.specs.declared.kept.Facts.{Facts}
use Rattle.rules.specs.declared.kept.Job.{Job}
use Rattle.rules.specs.declared.kept.Kept.{Kept}
use Rattle.rules.specs.declared.kept.Stage.{Stage}
use Rattle.rules.specs.declared.kept.Stage.TheVariants.{Fresh as fresh, Next as next, Resetting as resetting, Over as over}
use Rattle.rules.specs.declared.kept.Turn.{Turn}
use Rattle.rules.specs.declared.kept.Work.{Work}
use Rattle.rules.specs.declared.kept.Work.TheVariants.{Rests as rests, Sends as sends, Reads as reads, Writes as writes, Resets as resets}
use Rattle.rules.specs.History.{lives_in}
use Rattle.rules.specs.Kept.{operation_at, begun_of, operation_now, job_of}
use Rattle.rules.specs.Work.{living_handle, sends_raw, sends_close, reads_first, status_command, work_of_operation}
use Rattle.rules.specs.Channels.{handle_of, held_numbers, is_raw_ins}
use Rattle.rules.specs.Sessions.{verify_command}
use Rattle.rules.specs.After.{facts_of, refused_of, jobs_beside, fresh_begun, decision_of_begun, opened_behind, next_or_over, stage_of_open, stage_of_sent, stage_after, turn_exchanged, kept_of}
use Rattle.rules.specs.Editing.{attempt_of}
use Rattle.rules.specs.Due.{due, reset_by_stage}
use Rattle.rules.specs.Performed.{begins_as, is_sent}
use Rattle.rules.specs.Rules.{is_turn_of}
use Rattle.performed.specs.Names.{has_utf8_name, has_utf8_names}
use Rattle.performed.specs.Followed.{is_followed, are_followed}
use Rattle.adn.specs.declared.edit.Edit.{Edit}
use Rattle.rules.specs.Editing.{family_edit}
use Rattle.rules.specs.Work.{work_of_edit}
use Rattle.performed.proofs.EditsDecides.{work_passes}
use Rattle.performed.proofs.LegalScript.{IsPlain, plain_at, plain_now}
use Rattle.performed.proofs.MeasureShape.{IsFirstOf, Shape, exchange_next, shape}
use Rattle.performed.proofs.JobPlaces.{job_count, begun_place}
use Rattle.performed.proofs.OperationsKept.{keeps_operations, operation_stays}
use Rattle.performed.proofs.ProgressBegins.{Starts, starts}
use Rattle.performed.proofs.TurnsPhase.{some_number}

-- ---- turns of another actor

-- work of which no reset comes
abbrev pub is_calm_work : Work → Bool
is_calm_work resets = false
is_calm_work work = true

abbrev pub is_calm_stage : Stage → Bool
is_calm_stage resetting = false
is_calm_stage stage = true

abbrev pub is_sending : Work → Bool
is_sending (sends c) = true
is_sending work = false

-- a command of the turn may come
abbrev pub goes_on : Stage → Bool
goes_on fresh = true
goes_on (next c) = true
goes_on resetting = false
goes_on over = false

-- what it sends is an operation's
pub record IsCalm (s : Script) (k : Kept) (a : ℕ) : Type 0 where
  pub work : is_calm_work k.turn.work ≡ true
  pub stage : is_calm_stage k.turn.stage ≡ true
  pub operation : is_sending k.turn.work ≡ true → goes_on k.turn.stage ≡ true → is_some (operation_now s a k.jobs) ≡ true

abbrev pub CalmTurn : Script → Kept → Type 0
CalmTurn s k = (b : ℕ) → k.turn.actor ≡ Some (suc b) → IsCalm s k (suc b)

-- ---- what an operation decides

if_calm : (c : Bool) (work : Work) → is_calm_work work ≡ true → is_calm_work (if c then work else rests) ≡ true
if_calm true work h = h
if_calm false work h = refl

missing_calm : (o : Option (List ℕ)) → is_calm_work (elim o [ None ↦ rests | Some path ↦ reads path ]) ≡ true
missing_calm None = refl
missing_calm (Some path) = refl

raw_calm : (c : CommandValue) (o : Option Handle) → is_calm_work (sends_raw c o) ≡ true
raw_calm c None = refl
raw_calm c (Some h) = if_calm (is_raw_ins c.ins) (sends (on_channel h.number c)) refl

close_calm : (o : Option Handle) → is_calm_work (sends_close o) ≡ true
close_calm None = refl
close_calm (Some h) = refl

module _ (k : Kept) where
  edit_calm : (actor : ℕ) (b : Begun) (o : Option (ℕ × Edit)) → is_calm_work (work_of_edit k actor b o).work ≡ true
  edit_calm actor b o = work_passes (λ (w : Work). is_calm_work w ≡ true) (record { writing = refl; reading = λ path. refl; resting = refl; lacking = λ key. refl; refusing = λ refusal. refl }) k actor b o

  work_calm : (actor : ℕ) (b : Begun) (op : Operation) → has_utf8_name op ≡ true → is_calm_work (work_of_operation k actor b op).work ≡ true
  work_calm actor b (operation.Insert card) served = refl
  work_calm actor b operation.Out served = refl
  work_calm actor b (operation.Arm change) served = refl
  work_calm actor b (operation.Load f) served = if_calm (lives_in k.history b.epoch) (reads_first k.files (family_paths f)) (missing_calm (first_missing k.files (family_paths f)))
  work_calm actor b (operation.OpenChannel handle aid) served = if_calm (lives_in k.history b.epoch) (sends open_command) refl
  work_calm actor b (operation.Raw handle apdu) served = raw_calm apdu (living_handle k (handle_of actor handle k.handles))
  work_calm actor b (operation.Close handle) served = close_calm (living_handle k (handle_of actor handle k.handles))
  work_calm actor b (operation.Verify key pin) served = if_calm (lives_in k.history b.epoch) (sends (verify_command key pin)) refl
  work_calm actor b operation.Poll served = if_calm (lives_in k.history b.epoch) (sends status_command) refl
  work_calm actor b (operation.End key) served = refl
  work_calm actor b operation.Look served = refl
  work_calm actor b (operation.Set f at name number) served = edit_calm actor b (family_edit (operation.Set f at name number))
  work_calm actor b (operation.Clear f at) served = edit_calm actor b (family_edit (operation.Clear f at))
  work_calm actor b (operation.Watch mask) served = refl
  work_calm actor b operation.Notices served = refl

  begun_calm : (actor : ℕ) (b : Option Begun) (o : Option Operation) → IsPlain o → is_calm_work (decision_of_begun k actor b o).work ≡ true
  begun_calm actor None o p = refl
  begun_calm actor (Some b) None p = refl
  begun_calm actor (Some b) (Some op) p = work_calm actor b op (p.served op refl)

  -- an operation sends
  begun_sends : (actor : ℕ) (b : Option Begun) (o : Option Operation) → is_sending (decision_of_begun k actor b o).work ≡ true → is_some o ≡ true
  begun_sends actor None o h = absurd (true≢false (sym h))
  begun_sends actor (Some b) None h = absurd (true≢false (sym h))
  begun_sends actor (Some b) (Some op) h = refl

-- ---- what a command leads to

next_calm : (o : Option CommandValue) → is_calm_stage (next_or_over o) ≡ true
next_calm None = refl
next_calm (Some c) = refl

either_calm : (c : Bool) (a b : Stage) → is_calm_stage a ≡ true → is_calm_stage b ≡ true → is_calm_stage (if c then a else b) ≡ true
either_calm true a b h g = h
either_calm false a b h g = g

open_calm : (aid : List ℕ) (opened : Option ℕ) (f : Final) → is_calm_stage (stage_of_open aid opened f) ≡ true
open_calm aid opened f =
    either_calm (is_opening f.command) (next_or_over (option_map (λ n. select_application n aid) opened)) (if (f.command.ins == select_ins) && not (is_success f.response.sw) then next_or_over (option_map close_command opened) else over)
    (next_calm (option_map (λ n. select_application n aid) opened))
    (either_calm ((f.command.ins == select_ins) && not (is_success f.response.sw)) (next_or_over (option_map close_command opened)) over (next_calm (option_map close_command opened)) refl)

sent_calm : (op : Option Operation) (opened : Option ℕ) (refresh : Option ProactiveValue) (f : Final) → is_some op ≡ true → is_calm_stage (stage_of_sent op opened refresh f) ≡ true
sent_calm (Some (operation.OpenChannel handle aid)) opened refresh f h = open_calm aid opened f
sent_calm (Some op) opened refresh f h = refl
sent_calm None opened refresh f h = absurd (true≢false (sym h))

write_calm : (attempt : Option Attempt) (f : Final) (c : Bool) (o : Option CommandValue) → is_calm_stage (if c then next_or_over o else over) ≡ true
write_calm attempt f true o = next_calm o
write_calm attempt f false o = refl

led_calm : (work : Work) (op : Option Operation) (opened : Option ℕ) (job : Job) (refresh : Option ProactiveValue) (f : Final) → is_calm_work work ≡ true → (is_sending work ≡ true → is_some op ≡ true) → is_calm_stage (stage_after work op opened job refresh f) ≡ true
led_calm (sends c) op opened job refresh f h g = sent_calm op opened refresh f (g refl)
led_calm resets op opened job refresh f h g = absurd (true≢false (sym h))
led_calm (reads path) op opened job refresh f h g = next_calm (read_behind path job.readings f)
led_calm writes op opened job refresh f h g = write_calm (attempt_of job.begun) f (is_selected f) _
led_calm work op opened job refresh f h g = refl

-- ---- a line

first_goes : (c : CommandValue) (stage : Stage) → IsFirstOf c stage → goes_on stage ≡ true
first_goes c fresh h = refl
first_goes c (next d) h = refl
first_goes c resetting h = absurd h
first_goes c over h = absurd h

same_actor : (a b : ℕ) (o : Option ℕ) → o ≡ Some b → same_number o (Some a) ≡ true → a ≡ b
same_actor a b None e h = absurd (true≢false (sym h))
same_actor a b (Some n) e h = sym (eqb-true n a h) ∙ some_number n b e

module _ (op : Option Operation) (job : Job) (held : List ℕ) (facts : Facts) (refused : Option RefusedReading) (t : Turn) where
  exchanged_work : (o : Option Final) → facts.answered ≡ o → (turn_exchanged op job held facts refused t).work ≡ t.work
  exchanged_work None e = rw e refl
  exchanged_work (Some f) e = rw e refl

  exchanged_actor : (o : Option Final) → facts.answered ≡ o → (turn_exchanged op job held facts refused t).actor ≡ t.actor
  exchanged_actor None e = rw e refl
  exchanged_actor (Some f) e = rw e refl

  exchanged_stage : is_calm_work t.work ≡ true → is_calm_stage t.stage ≡ true → (is_sending t.work ≡ true → is_some op ≡ true) → (o : Option Final) → facts.answered ≡ o → is_calm_stage (turn_exchanged op job held facts refused t).stage ≡ true
  exchanged_stage w h g None e = rw e h
  exchanged_stage w h g (Some f) e = rw e (led_calm t.work op (opened_behind held f t.opened) job facts.touch.refresh f w g)

module _ (s : Script) (rules : keeps_rules s ≡ true) (v : has_utf8_names s ≡ true) (earlier : List Line) (shapes : Shape (kept_of s earlier)) (calm : CalmTurn s (kept_of s earlier)) where
  abbrev k : Kept
  k = kept_of s earlier

  -- the turn goes no further
  calm_over : (l : Line) (b : ℕ) → (kept_of s (l ∷ earlier)).turn.work ≡ k.turn.work → (kept_of s (l ∷ earlier)).turn.stage ≡ over → k.turn.actor ≡ Some (suc b) → IsCalm s (kept_of s (l ∷ earlier)) (suc b)
  calm_over l b work stage at = record {
    work = ap is_calm_work work ∙ (calm b at).work;
    stage = ap is_calm_stage stage;
    operation = λ h g. absurd (true≢false (sym g ∙ ap goes_on stage));
  }

  -- it goes on as it was
  calm_same : (l : Line) (b : ℕ) → keeps_operations l ≡ true → (kept_of s (l ∷ earlier)).turn.work ≡ k.turn.work → (kept_of s (l ∷ earlier)).turn.stage ≡ k.turn.stage → k.turn.actor ≡ Some (suc b) → IsCalm s (kept_of s (l ∷ earlier)) (suc b)
  calm_same l b keeps work stage at = record {
    work = ap is_calm_work work ∙ (calm b at).work;
    stage = ap is_calm_stage stage ∙ (calm b at).stage;
    operation = λ h g. ap is_some (operation_stays s k l keeps (suc b)) ∙ (calm b at).operation (sym (ap is_sending work) ∙ h) (sym (ap goes_on stage) ∙ g);
  }

  marked_calm : (b : ℕ) → IsCalm s (kept_of s (line.Turn (suc b) ∷ earlier)) (suc b)
  marked_calm b = record {
    work = begun_calm k (suc b) (begun_of (suc b) k.jobs) (operation_now s (suc b) k.jobs) (plain_now s rules v (suc b) k.jobs);
    stage = refl;
    operation = λ h g. ap is_some (operation_stays s k (line.Turn (suc b)) refl (suc b)) ∙ begun_sends k (suc b) (begun_of (suc b) k.jobs) (operation_now s (suc b) k.jobs) h;
  }

  new_calm : (a i b : ℕ) → Starts s k a i → k.turn.actor ≡ Some (suc b) → IsCalm s (kept_of s (line.Begin a i ∷ earlier)) a
  new_calm a i b begins at = record {
    work = begun_calm k a (Some (fresh_begun i k.history)) (operation_at s a i) (plain_at s rules v a i);
    stage = (calm b at).stage;
    operation = λ h g. ap is_some (begun_place s k a i begins (job_count s earlier)) ∙ begun_sends k a (Some (fresh_begun i k.history)) (operation_at s a i) h;
  }

  exchanged_calm : (a : ℕ) (c : CommandValue) (r : ResponseValue) (b : ℕ) → a ≡ suc b → k.turn.actor ≡ Some (suc b) → IsFirstOf (chain_first c k.chain) k.turn.stage → IsCalm s (kept_of s (line.Exchange a c r ∷ earlier)) (suc b)
  exchanged_calm a c r b same at first =
      let l : Line = line.Exchange a c r in
      let facts : Facts = facts_of s l k in
      let job : Job = job_of a (kept_of s (l ∷ earlier)).jobs in
      let held : List ℕ = held_numbers k.history k.handles in
      let refused : Option RefusedReading = refused_of k.selected (jobs_beside l k.history.epoch facts k.selected k.jobs) facts.answered in
      let goes : goes_on k.turn.stage ≡ true = first_goes (chain_first c k.chain) k.turn.stage first in
      let is : IsCalm s k (suc b) = calm b at in
      let work : (kept_of s (l ∷ earlier)).turn.work ≡ k.turn.work = exchanged_work (operation_now s a k.jobs) job held facts refused k.turn facts.answered refl in
      record {
        work = ap is_calm_work work ∙ is.work;
        stage = exchanged_stage (operation_now s a k.jobs) job held facts refused k.turn is.work is.stage (λ h. ap (λ (n : ℕ). is_some (operation_now s n k.jobs)) same ∙ is.operation h goes) facts.answered refl;
        operation = λ h g. ap is_some (operation_stays s k l refl (suc b)) ∙ is.operation (sym (ap is_sending work) ∙ h) goes;
      }

  calm_line : (l : Line) → is_followed s k l ≡ true → CalmTurn s (kept_of s (l ∷ earlier))
  calm_line (line.Turn zero) h b at = absurd (cc)
  calm_line (line.Turn (suc a)) h b at = subst (λ (n : ℕ). IsCalm s (kept_of s (line.Turn (suc a) ∷ earlier)) n) (some_number (suc a) (suc b) at) (marked_calm a)
  calm_line (line.Begin a i) h b at =
      let same : a ≡ suc b = same_actor a (suc b) k.turn.actor at (and_parts (is_turn_of a k.turn) (begins_as i (due s k)) h).0 in
      subst (λ (n : ℕ). IsCalm s (kept_of s (line.Begin a i ∷ earlier)) n) same (new_calm a i b (starts s k i a h) at)
  calm_line (line.Exchange a c r) h b at =
      let actor : k.turn.actor ≡ Some (suc b) = sym (exchanged_actor (operation_now s a k.jobs) (job_of a (kept_of s (line.Exchange a c r ∷ earlier)).jobs) (held_numbers k.history k.handles) (facts_of s (line.Exchange a c r) k) (refused_of k.selected (jobs_beside (line.Exchange a c r) k.history.epoch (facts_of s (line.Exchange a c r) k) k.selected k.jobs) (facts_of s (line.Exchange a c r) k).answered) k.turn (facts_of s (line.Exchange a c r) k).answered refl) ∙ at in
      exchanged_calm a c r b (same_actor a (suc b) k.turn.actor actor (and_parts (is_turn_of a k.turn) (is_sent (due s k) (line.Exchange a c r)) h).0) actor (exchange_next s k shapes.chain a c r h).first
  calm_line (line.Failed a c d) h b at = calm_over (line.Failed a c d) b refl refl at
  calm_line (line.Reset a) h b at = calm_over (line.Reset a) b refl refl at
  calm_line (line.ResetFailed a) h b at = calm_over (line.ResetFailed a) b refl refl at
  calm_line (line.World a e) h b at = calm_over (line.World a e) b refl refl at
  calm_line (line.Published n f e p text) h b at = calm_over (line.Published n f e p text) b refl refl at
  calm_line (line.EpochEnd n e p) h b at = calm_same (line.EpochEnd n e p) b refl refl refl at
  calm_line (line.Refused f n) h b at = calm_same (line.Refused f n) b refl refl refl at
  calm_line (line.Answered a i given) h b at = calm_over (line.Answered a i given) b refl refl at

pub turn_calm : (s : Script) (lines : List Line) → keeps_rules s ≡ true → has_utf8_names s ≡ true → are_followed s lines ≡ true → CalmTurn s (kept_of s lines)
turn_calm s [] rules v f = λ b at. absurd (cc)
turn_calm s (l ∷ earlier) rules v f =
    let p = and_parts (are_followed s earlier) (is_followed s (kept_of s earlier) l) f in
    calm_line s rules v earlier (shape s earlier p.0) (turn_calm s earlier rules v p.0) l p.1

-- ---- a reset

work_resets : (work : Work) → is_calm_work work ≡ true → reset_by_stage work fresh ≡ true → ⊥
work_resets resets q r = true≢false (sym q)
work_resets work q r = true≢false (sym r)

stage_resets : (work : Work) (stage : Stage) → is_calm_work work ≡ true → is_calm_stage stage ≡ true → reset_by_stage work stage ≡ true → ⊥
stage_resets work fresh q h r = work_resets work q r
stage_resets work (next c) q h r = true≢false (sym r)
stage_resets work resetting q h r = true≢false (sym h)
stage_resets work over q h r = true≢false (sym r)

-- it is the framework's
pub resets_framework : (s : Script) (k : Kept) (a : ℕ) → CalmTurn s k → reset_by_stage k.turn.work k.turn.stage ≡ true → is_turn_of a k.turn ≡ true → a ≡ 0
resets_framework s k a calm r h = by_actor k.turn.actor refl h
  where
    by_actor : (o : Option ℕ) → k.turn.actor ≡ o → same_number o (Some a) ≡ true → a ≡ 0
    by_actor None e q = absurd (true≢false (sym q))
    by_actor (Some zero) e q = sym (eqb-true 0 a q)
    by_actor (Some (suc b)) e q = absurd (stage_resets k.turn.work k.turn.stage (calm b e).work (calm b e).stage r)
