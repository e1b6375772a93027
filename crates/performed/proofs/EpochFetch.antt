-- Whatever a script does: a FETCH is the framework's, as the first command of its turn, and behind one that hands over a REFRESH which asks for
-- a reset, the reset is due.
use Rattle.std.proofs.Common.{◌≡◌, ℕ, zero, suc, ◌+◌, ◌%◌, ◌==◌, ◌&&◌, not, nat_lt, Bool, true, false, if◌then◌else◌, List, [], ◌∷◌, length, Option, Some, None, option_map, option_and_then, refl, sym, ap, ◌∙◌, subst, arith, true≢false}
use Rattle.std.proofs.lemmas.Bool.{and_parts}
use Rattle.apdu.specs.Values.{CommandValue, ResponseValue}
use Rattle.apdu.specs.Words.{has_value}
use Rattle.apdu.specs.Apdu.{same_command, fetch_ins, has_more, is_success, le_of_byte, select_ins, verify_ins, wants_more, with_le}
use Rattle.adn.specs.declared.edit.Edit.{Edit}
use Rattle.adn.specs.declared.edit.RowUpdate.{RowUpdate}
use Rattle.refresh_cmd.specs.Values.{ProactiveValue}
use Rattle.fcp.specs.declared.control.Fcp.{Fcp}
use Rattle.fcp.specs.declared.rows.FileKind.{FileKind}
use Rattle.fcp.specs.declared.rows.FileKind.TheVariants.{Transparent, Linear, Directory}
use Rattle.families.specs.Families.{family_path, family_paths}
use Rattle.script_reader.specs.declared.types.Script.{Script}
use Rattle.script_reader.specs.declared.types.Operation.{Operation}
use Rattle.script_reader.specs.declared.types.Operation.TheVariants as operation
use Rattle.report.specs.declared.line.Line.{Line}
use Rattle.report.specs.declared.line.Line.TheVariants as line
use Rattle.link.specs.declared.chain.Chain.{Chain}
use Rattle.link.specs.declared.chain.Final.{Final}
use Rattle.link.specs.Commands.{asks_more, chain_count, get_response_for, is_at, most_exchanges, select_only}
use Rattle.channels.specs.Channels.{close_command, is_opening, on_channel, open_command, select_application}
use Rattle.editor.specs.declared.editing.Attempt.{Attempt}
use Rattle.editor.specs.Editing.{next_update, update_command}
use Rattle.epoch_cache.specs.Cache.{asks_reset, first_missing, handed_refresh}
use Rattle.loader.specs.Values.{ReadingValue}
use Rattle.loader.specs.declared.reading.RefusedReading.{RefusedReading}
use Rattle.loader.specs.Load.{is_selected, next_or_select, read_behind, reading_command, selected_first}
use Rattle.loader.specs.Reading.{is_complete, next_read, read_by, read_number, reading_of}
use Rattle.rules.specs.declared.holdings.Handle.{Handle}
use Rattle.rules.specs.declared.kept.Begun.{Begun}
use Rattle.rules.specs.declared.kept.Facts.{Facts}
use Rattle.rules.specs.declared.kept.Job.{Job}
use Rattle.rules.specs.declared.kept.Kept.{Kept}
use Rattle.rules.specs.declared.kept.Stage.{Stage}
use Rattle.rules.specs.declared.kept.Stage.TheVariants.{Fresh as fresh, Next as next, Resetting as resetting, Over as over}
use Rattle.rules.specs.declared.kept.Turn.{Turn}
use Rattle.rules.specs.declared.kept.Work.{Work}
use Rattle.rules.specs.declared.kept.Work.TheVariants.{Rests as rests, Refuses as refuses, Lacks as lacks, Sends as sends, Reads as reads, Writes as writes, Resets as resets, Happens as happens}
use Rattle.rules.specs.History.{lives_in}
use Rattle.rules.specs.Channels.{handle_of, held_numbers, is_raw_ins}
use Rattle.rules.specs.Editing.{attempt_of, family_edit}
use Rattle.rules.specs.Sessions.{verify_command}
use Rattle.rules.specs.Kept.{begun_of, job_of, operation_at, operation_now}
use Rattle.rules.specs.Work.{living_handle, reads_first, sends_close, sends_raw, status_command, work_of_edit, work_of_operation}
use Rattle.rules.specs.After.{decision_at, decision_of_begun, facts_of, fresh_begun, jobs_beside, next_or_over, opened_behind, refused_of, stage_after, stage_of_open, stage_of_sent, kept_after, kept_of}
use Rattle.rules.specs.Due.{command_by_chain, command_by_stage, due, due_command, first_command, first_of_turn, writing_command}
use Rattle.rules.specs.Performed.{is_sent}
use Rattle.rules.specs.Rules.{is_turn_of}
use Rattle.performed.specs.Followed.{are_followed, is_followed}
use Rattle.performed.proofs.CalmBehind.{actor_is, none_of_framework}
use Rattle.performed.proofs.CalmLent.{sent_of}
use Rattle.performed.proofs.CalmPhase.{same_command_is}
use Rattle.performed.proofs.MeasureShape.{chain_now, final_now, led}
use Rattle.performed.proofs.EpochLives.{impossible}
use Rattle.performed.proofs.EditsDecides.{work_passes}

abbrev pub is_fetch : CommandValue → Bool
is_fetch c = c.ins == fetch_ins

-- the first command of the turn is a FETCH
abbrev pub fetches : Work → Bool
fetches (sends c) = is_fetch c
fetches (reads path) = false
fetches writes = false
fetches rests = false
fetches (refuses e) = false
fetches (lacks key) = false
fetches resets = false
fetches (happens e) = false

abbrev pub fetches_next : Stage → Bool
fetches_next fresh = false
fetches_next (next c) = is_fetch c
fetches_next resetting = false
fetches_next over = false

abbrev pub FetchChain : Work → Stage → Option Chain → Type 0
FetchChain work stage None = Unit {0}
FetchChain work stage (Some chain) = is_fetch chain.next ≡ true → (fetches work ≡ true) × (stage ≡ fresh)

pub record FetchesFirst (k : Kept) : Type 0 where
  pub framework : fetches k.turn.work ≡ true → k.turn.actor ≡ Some zero
  pub later : fetches_next k.turn.stage ≡ false
  pub chain : FetchChain k.turn.work k.turn.stage k.chain

-- ---- commands that are none

unlike_if : (b : Bool) (c d : CommandValue) → is_fetch c ≡ false → is_fetch d ≡ false → is_fetch (if b then c else d) ≡ false
unlike_if true c d h g = h
unlike_if false c d h g = g

read_unlike : (kind : FileKind) (f : Fcp) (i : ℕ) → is_fetch (read_by kind f i) ≡ false
read_unlike Transparent f i = refl
read_unlike Linear f i = refl
read_unlike Directory f i = refl

abbrev Unlike : Option CommandValue → Type 0
Unlike None = Unit {0}
Unlike (Some c) = is_fetch c ≡ false

unless_unlike : (b : Bool) (c : CommandValue) → is_fetch c ≡ false → Unlike (if b then None else Some c)
unless_unlike true c h = tt
unless_unlike false c h = h

next_unlike : (g : ReadingValue) → Unlike (next_read g)
next_unlike g = unless_unlike (is_complete g) (read_number g.control (length g.rows)) (read_unlike g.control.kind g.control (length g.rows))

next_of : (o : Option ReadingValue) → Unlike (option_and_then next_read o)
next_of None = tt
next_of (Some g) = next_unlike g

if_unlike : (b : Bool) (o : Option CommandValue) → Unlike o → Unlike (if b then o else None)
if_unlike true o h = h
if_unlike false o h = tt

behind_unlike : (path : List ℕ) (readings : List ReadingValue) (f : Final) → Unlike (read_behind path readings f)
behind_unlike path readings f = if_unlike (is_selected f) (option_and_then next_read (reading_of path readings)) (next_of (reading_of path readings))

first_unlike : (selected : Option (List ℕ)) (path : List ℕ) (c : CommandValue) → is_fetch c ≡ false → is_fetch (selected_first selected path c) ≡ false
first_unlike selected path c h = unlike_if (is_at selected path) c (select_only path) h refl

select_unlike : (selected : Option (List ℕ)) (path : List ℕ) (o : Option CommandValue) → Unlike o → is_fetch (next_or_select selected path o) ≡ false
select_unlike selected path None h = refl
select_unlike selected path (Some c) h = first_unlike selected path c h

reading_unlike : (selected : Option (List ℕ)) (path : List ℕ) (g : Option ReadingValue) → is_fetch (reading_command selected path g) ≡ false
reading_unlike selected path None = refl
reading_unlike selected path (Some g) = select_unlike selected path (next_read g) (next_unlike g)

update_unlike : (selected : Option (List ℕ)) (family : ℕ) (o : Option RowUpdate) → Unlike (option_map (λ (u : RowUpdate). selected_first selected (family_path family u.file) (update_command u)) o)
update_unlike selected family None = tt
update_unlike selected family (Some u) = first_unlike selected (family_path family u.file) (update_command u) refl

writing_unlike : (selected : Option (List ℕ)) (o : Option Attempt) → Unlike (writing_command selected o)
writing_unlike selected None = tt
writing_unlike selected (Some a) = update_unlike selected a.family (next_update a)

-- ---- a FETCH that is due

alike : (c d : CommandValue) → Some c ≡ Some d → is_fetch d ≡ is_fetch c
alike c d e = let same : c ≡ d = cc in ap is_fetch (sym same)

unlike_due : (o : Option CommandValue) (c : CommandValue) → Unlike o → o ≡ Some c → is_fetch c ≡ false
unlike_due None c h e = absurd (cc)
unlike_due (Some d) c h e = alike d c e ∙ h

command_fetches : (selected : Option (List ℕ)) (job : Job) (work : Work) (c : CommandValue) → first_command selected job work ≡ Some c → is_fetch c ≡ true → fetches work ≡ true
command_fetches selected job (sends d) c e h = sym (alike d c e) ∙ h
command_fetches selected job (reads path) c e h = absurd (true≢false (sym h ∙ alike (reading_command selected path (reading_of path job.readings)) c e ∙ reading_unlike selected path (reading_of path job.readings)))
command_fetches selected job writes c e h = absurd (true≢false (sym h ∙ unlike_due (writing_command selected (attempt_of job.begun)) c (writing_unlike selected (attempt_of job.begun)) e))
command_fetches selected job rests c e h = absurd (cc)
command_fetches selected job (refuses x) c e h = absurd (cc)
command_fetches selected job (lacks key) c e h = absurd (cc)
command_fetches selected job resets c e h = absurd (cc)
command_fetches selected job (happens x) c e h = absurd (cc)

turn_fetches : (k : Kept) (o : Option ℕ) (c : CommandValue) → first_of_turn k.selected k.jobs k.turn.work o ≡ Some c → is_fetch c ≡ true → fetches k.turn.work ≡ true
turn_fetches k None c e h = absurd (cc)
turn_fetches k (Some a) c e h = command_fetches k.selected (job_of a k.jobs) k.turn.work c e h

-- it is the first command of its turn
abbrev pub IsFetchTurn : Kept → Type 0
IsFetchTurn k = (fetches k.turn.work ≡ true) × (k.turn.stage ≡ fresh)

module _ (k : Kept) (t : FetchesFirst k) where
  by_stage : (stage : Stage) (c : CommandValue) → k.turn.stage ≡ stage → command_by_stage k stage ≡ Some c → is_fetch c ≡ true → IsFetchTurn k
  by_stage fresh c at e h = (turn_fetches k k.turn.actor c e h, at)
  by_stage (next d) c at e h = absurd (true≢false (sym h ∙ alike d c e ∙ sym (ap fetches_next at) ∙ t.later))
  by_stage resetting c at e h = absurd (cc)
  by_stage over c at e h = absurd (cc)

  by_chain : (o : Option Chain) (c : CommandValue) → k.chain ≡ o → command_by_chain k o ≡ Some c → is_fetch c ≡ true → IsFetchTurn k
  by_chain None c at e h = by_stage k.turn.stage c refl e h
  by_chain (Some chain) c at e h = subst (λ (o : Option Chain). FetchChain k.turn.work k.turn.stage o) at t.chain (sym (alike chain.next c e) ∙ h)

  same_due : (o : Option CommandValue) (c : CommandValue) → due_command k ≡ o → has_value (same_command c) o ≡ true → is_fetch c ≡ true → IsFetchTurn k
  same_due None c e h f = impossible h
  same_due (Some d) c e h f = by_chain k.chain d refl e (ap is_fetch (sym (same_command_is c d h)) ∙ f)

  pub fetch_turn : (s : Script) (a : ℕ) (c : CommandValue) (r : ResponseValue) → is_followed s k (line.Exchange a c r) ≡ true → is_fetch c ≡ true → IsFetchTurn k
  fetch_turn s a c r h f = same_due (due_command k) c refl (sent_of s k a c r (and_parts (is_turn_of a k.turn) (is_sent (due s k) (line.Exchange a c r)) h).1) f

-- ---- no operation begins with one

abbrev Quiet : Work → Type 0
Quiet work = fetches work ≡ false

quiet_if : (b : Bool) (v : Work) → Quiet v → Quiet (if b then v else rests)
quiet_if true v h = h
quiet_if false v h = refl

reads_quiet : (o : Option (List ℕ)) → Quiet (elim o [ None ↦ rests | Some path ↦ reads path ])
reads_quiet None = refl
reads_quiet (Some path) = refl

unlike_raw : (ins : ℕ) → is_raw_ins ins ≡ true → (ins == fetch_ins) ≡ false
unlike_raw ins h = grind arith

raw_by : (c : CommandValue) (h : Handle) (b : Bool) → is_raw_ins c.ins ≡ b → Quiet (if b then sends (on_channel h.number c) else rests)
raw_by c h true e = unlike_raw c.ins e
raw_by c h false e = refl

raw_quiet : (c : CommandValue) (o : Option Handle) → Quiet (sends_raw c o)
raw_quiet c None = refl
raw_quiet c (Some h) = raw_by c h (is_raw_ins c.ins) refl

close_quiet : (o : Option Handle) → Quiet (sends_close o)
close_quiet None = refl
close_quiet (Some h) = refl

edit_quiet : (k : Kept) (a : ℕ) (b : Begun) (o : Option (ℕ × Edit)) → Quiet (work_of_edit k a b o).work
edit_quiet k a b o = work_passes (λ (w : Work). Quiet w) (record { writing = refl; reading = λ path. refl; resting = refl; lacking = λ key. refl; refusing = λ refusal. refl }) k a b o

operation_quiet : (k : Kept) (a : ℕ) (b : Begun) (op : Operation) → Quiet (work_of_operation k a b op).work
operation_quiet k a b (operation.Insert card) = refl
operation_quiet k a b operation.Out = refl
operation_quiet k a b (operation.Arm change) = refl
operation_quiet k a b (operation.Load f) = quiet_if (lives_in k.history b.epoch) (reads_first k.files (family_paths f)) (reads_quiet (first_missing k.files (family_paths f)))
operation_quiet k a b (operation.OpenChannel handle aid) = quiet_if (lives_in k.history b.epoch) (sends open_command) refl
operation_quiet k a b (operation.Raw handle apdu) = raw_quiet apdu (living_handle k (handle_of a handle k.handles))
operation_quiet k a b (operation.Close handle) = close_quiet (living_handle k (handle_of a handle k.handles))
operation_quiet k a b (operation.Verify key pin) = quiet_if (lives_in k.history b.epoch) (sends (verify_command key pin)) refl
operation_quiet k a b operation.Poll = quiet_if (lives_in k.history b.epoch) (sends status_command) refl
operation_quiet k a b (operation.End key) = refl
operation_quiet k a b operation.Look = refl
operation_quiet k a b (operation.Watch mask) = refl
operation_quiet k a b operation.Notices = refl
operation_quiet k a b (operation.Set f at name number) = edit_quiet k a b (family_edit (operation.Set f at name number))
operation_quiet k a b (operation.Clear f at) = edit_quiet k a b (family_edit (operation.Clear f at))

begun_quiet : (k : Kept) (a : ℕ) (b : Option Begun) (op : Option Operation) → Quiet (decision_of_begun k a b op).work
begun_quiet k a (Some b) (Some op) = operation_quiet k a b op
begun_quiet k a (Some b) None = refl
begun_quiet k a None op = refl

-- ---- nor does one stand behind another command

abbrev Later : Stage → Type 0
Later stage = fetches_next stage ≡ false

later_if : (b : Bool) (v w : Stage) → Later v → Later w → Later (if b then v else w)
later_if true v w h g = h
later_if false v w h g = g

later_of : (o : Option CommandValue) → Unlike o → Later (next_or_over o)
later_of None h = refl
later_of (Some c) h = h

select_next : (aid : List ℕ) (o : Option ℕ) → Later (next_or_over (option_map (λ n. select_application n aid) o))
select_next aid None = refl
select_next aid (Some n) = refl

close_next : (o : Option ℕ) → Later (next_or_over (option_map close_command o))
close_next None = refl
close_next (Some n) = refl

open_later : (aid : List ℕ) (opened : Option ℕ) (f : Final) → Later (stage_of_open aid opened f)
open_later aid opened f =
    let select : Stage = next_or_over (option_map (λ n. select_application n aid) opened) in
    let close : Stage = next_or_over (option_map close_command opened) in
    later_if (is_opening f.command) select (if (f.command.ins == select_ins) && not (is_success f.response.sw) then close else over) (select_next aid opened)
    (later_if ((f.command.ins == select_ins) && not (is_success f.response.sw)) close over (close_next opened) refl)

sent_later : (op : Option Operation) (opened : Option ℕ) (refresh : Option ProactiveValue) (f : Final) → Later (stage_of_sent op opened refresh f)
sent_later (Some (operation.OpenChannel handle aid)) opened refresh f = open_later aid opened f
sent_later (Some op) opened refresh f = refl
sent_later None opened refresh f = later_if (has_value asks_reset refresh) resetting over refl refl

updates_later : (o : Option RowUpdate) → Later (next_or_over (option_map update_command o))
updates_later None = refl
updates_later (Some u) = refl

stage_later : (w : Work) (op : Option Operation) (opened : Option ℕ) (job : Job) (refresh : Option ProactiveValue) (f : Final) → Later (stage_after w op opened job refresh f)
stage_later (sends c) op opened job refresh f = sent_later op opened refresh f
stage_later (reads path) op opened job refresh f = later_of (read_behind path job.readings f) (behind_unlike path job.readings f)
stage_later writes op opened job refresh f = later_if (is_selected f) (next_or_over (option_map update_command (option_and_then next_update (attempt_of job.begun)))) over (updates_later (option_and_then next_update (attempt_of job.begun))) refl
stage_later rests op opened job refresh f = refl
stage_later (refuses e) op opened job refresh f = refl
stage_later (lacks key) op opened job refresh f = refl
stage_later resets op opened job refresh f = refl
stage_later (happens e) op opened job refresh f = refl

-- ---- an exchange

follow_fetches : (b : Bool) (c : CommandValue) (n : ℕ) → is_fetch (if b then get_response_for c n else with_le n c) ≡ true → is_fetch c ≡ true
follow_fetches true c n h = impossible h
follow_fetches false c n h = h

module _ (op : Option Operation) (job : Job) (held : List ℕ) (refresh : Option ProactiveValue) (refused : Option RefusedReading) (t : Turn) where
  led_framework : (o : Option Final) → (fetches t.work ≡ true → t.actor ≡ Some zero) → fetches (led op job held refresh refused t o).work ≡ true → (led op job held refresh refused t o).actor ≡ Some zero
  led_framework None h = h
  led_framework (Some f) h = h

  led_later : (o : Option Final) → Later t.stage → Later (led op job held refresh refused t o).stage
  led_later None h = h
  led_later (Some f) h = stage_later t.work op (opened_behind held f t.opened) job refresh f

  led_chain : (b : Bool) (x : Chain) (f : Final) → (b ≡ true → is_fetch x.next ≡ true → (fetches t.work ≡ true) × (t.stage ≡ fresh)) → FetchChain (led op job held refresh refused t (if b then None else Some f)).work (led op job held refresh refused t (if b then None else Some f)).stage (if b then Some x else None)
  led_chain true x f h = h refl
  led_chain false x f h = tt

  -- behind a FETCH that asks for a reset
  led_reset : (b : Bool) (f : Final) (work : Work) → t.work ≡ work → fetches work ≡ true → op ≡ None → b ≡ false → has_value asks_reset refresh ≡ true → (led op job held refresh refused t (if b then None else Some f)).stage ≡ resetting
  led_reset true f work w h none e asks = absurd (true≢false e)
  led_reset false f (sends c) w h none e asks = rw (w, none, asks) refl
  led_reset false f (reads path) w h none e asks = impossible h
  led_reset false f writes w h none e asks = impossible h
  led_reset false f rests w h none e asks = impossible h
  led_reset false f (refuses x) w h none e asks = impossible h
  led_reset false f (lacks key) w h none e asks = impossible h
  led_reset false f resets w h none e asks = impossible h
  led_reset false f (happens x) w h none e asks = impossible h

-- ---- a line

module _ (s : Script) (k : Kept) (t : FetchesFirst k) where
  exchange_first : (a : ℕ) (c : CommandValue) (r : ResponseValue) → is_followed s k (line.Exchange a c r) ≡ true → FetchesFirst (kept_after s (line.Exchange a c r) k)
  exchange_first a c r h =
      let l : Line = line.Exchange a c r in
      let facts : Facts = facts_of s l k in
      let op : Option Operation = operation_now s a k.jobs in
      let job : Job = job_of a (kept_after s l k).jobs in
      let held : List ℕ = held_numbers k.history k.handles in
      let refused : Option RefusedReading = refused_of k.selected (jobs_beside l k.history.epoch facts k.selected k.jobs) facts.answered in
      let final : Final = final_now a c r k.history.events k.chain in
      record {
        framework = led_framework op job held facts.touch.refresh refused k.turn facts.answered t.framework;
        later = led_later op job held facts.touch.refresh refused k.turn facts.answered t.later;
        chain = led_chain op job held facts.touch.refresh refused k.turn (asks_more (chain_count c k.chain + 1) c r) (chain_now c r k.chain) final
            (λ asks f. fetch_turn k t s a c r h (follow_fetches (has_more r.sw) c (le_of_byte (r.sw % 256)) f));
      }

  begin_framework : (a i : ℕ) → fetches (decision_at s (line.Begin a i) k).work ≡ true → k.turn.actor ≡ Some zero
  begin_framework a i h = absurd (true≢false (sym h ∙ begun_quiet k a (Some (fresh_begun i k.history)) (operation_at s a i)))

  mark_framework : (a : ℕ) → fetches (decision_at s (line.Turn a) k).work ≡ true → Some a ≡ Some zero
  mark_framework zero h = refl
  mark_framework (suc a) h = absurd (true≢false (sym h ∙ begun_quiet k (suc a) (begun_of (suc a) k.jobs) (operation_now s (suc a) k.jobs)))

  line_first : (l : Line) → is_followed s k l ≡ true → FetchesFirst (kept_after s l k)
  line_first (line.Turn a) h = record { framework = mark_framework a; later = refl; chain = tt }
  line_first (line.Begin a i) h = record { framework = begin_framework a i; later = t.later; chain = tt }
  line_first (line.Exchange a c r) h = exchange_first a c r h
  line_first (line.Failed a c d) h = record { framework = t.framework; later = refl; chain = tt }
  line_first (line.Reset a) h = record { framework = t.framework; later = refl; chain = tt }
  line_first (line.ResetFailed a) h = record { framework = t.framework; later = refl; chain = tt }
  line_first (line.World a e) h = record { framework = t.framework; later = refl; chain = tt }
  line_first (line.Published n f e v text) h = record { framework = t.framework; later = refl; chain = tt }
  line_first (line.EpochEnd n e v) h = record { framework = t.framework; later = t.later; chain = tt }
  line_first (line.Refused f n) h = record { framework = t.framework; later = t.later; chain = tt }
  line_first (line.Answered a i given) h = record { framework = t.framework; later = refl; chain = tt }

pub fetches_first : (s : Script) (lines : List Line) → are_followed s lines ≡ true → FetchesFirst (kept_of s lines)
fetches_first s [] h = record { framework = λ e. impossible e; later = refl; chain = tt }
fetches_first s (l ∷ earlier) h =
    let q = and_parts (are_followed s earlier) (is_followed s (kept_of s earlier) l) h in
    line_first s (kept_of s earlier) (fetches_first s earlier q.0) l q.1

-- ---- the reset behind it

asks_none : (count : ℕ) (c : CommandValue) (r : ResponseValue) → wants_more r.sw ≡ false → asks_more count c r ≡ false
asks_none count c r h = ap (λ (b : Bool). b && nat_lt count most_exchanges && not (c.ins == verify_ins)) h

same_zero : (a : ℕ) (o : Option ℕ) → o ≡ Some a → o ≡ Some zero → a ≡ zero
same_zero a o e h = let q : Some a ≡ Some zero = sym e ∙ h in cc

pub fetch_resets : (s : Script) (k : Kept) → FetchesFirst k → (a : ℕ) (c : CommandValue) (r : ResponseValue) → is_followed s k (line.Exchange a c r) ≡ true → is_fetch c ≡ true → wants_more r.sw ≡ false → has_value asks_reset (handed_refresh c r) ≡ true → (kept_after s (line.Exchange a c r) k).turn.stage ≡ resetting
fetch_resets s k t a c r h f final asks =
    let l : Line = line.Exchange a c r in
    let facts : Facts = facts_of s l k in
    let turn : IsFetchTurn k = fetch_turn k t s a c r h f in
    let zero_is : a ≡ zero = same_zero a k.turn.actor (actor_is k a (and_parts (is_turn_of a k.turn) (is_sent (due s k) l) h).0) (t.framework turn.0) in
    let none : operation_now s a k.jobs ≡ None = ap (λ (n : ℕ). operation_now s n k.jobs) zero_is ∙ none_of_framework s k in
    led_reset (operation_now s a k.jobs) (job_of a (kept_after s l k).jobs) (held_numbers k.history k.handles) facts.touch.refresh
    (refused_of k.selected (jobs_beside l k.history.epoch facts k.selected k.jobs) facts.answered) k.turn
    (asks_more (chain_count c k.chain + 1) c r) (final_now a c r k.history.events k.chain) k.turn.work refl turn.0 none
    (asks_none (chain_count c k.chain + 1) c r final) asks
