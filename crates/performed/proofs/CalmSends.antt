-- What a served turn sends fits its operation: an UPDATE is an application's, a MANAGE CHANNEL an open's or a close's, a VERIFY a
-- verification's; and an event that it tries is an insertion.
use Rattle.std.proofs.Common.{◌≡◌, ◌⊎◌, inl, inr, ℕ, zero, suc, ◌==◌, ◌&&◌, not, Bool, true, false, if◌then◌else◌, Option, Some, None, List, [], ◌∷◌, ◌%◌, length, refl, ap, sym, ◌∙◌, subst, true≢false}
use Rattle.std.specs.Prelude.{slice_get, unwrap_or, option_map, option_and_then, nat_lt}
use Rattle.std.specs.List.{list_all}
use Rattle.std.proofs.lemmas.Bool.{and_parts, eqb-true, not-true}
use Rattle.apdu.specs.Values.{CommandValue, ResponseValue}
use Rattle.apdu.specs.Words.{has_value, same_number, same_bytes}
use Rattle.apdu.specs.Apdu.{same_command, is_update_ins, verify_ins, manage_channel_ins, update_record_ins, has_more, with_le, le_of_byte, wants_more}
use Rattle.fcp.specs.declared.control.Fcp.{Fcp}
use Rattle.fcp.specs.declared.rows.FileKind.{FileKind}
use Rattle.fcp.specs.declared.rows.FileKind.TheVariants.{Transparent, Linear, Directory}
use Rattle.script_reader.specs.declared.types.Script.{Script}
use Rattle.script_reader.specs.declared.types.Operation.{Operation}
use Rattle.script_reader.specs.declared.types.Operation.TheVariants as operation
use Rattle.report.specs.declared.line.Line.TheVariants as line
use Rattle.link.specs.declared.chain.Chain.{Chain}
use Rattle.link.specs.declared.chain.Final.{Final}
use Rattle.link.specs.Commands.{get_response_for, follow_up, asks_more, select_only, is_at, most_exchanges}
use Rattle.card_effects.proofs.Same.{same_bytes_is}
use Rattle.loader.specs.Values.{ReadingValue}
use Rattle.loader.specs.Reading.{reading_of, is_complete, read_by, read_number, next_read}
use Rattle.loader.specs.Load.{selected_first, next_or_select, reading_command, is_selected, read_behind}
use Rattle.rules.specs.declared.kept.Begun.{Begun}
use Rattle.rules.specs.declared.kept.Job.{Job}
use Rattle.rules.specs.declared.kept.Kept.{Kept}
use Rattle.rules.specs.declared.kept.Stage.{Stage}
use Rattle.rules.specs.declared.kept.Stage.TheVariants.{Fresh as fresh, Next as next, Resetting as resetting, Over as over}
use Rattle.rules.specs.declared.kept.Work.{Work}
use Rattle.rules.specs.declared.kept.Work.TheVariants.{Rests as rests, Refuses as refuses, Lacks as lacks, Sends as sends, Reads as reads, Writes as writes, Resets as resets, Happens as happens}
use Rattle.rules.specs.History.{is_living}
use Rattle.rules.specs.Channels.{is_raw_ins}
use Rattle.rules.specs.Kept.{operations_of, operation_at, begun_of, begun_operation, operation_now, job_of}
use Rattle.rules.specs.After.{is_raw}
use Rattle.rules.specs.Due.{first_command, first_of_turn, command_by_stage, command_by_chain, due_command, due}
use Rattle.rules.specs.Rules.{is_turn_of, turn_operation}
use Rattle.rules.specs.Performed.{is_sent}
use Rattle.performed.specs.Names.{has_utf8_name, has_utf8_names}
use Rattle.performed.specs.Followed.{is_followed}
use Rattle.performed.proofs.CalmLent.{sent_of, lost_of}
use Rattle.performed.proofs.CalmKinds.{is_calm, Calm, IsForm, IsExchangeOf, SendsFirst, WorkFits, SendsNext, Fits, sent_first, command_of, IsOfTurn, ChainFits, Sends, IsUpdater, IsNextOf, Kind, calm, application, opens, gives_up, closes, updates, verifies, Manages, by_open, by_refusal, by_close, ExchangeKind, FailedKind, ExchangeUpdate, ExchangeManages}
use Rattle.rules.specs.declared.holdings.Handle.{Handle}
use Rattle.rules.specs.Sessions.{verify_command}
use Rattle.channels.specs.Channels.{open_command, close_command, select_application}
use Rattle.editor.specs.declared.editing.Attempt.{Attempt}
use Rattle.adn.specs.declared.edit.RowUpdate.{RowUpdate}
use Rattle.families.specs.Families.{family_path}
use Rattle.editor.specs.Editing.{next_update, update_command}
use Rattle.rules.specs.Editing.{attempt_of}
use Rattle.rules.specs.Due.{writing_command}

pub never : {X : Type 0} → false ≡ true → X
never h = absurd (true≢false (sym h))

-- ---- the operations

abbrev pub ServedOp : Option Operation → Type 0
ServedOp None = Unit {0}
ServedOp (Some op) = has_utf8_name op ≡ true

served_get : (ops : List Operation) (i : ℕ) → list_all has_utf8_name ops ≡ true → ServedOp (slice_get ops i)
served_get [] i h = tt
served_get (op ∷ ops) zero h = (and_parts (has_utf8_name op) (list_all has_utf8_name ops) h).0
served_get (op ∷ ops) (suc i) h = served_get ops i (and_parts (has_utf8_name op) (list_all has_utf8_name ops) h).1

served_list : (actors : List (List Operation)) (a : ℕ) → list_all (list_all has_utf8_name) actors ≡ true → list_all has_utf8_name (unwrap_or (slice_get actors a) []) ≡ true
served_list [] a h = refl
served_list (ops ∷ actors) zero h = (and_parts (list_all has_utf8_name ops) (list_all (list_all has_utf8_name) actors) h).0
served_list (ops ∷ actors) (suc a) h = served_list actors a (and_parts (list_all has_utf8_name ops) (list_all (list_all has_utf8_name) actors) h).1

served_of : (s : Script) (a : ℕ) → has_utf8_names s ≡ true → list_all has_utf8_name (operations_of s a) ≡ true
served_of s zero h = refl
served_of s (suc a) h = served_list s.actors a h

pub served_at : (s : Script) (a i : ℕ) → has_utf8_names s ≡ true → ServedOp (operation_at s a i)
served_at s a i h = served_get (operations_of s a) i (served_of s a h)

served_begun : (s : Script) (a : ℕ) (b : Option Begun) → has_utf8_names s ≡ true → ServedOp (begun_operation s a b)
served_begun s a None h = tt
served_begun s a (Some b) h = served_at s a b.index h

pub served_now : (s : Script) (a : ℕ) (jobs : List Job) → has_utf8_names s ≡ true → ServedOp (operation_now s a jobs)
served_now s a jobs h = served_begun s a (begun_of a jobs) h

-- ---- commands

-- the same command
same_le : (a b : Option ℕ) → same_number a b ≡ true → a ≡ b
same_le None None h = refl
same_le None (Some b) h = absurd (true≢false (sym h))
same_le (Some a) None h = absurd (true≢false (sym h))
same_le (Some a) (Some b) h = ap (λ (n : ℕ). Some n) (eqb-true a b h)

pub command_is : (c d : CommandValue) → same_command c d ≡ true → c ≡ d
command_is c d h =
    let q5 = and_parts ((c.class == d.class) && (c.ins == d.ins) && (c.p1 == d.p1) && (c.p2 == d.p2) && same_bytes c.body d.body) (same_number c.le d.le) h in
    let q4 = and_parts ((c.class == d.class) && (c.ins == d.ins) && (c.p1 == d.p1) && (c.p2 == d.p2)) (same_bytes c.body d.body) q5.0 in
    let q3 = and_parts ((c.class == d.class) && (c.ins == d.ins) && (c.p1 == d.p1)) (c.p2 == d.p2) q4.0 in
    let q2 = and_parts ((c.class == d.class) && (c.ins == d.ins)) (c.p1 == d.p1) q3.0 in
    let q1 = and_parts (c.class == d.class) (c.ins == d.ins) q2.0 in
    let e1 : c.class ≡ d.class = eqb-true c.class d.class q1.0 in
    let e2 : c.ins ≡ d.ins = eqb-true c.ins d.ins q1.1 in
    let e3 : c.p1 ≡ d.p1 = eqb-true c.p1 d.p1 q2.1 in
    let e4 : c.p2 ≡ d.p2 = eqb-true c.p2 d.p2 q3.1 in
    let e5 : c.body ≡ d.body = same_bytes_is c.body d.body q4.1 in
    let e6 : c.le ≡ d.le = same_le c.le d.le q5.1 in
    rw (e1, e2, e3, e4, e5, e6) refl

-- ---- the chain

pub follow_calm_by : (b : Bool) (c d : CommandValue) → is_calm c.ins ≡ true → is_calm d.ins ≡ true → is_calm (if b then c else d).ins ≡ true
follow_calm_by true c d h g = h
follow_calm_by false c d h g = g

follow_calm : (c : CommandValue) (r : ResponseValue) → is_calm c.ins ≡ true → is_calm (follow_up c r).ins ≡ true
follow_calm c r h = follow_calm_by (has_more r.sw) (get_response_for c (le_of_byte (r.sw % 256))) (with_le (le_of_byte (r.sw % 256)) c) refl h

abbrev IsOfUpdate : ℕ → Type 0
IsOfUpdate ins = (is_calm ins ≡ true) ⊎ (ins ≡ update_record_ins)

follow_writing_by : (b : Bool) (c d : CommandValue) → is_calm c.ins ≡ true → IsOfUpdate d.ins → IsOfUpdate (if b then c else d).ins
follow_writing_by true c d h g = inl h
follow_writing_by false c d h g = g

follow_writing : (c : CommandValue) (r : ResponseValue) → IsOfUpdate c.ins → IsOfUpdate (follow_up c r).ins
follow_writing c r h = follow_writing_by (has_more r.sw) (get_response_for c (le_of_byte (r.sw % 256))) (with_le (le_of_byte (r.sw % 256)) c) refl h

form_itself : (c : CommandValue) → IsForm c c
form_itself c = record { le = c.le; is = refl; once = λ v. refl }

with_other_le : (c first : CommandValue) (n : ℕ) → (c.ins == verify_ins) ≡ false → IsForm c first → IsForm (with_le n c) first
with_other_le c first n h f = record {
  le = Some n;
  is = ap (with_le n) f.is;
  once = λ v. absurd (true≢false (sym v ∙ sym (ap (λ (x : CommandValue). x.ins == verify_ins) f.is) ∙ h));
}

exchange_with_le : (c first : CommandValue) (n : ℕ) → (c.ins == verify_ins) ≡ false → IsExchangeOf first c → IsExchangeOf first (with_le n c)
exchange_with_le c first n h (inl f) = inl (with_other_le c first n h f)
exchange_with_le c first n h (inr g) = inr g

pub exchange_by : (b : Bool) (c first : CommandValue) (n : ℕ) → (c.ins == verify_ins) ≡ false → IsExchangeOf first c → IsExchangeOf first (if b then get_response_for c n else with_le n c)
exchange_by true c first n h f = inr refl
exchange_by false c first n h f = exchange_with_le c first n h f

-- what follows a command of the turn is one of it
pub follow_turn : (work : Work) (stage : Stage) (c : CommandValue) (r : ResponseValue) → (c.ins == verify_ins) ≡ false → IsOfTurn work stage c → IsOfTurn work stage (follow_up c r)
follow_turn work stage c r h (inl x) = inl (record { first = x.first; at = x.at; exchange = exchange_by (has_more r.sw) c x.first (le_of_byte (r.sw % 256)) h x.exchange })
follow_turn work stage c r h (inr (inl x)) = inr (inl (record { path = x.path; is = x.is; begins = x.begins; calm = follow_calm c r x.calm }))
follow_turn work stage c r h (inr (inr x)) = inr (inr (record { is = x.is; begins = x.begins; ins = follow_writing c r x.ins }))

-- VERIFY is followed by nothing
pub no_verify_asks : (count : ℕ) (c : CommandValue) (r : ResponseValue) → asks_more count c r ≡ true → (c.ins == verify_ins) ≡ false
no_verify_asks count c r h = not-true (c.ins == verify_ins) (and_parts (wants_more r.sw && nat_lt count most_exchanges) (not (c.ins == verify_ins)) h).1

-- ---- what reads

read_calm : (kind : FileKind) (f : Fcp) (i : ℕ) → is_calm (read_by kind f i).ins ≡ true
read_calm Transparent f i = refl
read_calm Linear f i = refl
read_calm Directory f i = refl

calm_unless : (b : Bool) (c : CommandValue) → is_calm c.ins ≡ true → Calm (if b then None else Some c)
calm_unless true c h = tt
calm_unless false c h = h

next_calm : (g : ReadingValue) → Calm (next_read g)
next_calm g = calm_unless (is_complete g) (read_number g.control (length g.rows)) (read_calm g.control.kind g.control (length g.rows))

first_calm : (selected : Option (List ℕ)) (path : List ℕ) (c : CommandValue) → is_calm c.ins ≡ true → is_calm (selected_first selected path c).ins ≡ true
first_calm selected path c h = follow_calm_by (is_at selected path) c (select_only path) h refl

select_calm : (selected : Option (List ℕ)) (path : List ℕ) (o : Option CommandValue) → Calm o → is_calm (next_or_select selected path o).ins ≡ true
select_calm selected path None h = refl
select_calm selected path (Some c) h = first_calm selected path c h

reading_calm : (selected : Option (List ℕ)) (path : List ℕ) (g : Option ReadingValue) → is_calm (reading_command selected path g).ins ≡ true
reading_calm selected path None = refl
reading_calm selected path (Some g) = select_calm selected path (next_read g) (next_calm g)

next_of : (o : Option ReadingValue) → Calm (option_and_then next_read o)
next_of None = tt
next_of (Some g) = next_calm g

calm_if : (b : Bool) (o : Option CommandValue) → Calm o → Calm (if b then o else None)
calm_if true o h = h
calm_if false o h = tt

pub behind_calm : (path : List ℕ) (readings : List ReadingValue) (f : Final) → Calm (read_behind path readings f)
behind_calm path readings f = calm_if (is_selected f) (option_and_then next_read (reading_of path readings)) (next_of (reading_of path readings))

-- ---- what is due

abbrev AllOfTurn : Work → Stage → Option CommandValue → Type 0
AllOfTurn work stage None = Unit {0}
AllOfTurn work stage (Some c) = IsOfTurn work stage c

-- an update, behind its SELECT where its file is not selected
update_first : (selected : Option (List ℕ)) (path : List ℕ) (u : RowUpdate) → IsOfUpdate (selected_first selected path (update_command u)).ins
update_first selected path u = by_selected (is_at selected path)
  where
    by_selected : (b : Bool) → IsOfUpdate (if b then update_command u else select_only path).ins
    by_selected true = inr refl
    by_selected false = inl refl

written_first : (selected : Option (List ℕ)) (a : Attempt) (o : Option RowUpdate) → AllOfTurn writes fresh (option_map (λ u. selected_first selected (family_path a.family u.file) (update_command u)) o)
written_first selected a None = tt
written_first selected a (Some u) = inr (inr (record { is = refl; begins = refl; ins = update_first selected (family_path a.family u.file) u }))

writing_fits : (selected : Option (List ℕ)) (attempt : Option Attempt) → AllOfTurn writes fresh (writing_command selected attempt)
writing_fits selected None = tt
writing_fits selected (Some a) = written_first selected a (next_update a)

module _ (alive : ℕ → Bool) (handles : List Handle) (actor : Option ℕ) (op : Option Operation) where
  first_command_fits : (selected : Option (List ℕ)) (job : Job) (work : Work) → WorkFits alive handles actor op work → AllOfTurn work fresh (first_command selected job work)
  first_command_fits selected job (sends c) h = inl (record { first = c; at = refl; exchange = inl (form_itself c) })
  first_command_fits selected job (reads path) h = inr (inl (record { path = path; is = refl; begins = refl; calm = reading_calm selected path (reading_of path job.readings) }))
  first_command_fits selected job writes h = writing_fits selected (attempt_of job.begun)
  first_command_fits selected job rests h = tt
  first_command_fits selected job (refuses r) h = tt
  first_command_fits selected job (lacks key) h = tt
  first_command_fits selected job resets h = tt
  first_command_fits selected job (happens e) h = tt

  first_of_turn_fits : (selected : Option (List ℕ)) (jobs : List Job) (work : Work) (o : Option ℕ) → WorkFits alive handles actor op work → AllOfTurn work fresh (first_of_turn selected jobs work o)
  first_of_turn_fits selected jobs work None h = tt
  first_of_turn_fits selected jobs work (Some a) h = first_command_fits selected (job_of a jobs) work h

  by_stage_fits : (k : Kept) (opened : Option ℕ) (stage : Stage) → Fits alive handles actor op opened k.turn.work stage → AllOfTurn k.turn.work stage (command_by_stage k stage)
  by_stage_fits k opened fresh h = first_of_turn_fits k.selected k.jobs k.turn.work k.turn.actor h.1
  by_stage_fits k opened (next c) h = inl (record { first = c; at = refl; exchange = inl (form_itself c) })
  by_stage_fits k opened resetting h = tt
  by_stage_fits k opened over h = tt

  -- a turn that sends has its work
  pub work_there : (opened : Option ℕ) (work : Work) (stage : Stage) (c : CommandValue) → IsOfTurn work stage c → Fits alive handles actor op opened work stage → WorkFits alive handles actor op work
  work_there opened work fresh c x h = h.1
  work_there opened work (next d) c x h = h.1
  work_there opened work resetting c (inl x) h = absurd (let e : None ≡ Some x.first = x.at in cc)
  work_there opened work resetting c (inr (inl x)) h = absurd (let e : resetting ≡ fresh = x.begins in cc)
  work_there opened work resetting c (inr (inr x)) h = absurd (let e : resetting ≡ fresh = x.begins in cc)
  work_there opened work over c (inl x) h = absurd (let e : None ≡ Some x.first = x.at in cc)
  work_there opened work over c (inr (inl x)) h = absurd (let e : over ≡ fresh = x.begins in cc)
  work_there opened work over c (inr (inr x)) h = absurd (let e : over ≡ fresh = x.begins in cc)

by_chain_fits : (s : Script) (k : Kept) (chain : Option Chain) → ChainFits k.turn.work k.turn.stage chain → Sends s k → AllOfTurn k.turn.work k.turn.stage (command_by_chain k chain)
by_chain_fits s k (Some chain) h t = h
by_chain_fits s k None h t = by_stage_fits (is_living k.history) k.handles k.turn.actor (turn_operation s k) k k.turn.opened k.turn.stage t.fits

due_fits : (s : Script) (k : Kept) → Sends s k → AllOfTurn k.turn.work k.turn.stage (due_command k)
due_fits s k t = by_chain_fits s k k.chain t.chain t

same_of_turn : (work : Work) (stage : Stage) (c : CommandValue) (o : Option CommandValue) → AllOfTurn work stage o → has_value (same_command c) o ≡ true → IsOfTurn work stage c
same_of_turn work stage c None t h = absurd (true≢false (sym h))
same_of_turn work stage c (Some d) t h = subst (λ (x : CommandValue). IsOfTurn work stage x) (sym (command_is c d h)) t

-- a command that follows is one of the turn
pub exchange_of_turn : (s : Script) (k : Kept) (a : ℕ) (c : CommandValue) (r : ResponseValue) → Sends s k → is_followed s k (line.Exchange a c r) ≡ true → IsOfTurn k.turn.work k.turn.stage c
exchange_of_turn s k a c r t h = same_of_turn k.turn.work k.turn.stage c (due_command k) (due_fits s k t) (sent_of s k a c r (and_parts (is_turn_of a k.turn) (is_sent (due s k) (line.Exchange a c r)) h).1)

pub failed_of_turn : (s : Script) (k : Kept) (a : ℕ) (c : CommandValue) (acted : Bool) → Sends s k → is_followed s k (line.Failed a c acted) ≡ true → IsOfTurn k.turn.work k.turn.stage c
failed_of_turn s k a c acted t h = same_of_turn k.turn.work k.turn.stage c (due_command k) (due_fits s k t) (lost_of s k a c acted (and_parts (is_turn_of a k.turn) (is_sent (due s k) (line.Failed a c acted)) h).1)

-- ---- the kind of a command

module _ (s : Script) (k : Kept) (c first : CommandValue) (form : IsForm c first) where
  form_calm : is_calm first.ins ≡ true → Kind s k c
  form_calm h = calm (ap (λ (x : CommandValue). is_calm x.ins) form.is ∙ h)

  form_of : (d : CommandValue) → first ≡ d → IsForm c d
  form_of d e = subst (λ (x : CommandValue). IsForm c x) e form

  verify_itself : (key : ℕ) (pin : List ℕ) → IsForm c (verify_command key pin) → c ≡ verify_command key pin
  verify_itself key pin f = f.is ∙ ap (λ (le : Option ℕ). record (verify_command key pin) { le = le }) (f.once refl)

  kind_first : (op : Option Operation) → turn_operation s k ≡ op → k.turn.stage ≡ fresh → k.turn.opened ≡ None → SendsFirst (is_living k.history) k.handles k.turn.actor op first → Kind s k c
  kind_first None e stage opened h = form_calm h
  kind_first (Some (operation.OpenChannel handle aid)) e stage opened h = opens handle aid e stage opened (form_of open_command h)
  kind_first (Some (operation.Raw handle apdu)) e stage opened h = application handle apdu first e h form
  kind_first (Some (operation.Close handle)) e stage opened h = closes handle h.on e stage h.held (form_of (close_command h.on.number) h.is)
  kind_first (Some (operation.Verify key pin)) e stage opened h = verifies key pin e stage (verify_itself key pin (form_of (verify_command key pin) h))
  kind_first (Some operation.Poll) e stage opened h = form_calm (ap (λ (x : CommandValue). is_calm x.ins) h)
  kind_first (Some op) e stage opened h = absurd h

  kind_behind : (handle : ℕ) (aid : List ℕ) → turn_operation s k ≡ Some (operation.OpenChannel handle aid) → k.turn.stage ≡ next first → (number : ℕ) → k.turn.opened ≡ Some number → (first ≡ select_application number aid) ⊎ (first ≡ close_command number) → Kind s k c
  kind_behind handle aid e stage number gave (inl x) = form_calm (ap (λ (y : CommandValue). is_calm y.ins) x)
  kind_behind handle aid e stage number gave (inr x) = gives_up handle aid number e (stage ∙ ap (λ (y : CommandValue). next y) x) gave (form_of (close_command number) x)

  kind_of_next : (work : Work) → k.turn.work ≡ work → WorkFits (is_living k.history) k.handles k.turn.actor (turn_operation s k) work → IsNextOf work first.ins → Kind s k c
  kind_of_next writes is w h = updates w is (ap (λ (x : CommandValue). x.ins) form.is ∙ h)
  kind_of_next (sends d) is w h = form_calm h
  kind_of_next (reads path) is w h = form_calm h
  kind_of_next rests is w h = form_calm h
  kind_of_next (refuses r) is w h = form_calm h
  kind_of_next (lacks key) is w h = form_calm h
  kind_of_next resets is w h = form_calm h
  kind_of_next (happens e) is w h = form_calm h

  kind_next : (op : Option Operation) → turn_operation s k ≡ op → k.turn.stage ≡ next first → WorkFits (is_living k.history) k.handles k.turn.actor (turn_operation s k) k.turn.work → SendsNext k.turn.opened op k.turn.work first → Kind s k c
  kind_next None e stage w h = form_calm h
  kind_next (Some (operation.OpenChannel handle aid)) e stage w h = kind_behind handle aid e stage h.number h.gave h.is
  kind_next (Some op) e stage w h = kind_of_next k.turn.work refl w h

  kind_by_work : (work : Work) → sent_first work ≡ Some first → k.turn.stage ≡ fresh → k.turn.opened ≡ None → WorkFits (is_living k.history) k.handles k.turn.actor (turn_operation s k) work → Kind s k c
  kind_by_work (sends d) at stage opened h =
      let same : d ≡ first = cc in
      kind_first (turn_operation s k) refl stage opened (subst (λ (x : CommandValue). SendsFirst (is_living k.history) k.handles k.turn.actor (turn_operation s k) x) same h)
  kind_by_work work at stage opened h = absurd (cc)

  kind_by_stage : (stage : Stage) → k.turn.stage ≡ stage → command_of k.turn.work stage ≡ Some first → Fits (is_living k.history) k.handles k.turn.actor (turn_operation s k) k.turn.opened k.turn.work stage → Kind s k c
  kind_by_stage fresh e at h = kind_by_work k.turn.work at e h.0 h.1
  kind_by_stage (next d) e at h =
      let same : d ≡ first = cc in
      kind_next (turn_operation s k) refl (e ∙ ap (λ (y : CommandValue). next y) same) h.1 (subst (λ (x : CommandValue). SendsNext k.turn.opened (turn_operation s k) k.turn.work x) same h.0)
  kind_by_stage resetting e at h = absurd (cc)
  kind_by_stage over e at h = absurd (cc)

kind_of_stage : (s : Script) (k : Kept) (c first : CommandValue) → Sends s k → command_of k.turn.work k.turn.stage ≡ Some first → IsExchangeOf first c → Kind s k c
kind_of_stage s k c first t at (inl form) = kind_by_stage s k c first form k.turn.stage refl at t.fits
kind_of_stage s k c first t at (inr g) = calm (ap is_calm g)

kind_of : (s : Script) (k : Kept) (c : CommandValue) → Sends s k → IsOfTurn k.turn.work k.turn.stage c → Kind s k c
kind_of s k c t (inl x) = kind_of_stage s k c x.first t x.at x.exchange
kind_of s k c t (inr (inl x)) = calm x.calm
kind_of s k c t (inr (inr x)) = by_ins x.ins
  where
    work : WorkFits (is_living k.history) k.handles k.turn.actor (turn_operation s k) writes
    work = subst (λ (w : Work). WorkFits (is_living k.history) k.handles k.turn.actor (turn_operation s k) w) x.is
        (work_there (is_living k.history) k.handles k.turn.actor (turn_operation s k) k.turn.opened k.turn.work k.turn.stage c (inr (inr x)) t.fits)

    by_ins : (is_calm c.ins ≡ true) ⊎ (c.ins ≡ update_record_ins) → Kind s k c
    by_ins (inl h) = calm h
    by_ins (inr h) = updates work x.is h

-- of a command that follows
pub exchange_kind : ExchangeKind
exchange_kind s k a c r t h = kind_of s k c t (exchange_of_turn s k a c r t h)

pub failed_kind : FailedKind
failed_kind s k a c acted t h = kind_of s k c t (failed_of_turn s k a c acted t h)

-- ---- the kinds that change something

pub no_update : (ins : ℕ) → is_calm ins ≡ true → is_update_ins ins ≡ false
no_update ins h = not-true (is_update_ins ins) (and_parts (not (is_update_ins ins)) (not (ins == verify_ins) && not (ins == manage_channel_ins)) h).0

pub no_verify : (ins : ℕ) → is_calm ins ≡ true → (ins == verify_ins) ≡ false
no_verify ins h = not-true (ins == verify_ins) (and_parts (not (ins == verify_ins)) (not (ins == manage_channel_ins)) (and_parts (not (is_update_ins ins)) (not (ins == verify_ins) && not (ins == manage_channel_ins)) h).1).0

pub no_manage : (ins : ℕ) → is_calm ins ≡ true → (ins == manage_channel_ins) ≡ false
no_manage ins h = not-true (ins == manage_channel_ins) (and_parts (not (ins == verify_ins)) (not (ins == manage_channel_ins)) (and_parts (not (is_update_ins ins)) (not (ins == verify_ins) && not (ins == manage_channel_ins)) h).1).1

-- what holds of no form of the command holds not of this one
pub unlike : {X : Type 0} (test : ℕ → Bool) (c first : CommandValue) → IsForm c first → test first.ins ≡ false → test c.ins ≡ true → X
unlike test c first f misses passes = absurd (true≢false (sym passes ∙ ap (λ (x : CommandValue). test x.ins) f.is ∙ misses))

-- an UPDATE is a raw operation's, or an edit's
pub kind_update : (s : Script) (k : Kept) (c : CommandValue) → Kind s k c → is_update_ins c.ins ≡ true → IsUpdater s k c
kind_update s k c (calm x) h = absurd (true≢false (sym h ∙ no_update c.ins x))
kind_update s k c (application handle apdu first e r f) h = inl (ap (has_value is_raw) e)
kind_update s k c (updates writer work ins) h = inr (record { writer = writer; work = work; ins = ins })
kind_update s k c (opens handle aid e stage opened f) h = unlike is_update_ins c open_command f refl h
kind_update s k c (gives_up handle aid number e stage opened f) h = unlike is_update_ins c (close_command number) f refl h
kind_update s k c (closes handle x e stage held f) h = unlike is_update_ins c (close_command x.number) f refl h
kind_update s k c (verifies key pin e stage is) h = absurd (true≢false (sym h ∙ ap (λ (x : CommandValue). is_update_ins x.ins) is))

pub exchange_update : ExchangeUpdate
exchange_update s k a c r t h u = kind_update s k c (exchange_kind s k a c r t h) u

pub form_ins : (c first : CommandValue) (ins n : ℕ) → IsForm c first → first.ins ≡ ins → (c.ins == n) ≡ true → (ins == n) ≡ true
form_ins c first ins n f e h = sym (ap (λ (x : ℕ). x == n) (ap (λ (x : CommandValue). x.ins) f.is ∙ e)) ∙ h

-- an application sends no such instruction
pub raw_other : (n ins : ℕ) → is_raw_ins n ≡ false → is_raw_ins ins ≡ true → (ins == n) ≡ true → ⊥
raw_other n ins misses allowed same = true≢false (sym allowed ∙ ap is_raw_ins (eqb-true ins n same) ∙ misses)

-- which MANAGE CHANNEL it is
pub kind_manages : (s : Script) (k : Kept) (c : CommandValue) → Kind s k c → (c.ins == manage_channel_ins) ≡ true → Manages s k c
kind_manages s k c (calm x) h = absurd (true≢false (sym h ∙ no_manage c.ins x))
kind_manages s k c (application handle apdu first e r f) h = absurd (raw_other manage_channel_ins apdu.ins refl r.allowed (form_ins c first apdu.ins manage_channel_ins f (ap (λ (x : CommandValue). x.ins) r.is) h))
kind_manages s k c (opens handle aid e stage opened f) h = by_open handle aid e stage opened f
kind_manages s k c (gives_up handle aid number e stage opened f) h = by_refusal handle aid number e stage opened f
kind_manages s k c (closes handle x e stage held f) h = by_close handle x e stage held f
kind_manages s k c (updates writer work ins) h = never (sym (ap (λ (x : ℕ). x == manage_channel_ins) ins) ∙ h)
kind_manages s k c (verifies key pin e stage is) h = absurd (true≢false (sym h ∙ ap (λ (x : CommandValue). x.ins == manage_channel_ins) is))

pub exchange_manages : ExchangeManages
exchange_manages s k a c r t h m = kind_manages s k c (exchange_kind s k a c r t h) m
