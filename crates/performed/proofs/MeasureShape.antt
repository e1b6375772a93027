-- What stands in a turn whose each line is due: a chain goes on with the command of its stage, an ended epoch is told in a turn that is over,
-- and a command behind another opens no channel.
use Rattle.std.proofs.Common.{◌≡◌, ℕ, ◌+◌, ◌-◌, ◌≤◌, ◌<◌, ◌==◌, ◌&&◌, not, nat_lt, Bool, true, false, if◌then◌else◌, List, [], ◌∷◌, Option, Some, None, option_map, option_and_then, refl, length, sym, ap, ◌∙◌, subst, arith}
use Rattle.std.proofs.lemmas.Bool.{and_parts, false≢true, ltb-true, eqb-true}
use Rattle.apdu.specs.Values.{CommandValue, ResponseValue}
use Rattle.apdu.specs.Words.{has_value, same_bytes, same_number}
use Rattle.apdu.specs.Apdu.{same_command, manage_channel_ins, select_ins, verify_ins, is_success, wants_more}
use Rattle.fcp.specs.declared.control.Fcp.{Fcp}
use Rattle.fcp.specs.declared.rows.FileKind.{FileKind}
use Rattle.fcp.specs.declared.rows.FileKind.TheVariants.{Transparent, Linear, Directory}
use Rattle.adn.specs.declared.edit.RowUpdate.{RowUpdate}
use Rattle.epoch_cache.specs.Cache.{asks_reset}
use Rattle.refresh_cmd.specs.Values.{ProactiveValue}
use Rattle.script_reader.specs.declared.types.Script.{Script}
use Rattle.script_reader.specs.declared.types.Operation.{Operation}
use Rattle.script_reader.specs.declared.types.Operation.TheVariants as operation
use Rattle.report.specs.declared.line.Line.{Line}
use Rattle.report.specs.declared.line.Line.TheVariants as line
use Rattle.link.specs.declared.chain.Chain.{Chain}
use Rattle.link.specs.declared.chain.Final.{Final}
use Rattle.link.specs.Commands.{asks_more, chain_count, chain_first, count_of, first_of, follow_up, most_exchanges, is_path_select, is_basic_select}
use Rattle.channels.specs.Channels.{is_opening, select_application, close_command}
use Rattle.loader.specs.Values.{ReadingValue}
use Rattle.loader.specs.Load.{is_selected}
use Rattle.loader.specs.Reading.{next_read, reading_of, is_complete, read_by, read_number}
use Rattle.editor.specs.Editing.{next_update, update_command}
use Rattle.rules.specs.declared.kept.Facts.{Facts}
use Rattle.rules.specs.declared.kept.Job.{Job}
use Rattle.rules.specs.declared.kept.Kept.{Kept}
use Rattle.rules.specs.declared.kept.Stage.{Stage}
use Rattle.rules.specs.declared.kept.Stage.TheVariants.{Fresh as fresh, Next as next, Resetting as resetting, Over as over}
use Rattle.rules.specs.declared.kept.Turn.{Turn}
use Rattle.rules.specs.declared.kept.Work.{Work}
use Rattle.rules.specs.declared.kept.Work.TheVariants.{Sends as sends, Reads as reads, Writes as writes}
use Rattle.rules.specs.declared.due.Due.{Due}
use Rattle.rules.specs.declared.due.Due.TheVariants.{Send as send}
use Rattle.loader.specs.declared.reading.RefusedReading.{RefusedReading}
use Rattle.rules.specs.Due.{due, command_by_chain, command_by_stage}
use Rattle.rules.specs.Editing.{attempt_of}
use Rattle.rules.specs.After.{next_or_over, stage_of_open, stage_of_framework, stage_of_sent, stage_after, turn_answered, opened_behind, jobs_beside, refused_of, facts_of, kept_after, kept_of}
use Rattle.rules.specs.Performed.{is_sent}
use Rattle.rules.specs.Rules.{is_turn_of}
use Rattle.rules.specs.Channels.{held_numbers}
use Rattle.rules.specs.Kept.{job_of, operation_now}
use Rattle.performed.specs.Followed.{is_followed, are_followed}
use Rattle.performed.specs.Measure.{calls_left, sent_of}
use Rattle.performed.proofs.MeasureSays.{stands_of}

-- ---- the shape

abbrev pub IsLike : CommandValue → CommandValue → Type 0
IsLike c d = (c.ins ≡ d.ins) × (c.p1 ≡ d.p1)

-- a command of this first form is that of the stage
abbrev pub IsFirstOf : CommandValue → Stage → Type 0
IsFirstOf c fresh = Unit {0}
IsFirstOf c (next d) = IsLike c d
IsFirstOf c resetting = ⊥
IsFirstOf c over = ⊥

abbrev pub FitsChain : Option Chain → Stage → Type 0
FitsChain None stage = Unit {0}
FitsChain (Some chain) stage = (chain.count ≤ 3) × IsFirstOf chain.first stage

abbrev pub IsOver : Stage → Type 0
IsOver fresh = ⊥
IsOver (next c) = ⊥
IsOver resetting = ⊥
IsOver over = Unit {0}

abbrev pub IsToldOver : Option (ℕ × ℕ) → Stage → Type 0
IsToldOver None stage = Unit {0}
IsToldOver (Some e) stage = IsOver stage

abbrev pub OpensNot : Stage → Type 0
OpensNot fresh = Unit {0}
OpensNot (next c) = is_opening c ≡ false
OpensNot resetting = Unit {0}
OpensNot over = Unit {0}

pub record Shape (k : Kept) : Type 0 where
  pub chain : FitsChain k.chain k.turn.stage
  pub ended : IsToldOver k.turn.ended k.turn.stage
  pub opens : OpensNot k.turn.stage

pub told_over : (o : Option (ℕ × ℕ)) → IsToldOver o over
told_over None = tt
told_over (Some e) = tt

pub few_sent : (o : Option Chain) (stage : Stage) → FitsChain o stage → sent_of o ≤ 3
few_sent None stage f = omega arith
few_sent (Some chain) stage f = f.0

-- ---- a command that is due

pub record IsNext (c : CommandValue) (chain : Option Chain) (stage : Stage) : Type 0 where
  pub first : IsFirstOf (chain_first c chain) stage
  pub count : chain_count c chain ≡ sent_of chain

same_is_like : (a b : CommandValue) → same_command a b ≡ true → IsLike a b
same_is_like a b h =
    let q1 = and_parts ((a.class == b.class) && (a.ins == b.ins) && (a.p1 == b.p1) && (a.p2 == b.p2) && same_bytes a.body b.body) (same_number a.le b.le) h in
    let q2 = and_parts ((a.class == b.class) && (a.ins == b.ins) && (a.p1 == b.p1) && (a.p2 == b.p2)) (same_bytes a.body b.body) q1.0 in
    let q3 = and_parts ((a.class == b.class) && (a.ins == b.ins) && (a.p1 == b.p1)) (a.p2 == b.p2) q2.0 in
    let q4 = and_parts ((a.class == b.class) && (a.ins == b.ins)) (a.p1 == b.p1) q3.0 in
    (eqb-true a.ins b.ins (and_parts (a.class == b.class) (a.ins == b.ins) q4.0).1, eqb-true a.p1 b.p1 q4.1)

module _ (k : Kept) where
  by_stage : (stage : Stage) (c d : CommandValue) → command_by_stage k stage ≡ Some d → IsLike c d → IsFirstOf c stage
  by_stage fresh c d e h = tt
  by_stage (next x) c d e h = let same : d ≡ x = cc in subst (λ (y : CommandValue). IsLike c y) same h
  by_stage resetting c d e h = absurd (cc)
  by_stage over c d e h = absurd (cc)

  going_on : (b : Bool) (c : CommandValue) (chain : Chain) → b ≡ true → IsFirstOf chain.first k.turn.stage → IsFirstOf (first_of (if b then Some chain else None) c) k.turn.stage × (count_of (if b then Some chain else None) ≡ chain.count)
  going_on true c chain h f = (f, refl)
  going_on false c chain h f = absurd (false≢true h)

  by_chain : (o : Option Chain) (c d : CommandValue) → FitsChain o k.turn.stage → command_by_chain k o ≡ Some d → same_command c d ≡ true → IsNext c o k.turn.stage
  by_chain None c d f e h = record { first = by_stage k.turn.stage c d e (same_is_like c d h); count = refl }
  by_chain (Some chain) c d f e h =
      let same : chain.next ≡ d = cc in
      let q = going_on (same_command c chain.next) c chain (subst (λ (y : CommandValue). same_command c y ≡ true) (sym same) h) f.1 in
      record { first = q.0; count = q.1 }

module _ (s : Script) (k : Kept) (f : FitsChain k.chain k.turn.stage) where
  by_exchange : (d : Due) (a : ℕ) (c : CommandValue) (r : ResponseValue) → due s k ≡ d → is_sent d (line.Exchange a c r) ≡ true → IsNext c k.chain k.turn.stage
  by_exchange (send x) a c r e h = by_chain k k.chain c x f (stands_of s k (send x) e) h
  by_exchange d a c r e h = absurd (false≢true h)

  by_failed : (d : Due) (a : ℕ) (c : CommandValue) (acted : Bool) → due s k ≡ d → is_sent d (line.Failed a c acted) ≡ true → IsNext c k.chain k.turn.stage
  by_failed (send x) a c acted e h = by_chain k k.chain c x f (stands_of s k (send x) e) h
  by_failed d a c acted e h = absurd (false≢true h)

  pub exchange_next : (a : ℕ) (c : CommandValue) (r : ResponseValue) → is_followed s k (line.Exchange a c r) ≡ true → IsNext c k.chain k.turn.stage
  exchange_next a c r h = by_exchange (due s k) a c r refl (and_parts (is_turn_of a k.turn) (is_sent (due s k) (line.Exchange a c r)) h).1

  pub failed_next : (a : ℕ) (c : CommandValue) (acted : Bool) → is_followed s k (line.Failed a c acted) ≡ true → IsNext c k.chain k.turn.stage
  failed_next a c acted h = by_failed (due s k) a c acted refl (and_parts (is_turn_of a k.turn) (is_sent (due s k) (line.Failed a c acted)) h).1

pub not_ended : (o : Option (ℕ × ℕ)) (stage : Stage) (c : CommandValue) → IsToldOver o stage → IsFirstOf c stage → o ≡ None
not_ended None stage c e f = refl
not_ended (Some x) fresh c e f = absurd e
not_ended (Some x) (next d) c e f = absurd e
not_ended (Some x) resetting c e f = absurd e
not_ended (Some x) over c e f = absurd f

-- ---- the stage behind a command

-- how much may come behind a command
abbrev pub calls_behind : CommandValue → ℕ
calls_behind c = if is_opening c then 3 else if c.ins == select_ins then 2 else 1

pub calls_alike : (c d : CommandValue) → IsLike c d → calls_behind c ≡ calls_behind d
calls_alike c d h =
    let by : ℕ → ℕ → ℕ = λ ins p1. if (ins == manage_channel_ins) && (p1 == 0x00) then 3 else if ins == select_ins then 2 else 1 in
    ap (λ i. by i c.p1) h.0 ∙ ap (λ p. by d.ins p) h.1

-- what is shown of the stage behind the command
pub record Falls (c : CommandValue) (stage : Stage) : Type 0 where
  pub calls : calls_left stage ≤ calls_behind c
  pub opens : OpensNot stage

falls_over : (c : CommandValue) → Falls c over
falls_over c = record { calls = omega arith; opens = tt }

one_at_least : (i j : Bool) → 1 ≤ (if i then 3 else if j then 2 else 1)
one_at_least true j = omega arith
one_at_least false true = omega arith
one_at_least false false = omega arith

two_at_least : (i j : Bool) → j ≡ true → 2 ≤ (if i then 3 else if j then 2 else 1)
two_at_least true j h = omega arith
two_at_least false true h = omega arith
two_at_least false false h = absurd (false≢true h)

-- an open

selects_number : (aid : List ℕ) (o : Option ℕ) → (calls_left (next_or_over (option_map (λ n. select_application n aid) o)) ≤ 3) × OpensNot (next_or_over (option_map (λ n. select_application n aid) o))
selects_number aid None = (omega arith, tt)
selects_number aid (Some n) = (omega arith, refl)

closes_number : (o : Option ℕ) → (calls_left (next_or_over (option_map close_command o)) ≤ 2) × OpensNot (next_or_over (option_map close_command o))
closes_number None = (omega arith, tt)
closes_number (Some n) = (omega arith, refl)

by_tests : (i j m : Bool) (a b : Stage) → (calls_left a ≤ 3) × OpensNot a → (calls_left b ≤ 2) × OpensNot b → (calls_left (if i then a else if j && m then b else over) ≤ (if i then 3 else if j then 2 else 1)) × OpensNot (if i then a else if j && m then b else over)
by_tests true j m a b p q = p
by_tests false true true a b p q = q
by_tests false true false a b p q = (omega arith, tt)
by_tests false false m a b p q = (omega arith, tt)

falls_open : (aid : List ℕ) (opened : Option ℕ) (f : Final) → Falls f.command (stage_of_open aid opened f)
falls_open aid opened f =
    let q = by_tests (is_opening f.command) (f.command.ins == select_ins) (not (is_success f.response.sw)) (next_or_over (option_map (λ n. select_application n aid) opened)) (next_or_over (option_map close_command opened)) (selects_number aid opened) (closes_number opened) in
    record { calls = q.0; opens = q.1 }

-- the framework

by_reset : (b : Bool) (n : ℕ) → 1 ≤ n → (calls_left (if b then resetting else over) ≤ n) × OpensNot (if b then resetting else over)
by_reset true n h = (h, tt)
by_reset false n h = (omega arith, tt)

falls_framework : (refresh : Option ProactiveValue) (f : Final) → Falls f.command (stage_of_framework refresh)
falls_framework refresh f =
    let q = by_reset (has_value asks_reset refresh) (calls_behind f.command) (one_at_least (is_opening f.command) (f.command.ins == select_ins)) in
    record { calls = q.0; opens = q.1 }

falls_sent : (op : Option Operation) (opened : Option ℕ) (refresh : Option ProactiveValue) (f : Final) → Falls f.command (stage_of_sent op opened refresh f)
falls_sent None opened refresh f = falls_framework refresh f
falls_sent (Some (operation.OpenChannel handle aid)) opened refresh f = falls_open aid opened f
falls_sent (Some op) opened refresh f = falls_over f.command

-- a read, and an update, behind a SELECT

abbrev IsPlainNext : Option CommandValue → Type 0
IsPlainNext o = (calls_left (next_or_over o) ≤ 2) × OpensNot (next_or_over o)

nothing_next : IsPlainNext None
nothing_next = (omega arith, tt)

is_select : (f : Final) → is_selected f ≡ true → (f.command.ins == select_ins) ≡ true
is_select f h =
    let path = (and_parts (is_path_select f.command) (is_success f.response.sw) h).0 in
    let basic = (and_parts (is_basic_select f.command) (f.command.p1 == 0x08) path).0 in
    (and_parts (f.command.class == 0) (f.command.ins == select_ins) basic).1

behind_select : (b : Bool) (f : Final) (o : Option CommandValue) → is_selected f ≡ b → IsPlainNext o → Falls f.command (next_or_over (if b then o else None))
behind_select true f o h p = let two : 2 ≤ calls_behind f.command = two_at_least (is_opening f.command) (f.command.ins == select_ins) (is_select f h) in record { calls = omega (arith, p.0, two); opens = p.1 }
behind_select false f o h p = falls_over f.command

reads_kind : (kind : FileKind) (f : Fcp) (i : ℕ) → IsPlainNext (Some (read_by kind f i))
reads_kind Transparent f i = (omega arith, refl)
reads_kind Linear f i = (omega arith, refl)
reads_kind Directory f i = (omega arith, refl)

reads_on : (b : Bool) (g : ReadingValue) → IsPlainNext (if b then None else Some (read_number g.control (length g.rows)))
reads_on true g = nothing_next
reads_on false g = reads_kind g.control.kind g.control (length g.rows)

reads_next : (o : Option ReadingValue) → IsPlainNext (option_and_then next_read o)
reads_next None = nothing_next
reads_next (Some g) = reads_on (is_complete g) g

updates_next : (o : Option RowUpdate) → IsPlainNext (option_map update_command o)
updates_next None = nothing_next
updates_next (Some u) = (omega arith, refl)

by_selected : (b : Bool) (o : Option CommandValue) → next_or_over (if b then o else None) ≡ (if b then next_or_over o else over)
by_selected true o = refl
by_selected false o = refl

pub falls : (w : Work) (op : Option Operation) (opened : Option ℕ) (job : Job) (refresh : Option ProactiveValue) (f : Final) → Falls f.command (stage_after w op opened job refresh f)
falls (sends c) op opened job refresh f = falls_sent op opened refresh f
falls (reads path) op opened job refresh f = behind_select (is_selected f) f (option_and_then next_read (reading_of path job.readings)) refl (reads_next (reading_of path job.readings))
falls writes op opened job refresh f =
    subst (λ (stage : Stage). Falls f.command stage) (by_selected (is_selected f) (option_map update_command (option_and_then next_update (attempt_of job.begun))))
    (behind_select (is_selected f) f (option_map update_command (option_and_then next_update (attempt_of job.begun))) refl (updates_next (option_and_then next_update (attempt_of job.begun))))
falls w op opened job refresh f = falls_over f.command

-- ---- behind each line

-- the turn behind an exchange, by what it answers
abbrev pub led : Option Operation → Job → List ℕ → Option ProactiveValue → Option RefusedReading → Turn → Option Final → Turn
led op job held refresh refused t o = elim o [ None ↦ record t { bare = false } | Some f ↦ turn_answered op job (opened_behind held f t.opened) refresh refused f t ]

abbrev pub chain_now : CommandValue → ResponseValue → Option Chain → Chain
chain_now c r before = record { first = chain_first c before; count = chain_count c before + 1; next = follow_up c r }

abbrev pub final_now : ℕ → CommandValue → ResponseValue → ℕ → Option Chain → Final
final_now a c r events before = record { actor = a; command = chain_first c before; response = r; event = events + 1; first_event = events + 1 - chain_count c before }

pub has_room : (n : ℕ) (c : CommandValue) (r : ResponseValue) → asks_more n c r ≡ true → n ≤ 3
has_room n c r h =
    let q = and_parts (wants_more r.sw && nat_lt n most_exchanges) (not (c.ins == verify_ins)) h in
    let room : n < 4 = ltb-true n 4 (and_parts (wants_more r.sw) (nat_lt n most_exchanges) q.0).1 in
    omega (arith, room)

module _ (op : Option Operation) (job : Job) (held : List ℕ) (refresh : Option ProactiveValue) (refused : Option RefusedReading) (t : Turn) where
  shape_led : (b : Bool) (x : Chain) (f : Final) → (b ≡ true → FitsChain (Some x) t.stage) → t.ended ≡ None → OpensNot t.stage → FitsChain (if b then Some x else None) (led op job held refresh refused t (if b then None else Some f)).stage × IsToldOver (led op job held refresh refused t (if b then None else Some f)).ended (led op job held refresh refused t (if b then None else Some f)).stage × OpensNot (led op job held refresh refused t (if b then None else Some f)).stage
  shape_led true x f fits e opens = (fits refl, subst (λ (o : Option (ℕ × ℕ)). IsToldOver o t.stage) (sym e) tt, opens)
  shape_led false x f fits e opens = (tt, subst (λ (o : Option (ℕ × ℕ)). IsToldOver o (stage_after t.work op (opened_behind held f t.opened) job refresh f)) (sym e) tt, (falls t.work op (opened_behind held f t.opened) job refresh f).opens)

module _ (s : Script) (k : Kept) (p : Shape k) where
  shape_exchange : (a : ℕ) (c : CommandValue) (r : ResponseValue) → is_followed s k (line.Exchange a c r) ≡ true → Shape (kept_after s (line.Exchange a c r) k)
  shape_exchange a c r h =
      let l : Line = line.Exchange a c r in
      let facts : Facts = facts_of s l k in
      let n : IsNext c k.chain k.turn.stage = exchange_next s k p.chain a c r h in
      let q = shape_led (operation_now s a k.jobs) (job_of a (kept_after s l k).jobs) (held_numbers k.history k.handles) facts.touch.refresh (refused_of k.selected (jobs_beside l k.history.epoch facts k.selected k.jobs) facts.answered) k.turn
      (asks_more (chain_count c k.chain + 1) c r) (chain_now c r k.chain) (final_now a c r k.history.events k.chain)
      (λ more. (has_room (chain_count c k.chain + 1) c r more, n.first)) (not_ended k.turn.ended k.turn.stage (chain_first c k.chain) p.ended n.first) p.opens in
      record { chain = q.0; ended = q.1; opens = q.2 }

  shape_after : (l : Line) → is_followed s k l ≡ true → Shape (kept_after s l k)
  shape_after (line.Turn a) h = record { chain = tt; ended = tt; opens = tt }
  shape_after (line.Begin a i) h = record { chain = tt; ended = p.ended; opens = p.opens }
  shape_after (line.Exchange a c r) h = shape_exchange a c r h
  shape_after (line.Failed a c d) h = record { chain = tt; ended = told_over (kept_after s (line.Failed a c d) k).turn.ended; opens = tt }
  shape_after (line.Reset a) h = record { chain = tt; ended = told_over (kept_after s (line.Reset a) k).turn.ended; opens = tt }
  shape_after (line.ResetFailed a) h = record { chain = tt; ended = told_over (kept_after s (line.ResetFailed a) k).turn.ended; opens = tt }
  shape_after (line.World a e) h = record { chain = tt; ended = told_over (kept_after s (line.World a e) k).turn.ended; opens = tt }
  shape_after (line.Published n f e v text) h = record { chain = tt; ended = told_over k.turn.ended; opens = tt }
  shape_after (line.EpochEnd n e v) h = record { chain = tt; ended = tt; opens = p.opens }
  shape_after (line.Refused f n) h = record { chain = tt; ended = p.ended; opens = p.opens }
  shape_after (line.Answered a i given) h = record { chain = tt; ended = told_over k.turn.ended; opens = tt }

pub shape : (s : Script) (lines : List Line) → are_followed s lines ≡ true → Shape (kept_of s lines)
shape s [] h = record { chain = tt; ended = tt; opens = tt }
shape s (l ∷ earlier) h =
    let q = and_parts (are_followed s earlier) (is_followed s (kept_of s earlier) l) h in
    shape_after s (kept_of s earlier) (shape s earlier q.0) l q.1
