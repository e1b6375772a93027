-- Each line that is due within a turn leaves fewer steps in it.
use Rattle.std.proofs.Common.{◌≡◌, ℕ, suc, ◌+◌, ◌*◌, ◌-◌, ◌≤◌, ◌<◌, ◌==◌, ◌&&◌, nat_lt, Bool, true, false, if◌then◌else◌, List, ◌∷◌, Option, Some, None, is_some, is_none, option_and_then, refl, sym, ap, ◌∙◌, subst, arith, true≢false}
use Rattle.std.proofs.lemmas.Bool.{and_parts, false≢true, lt-ltb, eqb-true}
use Rattle.std.proofs.lemmas.Option.{cond_some}
use Rattle.apdu.specs.Values.{CommandValue, ResponseValue}
use Rattle.apdu.specs.Words.{same_number}
use Rattle.apdu.specs.Apdu.{select_ins}
use Rattle.refresh_cmd.specs.Values.{ProactiveValue}
use Rattle.card_model.specs.declared.world.WorldEvent.{WorldEvent}
use Rattle.script_reader.specs.declared.types.Script.{Script}
use Rattle.script_reader.specs.declared.types.Operation.{Operation}
use Rattle.report.specs.declared.answer.Answer.{Answer}
use Rattle.report.specs.declared.line.Line.{Line}
use Rattle.report.specs.declared.line.Line.TheVariants as line
use Rattle.families.specs.Families.{family_paths}
use Rattle.link.specs.declared.chain.Chain.{Chain}
use Rattle.link.specs.declared.chain.Final.{Final}
use Rattle.link.specs.Commands.{asks_more, chain_count, chain_first}
use Rattle.channels.specs.Channels.{is_opening}
use Rattle.epoch_cache.specs.Cache.{all_current}
use Rattle.loader.specs.declared.reading.RefusedReading.{RefusedReading}
use Rattle.rules.specs.declared.due.Due.{Due}
use Rattle.rules.specs.declared.due.Due.TheVariants.{TellEnd as tell_end, Send as send, ResetCard as reset_card, TryEvent as try_event, TellRefusal as tell_refusal, Publish as publish, Begin as begin}
use Rattle.rules.specs.declared.kept.Begun.{Begun}
use Rattle.rules.specs.declared.kept.Facts.{Facts}
use Rattle.rules.specs.declared.kept.Job.{Job}
use Rattle.rules.specs.declared.kept.Kept.{Kept}
use Rattle.rules.specs.declared.kept.Stage.{Stage}
use Rattle.rules.specs.declared.kept.Stage.TheVariants.{Fresh as fresh, Next as next, Resetting as resetting, Over as over}
use Rattle.rules.specs.declared.kept.Turn.{Turn}
use Rattle.rules.specs.declared.kept.Work.{Work}
use Rattle.rules.specs.Channels.{held_numbers}
use Rattle.rules.specs.Kept.{job_of, begun_of, operation_now}
use Rattle.rules.specs.After.{jobs_beside, refused_of, refused_event, opened_behind, is_mark, facts_of, kept_after, kept_of}
use Rattle.rules.specs.Due.{due, command_by_chain, due_by_command, due_by_end, reset_by_stage, is_reset_due, event_by_stage, tried_event, published_by}
use Rattle.rules.specs.Rules.{is_turn_of, is_begun_at}
use Rattle.rules.specs.Performed.{begins_as, is_reset, is_published, is_end_told, is_refusal_told}
use Rattle.performed.specs.Followed.{is_tried, is_followed, are_followed, is_given_or_refused}
use Rattle.performed.specs.Measure.{calls_left, sent_of, one_if, is_begun, steps_left}
use Rattle.performed.proofs.MeasureShape.{IsFirstOf, IsOver, IsToldOver, OpensNot, Shape, few_sent, IsNext, exchange_next, failed_next, calls_behind, calls_alike, falls, led, chain_now, final_now, shape}
use Rattle.performed.proofs.MeasureSays.{stands_of}
use Rattle.performed.proofs.MeasureBegun.{begun_beside_line, begun_exchange, begun_failure, begun_answer, same_turn}
use Rattle.performed.proofs.MeasureNumbers.{less_by_exchange, less_by_final, less_by_stop, less_by_end, less_by_refusal, less_by_begin, less_by_publication, less_by_answer}

one_at_most : (b : Bool) → one_if b ≤ 1
one_at_most true = omega arith
one_at_most false = omega arith

-- ---- what is due, of the calls that are left

sends_call : (c : CommandValue) (stage : Stage) → IsFirstOf c stage → 1 ≤ calls_left stage
sends_call c fresh f = omega arith
sends_call c (next d) f = by_select (d.ins == select_ins)
  where
    by_select : (b : Bool) → 1 ≤ (if b then 3 else 2)
    by_select true = omega arith
    by_select false = omega arith
sends_call c resetting f = absurd f
sends_call c over f = absurd f

resets_call : (w : Work) (stage : Stage) → reset_by_stage w stage ≡ true → 1 ≤ calls_left stage
resets_call w fresh h = omega arith
resets_call w (next d) h = absurd (false≢true h)
resets_call w resetting h = omega arith
resets_call w over h = absurd (false≢true h)

tries_call : (w : Work) (stage : Stage) (e : WorldEvent) → event_by_stage w stage ≡ Some e → 1 ≤ calls_left stage
tries_call w fresh e h = omega arith
tries_call w (next d) e h = absurd (cc)
tries_call w resetting e h = absurd (cc)
tries_call w over e h = absurd (cc)

none_over : (stage : Stage) → IsOver stage → calls_left stage ≡ 0
none_over fresh h = absurd h
none_over (next d) h = absurd h
none_over resetting h = absurd h
none_over over h = refl

-- behind a final response there is one call less
call_less : (stage : Stage) (c : CommandValue) (n : ℕ) → IsFirstOf c stage → OpensNot stage → n ≤ calls_behind c → suc n ≤ calls_left stage
call_less fresh c n f o h = let most = three_at_most (is_opening c) (c.ins == select_ins) in omega (arith, h, most)
  where
    three_at_most : (i j : Bool) → (if i then 3 else if j then 2 else 1) ≤ 3
    three_at_most true j = omega arith
    three_at_most false true = omega arith
    three_at_most false false = omega arith
call_less (next d) c n f o h = by_tests (is_opening d) (d.ins == select_ins) o (subst (λ (m : ℕ). n ≤ m) (calls_alike c d f) h)
  where
    by_tests : (i j : Bool) → i ≡ false → n ≤ (if i then 3 else if j then 2 else 1) → suc n ≤ (if j then 3 else 2)
    by_tests true j e g = absurd (true≢false e)
    by_tests false true e g = omega (arith, g)
    by_tests false false e g = omega (arith, g)
call_less resetting c n f o h = absurd f
call_less over c n f o h = absurd f

-- ---- nothing is sent where another line is due

abbrev is_told_or_sent : Due → Bool
is_told_or_sent (tell_end e n) = true
is_told_or_sent (send c) = true
is_told_or_sent d = false

module _ (s : Script) (k : Kept) where
  chain_sends : (chain : Chain) (o : Option (ℕ × ℕ)) → k.chain ≡ Some chain → is_told_or_sent (due_by_end s k o) ≡ true
  chain_sends chain (Some (epoch, event)) e = refl
  chain_sends chain None e = subst (λ (o : Option Chain). is_told_or_sent (due_by_command s k (command_by_chain k o)) ≡ true) (sym e) refl

  none_by : (o : Option Chain) → k.chain ≡ o → is_told_or_sent (due s k) ≡ false → sent_of o ≡ 0
  none_by None e h = refl
  none_by (Some chain) e h = absurd (true≢false (sym (chain_sends chain k.turn.ended e) ∙ h))

  pub none_sent : is_told_or_sent (due s k) ≡ false → sent_of k.chain ≡ 0
  none_sent h = none_by k.chain refl h

  -- what stands where a line is due
  reset_due : (d : Due) → due s k ≡ d → is_reset d ≡ true → is_reset_due k ≡ true
  reset_due reset_card e h = stands_of s k reset_card e
  reset_due d e h = absurd (false≢true h)

  abbrev Tries : Type 0
  Tries = (x : WorldEvent) × (tried_event k ≡ Some x)

  event_due : (e : WorldEvent) (d : Due) → due s k ≡ d → is_tried e d ≡ true → Tries
  event_due e (try_event x) q h = (x, stands_of s k (try_event x) q)
  event_due e d q h = absurd (false≢true h)

  end_due : (number e n : ℕ) (d : Due) → due s k ≡ d → is_end_told k number e n d ≡ true → is_some k.turn.ended ≡ true
  end_due number e n (tell_end x m) q h = ap is_some (stands_of s k (tell_end x m) q)
  end_due number e n d q h = absurd (false≢true h)

  refusal_due : (f n : ℕ) (d : Due) → due s k ≡ d → is_refusal_told f n d ≡ true → (is_some k.turn.refused ≡ true) × (is_told_or_sent d ≡ false)
  refusal_due f n (tell_refusal g m) q h = (ap is_some (stands_of s k (tell_refusal g m) q), refl)
  refusal_due f n d q h = absurd (false≢true h)

  begin_due : (i : ℕ) (d : Due) → due s k ≡ d → begins_as i d ≡ true → (k.turn.bare ≡ true) × (is_told_or_sent d ≡ false)
  begin_due i (begin j) q h = ((stands_of s k (begin j) q), refl)
  begin_due i d q h = absurd (false≢true h)

  unpublished_by : (f : Option ℕ) (g : ℕ) → option_and_then (published_by k) f ≡ Some g → is_none k.turn.published ≡ true
  unpublished_by None g h = absurd (cc)
  unpublished_by (Some f) g h = (and_parts (is_none k.turn.published) (all_current k.files (family_paths f)) (cond_some (is_none k.turn.published && all_current k.files (family_paths f)) f g h).0).0

  publication_due : (number f e n : ℕ) (text : List ℕ) (d : Due) → due s k ≡ d → is_published k number f e n text d ≡ true → is_none k.turn.published ≡ true
  publication_due number f e n text (publish g) q h = unpublished_by k.turn.family g (stands_of s k (publish g) q)
  publication_due number f e n text d q h = absurd (false≢true h)

-- ---- each kind of line

of_turn : (o : Option ℕ) (a : ℕ) → same_number o (Some a) ≡ true → o ≡ Some a
of_turn None a h = absurd (false≢true h)
of_turn (Some b) a h = ap (λ n. Some n) (eqb-true b a h)

has_operation : (i : ℕ) (o : Option Begun) → is_begun_at i o ≡ true → is_some o ≡ true
has_operation i None h = absurd (false≢true h)
has_operation i (Some b) h = refl

-- what is left, by its parts
abbrev left_of : Option Chain → Turn → List Job → ℕ
left_of chain t jobs = 4 * (5 * calls_left t.stage - sent_of chain) + (2 * one_if t.bare + one_if (is_some t.ended) + one_if (is_some t.refused) + one_if (is_none t.published) + one_if (is_begun t.actor jobs))

module _ (op : Option Operation) (job : Job) (held : List ℕ) (refresh : Option ProactiveValue) (refused : Option RefusedReading) (t : Turn) (chain : Option Chain) (jobs new : List Job) where
  abbrev behind : Option Final → Turn
  behind o = led op job held refresh refused t o

  less_led : (b : Bool) (x : Chain) (f : Final) → IsFirstOf f.command t.stage → OpensNot t.stage → sent_of chain ≤ 3 → x.count ≡ sent_of chain + 1 → is_begun t.actor new ≡ is_begun t.actor jobs → left_of (if b then Some x else None) (behind (if b then None else Some f)) new < left_of chain t jobs
  less_led true x f first opens few count same =
      subst (λ (n : ℕ). 4 * (5 * calls_left t.stage - n) + (2 * 0 + one_if (is_some t.ended) + one_if (is_some t.refused) + one_if (is_none t.published) + one_if (is_begun t.actor new)) < left_of chain t jobs) (sym count)
      (less_by_exchange (calls_left t.stage) (sent_of chain) (one_if t.bare) (one_if (is_some t.ended)) (one_if (is_some t.refused)) (one_if (is_none t.published)) (one_if (is_begun t.actor jobs)) (one_if (is_begun t.actor new))
      (sends_call f.command t.stage first) few (ap one_if same))
  less_led false x f first opens few count same =
      less_by_final (calls_left (behind (Some f)).stage) (calls_left t.stage) (sent_of chain) (one_if t.bare) (one_if (is_some t.ended)) (one_if (is_some t.refused)) (one_if (is_some (refused_event t f refused))) (one_if (is_none t.published)) (one_if (is_begun t.actor jobs)) (one_if (is_begun t.actor new))
      (call_less t.stage f.command (calls_left (behind (Some f)).stage) first opens (falls t.work op (opened_behind held f t.opened) job refresh f).calls) few (one_at_most (is_some (refused_event t f refused))) (ap one_if same)

module _ (s : Script) (k : Kept) (p : Shape k) where
  abbrev calls : ℕ
  calls = calls_left k.turn.stage

  abbrev sent : ℕ
  sent = sent_of k.chain

  abbrev bare : ℕ
  bare = one_if k.turn.bare

  abbrev ended : ℕ
  ended = one_if (is_some k.turn.ended)

  abbrev refused : ℕ
  refused = one_if (is_some k.turn.refused)

  abbrev unpublished : ℕ
  unpublished = one_if (is_none k.turn.published)

  abbrev begun_in : List Job → ℕ
  begun_in jobs = one_if (is_begun k.turn.actor jobs)

  abbrev jobs_behind : Line → List Job
  jobs_behind l = (kept_after s l k).jobs

  few : sent ≤ 3
  few = few_sent k.chain k.turn.stage p.chain

  -- a line that is not about an operation leaves it
  keeps : (l : Line) → jobs_behind l ≡ jobs_beside l k.history.epoch (facts_of s l k) k.selected k.jobs → begun_in (jobs_behind l) ≡ begun_in k.jobs
  keeps l e = ap begun_in e ∙ ap one_if (same_turn k.jobs (jobs_beside l k.history.epoch (facts_of s l k) k.selected k.jobs) (begun_beside_line s l k) k.turn.actor)

  less_exchange : (a : ℕ) (c : CommandValue) (r : ResponseValue) → is_followed s k (line.Exchange a c r) ≡ true → steps_left (kept_after s (line.Exchange a c r) k) < steps_left k
  less_exchange a c r h =
      let l : Line = line.Exchange a c r in
      let facts : Facts = facts_of s l k in
      let n : IsNext c k.chain k.turn.stage = exchange_next s k p.chain a c r h in
      less_led (operation_now s a k.jobs) (job_of a (jobs_behind l)) (held_numbers k.history k.handles) facts.touch.refresh (refused_of k.selected (jobs_beside l k.history.epoch facts k.selected k.jobs) facts.answered) k.turn k.chain k.jobs (jobs_behind l)
      (asks_more (chain_count c k.chain + 1) c r) (chain_now c r k.chain) (final_now a c r k.history.events k.chain)
      n.first p.opens few (ap (λ (m : ℕ). m + 1) n.count) (same_turn k.jobs (jobs_behind l) (begun_exchange s k a c r) k.turn.actor)

  -- a turn that goes no further behind an event
  less_stopped : (o : Option (ℕ × ℕ)) (jobs : List Job) → 1 ≤ calls → begun_in jobs ≡ begun_in k.jobs → 4 * (5 * 0 - 0) + (2 * 0 + one_if (is_some o) + refused + unpublished + begun_in jobs) < steps_left k
  less_stopped o jobs some same = less_by_stop calls sent bare ended (one_if (is_some o)) refused unpublished (begun_in k.jobs) (begun_in jobs) some few (one_at_most (is_some o)) same

  less_failed : (a : ℕ) (c : CommandValue) (d : Bool) → is_followed s k (line.Failed a c d) ≡ true → steps_left (kept_after s (line.Failed a c d) k) < steps_left k
  less_failed a c d h =
      let l : Line = line.Failed a c d in
      let n : IsNext c k.chain k.turn.stage = failed_next s k p.chain a c d h in
      less_stopped (kept_after s l k).turn.ended (jobs_behind l) (sends_call (chain_first c k.chain) k.turn.stage n.first) (ap one_if (same_turn k.jobs (jobs_behind l) (begun_failure s k a c d) k.turn.actor))

  resets : (a : ℕ) → is_turn_of a k.turn && is_reset (due s k) ≡ true → 1 ≤ calls
  resets a h = resets_call k.turn.work k.turn.stage (reset_due s k (due s k) refl (and_parts (is_turn_of a k.turn) (is_reset (due s k)) h).1)

  less_world : (a : ℕ) (e : WorldEvent) → is_followed s k (line.World a e) ≡ true → steps_left (kept_after s (line.World a e) k) < steps_left k
  less_world a e h =
      let l : Line = line.World a e in
      let q : Tries s k = event_due s k e (due s k) refl (and_parts (is_turn_of a k.turn) (is_tried e (due s k)) h).1 in
      less_stopped (kept_after s l k).turn.ended (jobs_behind l) (tries_call k.turn.work k.turn.stage q.0 q.1) (keeps l refl)

  over_where_ended : (o : Option (ℕ × ℕ)) → is_some o ≡ true → IsToldOver o k.turn.stage → IsOver k.turn.stage
  over_where_ended None h t = absurd (false≢true h)
  over_where_ended (Some e) h t = t

  less_end : (number e n : ℕ) → is_followed s k (line.EpochEnd number e n) ≡ true → steps_left (kept_after s (line.EpochEnd number e n) k) < steps_left k
  less_end number e n h =
      let l : Line = line.EpochEnd number e n in
      let some : is_some k.turn.ended ≡ true = end_due s k number e n (due s k) refl h in
      less_by_end calls sent bare ended refused unpublished (begun_in k.jobs) (begun_in (jobs_behind l)) (none_over k.turn.stage (over_where_ended k.turn.ended some p.ended)) (ap one_if some) (keeps l refl)

  less_refusal : (f n : ℕ) → is_followed s k (line.Refused f n) ≡ true → steps_left (kept_after s (line.Refused f n) k) < steps_left k
  less_refusal f n h =
      let l : Line = line.Refused f n in
      let q = refusal_due s k f n (due s k) refl (and_parts (is_turn_of 0 k.turn) (is_refusal_told f n (due s k)) h).1 in
      less_by_refusal calls sent bare ended refused unpublished (begun_in k.jobs) (begun_in (jobs_behind l)) (none_sent s k q.1) (ap one_if q.0) (keeps l refl)

  less_begin : (a i : ℕ) → is_followed s k (line.Begin a i) ≡ true → steps_left (kept_after s (line.Begin a i) k) < steps_left k
  less_begin a i h =
      let l : Line = line.Begin a i in
      let q = begin_due s k i (due s k) refl (and_parts (is_turn_of a k.turn) (begins_as i (due s k)) h).1 in
      less_by_begin calls sent bare ended refused unpublished (begun_in k.jobs) (begun_in (jobs_behind l)) (none_sent s k q.1) (ap one_if q.0) (one_at_most (is_begun k.turn.actor (jobs_behind l)))

  less_publication : (number f e n : ℕ) (text : List ℕ) → is_followed s k (line.Published number f e n text) ≡ true → steps_left (kept_after s (line.Published number f e n text) k) < steps_left k
  less_publication number f e n text h =
      let l : Line = line.Published number f e n text in
      less_by_publication calls sent bare ended refused unpublished (begun_in k.jobs) (begun_in (jobs_behind l)) (ap one_if (publication_due s k number f e n text (due s k) refl h)) (keeps l refl)

  less_answer : (a i : ℕ) (given : Answer) → is_followed s k (line.Answered a i given) ≡ true → steps_left (kept_after s (line.Answered a i given) k) < steps_left k
  less_answer a i given h =
      let l : Line = line.Answered a i given in
      let q = and_parts (is_turn_of a k.turn) (is_begun_at i (begun_of a k.jobs) && is_given_or_refused given (due s k)) h in
      let some : is_some (begun_of a k.jobs) ≡ true = has_operation i (begun_of a k.jobs) (and_parts (is_begun_at i (begun_of a k.jobs)) (is_given_or_refused given (due s k)) q.1).0 in
      let turn : k.turn.actor ≡ Some a = of_turn k.turn.actor a q.0 in
      less_by_answer calls sent bare ended refused unpublished (begun_in k.jobs) (begun_in (jobs_behind l))
      (ap (λ (o : Option ℕ). one_if (is_begun o k.jobs)) turn ∙ ap one_if some)
      (ap (λ (o : Option ℕ). one_if (is_begun o (jobs_behind l))) turn ∙ ap one_if (begun_answer s k a i given))

  pub less : (l : Line) → is_followed s k l ≡ true → is_mark l ≡ false → steps_left (kept_after s l k) < steps_left k
  less (line.Turn a) h m = absurd (true≢false m)
  less (line.Begin a i) h m = less_begin a i h
  less (line.Exchange a c r) h m = less_exchange a c r h
  less (line.Failed a c d) h m = less_failed a c d h
  less (line.Reset a) h m = less_stopped (kept_after s (line.Reset a) k).turn.ended (jobs_behind (line.Reset a)) (resets a h) (keeps (line.Reset a) refl)
  less (line.ResetFailed a) h m = less_stopped (kept_after s (line.ResetFailed a) k).turn.ended (jobs_behind (line.ResetFailed a)) (resets a h) (keeps (line.ResetFailed a) refl)
  less (line.World a e) h m = less_world a e h
  less (line.Published number f e n text) h m = less_publication number f e n text h
  less (line.EpochEnd number e n) h m = less_end number e n h
  less (line.Refused f n) h m = less_refusal f n h
  less (line.Answered a i given) h m = less_answer a i given h

pub turns_end : (s : Script) (lines : List Line) (l : Line) → are_followed s (l ∷ lines) ≡ true → is_mark l ≡ false → nat_lt (steps_left (kept_of s (l ∷ lines))) (steps_left (kept_of s lines)) ≡ true
turns_end s lines l h m =
    let q = and_parts (are_followed s lines) (is_followed s (kept_of s lines) l) h in
    lt-ltb (steps_left (kept_of s (l ∷ lines))) (steps_left (kept_of s lines)) (less s (kept_of s lines) (shape s lines q.0) l q.1 m)
