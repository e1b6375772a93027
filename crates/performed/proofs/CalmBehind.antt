-- What is known of handles and turns behind every line, and how a state goes over to the next.
use Rattle.std.proofs.Common.{◌≡◌, inl, inr, ℕ, zero, suc, ◌&&◌, Bool, true, false, Option, Some, None, List, [], ◌∷◌, refl, ap, sym, ◌∙◌, subst, true≢false}
use Rattle.std.proofs.lemmas.Bool.{and_parts, eqb-true}
use Rattle.apdu.specs.Values.{CommandValue, ResponseValue}
use Rattle.apdu.specs.Words.{same_number}
use Rattle.script_reader.specs.declared.types.Script.{Script}
use Rattle.script_reader.specs.declared.types.Operation.{Operation}
use Rattle.script_reader.specs.declared.types.Operation.TheVariants as operation
use Rattle.report.specs.declared.answer.Answer.{Answer}
use Rattle.report.specs.declared.line.Line.{Line}
use Rattle.report.specs.declared.line.Line.TheVariants as line
use Rattle.channels.specs.Channels.{open_command, close_command, select_application}
use Rattle.link.specs.declared.chain.Chain.{Chain}
use Rattle.epoch_cache.specs.declared.past.Past.{Past}
use Rattle.rules.specs.declared.holdings.Handle.{Handle}
use Rattle.rules.specs.declared.kept.Begun.{Begun}
use Rattle.rules.specs.declared.kept.Facts.{Facts}
use Rattle.rules.specs.declared.kept.Job.{Job}
use Rattle.rules.specs.declared.kept.Kept.{Kept}
use Rattle.rules.specs.declared.kept.Stage.TheVariants.{Fresh as fresh, Next as next, Over as over}
use Rattle.rules.specs.declared.kept.Turn.{Turn}
use Rattle.rules.specs.Channels.{handle_of, is_living_handle}
use Rattle.rules.specs.Kept.{job_of, begun_of, begun_operation, operation_at, operation_now}
use Rattle.rules.specs.Due.{due, due_command, command_by_chain}
use Rattle.rules.specs.After.{fresh_begun, jobs_beside, jobs_of_actor, refused_of, decision_at, facts_of, kept_after, kept_of}
use Rattle.rules.specs.Rules.{is_turn_of, is_begun_at, operation_in_turn, turn_operation}
use Rattle.rules.specs.Performed.{is_sent, begins_as}
use Rattle.performed.specs.Followed.{is_followed, are_followed, is_given_or_refused}
use Rattle.performed.proofs.TurnsSays.{BeginsNow, begins_now}
use Rattle.performed.proofs.CalmOps.{keeps_begun, same_operation, begun_now, answered_now}
use Rattle.performed.proofs.CalmPhase.{IsStill, NotOpened, OpenPhase, open_rests, open_ready, open_selects, open_gives_up, open_done, open_failed, IsFree, ClosePhase, close_rests, close_ready, close_done}
use Rattle.performed.proofs.CalmExchange.{Right}
use Rattle.performed.proofs.CalmTurn.{held_in, due_fresh, due_next}
use Rattle.performed.proofs.CalmState.{StateOf}
use Rattle.performed.proofs.CalmKnown.{is_channel_op, Given, handles_known, Plain, Known, begun_calls, led_actor, led_bare, led_plain, goes_to_reset}

-- ---- the operation of the turn

actor_by : (o : Option ℕ) (a : ℕ) → same_number o (Some a) ≡ true → o ≡ Some a
actor_by None a h = absurd (true≢false (sym h))
actor_by (Some b) a h = ap (λ (n : ℕ). Some n) (eqb-true b a h)

pub actor_is : (k : Kept) (a : ℕ) → is_turn_of a k.turn ≡ true → k.turn.actor ≡ Some a
actor_is k a h = actor_by k.turn.actor a h

none_by : (s : Script) (o : Option Begun) → begun_operation s 0 o ≡ None
none_by s None = refl
none_by s (Some b) = refl

pub none_of_framework : (s : Script) (k : Kept) → operation_now s 0 k.jobs ≡ None
none_of_framework s k = none_by s (begun_of 0 k.jobs)

pub same_in : (s : Script) (k : Kept) (l : Line) → keeps_begun l ≡ true → (o : Option ℕ) → operation_in_turn s (kept_after s l k) o ≡ operation_in_turn s k o
same_in s k l h None = refl
same_in s k l h (Some a) = same_operation s k l a h

module _ (s : Script) (k : Kept) (g : Given s k) (known : Known s k) where
  abbrev Behind : Line → Kept
  Behind l = kept_after s l k

  -- before the line, where the turn's actor stays
  before : (l : Line) → keeps_begun l ≡ true → is_channel_op (operation_in_turn s (Behind l) k.turn.actor) ≡ true → Plain k.turn
  before l e h = known.plain (sym (ap is_channel_op (same_in s k l e k.turn.actor)) ∙ h)

  exchange_bare : (a : ℕ) (c : CommandValue) (r : ResponseValue) → (Behind (line.Exchange a c r)).turn.bare ≡ false
  exchange_bare a c r =
      let l : Line = line.Exchange a c r in
      let facts : Facts = facts_of s l k in
      let beside = jobs_beside l k.history.epoch facts k.selected k.jobs in
      let job : Job = job_of a (jobs_of_actor s l k facts (decision_at s l k).attempt (Some a) beside) in
      led_bare (operation_now s a k.jobs) job (held_in k) facts.touch.refresh (refused_of k.selected beside facts.answered) k.turn facts.answered

  pub exchange_actor : (a : ℕ) (c : CommandValue) (r : ResponseValue) → (Behind (line.Exchange a c r)).turn.actor ≡ k.turn.actor
  exchange_actor a c r =
      let l : Line = line.Exchange a c r in
      let facts : Facts = facts_of s l k in
      let beside = jobs_beside l k.history.epoch facts k.selected k.jobs in
      let job : Job = job_of a (jobs_of_actor s l k facts (decision_at s l k).attempt (Some a) beside) in
      led_actor (operation_now s a k.jobs) job (held_in k) facts.touch.refresh (refused_of k.selected beside facts.answered) k.turn facts.answered

  exchange_plain : (a : ℕ) (c : CommandValue) (r : ResponseValue) → k.turn.actor ≡ Some a → is_channel_op (turn_operation s (Behind (line.Exchange a c r))) ≡ true → Plain (Behind (line.Exchange a c r)).turn
  exchange_plain a c r actor h =
      let l : Line = line.Exchange a c r in
      let facts : Facts = facts_of s l k in
      let beside = jobs_beside l k.history.epoch facts k.selected k.jobs in
      let job : Job = job_of a (jobs_of_actor s l k facts (decision_at s l k).attempt (Some a) beside) in
      let here : is_channel_op (operation_in_turn s (Behind l) k.turn.actor) ≡ true = sym (ap (λ (o : Option ℕ). is_channel_op (operation_in_turn s (Behind l) o)) (exchange_actor a c r)) ∙ h in
      let op : is_channel_op (operation_now s a k.jobs) ≡ true = sym (ap is_channel_op (ap (operation_in_turn s (Behind l)) actor ∙ same_operation s k l a refl)) ∙ here in
      led_plain (operation_now s a k.jobs) job (held_in k) facts.touch.refresh (refused_of k.selected beside facts.answered) k.turn facts.answered op (before l refl here)

  bare_known : (l : Line) → (Behind l).turn.bare ≡ true → ((Behind l).turn.stage ≡ fresh) × ((Behind l).turn.outcome ≡ None)
  bare_known (line.Turn a) e = (refl, refl)
  bare_known (line.Exchange a c r) e = absurd (true≢false (sym e ∙ exchange_bare a c r))
  bare_known (line.Begin a i) e = absurd (true≢false (sym e))
  bare_known (line.Failed a c d) e = absurd (true≢false (sym e))
  bare_known (line.Reset a) e = absurd (true≢false (sym e))
  bare_known (line.ResetFailed a) e = absurd (true≢false (sym e))
  bare_known (line.World a x) e = absurd (true≢false (sym e))
  bare_known (line.Published n f x v text) e = absurd (true≢false (sym e))
  bare_known (line.EpochEnd n x v) e = absurd (true≢false (sym e))
  bare_known (line.Refused f n) e = absurd (true≢false (sym e))
  bare_known (line.Answered a i given) e = absurd (true≢false (sym e))

  begin_plain : (a i : ℕ) → is_turn_of a k.turn && begins_as i (due s k) ≡ true → is_channel_op (turn_operation s (Behind (line.Begin a i))) ≡ true → Plain (Behind (line.Begin a i)).turn
  begin_plain a i f h =
      let l : Line = line.Begin a i in
      let n : BeginsNow s k a i = begins_now s k a i f in
      let actor = actor_is k a (and_parts (is_turn_of a k.turn) (begins_as i (due s k)) f).0 in
      let here : is_channel_op (operation_now s a (Behind l).jobs) ≡ true = sym (ap (λ (o : Option ℕ). is_channel_op (operation_in_turn s (Behind l) o)) actor) ∙ h in
      elim (begun_now s k a i) [
        | inl e ↦ record {
          work = begun_calls k a (Some (fresh_begun i k.history)) (operation_at s a i) (sym (ap is_channel_op e) ∙ here);
          stage = ap goes_to_reset (known.bare n.begins.bare).0;
        }
        | inr e ↦ absurd (true≢false (sym here ∙ ap is_channel_op e))
      ]

  answered_plain : (a i : ℕ) (given : Answer) → is_turn_of a k.turn ≡ true → is_channel_op (turn_operation s (Behind (line.Answered a i given))) ≡ true → Plain (Behind (line.Answered a i given)).turn
  answered_plain a i given t h = absurd (true≢false (sym h ∙ ap is_channel_op (ap (operation_in_turn s (Behind (line.Answered a i given))) (actor_is k a t) ∙ answered_now s k a i given)))

  plain_known : (l : Line) → is_followed s k l ≡ true → is_channel_op (turn_operation s (Behind l)) ≡ true → Plain (Behind l).turn
  plain_known (line.Turn zero) f h = absurd (true≢false (sym h ∙ ap is_channel_op (none_of_framework s (Behind (line.Turn zero)))))
  plain_known (line.Turn (suc a)) f h = record {
    work = begun_calls k (suc a) (begun_of (suc a) k.jobs) (operation_now s (suc a) k.jobs) (sym (ap is_channel_op (same_operation s k (line.Turn (suc a)) (suc a) refl)) ∙ h);
    stage = refl;
  }
  plain_known (line.Begin a i) f h = begin_plain a i f h
  plain_known (line.Exchange a c r) f h = exchange_plain a c r (actor_is k a (and_parts (is_turn_of a k.turn) (is_sent (due s k) (line.Exchange a c r)) f).0) h
  plain_known (line.Failed a c d) f h = record { work = (before (line.Failed a c d) refl h).work; stage = refl }
  plain_known (line.Reset a) f h = record { work = (before (line.Reset a) refl h).work; stage = refl }
  plain_known (line.ResetFailed a) f h = record { work = (before (line.ResetFailed a) refl h).work; stage = refl }
  plain_known (line.World a e) f h = record { work = (before (line.World a e) refl h).work; stage = refl }
  plain_known (line.Published n x e v text) f h = record { work = (before (line.Published n x e v text) refl h).work; stage = refl }
  plain_known (line.EpochEnd n e v) f h = let p = before (line.EpochEnd n e v) refl h in record { work = p.work; stage = p.stage }
  plain_known (line.Refused x n) f h = let p = before (line.Refused x n) refl h in record { work = p.work; stage = p.stage }
  plain_known (line.Answered a i given) f h = answered_plain a i given (and_parts (is_turn_of a k.turn) (is_begun_at i (begun_of a k.jobs) && is_given_or_refused given (due s k)) f).0 h

  pub line_known : (l : Line) → is_followed s k l ≡ true → Known s (Behind l)
  line_known l f = record { handles = handles_known s k g known.handles l f; bare = bare_known l; plain = plain_known l f }

pub known_of : (s : Script) → ((lines : List Line) → are_followed s lines ≡ true → Given s (kept_of s lines)) → (lines : List Line) → are_followed s lines ≡ true → Known s (kept_of s lines)
known_of s g [] f = record { handles = record { refs = tt; since = tt }; bare = λ e. absurd (true≢false (sym e)); plain = λ h. absurd (true≢false (sym h)) }
known_of s g (l ∷ earlier) f =
    let p = and_parts (are_followed s earlier) (is_followed s (kept_of s earlier) l) f in
    line_known s (kept_of s earlier) (g earlier p.0) (known_of s g earlier p.0) l p.1

-- ---- a state goes over

module _ (t : Turn) (chain : Option Chain) (k : Kept) (ns : List ℕ) where
  pub plain_state : (o : Option ℕ) (op : Option Operation) → is_channel_op op ≡ false → Right ns (held_in k) → StateOf t chain k ns o op
  plain_state None op h right = right
  plain_state (Some a) None h right = right
  plain_state (Some a) (Some (operation.OpenChannel handle aid)) h right = absurd (true≢false h)
  plain_state (Some a) (Some (operation.Close handle)) h right = absurd (true≢false h)
  plain_state (Some a) (Some op) h right = right

  -- and back
  pub plain_right : (o : Option ℕ) (op : Option Operation) → is_channel_op op ≡ false → StateOf t chain k ns o op → Right ns (held_in k)
  plain_right None op h st = st
  plain_right (Some a) None h st = st
  plain_right (Some a) (Some (operation.OpenChannel handle aid)) h st = absurd (true≢false h)
  plain_right (Some a) (Some (operation.Close handle)) h st = absurd (true≢false h)
  plain_right (Some a) (Some op) h st = st

  module _ (u : Turn) (work : u.work ≡ t.work) (stage : u.stage ≡ t.stage) (opened : u.opened ≡ t.opened) (came : u.outcome ≡ t.outcome) where
    told_open : (aid more : List ℕ) → OpenPhase t chain aid more → OpenPhase u None aid more
    told_open aid more (open_rests m w st c n) = open_rests m (work ∙ w) (subst IsStill (sym stage) st) (came ∙ c) refl
    told_open aid more (open_ready m w st c n) = open_ready m (work ∙ w) (stage ∙ st) (came ∙ c) refl
    told_open aid more (open_selects x m w st o c n) = open_selects x m (work ∙ w) (stage ∙ st) (opened ∙ o) (came ∙ c) tt
    told_open aid more (open_gives_up x m w st c n) = open_gives_up x m (work ∙ w) (stage ∙ st) (subst NotOpened (sym came) c) refl
    told_open aid more (open_done x m w st c n) = open_done x m (work ∙ w) (stage ∙ st) (came ∙ c) refl
    told_open aid more (open_failed m w st c n) = open_failed m (work ∙ w) (stage ∙ st) (subst NotOpened (sym came) c) refl

    told_close : (history : Past) (found : Option Handle) (closed : Bool) → ClosePhase t chain history found closed → ClosePhase u None history found closed
    told_close history found closed (close_rests m f w st c n) = close_rests m f (work ∙ w) (subst IsStill (sym stage) st) (came ∙ c) refl
    told_close history found closed (close_ready h m f l w st c n) = close_ready h m f l (work ∙ w) (stage ∙ st) (came ∙ c) refl
    told_close history found closed (close_done h m f l w st c n) = close_done h m f l (work ∙ w) (stage ∙ st) (came ∙ c) refl

    -- behind a line that leaves the turn as far as it is
    pub told_state : (o : Option ℕ) (op : Option Operation) → StateOf t chain k ns o op → StateOf u None k ns o op
    told_state None op st = st
    told_state (Some a) None st = st
    told_state (Some a) (Some (operation.OpenChannel handle aid)) st = record { more = st.more; phase = told_open aid st.more st.phase; right = st.right }
    told_state (Some a) (Some (operation.Close handle)) st = record { closed = st.closed; phase = told_close k.history (handle_of a handle k.handles) st.closed st.phase; right = st.right }
    told_state (Some a) (Some op) st = st

-- behind a line that ends what the turn sends, where nothing is due to be sent
module _ (k : Kept) (ns : List ℕ) (unsent : due_command k ≡ None) (u : Turn) (work : u.work ≡ k.turn.work) (stage : u.stage ≡ over) (came : u.outcome ≡ k.turn.outcome) where
  none_sent : (d : CommandValue) → due_command k ≡ Some d → ⊥
  none_sent d e = absurd (let q : Some d ≡ None = sym e ∙ unsent in cc)

  none_next : (o : Option Chain) (d : CommandValue) → k.chain ≡ o → k.turn.stage ≡ next d → ⊥
  none_next None d e st = none_sent d (due_next k d e st)
  none_next (Some chain) d e st = none_sent chain.next (ap (command_by_chain k) e)

  over_open : (a : ℕ) (aid more : List ℕ) → k.turn.actor ≡ Some a → OpenPhase k.turn k.chain aid more → OpenPhase u None aid more
  over_open a aid more actor (open_rests m w st c n) = open_rests m (work ∙ w) (subst IsStill (sym stage) tt) (came ∙ c) refl
  over_open a aid more actor (open_ready m w st c n) = absurd (none_sent open_command (due_fresh k open_command a n st w actor))
  over_open a aid more actor (open_selects x m w st o c n) = absurd (none_next k.chain (select_application x aid) refl st)
  over_open a aid more actor (open_gives_up x m w st c n) = absurd (none_next k.chain (close_command x) refl st)
  over_open a aid more actor (open_done x m w st c n) = open_done x m (work ∙ w) stage (came ∙ c) refl
  over_open a aid more actor (open_failed m w st c n) = open_failed m (work ∙ w) stage (subst NotOpened (sym came) c) refl

  over_close : (a : ℕ) (found : Option Handle) (closed : Bool) → k.turn.actor ≡ Some a → ClosePhase k.turn k.chain k.history found closed → ClosePhase u None k.history found closed
  over_close a found closed actor (close_rests m f w st c n) = close_rests m f (work ∙ w) (subst IsStill (sym stage) tt) (came ∙ c) refl
  over_close a found closed actor (close_ready h m f l w st c n) = absurd (none_sent (close_command h.number) (due_fresh k (close_command h.number) a n st w actor))
  over_close a found closed actor (close_done h m f l w st c n) = close_done h m f l (work ∙ w) stage (came ∙ c) refl

  pub over_state : (o : Option ℕ) (op : Option Operation) → k.turn.actor ≡ o → StateOf k.turn k.chain k ns o op → StateOf u None k ns o op
  over_state None op e st = st
  over_state (Some a) None e st = st
  over_state (Some a) (Some (operation.OpenChannel handle aid)) e st = record { more = st.more; phase = over_open a aid st.more e st.phase; right = st.right }
  over_state (Some a) (Some (operation.Close handle)) e st = record { closed = st.closed; phase = over_close a (handle_of a handle k.handles) st.closed e st.phase; right = st.right }
  over_state (Some a) (Some op) e st = st

-- an exchange counts an event, which changes nothing of what lives
module _ (t : Turn) (chain : Option Chain) (before after : Past) (same : (h : Handle) → is_living_handle after h ≡ is_living_handle before h) where
  free_moved : (found : Option Handle) → IsFree before found → IsFree after found
  free_moved None h = tt
  free_moved (Some x) h = same x ∙ h

  pub close_moved : (found : Option Handle) (closed : Bool) → ClosePhase t chain before found closed → ClosePhase t chain after found closed
  close_moved found closed (close_rests m f w st c n) = close_rests m (free_moved found f) w st c n
  close_moved found closed (close_ready h m f l w st c n) = close_ready h m f (same h ∙ l) w st c n
  close_moved found closed (close_done h m f l w st c n) = close_done h m f (same h ∙ l) w st c n
