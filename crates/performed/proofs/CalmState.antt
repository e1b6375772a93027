-- The card's numbers where a turn or an operation begins, where a turn ends, and where an operation is answered.
use Rattle.std.proofs.Common.{◌≡◌, ℕ, ◌==◌, ◌&&◌, ◌||◌, Bool, true, false, if◌then◌else◌, Option, Some, None, List, [], ◌∷◌, ◌++◌, refl, ap, sym, ◌∙◌, subst, arith}
use Rattle.std.specs.Prelude.{option_map}
use Rattle.std.proofs.lemmas.Bool.{or_parts, eq-eqb}
use Rattle.apdu.specs.Values.{CommandValue}
use Rattle.apdu.specs.Words.{is_one_of}
use Rattle.card_effects.specs.Numbers.{AllApart}
use Rattle.script_reader.specs.declared.types.Script.{Script}
use Rattle.script_reader.specs.declared.types.Operation.{Operation}
use Rattle.script_reader.specs.declared.types.Operation.TheVariants as operation
use Rattle.report.specs.declared.answer.Answer.{Answer}
use Rattle.report.specs.declared.answer.Answer.TheVariants as answer
use Rattle.link.specs.declared.chain.Chain.{Chain}
use Rattle.channels.specs.Channels.{open_command, close_command, select_application}
use Rattle.rules.specs.declared.holdings.Handle.{Handle}
use Rattle.rules.specs.declared.kept.Begun.{Begun}
use Rattle.rules.specs.declared.kept.Kept.{Kept}
use Rattle.rules.specs.declared.kept.Outcome.{Outcome}
use Rattle.rules.specs.declared.kept.Outcome.TheVariants as outcome
use Rattle.rules.specs.declared.kept.Stage.{Stage}
use Rattle.rules.specs.declared.kept.Stage.TheVariants.{Fresh as fresh, Next as next, Resetting as resetting, Over as over}
use Rattle.rules.specs.declared.kept.Turn.{Turn}
use Rattle.rules.specs.declared.kept.Work.TheVariants.{Rests as rests, Sends as sends}
use Rattle.rules.specs.History.{lives_in}
use Rattle.rules.specs.Channels.{is_handle_of, handle_of, is_living_handle, held_numbers, without_handle, with_handle}
use Rattle.rules.specs.Kept.{job_of, begun_of, begun_operation, operation_now}
use Rattle.rules.specs.Work.{living_handle, sends_close, work_of_operation}
use Rattle.rules.specs.Due.{command_by_chain, due_command, with_card, with_ended, is_lost, on_handle, answer_of_outcome, outcome_answer, answer_of, answer_of_begun, answer_of_actor, due_answer}
use Rattle.performed.proofs.CalmHeld.{AreApart, none_left, held_added, dead_leaves}
use Rattle.performed.proofs.CalmMatch.{matches_last}
use Rattle.performed.proofs.CalmPhase.{IsStill, NotOpened, OpenPhase, open_rests, open_ready, open_selects, open_gives_up, open_done, open_failed, IsFree, ClosePhase, close_rests, close_ready, close_done}
use Rattle.performed.proofs.CalmExchange.{Right}
use Rattle.performed.proofs.CalmTurn.{held_in, wanted_by, OpenState, CloseState, due_fresh, due_next}

-- what holds of the card's numbers in a turn, by its operation
abbrev pub StateOf : Turn → Option Chain → Kept → List ℕ → Option ℕ → Option Operation → Type 0
StateOf t chain k ns None op = Right ns (held_in k)
StateOf t chain k ns (Some a) None = Right ns (held_in k)
StateOf t chain k ns (Some a) (Some (operation.OpenChannel handle aid)) = OpenState t chain ns (held_in k) aid
StateOf t chain k ns (Some a) (Some (operation.Close handle)) = CloseState t chain ns k a handle
StateOf t chain k ns (Some a) (Some op) = Right ns (held_in k)

-- ---- where a turn or an operation begins

module _ (k : Kept) (t : Turn) (ns : List ℕ) (right : Right ns (held_in k)) (stage : t.stage ≡ fresh) (came : t.outcome ≡ None) where
  still : (x : Stage) → x ≡ fresh → IsStill x
  still fresh h = tt
  still (next c) h = absurd (cc)
  still resetting h = absurd (cc)
  still over h = tt

  fresh_open : (lives : Bool) (aid : List ℕ) → t.work ≡ (if lives then sends open_command else rests) → OpenState t None ns (held_in k) aid
  fresh_open true aid work = record { more = []; phase = open_ready refl work stage came refl; right = right }
  fresh_open false aid work = record { more = []; phase = open_rests refl work (still t.stage stage) came refl; right = right }

  living_close : (a handle : ℕ) (h : Handle) (lives : Bool) → handle_of a handle k.handles ≡ Some h → is_living_handle k.history h ≡ lives → t.work ≡ sends_close (if lives then Some h else None) → CloseState t None ns k a handle
  living_close a handle h true found e work = record { closed = false; phase = close_ready h refl found e work stage came refl; right = right }
  living_close a handle h false found e work = record {
    closed = false;
    phase = close_rests refl (subst (λ (o : Option Handle). IsFree k.history o) (sym found) e) work (still t.stage stage) came refl;
    right = right;
  }

  fresh_close : (a handle : ℕ) (o : Option Handle) → handle_of a handle k.handles ≡ o → t.work ≡ sends_close (living_handle k o) → CloseState t None ns k a handle
  fresh_close a handle None found work = record {
    closed = false;
    phase = close_rests refl (subst (λ (o : Option Handle). IsFree k.history o) (sym found) tt) work (still t.stage stage) came refl;
    right = right;
  }
  fresh_close a handle (Some h) found work = living_close a handle h (is_living_handle k.history h) found refl work

  pub fresh_state : (a : ℕ) (b : Begun) (op : Operation) → t.work ≡ (work_of_operation k a b op).work → StateOf t None k ns (Some a) (Some op)
  fresh_state a b (operation.OpenChannel handle aid) work = fresh_open (lives_in k.history b.epoch) aid work
  fresh_state a b (operation.Close handle) work = fresh_close a handle (handle_of a handle k.handles) refl work
  fresh_state a b op work = right

-- ---- the answer that is due

record AnswersOp (s : Script) (k : Kept) (a : ℕ) (op : Operation) : Type 0 where
  pub begun : Begun
  pub here : begun_of a k.jobs ≡ Some begun
  pub is : due_answer s k ≡ answer_of k a (job_of a k.jobs) begun op

answers_by : (s : Script) (k : Kept) (a : ℕ) (op : Operation) (o : Option Begun) → begun_of a k.jobs ≡ o → begun_operation s a o ≡ Some op → k.turn.actor ≡ Some a → AnswersOp s k a op
answers_by s k a op None e h actor = absurd (cc)
answers_by s k a op (Some b) e h actor = record {
  begun = b;
  here = e;
  is = ap (answer_of_actor s k) actor ∙ ap (λ (o : Option Begun). answer_of_begun k a o (begun_operation s a o)) e ∙ ap (answer_of_begun k a (Some b)) h;
}

answers_op : (s : Script) (k : Kept) (a : ℕ) (op : Operation) → operation_now s a k.jobs ≡ Some op → k.turn.actor ≡ Some a → AnswersOp s k a op
answers_op s k a op h actor = answers_by s k a op (begun_of a k.jobs) refl h actor

-- in the turn that opened a channel its epoch has not ended
abbrev pub OpensAlive : Kept → Type 0
OpensAlive k = (a : ℕ) (b : Begun) → begun_of a k.jobs ≡ Some b → k.turn.actor ≡ Some a → k.turn.work ≡ sends open_command → k.history.living ≡ true → (other : Option Answer) → with_card b.epoch b other ≡ other

module _ (s : Script) (k : Kept) (a : ℕ) (actor : k.turn.actor ≡ Some a) (ns : List ℕ) (alive : OpensAlive k) (living : k.history.living ≡ true) (unsent : due_command k ≡ None) where
  sent_none : (d : CommandValue) → due_command k ≡ Some d → ⊥
  sent_none d e = absurd (let q : Some d ≡ None = sym e ∙ unsent in cc)

  selects_none : (o : Option Chain) (d : CommandValue) → k.chain ≡ o → k.turn.stage ≡ next d → ⊥
  selects_none None d e stage = sent_none d (due_next k d e stage)
  selects_none (Some chain) d e stage = sent_none chain.next (ap (command_by_chain k) e)

  module _ (handle : ℕ) (aid : List ℕ) (op : operation_now s a k.jobs ≡ Some (operation.OpenChannel handle aid)) where
    opened_due : (n : ℕ) → k.turn.work ≡ sends open_command → k.turn.outcome ≡ Some (outcome.Opened n) → due_answer s k ≡ Some (answer.Opened n)
    opened_due n work came =
        let d : AnswersOp s k a (operation.OpenChannel handle aid) = answers_op s k a (operation.OpenChannel handle aid) op actor in
        d.is ∙ alive a d.begun d.here actor work living (outcome_answer k.turn) ∙ ap (λ (o : Option Outcome). option_map answer_of_outcome o) came

    -- nothing is open that is not held, unless the answer is due that tells it
    pub open_settled : ((n : ℕ) → due_answer s k ≡ Some (answer.Opened n) → ⊥) → OpenState k.turn k.chain ns (held_in k) aid → Right ns (held_in k)
    open_settled unlike st = by_phase st.phase
      where
        none : st.more ≡ [] → Right ns (held_in k)
        none e = subst (λ (xs : List ℕ). Right ns (xs ++ held_in k)) e st.right

        by_phase : OpenPhase k.turn k.chain aid st.more → Right ns (held_in k)
        by_phase (open_rests m work still came chain) = none m
        by_phase (open_ready m work stage came chain) = none m
        by_phase (open_selects n m work stage opened came chain) = absurd (selects_none k.chain (select_application n aid) refl stage)
        by_phase (open_gives_up n m work stage came chain) = absurd (selects_none k.chain (close_command n) refl stage)
        by_phase (open_done n m work stage came chain) = absurd (unlike n (opened_due n work came))
        by_phase (open_failed m work stage came chain) = none m

    card_opened : (epoch : Option ℕ) (b : Begun) (other : Option Answer) (n : ℕ) → with_card epoch b other ≡ Some (answer.Opened n) → other ≡ Some (answer.Opened n)
    card_opened None b other n e = absurd (cc)
    card_opened (Some epoch) b other n e = by_ended b.ended (is_lost b.ended b.editing.lost) e
      where
        by_ended : (o : Option ℕ) (lost : Bool) → with_ended epoch o lost other ≡ Some (answer.Opened n) → other ≡ Some (answer.Opened n)
        by_ended None lost q = q
        by_ended (Some m) lost q = absurd (cc)

    came_opened : (o : Option Outcome) (n : ℕ) → option_map answer_of_outcome o ≡ Some (answer.Opened n) → o ≡ Some (outcome.Opened n)
    came_opened None n e = absurd (cc)
    came_opened (Some (outcome.Opened m)) n e = let same : m ≡ n = cc in ap (λ (x : ℕ). Some (outcome.Opened x)) same
    came_opened (Some (outcome.Status sw m)) n e = absurd (cc)
    came_opened (Some (outcome.Loop m)) n e = absurd (cc)
    came_opened (Some (outcome.BadFcp m)) n e = absurd (cc)
    came_opened (Some (outcome.Exhausted m)) n e = absurd (cc)
    came_opened (Some (outcome.Raw r)) n e = absurd (cc)
    came_opened (Some outcome.Closed) n e = absurd (cc)
    came_opened (Some outcome.Verified) n e = absurd (cc)
    came_opened (Some outcome.Polled) n e = absurd (cc)

    -- where it is due, that number is open
    pub open_told : (n : ℕ) → due_answer s k ≡ Some (answer.Opened n) → OpenState k.turn k.chain ns (held_in k) aid → Right ns (n ∷ held_in k)
    open_told n e st = by_phase st.phase
      where
        came_is : k.turn.outcome ≡ Some (outcome.Opened n)
        came_is = let d : AnswersOp s k a (operation.OpenChannel handle aid) = answers_op s k a (operation.OpenChannel handle aid) op actor in
            came_opened k.turn.outcome n (card_opened d.begun.epoch d.begun (outcome_answer k.turn) n (sym d.is ∙ e))

        other : k.turn.outcome ≡ None → ⊥
        other q = absurd (let x : Some (outcome.Opened n) ≡ None = sym came_is ∙ q in cc)

        unlike : NotOpened k.turn.outcome → ⊥
        unlike q = subst NotOpened came_is q

        by_phase : OpenPhase k.turn k.chain aid st.more → Right ns (n ∷ held_in k)
        by_phase (open_rests m work still came chain) = absurd (other came)
        by_phase (open_ready m work stage came chain) = absurd (other came)
        by_phase (open_selects x m work stage opened came chain) = absurd (other came)
        by_phase (open_gives_up x m work stage came chain) = absurd (unlike came)
        by_phase (open_done x m work stage came chain) = let q : Some (outcome.Opened x) ≡ Some (outcome.Opened n) = sym came ∙ came_is in let same : x ≡ n = cc in
            subst (λ (xs : List ℕ). Right ns (xs ++ held_in k)) (m ∙ ap (λ (y : ℕ). y ∷ []) same) st.right
        by_phase (open_failed m work stage came chain) = absurd (unlike came)

  module _ (handle : ℕ) where
    -- a close that is answered leaves those without its handle
    pub close_told : AreApart k.handles → CloseState k.turn k.chain ns k a handle → Right ns (held_numbers k.history (without_handle a handle k.handles))
    close_told refs st = by_phase st.phase
      where
        for : (b : Bool) → st.closed ≡ b → Right ns (wanted_by b k a handle)
        for b e = subst (λ (x : Bool). Right ns (wanted_by x k a handle)) e st.right

        free : (o : Option Handle) → handle_of a handle k.handles ≡ o → IsFree k.history o → held_numbers k.history (without_handle a handle k.handles) ≡ held_in k
        free None e h = ap (held_numbers k.history) (none_left (is_handle_of a handle) k.handles e)
        free (Some x) e h = dead_leaves k.history a handle k.handles x refs e h

        by_phase : ClosePhase k.turn k.chain k.history (handle_of a handle k.handles) st.closed → Right ns (held_numbers k.history (without_handle a handle k.handles))
        by_phase (close_rests m f work still came chain) = subst (λ (xs : List ℕ). Right ns xs) (sym (free (handle_of a handle k.handles) refl f)) (for false m)
        by_phase (close_ready h m found lives work stage came chain) = absurd (sent_none (close_command h.number) (due_fresh k (close_command h.number) a chain stage work actor))
        by_phase (close_done h m found lives work stage came chain) = for true m

    close_answered : (o : Option Handle) (other : Option Answer) (x : Answer) → other ≡ Some x → on_handle handle o other ≡ None → ⊥
    close_answered None other x e h = absurd (cc)
    close_answered (Some q) other x e h = by_ended q.ended h
      where
        by_ended : (o : Option ℕ) → with_ended q.epoch o false other ≡ None → ⊥
        by_ended None z = absurd (let y : Some x ≡ None = sym e ∙ z in cc)
        by_ended (Some n) z = absurd (cc)

    -- where no answer is due, the card has closed nothing that is held
    pub close_settled : operation_now s a k.jobs ≡ Some (operation.Close handle) → due_answer s k ≡ None → CloseState k.turn k.chain ns k a handle → Right ns (held_in k)
    close_settled op none st = by_phase st.phase
      where
        for : st.closed ≡ false → Right ns (held_in k)
        for e = subst (λ (x : Bool). Right ns (wanted_by x k a handle)) e st.right

        by_phase : ClosePhase k.turn k.chain k.history (handle_of a handle k.handles) st.closed → Right ns (held_in k)
        by_phase (close_rests m f work still came chain) = for m
        by_phase (close_ready h m found lives work stage came chain) = for m
        by_phase (close_done h m found lives work stage came chain) =
            let d : AnswersOp s k a (operation.Close handle) = answers_op s k a (operation.Close handle) op actor in
            absurd (close_answered (handle_of a handle k.handles) (outcome_answer k.turn) answer.Closed (ap (λ (o : Option Outcome). option_map answer_of_outcome o) came) (sym d.is ∙ none))

-- the number that an answer tells is held
module _ (k : Kept) (ns : List ℕ) (a handle n : ℕ) where
  apart_last : (n : ℕ) (xs : List ℕ) → is_one_of n xs ≡ false → AllApart xs → AllApart (xs ++ n ∷ [])
  apart_last n [] e h = (refl, tt)
  apart_last n (x ∷ xs) e h =
      let q = or_parts (x == n) (is_one_of n xs) e in
      (out_last x n xs (unlike x n q.0) h.0, apart_last n xs q.1 h.1)
    where
      unlike : (x n : ℕ) → (x == n) ≡ false → (n == x) ≡ false
      unlike x n e = grind arith

      out_last : (x n : ℕ) (xs : List ℕ) → (n == x) ≡ false → is_one_of x xs ≡ false → is_one_of x (xs ++ n ∷ []) ≡ false
      out_last x n [] e h = ap (λ (b : Bool). b || false) e
      out_last x n (y ∷ xs) e h = let q = or_parts (y == x) (is_one_of x xs) h in ap (λ (b : Bool). b || is_one_of x (xs ++ n ∷ [])) q.0 ∙ out_last x n xs e q.1

  zero_last : (n : ℕ) (xs : List ℕ) → is_one_of 0 (n ∷ xs) ≡ false → is_one_of 0 (xs ++ n ∷ []) ≡ false
  zero_last n [] e = e
  zero_last n (x ∷ xs) e =
      let q = or_parts (n == 0) ((x == 0) || is_one_of 0 xs) e in
      let p = or_parts (x == 0) (is_one_of 0 xs) q.1 in
      ap (λ (b : Bool). b || is_one_of 0 (xs ++ n ∷ [])) p.0 ∙ zero_last n xs (ap (λ (b : Bool). b || is_one_of 0 xs) q.0 ∙ p.1)

  pub last_right : (xs : List ℕ) → Right ns (n ∷ xs) → Right ns (xs ++ n ∷ [])
  last_right xs right = record {
    matches = matches_last ns xs n right.matches;
    apart = right.apart;
    each = apart_last n xs right.each.0 right.each.1;
    beside = zero_last n xs right.beside;
  }

  abbrev given : Handle
  given = record { actor = a; handle = handle; number = n; epoch = k.history.epoch; ended = None }

  pub opened_right : k.history.living ≡ true → handle_of a handle k.handles ≡ None → Right ns (n ∷ held_in k) → Right ns (held_numbers k.history (with_handle given k.handles))
  opened_right living free right =
      let lives : is_living_handle k.history given ≡ true = ap (λ (b : Bool). b && (k.history.epoch == k.history.epoch)) living ∙ eq-eqb k.history.epoch k.history.epoch refl in
      let same : held_numbers k.history (with_handle given k.handles) ≡ held_in k ++ n ∷ [] =
      ap (λ (hs : List Handle). held_numbers k.history (hs ++ given ∷ [])) (none_left (is_handle_of a handle) k.handles free) ∙ held_added k.history k.handles given lives in
      subst (λ (xs : List ℕ). Right ns xs) (sym same) (last_right (held_in k) right)
