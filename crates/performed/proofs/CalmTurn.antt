-- An exchange in the turn of an open or a close: the card's numbers stay right.
use Rattle.std.proofs.Common.{◌≡◌, ℕ, ◌+◌, ◌-◌, ◌%◌, ◌==◌, ◌&&◌, ◌||◌, not, Bool, true, false, if◌then◌else◌, Option, Some, None, List, [], ◌∷◌, ◌++◌, refl, ap, sym, ◌∙◌, subst, arith, true≢false}
use Rattle.std.specs.Prelude.{nat_lt}
use Rattle.std.proofs.lemmas.Bool.{eq-eqb}
use Rattle.apdu.specs.Values.{CommandValue, ResponseValue}
use Rattle.apdu.specs.Words.{is_one_of, has_value, or_else}
use Rattle.apdu.specs.Apdu.{same_command, select_ins, manage_channel_ins, verify_ins, is_success, has_more, wants_more, le_of_byte, with_le}
use Rattle.card_model.specs.declared.world.Change.{Change}
use Rattle.card_model.specs.declared.world.CardState.{CardState}
use Rattle.card_model.specs.Step.{on_card}
use Rattle.card_effects.specs.Numbers.{numbers}
use Rattle.card_effects.proofs.Table.{no_more_by, no_other_by}
use Rattle.script_reader.specs.declared.types.Operation.{Operation}
use Rattle.script_reader.specs.declared.types.Operation.TheVariants as operation
use Rattle.link.specs.declared.chain.Chain.{Chain}
use Rattle.link.specs.declared.chain.Final.{Final}
use Rattle.link.specs.Commands.{asks_more, chain_count, chain_first, first_of, follow_up, get_response_for, most_exchanges}
use Rattle.channels.specs.Channels.{open_command, close_command, select_application, is_opening}
use Rattle.loader.specs.declared.reading.RefusedReading.{RefusedReading}
use Rattle.rules.specs.declared.holdings.Handle.{Handle}
use Rattle.rules.specs.declared.kept.Facts.{Facts}
use Rattle.rules.specs.declared.kept.Job.{Job}
use Rattle.rules.specs.declared.kept.Kept.{Kept}
use Rattle.rules.specs.declared.kept.Outcome.{Outcome}
use Rattle.rules.specs.declared.kept.Outcome.TheVariants as outcome
use Rattle.rules.specs.declared.kept.Stage.{Stage}
use Rattle.rules.specs.declared.kept.Stage.TheVariants.{Fresh as fresh, Next as next, Resetting as resetting, Over as over}
use Rattle.rules.specs.declared.kept.Turn.{Turn}
use Rattle.rules.specs.declared.kept.Work.{Work}
use Rattle.rules.specs.declared.kept.Work.TheVariants.{Rests as rests, Sends as sends}
use Rattle.rules.specs.Channels.{is_handle_of, handle_of, is_living_handle, held_numbers, without_handle}
use Rattle.rules.specs.After.{opened_behind, turn_answered, stage_after, success_or_refusal, refused_outcome}
use Rattle.rules.specs.Due.{first_of_turn, command_by_stage, command_by_chain, due_command}
use Rattle.performed.proofs.CalmHeld.{AreApart, held_apart, fewer_held, living_in, number_leaves}
use Rattle.performed.proofs.CalmPhase.{IsStill, NotOpened, SelectChain, OpenPhase, open_rests, open_ready, open_selects, open_gives_up, open_done, open_failed, ClosePhase, close_rests, close_ready, close_done, list_of, same_command_is, number_led, select_led, close_led}
use Rattle.performed.proofs.CalmExchange.{Right, others_keep, OpenedOn, opened_on, ClosedOn, closed_on, right_dropped}

abbrev pub held_in : Kept → List ℕ
held_in k = held_numbers k.history k.handles

-- what is wanted in the turn of a close
abbrev pub wanted_by : Bool → Kept → ℕ → ℕ → List ℕ
wanted_by closed k a handle = if closed then held_numbers k.history (without_handle a handle k.handles) else held_in k

pub record OpenState (turn : Turn) (chain : Option Chain) (ns held : List ℕ) (aid : List ℕ) : Type 0 where
  pub more : List ℕ
  pub phase : OpenPhase turn chain aid more
  pub right : Right ns (more ++ held)

pub record CloseState (turn : Turn) (chain : Option Chain) (ns : List ℕ) (k : Kept) (a handle : ℕ) : Type 0 where
  pub closed : Bool
  pub phase : ClosePhase turn chain k.history (handle_of a handle k.handles) closed
  pub right : Right ns (wanted_by closed k a handle)

-- ---- the command that is due

module _ (k : Kept) where
  pub due_fresh : (d : CommandValue) (a : ℕ) → k.chain ≡ None → k.turn.stage ≡ fresh → k.turn.work ≡ sends d → k.turn.actor ≡ Some a → due_command k ≡ Some d
  due_fresh d a chain stage work actor =
      ap (command_by_chain k) chain ∙ ap (command_by_stage k) stage
      ∙ ap (λ (w : Work). first_of_turn k.selected k.jobs w k.turn.actor) work ∙ ap (first_of_turn k.selected k.jobs (sends d)) actor

  pub due_next : (d : CommandValue) → k.chain ≡ None → k.turn.stage ≡ next d → due_command k ≡ Some d
  due_next d chain stage = ap (command_by_chain k) chain ∙ ap (command_by_stage k) stage

  due_over : k.chain ≡ None → k.turn.stage ≡ over → due_command k ≡ None
  due_over chain stage = ap (command_by_chain k) chain ∙ ap (command_by_stage k) stage

  none_by : (actor : Option ℕ) → first_of_turn k.selected k.jobs rests actor ≡ None
  none_by None = refl
  none_by (Some a) = refl

  still_none : (stage : Stage) → IsStill stage → k.turn.work ≡ rests → command_by_stage k stage ≡ None
  still_none fresh h work = ap (λ (w : Work). first_of_turn k.selected k.jobs w k.turn.actor) work ∙ none_by k.turn.actor
  still_none (next c) h work = absurd h
  still_none resetting h work = absurd h
  still_none over h work = refl

  due_rests : k.chain ≡ None → IsStill k.turn.stage → k.turn.work ≡ rests → due_command k ≡ None
  due_rests chain still work = ap (command_by_chain k) chain ∙ still_none k.turn.stage still work

  nothing_due : (c : CommandValue) → due_command k ≡ None → has_value (same_command c) (due_command k) ≡ true → ⊥
  nothing_due c e h = true≢false (sym h ∙ ap (has_value (same_command c)) e)

  command_is : (c d : CommandValue) → due_command k ≡ Some d → has_value (same_command c) (due_command k) ≡ true → c ≡ d
  command_is c d e h = same_command_is c d (sym (ap (has_value (same_command c)) e) ∙ h)

pub final_success : (sw : ℕ) → is_success sw ≡ true → wants_more sw ≡ false
final_success sw h = rw (no_more_by sw h, no_other_by sw h) refl

-- ---- an exchange

module _ (k : Kept) (a : ℕ) (c : CommandValue) (r : ResponseValue) (job : Job) (facts : Facts) (refused : Option RefusedReading) where
  abbrev pub final_of_it : Final
  final_of_it = record { actor = a; command = chain_first c k.chain; response = r; event = k.history.events + 1; first_event = k.history.events + 1 - chain_count c k.chain }

  abbrev pub asks : Bool
  asks = asks_more (chain_count c k.chain + 1) c r

  abbrev pub led_turn : Option Operation → Bool → Turn
  led_turn op b = elim (if b then None else Some final_of_it) [
    | None ↦ record k.turn { bare = false }
    | Some f ↦ turn_answered op job (opened_behind (held_in k) f k.turn.opened) facts.touch.refresh refused f k.turn
  ]

  abbrev pub led_chain : Bool → Option Chain
  led_chain b = if b then Some (record { first = chain_first c k.chain; count = chain_count c k.chain + 1; next = follow_up c r }) else None

  asks_by : wants_more r.sw ≡ false → asks ≡ false
  asks_by h = ap (λ (b : Bool). b && nat_lt (chain_count c k.chain + 1) most_exchanges && not (c.ins == verify_ins)) h

  first_is : k.chain ≡ None → chain_first c k.chain ≡ c
  first_is h = ap (chain_first c) h

  -- the SELECT of an open
  pub record IsSelecting : Type 0 where
    pub first : (chain_first c k.chain).ins ≡ select_ins
    pub other : (c.ins == manage_channel_ins) ≡ false

  selecting_first : (n : ℕ) (aid : List ℕ) → k.chain ≡ None → c ≡ select_application n aid → IsSelecting
  selecting_first n aid chain is = record { first = ap (λ (x : CommandValue). x.ins) (first_is chain ∙ is); other = ap (λ (x : CommandValue). x.ins == manage_channel_ins) is }

  going_on : (b : Bool) (chain : Chain) → b ≡ true → first_of (if b then Some chain else None) c ≡ chain.first
  going_on true chain h = refl
  going_on false chain h = absurd (true≢false (sym h))

  selecting_on : (chain : Chain) → k.chain ≡ Some chain → chain.first.ins ≡ select_ins → (chain.next.ins == manage_channel_ins) ≡ false → same_command c chain.next ≡ true → IsSelecting
  selecting_on chain e first other same = record {
    first = ap (λ (o : Option Chain). (chain_first c o).ins) e ∙ ap (λ (x : CommandValue). x.ins) (going_on (same_command c chain.next) chain same) ∙ first;
    other = ap (λ (x : CommandValue). x.ins == manage_channel_ins) (same_command_is c chain.next same) ∙ other;
  }

  selecting : (n : ℕ) (aid : List ℕ) (o : Option Chain) → k.chain ≡ o → SelectChain o → k.turn.stage ≡ next (select_application n aid) → has_value (same_command c) (due_command k) ≡ true → IsSelecting
  selecting n aid None e t stage due = selecting_first n aid e (command_is k c (select_application n aid) (due_next k (select_application n aid) e stage) due)
  selecting n aid (Some chain) e t stage due = selecting_on chain e t.0 t.1 (sym (ap (λ (o : Option Chain). has_value (same_command c) (command_by_chain k o)) e) ∙ due)

  follow_other : (b : Bool) → (c.ins == manage_channel_ins) ≡ false → ((if b then get_response_for c (le_of_byte (r.sw % 256)) else with_le (le_of_byte (r.sw % 256)) c).ins == manage_channel_ins) ≡ false
  follow_other true h = refl
  follow_other false h = h

  module _ (changes : List Change) (card : CardState) (actor : k.turn.actor ≡ Some a) (due : has_value (same_command c) (due_command k) ≡ true) (response : r ≡ (on_card changes card c).1) where
    abbrev after : List ℕ
    after = numbers (on_card changes card c).0

    module _ (handle : ℕ) (aid : List ℕ) where
      abbrev opening : Option Operation
      opening = Some (operation.OpenChannel handle aid)

      abbrev Opens : Bool → Type 0
      Opens b = OpenState (led_turn opening b) (led_chain b) after (held_in k) aid

      ready_goes : k.turn.work ≡ sends open_command → k.turn.stage ≡ fresh → k.turn.outcome ≡ None → k.chain ≡ None → Right (numbers card) (held_in k) → Opens asks
      ready_goes work stage came chain right =
          let is : c ≡ open_command = command_is k c open_command (due_fresh k open_command a chain stage work actor) due in
          let o : OpenedOn changes card (held_in k) = opened_on changes card (held_in k) right in
          let same : r ≡ (on_card changes card open_command).1 = response ∙ ap (λ (x : CommandValue). (on_card changes card x).1) is in
          let first : is_opening (chain_first c k.chain) ≡ true = ap is_opening (first_is chain ∙ is) in
          subst (λ (b : Bool). Opens b) (sym (asks_by (ap (λ (x : ResponseValue). wants_more x.sw) same ∙ o.final)))
          (record {
            more = list_of o.number;
            phase = number_led handle aid job (held_in k) facts.touch.refresh refused final_of_it k.turn work o.number first (o.is final_of_it same) came;
            right = subst (λ (x : CommandValue). Right (numbers (on_card changes card x).0) (list_of o.number ++ held_in k)) (sym is) o.right;
          })

      selecting_goes : (n : ℕ) → k.turn.work ≡ sends open_command → k.turn.stage ≡ next (select_application n aid) → k.turn.opened ≡ Some n → k.turn.outcome ≡ None → IsSelecting → Right (numbers card) (n ∷ held_in k) → Opens asks
      selecting_goes n work stage opened came t right = by_more asks
        where
          still : Right after (n ∷ held_in k)
          still = subst (λ (ns : List ℕ). Right ns (n ∷ held_in k)) (sym (others_keep changes card c t.other)) right

          by_more : (b : Bool) → Opens b
          by_more true = record {
            more = n ∷ [];
            phase = open_selects n refl work stage opened came (t.first, follow_other (has_more r.sw) t.other);
            right = still;
          }
          by_more false = record {
            more = n ∷ [];
            phase = select_led handle aid job (held_in k) facts.touch.refresh refused final_of_it k.turn work n t.first opened came;
            right = still;
          }

      giving_up_goes : (n : ℕ) → k.turn.work ≡ sends open_command → k.turn.stage ≡ next (close_command n) → NotOpened k.turn.outcome → k.chain ≡ None → Right (numbers card) (n ∷ held_in k) → Opens asks
      giving_up_goes n work stage came chain right =
          let is : c ≡ close_command n = command_is k c (close_command n) (due_next k (close_command n) chain stage) due in
          let in_it : is_one_of n (n ∷ held_in k) ≡ true = ap (λ (b : Bool). b || is_one_of n (held_in k)) (eq-eqb n n refl) in
          let closed : ClosedOn changes card n = closed_on changes card (n ∷ held_in k) n right in_it in
          let same : r ≡ (on_card changes card (close_command n)).1 = response ∙ ap (λ (x : CommandValue). (on_card changes card x).1) is in
          let ends : wants_more r.sw ≡ false = ap (λ (x : ResponseValue). wants_more x.sw) same ∙ final_success (on_card changes card (close_command n)).1.sw closed.success in
          subst (λ (b : Bool). Opens b) (sym (asks_by ends))
          (record {
            more = [];
            phase = close_led handle aid job (held_in k) facts.touch.refresh refused final_of_it k.turn work n (first_is chain ∙ is) came;
            right = subst (λ (x : CommandValue). Right (numbers (on_card changes card x).0) (held_in k)) (sym is)
                (right_dropped changes card (n ∷ held_in k) n right in_it (held_in k) right.each.1 (zero_out (n == 0) right.beside) right.each.0 (λ m e. sym (ap (λ (b : Bool). b || is_one_of m (held_in k)) e)));
          })
        where
          zero_out : (b : Bool) → (b || is_one_of 0 (held_in k)) ≡ false → is_one_of 0 (held_in k) ≡ false
          zero_out true h = absurd (true≢false h)
          zero_out false h = h

      -- an open
      pub open_goes : OpenState k.turn k.chain (numbers card) (held_in k) aid → Opens asks
      open_goes st = by_phase st.phase
        where
          for : (more : List ℕ) → st.more ≡ more → Right (numbers card) (more ++ held_in k)
          for more e = subst (λ (xs : List ℕ). Right (numbers card) (xs ++ held_in k)) e st.right

          by_phase : OpenPhase k.turn k.chain aid st.more → Opens asks
          by_phase (open_rests m work still came chain) = absurd (nothing_due k c (due_rests k chain still work) due)
          by_phase (open_ready m work stage came chain) = ready_goes work stage came chain (for [] m)
          by_phase (open_selects n m work stage opened came chain) = selecting_goes n work stage opened came (selecting n aid k.chain refl chain stage due) (for (n ∷ []) m)
          by_phase (open_gives_up n m work stage came chain) = giving_up_goes n work stage came chain (for (n ∷ []) m)
          by_phase (open_done n m work stage came chain) = absurd (nothing_due k c (due_over k chain stage) due)
          by_phase (open_failed m work stage came chain) = absurd (nothing_due k c (due_over k chain stage) due)

    module _ (handle : ℕ) (refs : AreApart k.handles) where
      abbrev closing : Option Operation
      closing = Some (operation.Close handle)

      abbrev Closes : Bool → Type 0
      Closes b = CloseState (led_turn closing b) (led_chain b) after k a handle

      close_ready_goes : (h : Handle) → handle_of a handle k.handles ≡ Some h → is_living_handle k.history h ≡ true → k.turn.work ≡ sends (close_command h.number) → k.turn.stage ≡ fresh → k.turn.outcome ≡ None → k.chain ≡ None → Right (numbers card) (held_in k) → Closes asks
      close_ready_goes h found lives work stage came chain right =
          let d : CommandValue = close_command h.number in
          let is : c ≡ d = command_is k c d (due_fresh k d a chain stage work actor) due in
          let in_it : is_one_of h.number (held_in k) ≡ true = living_in k.history a handle k.handles h found lives in
          let closed : ClosedOn changes card h.number = closed_on changes card (held_in k) h.number right in_it in
          let same : r ≡ (on_card changes card d).1 = response ∙ ap (λ (x : CommandValue). (on_card changes card x).1) is in
          let good : is_success r.sw ≡ true = ap (λ (x : ResponseValue). is_success x.sw) same ∙ closed.success in
          let leaves = λ (n : ℕ). number_leaves k.history a handle k.handles h n refs right.each found lives in
          subst (λ (b : Bool). Closes b) (sym (asks_by (final_success r.sw good)))
          (record {
            closed = true;
            phase = close_done h refl found lives work
                (ap (λ (w : Work). stage_after w closing (opened_behind (held_in k) final_of_it k.turn.opened) job facts.touch.refresh final_of_it) work)
                (ap (λ (o : Option Outcome). or_else o (success_or_refusal outcome.Closed final_of_it)) came ∙ succeeded good)
                refl;
            right = subst (λ (x : CommandValue). Right (numbers (on_card changes card x).0) (held_numbers k.history (without_handle a handle k.handles))) (sym is)
                (right_dropped changes card (held_in k) h.number right in_it (held_numbers k.history (without_handle a handle k.handles))
                (held_apart k.history (λ x. not (is_handle_of a handle x)) k.handles right.each)
                (fewer_held k.history (λ x. not (is_handle_of a handle x)) 0 k.handles right.beside)
                (leaves h.number ∙ gone (is_one_of h.number (held_in k)) (h.number == h.number) (eq-eqb h.number h.number refl))
                (λ m e. leaves m ∙ stays (is_one_of m (held_in k)) (m == h.number) (unlike m h.number e)));
          })
        where
          succeeded : is_success r.sw ≡ true → success_or_refusal outcome.Closed final_of_it ≡ Some outcome.Closed
          succeeded e = ap (λ (x : Bool). if x then Some outcome.Closed else refused_outcome final_of_it) e

          gone : (x b : Bool) → b ≡ true → (x && not b) ≡ false
          gone true b e = ap not e
          gone false b e = refl

          stays : (x b : Bool) → b ≡ false → (x && not b) ≡ x
          stays true b e = ap not e
          stays false b e = refl

          unlike : (m n : ℕ) → (n == m) ≡ false → (m == n) ≡ false
          unlike m n e = grind arith

      -- a close
      pub close_goes : CloseState k.turn k.chain (numbers card) k a handle → Closes asks
      close_goes st = by_phase st.phase
        where
          for : st.closed ≡ false → Right (numbers card) (held_in k)
          for e = subst (λ (b : Bool). Right (numbers card) (wanted_by b k a handle)) e st.right

          by_phase : ClosePhase k.turn k.chain k.history (handle_of a handle k.handles) st.closed → Closes asks
          by_phase (close_rests m free work still came chain) = absurd (nothing_due k c (due_rests k chain still work) due)
          by_phase (close_ready h m found lives work stage came chain) = close_ready_goes h found lives work stage came chain (for m)
          by_phase (close_done h m found lives work stage came chain) = absurd (nothing_due k c (due_over k chain stage) due)
