-- How far an open and a close have come in their turn, and what an exchange of each does.
use Rattle.std.proofs.Common.{◌≡◌, ℕ, ◌==◌, ◌&&◌, not, Bool, true, false, if◌then◌else◌, Option, Some, None, List, [], ◌∷◌, refl, ap, sym, ◌∙◌, subst, true≢false}
use Rattle.std.specs.Prelude.{option_map}
use Rattle.std.proofs.lemmas.Bool.{and_parts, eqb-true}
use Rattle.apdu.specs.Values.{CommandValue, ResponseValue}
use Rattle.apdu.specs.Words.{same_bytes, same_number, or_else}
use Rattle.apdu.specs.Apdu.{same_command, same_response, select_ins, manage_channel_ins, is_success, wants_more}
use Rattle.refresh_cmd.specs.Values.{ProactiveValue}
use Rattle.card_effects.proofs.Same.{same_bytes_is}
use Rattle.script_reader.specs.declared.types.Operation.{Operation}
use Rattle.script_reader.specs.declared.types.Operation.TheVariants as operation
use Rattle.link.specs.declared.chain.Chain.{Chain}
use Rattle.link.specs.declared.chain.Final.{Final}
use Rattle.link.specs.Commands.{is_refused}
use Rattle.loader.specs.Reading.{has_bad_fcp}
use Rattle.loader.specs.declared.reading.RefusedReading.{RefusedReading}
use Rattle.epoch_cache.specs.declared.past.Past.{Past}
use Rattle.channels.specs.Channels.{open_command, close_command, select_application, is_opening, opened_number}
use Rattle.rules.specs.declared.holdings.Handle.{Handle}
use Rattle.rules.specs.declared.kept.Job.{Job}
use Rattle.rules.specs.declared.kept.Outcome.{Outcome}
use Rattle.rules.specs.declared.kept.Outcome.TheVariants as outcome
use Rattle.rules.specs.declared.kept.Stage.{Stage}
use Rattle.rules.specs.declared.kept.Stage.TheVariants.{Fresh as fresh, Next as next, Resetting as resetting, Over as over}
use Rattle.rules.specs.declared.kept.Turn.{Turn}
use Rattle.rules.specs.declared.kept.Work.{Work}
use Rattle.rules.specs.declared.kept.Work.TheVariants.{Rests as rests, Sends as sends}
use Rattle.rules.specs.Channels.{is_living_handle}
use Rattle.rules.specs.After.{opened_behind, next_or_over, stage_of_open, stage_after, refused_outcome, no_channel_left, opening_outcome, selecting_outcome, open_outcome, turn_answered}

-- ---- the phases

abbrev pub IsStill : Stage → Type 0
IsStill fresh = Unit {0}
IsStill (next c) = ⊥
IsStill resetting = ⊥
IsStill over = Unit {0}

abbrev pub NotOpened : Option Outcome → Type 0
NotOpened None = Unit {0}
NotOpened (Some (outcome.Opened n)) = ⊥
NotOpened (Some o) = Unit {0}

-- a chain of the SELECT
abbrev pub SelectChain : Option Chain → Type 0
SelectChain None = Unit {0}
SelectChain (Some chain) = (chain.first.ins ≡ select_ins) × ((chain.next.ins == manage_channel_ins) ≡ false)

-- an open; `more` is the number that the card has beyond those held
pub data OpenPhase (t : Turn) (chain : Option Chain) (aid : List ℕ) (more : List ℕ) : Type 0 where
  open_rests : more ≡ [] → t.work ≡ rests → IsStill t.stage → t.outcome ≡ None → chain ≡ None → OpenPhase t chain aid more
  open_ready : more ≡ [] → t.work ≡ sends open_command → t.stage ≡ fresh → t.outcome ≡ None → chain ≡ None → OpenPhase t chain aid more
  open_selects : (n : ℕ) → more ≡ n ∷ [] → t.work ≡ sends open_command → t.stage ≡ next (select_application n aid) → t.opened ≡ Some n → t.outcome ≡ None → SelectChain chain → OpenPhase t chain aid more
  open_gives_up : (n : ℕ) → more ≡ n ∷ [] → t.work ≡ sends open_command → t.stage ≡ next (close_command n) → NotOpened t.outcome → chain ≡ None → OpenPhase t chain aid more
  open_done : (n : ℕ) → more ≡ n ∷ [] → t.work ≡ sends open_command → t.stage ≡ over → t.outcome ≡ Some (outcome.Opened n) → chain ≡ None → OpenPhase t chain aid more
  open_failed : more ≡ [] → t.work ≡ sends open_command → t.stage ≡ over → NotOpened t.outcome → chain ≡ None → OpenPhase t chain aid more

-- the reference names no channel of the living epoch
abbrev pub IsFree : Past → Option Handle → Type 0
IsFree history None = Unit {0}
IsFree history (Some h) = is_living_handle history h ≡ false

-- a close; `closed` says that the card has closed the channel
pub data ClosePhase (t : Turn) (chain : Option Chain) (history : Past) (found : Option Handle) (closed : Bool) : Type 0 where
  close_rests : closed ≡ false → IsFree history found → t.work ≡ rests → IsStill t.stage → t.outcome ≡ None → chain ≡ None → ClosePhase t chain history found closed
  close_ready : (h : Handle) → closed ≡ false → found ≡ Some h → is_living_handle history h ≡ true → t.work ≡ sends (close_command h.number) → t.stage ≡ fresh → t.outcome ≡ None → chain ≡ None → ClosePhase t chain history found closed
  close_done : (h : Handle) → closed ≡ true → found ≡ Some h → is_living_handle history h ≡ true → t.work ≡ sends (close_command h.number) → t.stage ≡ over → t.outcome ≡ Some outcome.Closed → chain ≡ None → ClosePhase t chain history found closed

-- ---- the same command and response

same_le : (a b : Option ℕ) → same_number a b ≡ true → a ≡ b
same_le None None h = refl
same_le None (Some y) h = absurd (true≢false (sym h))
same_le (Some x) None h = absurd (true≢false (sym h))
same_le (Some x) (Some y) h = ap (λ (n : ℕ). Some n) (eqb-true x y h)

pub same_command_is : (a b : CommandValue) → same_command a b ≡ true → a ≡ b
same_command_is a b h =
    let q1 = and_parts ((a.class == b.class) && (a.ins == b.ins) && (a.p1 == b.p1) && (a.p2 == b.p2) && same_bytes a.body b.body) (same_number a.le b.le) h in
    let q2 = and_parts ((a.class == b.class) && (a.ins == b.ins) && (a.p1 == b.p1) && (a.p2 == b.p2)) (same_bytes a.body b.body) q1.0 in
    let q3 = and_parts ((a.class == b.class) && (a.ins == b.ins) && (a.p1 == b.p1)) (a.p2 == b.p2) q2.0 in
    let q4 = and_parts ((a.class == b.class) && (a.ins == b.ins)) (a.p1 == b.p1) q3.0 in
    let q5 = and_parts (a.class == b.class) (a.ins == b.ins) q4.0 in
    ap (λ (n : ℕ). record a { class = n }) (eqb-true a.class b.class q5.0)
    ∙ ap (λ (n : ℕ). record a { class = b.class; ins = n }) (eqb-true a.ins b.ins q5.1)
    ∙ ap (λ (n : ℕ). record a { class = b.class; ins = b.ins; p1 = n }) (eqb-true a.p1 b.p1 q4.1)
    ∙ ap (λ (n : ℕ). record a { class = b.class; ins = b.ins; p1 = b.p1; p2 = n }) (eqb-true a.p2 b.p2 q3.1)
    ∙ ap (λ (ns : List ℕ). record a { class = b.class; ins = b.ins; p1 = b.p1; p2 = b.p2; body = ns }) (same_bytes_is a.body b.body q2.1)
    ∙ ap (λ (o : Option ℕ). record b { le = o }) (same_le a.le b.le q1.1)

pub same_response_is : (a b : ResponseValue) → same_response a b ≡ true → a ≡ b
same_response_is a b h =
    let q = and_parts (same_bytes a.body b.body) (a.sw == b.sw) h in
    ap (λ (ns : List ℕ). record a { body = ns }) (same_bytes_is a.body b.body q.0) ∙ ap (λ (n : ℕ). record b { sw = n }) (eqb-true a.sw b.sw q.1)

-- ---- what a response comes to

not_opened_if : (b : Bool) (x y : Option Outcome) → NotOpened x → NotOpened y → NotOpened (if b then x else y)
not_opened_if true x y h g = h
not_opened_if false x y h g = g

refused_not_opened : (f : Final) → NotOpened (refused_outcome f)
refused_not_opened f =
    let sw : Option Outcome = Some (outcome.Status (record { 0 = f.response.sw }) f.event) in
    let bad : Option Outcome = if has_bad_fcp f then Some (outcome.BadFcp f.event) else None in
    not_opened_if (wants_more f.response.sw) (Some (outcome.Loop f.event)) (if is_refused f then sw else bad) tt
    (not_opened_if (is_refused f) sw bad tt (not_opened_if (has_bad_fcp f) (Some (outcome.BadFcp f.event)) None tt tt))

opening_not_opened : (f : Final) → NotOpened (opening_outcome None f)
opening_not_opened f =
    let sw : Option Outcome = Some (outcome.Status (record { 0 = f.response.sw }) f.event) in
    not_opened_if (f.response.sw == no_channel_left) (Some (outcome.Exhausted f.event)) (if is_success f.response.sw then sw else refused_outcome f) tt
    (not_opened_if (is_success f.response.sw) sw (refused_outcome f) tt (refused_not_opened f))

-- ---- an open goes on

abbrev pub list_of : Option ℕ → List ℕ
list_of None = []
list_of (Some n) = n ∷ []

module _ (handle : ℕ) (aid : List ℕ) (job : Job) (held : List ℕ) (refresh : Option ProactiveValue) (refused : Option RefusedReading) (f : Final) (t : Turn) (work : t.work ≡ sends open_command) where
  abbrev op : Option Operation
  op = Some (operation.OpenChannel handle aid)

  abbrev led : Turn
  led = turn_answered op job (opened_behind held f t.opened) refresh refused f t

  stage_led : led.stage ≡ stage_of_open aid (opened_behind held f t.opened) f
  stage_led = ap (λ (w : Work). stage_after w op (opened_behind held f t.opened) job refresh f) work

  abbrev staged : Bool → ℕ → Option ℕ → Bool → Stage
  staged b i q ok = if b then next_or_over (option_map (λ m. select_application m aid) q) else if (i == select_ins) && not ok then next_or_over (option_map close_command q) else over

  abbrev comes : Bool → ℕ → Option ℕ → Option Outcome
  comes b i q = if b then opening_outcome q f else if i == select_ins then selecting_outcome q f else None

  -- the answer to its MANAGE CHANNEL
  pub number_led : (o : Option ℕ) → is_opening f.command ≡ true → opened_number held f ≡ o → t.outcome ≡ None → OpenPhase led None aid (list_of o)
  number_led o is e came = by_number o (ap (λ (b : Bool). if b then opened_number held f else t.opened) is ∙ e)
    where
      outcome_led : (q : Option ℕ) → opened_behind held f t.opened ≡ q → led.outcome ≡ opening_outcome q f
      outcome_led q h = ap (λ (x : Option Outcome). or_else x (open_outcome (opened_behind held f t.opened) f)) came ∙ ap (λ (b : Bool). comes b f.command.ins (opened_behind held f t.opened)) is ∙ ap (λ (x : Option ℕ). opening_outcome x f) h

      led_stage : (q : Option ℕ) → opened_behind held f t.opened ≡ q → led.stage ≡ next_or_over (option_map (λ n. select_application n aid) q)
      led_stage q h = stage_led ∙ ap (λ (b : Bool). staged b f.command.ins (opened_behind held f t.opened) (is_success f.response.sw)) is ∙ ap (λ (x : Option ℕ). next_or_over (option_map (λ n. select_application n aid) x)) h

      by_number : (q : Option ℕ) → opened_behind held f t.opened ≡ q → OpenPhase led None aid (list_of q)
      by_number None h = open_failed refl work (led_stage None h) (subst NotOpened (sym (outcome_led None h)) (opening_not_opened f)) refl
      by_number (Some n) h = open_selects n refl work (led_stage (Some n) h) h (outcome_led (Some n) h) tt

  -- the answer to its SELECT
  pub select_led : (n : ℕ) → f.command.ins ≡ select_ins → t.opened ≡ Some n → t.outcome ≡ None → OpenPhase led None aid (n ∷ [])
  select_led n ins opened came = by_success (is_success f.response.sw) refl
    where
      not_opening : is_opening f.command ≡ false
      not_opening = ap (λ (i : ℕ). (i == manage_channel_ins) && (f.command.p1 == 0x00)) ins

      kept : opened_behind held f t.opened ≡ Some n
      kept = ap (λ (b : Bool). if b then opened_number held f else t.opened) not_opening ∙ opened

      stage_is : (b : Bool) → is_success f.response.sw ≡ b → led.stage ≡ (if not b then next (close_command n) else over)
      stage_is b e =
          stage_led
          ∙ ap (λ (x : Bool). staged x f.command.ins (opened_behind held f t.opened) (is_success f.response.sw)) not_opening
          ∙ ap (λ (i : ℕ). staged false i (opened_behind held f t.opened) (is_success f.response.sw)) ins
          ∙ ap (λ (q : Option ℕ). staged false select_ins q (is_success f.response.sw)) kept
          ∙ ap (λ (x : Bool). staged false select_ins (Some n) x) e

      outcome_is : (b : Bool) → is_success f.response.sw ≡ b → led.outcome ≡ (if b then Some (outcome.Opened n) else refused_outcome f)
      outcome_is b e =
          ap (λ (x : Option Outcome). or_else x (open_outcome (opened_behind held f t.opened) f)) came
          ∙ ap (λ (x : Bool). comes x f.command.ins (opened_behind held f t.opened)) not_opening
          ∙ ap (λ (i : ℕ). comes false i (opened_behind held f t.opened)) ins
          ∙ ap (λ (q : Option ℕ). comes false select_ins q) kept
          ∙ ap (λ (x : Bool). if x then Some (outcome.Opened n) else refused_outcome f) e

      by_success : (b : Bool) → is_success f.response.sw ≡ b → OpenPhase led None aid (n ∷ [])
      by_success true e = open_done n refl work (stage_is true e) (outcome_is true e) refl
      by_success false e = open_gives_up n refl work (stage_is false e) (subst NotOpened (sym (outcome_is false e)) (refused_not_opened f)) refl

  -- the answer to the close of one that gives up
  pub close_led : (n : ℕ) → f.command ≡ close_command n → NotOpened t.outcome → OpenPhase led None aid []
  close_led n is came = open_failed refl work stage_is (subst NotOpened (sym outcome_is) (or_none t.outcome came)) refl
    where
      or_none : (o : Option Outcome) → NotOpened o → NotOpened (or_else o None)
      or_none None h = tt
      or_none (Some o) h = h

      stage_is : led.stage ≡ over
      stage_is = stage_led ∙ ap (λ (c : CommandValue). stage_of_open aid (opened_behind held f t.opened) (record f { command = c })) is

      outcome_is : led.outcome ≡ or_else t.outcome None
      outcome_is = ap (λ (c : CommandValue). or_else t.outcome (open_outcome (opened_behind held f t.opened) (record f { command = c }))) is
