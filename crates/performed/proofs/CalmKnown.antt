-- What is known of handles and turns behind each line, be an epoch living or not.
use Rattle.std.proofs.Common.{◌≡◌, ◌≤◌, ℕ, ◌==◌, ◌&&◌, not, Bool, true, false, if◌then◌else◌, Option, Some, None, List, [], ◌∷◌, ◌++◌, map, refl, ap, sym, subst, arith, true≢false}
use Rattle.std.specs.Prelude.{option_map, filter}
use Rattle.apdu.specs.Values.{CommandValue, ResponseValue}
use Rattle.apdu.specs.Apdu.{manage_channel_ins, select_ins, is_success}
use Rattle.refresh_cmd.specs.Values.{ProactiveValue}
use Rattle.script_reader.specs.declared.types.Script.{Script}
use Rattle.script_reader.specs.declared.types.Operation.{Operation}
use Rattle.script_reader.specs.declared.types.Operation.TheVariants as operation
use Rattle.report.specs.declared.answer.Answer.{Answer}
use Rattle.report.specs.declared.answer.Answer.TheVariants as answer
use Rattle.report.specs.declared.line.Line.{Line}
use Rattle.report.specs.declared.line.Line.TheVariants as line
use Rattle.link.specs.declared.chain.Final.{Final}
use Rattle.channels.specs.Channels.{open_command, close_command, select_application, is_opening}
use Rattle.epoch_cache.specs.Past.{counted}
use Rattle.loader.specs.declared.reading.RefusedReading.{RefusedReading}
use Rattle.rules.specs.declared.holdings.Handle.{Handle}
use Rattle.rules.specs.declared.kept.Begun.{Begun}
use Rattle.rules.specs.declared.kept.Job.{Job}
use Rattle.rules.specs.declared.kept.Kept.{Kept}
use Rattle.rules.specs.declared.kept.Stage.{Stage}
use Rattle.rules.specs.declared.kept.Stage.TheVariants.{Fresh as fresh, Resetting as resetting, Over as over}
use Rattle.rules.specs.declared.kept.Turn.{Turn}
use Rattle.rules.specs.declared.kept.Work.{Work}
use Rattle.rules.specs.declared.kept.Work.TheVariants.{Rests as rests, Sends as sends, Reads as reads, Writes as writes, Refuses as refuses, Lacks as lacks, Resets as resets, Happens as happens}
use Rattle.rules.specs.History.{begins_epoch, lives_in}
use Rattle.rules.specs.Channels.{is_handle_of, handle_of, handles_after, ended_handle, ended_handles}
use Rattle.rules.specs.Kept.{operation_at}
use Rattle.rules.specs.Work.{living_handle, sends_close, work_of_operation}
use Rattle.rules.specs.After.{next_or_over, stage_of_open, stage_of_sent, stage_after, opened_behind, turn_answered, decision_of_begun, handles_given, handles_behind, facts_of, kept_after}
use Rattle.rules.specs.Rules.{turn_operation}
use Rattle.performed.specs.Followed.{is_followed}
use Rattle.performed.proofs.CalmHeld.{AreApart, none_left, apart_of_fewer, apart_added, apart_mapped}
use Rattle.performed.proofs.CalmState.{OpensAlive}

abbrev pub is_channel_op : Option Operation → Bool
is_channel_op (Some (operation.OpenChannel handle aid)) = true
is_channel_op (Some (operation.Close handle)) = true
is_channel_op op = false

-- what other proofs give
pub record Given (s : Script) (k : Kept) : Type 0 where
  -- no other operation sends a MANAGE CHANNEL
  pub manage : (a : ℕ) (c : CommandValue) (r : ResponseValue) → is_followed s k (line.Exchange a c r) ≡ true → is_channel_op (turn_operation s k) ≡ false → (c.ins == manage_channel_ins) ≡ false
  -- a channel is opened under a reference that names none
  pub free : (a i handle n : ℕ) (aid : List ℕ) → is_followed s k (line.Answered a i (answer.Opened n)) ≡ true → operation_at s a i ≡ Some (operation.OpenChannel handle aid) → handle_of a handle k.handles ≡ None
  pub alive : OpensAlive k

-- ---- handles

-- none is of an epoch to come
abbrev pub AllSince : ℕ → List Handle → Type 0
AllSince epoch [] = Unit {0}
AllSince epoch (h ∷ hs) = (h.epoch ≤ epoch) × AllSince epoch hs

since_if : (b : Bool) (epoch : ℕ) (x : Handle) (hs : List Handle) → x.epoch ≤ epoch → AllSince epoch hs → AllSince epoch (if b then x ∷ hs else hs)
since_if true epoch x hs l h = (l, h)
since_if false epoch x hs l h = h

since_fewer : (p : Handle → Bool) (epoch : ℕ) (hs : List Handle) → AllSince epoch hs → AllSince epoch (filter p hs)
since_fewer p epoch [] h = tt
since_fewer p epoch (x ∷ hs) h = since_if (p x) epoch x (filter p hs) h.0 (since_fewer p epoch hs h.1)

since_added : (epoch : ℕ) (hs : List Handle) (x : Handle) → AllSince epoch hs → x.epoch ≤ epoch → AllSince epoch (hs ++ x ∷ [])
since_added epoch [] x h l = (l, tt)
since_added epoch (y ∷ hs) x h l = (h.0, since_added epoch hs x h.1 l)

since_later : (b : Bool) (epoch : ℕ) (hs : List Handle) → AllSince epoch hs → AllSince (counted b epoch) hs
since_later false epoch hs h = h
since_later true epoch [] h = tt
since_later true epoch (x ∷ hs) h = let l = h.0 in (omega arith, since_later true epoch hs h.1)

since_mapped : (f : Handle → Handle) → ((h : Handle) → (f h).epoch ≡ h.epoch) → (epoch : ℕ) (hs : List Handle) → AllSince epoch hs → AllSince epoch (map f hs)
since_mapped f e epoch [] h = tt
since_mapped f e epoch (x ∷ hs) h = (subst (λ (n : ℕ). n ≤ epoch) (sym (e x)) h.0, since_mapped f e epoch hs h.1)

record SameAs (x h : Handle) : Type 0 where
  pub actor : x.actor ≡ h.actor
  pub handle : x.handle ≡ h.handle
  pub epoch : x.epoch ≡ h.epoch

ended_by : (b : Bool) (event : ℕ) (h : Handle) → SameAs (if b then record h { ended = Some event } else h) h
ended_by true event h = record { actor = refl; handle = refl; epoch = refl }
ended_by false event h = record { actor = refl; handle = refl; epoch = refl }

ended_as : (epoch event : ℕ) (h : Handle) → SameAs (ended_handle epoch event h) h
ended_as epoch event h = ended_by (h.epoch == epoch) event h

pub record Handles (epoch : ℕ) (hs : List Handle) : Type 0 where
  pub refs : AreApart hs
  pub since : AllSince epoch hs

module _ (epoch : ℕ) (hs : List Handle) (known : Handles epoch hs) where
  ended_known : (of event : ℕ) → Handles epoch (ended_handles of event hs)
  ended_known of event = record {
    refs = apart_mapped (ended_handle of event) (λ h. (ended_as of event h).actor) (λ h. (ended_as of event h).handle) hs known.refs;
    since = since_mapped (ended_handle of event) (λ h. (ended_as of event h).epoch) epoch hs known.since;
  }

  opened_known : (a handle : ℕ) (aid : List ℕ) (given : Answer) → ((n : ℕ) → given ≡ answer.Opened n → handle_of a handle hs ≡ None) → Handles epoch (handles_after a (operation.OpenChannel handle aid) given epoch hs)
  opened_known a handle aid (answer.Opened n) free =
      let x : Handle = record { actor = a; handle = handle; number = n; epoch = epoch; ended = None } in
      subst (λ (ys : List Handle). Handles epoch (ys ++ x ∷ [])) (sym (none_left (is_handle_of a handle) hs (free n refl)))
      (record { refs = apart_added hs x known.refs (free n refl); since = since_added epoch hs x known.since (itself epoch) })
    where
      itself : (n : ℕ) → n ≤ n
      itself n = omega arith
  opened_known a handle aid given free = known

  after_known : (a : ℕ) (op : Operation) (given : Answer) → ((handle n : ℕ) (aid : List ℕ) → op ≡ operation.OpenChannel handle aid → given ≡ answer.Opened n → handle_of a handle hs ≡ None) → Handles epoch (handles_after a op given epoch hs)
  after_known a (operation.OpenChannel handle aid) given free = opened_known a handle aid given (λ n e. free handle n aid refl e)
  after_known a (operation.Close handle) given free = record { refs = apart_of_fewer (λ h. not (is_handle_of a handle h)) hs known.refs; since = since_fewer (λ h. not (is_handle_of a handle h)) epoch hs known.since }
  after_known a op given free = known

  place_known : (a : ℕ) (o : Option Operation) (given : Answer) → ((handle n : ℕ) (aid : List ℕ) → o ≡ Some (operation.OpenChannel handle aid) → given ≡ answer.Opened n → handle_of a handle hs ≡ None) → Handles epoch (elim o [ None ↦ hs | Some op ↦ handles_after a op given epoch hs ])
  place_known a None given free = known
  place_known a (Some op) given free = after_known a op given (λ handle n aid e g. free handle n aid (ap (λ (x : Operation). Some x) e) g)

module _ (s : Script) (k : Kept) (g : Given s k) (known : Handles k.history.epoch k.handles) where
  given_known : (l : Line) → is_followed s k l ≡ true → Handles k.history.epoch (handles_given s l k.history.epoch k.handles)
  given_known (line.Answered a i given) h = place_known k.history.epoch k.handles known a (operation_at s a i) given (λ handle n aid e q. g.free a i handle n aid (subst (λ (x : Answer). is_followed s k (line.Answered a i x) ≡ true) q h) e)
  given_known l h = known

  pub behind_by : (b : Bool) (l : Line) (event : ℕ) → is_followed s k l ≡ true → Handles k.history.epoch (if b then ended_handles k.history.epoch event k.handles else handles_given s l k.history.epoch k.handles)
  behind_by true l event h = ended_known k.history.epoch k.handles known k.history.epoch event
  behind_by false l event h = given_known l h

  later : (b : Bool) (hs : List Handle) → Handles k.history.epoch hs → Handles (counted b k.history.epoch) hs
  later b hs h = record { refs = h.refs; since = since_later b k.history.epoch hs h.since }

  pub handles_known : (l : Line) → is_followed s k l ≡ true → Handles (kept_after s l k).history.epoch (kept_after s l k).handles
  handles_known l h = later (begins_epoch l) (handles_behind s l k.history.epoch (facts_of s l k) k.handles) (behind_by (facts_of s l k).ends l (facts_of s l k).event h)

-- ---- turns

abbrev pub calls : Work → Bool
calls (sends c) = true
calls rests = true
calls work = false

abbrev pub goes_to_reset : Stage → Bool
goes_to_reset resetting = true
goes_to_reset stage = false

pub record Plain (t : Turn) : Type 0 where
  pub work : calls t.work ≡ true
  pub stage : goes_to_reset t.stage ≡ false

pub record Known (s : Script) (k : Kept) : Type 0 where
  pub handles : Handles k.history.epoch k.handles
  pub bare : k.turn.bare ≡ true → (k.turn.stage ≡ fresh) × (k.turn.outcome ≡ None)
  pub plain : is_channel_op (turn_operation s k) ≡ true → Plain k.turn

if_calls : (b : Bool) (c : CommandValue) → calls (if b then sends c else rests) ≡ true
if_calls true c = refl
if_calls false c = refl

closes_calls : (o : Option Handle) → calls (sends_close o) ≡ true
closes_calls None = refl
closes_calls (Some h) = refl

op_calls : (k : Kept) (a : ℕ) (b : Begun) (op : Operation) → is_channel_op (Some op) ≡ true → calls (work_of_operation k a b op).work ≡ true
op_calls k a b (operation.OpenChannel handle aid) h = if_calls (lives_in k.history b.epoch) open_command
op_calls k a b (operation.Close handle) h = closes_calls (living_handle k (handle_of a handle k.handles))
op_calls k a b op h = absurd (true≢false (sym h))

pub begun_calls : (k : Kept) (a : ℕ) (b : Option Begun) (op : Option Operation) → is_channel_op op ≡ true → calls (decision_of_begun k a b op).work ≡ true
begun_calls k a b None h = absurd (true≢false (sym h))
begun_calls k a None (Some op) h = refl
begun_calls k a (Some b) (Some op) h = op_calls k a b op h

-- ---- a stage behind an exchange

no_reset_next : (o : Option CommandValue) → goes_to_reset (next_or_over o) ≡ false
no_reset_next None = refl
no_reset_next (Some c) = refl

no_reset_if : (b : Bool) (x y : Stage) → goes_to_reset x ≡ false → goes_to_reset y ≡ false → goes_to_reset (if b then x else y) ≡ false
no_reset_if true x y h g = h
no_reset_if false x y h g = g

no_reset_open : (aid : List ℕ) (opened : Option ℕ) (f : Final) → goes_to_reset (stage_of_open aid opened f) ≡ false
no_reset_open aid opened f =
    let select : Stage = next_or_over (option_map (λ n. select_application n aid) opened) in
    let close : Stage = next_or_over (option_map close_command opened) in
    no_reset_if (is_opening f.command) select (if (f.command.ins == select_ins) && not (is_success f.response.sw) then close else over) (no_reset_next (option_map (λ n. select_application n aid) opened))
    (no_reset_if ((f.command.ins == select_ins) && not (is_success f.response.sw)) close over (no_reset_next (option_map close_command opened)) refl)

no_reset_sent : (op : Option Operation) (opened : Option ℕ) (refresh : Option ProactiveValue) (f : Final) → is_channel_op op ≡ true → goes_to_reset (stage_of_sent op opened refresh f) ≡ false
no_reset_sent (Some (operation.OpenChannel handle aid)) opened refresh f h = no_reset_open aid opened f
no_reset_sent (Some (operation.Close handle)) opened refresh f h = refl
no_reset_sent None opened refresh f h = absurd (true≢false (sym h))
no_reset_sent (Some op) opened refresh f h = absurd (true≢false (sym h))

no_reset_after : (work : Work) (op : Option Operation) (opened : Option ℕ) (job : Job) (refresh : Option ProactiveValue) (f : Final) → is_channel_op op ≡ true → calls work ≡ true → goes_to_reset (stage_after work op opened job refresh f) ≡ false
no_reset_after (sends c) op opened job refresh f h w = no_reset_sent op opened refresh f h
no_reset_after rests op opened job refresh f h w = refl
no_reset_after (reads path) op opened job refresh f h w = absurd (true≢false (sym w))
no_reset_after writes op opened job refresh f h w = absurd (true≢false (sym w))
no_reset_after (refuses r) op opened job refresh f h w = absurd (true≢false (sym w))
no_reset_after (lacks key) op opened job refresh f h w = absurd (true≢false (sym w))
no_reset_after resets op opened job refresh f h w = absurd (true≢false (sym w))
no_reset_after (happens e) op opened job refresh f h w = absurd (true≢false (sym w))

abbrev pub turn_led : Option Operation → Job → List ℕ → Option ProactiveValue → Option RefusedReading → Turn → Option Final → Turn
turn_led op job held refresh refused t o = elim o [ None ↦ record t { bare = false } | Some f ↦ turn_answered op job (opened_behind held f t.opened) refresh refused f t ]

pub led_actor : (op : Option Operation) (job : Job) (held : List ℕ) (refresh : Option ProactiveValue) (refused : Option RefusedReading) (t : Turn) (o : Option Final) → (turn_led op job held refresh refused t o).actor ≡ t.actor
led_actor op job held refresh refused t None = refl
led_actor op job held refresh refused t (Some f) = refl

pub led_bare : (op : Option Operation) (job : Job) (held : List ℕ) (refresh : Option ProactiveValue) (refused : Option RefusedReading) (t : Turn) (o : Option Final) → (turn_led op job held refresh refused t o).bare ≡ false
led_bare op job held refresh refused t None = refl
led_bare op job held refresh refused t (Some f) = refl

pub led_plain : (op : Option Operation) (job : Job) (held : List ℕ) (refresh : Option ProactiveValue) (refused : Option RefusedReading) (t : Turn) (o : Option Final) → is_channel_op op ≡ true → Plain t → Plain (turn_led op job held refresh refused t o)
led_plain op job held refresh refused t None h p = record { work = p.work; stage = p.stage }
led_plain op job held refresh refused t (Some f) h p = record { work = p.work; stage = no_reset_after t.work op (opened_behind held f t.opened) job refresh f h p.work }
