-- What a turn of a script sends, by the operation whose turn it is: an UPDATE only an application's command or an edit, a
-- MANAGE CHANNEL only an open or a close, a VERIFY only a verification.
use Rattle.std.proofs.Common.{◌≡◌, ◌⊎◌, ℕ, ◌==◌, ◌&&◌, not, Bool, true, false, Option, Some, None, List}
use Rattle.apdu.specs.Values.{CommandValue, ResponseValue}
use Rattle.apdu.specs.Words.{has_value}
use Rattle.apdu.specs.Apdu.{is_update_ins, verify_ins, manage_channel_ins, get_response_ins, update_record_ins}
use Rattle.script_reader.specs.declared.types.Script.{Script}
use Rattle.script_reader.specs.declared.types.Operation.{Operation}
use Rattle.script_reader.specs.declared.types.Operation.TheVariants as operation
use Rattle.report.specs.declared.line.Line.TheVariants as line
use Rattle.link.specs.declared.chain.Chain.{Chain}
use Rattle.channels.specs.Channels.{on_channel, open_command, close_command, select_application}
use Rattle.rules.specs.declared.holdings.Handle.{Handle}
use Rattle.rules.specs.declared.kept.Kept.{Kept}
use Rattle.rules.specs.declared.kept.Stage.{Stage}
use Rattle.rules.specs.declared.kept.Stage.TheVariants.{Fresh as fresh, Next as next, Resetting as resetting, Over as over}
use Rattle.rules.specs.declared.kept.Work.{Work}
use Rattle.rules.specs.declared.kept.Work.TheVariants.{Rests as rests, Refuses as refuses, Lacks as lacks, Sends as sends, Reads as reads, Writes as writes, Resets as resets, Happens as happens}
use Rattle.rules.specs.Kept.{operation_now}
use Rattle.rules.specs.Channels.{handle_of, is_raw_ins}
use Rattle.rules.specs.Sessions.{verify_command}
use Rattle.rules.specs.Work.{status_command}
use Rattle.rules.specs.After.{is_raw}
use Rattle.rules.specs.Rules.{turn_operation}
use Rattle.performed.specs.Followed.{is_followed}
use Rattle.rules.specs.History.{is_living}

-- ---- commands

-- neither UPDATE, VERIFY nor MANAGE CHANNEL
abbrev pub is_calm : ℕ → Bool
is_calm ins = not (is_update_ins ins) && (not (ins == verify_ins) && not (ins == manage_channel_ins))

abbrev pub Calm : Option CommandValue → Type 0
Calm None = Unit {0}
Calm (Some c) = is_calm c.ins ≡ true

-- the command itself, or with another Le, which a 6CXX asked for; VERIFY is not sent again
pub record IsForm (c first : CommandValue) : Type 0 where
  pub le : Option ℕ
  pub is : c ≡ record first { le = le }
  pub once : (first.ins == verify_ins) ≡ true → le ≡ first.le

-- an exchange of the command: of a form of it, or a GET RESPONSE
abbrev pub IsExchangeOf : CommandValue → CommandValue → Type 0
IsExchangeOf first c = IsForm c first ⊎ (c.ins ≡ get_response_ins)

-- ---- the first command of a turn, by its operation; without one it is the framework's

-- a channel that the actor holds, of an epoch that is alive
pub record IsHeld (alive : ℕ → Bool) (handles : List Handle) (actor : Option ℕ) (handle : ℕ) (h : Handle) : Type 0 where
  pub who : ℕ
  pub is : actor ≡ Some who
  pub held : handle_of who handle handles ≡ Some h
  pub lives : alive h.epoch ≡ true

pub record IsRawOn (alive : ℕ → Bool) (handles : List Handle) (actor : Option ℕ) (handle : ℕ) (apdu c : CommandValue) : Type 0 where
  pub on : Handle
  pub held : IsHeld alive handles actor handle on
  pub allowed : is_raw_ins apdu.ins ≡ true
  pub is : c ≡ on_channel on.number apdu

pub record IsCloseOf (alive : ℕ → Bool) (handles : List Handle) (actor : Option ℕ) (handle : ℕ) (c : CommandValue) : Type 0 where
  pub on : Handle
  pub held : IsHeld alive handles actor handle on
  pub is : c ≡ close_command on.number

abbrev pub SendsFirst : (ℕ → Bool) → List Handle → Option ℕ → Option Operation → CommandValue → Type 0
SendsFirst alive handles actor None c = is_calm c.ins ≡ true
SendsFirst alive handles actor (Some (operation.OpenChannel handle aid)) c = c ≡ open_command
SendsFirst alive handles actor (Some (operation.Raw handle apdu)) c = IsRawOn alive handles actor handle apdu c
SendsFirst alive handles actor (Some (operation.Close handle)) c = IsCloseOf alive handles actor handle c
SendsFirst alive handles actor (Some (operation.Verify key pin)) c = c ≡ verify_command key pin
SendsFirst alive handles actor (Some operation.Poll) c = c ≡ status_command
SendsFirst alive handles actor (Some op) c = ⊥

-- the framework, loads and edits read
abbrev pub IsReader : Option Operation → Type 0
IsReader None = Unit {0}
IsReader (Some (operation.Load f)) = Unit {0}
IsReader (Some (operation.Set f at name number)) = Unit {0}
IsReader (Some (operation.Clear f at)) = Unit {0}
IsReader (Some op) = ⊥

-- edits write
abbrev pub is_writer : Option Operation → Bool
is_writer (Some (operation.Set f at name number)) = true
is_writer (Some (operation.Clear f at)) = true
is_writer op = false

abbrev pub WorkFits : (ℕ → Bool) → List Handle → Option ℕ → Option Operation → Work → Type 0
WorkFits alive handles actor op (sends c) = SendsFirst alive handles actor op c
WorkFits alive handles actor op (reads path) = IsReader op
WorkFits alive handles actor op writes = is_writer op ≡ true
WorkFits alive handles actor op rests = Unit {0}
WorkFits alive handles actor op (refuses r) = Unit {0}
WorkFits alive handles actor op (lacks key) = Unit {0}
WorkFits alive handles actor op resets = Unit {0}
WorkFits alive handles actor op (happens e) = Unit {0}

-- ---- a command behind another

-- behind the MANAGE CHANNEL of an open that gave a number: the SELECT on the new channel, and behind its refusal the close
pub record IsBehindOpen (opened : Option ℕ) (aid : List ℕ) (c : CommandValue) : Type 0 where
  pub number : ℕ
  pub gave : opened ≡ Some number
  pub is : (c ≡ select_application number aid) ⊎ (c ≡ close_command number)

-- behind the SELECT of an edit's update comes the UPDATE RECORD, and behind that of a reading its next READ
abbrev pub IsNextOf : Work → ℕ → Type 0
IsNextOf writes ins = ins ≡ update_record_ins
IsNextOf (sends c) ins = is_calm ins ≡ true
IsNextOf (reads path) ins = is_calm ins ≡ true
IsNextOf rests ins = is_calm ins ≡ true
IsNextOf (refuses r) ins = is_calm ins ≡ true
IsNextOf (lacks key) ins = is_calm ins ≡ true
IsNextOf resets ins = is_calm ins ≡ true
IsNextOf (happens e) ins = is_calm ins ≡ true

abbrev pub SendsNext : Option ℕ → Option Operation → Work → CommandValue → Type 0
SendsNext opened None work c = is_calm c.ins ≡ true
SendsNext opened (Some (operation.OpenChannel handle aid)) work c = IsBehindOpen opened aid c
SendsNext opened (Some op) work c = IsNextOf work c.ins

-- ---- the turn

abbrev pub Fits : (ℕ → Bool) → List Handle → Option ℕ → Option Operation → Option ℕ → Work → Stage → Type 0
Fits alive handles actor op opened work fresh = (opened ≡ None) × WorkFits alive handles actor op work
Fits alive handles actor op opened work (next c) = SendsNext opened op work c × WorkFits alive handles actor op work
Fits alive handles actor op opened work resetting = Unit {0}
Fits alive handles actor op opened work over = Unit {0}

-- the command of the stage, where it is no READ
abbrev pub sent_first : Work → Option CommandValue
sent_first (sends c) = Some c
sent_first work = None

abbrev pub command_of : Work → Stage → Option CommandValue
command_of work fresh = sent_first work
command_of work (next c) = Some c
command_of work resetting = None
command_of work over = None

-- the command is an exchange of that of the stage
pub record IsOfStage (work : Work) (stage : Stage) (c : CommandValue) : Type 0 where
  pub first : CommandValue
  pub at : command_of work stage ≡ Some first
  pub exchange : IsExchangeOf first c

-- or one of a reading
pub record IsOfReading (work : Work) (stage : Stage) (c : CommandValue) : Type 0 where
  pub path : List ℕ
  pub is : work ≡ reads path
  pub begins : stage ≡ fresh
  pub calm : is_calm c.ins ≡ true

-- or the SELECT of an edit's update, or the update itself
pub record IsOfWriting (work : Work) (stage : Stage) (c : CommandValue) : Type 0 where
  pub is : work ≡ writes
  pub begins : stage ≡ fresh
  pub ins : (is_calm c.ins ≡ true) ⊎ (c.ins ≡ update_record_ins)

abbrev pub IsOfFiles : Work → Stage → CommandValue → Type 0
IsOfFiles work stage c = IsOfReading work stage c ⊎ IsOfWriting work stage c

abbrev pub IsOfTurn : Work → Stage → CommandValue → Type 0
IsOfTurn work stage c = IsOfStage work stage c ⊎ IsOfFiles work stage c

abbrev pub ChainFits : Work → Stage → Option Chain → Type 0
ChainFits work stage None = Unit {0}
ChainFits work stage (Some chain) = IsOfTurn work stage chain.next

-- what may be sent fits the operation
pub record Sends (s : Script) (k : Kept) : Type 0 where
  pub fits : Fits (is_living k.history) k.handles k.turn.actor (turn_operation s k) k.turn.opened k.turn.work k.turn.stage
  pub chain : ChainFits k.turn.work k.turn.stage k.chain
  pub owed : Calm k.owed
  pub bare : k.turn.bare ≡ true → k.turn.stage ≡ fresh

-- ---- what a command is that follows

pub data Kind (s : Script) (k : Kept) (c : CommandValue) : Type 0 where
  -- no UPDATE, no VERIFY and no MANAGE CHANNEL
  calm : is_calm c.ins ≡ true → Kind s k c
  -- an application's, on a channel that the actor holds
  application : (handle : ℕ) (apdu first : CommandValue) → turn_operation s k ≡ Some (operation.Raw handle apdu) → IsRawOn (is_living k.history) k.handles k.turn.actor handle apdu first → IsForm c first → Kind s k c
  -- the MANAGE CHANNEL of an open
  opens : (handle : ℕ) (aid : List ℕ) → turn_operation s k ≡ Some (operation.OpenChannel handle aid) → k.turn.stage ≡ fresh → k.turn.opened ≡ None → IsForm c open_command → Kind s k c
  -- an open whose SELECT was refused closes its channel
  gives_up : (handle : ℕ) (aid : List ℕ) (number : ℕ) → turn_operation s k ≡ Some (operation.OpenChannel handle aid) → k.turn.stage ≡ next (close_command number) → k.turn.opened ≡ Some number → IsForm c (close_command number) → Kind s k c
  -- a close of a channel that the actor holds
  closes : (handle : ℕ) (h : Handle) → turn_operation s k ≡ Some (operation.Close handle) → k.turn.stage ≡ fresh → IsHeld (is_living k.history) k.handles k.turn.actor handle h → IsForm c (close_command h.number) → Kind s k c
  -- the UPDATE RECORD of an edit
  updates : is_writer (turn_operation s k) ≡ true → k.turn.work ≡ writes → c.ins ≡ update_record_ins → Kind s k c
  -- a verification
  verifies : (key : ℕ) (pin : List ℕ) → turn_operation s k ≡ Some (operation.Verify key pin) → k.turn.stage ≡ fresh → c ≡ verify_command key pin → Kind s k c

-- the kind of each command that follows is known
abbrev pub ExchangeKind : Type 0
ExchangeKind = (s : Script) (k : Kept) (a : ℕ) (c : CommandValue) (r : ResponseValue) → Sends s k → is_followed s k (line.Exchange a c r) ≡ true → Kind s k c

abbrev pub FailedKind : Type 0
FailedKind = (s : Script) (k : Kept) (a : ℕ) (c : CommandValue) (acted : Bool) → Sends s k → is_followed s k (line.Failed a c acted) ≡ true → Kind s k c

-- the UPDATE RECORD of an edit
pub record IsEdits (s : Script) (k : Kept) (c : CommandValue) : Type 0 where
  pub writer : is_writer (turn_operation s k) ≡ true
  pub work : k.turn.work ≡ writes
  pub ins : c.ins ≡ update_record_ins

-- an UPDATE is a raw operation's, or an edit's
abbrev pub IsUpdater : Script → Kept → CommandValue → Type 0
IsUpdater s k c = (has_value is_raw (turn_operation s k) ≡ true) ⊎ IsEdits s k c

abbrev pub ExchangeUpdate : Type 0
ExchangeUpdate = (s : Script) (k : Kept) (a : ℕ) (c : CommandValue) (r : ResponseValue) → Sends s k → is_followed s k (line.Exchange a c r) ≡ true → is_update_ins c.ins ≡ true → IsUpdater s k c

-- the MANAGE CHANNEL of an open, the close of one that gives up, or a close
pub data Manages (s : Script) (k : Kept) (c : CommandValue) : Type 0 where
  by_open : (handle : ℕ) (aid : List ℕ) → turn_operation s k ≡ Some (operation.OpenChannel handle aid) → k.turn.stage ≡ fresh → k.turn.opened ≡ None → IsForm c open_command → Manages s k c
  by_refusal : (handle : ℕ) (aid : List ℕ) (number : ℕ) → turn_operation s k ≡ Some (operation.OpenChannel handle aid) → k.turn.stage ≡ next (close_command number) → k.turn.opened ≡ Some number → IsForm c (close_command number) → Manages s k c
  by_close : (handle : ℕ) (h : Handle) → turn_operation s k ≡ Some (operation.Close handle) → k.turn.stage ≡ fresh → IsHeld (is_living k.history) k.handles k.turn.actor handle h → IsForm c (close_command h.number) → Manages s k c

-- there is no other MANAGE CHANNEL
abbrev pub ExchangeManages : Type 0
ExchangeManages = (s : Script) (k : Kept) (a : ℕ) (c : CommandValue) (r : ResponseValue) → Sends s k → is_followed s k (line.Exchange a c r) ≡ true → (c.ins == manage_channel_ins) ≡ true → Manages s k c

-- the operation of a turn is that of its lines' actor
abbrev pub TurnIs : Type 0
TurnIs = (s : Script) (k : Kept) (a : ℕ) (c : CommandValue) (r : ResponseValue) → is_followed s k (line.Exchange a c r) ≡ true → turn_operation s k ≡ operation_now s a k.jobs
