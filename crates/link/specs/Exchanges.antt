-- What a call sends: the steps that it adds to a trail, what they come to, and what the slot tells behind them.
use Rattle.std.specs.Prelude.{◌≡◌, ℕ, ◌≤◌, ◌==◌, ◌&&◌, not, if◌then◌else◌, List, [], ◌∷◌, ◌++◌, length, drop, slice_get, ◌-◌, Option, Some, None, unwrap_or, option_map, Result, Ok, Err, IfOk, IfErr, OnErr}
use Rattle.apdu.specs.Values.{CommandValue, ResponseValue}
use Rattle.apdu.specs.Apdu.{verify_ins, wants_more, is_success, same_command}
use Rattle.apdu.specs.Stream.{HasCause, Rose}
use Rattle.card_model.specs.declared.trail.Step.{Step}
use Rattle.card_model.specs.declared.slot.SlotFault.{SlotFault}
use Rattle.card_model.specs.declared.world.World.{World}
use Rattle.card_model.specs.Slot.{Plan, StaysTold, Answers, MayHaveActed, Counts, ExchangesAsPlanned}
use Rattle.link.specs.declared.chain.Chain.{Chain}
use Rattle.link.specs.declared.exchanges.LinkError.{LinkError}
use Rattle.link.specs.declared.exchanges.LinkError.TheVariants as error
use Rattle.link.specs.declared.file.FileAnswer.{FileAnswer}
use Rattle.link.specs.declared.file.FileAnswer.TheVariants as answer
use Rattle.link.specs.Commands.{chain_after, selection_after, select_only, is_at}

-- ---- the steps that a call adds to a trail

abbrev pub added : List Step → List Step → List Step
added old new = drop (length old) new

-- the old steps stay, and at most so many stand behind them
pub record Grows (most : ℕ) (old new : List Step) : Type 0 where
  pub front : new ≡ old ++ added old new
  pub few : length (added old new) ≤ most

-- ---- the exchanges of a command

-- a failed exchange is the last
abbrev pub chain_of : CommandValue → Result ResponseValue SlotFault → Option Chain → Option Chain
chain_of c (Ok r) before = chain_after c r before
chain_of c (Err fault) before = None

-- what the last exchange of a command comes to; 61XX and 6CXX are left only where no exchange may follow
abbrev pub answer_of : CommandValue → Result ResponseValue SlotFault → Result ResponseValue LinkError
answer_of c (Ok r) = if wants_more r.sw && not (c.ins == verify_ins) then Err (error.Loop (record { 0 = r.sw })) else Ok r
answer_of c (Err fault) = Err error.Slot

-- what the last step comes to
abbrev pub last_answer : List Step → Option (Result ResponseValue LinkError)
last_answer steps = option_map (λ (step : Step). answer_of step.command step.outcome) (slice_get steps (length steps - 1))

abbrev pub IfLoop : LinkError → Type 0 → Type 0
IfLoop error.Slot p = Unit {0}
IfLoop (error.Loop sw) p = p

-- a call's answer is what the last step comes to, and no exchange is left where it is that one more is asked for
pub record Ends (left : ℕ) (old new : List Step) (result : Result ResponseValue LinkError) : Type 0 where
  pub last : last_answer new ≡ Some result
  pub none_left : IfErr result (λ e. IfLoop e (length (added old new) ≡ left))

-- steps that begin with the exchanges of a command, due behind a chain: what these come to, and the steps behind them
abbrev pub exchanged : CommandValue → Option Chain → List Step → Option (Result ResponseValue LinkError × List Step)
exchanged due before [] = None
exchanged due before (step ∷ steps) =
    if same_command step.command due
    then unwrap_or (option_map (λ (chain : Chain). exchanged chain.next (Some chain) steps) (chain_of step.command step.outcome before)) (Some (answer_of step.command step.outcome, steps))
    else None

-- ---- a command to the file of a path

abbrev pub answer_to : Option (Result ResponseValue LinkError × List Step) → Option (Result FileAnswer LinkError × List Step)
answer_to None = None
answer_to (Some (Ok r, steps)) = Some (Ok (answer.Answered r), steps)
answer_to (Some (Err e, steps)) = Some (Err e, steps)

-- the last response, whichever command it answers
abbrev pub response_in : Result FileAnswer LinkError → Result ResponseValue LinkError
response_in (Ok (answer.Answered r)) = Ok r
response_in (Ok (answer.Refused r)) = Ok r
response_in (Err e) = Err e

-- behind the exchanges of a SELECT that succeeded stand those of the command
abbrev pub behind_select : CommandValue → Option (Result ResponseValue LinkError × List Step) → Option (Result FileAnswer LinkError × List Step)
behind_select c None = None
behind_select c (Some (Ok r, steps)) = if is_success r.sw then answer_to (exchanged c None steps) else Some (Ok (answer.Refused r), steps)
behind_select c (Some (Err e, steps)) = Some (Err e, steps)

-- a SELECT stands before the command where the path is not current
abbrev pub file_exchanged : List ℕ → CommandValue → Option (List ℕ) → List Step → Option (Result FileAnswer LinkError × List Step)
file_exchanged path c selected steps =
    if is_at selected path then answer_to (exchanged c None steps) else behind_select c (exchanged (select_only path) None steps)

-- ---- the selection over steps

-- behind a failed exchange nothing is known
abbrev pub selection_of : CommandValue → Result ResponseValue SlotFault → Option (List ℕ) → Option (List ℕ)
selection_of c (Ok r) before = selection_after c r before
selection_of c (Err fault) before = None

abbrev pub selection_by : Step → Option (List ℕ) → Option (List ℕ)
selection_by step before = selection_of step.command step.outcome before

abbrev pub selection_over : List Step → Option (List ℕ) → Option (List ℕ)
selection_over [] before = before
selection_over (step ∷ steps) before = selection_over steps (selection_by step before)

-- ---- the slot over steps

-- what a slot tells of itself
pub record Seen : Type 0 where
  pub world : Option World
  pub plan : Option Plan
  pub faults : ℕ

abbrev pub seen : Option World → Option Plan → ℕ → Seen
seen world plan faults = record { world = world; plan = plan; faults = faults }

-- an exchange with the slot
pub record Exchanges (old : Seen) (step : Step) (new : Seen) : Type 0 where
  pub ok : IfOk step.outcome (Answers old.world new.world step.command)
  pub err : OnErr step.outcome (MayHaveActed old.world new.world step.command)
  pub tells : StaysTold old.world new.world
  pub tells_plan : StaysTold old.plan new.plan
  pub counts : Counts old.plan new.plan
  pub planned : ExchangesAsPlanned old.plan old.world new.world step.command step.outcome
  pub cause : HasCause old.faults new.faults step.outcome

-- the steps are exchanges with the slot, one after the other
abbrev pub Plays : Seen → List Step → Seen → Type 0
Plays old [] new = new ≡ old
Plays old (step ∷ steps) new = (between : Seen) × (Exchanges old step between × Plays between steps new)

-- a fault is answered only where the count of faults rose
pub record FailsOnFault {T : Type 0} (before now : ℕ) (result : Result T LinkError) : Type 0 where
  pub later : before ≤ now
  pub failed : result ≡ Err error.Slot → Rose before now
