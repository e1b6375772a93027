-- What opening and closing a channel sends, and what it comes to, ETSI TS 102 221 clauses 8.7, 11.1.1 and 11.1.17.
use Rattle.std.specs.Prelude.{◌≡◌, ◌≤◌, ℕ, ◌==◌, Bool, true, false, if◌then◌else◌, List, [], ◌∷◌, ◌++◌, Option, Some, None, Result, Ok, Err}
use Rattle.apdu.specs.Values.{ResponseValue}
use Rattle.apdu.specs.Apdu.{is_success}
use Rattle.apdu.specs.Stream.{Rose}
use Rattle.card_model.specs.declared.trail.Step.{Step}
use Rattle.link.specs.declared.exchanges.LinkError.{LinkError}
use Rattle.link.specs.declared.exchanges.LinkError.TheVariants as linked
use Rattle.link.specs.Exchanges.{exchanged}
use Rattle.channels.specs.Channels.{open_command, select_application, close_command, new_number}
use Rattle.channel_table.specs.Values.{ChannelValue, without}
use Rattle.channel_table.specs.declared.error.OpenError.{OpenError}
use Rattle.channel_table.specs.declared.error.OpenError.TheVariants as refusal
use Rattle.channel_table.specs.declared.error.CloseError.{CloseError}
use Rattle.channel_table.specs.declared.error.CloseError.TheVariants as closing

-- ---- what one answer comes to

abbrev pub no_channel_left : ℕ
no_channel_left = 0x6A81

-- the status of a MANAGE CHANNEL that opened no channel
abbrev pub refused : ℕ → OpenError
refused sw = if sw == no_channel_left then refusal.Exhausted else refusal.Status (record { 0 = sw })

abbrev pub unanswered : LinkError → OpenError
unanswered linked.Slot = refusal.Slot
unanswered (linked.Loop sw) = refusal.Loop sw

-- an exchange failed
abbrev pub is_fault : OpenError → Bool
is_fault refusal.Slot = true
is_fault _ = false

-- the channel that MANAGE CHANNEL opened: on success one byte, which no held channel has
abbrev pub assigned : List ℕ → ResponseValue → Option ℕ
assigned held r = if is_success r.sw then new_number held r.body else None

abbrev pub number_or : OpenError → Option ℕ → Result ℕ OpenError
number_or e None = Err e
number_or e (Some n) = Ok n

-- the answer to MANAGE CHANNEL
abbrev pub number_given : List ℕ → Result ResponseValue LinkError → Result ℕ OpenError
number_given held (Ok r) = number_or (refused r.sw) (assigned held r)
number_given held (Err e) = Err (unanswered e)

-- the answer to SELECT
abbrev pub selected : Result ResponseValue LinkError → Result (Unit {0}) OpenError
selected (Ok r) = if is_success r.sw then Ok tt else Err (refusal.Status (record { 0 = r.sw }))
selected (Err e) = Err (unanswered e)

-- the answer to the MANAGE CHANNEL that closes a channel again: why SELECT was refused stands, unless an exchange failed
abbrev pub closed_again : OpenError → Result ResponseValue LinkError → OpenError
closed_again e (Ok r) = e
closed_again e (Err linked.Slot) = refusal.Slot
closed_again e (Err (linked.Loop sw)) = e

-- the answer to MANAGE CHANNEL that closes a channel
abbrev pub closed : Result ResponseValue LinkError → Result (Unit {0}) CloseError
closed (Ok r) = if is_success r.sw then Ok tt else Err (closing.Status (record { 0 = r.sw }))
closed (Err linked.Slot) = Err closing.Slot
closed (Err (linked.Loop sw)) = Err (closing.Loop sw)

-- ---- what an open comes to, by steps that begin with its exchanges, and the steps behind these

abbrev pub given_by : List ℕ → Option (Result ResponseValue LinkError × List Step) → Option (Result ℕ OpenError × List Step)
given_by held None = None
given_by held (Some (answer, steps)) = Some (number_given held answer, steps)

-- the MANAGE CHANNEL that asks for a number
abbrev pub assigning : List ℕ → List Step → Option (Result ℕ OpenError × List Step)
assigning held steps = given_by held (exchanged open_command None steps)

-- the channel is closed again
abbrev pub behind_refusal : OpenError → Option (Result ResponseValue LinkError × List Step) → Option (Result (Unit {0}) OpenError × List Step)
behind_refusal e None = None
behind_refusal e (Some (answer, steps)) = Some (Err (closed_again e answer), steps)

-- a SELECT that was refused is followed by the close, one that failed by nothing
abbrev pub behind_answer : ℕ → Result (Unit {0}) OpenError → List Step → Option (Result (Unit {0}) OpenError × List Step)
behind_answer n (Ok u) steps = Some (Ok u, steps)
behind_answer n (Err e) steps = if is_fault e then Some (Err e, steps) else behind_refusal e (exchanged (close_command n) None steps)

abbrev pub behind_select : ℕ → Option (Result ResponseValue LinkError × List Step) → Option (Result (Unit {0}) OpenError × List Step)
behind_select n None = None
behind_select n (Some (answer, steps)) = behind_answer n (selected answer) steps

-- the SELECT of an application on a channel
abbrev pub selecting : ℕ → List ℕ → List Step → Option (Result (Unit {0}) OpenError × List Step)
selecting n aid steps = behind_select n (exchanged (select_application n aid) None steps)

abbrev pub the_channel : ℕ → ℕ → Option (Result (Unit {0}) OpenError × List Step) → Option (Result ChannelValue OpenError × List Step)
the_channel n epoch None = None
the_channel n epoch (Some (Ok u, steps)) = Some (Ok (record { number = n; epoch = epoch }), steps)
the_channel n epoch (Some (Err e, steps)) = Some (Err e, steps)

abbrev pub behind_number : ℕ → List ℕ → Result ℕ OpenError → List Step → Option (Result ChannelValue OpenError × List Step)
behind_number epoch aid (Ok n) steps = the_channel n epoch (selecting n aid steps)
behind_number epoch aid (Err e) steps = Some (Err e, steps)

abbrev pub behind_open : ℕ → List ℕ → Option (Result ℕ OpenError × List Step) → Option (Result ChannelValue OpenError × List Step)
behind_open epoch aid None = None
behind_open epoch aid (Some (given, steps)) = behind_number epoch aid given steps

-- MANAGE CHANNEL, and SELECT on the channel that it gave, which is closed again where SELECT is refused
abbrev pub opened : ℕ → List ℕ → List ℕ → List Step → Option (Result ChannelValue OpenError × List Step)
opened epoch held aid steps = behind_open epoch aid (assigning held steps)

-- the channels held behind it
abbrev pub held_with : Result ChannelValue OpenError → List ℕ → List ℕ
held_with (Ok channel) held = held ++ channel.number ∷ []
held_with (Err e) held = held

-- ---- what a close comes to

abbrev pub closed_by : Option (Result ResponseValue LinkError × List Step) → Option (Result (Unit {0}) CloseError × List Step)
closed_by None = None
closed_by (Some (answer, steps)) = Some (closed answer, steps)

-- the epoch lives
abbrev pub is_living : ℕ → Option ℕ → Bool
is_living epoch None = false
is_living epoch (Some living) = living == epoch

-- the channel is closed; of an epoch that is gone nothing is sent
abbrev pub closing_of : ChannelValue → Option ℕ → List Step → Option (Result (Unit {0}) CloseError × List Step)
closing_of channel living steps =
    if is_living channel.epoch living then closed_by (exchanged (close_command channel.number) None steps)
    else Some (Err (closing.EpochEnded channel.epoch), steps)

-- the channels held behind it
abbrev pub held_behind : ChannelValue → Option ℕ → List ℕ → List ℕ
held_behind channel living held = if is_living channel.epoch living then without channel.number held else held

-- ---- a fault is answered only where the count of faults rose

pub record OpensOrFaults {T : Type 0} (before now : ℕ) (result : Result T OpenError) : Type 0 where
  pub later : before ≤ now
  pub failed : result ≡ Err refusal.Slot → Rose before now

pub record ClosesOrFaults (before now : ℕ) (result : Result (Unit {0}) CloseError) : Type 0 where
  pub later : before ≤ now
  pub failed : result ≡ Err closing.Slot → Rose before now
