-- Channels that actors hold.
--
-- Looking back over the lines: an actor has a handle for a reference, with a number and an epoch, from the answer that a channel was
-- opened until its close is answered. Held are the numbers of the handles whose epoch lives.
use Rattle.std.specs.Prelude.{ℕ, ◌==◌, ◌&&◌, not, Bool, if◌then◌else◌, List, [], ◌∷◌, ◌++◌, map, filter, find, Option, Some, None}
use Rattle.apdu.specs.Words.{is_one_of}
use Rattle.apdu.specs.Apdu.{select_ins, status_ins, read_binary_ins, update_binary_ins, read_record_ins, update_record_ins}
use Rattle.script_reader.specs.declared.types.Operation.{Operation}
use Rattle.script_reader.specs.declared.types.Operation.TheVariants as operation
use Rattle.report.specs.declared.answer.Answer.{Answer}
use Rattle.report.specs.declared.answer.Answer.TheVariants as answer
use Rattle.epoch_cache.specs.declared.past.Past.{Past}
use Rattle.rules.specs.History.{is_living}
use Rattle.rules.specs.declared.holdings.Handle.{Handle}

abbrev pub is_handle_of : ℕ → ℕ → Handle → Bool
is_handle_of actor handle h = (h.actor == actor) && (h.handle == handle)

abbrev pub handle_of : ℕ → ℕ → List Handle → Option Handle
handle_of actor handle handles = find (is_handle_of actor handle) handles

abbrev pub is_living_handle : Past → Handle → Bool
is_living_handle history h = is_living history h.epoch

-- the numbers of the handles whose epoch lives
abbrev pub held_numbers : Past → List Handle → List ℕ
held_numbers history handles = map (λ (h : Handle). h.number) (filter (is_living_handle history) handles)

abbrev pub without_handle : ℕ → ℕ → List Handle → List Handle
without_handle actor handle handles = filter (λ h. not (is_handle_of actor handle h)) handles

abbrev pub with_handle : Handle → List Handle → List Handle
with_handle h handles = without_handle h.actor h.handle handles ++ h ∷ []

-- what the answer to an operation does: `opened` gives a handle, any answer to a close takes one; `epoch` is the one before the line
abbrev pub handles_after : ℕ → Operation → Answer → ℕ → List Handle → List Handle
handles_after actor (operation.OpenChannel handle aid) (answer.Opened number) epoch handles = with_handle (record { actor = actor; handle = handle; number = number; epoch = epoch; ended = None }) handles
handles_after actor (operation.Close handle) given epoch handles = without_handle actor handle handles
handles_after actor op given epoch handles = handles

abbrev pub ended_handle : ℕ → ℕ → Handle → Handle
ended_handle epoch event h = if h.epoch == epoch then record h { ended = Some event } else h

-- an event ended this epoch
abbrev pub ended_handles : ℕ → ℕ → List Handle → List Handle
ended_handles epoch event handles = map (ended_handle epoch event) handles

-- the instructions that an application may send
abbrev pub is_raw_ins : ℕ → Bool
is_raw_ins ins = is_one_of ins (select_ins ∷ status_ins ∷ read_binary_ins ∷ update_binary_ins ∷ read_record_ins ∷ update_record_ins ∷ [])
