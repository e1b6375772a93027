-- A VERIFY and the session that it gives, ETSI TS 102 221 clause 11.1.9.
use Rattle.std.specs.Prelude.{◌≡◌, ◌≤◌, ℕ, if◌then◌else◌, List, [], ◌∷◌, Option, Some, None, Result, Ok, Err}
use Rattle.apdu.specs.Values.{CommandValue, ResponseValue}
use Rattle.apdu.specs.Apdu.{command, verify_ins, is_success, same_command}
use Rattle.apdu.specs.Stream.{Rose}
use Rattle.card_model.specs.declared.trail.Step.{Step}
use Rattle.card_model.specs.declared.slot.SlotFault.{SlotFault}
use Rattle.epoch_cache.specs.Sessions.{SessionValue}
use Rattle.pin_session.specs.declared.verifying.VerifyError.{VerifyError}
use Rattle.pin_session.specs.declared.verifying.VerifyError.TheVariants as error

-- VERIFY of a key reference
abbrev pub verify_command : ℕ → List ℕ → CommandValue
verify_command key pin = command verify_ins 0x00 key pin None

-- a success gives a session of the key and the epoch; every other status refuses, also 61XX and 6CXX
abbrev pub session_by : ℕ → ℕ → Result ResponseValue SlotFault → Result SessionValue VerifyError
session_by key epoch (Ok r) = if is_success r.sw then Ok (record { key = key; epoch = epoch }) else Err (error.Status (record { 0 = r.sw }))
session_by key epoch (Err fault) = Err error.Slot

-- one step, which is this VERIFY, and what it comes to; other steps come to nothing
abbrev pub verified : ℕ → List ℕ → ℕ → List Step → Option (Result SessionValue VerifyError)
verified key pin epoch (step ∷ []) = if same_command step.command (verify_command key pin) then Some (session_by key epoch step.outcome) else None
verified key pin epoch _ = None

-- a fault is answered only where the count of faults rose
pub record FailsOnFault (before now : ℕ) (result : Result SessionValue VerifyError) : Type 0 where
  pub later : before ≤ now
  pub failed : result ≡ Err error.Slot → Rose before now
