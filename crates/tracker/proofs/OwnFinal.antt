-- A final response is to a command of the line's actor.
use Rattle.std.proofs.Common.{ℕ, Bool, true, false, ◌+◌, ◌-◌, refl, ◌≡◌, List, Option, Some, None, if◌then◌else◌}
use Rattle.apdu.specs.Values.{CommandValue, ResponseValue}
use Rattle.link.specs.declared.chain.Chain.{Chain}
use Rattle.link.specs.declared.chain.Final.{Final}
use Rattle.link.specs.Commands.{asks_more, chain_count, chain_first, final_after}
use Rattle.rules.specs.declared.kept.Job.{Job}
use Rattle.rules.specs.Kept.{job_of}
use Rattle.rules.specs.After.{completed_of}
use Rattle.tracker.specs.Finished.{file_completed}

completed_if : (more : Bool) (started : Bool) (selected : Option (List ℕ)) (jobs : List Job) (f : Final) → completed_of started selected jobs (if more then None else Some f) ≡ file_completed started (if more then None else Some f) selected (job_of f.actor jobs).readings
completed_if true started selected jobs f = refl
completed_if false started selected jobs f = refl

pub completed_own : (started : Bool) (selected : Option (List ℕ)) (jobs : List Job) (actor : ℕ) (c : CommandValue) (r : ResponseValue) (events : ℕ) (before : Option Chain) → completed_of started selected jobs (final_after actor c r events before) ≡ file_completed started (final_after actor c r events before) selected (job_of actor jobs).readings
completed_own started selected jobs actor c r events before = completed_if (asks_more (chain_count c before + 1) c r) started selected jobs (record { actor = actor; command = chain_first c before; response = r; event = events + 1; first_event = events + 1 - chain_count c before })

pub completed_at : (started : Bool) (selected : Option (List ℕ)) (jobs : List Job) (actor : ℕ) (c : CommandValue) (r : ResponseValue) (events : ℕ) (before : Option Chain) (answered : Option Final) → answered ≡ final_after actor c r events before → completed_of started selected jobs answered ≡ file_completed started answered selected (job_of actor jobs).readings
completed_at started selected jobs actor c r events before answered e = rw e (completed_own started selected jobs actor c r events before)
