-- What is kept of the lines so far: all that the rules, and what is due, look back for.
use Rattle.std.specs.Prelude.{ℕ, zero, suc, ◌+◌, false, List, [], map, length, slice_get, slice_set, Option, Some, None, replicate, unwrap_or}
use Rattle.script_reader.specs.declared.types.Script.{Script}
use Rattle.script_reader.specs.declared.types.Operation.{Operation}
use Rattle.families.specs.Families.{all_families}
use Rattle.rules.specs.declared.kept.Begun.{Begun}
use Rattle.rules.specs.declared.kept.Job.{Job}
use Rattle.rules.specs.declared.kept.Kept.{Kept}
use Rattle.rules.specs.declared.kept.Stage.TheVariants.{Over as over}
use Rattle.rules.specs.declared.kept.Turn.{Turn}
use Rattle.rules.specs.declared.kept.Work.TheVariants.{Rests as rests}
use Rattle.epoch_cache.specs.Past.{first_past}
use Rattle.rules.specs.Standing.{first_standing}

-- ---- the operations of a script; actors are numbered from 1, operations from 0

abbrev pub operations_of : Script → ℕ → List Operation
operations_of s zero = []
operations_of s (suc a) = unwrap_or (slice_get s.actors a) []

abbrev pub operation_at : Script → ℕ → ℕ → Option Operation
operation_at s actor op = slice_get (operations_of s actor) op

abbrev pub actor_count : Script → ℕ
actor_count s = length s.actors

-- ---- before the first line

abbrev pub first_job : Job
first_job = record { answered = 0; seen = 0; begun = None; readings = []; family = None; mailbox = None }

abbrev pub no_turn : Turn
no_turn = record {
  actor = None;
  bare = false;
  idle = false;
  work = rests;
  family = None;
  stage = over;
  opened = None;
  outcome = None;
  happened = false;
  updated = false;
  published = None;
  ended = None;
  refused = None;
}

abbrev pub nothing_kept : Script → Kept
nothing_kept s = record {
  history = first_past;
  publications = 0;
  marks = 0;
  chain = None;
  selected = None;
  startup = 0;
  owed = None;
  files = [];
  handles = [];
  sessions = [];
  standings = map first_standing all_families;
  jobs = replicate (actor_count s + 1) first_job;
  turn = no_turn;
}

-- ---- looking up

abbrev pub job_of : ℕ → List Job → Job
job_of actor jobs = unwrap_or (slice_get jobs actor) first_job

abbrev pub begun_of : ℕ → List Job → Option Begun
begun_of actor jobs = (job_of actor jobs).begun

abbrev pub begun_operation : Script → ℕ → Option Begun → Option Operation
begun_operation s actor None = None
begun_operation s actor (Some b) = operation_at s actor b.index

-- the operation of an actor that has begun
abbrev pub operation_now : Script → ℕ → List Job → Option Operation
operation_now s actor jobs = begun_operation s actor (begun_of actor jobs)

-- the operation that the actor begins next
abbrev pub next_operation : Script → ℕ → List Job → Option Operation
next_operation s actor jobs = operation_at s actor (job_of actor jobs).answered

abbrev pub changed_at : {A : Type 0} → ℕ → (A → A) → List A → Option A → List A
changed_at n change xs None = xs
changed_at n change xs (Some x) = slice_set xs n (change x)

-- the list with another item at this index
abbrev pub change_at : {A : Type 0} → ℕ → (A → A) → List A → List A
change_at n change xs = changed_at n change xs (slice_get xs n)
