-- What a line asks of what is kept before it, so that it can be kept with the counters that there are.
use Rattle.std.specs.Prelude.{◌≡◌, ℕ, ◌+◌, ◌<◌, ◌^◌, ◌&&◌, Bool, true, nat_le, nat_lt, List, length, Option, Some, None}
use Rattle.std.specs.List.{list_all}
use Rattle.script_reader.specs.declared.types.Script.{Script}
use Rattle.script_reader.specs.declared.types.Operation.{Operation}
use Rattle.script_reader.specs.declared.types.Operation.TheVariants as operation
use Rattle.adn.specs.declared.edit.RowUpdate.{RowUpdate}
use Rattle.families.specs.Plans.{plan_updates}
use Rattle.epoch_cache.specs.declared.past.Past.{Past}
use Rattle.watchers.specs.declared.mailbox.Mailbox.{Mailbox}
use Rattle.editor.specs.declared.editing.Attempt.{Attempt}
use Rattle.report.specs.declared.line.Line.{Line}
use Rattle.report.specs.declared.line.Line.TheVariants as line
use Rattle.rules.specs.Kept.{operation_now}
use Rattle.rules.specs.declared.kept.Begun.{Begun}
use Rattle.rules.specs.declared.kept.Job.{Job}
use Rattle.rules.specs.declared.kept.Kept.{Kept}

-- the number of dropped notices has room for one more
abbrev pub mailbox_has_room : Option Mailbox → Bool
mailbox_has_room None = true
mailbox_has_room (Some m) = nat_lt (m.dropped + 1) (2 ^ 64)

-- the bytes of an update fit into a command
abbrev pub update_fits : RowUpdate → Bool
update_fits u = nat_le (length u.bytes) 255

-- those of all its updates do
abbrev pub attempt_fits : Option Attempt → Bool
attempt_fits None = true
attempt_fits (Some a) = list_all update_fits (plan_updates a.plan)

abbrev pub begun_fits : Option Begun → Bool
begun_fits None = true
begun_fits (Some b) = attempt_fits b.editing.attempt

-- and the number of updates that were sent has room for one more
abbrev pub attempt_has_room : Option Attempt → Bool
attempt_has_room None = true
attempt_has_room (Some a) = nat_lt (a.sent + 1) (2 ^ 64) && attempt_fits (Some a)

abbrev pub begun_has_room : Option Begun → Bool
begun_has_room None = true
begun_has_room (Some b) = attempt_has_room b.editing.attempt

-- so has the number of answered operations
abbrev pub job_has_room : Job → Bool
job_has_room job = nat_lt (job.answered + 1) (2 ^ 32) && mailbox_has_room job.mailbox && begun_has_room job.begun

-- so has each of the other counters
pub record CountsOn (history : Past) (published marked : ℕ) : Type 0 where
  pub events : history.events + 1 < 2 ^ 64
  pub calls : history.calls + 1 < 2 ^ 64
  pub epoch : history.epoch + 1 < 2 ^ 64
  pub publications : published + 1 < 2 ^ 64
  pub marks : marked + 1 < 2 ^ 64

pub record HasRoom (k : Kept) : Type 0 where
  pub counters : CountsOn k.history k.publications k.marks
  pub jobs : list_all job_has_room k.jobs ≡ true

-- what a line does to the job of its actor asks for that much
abbrev pub own_has_room : Job → Bool
own_has_room job = nat_lt (job.answered + 1) (2 ^ 32) && begun_has_room job.begun

-- the identifier of an application fits into a command
abbrev pub operation_fits : Option Operation → Bool
operation_fits (Some (operation.OpenChannel handle aid)) = nat_le (length aid) 255
operation_fits op = true

-- of the operation that the actor of an exchange has begun
abbrev pub line_fits : Script → Line → List Job → Bool
line_fits s (line.Exchange a c r) jobs = operation_fits (operation_now s a jobs)
line_fits s l jobs = true
