-- What the answer to an operation does to an actor's mailbox, and what its notices are.
use Rattle.std.specs.Prelude.{[], Option, Some, None}
use Rattle.script_reader.specs.declared.types.Operation.{Operation}
use Rattle.script_reader.specs.declared.types.Operation.TheVariants as operation
use Rattle.report.specs.declared.answer.Answer.{Answer}
use Rattle.report.specs.declared.answer.Answer.TheVariants as answer
use Rattle.watchers.specs.declared.mailbox.Mailbox.{Mailbox}

-- what the answer to an operation does
abbrev pub mailbox_after : Operation → Answer → Option Mailbox → Option Mailbox
mailbox_after (operation.Watch mask) answer.Watching before = Some (record { mask = mask; dropped = 0; numbers = record { items = [] } })
mailbox_after op given before = before

abbrev pub notices_of : Option Mailbox → Answer
notices_of None = answer.Notices 0 (record { items = [] })
notices_of (Some m) = answer.Notices m.dropped m.numbers
