-- Memory may run out while the words of a call are read.
use Rattle.std.proofs.Common.{refl, Option, Some, None}
use Rattle.streams.specs.Streams.{SourceValue}
use Rattle.subcommands.specs.declared.words.Subcommand.{Subcommand}
use Rattle.subcommands.specs.declared.words.Subcommand.TheVariants.{Replay, Run, Check, Generate, Bulk}
use Rattle.uicc_replay.specs.Top.{IsDue}
use Rattle.uicc_replay.specs.declared.top.Ending.TheVariants.{Memory}

pub memory_is_due : (command : Option Subcommand) (source : SourceValue) → IsDue command source source Memory
memory_is_due None source = record { due = tt; unread = refl }
memory_is_due (Some Replay) source = tt
memory_is_due (Some Run) source = record { due = tt; unread = refl }
memory_is_due (Some Check) source = tt
memory_is_due (Some (Generate seed size)) source = record { due = tt; unread = refl }
memory_is_due (Some (Bulk seed size)) source = record { due = tt; unread = refl }
