-- What is done by one line, beside publications, and what asks for memory there.
use Rattle.std.specs.Prelude.{Bool, true, false}
use Rattle.report.specs.declared.answer.Answer.{Answer}
use Rattle.report.specs.declared.answer.Answer.TheVariants as answer
use Rattle.rules.specs.declared.due.Due.{Due}
use Rattle.rules.specs.declared.due.Due.TheVariants.{Publish as publish, WaitFor as wait_for, EndOfActor as end_of_actor, Rest as rest}

abbrev pub is_performed : Due → Bool
is_performed (publish f) = false
is_performed (wait_for b) = false
is_performed end_of_actor = false
is_performed rest = false
is_performed d = true

-- an answer that gives its actor a channel or a session, which asks for memory
abbrev pub is_holding : Answer → Bool
is_holding (answer.Opened channel) = true
is_holding answer.Verified = true
is_holding given = false
