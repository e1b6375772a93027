-- The channels that actors hold, handle by handle.
use Rattle.std.specs.Prelude.{ℕ, ◌==◌, ◌&&◌, Bool, true, false, if◌then◌else◌, List, Option, Some, None}
use Rattle.apdu.specs.Words.{has_value, is_one_of}
use Rattle.epoch_cache.specs.declared.past.Past.{Past}
use Rattle.script_reader.specs.declared.types.Script.{Script}
use Rattle.script_reader.specs.declared.types.Operation.{Operation}
use Rattle.script_reader.specs.declared.types.Operation.TheVariants as operation
use Rattle.report.specs.declared.answer.Answer.{Answer}
use Rattle.report.specs.declared.answer.Answer.TheVariants as answer
use Rattle.report.specs.declared.line.Line.{Line}
use Rattle.report.specs.declared.line.Line.TheVariants as line
use Rattle.rules.specs.Kept.{operation_at}
use Rattle.rules.specs.declared.holdings.Handle.{Handle}
use Rattle.rules.specs.Channels.{is_living_handle}

abbrev pub is_held_under : Past → ℕ → Handle → Bool
is_held_under history number h = is_living_handle history h && (h.number == number)

abbrev pub unless_held : List ℕ → Option ℕ → Option ℕ
unless_held held None = None
unless_held held (Some n) = if is_one_of n held then None else Some n

-- an answer that gives its actor a channel or a session
abbrev pub gives_holding : Operation → Answer → Bool
gives_holding (operation.OpenChannel handle aid) (answer.Opened channel) = true
gives_holding (operation.Verify key pin) answer.Verified = true
gives_holding op given = false

abbrev pub line_gives_holding : Script → Line → Bool
line_gives_holding s (line.Answered a i given) = has_value (λ op. gives_holding op given) (operation_at s a i)
line_gives_holding s l = false
