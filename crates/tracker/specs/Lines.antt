-- Kinds of lines.
use Rattle.std.specs.Prelude.{Bool, true, false}
use Rattle.report.specs.declared.line.Line.{Line}
use Rattle.report.specs.declared.line.Line.TheVariants as line

-- a family was published
abbrev pub is_published : Line → Bool
is_published (line.Published k f e n text) = true
is_published l = false

abbrev pub is_exchange : Line → Bool
is_exchange (line.Exchange a c r) = true
is_exchange l = false

abbrev pub is_failed : Line → Bool
is_failed (line.Failed a c d) = true
is_failed l = false

abbrev pub is_answered : Line → Bool
is_answered (line.Answered a i given) = true
is_answered l = false
