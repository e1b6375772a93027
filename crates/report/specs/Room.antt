-- What contracts see of lines with room, and how many bytes of its own a line takes at most.
use Rattle.std.specs.Prelude.{ℕ, ◌+◌, List, length}
use Rattle.report.specs.declared.answer.Answer.{Answer}
use Rattle.report.specs.declared.answer.Answer.TheVariants as answer
use Rattle.report.specs.declared.line.Line.{Line}
use Rattle.report.specs.declared.line.Line.TheVariants as line

-- the lines, newest first, and how many more lines, and bytes of theirs, are taken without asking for memory
pub record LinesRoom : Type 0 where
  pub lines : List Line
  pub spare : ℕ
  pub spare_bytes : ℕ

-- ---- Room that is enough for a line, whatever is kept of it: 32 bytes, and what may be long

-- the rows left marked, a response (258 bytes at most), what eight families show, 64 numbers
abbrev pub most_of_answer : Answer → ℕ
most_of_answer (answer.Done n k left) = 32 + length left
most_of_answer (answer.Raw r) = 290
most_of_answer (answer.Look seen) = 104
most_of_answer (answer.Notices dropped numbers) = 544
most_of_answer given = 32

-- a command (261 bytes at most) and a response, a text
abbrev pub most_kept : Line → ℕ
most_kept (line.Exchange a c r) = 551
most_kept (line.Failed a c acted) = 293
most_kept (line.Published k f e n text) = 32 + length text
most_kept (line.Answered a i given) = most_of_answer given
most_kept (line.Turn a) = 32
most_kept (line.Begin a i) = 32
most_kept (line.Reset a) = 32
most_kept (line.ResetFailed a) = 32
most_kept (line.World a e) = 32
most_kept (line.EpochEnd k e n) = 32
most_kept (line.Refused f n) = 32
