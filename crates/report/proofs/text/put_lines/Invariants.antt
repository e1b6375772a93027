use Rattle.std.proofs.Common.{◌≡◌, ◌++◌, take, string_bytes}
use Rattle.std.specs.Prelude.{reverse}
use Rattle.report.specs.Texts.{lines_text}
use Rattle.report.proofs.text.put_lines.Given as goal

abbrev pub invariant-loop-at : goal.invariant-loop-at
invariant-loop-at l = string_bytes l.out ≡ string_bytes l.fn.out ++ lines_text (reverse (take l.at (reverse l.lines)))
