-- A report from the bytes of its text, or the number of the first line that has no place.
use Rattle.std.specs.Prelude.{ℕ, ◌+◌, if◌then◌else◌, List, [], ◌∷◌, codes, Option, Some, None, Result, Ok, Err}
use Rattle.apdu.specs.Words.{◌>>=◌, is_empty, same_bytes}
use Rattle.script_reader.specs.declared.types.Script.{Script}
use Rattle.script_reader.specs.Reading.{Refusal}
use Rattle.script_reader.specs.Scripts.{script_of_bytes}
use Rattle.script_writer.specs.Writing.{script_text}
use Rattle.report.specs.declared.line.Line.{Line}
use Rattle.report.specs.declared.line.Mode.{Mode}
use Rattle.report.specs.declared.line.Mode.TheVariants.{Replay, Run}
use Rattle.report.specs.declared.lines.Report.{Report}
use Rattle.report_reader.specs.Reads.{placed}
use Rattle.report_reader.specs.Words.{parts_of, first_word, behind_word}
use Rattle.report_reader.specs.Lines.{line_of}

-- ---- the first two lines

abbrev pub written_script : List ℕ → Result Script Refusal → Option Script
written_script text (Ok s) = if same_bytes (script_text s) text then Some s else None
written_script text (Err refusal) = None

-- the script, if this is its text
abbrev pub script_of : List ℕ → Option Script
script_of text = written_script text (script_of_bytes text)

abbrev pub script_line : List ℕ → Option Script
script_line line = if same_bytes (first_word line) (codes "script") then script_of (behind_word line) else None

abbrev pub mode_line : List ℕ → Option Mode
mode_line line =
    if same_bytes line (codes "mode replay") then Some Replay
    else if same_bytes line (codes "mode run") then Some Run
    else None

-- ---- the lines behind them

abbrev pub read_line : Script → ℕ → List ℕ → Result Line ℕ
read_line s number text = placed number (line_of s text)

-- the lines with the one of this text, the newest first
abbrev pub with_line : Script → ℕ → List ℕ → List Line → Result (List Line) ℕ
with_line s number text earlier = do
  line ← read_line s number text
  Ok (line ∷ earlier)

-- behind the last line feed stands nothing
abbrev pub ended : List Line → ℕ → List (List ℕ) → Result (List Line) ℕ
ended lines number [] = Err number
ended lines number ([] ∷ []) = Ok lines
ended lines number ([] ∷ other ∷ parts) = Err number
ended lines number ((b ∷ bytes) ∷ parts) = Err number

-- the lines up to `end`, behind earlier ones, the newest first; the last of the parts is ended by no line feed, and is no line
abbrev pub lines_from : Script → ℕ → List Line → List (List ℕ) → Result (List Line) ℕ
lines_from s number earlier [] = Err number
lines_from s number earlier (text ∷ parts) =
    if is_empty parts then Err number
    else if same_bytes text (codes "end") then ended earlier (number + 1) parts
    else (with_line s number text earlier >>= λ lines. lines_from s (number + 1) lines parts)

-- ---- the report

-- the mode, in a line that has this behind it
abbrev pub second_line : List ℕ → List (List ℕ) → Option Mode
second_line line [] = None
second_line line (part ∷ parts) = mode_line line

abbrev pub script_part : List ℕ → Result Script ℕ
script_part line = placed 1 (script_line line)

abbrev pub mode_part : List ℕ → List (List ℕ) → Result Mode ℕ
mode_part line parts = placed 2 (second_line line parts)

abbrev pub report_of_parts : List (List ℕ) → Result Report ℕ
report_of_parts [] = Err 1
report_of_parts (first ∷ []) = Err 1
report_of_parts (first ∷ second ∷ parts) = do
  script ← script_part first
  mode ← mode_part second parts
  lines ← lines_from script 3 [] parts
  Ok (record { script = script; mode = mode; lines = lines })

-- the report of which the bytes are the text, or the first line that has no place
abbrev pub report_of : List ℕ → Result Report ℕ
report_of bytes = report_of_parts (parts_of 10 bytes)
