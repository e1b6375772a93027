-- The text of a report is read as that report.
use Rattle.std.proofs.Common.{◌≡◌, ℕ, ◌+◌, Bool, true, false, List, [], ◌∷◌, ◌++◌, length, Some, Result, Ok, Err, sym, refl, ap, ◌∙◌, append_assoc, append-nil, arith, codes}
use Rattle.apdu.specs.Words.{same_bytes}
use Rattle.script_reader.specs.declared.types.Script.{Script}
use Rattle.std.specs.Prelude.{IfOk}
use Rattle.script_reader.specs.Rules.{keeps_rules}
use Rattle.script_reader.specs.Scripts.{script_of_bytes}
use Rattle.script_writer.specs.Writing.{script_data, script_text}
use Rattle.report.specs.Texts.{line_words, line_text, lines_text, mode_text, report_text}
use Rattle.report.specs.declared.line.Line.{Line}
use Rattle.report.specs.declared.line.Mode.{Mode}
use Rattle.report.specs.declared.line.Mode.TheVariants.{Replay, Run}
use Rattle.report.specs.declared.lines.Report.{Report}
use Rattle.report_reader.specs.Words.{parts_of}
use Rattle.report_reader.specs.Lines.{line_of}
use Rattle.report_reader.specs.Forms.{IsLine, AreLines}
use Rattle.report_reader.specs.Reports.{mode_line, script_line, lines_from, report_of_parts, report_of}
use Rattle.report_reader.specs.Laws.{AreReadBack}
use Rattle.report_reader.proofs.Parts.{same_text, same_self, Lacks, lacks_both, next_part, HasFirst, parts_some, not_empty}
use Rattle.report_reader.proofs.Fields.{by_test}
use Rattle.report_reader.proofs.Json.{json_plain}
use Rattle.report_reader.proofs.LinesBack.{line_back}
use Rattle.report_reader.proofs.OneLine.{line_clear}

-- ---- one line

-- the text of a line is not the last one
not_end : (s : Script) (l : Line) → IsLine s l → same_bytes (line_words l) (codes "end") ≡ false
not_end s l h = by (same_bytes (line_words l) (codes "end")) refl
  where
    by : (test : Bool) → same_bytes (line_words l) (codes "end") ≡ test → test ≡ false
    by true e =
        let same = same_text (line_words l) (codes "end") e in
        let read : line_of s (codes "end") ≡ Some l = rw same at (line_back s l h) in
        absurd (cc)
    by false e = refl

next_line : (s : Script) (number : ℕ) (earlier : List Line) (l : Line) (rest : List ℕ) → IsLine s l → lines_from s number earlier (parts_of 10 (line_text l ++ rest)) ≡ lines_from s (number + 1) (l ∷ earlier) (parts_of 10 rest)
next_line s number earlier l rest h =
    let cut : parts_of 10 (line_text l ++ rest) ≡ line_words l ∷ parts_of 10 rest = ap (parts_of 10) (append_assoc (line_words l) (codes "\n") rest) ∙ next_part 10 (line_words l) rest (line_clear s l h) in
    rw (cut, not_empty (parts_of 10 rest) (parts_some 10 rest), not_end s l h, line_back s l h) refl

-- ---- all lines

all_lines : (s : Script) (number : ℕ) (lines earlier : List Line) (rest : List ℕ) → AreLines s lines → lines_from s number earlier (parts_of 10 (lines_text lines ++ rest)) ≡ lines_from s (number + length lines) (lines ++ earlier) (parts_of 10 rest)
all_lines s number [] earlier rest h =
    let same : number + 0 ≡ number = omega arith in
    rw same refl
all_lines s number (l ∷ lines) earlier rest h =
    let same : (number + length lines) + 1 ≡ number + length (l ∷ lines) = omega arith in
    ap (λ (xs : List ℕ). lines_from s number earlier (parts_of 10 xs)) (append_assoc (lines_text lines) (line_text l) rest)
    ∙ all_lines s number lines earlier (line_text l ++ rest) h.1
    ∙ next_line s (number + length lines) (lines ++ earlier) l rest h.0
    ∙ ap (λ (n : ℕ). lines_from s n (l ∷ (lines ++ earlier)) (parts_of 10 rest)) same

lines_back : (s : Script) (lines : List Line) → AreLines s lines → lines_from s 3 [] (parts_of 10 (lines_text lines ++ codes "end\n")) ≡ Ok lines
lines_back s lines h = all_lines s 3 lines [] (codes "end\n") h ∙ ap (λ (ls : List Line). Ok ls) (append-nil lines)

-- ---- the first two lines

script_clear : (s : Script) → Lacks 10 (codes "script " ++ script_text s)
script_clear s = lacks_both 10 (codes "script ") (script_text s) (by_test 10 (codes "script ") refl) (json_plain (script_data s))

script_line_back : (s : Script) → script_of_bytes (script_text s) ≡ Ok s → script_line (codes "script " ++ script_text s) ≡ Some s
script_line_back s h = rw (h, same_self (script_text s)) refl

mode_words : Mode → List ℕ
mode_words Replay = codes "mode replay"
mode_words Run = codes "mode run"

mode_is : (m : Mode) → mode_text m ≡ codes "\n" ++ mode_words m ++ codes "\n"
unfolding mode_words
mode_is Replay = refl
mode_is Run = refl

mode_clear : (m : Mode) → Lacks 10 (mode_words m)
unfolding mode_words
mode_clear Replay = by_test 10 (codes "mode replay") refl
mode_clear Run = by_test 10 (codes "mode run") refl

mode_back : (m : Mode) → mode_line (mode_words m) ≡ Some m
unfolding mode_words
mode_back Replay = refl
mode_back Run = refl

-- ---- the report

-- the text, line by line
text_is : (s : Script) (m : Mode) (lines : List Line) → codes "script " ++ script_text s ++ mode_text m ++ lines_text lines ++ codes "end\n" ≡ (codes "script " ++ script_text s) ++ 10 ∷ (mode_words m ++ 10 ∷ (lines_text lines ++ codes "end\n"))
text_is s m lines =
    let first = codes "script " ++ script_text s in
    let rest = lines_text lines ++ codes "end\n" in
    let front : first ++ mode_text m ≡ first ++ (10 ∷ (mode_words m ++ codes "\n")) = ap (λ (xs : List ℕ). first ++ xs) (mode_is m) in
    append_assoc (first ++ mode_text m) (lines_text lines) (codes "end\n")
    ∙ ap (λ (xs : List ℕ). xs ++ rest) front
    ∙ append_assoc first (10 ∷ (mode_words m ++ codes "\n")) rest
    ∙ ap (λ (xs : List ℕ). first ++ 10 ∷ xs) (append_assoc (mode_words m) (codes "\n") rest)

read_parts : (s : Script) (m : Mode) (lines : List Line) (parts : List (List ℕ)) → HasFirst parts → script_of_bytes (script_text s) ≡ Ok s → lines_from s 3 [] parts ≡ Ok lines → report_of_parts ((codes "script " ++ script_text s) ∷ mode_words m ∷ parts) ≡ Ok (record { script = s; mode = m; lines = lines })
read_parts s m lines [] some h e = absurd some
read_parts s m lines (part ∷ parts) some h e = rw (script_line_back s h, mode_back m, e) refl

pub reports_back : AreReadBack
reports_back r h =
    let rest = lines_text r.lines ++ codes "end\n" in
    let first = next_part 10 (codes "script " ++ script_text r.script) (mode_words r.mode ++ 10 ∷ rest) (script_clear r.script) in
    let second = next_part 10 (mode_words r.mode) rest (mode_clear r.mode) in
    ap report_of (text_is r.script r.mode r.lines)
    ∙ ap report_of_parts (first ∙ ap (λ (ps : List (List ℕ)). (codes "script " ++ script_text r.script) ∷ ps) second)
    ∙ read_parts r.script r.mode r.lines (parts_of 10 rest) (parts_some 10 rest) h.script (lines_back r.script r.lines h.lines)

-- what was written of a report whose script is read from its own text
pub written_back : {E : Type 0} (r : Report) (text : List ℕ) → text ≡ script_text r.script → (keeps_rules r.script ≡ true → script_of_bytes text ≡ Ok r.script) → (written : Result (List ℕ) E) → IfOk written (λ bytes. bytes ≡ report_text r)
    → IfOk written (λ bytes. keeps_rules r.script ≡ true → AreLines r.script r.lines → report_of bytes ≡ Ok r)
written_back r text same back (Ok bytes) is = λ keeps lines. ap report_of is ∙ reports_back r (record { script = ap script_of_bytes (sym same) ∙ back keeps; lines = lines })
written_back r text same back (Err error) is = tt
