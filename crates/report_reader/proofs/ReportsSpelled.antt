-- The bytes that are read as a report are its text.
use Rattle.std.proofs.Common.{◌≡◌, ℕ, ◌+◌, Bool, true, false, List, [], ◌∷◌, ◌++◌, Option, Some, None, Result, Ok, Err, if◌then◌else◌, sym, refl, ap, ◌∙◌, append_assoc, codes}
use Rattle.std.specs.Prelude.{⊤}
use Rattle.apdu.specs.Words.{◌>>=◌, same_bytes}
use Rattle.script_reader.specs.Reading.{Refusal}
use Rattle.script_reader.specs.declared.types.Script.{Script}
use Rattle.script_reader.specs.Scripts.{script_of_bytes}
use Rattle.script_writer.specs.Writing.{script_data, script_text}
use Rattle.report.specs.Texts.{line_words, lines_text, mode_text, report_text}
use Rattle.report.specs.declared.line.Line.{Line}
use Rattle.report.specs.declared.line.Mode.{Mode}
use Rattle.report.specs.declared.lines.Report.{Report}
use Rattle.report_reader.specs.Reads.{placed}
use Rattle.report_reader.specs.Words.{parts_of, first_word, behind_word}
use Rattle.report_reader.specs.Lines.{line_of}
use Rattle.report_reader.specs.Forms.{IsLine, AreLines, IsReport}
use Rattle.report_reader.specs.Reports.{written_script, script_of, script_line, mode_line, with_line, ended, lines_from, script_part, mode_part, report_of_parts, report_of}
use Rattle.report_reader.specs.Laws.{HaveOneSpelling}
use Rattle.report_reader.proofs.Parts.{same_text, HasFirst, joined, join_parts, cut}
use Rattle.report_reader.proofs.Readings.{Each, each_as, each_if, each_word}
use Rattle.report_reader.proofs.LinesSpelled.{line_spelled}

-- ---- what holds of whatever is read

abbrev OfRead : {A : Type 0} → (A → Type 0) → Result A ℕ → Type 0
OfRead P (Ok x) = P x
OfRead P (Err number) = ⊤

read_then : {A B : Type 0} (P : B → Type 0) (Q : A → Type 0) (r : Result A ℕ) (next : A → Result B ℕ) → OfRead Q r → ((x : A) → Q x → OfRead P (next x)) → OfRead P (r >>= next)
read_then P Q (Ok x) next h k = k x h
read_then P Q (Err number) next h k = tt

read_if : {A : Type 0} (P : A → Type 0) (test : Bool) (x y : Result A ℕ) → (test ≡ true → OfRead P x) → (test ≡ false → OfRead P y) → OfRead P (if test then x else y)
read_if P true x y h k = h refl
read_if P false x y h k = k refl

read_placed : {A : Type 0} (P : A → Type 0) (number : ℕ) (o : Option A) → Each P o → OfRead P (placed number o)
read_placed P number None h = tt
read_placed P number (Some x) h = h

-- ---- the lines

-- the lines, whose text is this behind that of earlier ones
abbrev AreLinesOf : Script → List ℕ → List Line → Type 0
AreLinesOf s text lines = AreLines s lines × (lines_text lines ++ codes "end\n" ≡ text)

ended_spelled : (s : Script) (number : ℕ) (earlier : List Line) (text : List ℕ) (parts : List (List ℕ)) → AreLines s earlier → text ≡ codes "end" → OfRead (AreLinesOf s (lines_text earlier ++ joined 10 (text ∷ parts))) (ended earlier number parts)
ended_spelled s number earlier text [] h e = tt
ended_spelled s number earlier text ([] ∷ []) h e = (h, rw e refl)
ended_spelled s number earlier text ([] ∷ other ∷ parts) h e = tt
ended_spelled s number earlier text ((b ∷ bytes) ∷ parts) h e = tt

lines_spelled : (s : Script) (number : ℕ) (earlier : List Line) (parts : List (List ℕ)) → AreLines s earlier → OfRead (AreLinesOf s (lines_text earlier ++ joined 10 parts)) (lines_from s number earlier parts)
lines_spelled s number earlier [] h = tt
lines_spelled s number earlier (text ∷ []) h = tt
lines_spelled s number earlier (text ∷ next ∷ parts) h =
    let P : List Line → Type 0 = AreLinesOf s (lines_text earlier ++ joined 10 (text ∷ next ∷ parts)) in
    read_if P (same_bytes text (codes "end")) _ _
    (λ e. ended_spelled s (number + 1) earlier text (next ∷ parts) h (same_text text (codes "end") e))
    (λ e. read_then P (λ (ls : List Line). AreLines s ls × (lines_text ls ≡ lines_text earlier ++ (text ++ codes "\n"))) (with_line s number text earlier) _ with_one (λ ls k.
    let whole : lines_text ls ++ joined 10 (next ∷ parts) ≡ lines_text earlier ++ joined 10 (text ∷ next ∷ parts) =
    ap (λ (xs : List ℕ). xs ++ joined 10 (next ∷ parts)) k.1
    ∙ append_assoc (lines_text earlier) (text ++ codes "\n") (joined 10 (next ∷ parts))
    ∙ ap (λ (xs : List ℕ). lines_text earlier ++ xs) (append_assoc text (codes "\n") (joined 10 (next ∷ parts))) in
    rw whole at (lines_spelled s (number + 1) ls (next ∷ parts) k.0)))
  where
    with_one : OfRead (λ (ls : List Line). AreLines s ls × (lines_text ls ≡ lines_text earlier ++ (text ++ codes "\n"))) (with_line s number text earlier)
    with_one =
        read_then (λ (ls : List Line). AreLines s ls × (lines_text ls ≡ lines_text earlier ++ (text ++ codes "\n"))) (λ (l : Line). IsLine s l × (line_words l ≡ text)) (placed number (line_of s text)) _ (read_placed _ number (line_of s text) (line_spelled s text)) (λ l k.
        ((k.0, h), ap (λ (xs : List ℕ). lines_text earlier ++ (xs ++ codes "\n")) k.1))

-- ---- the first two lines

-- a script that is read from its text, which this is
abbrev IsScriptOf : List ℕ → Script → Type 0
IsScriptOf text s = (script_of_bytes (script_text s) ≡ Ok s) × (script_text s ≡ text)

script_spelled : (text : List ℕ) → Each (IsScriptOf text) (script_of text)
script_spelled text = by (script_of_bytes text) refl
  where
    by : (r : Result Script Refusal) → script_of_bytes text ≡ r → Each (IsScriptOf text) (written_script text r)
    by (Ok s) e = each_if (IsScriptOf text) (same_bytes (script_text s) text) (Some s) None (λ same.
        let is = same_text (script_text s) text same in
        (ap script_of_bytes is ∙ e, is)) (λ other. tt)
    by (Err refusal) e = tt

some_text : (s : Script) → HasFirst (script_text s)
unfolding script_data
some_text s = tt

pub script_line_spelled : (line : List ℕ) → Each (λ (s : Script). (script_of_bytes (script_text s) ≡ Ok s) × (codes "script " ++ script_text s ≡ line)) (script_line line)
script_line_spelled line =
    let P : Script → Type 0 = λ s. (script_of_bytes (script_text s) ≡ Ok s) × (codes "script " ++ script_text s ≡ line) in
    each_word P (first_word line) (codes "script") _ _ (λ e. each_as P (IsScriptOf (behind_word line)) (script_of (behind_word line)) (script_spelled (behind_word line)) (λ s h.
    let some : HasFirst (behind_word line) = rw h.1 at (some_text s) in
    (h.0, ap (λ (xs : List ℕ). codes "script " ++ xs) h.1 ∙ ap (λ (xs : List ℕ). xs ++ 32 ∷ behind_word line) (sym e) ∙ cut line some))) tt

pub mode_spelled : (line : List ℕ) → Each (λ (m : Mode). mode_text m ≡ codes "\n" ++ line ++ codes "\n") (mode_line line)
mode_spelled line =
    let P : Mode → Type 0 = λ m. mode_text m ≡ codes "\n" ++ line ++ codes "\n" in
    each_word P line (codes "mode replay") _ _ (λ e. rw e refl)
    (each_word P line (codes "mode run") _ _ (λ e. rw e refl) tt)

-- ---- the report

-- a report whose text this is
abbrev IsReportOf : List ℕ → Report → Type 0
IsReportOf text r = IsReport r × (report_text r ≡ text)

parts_spelled : (parts : List (List ℕ)) → OfRead (IsReportOf (joined 10 parts)) (report_of_parts parts)
parts_spelled [] = tt
parts_spelled (first ∷ []) = tt
parts_spelled (first ∷ second ∷ []) = read_then (IsReportOf (joined 10 (first ∷ second ∷ []))) _ (script_part first) _ (read_placed _ 1 (script_line first) (script_line_spelled first)) (λ s h. tt)
parts_spelled (first ∷ second ∷ part ∷ parts) =
    let behind = joined 10 (part ∷ parts) in
    let P : Report → Type 0 = IsReportOf (first ++ 10 ∷ (second ++ 10 ∷ behind)) in
    read_then P _ (script_part first) _ (read_placed _ 1 (script_line first) (script_line_spelled first)) (λ s hs.
    read_then P _ (mode_part second (part ∷ parts)) _ (read_placed _ 2 (mode_line second) (mode_spelled second)) (λ m hm.
    read_then P (AreLinesOf s behind) (lines_from s 3 [] (part ∷ parts)) _ (lines_spelled s 3 [] (part ∷ parts) tt) (λ ls hl. (
      record { script = hs.0; lines = hl.0 },
      append_assoc (codes "script " ++ script_text s ++ mode_text m) (lines_text ls) (codes "end\n")
          ∙ ap (λ (xs : List ℕ). (codes "script " ++ script_text s ++ mode_text m) ++ xs) hl.1
          ∙ ap (λ (xs : List ℕ). (xs ++ mode_text m) ++ behind) hs.1
          ∙ ap (λ (xs : List ℕ). (first ++ xs) ++ behind) hm
          ∙ append_assoc first (10 ∷ (second ++ codes "\n")) behind
          ∙ ap (λ (xs : List ℕ). first ++ 10 ∷ xs) (append_assoc second (codes "\n") behind),
    ))))

was_read : {A : Type 0} (P : A → Type 0) (r : Result A ℕ) (x : A) → OfRead P r → r ≡ Ok x → P x
was_read P (Ok y) x h e =
    let same : y ≡ x = cc in
    rw same at h
was_read P (Err number) x h e = absurd (cc)

pub one_spelling : HaveOneSpelling
one_spelling bytes r e =
    let whole = join_parts 10 bytes in
    let h = was_read (IsReportOf (joined 10 (parts_of 10 bytes))) (report_of bytes) r (parts_spelled (parts_of 10 bytes)) e in
    (h.0, h.1 ∙ whole)
