-- Judging line by line comes to the first broken line.
use Rattle.std.proofs.Common.{◌≡◌, ◌<◌, ◌+◌, ℕ, List, [], ◌∷◌, ◌++◌, length, take, drop, slice_get, get_or, Option, Some, None, refl, ap, sym, subst, ◌∙◌, arith}
use Rattle.std.specs.Prelude.{reverse}
use Rattle.std.proofs.Math.Seq.{take-length}
use Rattle.std.proofs.lemmas.List.{take_more, reverse-append, reverse-reverse, length-reverse, take-append-drop}
use Rattle.std.proofs.lemmas.Option.{slice_get_within, slice_get-get_or, get_or_from_slice_get}
use Rattle.script_reader.specs.declared.types.Script.{Script}
use Rattle.report.specs.declared.line.Mode.{Mode}
use Rattle.report.specs.declared.line.Line.{Line}
use Rattle.report.specs.declared.line.Line.TheVariants as line
use Rattle.report.specs.declared.lines.Report.{Report}
use Rattle.rules.specs.State.{State, state_of, state_after}
use Rattle.rules.specs.Legal.{lowest_broken, line_tests, end_tests, changed_in, Judged, at_line, judged_after, judged_of, judged_end, first_broken}
use Rattle.report_summary.specs.Summary.{seen}
use Rattle.report_summary.proofs.Counted as counted
use Rattle.report_summary.proofs.Counted.{seen_more}
use Rattle.trace_check.specs.UpTo.{IsUnbroken}

-- ---- the lines so far, the newest first

-- the line of each index is there
pub line_there : (lines : List Line) (at : ℕ) → at < length lines → slice_get (reverse lines) at ≡ None → ⊥
line_there lines at h none = counted.line_there lines at h none

-- the lines that are still to come stand before them
seen_behind : (lines : List Line) (at : ℕ) → reverse (drop at (reverse lines)) ++ seen at lines ≡ lines
seen_behind lines at =
    sym (reverse-append (take at (reverse lines)) (drop at (reverse lines)))
    ∙ ap reverse (take-append-drop at (reverse lines))
    ∙ reverse-reverse lines

-- ---- what was judged

pub unbroken_first : (s : Script) (m : Mode) → IsUnbroken s m [] 0
unbroken_first s m = record { judged = refl }

abbrev unbroken_at : State → ℕ → Judged
unbroken_at st n = record { state = st; next = n; broken = None }

abbrev after_by : State → ℕ → Option (ℕ × ℕ) → Judged
after_by st n o = record { state = st; next = n; broken = o }

after_legal : (s : Script) (m : Mode) (l : Line) (earlier : List Line) (at : ℕ) (o : Option ℕ) → o ≡ None → after_by (state_after s l (state_of s earlier)) (at + 3 + 1) (at_line (at + 3) o) ≡ unbroken_at (state_of s (l ∷ earlier)) (at + 1 + 3)
after_legal s m l earlier at None e = ap (unbroken_at (state_of s (l ∷ earlier))) (omega arith)
after_legal s m l earlier at (Some n) e = absurd (cc)

pub unbroken_more : (s : Script) (m : Mode) (l : Line) (earlier : List Line) (at : ℕ) → IsUnbroken s m earlier at → lowest_broken (line_tests s m (changed_in s earlier) (state_of s earlier) l) ≡ None → IsUnbroken s m (l ∷ earlier) (at + 1)
unbroken_more s m l earlier at h e = record {
  judged = ap (judged_after s m (changed_in s earlier) l) h.judged ∙ after_legal s m l earlier at (lowest_broken (line_tests s m (changed_in s earlier) (state_of s earlier) l)) e;
}

broken_by : (n rule : ℕ) (o : Option ℕ) → o ≡ Some rule → at_line n o ≡ Some (n, rule)
broken_by n rule o e = ap (at_line n) e

broken_line : (s : Script) (m : Mode) (l : Line) (earlier : List Line) (at rule : ℕ) → IsUnbroken s m earlier at → lowest_broken (line_tests s m (changed_in s earlier) (state_of s earlier) l) ≡ Some rule → (judged_of s m (l ∷ earlier)).broken ≡ Some (at + 3, rule)
broken_line s m l earlier at rule h e =
    ap (λ (j : Judged). (judged_after s m (changed_in s earlier) l j).broken) h.judged
    ∙ broken_by (at + 3) rule (lowest_broken (line_tests s m (changed_in s earlier) (state_of s earlier) l)) e

stays_by : (s : Script) (m : Mode) (changed : ℕ → ℕ) (l : Line) (st : State) (n : ℕ) (o : Option (ℕ × ℕ)) (b : ℕ × ℕ) → o ≡ Some b → (judged_after s m changed l (record { state = st; next = n; broken = o })).broken ≡ Some b
stays_by s m changed l st n None b e = absurd (cc)
stays_by s m changed l st n (Some x) b e = e

-- a line that is broken is the first for all lines behind it
stays_broken : (s : Script) (m : Mode) (front rest : List Line) (b : ℕ × ℕ) → (judged_of s m rest).broken ≡ Some b → (judged_of s m (front ++ rest)).broken ≡ Some b
stays_broken s m [] rest b e = e
stays_broken s m (l ∷ front) rest b e =
    let j = judged_of s m (front ++ rest) in
    stays_by s m (changed_in s (front ++ rest)) l j.state j.next j.broken b (stays_broken s m front rest b e)

ended_by : (s : Script) (m : Mode) (changed : ℕ → ℕ) (st : State) (n : ℕ) (o : Option (ℕ × ℕ)) (b : ℕ × ℕ) → o ≡ Some b → judged_end s m changed (record { state = st; next = n; broken = o }) ≡ Some b
ended_by s m changed st n None b e = absurd (cc)
ended_by s m changed st n (Some x) b e = e

ended_broken : (r : Report) (b : ℕ × ℕ) → (judged_of r.script r.mode r.lines).broken ≡ Some b → first_broken r ≡ Some b
ended_broken r b e =
    let j = judged_of r.script r.mode r.lines in
    ended_by r.script r.mode (changed_in r.script r.lines) j.state j.next j.broken b e

-- the first line that breaks a rule is the report's
pub first_at : (r : Report) (at rule : ℕ) (l : Line) → slice_get (reverse r.lines) at ≡ Some l → IsUnbroken r.script r.mode (seen at r.lines) at → lowest_broken (line_tests r.script r.mode (changed_in r.script (seen at r.lines)) (state_of r.script (seen at r.lines)) l) ≡ Some rule → first_broken r ≡ Some (at + 3, rule)
first_at r at rule l e h broken =
    let here : (judged_of r.script r.mode (l ∷ seen at r.lines)).broken ≡ Some (at + 3, rule) = broken_line r.script r.mode l (seen at r.lines) at rule h broken in
    let there : (judged_of r.script r.mode (seen (at + 1) r.lines)).broken ≡ Some (at + 3, rule) = ap (λ ls. (judged_of r.script r.mode ls).broken) (seen_more r.lines at l e) ∙ here in
    ended_broken r (at + 3, rule) (
    ap (λ ls. (judged_of r.script r.mode ls).broken) (sym (seen_behind r.lines (at + 1)))
    ∙ stays_broken r.script r.mode (reverse (drop (at + 1) (reverse r.lines))) (seen (at + 1) r.lines) (at + 3, rule) there)

-- where no line breaks a rule, the end is judged
pub first_at_end : (r : Report) → IsUnbroken r.script r.mode r.lines (length r.lines) → first_broken r ≡ at_line (length r.lines + 3) (lowest_broken (end_tests r.script r.mode (changed_in r.script r.lines) (state_of r.script r.lines)))
first_at_end r h = ap (judged_end r.script r.mode (changed_in r.script r.lines)) h.judged
