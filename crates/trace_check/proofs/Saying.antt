-- What is said of a report, from what was judged.
use Rattle.std.proofs.Common.{◌≡◌, ◌+◌, ℕ, slice_get, length, Option, Some, None, Result, Ok, Err, true, refl, ap, sym, subst, ◌∙◌}
use Rattle.std.specs.Prelude.{reverse, is_err, OnOk}
use Rattle.report.specs.declared.line.Line.{Line}
use Rattle.report.specs.declared.lines.Report.{Report}
use Rattle.rules.specs.Legal.{lowest_broken, at_line, first_broken}
use Rattle.trace_check.specs.declared.behind.Behind.{Behind}
use Rattle.trace_check.specs.declared.checking.CheckError.{CheckError}
use Rattle.trace_check.specs.declared.checking.CheckError.TheVariants.{Illegal, Memory}
use Rattle.trace_check.specs.Judging.{tests_now, end_tests_now, Follows}
use Rattle.trace_check.specs.Verdict.{Says}
use Rattle.trace_check.specs.UpTo.{UpTo}
use Rattle.trace_check.proofs.UpTo.{upto_more, upto_broken, upto_end}

said_by : (r : Report) (at : ℕ) (b : Behind) (l : Line) (broken : Option ℕ) (n rule : ℕ) → slice_get (reverse r.lines) at ≡ Some l → UpTo r at b → lowest_broken (tests_now r.script r.mode l b) ≡ broken → at_line (at + 3) broken ≡ Some (n, rule) → first_broken r ≡ Some (n, rule)
said_by r at b l None n rule e h q said = absurd (cc)
said_by r at b l (Some x) n rule e h q said = upto_broken r at x b l e h q ∙ said

-- an error at a line is the report's
pub says_broken : (r : Report) (at : ℕ) (b : Behind) (l : Line) (broken : Option ℕ) (v : Result (Unit {0}) CheckError) → slice_get (reverse r.lines) at ≡ Some l → UpTo r at b → broken ≡ lowest_broken (tests_now r.script r.mode l b) → Says (at_line (at + 3) broken) v → is_err v ≡ true → Says (first_broken r) v
says_broken r at b l broken (Ok u) e h q said err = absurd (cc)
says_broken r at b l broken (Err (Illegal n rule)) e h q said err = said_by r at b l broken n rule e h (sym q) said
says_broken r at b l broken (Err Memory) e h q said err = tt

said_more : (r : Report) (at : ℕ) (b b' : Behind) (l : Line) (broken : Option ℕ) → slice_get (reverse r.lines) at ≡ Some l → UpTo r at b → lowest_broken (tests_now r.script r.mode l b) ≡ broken → (broken ≡ None → Follows r.script l b b') → at_line (at + 3) broken ≡ None → UpTo r (at + 1) b'
said_more r at b b' l None e h q f said = upto_more r at b b' l e h q (f refl)
said_more r at b b' l (Some n) e h q f said = absurd (cc)

-- where none is said, the report is unbroken up to the next line
pub says_more : (r : Report) (at : ℕ) (b b' : Behind) (l : Line) (broken : Option ℕ) (v : Result (Unit {0}) CheckError) → slice_get (reverse r.lines) at ≡ Some l → UpTo r at b → broken ≡ lowest_broken (tests_now r.script r.mode l b) → (broken ≡ None → Follows r.script l b b') → Says (at_line (at + 3) broken) v → OnOk v (UpTo r (at + 1) b')
says_more r at b b' l broken (Ok u) e h q f said = said_more r at b b' l broken e h (sym q) f said
says_more r at b b' l broken (Err x) e h q f said = tt

-- what is said at the end is said of the report
pub says_end : (r : Report) (b : Behind) (broken : Option ℕ) (v : Result (Unit {0}) CheckError) → UpTo r (length r.lines) b → broken ≡ lowest_broken (end_tests_now r.script r.mode b) → Says (at_line (length r.lines + 3) broken) v → Says (first_broken r) v
says_end r b broken v h q said =
    subst (λ o. Says o v) (ap (at_line (length r.lines + 3)) q ∙ sym (upto_end r b h)) said
