-- A report up to one of its lines.
use Rattle.std.proofs.Common.{◌≡◌, ◌+◌, ℕ, ◌∷◌, slice_get, length, Some, None, ap, sym, subst, ◌∙◌}
use Rattle.std.specs.Prelude.{reverse}
use Rattle.report.specs.declared.line.Line.{Line}
use Rattle.report.specs.declared.lines.Report.{Report}
use Rattle.rules.specs.Legal.{lowest_broken, at_line, first_broken}
use Rattle.trace_check.specs.declared.behind.Behind.{Behind}
use Rattle.trace_check.specs.Behind.{IsBehind}
use Rattle.trace_check.specs.Displays.{AreShown}
use Rattle.trace_check.specs.Judging.{tests_now, end_tests_now, IsFirst, IsReady, Follows}
use Rattle.report_summary.specs.Summary.{seen}
use Rattle.report_summary.proofs.Counted.{seen_more, seen_all}
use Rattle.trace_check.specs.UpTo.{IsUnbroken, UpTo}
use Rattle.trace_check.proofs.Judged.{unbroken_first, unbroken_more, first_at, first_at_end}
use Rattle.trace_check.proofs.Knowing.{lowest_now, lowest_at_end}
use Rattle.trace_check.proofs.Stepping.{behind_none, behind_more}

pub upto_first : (r : Report) (b : Behind) → IsFirst r.script b → UpTo r 0 b
upto_first r b h = record { behind = behind_none r.script b h; judged = unbroken_first r.script r.mode }

pub upto_ready : (r : Report) (at : ℕ) (b : Behind) → UpTo r at b → IsReady b
upto_ready r at b h = record {
  faults = h.behind.faults;
  boards = h.behind.count ∙ ap (λ k. k.publications) (sym h.behind.kept);
  shown = subst (λ w. AreShown w b.displays) (sym h.behind.world) (record {
    records = h.behind.displays.records.shown;
    phonebook = h.behind.displays.phonebook.shown;
    fixed = h.behind.displays.fixed.shown;
  });
}

pub upto_more : (r : Report) (at : ℕ) (b b' : Behind) (l : Line) → slice_get (reverse r.lines) at ≡ Some l → UpTo r at b → lowest_broken (tests_now r.script r.mode l b) ≡ None → Follows r.script l b b' → UpTo r (at + 1) b'
upto_more r at b b' l e h none follows =
    let legal = sym (lowest_now r.script r.mode l (seen at r.lines) b h.behind) ∙ none in
    let lines : seen (at + 1) r.lines ≡ l ∷ seen at r.lines = seen_more r.lines at l e in
    record {
      behind = subst (λ ls. IsBehind r.script ls b') (sym lines) (behind_more r.script r.mode l (seen at r.lines) b b' h.behind legal follows);
      judged = subst (λ ls. IsUnbroken r.script r.mode ls (at + 1)) (sym lines) (unbroken_more r.script r.mode l (seen at r.lines) at h.judged legal);
    }

pub upto_broken : (r : Report) (at rule : ℕ) (b : Behind) (l : Line) → slice_get (reverse r.lines) at ≡ Some l → UpTo r at b → lowest_broken (tests_now r.script r.mode l b) ≡ Some rule → first_broken r ≡ Some (at + 3, rule)
upto_broken r at rule b l e h broken =
    first_at r at rule l e h.judged (sym (lowest_now r.script r.mode l (seen at r.lines) b h.behind) ∙ broken)

pub upto_end : (r : Report) (b : Behind) → UpTo r (length r.lines) b → first_broken r ≡ at_line (length r.lines + 3) (lowest_broken (end_tests_now r.script r.mode b))
upto_end r b h =
    let behind : IsBehind r.script r.lines b = subst (λ ls. IsBehind r.script ls b) (seen_all r.lines) h.behind in
    let judged : IsUnbroken r.script r.mode r.lines (length r.lines) = subst (λ ls. IsUnbroken r.script r.mode ls (length r.lines)) (seen_all r.lines) h.judged in
    first_at_end r judged ∙ ap (at_line (length r.lines + 3)) (sym (lowest_at_end r.script r.mode r.lines b behind))
