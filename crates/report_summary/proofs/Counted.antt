-- Lines that are counted from the first on.
use Rattle.std.proofs.Common.{◌≡◌, ◌<◌, ◌≤◌, ◌+◌, ℕ, Bool, true, false, cond, List, [], ◌∷◌, length, take, min, slice_get, get_or, Some, None, refl, ap, sym, subst, ◌∙◌, arith}
use Rattle.std.specs.Prelude.{reverse}
use Rattle.std.specs.List.{count_by}
use Rattle.std.proofs.Math.Seq.{take-length}
use Rattle.std.proofs.lemmas.List.{take_more, reverse-append, reverse-reverse, length-reverse, length-take}
use Rattle.std.proofs.lemmas.List.Sums.{sum_by-cons, count_by-le-length}
use Rattle.std.proofs.lemmas.Option.{slice_get_within, slice_get-get_or, get_or_from_slice_get}
use Rattle.report.specs.declared.line.Line.{Line}
use Rattle.report.specs.declared.line.Line.TheVariants as line
use Rattle.rules.specs.After.{is_publication}
use Rattle.rules.specs.History.{is_event}
use Rattle.report_summary.specs.Summary.{counted, count_if, is_answer, is_refusal, seen, summary_of}

-- ---- the lines so far

pub seen_more : (lines : List Line) (at : ℕ) (l : Line) → slice_get (reverse lines) at ≡ Some l → seen (at + 1) lines ≡ l ∷ seen at lines
seen_more lines at l e =
    let within : at < length (reverse lines) = slice_get_within (reverse lines) at l e in
    let same : get_or (reverse lines) at (line.Turn 0) ≡ l = get_or_from_slice_get (reverse lines) at l (line.Turn 0) e in
    ap reverse (take_more (reverse lines) at (line.Turn 0) within)
    ∙ reverse-append (take at (reverse lines)) (get_or (reverse lines) at (line.Turn 0) ∷ [])
    ∙ ap (λ x. x ∷ seen at lines) same

-- the line of each index is there
pub line_there : (lines : List Line) (at : ℕ) → at < length lines → slice_get (reverse lines) at ≡ None → ⊥
line_there lines at h none =
    let within : at < length (reverse lines) = subst (λ (n : ℕ). at < n) (sym (length-reverse lines)) h in
    let there : slice_get (reverse lines) at ≡ Some (get_or (reverse lines) at (line.Turn 0)) = slice_get-get_or (reverse lines) at (line.Turn 0) within in
    absurd (cc)

pub seen_all : (lines : List Line) → seen (length lines) lines ≡ lines
seen_all lines =
    ap (λ n. reverse (take n (reverse lines))) (sym (length-reverse lines))
    ∙ ap reverse (take-length (reverse lines))
    ∙ reverse-reverse lines

-- ---- counts

count_by_if : (b : Bool) (n : ℕ) → cond b 1 0 + n ≡ count_if b n
count_by_if true n = omega arith
count_by_if false n = omega arith

count_cons : (p : Line → Bool) (l : Line) (lines : List Line) → count_by p (l ∷ lines) ≡ count_if (p l) (count_by p lines)
count_cons p l lines = sum_by-cons (λ (x : Line). cond (p x) 1 0) l lines ∙ count_by_if (p l) (count_by p lines)

summary_cons : (l : Line) (lines : List Line) → summary_of (l ∷ lines) ≡ counted l (summary_of lines)
summary_cons l lines = rw (count_cons is_event l lines, count_cons is_publication l lines, count_cons is_answer l lines, count_cons is_refusal l lines) refl

-- one line more
pub summary_more : (lines : List Line) (at : ℕ) (l : Line) → slice_get (reverse lines) at ≡ Some l → counted l (summary_of (seen at lines)) ≡ summary_of (seen (at + 1) lines)
summary_more lines at l e = sym (ap summary_of (seen_more lines at l e) ∙ summary_cons l (seen at lines))

-- all of them
pub summary_all : (lines : List Line) (at : ℕ) → at ≡ length lines → summary_of (seen at lines) ≡ summary_of lines
summary_all lines at h = ap (λ (n : ℕ). summary_of (seen n lines)) h ∙ ap summary_of (seen_all lines)

-- no more than lines
pub few : (p : Line → Bool) (lines : List Line) (at : ℕ) → count_by p (seen at lines) ≤ at
few p lines at =
    let most : count_by p (seen at lines) ≤ length (seen at lines) = count_by-le-length p (seen at lines) in
    let some : length (seen at lines) ≡ length (take at (reverse lines)) = length-reverse (take at (reverse lines)) in
    let short : length (take at (reverse lines)) ≡ min at (length (reverse lines)) = length-take at (reverse lines) in
    omega arith
