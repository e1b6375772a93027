-- The first broken line is none exactly where the report is legal.
use Rattle.std.proofs.Common.{◌≡◌, ℕ, ◌+◌, Bool, true, false, ◌&&◌, Option, Some, None, List, [], ◌∷◌, refl, ap, sym, ◌∙◌}
use Rattle.std.specs.Prelude.{is_none}
use Rattle.script_reader.specs.declared.types.Script.{Script}
use Rattle.report.specs.declared.line.Mode.{Mode}
use Rattle.report.specs.declared.line.Line.{Line}
use Rattle.report.specs.declared.lines.Report.{Report}
use Rattle.rules.specs.State.{State, state_after, state_of}
use Rattle.rules.specs.Legal.{Tests, all_pass, first_false, lowest_broken, line_tests, end_tests, changed_in, is_legal_line, are_legal_lines, is_legal_end, legal, Judged, at_line, judged_after, judged_of, judged_end, first_broken}

abbrev all_true : List Bool → Bool
all_true [] = true
all_true (b ∷ []) = b
all_true (b ∷ c ∷ bs) = b && all_true (c ∷ bs)

none_false : (n : ℕ) (bs : List Bool) → is_none (first_false n bs) ≡ all_true bs
none_false n [] = refl
none_false n (false ∷ []) = refl
none_false n (true ∷ []) = refl
none_false n (false ∷ c ∷ bs) = refl
none_false n (true ∷ c ∷ bs) = none_false (n + 1) (c ∷ bs)

pub none_broken : (t : Tests) → is_none (lowest_broken t) ≡ all_pass t
none_broken t = none_false 1 (t.responses ∷ t.snapshots ∷ t.edits ∷ t.channels ∷ t.rest ∷ t.answers ∷ t.verifications ∷ t.turns ∷ t.ending ∷ t.faults ∷ [])

none_at : (n : ℕ) (o : Option ℕ) → is_none (at_line n o) ≡ is_none o
none_at n None = refl
none_at n (Some r) = refl

none_of : {A : Type 0} (o : Option A) → is_none o ≡ true → o ≡ None
none_of None h = refl
none_of (Some x) h = cc

-- what judging these lines comes to
pub record JudgedAs (s : Script) (m : Mode) (lines : List Line) (j : Judged) : Type 0 where
  pub verdict : is_none j.broken ≡ are_legal_lines s m lines
  pub state : j.broken ≡ None → j.state ≡ state_of s lines

and_false : (b : Bool) → b && false ≡ false
and_false true = refl
and_false false = refl

line_verdict : (s : Script) (m : Mode) (l : Line) (earlier : List Line) (n : ℕ) (st : State) → st ≡ state_of s earlier → is_none (at_line n (lowest_broken (line_tests s m (changed_in s earlier) st l))) ≡ is_legal_line s m l earlier
line_verdict s m l earlier n st h =
    none_at n (lowest_broken (line_tests s m (changed_in s earlier) st l))
    ∙ none_broken (line_tests s m (changed_in s earlier) st l)
    ∙ ap (λ (x : State). all_pass (line_tests s m (changed_in s earlier) x l)) h

judged_step : (s : Script) (m : Mode) (l : Line) (earlier : List Line) (st : State) (n : ℕ) (o : Option (ℕ × ℕ)) → JudgedAs s m earlier (record { state = st; next = n; broken = o }) → JudgedAs s m (l ∷ earlier) (judged_after s m (changed_in s earlier) l (record { state = st; next = n; broken = o }))
judged_step s m l earlier st n (Some b) h = record {
  verdict = sym (and_false (is_legal_line s m l earlier)) ∙ ap (λ v. is_legal_line s m l earlier && v) h.verdict;
  state = λ e. absurd (cc);
}
judged_step s m l earlier st n None h = record {
  verdict = line_verdict s m l earlier n st (h.state refl) ∙ sym (and_true (is_legal_line s m l earlier)) ∙ ap (λ v. is_legal_line s m l earlier && v) h.verdict;
  state = λ e. ap (state_after s l) (h.state refl);
}
  where
    and_true : (b : Bool) → b && true ≡ b
    and_true true = refl
    and_true false = refl

pub judged : (s : Script) (m : Mode) (lines : List Line) → JudgedAs s m lines (judged_of s m lines)
judged s m [] = record { verdict = refl; state = λ e. refl }
judged s m (l ∷ earlier) = judged_step s m l earlier (judged_of s m earlier).state (judged_of s m earlier).next (judged_of s m earlier).broken (judged s m earlier)

judged_last : (s : Script) (m : Mode) (lines : List Line) (st : State) (n : ℕ) (o : Option (ℕ × ℕ)) → JudgedAs s m lines (record { state = st; next = n; broken = o }) → is_none (judged_end s m (changed_in s lines) (record { state = st; next = n; broken = o })) ≡ are_legal_lines s m lines && is_legal_end s m lines
judged_last s m lines st n (Some b) h = ap (λ v. v && is_legal_end s m lines) h.verdict
judged_last s m lines st n None h =
    none_at n (lowest_broken (end_tests s m (changed_in s lines) st))
    ∙ none_broken (end_tests s m (changed_in s lines) st)
    ∙ ap (λ (x : State). all_pass (end_tests s m (changed_in s lines) x)) (h.state refl)
    ∙ ap (λ v. v && is_legal_end s m lines) h.verdict

pub legal_or_broken : (r : Report) → is_none (first_broken r) ≡ legal r
legal_or_broken r = judged_last r.script r.mode r.lines (judged_of r.script r.mode r.lines).state (judged_of r.script r.mode r.lines).next (judged_of r.script r.mode r.lines).broken (judged r.script r.mode r.lines)
