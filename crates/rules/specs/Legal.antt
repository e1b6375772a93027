-- Whether a report is legal: no line, and not its end, fails one of the ten tests.
use Rattle.std.specs.Prelude.{ℕ, ◌+◌, ◌&&◌, Bool, true, false, List, [], ◌∷◌, Option, Some, None}
use Rattle.script_reader.specs.declared.types.Script.{Script}
use Rattle.report.specs.declared.line.Mode.{Mode}
use Rattle.report.specs.declared.line.Line.{Line}
use Rattle.report.specs.declared.lines.Report.{Report}
use Rattle.rules.specs.Work.{is_finished}
use Rattle.rules.specs.After.{is_mark}
use Rattle.rules.specs.State.{changes_of, State, first_state, state_after, state_of}
use Rattle.rules.specs.Rules.{has_right_response, has_right_snapshot, has_right_edit, are_channels_right, is_rest_right, has_right_answer, are_answers_given, has_right_verify, is_turn_right, has_right_place, has_right_fault, is_end_published}

-- ---- the rules at a place

-- what the tests at a place say, in the order of the rules
pub record Tests : Type 0 where
  pub responses : Bool
  pub snapshots : Bool
  pub edits : Bool
  pub channels : Bool
  pub rest : Bool
  pub answers : Bool
  pub verifications : Bool
  pub turns : Bool
  pub ending : Bool
  pub faults : Bool

abbrev pub all_pass : Tests → Bool
all_pass t = t.responses && (t.snapshots && (t.edits && (t.channels && (t.rest && (t.answers && (t.verifications && (t.turns && (t.ending && t.faults))))))))

-- the first that fails, from this number on
abbrev pub first_false : ℕ → List Bool → Option ℕ
first_false n [] = None
first_false n (false ∷ tests) = Some n
first_false n (true ∷ tests) = first_false (n + 1) tests

-- the lowest rule that fails
abbrev pub lowest_broken : Tests → Option ℕ
lowest_broken t = first_false 1 (t.responses ∷ t.snapshots ∷ t.edits ∷ t.channels ∷ t.rest ∷ t.answers ∷ t.verifications ∷ t.turns ∷ t.ending ∷ t.faults ∷ [])

-- the tests of the turn that ends at a mark; `changed` gives the last event that changed what the card shows of a family
abbrev pub mark_tests : Script → Mode → (ℕ → ℕ) → State → Line → Tests
mark_tests s m changed st l = record {
  responses = true;
  snapshots = true;
  edits = true;
  channels = are_channels_right st.world st.kept;
  rest = is_rest_right st changed;
  answers = are_answers_given s st.world st.kept;
  verifications = true;
  turns = has_right_place s m st l;
  ending = true;
  faults = is_end_published st.kept.turn;
}

abbrev pub other_tests : Script → Mode → State → Line → Tests
other_tests s m st l = record {
  responses = has_right_response st.world l;
  snapshots = has_right_snapshot st.world st.kept l;
  edits = has_right_edit s st.world st.kept l;
  channels = true;
  rest = true;
  answers = has_right_answer s st.world st.kept l;
  verifications = has_right_verify s st.kept l;
  turns = has_right_place s m st l;
  ending = true;
  faults = has_right_fault s st.world st.kept l;
}

abbrev pub line_tests : Script → Mode → (ℕ → ℕ) → State → Line → Tests
line_tests s m changed st l = elim (is_mark l) [ true ↦ mark_tests s m changed st l | false ↦ other_tests s m st l ]

-- the end of the report ends the last turn
abbrev pub end_tests : Script → Mode → (ℕ → ℕ) → State → Tests
end_tests s m changed st = record {
  responses = true;
  snapshots = true;
  edits = true;
  channels = are_channels_right st.world st.kept;
  rest = is_rest_right st changed;
  answers = are_answers_given s st.world st.kept;
  verifications = true;
  turns = is_turn_right m st.world st.kept;
  ending = is_finished s st.kept;
  faults = is_end_published st.kept.turn;
}

-- the last event that changed what the card shows of a family
abbrev pub changed_in : Script → List Line → ℕ → ℕ
changed_in s lines f = (changes_of s f lines).changed

-- ---- legal

abbrev pub is_legal_line : Script → Mode → Line → List Line → Bool
is_legal_line s m l earlier = all_pass (line_tests s m (changed_in s earlier) (state_of s earlier) l)

abbrev pub are_legal_lines : Script → Mode → List Line → Bool
are_legal_lines s m [] = true
are_legal_lines s m (l ∷ earlier) = is_legal_line s m l earlier && are_legal_lines s m earlier

abbrev pub is_legal_end : Script → Mode → List Line → Bool
is_legal_end s m lines = all_pass (end_tests s m (changed_in s lines) (state_of s lines))

-- no line fails a test, and not the end; the lines are the newest first
abbrev pub legal : Report → Bool
legal r = are_legal_lines r.script r.mode r.lines && is_legal_end r.script r.mode r.lines

-- ---- the first broken line

-- what was found so far: the state behind the lines, the number of the next line, and the first line that fails a test with the lowest
-- rule that fails there
pub record Judged : Type 0 where
  pub state : State
  pub next : ℕ
  pub broken : Option (ℕ × ℕ)

-- the script and the mode are lines 1 and 2
abbrev pub unjudged : Script → Judged
unjudged s = record { state = first_state s; next = 3; broken = None }

abbrev pub at_line : ℕ → Option ℕ → Option (ℕ × ℕ)
at_line n None = None
at_line n (Some rule) = Some (n, rule)

abbrev pub judged_after : Script → Mode → (ℕ → ℕ) → Line → Judged → Judged
judged_after s m changed l j = elim j.broken [
  | Some broken ↦ j
  | None ↦ record {
    state = state_after s l j.state;
    next = j.next + 1;
    broken = at_line j.next (lowest_broken (line_tests s m changed j.state l));
  }
]

abbrev pub judged_of : Script → Mode → List Line → Judged
judged_of s m [] = unjudged s
judged_of s m (l ∷ earlier) = judged_after s m (changed_in s earlier) l (judged_of s m earlier)

abbrev pub judged_end : Script → Mode → (ℕ → ℕ) → Judged → Option (ℕ × ℕ)
judged_end s m changed j = elim j.broken [
  | Some broken ↦ Some broken
  | None ↦ at_line j.next (lowest_broken (end_tests s m changed j.state))
]

-- the first line that fails a test, and the lowest rule that fails there
abbrev pub first_broken : Report → Option (ℕ × ℕ)
first_broken r = judged_end r.script r.mode (changed_in r.script r.lines) (judged_of r.script r.mode r.lines)
