-- How much a run did.
use Rattle.std.specs.Prelude.{ℕ, ◌+◌, Bool, true, false, if◌then◌else◌, List, take, reverse}
use Rattle.std.specs.List.{count_by}
use Rattle.report.specs.declared.answer.Answer.{Answer}
use Rattle.report.specs.declared.answer.Answer.TheVariants as answer
use Rattle.report.specs.declared.line.Line.{Line}
use Rattle.report.specs.declared.line.Line.TheVariants as line
use Rattle.rules.specs.After.{is_publication}
use Rattle.rules.specs.History.{is_event}
use Rattle.report_summary.specs.declared.summary.Summary.{Summary}

abbrev pub is_answer : Line → Bool
is_answer (line.Answered a i answer) = true
is_answer l = false

-- what was asked for was not had
abbrev pub refuses : Answer → Bool
refuses answer.Moved = false
refuses (answer.Loaded k) = false
refuses (answer.Done n k left) = false
refuses (answer.Opened channel) = false
refuses (answer.Raw response) = false
refuses answer.Closed = false
refuses answer.Verified = false
refuses answer.Ended = false
refuses answer.Polled = false
refuses (answer.Look seen) = false
refuses answer.Watching = false
refuses (answer.Notices dropped numbers) = false
refuses a = true

abbrev pub is_refusal : Line → Bool
is_refusal (line.Answered a i answer) = refuses answer
is_refusal l = false

-- how many of the lines are events, publications (snapshots and ends of epochs), answers, and answers that refuse
abbrev pub summary_of : List Line → Summary
summary_of lines = record {
  events = count_by is_event lines;
  publications = count_by is_publication lines;
  answers = count_by is_answer lines;
  refusals = count_by is_refusal lines;
}

-- ---- line by line

-- so many lines from the first on, the newest first
abbrev pub seen : ℕ → List Line → List Line
seen at lines = reverse (take at (reverse lines))

abbrev pub count_if : Bool → ℕ → ℕ
count_if b n = if b then n + 1 else n

-- one line more
abbrev pub counted : Line → Summary → Summary
counted l s = record {
  events = count_if (is_event l) s.events;
  publications = count_if (is_publication l) s.publications;
  answers = count_if (is_answer l) s.answers;
  refusals = count_if (is_refusal l) s.refusals;
}
