-- A run that does what is due: each line is the one that `due` says, with its numbers and its text. The program's runs are such; a legal
-- report may also publish the end of an epoch later in its turn, and a look of a running system may show an earlier board.
use Rattle.std.specs.Prelude.{ℕ, ◌+◌, ◌==◌, ◌&&◌, Bool, true, false, List, [], ◌∷◌, Some, is_none}
use Rattle.apdu.specs.Words.{has_value, same_bytes}
use Rattle.apdu.specs.Apdu.{same_command}
use Rattle.card_model.specs.declared.world.WorldEvent.{WorldEvent}
use Rattle.card_model.specs.declared.world.World.{World}
use Rattle.card_model.specs.Slot.{refusal_of}
use Rattle.script_reader.specs.declared.types.Script.{Script}
use Rattle.report.specs.declared.answer.Answer.{Answer}
use Rattle.report.specs.declared.line.Line.{Line}
use Rattle.report.specs.declared.line.Line.TheVariants as line
use Rattle.report.specs.declared.lines.Report.{Report}
use Rattle.rules.specs.declared.due.Due.{Due}
use Rattle.rules.specs.declared.due.Due.TheVariants.{TellEnd as tell_end, Send as send, ResetCard as reset_card, TryEvent as try_event, TellRefusal as tell_refusal, Publish as publish, Give as give, Begin as begin, WaitFor as wait_for, EndOfActor as end_of_actor, Rest as rest}
use Rattle.rules.specs.declared.kept.Kept.{Kept}
use Rattle.rules.specs.Kept.{begun_of}
use Rattle.rules.specs.Due.{due, kept_text, slot_answer_by}
use Rattle.rules.specs.Rules.{is_turn_of, is_begun_at, same_event, same_answer}
use Rattle.rules.specs.State.{State, first_state, state_after}

-- a turn ends where nothing is due in it
abbrev pub ends_turn : Due → Bool
ends_turn rest = true
ends_turn (wait_for b) = true
ends_turn end_of_actor = true
ends_turn d = false

abbrev pub begins_as : ℕ → Due → Bool
begins_as i (begin j) = i == j
begins_as i d = false

abbrev pub is_sent : Due → Line → Bool
is_sent (send due) (line.Exchange a c r) = same_command c due
is_sent (send due) (line.Failed a c d) = same_command c due
is_sent d l = false

abbrev pub is_reset : Due → Bool
is_reset reset_card = true
is_reset d = false

abbrev pub happens_as : World → WorldEvent → Due → Bool
happens_as world e (try_event tried) = same_event e tried && is_none (refusal_of world tried)
happens_as world e d = false

abbrev pub is_published : Kept → ℕ → ℕ → ℕ → ℕ → List ℕ → Due → Bool
is_published k number f epoch point text (publish g) =
    (f == g) && (number == k.publications + 1) && (epoch == k.history.epoch) && (point == k.history.events) && same_bytes text (kept_text f k)
is_published k number f epoch point text d = false

abbrev pub is_end_told : Kept → ℕ → ℕ → ℕ → Due → Bool
is_end_told k number epoch event (tell_end e n) = (number == k.publications + 1) && (epoch == e) && (event == n)
is_end_told k number epoch event d = false

abbrev pub is_refusal_told : ℕ → ℕ → Due → Bool
is_refusal_told f n (tell_refusal g m) = (f == g) && (n == m)
is_refusal_told f n d = false

-- the answer that is due, or the slot's refusal of the event that is tried
abbrev pub is_given : World → Answer → Due → Bool
is_given world given (give due) = same_answer given due
is_given world given (try_event e) = has_value (same_answer given) (slot_answer_by world (Some e))
is_given world given d = false

-- the line is what is due
abbrev pub does : World → Kept → Due → Line → Bool
does world k d (line.Turn a) = ends_turn d
does world k d (line.Begin a i) = is_turn_of a k.turn && begins_as i d
does world k d (line.Exchange a c r) = is_turn_of a k.turn && is_sent d (line.Exchange a c r)
does world k d (line.Failed a c acted) = is_turn_of a k.turn && is_sent d (line.Failed a c acted)
does world k d (line.Reset a) = is_turn_of a k.turn && is_reset d
does world k d (line.ResetFailed a) = is_turn_of a k.turn && is_reset d
does world k d (line.World a e) = is_turn_of a k.turn && happens_as world e d
does world k d (line.Published number f e n text) = is_published k number f e n text d
does world k d (line.EpochEnd number e n) = is_end_told k number e n d
does world k d (line.Refused f n) = is_turn_of 0 k.turn && is_refusal_told f n d
does world k d (line.Answered a i given) = is_turn_of a k.turn && (is_begun_at i (begun_of a k.jobs) && is_given world given d)

abbrev pub does_due : Script → State → Line → Bool
does_due s st l = does st.world st.kept (due s st.kept) l

-- the state behind the lines, and whether each of them was due
pub record Performed : Type 0 where
  pub state : State
  pub due : Bool

abbrev pub performed_after : Script → Line → Performed → Performed
performed_after s l p = record { state = state_after s l p.state; due = does_due s p.state l && p.due }

abbrev pub performed_of : Script → List Line → Performed
performed_of s [] = record { state = first_state s; due = true }
performed_of s (l ∷ earlier) = performed_after s l (performed_of s earlier)

-- each line was due
abbrev pub are_due : Script → List Line → Bool
are_due s lines = (performed_of s lines).due

abbrev pub performs : Report → Bool
performs r = are_due r.script r.lines
