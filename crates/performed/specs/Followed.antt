-- Lines each of which is the one that is due, whatever the slot answers.
use Rattle.std.specs.Prelude.{ℕ, ◌&&◌, not, nat_le, Bool, true, false, List, [], ◌∷◌}
use Rattle.card_model.specs.declared.world.WorldEvent.{WorldEvent}
use Rattle.script_reader.specs.declared.types.Script.{Script}
use Rattle.report.specs.declared.answer.Answer.{Answer}
use Rattle.report.specs.declared.answer.Answer.TheVariants as answer
use Rattle.report.specs.declared.line.Line.{Line}
use Rattle.report.specs.declared.line.Line.TheVariants as line
use Rattle.rules.specs.declared.due.Due.{Due}
use Rattle.rules.specs.declared.due.Due.TheVariants.{TryEvent as try_event, Give as give}
use Rattle.rules.specs.declared.kept.Kept.{Kept}
use Rattle.rules.specs.Kept.{actor_count, begun_of}
use Rattle.rules.specs.Work.{is_finished}
use Rattle.rules.specs.After.{kept_of}
use Rattle.rules.specs.Due.{due}
use Rattle.rules.specs.Rules.{is_turn_of, is_begun_at, same_event, same_answer}
use Rattle.rules.specs.Performed.{ends_turn, begins_as, is_sent, is_reset, is_published, is_end_told, is_refusal_told}

-- an answer that a slot may give to an event which it refuses
abbrev pub is_slot_answer : Answer → Bool
is_slot_answer answer.SlotFull = true
is_slot_answer answer.SlotEmpty = true
is_slot_answer answer.ArmFull = true
is_slot_answer given = false

-- the answer that is due, or one of the slot's to the event that is tried
abbrev pub is_given_or_refused : Answer → Due → Bool
is_given_or_refused given (give due) = same_answer given due
is_given_or_refused given (try_event e) = is_slot_answer given
is_given_or_refused given d = false

abbrev pub is_tried : WorldEvent → Due → Bool
is_tried e (try_event tried) = same_event e tried
is_tried e d = false

-- a turn begins of the framework or of an actor, where nothing more is due in the turn before, and the run is not finished
abbrev pub begins_turn : Script → Kept → Due → ℕ → Bool
begins_turn s k d a = ends_turn d && not (is_finished s k) && nat_le a (actor_count s)

-- the line does what is due
abbrev pub follows : Script → Kept → Due → Line → Bool
follows s k d (line.Turn a) = begins_turn s k d a
follows s k d (line.Begin a i) = is_turn_of a k.turn && begins_as i d
follows s k d (line.Exchange a c r) = is_turn_of a k.turn && is_sent d (line.Exchange a c r)
follows s k d (line.Failed a c acted) = is_turn_of a k.turn && is_sent d (line.Failed a c acted)
follows s k d (line.Reset a) = is_turn_of a k.turn && is_reset d
follows s k d (line.ResetFailed a) = is_turn_of a k.turn && is_reset d
follows s k d (line.World a e) = is_turn_of a k.turn && is_tried e d
follows s k d (line.Published number f e n text) = is_published k number f e n text d
follows s k d (line.EpochEnd number e n) = is_end_told k number e n d
follows s k d (line.Refused f n) = is_turn_of 0 k.turn && is_refusal_told f n d
follows s k d (line.Answered a i given) = is_turn_of a k.turn && (is_begun_at i (begun_of a k.jobs) && is_given_or_refused given d)

abbrev pub is_followed : Script → Kept → Line → Bool
is_followed s k l = follows s k (due s k) l

-- each line does what was due behind those before it
abbrev pub are_followed : Script → List Line → Bool
are_followed s [] = true
are_followed s (l ∷ earlier) = are_followed s earlier && is_followed s (kept_of s earlier) l
