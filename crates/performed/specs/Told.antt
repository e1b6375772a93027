-- Lines that show what a slot gave which tells its world and its planned faults.
use Rattle.std.specs.Prelude.{◌&&◌, Bool, true, List, [], ◌∷◌, Option, Some, None, is_none}
use Rattle.apdu.specs.Words.{has_value}
use Rattle.card_model.specs.declared.world.World.{World}
use Rattle.card_model.specs.declared.world.WorldEvent.{WorldEvent}
use Rattle.card_model.specs.Slot.{refusal_of}
use Rattle.script_reader.specs.declared.types.Script.{Script}
use Rattle.report.specs.declared.answer.Answer.{Answer}
use Rattle.report.specs.declared.line.Line.{Line}
use Rattle.report.specs.declared.line.Line.TheVariants as line
use Rattle.rules.specs.declared.kept.Kept.{Kept}
use Rattle.rules.specs.After.{kept_of}
use Rattle.rules.specs.Due.{tried_event, slot_answer_by}
use Rattle.rules.specs.State.{world_of}
use Rattle.rules.specs.Rules.{has_right_response, has_right_fault, same_answer}

-- the answer to an event that was tried is the slot's
abbrev pub is_refusal_told : World → Answer → Option WorldEvent → Bool
is_refusal_told world given None = true
is_refusal_told world given (Some e) = has_value (same_answer given) (slot_answer_by world (Some e))

-- a call failed or was done as planned, the response is the card's, and an event happened or was refused as the slot does
abbrev pub is_told : Script → World → Kept → Line → Bool
is_told s world k (line.World a e) = is_none (refusal_of world e)
is_told s world k (line.Answered a i given) = is_refusal_told world given (tried_event k)
is_told s world k (line.Exchange a c r) = has_right_response world (line.Exchange a c r) && has_right_fault s world k (line.Exchange a c r)
is_told s world k (line.Failed a c acted) = has_right_response world (line.Failed a c acted) && has_right_fault s world k (line.Failed a c acted)
is_told s world k (line.Reset a) = has_right_fault s world k (line.Reset a)
is_told s world k (line.ResetFailed a) = has_right_fault s world k (line.ResetFailed a)
is_told s world k l = true

abbrev pub are_told : Script → List Line → Bool
are_told s [] = true
are_told s (l ∷ earlier) = are_told s earlier && is_told s (world_of s earlier) (kept_of s earlier) l
