-- The responses of lines that show what a slot gave are the card's.
use Rattle.std.proofs.Common.{◌≡◌, true, List, [], ◌∷◌, refl}
use Rattle.std.proofs.lemmas.Bool.{and_parts, and_from}
use Rattle.card_model.specs.declared.world.World.{World}
use Rattle.script_reader.specs.declared.types.Script.{Script}
use Rattle.report.specs.declared.line.Line.{Line}
use Rattle.report.specs.declared.line.Line.TheVariants as line
use Rattle.rules.specs.declared.kept.Kept.{Kept}
use Rattle.rules.specs.After.{kept_of}
use Rattle.rules.specs.Agreement.{are_responses_right}
use Rattle.rules.specs.Rules.{has_right_response, has_right_fault}
use Rattle.rules.specs.State.{world_of}
use Rattle.performed.specs.Told.{is_told, are_told}

pub told_response : (s : Script) (w : World) (k : Kept) (l : Line) → is_told s w k l ≡ true → has_right_response w l ≡ true
told_response s w k (line.Exchange a c r) h = (and_parts (has_right_response w (line.Exchange a c r)) (has_right_fault s w k (line.Exchange a c r)) h).0
told_response s w k (line.Failed a c d) h = (and_parts (has_right_response w (line.Failed a c d)) (has_right_fault s w k (line.Failed a c d)) h).0
told_response s w k (line.Reset a) h = refl
told_response s w k (line.ResetFailed a) h = refl
told_response s w k (line.World a e) h = refl
told_response s w k (line.Turn a) h = refl
told_response s w k (line.Begin a i) h = refl
told_response s w k (line.Published n f e v text) h = refl
told_response s w k (line.EpochEnd n e v) h = refl
told_response s w k (line.Refused f n) h = refl
told_response s w k (line.Answered a i given) h = refl

-- the card gave each response of lines that tell what the slot gave
pub responses_right : (s : Script) (lines : List Line) → are_told s lines ≡ true → are_responses_right s lines ≡ true
responses_right s [] h = refl
responses_right s (l ∷ earlier) h =
    let p = and_parts (are_told s earlier) (is_told s (world_of s earlier) (kept_of s earlier) l) h in
    and_from (are_responses_right s earlier) (has_right_response (world_of s earlier) l) (responses_right s earlier p.0) (told_response s (world_of s earlier) (kept_of s earlier) l p.1)
