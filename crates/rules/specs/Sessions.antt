-- PIN sessions that actors hold.
--
-- Looking back over the lines: an actor has a session of a key, with an epoch, from the answer that the PIN was verified until the end
-- of the session is answered.
use Rattle.std.specs.Prelude.{ℕ, ◌==◌, ◌&&◌, not, Bool, if◌then◌else◌, List, [], ◌∷◌, ◌++◌, filter, find, Option, Some, None, is_some}
use Rattle.apdu.specs.Values.{CommandValue}
use Rattle.apdu.specs.Words.{has_value}
use Rattle.apdu.specs.Apdu.{command, verify_ins}
use Rattle.fcp.specs.declared.rule.Need.{Need}
use Rattle.fcp.specs.declared.rule.Need.TheVariants.{Always, Never, Key}
use Rattle.script_reader.specs.declared.types.Operation.{Operation}
use Rattle.script_reader.specs.declared.types.Operation.TheVariants as operation
use Rattle.report.specs.declared.answer.Answer.{Answer}
use Rattle.report.specs.declared.answer.Answer.TheVariants as answer
use Rattle.epoch_cache.specs.declared.past.Past.{Past}
use Rattle.rules.specs.declared.holdings.Session.{Session}
use Rattle.rules.specs.History.{is_living}

abbrev pub is_session_of : ℕ → ℕ → Session → Bool
is_session_of actor key p = (p.actor == actor) && (p.key == key)

abbrev pub session_of : ℕ → ℕ → List Session → Option Session
session_of actor key sessions = find (is_session_of actor key) sessions

-- a session of any epoch
abbrev pub has_session : ℕ → ℕ → List Session → Bool
has_session actor key sessions = is_some (session_of actor key sessions)

-- a session of the living epoch
abbrev pub has_living_session : Past → ℕ → ℕ → List Session → Bool
has_living_session history actor key sessions = has_value (λ (p : Session). is_living history p.epoch) (session_of actor key sessions)

abbrev pub without_session : ℕ → ℕ → List Session → List Session
without_session actor key sessions = filter (λ p. not (is_session_of actor key p)) sessions

abbrev pub with_session : Session → List Session → List Session
with_session p sessions = without_session p.actor p.key sessions ++ p ∷ []

-- what the answer to an operation does: `verified` gives a session, any answer to an end takes one; `epoch` is the one before the line
abbrev pub sessions_after : ℕ → Operation → Answer → ℕ → List Session → List Session
sessions_after actor (operation.Verify key pin) answer.Verified epoch sessions = with_session (record { actor = actor; key = key; epoch = epoch }) sessions
sessions_after actor (operation.End key) given epoch sessions = without_session actor key sessions
sessions_after actor op given epoch sessions = sessions

abbrev pub verify_command : ℕ → List ℕ → CommandValue
verify_command key pin = command verify_ins 0x00 key pin None

-- the key of the session that an actor lacks for a need; `never` is left to the card
abbrev pub lacking_key : Past → ℕ → List Session → Need → Option ℕ
lacking_key history actor sessions Always = None
lacking_key history actor sessions Never = None
lacking_key history actor sessions (Key key) = if has_living_session history actor key sessions then None else Some key
