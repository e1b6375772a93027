-- GET RESPONSE, ETSI TS 102 221 clause 11.1.25, and what waits for it.
use Rattle.std.specs.Prelude.{ℕ, ◌==◌, ◌&&◌, not, Bool, if◌then◌else◌, List, length, Option, Some, None}
use Rattle.apdu.specs.Values.{CommandValue, ResponseValue}
use Rattle.apdu.specs.Words.{has_value}
use Rattle.card_model.specs.Waiting.{WaitingValue}
use Rattle.card_model.specs.declared.instruction.Instruction.{Instruction}
use Rattle.card_model.specs.declared.world.ChannelState.{ChannelState}
use Rattle.card_model.specs.declared.world.Change.{Change}
use Rattle.card_model.specs.declared.world.CardState.{CardState}
use Rattle.card_model.specs.Instructions.{is_get_response}
use Rattle.card_model.specs.Answers.{refuses, other_length, answers, parameters, wanted_le, with_waiting}

abbrev pub waits_on : ChannelState → WaitingValue → Bool
waits_on channel waiting = waiting.channel == channel.number

abbrev pub has_waiting_on : CardState → ChannelState → Bool
has_waiting_on card channel = has_value (waits_on channel) card.waiting

-- what was waiting is dropped, unless the command is GET RESPONSE on its channel
abbrev pub without_waiting : CardState → ChannelState → Instruction → CardState
without_waiting card channel row = if is_get_response row && has_waiting_on card channel then card else with_waiting card None

-- Le not the length: 6CXX, and the bytes still wait
abbrev pub fetch_waiting : List Change → CardState → List ℕ → Option ℕ → CardState × ResponseValue
fetch_waiting changes card bytes None = refuses card 0x6700
fetch_waiting changes card bytes (Some le) =
    if not (le == length bytes) then refuses card (other_length (length bytes))
    else answers changes (with_waiting card None) bytes

abbrev pub get_waiting : List Change → CardState → ChannelState → CommandValue → Option WaitingValue → CardState × ResponseValue
get_waiting changes card channel c None = refuses card 0x6985
get_waiting changes card channel c (Some waiting) =
    if not (waits_on channel waiting) then refuses card 0x6985
    else fetch_waiting changes card waiting.bytes (wanted_le c)

unfoldable pub get_response_row : List Change → CardState → ChannelState → CommandValue → CardState × ResponseValue
get_response_row changes card channel c =
    if not (parameters c == 0) then refuses card 0x6A86 else get_waiting changes card channel c card.waiting
