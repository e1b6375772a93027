-- What a command gives: the card after it, and the response, ETSI TS 102 221 clause 10.2.1.
use Rattle.std.specs.Prelude.{ℕ, ◌+◌, ◌%◌, Bool, if◌then◌else◌, List, [], length, Option, Some, None, unwrap_or}
use Rattle.apdu.specs.Values.{CommandValue, ResponseValue}
use Rattle.apdu.specs.Words.{pair_value, is_empty}
use Rattle.apdu.specs.Apdu.{refusal}
use Rattle.card_model.specs.Waiting.{WaitingValue}
use Rattle.card_model.specs.declared.world.Change.{Change}
use Rattle.card_model.specs.declared.world.CardState.{CardState}
use Rattle.card_model.specs.Card.{change_command, first_armed}

-- a chain of checks: the first that holds refuses with its word, and the card stays as it is
abbrev pub refuses : CardState → ℕ → CardState × ResponseValue
refuses card word = (card, refusal word)

-- some checks together refuse with this word, or the command goes on
abbrev pub unless_refused : CardState → Option ℕ → CardState × ResponseValue → CardState × ResponseValue
unless_refused card (Some word) outcome = refuses card word
unless_refused card None outcome = outcome

-- XX of 256 is 00
abbrev pub length_byte : ℕ → ℕ
length_byte n = n % 256

-- 6CXX: Le is not this length
abbrev pub other_length : ℕ → ℕ
other_length n = 0x6C00 + length_byte n

-- the status word that announces a change, unless a TERMINAL RESPONSE is awaited
abbrev pub announced_word : Bool → Option Change → ℕ
announced_word awaiting None = 0x9000
announced_word awaiting (Some change) = if awaiting then 0x9000 else 0x9100 + length_byte (length (change_command change))

-- 9000, or 91XX where a change is armed and nothing is awaited
abbrev pub success_word : List Change → CardState → ℕ
success_word changes card = announced_word card.awaiting (first_armed changes card)

abbrev pub answer : List ℕ → ℕ → ResponseValue
answer body word = record { body = body; sw = word }

-- the card after the command, with a body and success
abbrev pub answers : List Change → CardState → List ℕ → CardState × ResponseValue
answers changes card body = (card, answer body (success_word changes card))

abbrev pub succeeds : List Change → CardState → CardState × ResponseValue
succeeds changes card = answers changes card []

-- ---- parts of a command

abbrev pub body_len : CommandValue → ℕ
body_len c = length c.body

-- P1 P2 as one number
abbrev pub parameters : CommandValue → ℕ
parameters c = pair_value c.p1 c.p2

-- Le of a command without a body
abbrev pub wanted_le : CommandValue → Option ℕ
wanted_le c = if is_empty c.body then c.le else None

-- Le as a number
abbrev pub le_of : CommandValue → ℕ
le_of c = unwrap_or c.le 0

-- ---- what waits for GET RESPONSE

abbrev pub with_waiting : CardState → Option WaitingValue → CardState
with_waiting card waiting = record card { waiting = waiting }
