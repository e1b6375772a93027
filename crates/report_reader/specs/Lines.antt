-- The lines of a report: each a function of the words behind its first one.
use Rattle.std.specs.Prelude.{ℕ, ◌-◌, ◌==◌, Bool, true, false, if◌then◌else◌, List, [], ◌∷◌, slice_get, codes, Option, Some, None, option_map, option_and_then}
use Rattle.apdu.specs.Words.{same_bytes, has_value}
use Rattle.card_model.specs.declared.world.WorldEvent.{WorldEvent}
use Rattle.card_model.specs.declared.world.WorldEvent.TheVariants as world_event
use Rattle.script_reader.specs.declared.types.Operation.{Operation}
use Rattle.script_reader.specs.declared.types.Script.{Script}
use Rattle.report.specs.declared.line.Line.{Line}
use Rattle.report.specs.declared.line.Line.TheVariants as line
use Rattle.report_reader.specs.Reads.{◌>>=◌}
use Rattle.report_reader.specs.Words.{words_of, first_word, behind_word, number_to, byte, number, command, response, family}
use Rattle.report_reader.specs.Content.{content}
use Rattle.report_reader.specs.Answers.{answer_of, is_end}

-- the number of an operation among those of its actor
abbrev pub place : List ℕ → Option ℕ
place word = number_to 4294967295 word

-- ---- turns, events and ends of epochs

-- the actor, in a line that names it alone
abbrev pub actor_of : List (List ℕ) → Option ℕ
actor_of [] = None
actor_of (actor ∷ []) = byte actor
actor_of (actor ∷ other ∷ words) = None

abbrev pub begin : List (List ℕ) → Option Line
begin [] = None
begin (actor ∷ []) = None
begin (actor ∷ op ∷ []) = do
  a ← byte actor
  i ← place op
  Some (line.Begin a i)
begin (actor ∷ op ∷ other ∷ words) = None

abbrev pub exchange_of : List ℕ → List ℕ → List ℕ → Option Line
exchange_of actor sent answered = do
  a ← byte actor
  c ← command sent
  r ← response answered
  Some (line.Exchange a c r)

-- whether the card acted, as 1 or 0
abbrev pub acted_of : List ℕ → Option Bool
acted_of word =
    if same_bytes word (codes "1") then Some true
    else if same_bytes word (codes "0") then Some false
    else None

abbrev pub failed_of : List ℕ → List ℕ → List ℕ → Option Line
failed_of actor sent word = do
  a ← byte actor
  c ← command sent
  acted ← acted_of word
  Some (line.Failed a c acted)

abbrev pub epoch_end_of : List ℕ → List ℕ → List ℕ → Option Line
epoch_end_of publication epoch event = do
  k ← number publication
  e ← number epoch
  n ← number event
  Some (line.EpochEnd k e n)

-- three words
abbrev pub of_three : (List ℕ → List ℕ → List ℕ → Option Line) → List (List ℕ) → Option Line
of_three read [] = None
of_three read (first ∷ []) = None
of_three read (first ∷ second ∷ []) = None
of_three read (first ∷ second ∷ third ∷ []) = read first second third
of_three read (first ∷ second ∷ third ∷ other ∷ words) = None

abbrev pub exchange : List (List ℕ) → Option Line
exchange words = of_three exchange_of words

abbrev pub failed : List (List ℕ) → Option Line
failed words = of_three failed_of words

abbrev pub epoch_end : List (List ℕ) → Option Line
epoch_end words = of_three epoch_end_of words

abbrev pub named_event : List ℕ → List ℕ → Option WorldEvent
named_event name word =
    if same_bytes name (codes "arm") then option_map world_event.Arm (byte word)
    else if same_bytes name (codes "in") then option_map world_event.Insert (byte word)
    else None

abbrev pub out : List ℕ → Option WorldEvent
out name = if same_bytes name (codes "out") then Some world_event.Out else None

abbrev pub event_of : List (List ℕ) → Option WorldEvent
event_of [] = None
event_of (name ∷ []) = out name
event_of (name ∷ word ∷ []) = named_event name word
event_of (name ∷ word ∷ other ∷ words) = None

abbrev pub world : List (List ℕ) → Option Line
world [] = None
world (actor ∷ words) = do
  a ← byte actor
  e ← event_of words
  Some (line.World a e)

abbrev pub refused : List (List ℕ) → Option Line
refused [] = None
refused (name ∷ []) = None
refused (name ∷ event ∷ []) = do
  f ← family name
  n ← number event
  Some (line.Refused f n)
refused (name ∷ event ∷ other ∷ words) = None

-- ---- answers

-- operation i of actor a; actor 0 is the framework, which has none
abbrev pub operation_at : Script → ℕ → ℕ → Option Operation
operation_at s a i = if a == 0 then None else option_and_then (λ operations. slice_get operations i) (slice_get s.actors (a - 1))

-- the operation is an `end`
abbrev pub ends : Script → ℕ → ℕ → Bool
ends s a i = has_value is_end (operation_at s a i)

abbrev pub answered : Script → List (List ℕ) → Option Line
answered s [] = None
answered s (actor ∷ []) = None
answered s (actor ∷ op ∷ []) = None
answered s (actor ∷ op ∷ name ∷ words) = do
  a ← byte actor
  i ← place op
  given ← answer_of (ends s a i) name words
  Some (line.Answered a i given)

-- ---- publications

-- the numbers of a publication and the point, and the content, which is all that stands behind them
abbrev pub published_of : List ℕ → List ℕ → List ℕ → List ℕ → List ℕ → Option Line
published_of publication name epoch point text = do
  k ← number publication
  f ← family name
  e ← number epoch
  n ← number point
  shown ← content text
  Some (line.Published k f e n shown)

abbrev pub published : List ℕ → Option Line
published rest =
    let behind_name = behind_word (behind_word rest) in
    let behind_epoch = behind_word behind_name in
    published_of (first_word rest) (first_word (behind_word rest)) (first_word behind_name) (first_word behind_epoch) (behind_word behind_epoch)

-- ---- all lines

abbrev pub event_line : List ℕ → List (List ℕ) → Option Line
event_line kind words =
    if same_bytes kind (codes "x") then exchange words
    else if same_bytes kind (codes "f") then failed words
    else if same_bytes kind (codes "r") then option_map line.Reset (actor_of words)
    else if same_bytes kind (codes "q") then option_map line.ResetFailed (actor_of words)
    else if same_bytes kind (codes "w") then world words
    else None

abbrev pub line_of_words : Script → List ℕ → List (List ℕ) → Option Line
line_of_words s kind words =
    if same_bytes kind (codes "t") then option_map line.Turn (actor_of words)
    else if same_bytes kind (codes "b") then begin words
    else if same_bytes kind (codes "a") then answered s words
    else if same_bytes kind (codes "z") then epoch_end words
    else if same_bytes kind (codes "d") then refused words
    else event_line kind words

-- the line of this text, among those of a run of the script
abbrev pub line_of : Script → List ℕ → Option Line
line_of s text =
    if same_bytes (first_word text) (codes "p") then published (behind_word text)
    else line_of_words s (first_word text) (words_of (behind_word text))
