-- The exchanges of one command, and what is selected on the basic channel.
--
-- A response 61XX is followed by GET RESPONSE with Le XX on the same channel, and a response 6CXX by the command last sent with Le XX,
-- until four exchanges are made (ETSI TS 102 221 clauses 7.3.1.1.4 and 10.2.1). VERIFY is followed by neither. The last response is the
-- final one.
use Rattle.std.specs.Prelude.{ℕ, ◌+◌, ◌-◌, ◌%◌, ◌==◌, ◌&&◌, ◌||◌, not, Bool, nat_lt, if◌then◌else◌, List, [], flat_map, Option, Some, None}
use Rattle.apdu.specs.Values.{CommandValue, ResponseValue}
use Rattle.apdu.specs.Words.{two_bytes, path_of, has_value, same_bytes}
use Rattle.apdu.specs.declared.class.ClassKind.{ClassKind}
use Rattle.apdu.specs.declared.class.ClassKind.TheVariants.{Plain}
use Rattle.apdu.specs.Apdu.{command, with_class, with_le, class_for, channel_of, select_ins, get_response_ins, verify_ins, has_more, wants_more, is_success, is_refusal, le_of_byte, same_command}
use Rattle.card_model.specs.Select.{ids_of}
use Rattle.link.specs.declared.chain.Chain.{Chain}
use Rattle.link.specs.declared.chain.Final.{Final}

-- ---- chains

abbrev pub most_exchanges : ℕ
most_exchanges = 4

-- the chain that a command goes on with, where it is what follows; another command begins anew
abbrev pub continued : CommandValue → Option Chain → Option Chain
continued c None = None
continued c (Some chain) = if same_command c chain.next then Some chain else None

abbrev pub count_of : Option Chain → ℕ
count_of None = 0
count_of (Some chain) = chain.count

-- how many exchanges the command has had before this one
abbrev pub chain_count : CommandValue → Option Chain → ℕ
chain_count c before = count_of (continued c before)

abbrev pub first_of : Option Chain → CommandValue → CommandValue
first_of None c = c
first_of (Some chain) c = chain.first

-- its first form
abbrev pub chain_first : CommandValue → Option Chain → CommandValue
chain_first c before = first_of (continued c before) c

abbrev pub class_of_channel : Option (ClassKind × ℕ) → ℕ
class_of_channel None = 0
class_of_channel (Some (kind, channel)) = class_for Plain channel

-- GET RESPONSE on the channel of the command
abbrev pub get_response_for : CommandValue → ℕ → CommandValue
get_response_for c le = with_class (class_of_channel (channel_of c.class)) (command get_response_ins 0 0 [] (Some le))

-- the command that follows a response 61XX or 6CXX
abbrev pub follow_up : CommandValue → ResponseValue → CommandValue
follow_up c r = if has_more r.sw then get_response_for c (le_of_byte (r.sw % 256)) else with_le (le_of_byte (r.sw % 256)) c

-- the response to exchange number `count` of a command asks for one more
abbrev pub asks_more : ℕ → CommandValue → ResponseValue → Bool
asks_more count c r = wants_more r.sw && nat_lt count most_exchanges && not (c.ins == verify_ins)

abbrev pub chain_after : CommandValue → ResponseValue → Option Chain → Option Chain
chain_after c r before =
    if asks_more (chain_count c before + 1) c r then Some (record { first = chain_first c before; count = chain_count c before + 1; next = follow_up c r })
    else None

-- ---- final responses

-- what the exchange after so many events answers, where its response is final
abbrev pub final_after : ℕ → CommandValue → ResponseValue → ℕ → Option Chain → Option Final
final_after actor c r events before =
    if asks_more (chain_count c before + 1) c r then None
    else Some (record { actor = actor; command = chain_first c before; response = r; event = events + 1; first_event = events + 1 - chain_count c before })

-- ---- the file or directory that is current on the basic channel, as far as commands tell

abbrev pub path_body : List ℕ → List ℕ
path_body path = flat_map two_bytes path

-- SELECT by path from the master file, which asks for the control parameters
abbrev pub select_for_reading : List ℕ → CommandValue
select_for_reading path = command select_ins 0x08 0x04 (path_body path) (Some 256)

-- SELECT by path from the master file, without an answer
abbrev pub select_only : List ℕ → CommandValue
select_only path = command select_ins 0x08 0x0C (path_body path) None

-- a SELECT on the basic channel
abbrev pub is_basic_select : CommandValue → Bool
is_basic_select c = (c.class == 0) && (c.ins == select_ins)

abbrev pub is_path_select : CommandValue → Bool
is_path_select c = is_basic_select c && (c.p1 == 0x08)

abbrev pub is_reading_select : CommandValue → Bool
is_reading_select c = is_path_select c && (c.p2 == 0x04)

-- the path that a SELECT by path names
abbrev pub named_path : CommandValue → Option (List ℕ)
named_path c = path_of (ids_of c.body)

-- behind a SELECT that succeeded, also where its answer is still to be fetched; none is known behind a SELECT of another kind
abbrev pub selection_after : CommandValue → ResponseValue → Option (List ℕ) → Option (List ℕ)
selection_after c r before =
    if is_basic_select c && (is_success r.sw || has_more r.sw) then (if c.p1 == 0x08 then named_path c else None)
    else before

-- this path is current
abbrev pub is_at : Option (List ℕ) → List ℕ → Bool
is_at selected path = has_value (same_bytes path) selected

-- ---- refusals

abbrev pub file_not_found : ℕ
file_not_found = 0x6A82

-- a status that refuses the command; 6A82 to the SELECT of a reading does not
abbrev pub is_refused : Final → Bool
is_refused f = is_refusal f.response.sw && not (is_reading_select f.command && (f.response.sw == file_not_found))
