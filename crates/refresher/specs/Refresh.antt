-- Start-up of a card, and the answers to its proactive commands.
--
-- Looking back over the lines: start-up of the living epoch has two steps, TERMINAL PROFILE and SELECT of the USIM by the seven bytes
-- of its application's identifier; any status of either ends that step. A TERMINAL RESPONSE is owed in the living epoch where its last
-- FETCH was answered with success, handed over no REFRESH that asks for a reset, and no TERMINAL RESPONSE was sent since.
use Rattle.std.specs.Prelude.{ℕ, ◌+◌, ◌==◌, ◌&&◌, not, Bool, true, false, nat_le, nat_lt, if◌then◌else◌, List, [], ◌∷◌, Option, Some, None, Result, Ok, Err}
use Rattle.apdu.specs.Values.{CommandValue}
use Rattle.apdu.specs.Apdu.{command, with_class, le_of_byte, select_ins, terminal_profile_ins, terminal_response_ins, fetch_ins, is_success, same_command}
use Rattle.refresh_cmd.specs.Values.{ProactiveValue}
use Rattle.refresh_cmd.specs.declared.proactive.ProactiveError.{ProactiveError}
use Rattle.refresh_cmd.specs.Proactive.{read_proactive, refresh_type, write_terminal_response}
use Rattle.card_model.specs.Card.{usim_aid_prefix}
use Rattle.apdu.specs.Words.{has_value}
use Rattle.link.specs.declared.chain.Final.{Final}
use Rattle.epoch_cache.specs.Cache.{asks_reset}
use Rattle.link.specs.Commands.{is_basic_select, is_path_select}

-- ---- commands

-- TS 102 223 clause 5.2: the terminal serves proactive commands
abbrev pub profile_command : CommandValue
profile_command = with_class 0x80 (command terminal_profile_ins 0 0 (0x01 ∷ 0x00 ∷ 0x80 ∷ []) None)

abbrev pub select_usim : CommandValue
select_usim = command select_ins 0x04 0x0C usim_aid_prefix None

abbrev pub fetch_command : ℕ → CommandValue
fetch_command byte = with_class 0x80 (command fetch_ins 0 0 [] (Some (le_of_byte byte)))

abbrev pub response_command : List ℕ → CommandValue
response_command body = with_class 0x80 (command terminal_response_ins 0 0 body None)

-- ---- start-up

abbrev pub startup_steps : ℕ
startup_steps = 2

abbrev pub startup_command : ℕ → CommandValue
startup_command step = if step == 0 then profile_command else select_usim

-- a step is done, whatever its status
abbrev pub ends_step : ℕ → Option Final → Bool
ends_step step None = false
ends_step step (Some f) = nat_lt step startup_steps && same_command f.command (startup_command step)

-- a SELECT of another kind on the basic channel may leave the USIM
abbrev pub leaves_usim : CommandValue → Bool
leaves_usim c = is_basic_select c && not (is_path_select c)

-- where it may leave the USIM behind start-up, start-up begins anew
abbrev pub startup_after : CommandValue → Option Final → ℕ → ℕ
startup_after c f step =
    if ends_step step f then step + 1
    else if leaves_usim c && (step == startup_steps) then 0
    else step

-- ---- a TERMINAL RESPONSE

-- the general result: 00 performed, 31 type not understood, 32 data not understood, TS 102 223 clause 8.12
abbrev pub result_of : ProactiveValue → ℕ
result_of p = if not (p.kind == refresh_type) then 0x31 else if nat_le p.qualifier 7 then 0x00 else 0x32

-- the body of the response to what a FETCH handed over
abbrev pub response_to : Result ProactiveValue ProactiveError → List ℕ
response_to (Ok p) = write_terminal_response p.number p.kind p.qualifier (result_of p)
response_to (Err e) = write_terminal_response 1 0 0 0x32

-- none is owed where a reset follows in the same turn
abbrev pub owed_unless : Bool → List ℕ → Option CommandValue
owed_unless true bytes = None
owed_unless false bytes = Some (response_command (response_to (read_proactive bytes)))

-- `refresh` is the REFRESH that it handed over
abbrev pub owed_to : Option ProactiveValue → Final → Option CommandValue
owed_to refresh f = elim (is_success f.response.sw) [ true ↦ owed_unless (has_value asks_reset refresh) f.response.body | false ↦ None ]

abbrev pub owed_after : Option ProactiveValue → Final → Option CommandValue → Option CommandValue
owed_after refresh f before = elim (f.command.ins == fetch_ins) [
  | true ↦ owed_to refresh f
  | false ↦ if f.command.ins == terminal_response_ins then None else before
]

abbrev pub owed_by : Option ProactiveValue → Option Final → Option CommandValue → Option CommandValue
owed_by refresh None before = before
owed_by refresh (Some f) before = owed_after refresh f before
