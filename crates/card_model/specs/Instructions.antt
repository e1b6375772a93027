-- The instructions of the card's table, ETSI TS 102 221 table 10.5 and TS 102 223 clause 6.
use Rattle.std.specs.Prelude.{ℕ, ◌==◌, Bool, true, false, if◌then◌else◌, Option, Some, None}
use Rattle.apdu.specs.Apdu.{select_ins, get_response_ins, status_ins, read_binary_ins, update_binary_ins, read_record_ins, update_record_ins, verify_ins, manage_channel_ins, terminal_profile_ins, fetch_ins, terminal_response_ins}
use Rattle.apdu.specs.declared.class.ClassKind.{ClassKind}
use Rattle.apdu.specs.declared.class.ClassKind.TheVariants.{Plain, Toolkit}
use Rattle.card_model.specs.declared.instruction.Instruction.{Instruction}
use Rattle.card_model.specs.declared.instruction.Instruction.TheVariants.{Select, GetResponse, Status, ReadBinary, UpdateBinary, ReadRecord, UpdateRecord, Verify, ManageChannel, TerminalProfile, Fetch, TerminalResponse}

-- none where the table has no row for the byte
abbrev pub instruction_of : ℕ → Option Instruction
instruction_of ins =
    if ins == select_ins then Some Select
    else if ins == get_response_ins then Some GetResponse
    else if ins == status_ins then Some Status
    else if ins == read_binary_ins then Some ReadBinary
    else if ins == update_binary_ins then Some UpdateBinary
    else if ins == read_record_ins then Some ReadRecord
    else if ins == update_record_ins then Some UpdateRecord
    else if ins == verify_ins then Some Verify
    else if ins == manage_channel_ins then Some ManageChannel
    else if ins == terminal_profile_ins then Some TerminalProfile
    else if ins == fetch_ins then Some Fetch
    else if ins == terminal_response_ins then Some TerminalResponse
    else None

-- the kind of class that the instruction goes with
abbrev pub kind_of : Instruction → ClassKind
kind_of Select = Plain
kind_of GetResponse = Plain
kind_of Status = Toolkit
kind_of ReadBinary = Plain
kind_of UpdateBinary = Plain
kind_of ReadRecord = Plain
kind_of UpdateRecord = Plain
kind_of Verify = Plain
kind_of ManageChannel = Plain
kind_of TerminalProfile = Toolkit
kind_of Fetch = Toolkit
kind_of TerminalResponse = Toolkit

abbrev pub is_get_response : Instruction → Bool
is_get_response GetResponse = true
is_get_response _ = false
