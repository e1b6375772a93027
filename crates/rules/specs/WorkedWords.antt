-- Words by which a worked report is written: each line by the word and the parts of its text.
use Rattle.std.specs.Prelude.{ℕ, ◌+◌, ◌*◌, ◌-◌, ◌++◌, nat_lt, Bool, if◌then◌else◌, List, [], ◌∷◌, take, drop, reverse, None, Result, Ok, Err}
use Rattle.apdu.specs.Values.{CommandValue, ResponseValue}
use Rattle.apdu.specs.declared.command.ApduError.{ApduError}
use Rattle.apdu.specs.Apdu.{command, read_command, read_response}
use Rattle.card_model.specs.declared.world.WorldEvent.{WorldEvent}
use Rattle.card_model.specs.declared.world.WorldEvent.TheVariants.{Arm, Out, Insert}
use Rattle.script_reader.specs.declared.types.Script.{Script}
use Rattle.report.specs.declared.answer.Answer.{Answer}
use Rattle.report.specs.declared.line.Mode.TheVariants.{Replay, Run}
use Rattle.report.specs.declared.line.Line.{Line}
use Rattle.report.specs.declared.line.Line.TheVariants as line
use Rattle.report.specs.declared.lines.Report.{Report}

-- ---- bytes

-- of an upper-case hexadecimal digit
abbrev pub digit_value : ℕ → ℕ
digit_value c = if nat_lt c 58 then c - 48 else c - 55

-- the bytes of hexadecimal digits
abbrev pub hex : List ℕ → List ℕ
hex [] = []
hex (c ∷ []) = []
hex (c ∷ e ∷ rest) = (digit_value c * 16 + digit_value e) ∷ hex rest

abbrev pub command_or : Result CommandValue ApduError → CommandValue
command_or (Ok c) = c
command_or (Err e) = command 0 0 0 [] None

abbrev pub response_or : Result ResponseValue ApduError → ResponseValue
response_or (Ok r) = r
response_or (Err e) = record { body = []; sw = 0 }

abbrev pub sent : List ℕ → CommandValue
sent digits = command_or (read_command (hex digits))

abbrev pub got : List ℕ → ResponseValue
got digits = response_or (read_response (hex digits))

-- ---- lines

abbrev pub arm : ℕ → WorldEvent
arm i = Arm i

abbrev pub out : WorldEvent
out = Out

abbrev pub insert : ℕ → WorldEvent
insert j = Insert j

abbrev pub t : ℕ → Line
t actor = line.Turn actor

abbrev pub b : ℕ → ℕ → Line
b actor op = line.Begin actor op

abbrev pub x : ℕ → List ℕ → List ℕ → Line
x actor c r = line.Exchange actor (sent c) (got r)

abbrev pub f : ℕ → List ℕ → Bool → Line
f actor c acted = line.Failed actor (sent c) acted

abbrev pub r : ℕ → Line
r actor = line.Reset actor

abbrev pub q : ℕ → Line
q actor = line.ResetFailed actor

abbrev pub w : ℕ → WorldEvent → Line
w actor event = line.World actor event

abbrev pub p : ℕ → ℕ → ℕ → ℕ → List ℕ → Line
p number family epoch point text = line.Published number family epoch point text

abbrev pub z : ℕ → ℕ → ℕ → Line
z number epoch event = line.EpochEnd number epoch event

abbrev pub d : ℕ → ℕ → Line
d family event = line.Refused family event

abbrev pub a : ℕ → ℕ → Answer → Line
a actor op given = line.Answered actor op given

-- ---- reports; the lines here are the oldest first

abbrev pub replayed : Script → List Line → Report
replayed s lines = record { script = s; mode = Replay; lines = reverse lines }

-- in mode run
abbrev pub taken : Script → List Line → Report
taken s lines = record { script = s; mode = Run; lines = reverse lines }

abbrev pub with_lines : ℕ → ℕ → List Line → List Line → List Line
with_lines i j new old = take i old ++ new ++ drop j old

-- the report with the lines from index i up to j replaced
abbrev pub changed : ℕ → ℕ → List Line → Report → Report
changed i j new report = record report { lines = reverse (with_lines i j new (reverse report.lines)) }
