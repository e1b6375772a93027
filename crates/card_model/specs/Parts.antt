-- What READ and UPDATE ask of the current file, ETSI TS 102 221 clauses 11.1.3 to 11.1.6.
use Rattle.std.specs.Prelude.{ℕ, ◌==◌, ◌&&◌, not, Bool, nat_lt, if◌then◌else◌, Option, Some, None}
use Rattle.apdu.specs.Values.{CommandValue}
use Rattle.fcp.specs.declared.rows.FileKind.{FileKind}
use Rattle.fcp.specs.declared.rule.Need.{Need}
use Rattle.fcp.specs.Content.{is_transparent, is_linear}
use Rattle.card_model.specs.declared.instruction.Part.{Part}
use Rattle.card_model.specs.declared.instruction.Part.TheVariants.{Binary, Record}
use Rattle.card_model.specs.declared.world.FileState.{FileState}
use Rattle.card_model.specs.declared.world.CardState.{CardState}
use Rattle.card_model.specs.Card.{is_met}

-- the files of this kind have such parts
abbrev pub is_part_of : FileKind → Part → Bool
is_part_of kind Binary = is_transparent kind
is_part_of kind Record = is_linear kind

-- P1 P2 is an offset, where bit 8 of P1 would be a short file id; or P1 is the number of a record, from 1, and P2 04 says so
abbrev pub is_named : CommandValue → Part → Bool
is_named c Binary = nat_lt c.p1 0x80
is_named c Record = (c.p2 == 0x04) && nat_lt 0 c.p1

-- another kind of file: 6981. P1 P2 name no such part: 6A86
abbrev pub part_refusal : Part → FileState → CommandValue → Option ℕ
part_refusal part file c =
    if not (is_part_of file.rows.kind part) then Some 0x6981
    else if not (is_named c part) then Some 0x6A86
    else None

-- not active: 6985. The access is not allowed: 6982
abbrev pub access_refusal : CardState → FileState → Need → Option ℕ
access_refusal card file need =
    if not file.active then Some 0x6985
    else if not (is_met card need) then Some 0x6982
    else None
