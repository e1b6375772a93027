-- A usual run for a seed and a size, for tests and measurements: its shape is this project's own. The card has the files of a USIM,
-- with a phonebook of so many rows of which the seed decides half, and the seed decides whose turn it is.
use Rattle.std.specs.Prelude.{ℕ, zero, suc, ◌+◌, ◌*◌, ◌%◌, ◌==◌, Bool, true, false, if◌then◌else◌, List, [], ◌∷◌, ◌++◌, replicate, Some, None, codes, decimal}
use Rattle.apdu.specs.Words.{filled_to}
use Rattle.fcp.specs.declared.control.ArrRef.{ArrRef}
use Rattle.script_reader.specs.declared.types.FileSpec.{FileSpec}
use Rattle.script_reader.specs.declared.types.KindSpec.TheVariants.{Transparent, Linear}
use Rattle.script_reader.specs.declared.types.KeySpec.{KeySpec}
use Rattle.script_reader.specs.declared.types.CardSpec.{CardSpec}
use Rattle.script_reader.specs.declared.types.ChangeSpec.{ChangeSpec}
use Rattle.script_reader.specs.declared.types.Operation.{Operation}
use Rattle.script_reader.specs.declared.types.Operation.TheVariants as operation
use Rattle.script_reader.specs.declared.types.Script.{Script}
use Rattle.script_generator.specs.Draws.{behind, draw}

-- ---- rows of the phonebook, 3GPP TS 31.102 clause 4.4.2.3: a name of 14 bytes, the number, no further reference

-- a row without entry
abbrev pub free_row : List ℕ
free_row = replicate 28 0xFF

-- the name of row i: P and its number
abbrev pub name : ℕ → List ℕ
name i = filled_to 0xFF 14 (0x50 ∷ decimal i)

-- two digits in one byte, the first in the low half
abbrev pub digit_pair : ℕ → ℕ
digit_pair state = draw state 1 % 10 + 16 * (draw state 2 % 10)

-- ten digits, each a draw modulo 10
abbrev pub number : ℕ → List ℕ
number state =
    digit_pair state ∷ digit_pair (behind state 2) ∷ digit_pair (behind state 4) ∷ digit_pair (behind state 6) ∷ digit_pair (behind state 8) ∷ []

-- row i as an entry: its name, a number of five bytes in no international form, and FF
abbrev pub entry_row : ℕ → ℕ → List ℕ
entry_row i state = name i ++ (6 ∷ 0x81 ∷ []) ++ number state ++ replicate 7 0xFF

-- the row is free where its draw is odd
abbrev pub is_free : ℕ → Bool
is_free state = draw state 1 % 2 == 1

abbrev pub book_row : ℕ → ℕ → List ℕ
book_row i state = if is_free state then free_row else entry_row i (behind state 1)

-- behind a row: a free one takes one draw, an entry ten more
abbrev pub behind_row : ℕ → ℕ
behind_row state = if is_free state then behind state 1 else behind (behind state 1) 10

-- the state behind the first rows
abbrev pub behind_rows : ℕ → ℕ → ℕ
behind_rows seed zero = seed
behind_rows seed (suc n) = behind_row (behind_rows seed n)

-- the first rows, which are numbered from 1
abbrev pub book_rows : ℕ → ℕ → List (List ℕ)
book_rows seed zero = []
book_rows seed (suc n) = book_rows seed n ++ book_row (n + 1) (behind_rows seed n) ∷ []

-- ---- the card and its change

abbrev pub plain_file : List ℕ → List ℕ → FileSpec
plain_file path bytes = record { path = path; kind = Transparent bytes; arr = None; active = true; endless = false; fcp = None }

abbrev pub linear_file : List ℕ → ℕ → List (List ℕ) → FileSpec
linear_file path len rows = record { path = path; kind = Linear len rows; arr = None; active = true; endless = false; fcp = None }

-- the first rule of the EF_ARR below the master file
abbrev pub first_rule : ArrRef
first_rule = record { file_id = 0x2F06; row = 1 }

abbrev pub ruled : FileSpec → FileSpec
ruled file = record file { arr = Some first_rule }

abbrev pub iccid_file : FileSpec
iccid_file = plain_file (0x2FE2 ∷ []) (0x98 ∷ 0x10 ∷ 0x14 ∷ 0x30 ∷ 0x12 ∷ 0x11 ∷ 0x81 ∷ 0x15 ∷ 0x70 ∷ 0x02 ∷ [])

abbrev pub imsi_file : FileSpec
imsi_file = ruled (plain_file (0x7FFF ∷ 0x6F07 ∷ []) (0x08 ∷ 0x39 ∷ 0x01 ∷ 0x14 ∷ 0x10 ∷ 0x32 ∷ 0x54 ∷ 0x76 ∷ 0x98 ∷ []))

abbrev pub ad_file : FileSpec
ad_file = plain_file (0x7FFF ∷ 0x6FAD ∷ []) (0 ∷ 0 ∷ 0 ∷ 3 ∷ [])

-- the name of the service provider, behind the byte that says where it is shown
abbrev pub spn_file : List ℕ → FileSpec
spn_file bytes = plain_file (0x7FFF ∷ 0x6F46 ∷ []) (filled_to 0xFF 17 bytes)

-- reading is always allowed, updating with key 01
abbrev pub rule_file : FileSpec
rule_file = linear_file (0x2F06 ∷ []) 11 ((0x80 ∷ 0x01 ∷ 0x03 ∷ 0xA4 ∷ 0x06 ∷ 0x83 ∷ 0x01 ∷ 0x01 ∷ 0x95 ∷ 0x01 ∷ 0x08 ∷ []) ∷ [])

abbrev pub book_file : List (List ℕ) → FileSpec
book_file rows = ruled (linear_file (0x7F10 ∷ 0x6F3A ∷ []) 28 rows)

abbrev pub extension_file : FileSpec
extension_file = ruled (linear_file (0x7F10 ∷ 0x6F4A ∷ []) 13 (replicate 10 (replicate 13 0xFF)))

abbrev pub usim_aid : List ℕ
usim_aid = 0xA0 ∷ 0x00 ∷ 0x00 ∷ 0x00 ∷ 0x87 ∷ 0x10 ∷ 0x02 ∷ 0xFF ∷ 0x49 ∷ 0xFF ∷ 0xFF ∷ 0x89 ∷ []

abbrev pub other_aid : List ℕ
other_aid = 0xA0 ∷ 0x00 ∷ 0x00 ∷ 0x00 ∷ 0x09 ∷ 0x00 ∷ 0x01 ∷ []

-- 1234, filled with FF
abbrev pub pin : List ℕ
pin = 0x31 ∷ 0x32 ∷ 0x33 ∷ 0x34 ∷ 0xFF ∷ 0xFF ∷ 0xFF ∷ 0xFF ∷ []

abbrev pub first_key : KeySpec
first_key = record { key = 1; pin = pin; tries = 3; max = 3 }

abbrev pub usual_card : List (List ℕ) → CardSpec
usual_card rows = record {
  files =
      iccid_file ∷ imsi_file ∷ ad_file
      ∷ spn_file (0x01 ∷ 0x80 ∷ 0x04 ∷ 0x2F ∷ 0x04 ∷ 0x30 ∷ 0x04 ∷ 0x31 ∷ [])
      ∷ rule_file ∷ book_file rows ∷ extension_file ∷ [];
  aids = usim_aid ∷ other_aid ∷ [];
  keys = first_key ∷ [];
  channels = 3;
  get_response = false;
}

-- a REFRESH of every file, with another name of the service provider
abbrev pub usual_change : ChangeSpec
usual_change = record { qualifier = 0; kind = 1; list = []; files = spn_file (0x01 ∷ 0x42 ∷ []) ∷ [] }

-- ---- the actors

-- sets a row of the phonebook
abbrev pub set_entry : ℕ → List ℕ → List ℕ → Operation
set_entry row name number = operation.Set 1 (Some row) name number

-- loads, and writes the first row and the last one in a session of key 01
abbrev pub writer : ℕ → List Operation
writer size =
    operation.Insert 0 ∷ operation.Verify 1 pin ∷ operation.Load 0 ∷ operation.Load 1
    ∷ set_entry 1 (codes "A") (codes "+15551234")
    ∷ set_entry size (codes "B") (codes "1234567890123456789012")
    ∷ operation.Clear 1 1 ∷ operation.End 1 ∷ []

-- looks, and has the card announce its change
abbrev pub watcher : List Operation
watcher = operation.Look ∷ operation.Load 1 ∷ operation.Look ∷ operation.Arm 0 ∷ operation.Poll ∷ operation.Look ∷ []

-- so many turns, each of the framework or of one of the two actors
abbrev pub turns : ℕ → ℕ → List ℕ
turns state zero = []
turns state (suc n) = turns state n ++ (draw state (suc n) % 3) ∷ []

-- the card is inserted and started up; then the draws decide
abbrev pub schedule : ℕ → ℕ → List ℕ
schedule state size = (1 ∷ 0 ∷ 0 ∷ 1 ∷ []) ++ turns state (4 * size)

-- the script of a seed and a size
abbrev pub generated : ℕ → ℕ → Script
generated seed size = record {
  version = 1;
  cards = usual_card (book_rows seed size) ∷ [];
  actors = writer size ∷ watcher ∷ [];
  changes = usual_change ∷ [];
  schedule = schedule (behind_rows seed size) size;
  faults = [];
  budget = None;
}
