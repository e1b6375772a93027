-- Reports that break a rule: verifications, turns, ending, faults. Each is a worked report with lines replaced.
use Rattle.std.specs.Prelude.{[], ◌∷◌, Some, None, true, false, codes}
use Rattle.script_reader.specs.declared.types.Script.{Script}
use Rattle.script_reader.specs.declared.types.KindSpec.TheVariants.{Transparent, Linear}
use Rattle.script_reader.specs.declared.types.Operation.TheVariants as operation
use Rattle.report.specs.declared.answer.Answer.TheVariants as answer
use Rattle.report.specs.declared.lines.Report.{Report}
use Rattle.rules.specs.WorkedWords.{hex, sent, got, arm, insert, out, t, b, x, f, r, q, w, p, z, a, replayed, taken, changed}
use Rattle.rules.specs.WorkedEdits.{lost_answer}
use Rattle.rules.specs.WorkedRefreshes.{failed_reset}

abbrev pub rule07_35_script : Script
rule07_35_script = record {
  version = 1;
  cards =
      record { files = ([]); aids = ([]); keys = (record { key = 0x01; pin = (hex (codes "31323334FFFFFFFF")); tries = 3; max = 3 } ∷ []); channels = 3; get_response = false } ∷ [];
  actors =
      (operation.Insert 0 ∷ operation.Verify 0x01 (hex (codes "31323334FFFFFFFF")) ∷ operation.End 0x01 ∷
      operation.Verify 0x01 (hex (codes "0000000000000000")) ∷ operation.End 0x01 ∷
      operation.Verify 0x01 (hex (codes "0000000000000000")) ∷ operation.End 0x01 ∷
      operation.Verify 0x01 (hex (codes "0000000000000000")) ∷ operation.End 0x01 ∷
      operation.Verify 0x01 (hex (codes "31323334FFFFFFFF")) ∷ operation.End 0x01 ∷ []) ∷
      [];
  changes = [];
  schedule = [];
  faults = [];
  budget = None;
}

abbrev pub rule07_35 : Report
rule07_35 = taken rule07_35_script (
    t 1 ∷ b 1 0 ∷ w 1 (insert 0) ∷ a 1 0 answer.Moved ∷ t 0 ∷ x 0 (codes "8010000003010080") (codes "9000") ∷
    t 0 ∷ x 0 (codes "00A4040C07A0000000871002") (codes "6A82") ∷
    t 1 ∷ b 1 1 ∷ x 1 (codes "002000010831323334FFFFFFFF") (codes "9000") ∷ a 1 1 answer.Verified ∷ t 1 ∷ b 1 2 ∷ a 1 2 answer.Ended ∷
    t 1 ∷ b 1 3 ∷ x 1 (codes "00200001080000000000000000") (codes "63C2") ∷ x 1 (codes "00200001080000000000000000") (codes "63C1") ∷
    a 1 3 (answer.Status (record { 0 = 0x63C2 }) 5) ∷ t 1 ∷ b 1 4 ∷ a 1 4 (answer.NotHeldKey 0x01) ∷
    t 1 ∷ b 1 5 ∷ x 1 (codes "00200001080000000000000000") (codes "63C1") ∷ a 1 5 (answer.Status (record { 0 = 0x63C1 }) 6) ∷
    t 1 ∷ b 1 6 ∷ a 1 6 (answer.NotHeldKey 0x01) ∷
    t 1 ∷ b 1 7 ∷ x 1 (codes "00200001080000000000000000") (codes "63C0") ∷ a 1 7 (answer.Status (record { 0 = 0x63C0 }) 7) ∷
    t 1 ∷ b 1 8 ∷ a 1 8 (answer.NotHeldKey 0x01) ∷
    t 1 ∷ b 1 9 ∷ x 1 (codes "002000010831323334FFFFFFFF") (codes "6983") ∷ a 1 9 (answer.Status (record { 0 = 0x6983 }) 8) ∷
    t 1 ∷ b 1 10 ∷ a 1 10 (answer.NotHeldKey 0x01) ∷
    [])

abbrev pub rule07_36_script : Script
rule07_36_script = record {
  version = 1;
  cards =
      record { files = ([]); aids = ([]); keys = (record { key = 0x01; pin = (hex (codes "31323334FFFFFFFF")); tries = 3; max = 3 } ∷ []); channels = 3; get_response = false } ∷ [];
  actors =
      (operation.Insert 0 ∷ operation.Verify 0x01 (hex (codes "31323334FFFFFFFF")) ∷ operation.End 0x01 ∷
      operation.Verify 0x01 (hex (codes "0000000000000000")) ∷ operation.End 0x01 ∷
      operation.Verify 0x01 (hex (codes "0000000000000000")) ∷ operation.End 0x01 ∷
      operation.Verify 0x01 (hex (codes "0000000000000000")) ∷ operation.End 0x01 ∷
      operation.Verify 0x01 (hex (codes "31323334FFFFFFFF")) ∷ operation.End 0x01 ∷ []) ∷
      [];
  changes = [];
  schedule = [];
  faults = [];
  budget = None;
}

abbrev pub rule07_36 : Report
rule07_36 = taken rule07_36_script (
    t 1 ∷ b 1 0 ∷ w 1 (insert 0) ∷ a 1 0 answer.Moved ∷ t 0 ∷ x 0 (codes "8010000003010080") (codes "9000") ∷
    t 0 ∷ x 0 (codes "00A4040C07A0000000871002") (codes "6A82") ∷
    t 1 ∷ b 1 1 ∷ x 1 (codes "002000010831323334FFFFFFFF") (codes "9000") ∷ a 1 1 answer.Verified ∷ t 1 ∷ b 1 2 ∷ a 1 2 answer.Ended ∷
    t 1 ∷ b 1 3 ∷ x 1 (codes "00200001080000000000000001") (codes "63C2") ∷ a 1 3 (answer.Status (record { 0 = 0x63C2 }) 5) ∷
    t 1 ∷ b 1 4 ∷ a 1 4 (answer.NotHeldKey 0x01) ∷
    t 1 ∷ b 1 5 ∷ x 1 (codes "00200001080000000000000000") (codes "63C1") ∷ a 1 5 (answer.Status (record { 0 = 0x63C1 }) 6) ∷
    t 1 ∷ b 1 6 ∷ a 1 6 (answer.NotHeldKey 0x01) ∷
    t 1 ∷ b 1 7 ∷ x 1 (codes "00200001080000000000000000") (codes "63C0") ∷ a 1 7 (answer.Status (record { 0 = 0x63C0 }) 7) ∷
    t 1 ∷ b 1 8 ∷ a 1 8 (answer.NotHeldKey 0x01) ∷
    t 1 ∷ b 1 9 ∷ x 1 (codes "002000010831323334FFFFFFFF") (codes "6983") ∷ a 1 9 (answer.Status (record { 0 = 0x6983 }) 8) ∷
    t 1 ∷ b 1 10 ∷ a 1 10 (answer.NotHeldKey 0x01) ∷
    [])

abbrev pub rule07_37_script : Script
rule07_37_script = record {
  version = 1;
  cards =
      record { files = (record { path = (0x7FFF ∷ 0x6F46 ∷ []); kind = (Transparent (hex (codes "0180042F04300431FFFFFFFFFFFFFFFFFF"))); arr = None; active = true; endless = false; fcp = None } ∷ []); aids = ((hex (codes "A0000000871002FF49FFFF89")) ∷ []); keys = ([]); channels = 3; get_response = false } ∷ [];
  actors =
      (operation.Insert 0 ∷ operation.Load 0 ∷ operation.Arm 0 ∷ operation.Poll ∷ []) ∷
      [];
  changes =
      record { qualifier = 1; kind = 1; list = ((0x7FFF ∷ 0x6F46 ∷ []) ∷ []); files = (record { path = (0x7FFF ∷ 0x6F46 ∷ []); kind = (Transparent (hex (codes "0142FFFFFFFFFFFFFFFFFFFFFFFFFFFFFF"))); arr = None; active = true; endless = false; fcp = None } ∷ []) } ∷ [];
  schedule = [];
  faults = [];
  budget = None;
}

abbrev pub rule07_37 : Report
rule07_37 = taken rule07_37_script (
    t 1 ∷ b 1 0 ∷ w 1 (insert 0) ∷ a 1 0 answer.Moved ∷ t 0 ∷ x 0 (codes "8010000003010080") (codes "9000") ∷
    t 0 ∷ x 0 (codes "00A4040C07A0000000871002") (codes "9000") ∷ t 1 ∷ b 1 1 ∷ x 1 (codes "00A40804022FE200") (codes "6A82") ∷
    t 1 ∷ x 1 (codes "00A40804047FFF6F0700") (codes "6A82") ∷ t 1 ∷ x 1 (codes "00A40804047FFF6FAD00") (codes "6A82") ∷
    t 1 ∷ x 1 (codes "00A40804047FFF6F4600") (codes "620F8202412183026F468A0105800200119000") ∷
    x 1 (codes "00B0000011") (codes "0180042F04300431FFFFFFFFFFFFFFFFFF9000") ∷ t 1 ∷ x 1 (codes "00A40804047FFF6F4000") (codes "6A82") ∷
    t 1 ∷ x 1 (codes "00A40804047FFF6F4E00") (codes "6A82") ∷
    t 1 ∷ x 1 (codes "00A40804022F0000") (codes "6A82") ∷
    p 1 0 1 11 (123 ∷ 34 ∷ 97 ∷ 100 ∷ 34 ∷ 58 ∷ 110 ∷ 117 ∷ 108 ∷ 108 ∷ 44 ∷ 34 ∷ 97 ∷ 112 ∷ 112 ∷ 115 ∷ 34 ∷ 58 ∷ 91 ∷ 93 ∷ 44 ∷ 34 ∷ 105 ∷ 99 ∷ 99 ∷ 105 ∷ 100 ∷ 34 ∷ 58 ∷ 110 ∷ 117 ∷ 108 ∷ 108 ∷ 44 ∷ 34 ∷ 105 ∷ 109 ∷ 115 ∷ 105 ∷ 34 ∷ 58 ∷ 110 ∷ 117 ∷ 108 ∷ 108 ∷ 44 ∷ 34 ∷ 109 ∷ 115 ∷ 105 ∷ 115 ∷ 100 ∷ 110 ∷ 34 ∷ 58 ∷ 91 ∷ 93 ∷ 44 ∷ 34 ∷ 115 ∷ 112 ∷ 110 ∷ 34 ∷ 58 ∷ 123 ∷ 34 ∷ 110 ∷ 97 ∷ 109 ∷ 101 ∷ 34 ∷ 58 ∷ 34 ∷ 208 ∷ 175 ∷ 208 ∷ 176 ∷ 208 ∷ 177 ∷ 34 ∷ 44 ∷ 34 ∷ 115 ∷ 104 ∷ 111 ∷ 119 ∷ 34 ∷ 58 ∷ 49 ∷ 125 ∷ 125 ∷ []) ∷
    a 1 1 (answer.Loaded 1) ∷ t 1 ∷ b 1 2 ∷ w 1 (arm 0) ∷ a 1 2 answer.Moved ∷
    t 1 ∷ b 1 3 ∷ x 1 (codes "00200001080000000000000001") (codes "6A86") ∷ a 1 3 answer.Polled ∷
    t 0 ∷ x 0 (codes "8012000014") (codes "D0128103010101820281829207013F007FFF6F469000") ∷
    t 0 ∷ x 0 (codes "801400000C810301010182028281830100") (codes "9000") ∷
    t 0 ∷ x 0 (codes "00A40804047FFF6F4600") (codes "620F8202412183026F468A0105800200119000") ∷
    x 0 (codes "00B0000011") (codes "0142FFFFFFFFFFFFFFFFFFFFFFFFFFFFFF9000") ∷
    p 2 0 1 17 (codes "{\"ad\":null,\"apps\":[],\"iccid\":null,\"imsi\":null,\"msisdn\":[],\"spn\":{\"name\":\"B\",\"show\":1}}") ∷
    [])

abbrev pub rule03_13_script : Script
rule03_13_script = record {
  version = 1;
  cards =
      record { files = (record { path = (0x7FFF ∷ 0x6F3B ∷ []); kind = (Linear 24 ((hex (codes "FFFFFFFFFFFFFFFFFFFFFFFFFFFFFFFFFFFFFFFFFFFFFFFF")) ∷ [])); arr = (Some (record { file_id = 0x6F06; row = 1 })); active = true; endless = false; fcp = None } ∷ record { path = (0x7FFF ∷ 0x6F06 ∷ []); kind = (Linear 22 ((hex (codes "800101A406830101950108800102A406830181950108")) ∷ [])); arr = None; active = true; endless = false; fcp = None } ∷ []); aids = ((hex (codes "A0000000871002FF49FFFF89")) ∷ []); keys = (record { key = 0x01; pin = (hex (codes "31323334FFFFFFFF")); tries = 3; max = 3 } ∷ record { key = 0x81; pin = (hex (codes "31323334FFFFFFFF")); tries = 3; max = 3 } ∷ []); channels = 3; get_response = false } ∷ [];
  actors =
      (operation.Insert 0 ∷ operation.Verify 0x01 (hex (codes "31323334FFFFFFFF")) ∷
      operation.Verify 0x81 (hex (codes "31323334FFFFFFFF")) ∷ operation.Set 2 (Some 1) (codes "Bob") (codes "+15551234") ∷
      operation.End 0x81 ∷ operation.End 0x01 ∷ []) ∷
      (operation.Set 2 (Some 1) (codes "Bob") (codes "+15551234") ∷ []) ∷
      [];
  changes = [];
  schedule = 1 ∷ 0 ∷ 0 ∷ 1 ∷ 1 ∷ 2 ∷ 2 ∷ 2 ∷ 2 ∷ 1 ∷ 1 ∷ 1 ∷ 1 ∷ [];
  faults = [];
  budget = None;
}

abbrev pub rule03_13 : Report
rule03_13 = replayed rule03_13_script (
    t 1 ∷ b 1 0 ∷ w 1 (insert 0) ∷ a 1 0 answer.Moved ∷ t 0 ∷ x 0 (codes "8010000003010080") (codes "9000") ∷
    t 0 ∷ x 0 (codes "00A4040C07A0000000871002") (codes "9000") ∷
    t 1 ∷ b 1 1 ∷ x 1 (codes "002000010831323334FFFFFFFF") (codes "9000") ∷ a 1 1 answer.Verified ∷
    t 1 ∷ b 1 2 ∷ x 1 (codes "002000810831323334FFFFFFFF") (codes "9000") ∷ a 1 2 answer.Verified ∷
    t 2 ∷ b 2 0 ∷ x 2 (codes "00A40804047FFF6F3B00") (codes "62178205422100180183026F3B8A01058B036F0601800200189000") ∷
    x 2 (codes "00B2010418") (codes "FFFFFFFFFFFFFFFFFFFFFFFFFFFFFFFFFFFFFFFFFFFFFFFF9000") ∷
    t 2 ∷ x 2 (codes "00A40804047FFF6F4B00") (codes "6A82") ∷
    t 2 ∷ x 2 (codes "00A40804047FFF6F0600") (codes "62128205422100160183026F068A0105800200169000") ∷
    x 2 (codes "00B2010416") (codes "800101A406830101950108800102A4068301819501089000") ∷
    t 2 ∷ x 2 (codes "00A4080C047FFF6F3B") (codes "9000") ∷
    x 2 (codes "00DC010418426F62FFFFFFFFFFFFFF059151552143FFFFFFFFFFFFFFFF") (codes "9000") ∷
    t 1 ∷ b 1 3 ∷ x 1 (codes "00A4080C047FFF6F3B") (codes "9000") ∷
    x 1 (codes "00DC010418426F62FFFFFFFFFFFFFF059151552143FFFFFFFFFFFFFFFF") (codes "9000") ∷
    t 1 ∷ p 1 2 1 12 (codes "{\"entries\":[{\"name\":\"Bob\",\"number\":\"+15551234\"}]}") ∷ a 1 3 (answer.Done 12 (Some 1) []) ∷
    t 1 ∷ b 1 4 ∷ a 1 4 answer.Ended ∷ t 1 ∷ b 1 5 ∷ a 1 5 answer.Ended ∷
    [])

abbrev pub rule08_38_script : Script
rule08_38_script = record {
  version = 1;
  cards =
      record { files = (record { path = (0x2FE2 ∷ []); kind = (Transparent (hex (codes "98101430121181157002"))); arr = None; active = true; endless = false; fcp = None } ∷ []); aids = ([]); keys = ([]); channels = 3; get_response = false } ∷ [];
  actors =
      (operation.Insert 0 ∷ operation.Load 0 ∷ []) ∷
      [];
  changes = [];
  schedule = 1 ∷ 0 ∷ 0 ∷ 1 ∷ [];
  faults = [];
  budget = None;
}

abbrev pub rule08_38 : Report
rule08_38 = replayed rule08_38_script (
    t 1 ∷ b 1 0 ∷ w 1 (insert 0) ∷ a 1 0 answer.Moved ∷ t 0 ∷ x 0 (codes "8010000003010080") (codes "9000") ∷
    t 0 ∷ x 0 (codes "00A4040C07A0000000871002") (codes "6A82") ∷
    t 1 ∷ x 1 (codes "00A40804022FE200") (codes "620F8202412183022FE28A01058002000A9000") ∷
    x 1 (codes "00B000000A") (codes "981014301211811570029000") ∷ t 0 ∷ t 1 ∷ x 1 (codes "00A40804047FFF6F0700") (codes "6A82") ∷ t 0 ∷
    t 1 ∷ x 1 (codes "00A40804047FFF6FAD00") (codes "6A82") ∷ t 0 ∷ t 1 ∷ x 1 (codes "00A40804047FFF6F4600") (codes "6A82") ∷ t 0 ∷
    t 1 ∷ x 1 (codes "00A40804047FFF6F4000") (codes "6A82") ∷ t 0 ∷ t 1 ∷ x 1 (codes "00A40804047FFF6F4E00") (codes "6A82") ∷ t 0 ∷
    t 1 ∷ x 1 (codes "00A40804022F0000") (codes "6A82") ∷
    p 1 0 1 11 (codes "{\"ad\":null,\"apps\":[],\"iccid\":\"89014103211118510720\",\"imsi\":null,\"msisdn\":[],\"spn\":null}") ∷
    a 1 1 (answer.Loaded 1) ∷
    [])

abbrev pub rule08_39_script : Script
rule08_39_script = record {
  version = 1;
  cards =
      record { files = (record { path = (0x2FE2 ∷ []); kind = (Transparent (hex (codes "98101430121181157002"))); arr = None; active = true; endless = false; fcp = None } ∷ []); aids = ([]); keys = ([]); channels = 3; get_response = false } ∷ [];
  actors =
      (operation.Insert 0 ∷ operation.Load 0 ∷ []) ∷
      [];
  changes = [];
  schedule = 1 ∷ 0 ∷ 0 ∷ 1 ∷ [];
  faults = [];
  budget = None;
}

abbrev pub rule08_39 : Report
rule08_39 = replayed rule08_39_script (
    t 1 ∷ b 1 0 ∷ w 1 (insert 0) ∷ a 1 0 answer.Moved ∷ t 1 ∷ x 0 (codes "8010000003010080") (codes "9000") ∷
    t 0 ∷ x 0 (codes "00A4040C07A0000000871002") (codes "6A82") ∷
    t 1 ∷ b 1 1 ∷ x 1 (codes "00A40804022FE200") (codes "620F8202412183022FE28A01058002000A9000") ∷
    x 1 (codes "00B000000A") (codes "981014301211811570029000") ∷ t 0 ∷ t 1 ∷ x 1 (codes "00A40804047FFF6F0700") (codes "6A82") ∷ t 0 ∷
    t 1 ∷ x 1 (codes "00A40804047FFF6FAD00") (codes "6A82") ∷ t 0 ∷ t 1 ∷ x 1 (codes "00A40804047FFF6F4600") (codes "6A82") ∷ t 0 ∷
    t 1 ∷ x 1 (codes "00A40804047FFF6F4000") (codes "6A82") ∷ t 0 ∷ t 1 ∷ x 1 (codes "00A40804047FFF6F4E00") (codes "6A82") ∷ t 0 ∷
    t 1 ∷ x 1 (codes "00A40804022F0000") (codes "6A82") ∷
    p 1 0 1 11 (codes "{\"ad\":null,\"apps\":[],\"iccid\":\"89014103211118510720\",\"imsi\":null,\"msisdn\":[],\"spn\":null}") ∷
    a 1 1 (answer.Loaded 1) ∷
    [])

abbrev pub rule08_41_script : Script
rule08_41_script = record {
  version = 1;
  cards =
      record { files = (record { path = (0x7FFF ∷ 0x6F46 ∷ []); kind = (Transparent (hex (codes "0180042F04300431FFFFFFFFFFFFFFFFFF"))); arr = None; active = true; endless = false; fcp = None } ∷ []); aids = ((hex (codes "A0000000871002FF49FFFF89")) ∷ []); keys = ([]); channels = 3; get_response = false } ∷ [];
  actors =
      (operation.Insert 0 ∷ operation.Load 0 ∷ operation.Arm 0 ∷ operation.Poll ∷ []) ∷
      [];
  changes =
      record { qualifier = 1; kind = 1; list = ((0x7FFF ∷ 0x6F46 ∷ []) ∷ []); files = (record { path = (0x7FFF ∷ 0x6F46 ∷ []); kind = (Transparent (hex (codes "0142FFFFFFFFFFFFFFFFFFFFFFFFFFFFFF"))); arr = None; active = true; endless = false; fcp = None } ∷ []) } ∷ [];
  schedule = [];
  faults = [];
  budget = None;
}

abbrev pub rule08_41 : Report
rule08_41 = taken rule08_41_script (
    t 1 ∷ b 1 0 ∷ w 1 (insert 0) ∷ a 1 0 answer.Moved ∷ t 0 ∷ x 0 (codes "8010000003010080") (codes "9000") ∷
    t 0 ∷ x 0 (codes "00A4040C07A0000000871002") (codes "9000") ∷ t 1 ∷ b 1 1 ∷ x 1 (codes "00A40804022FE200") (codes "6A82") ∷
    t 1 ∷ x 1 (codes "00A40804047FFF6F0700") (codes "6A82") ∷ t 1 ∷ x 1 (codes "00A40804047FFF6FAD00") (codes "6A82") ∷
    t 1 ∷ x 1 (codes "00A40804047FFF6F4600") (codes "620F8202412183026F468A0105800200119000") ∷
    x 1 (codes "00B0000010") (codes "0180042F04300431FFFFFFFFFFFFFFFF9000") ∷ t 1 ∷ x 1 (codes "00A40804047FFF6F4000") (codes "6A82") ∷
    t 1 ∷ x 1 (codes "00A40804047FFF6F4E00") (codes "6A82") ∷
    t 1 ∷ x 1 (codes "00A40804022F0000") (codes "6A82") ∷
    p 1 0 1 11 (123 ∷ 34 ∷ 97 ∷ 100 ∷ 34 ∷ 58 ∷ 110 ∷ 117 ∷ 108 ∷ 108 ∷ 44 ∷ 34 ∷ 97 ∷ 112 ∷ 112 ∷ 115 ∷ 34 ∷ 58 ∷ 91 ∷ 93 ∷ 44 ∷ 34 ∷ 105 ∷ 99 ∷ 99 ∷ 105 ∷ 100 ∷ 34 ∷ 58 ∷ 110 ∷ 117 ∷ 108 ∷ 108 ∷ 44 ∷ 34 ∷ 105 ∷ 109 ∷ 115 ∷ 105 ∷ 34 ∷ 58 ∷ 110 ∷ 117 ∷ 108 ∷ 108 ∷ 44 ∷ 34 ∷ 109 ∷ 115 ∷ 105 ∷ 115 ∷ 100 ∷ 110 ∷ 34 ∷ 58 ∷ 91 ∷ 93 ∷ 44 ∷ 34 ∷ 115 ∷ 112 ∷ 110 ∷ 34 ∷ 58 ∷ 123 ∷ 34 ∷ 110 ∷ 97 ∷ 109 ∷ 101 ∷ 34 ∷ 58 ∷ 34 ∷ 208 ∷ 175 ∷ 208 ∷ 176 ∷ 208 ∷ 177 ∷ 34 ∷ 44 ∷ 34 ∷ 115 ∷ 104 ∷ 111 ∷ 119 ∷ 34 ∷ 58 ∷ 49 ∷ 125 ∷ 125 ∷ []) ∷
    a 1 1 (answer.Loaded 1) ∷ t 1 ∷ b 1 2 ∷ w 1 (arm 0) ∷ a 1 2 answer.Moved ∷
    t 1 ∷ b 1 3 ∷ x 1 (codes "80F2000C") (codes "9114") ∷ a 1 3 answer.Polled ∷
    t 0 ∷ x 0 (codes "8012000014") (codes "D0128103010101820281829207013F007FFF6F469000") ∷
    t 0 ∷ x 0 (codes "801400000C810301010182028281830100") (codes "9000") ∷
    t 0 ∷ x 0 (codes "00A40804047FFF6F4600") (codes "620F8202412183026F468A0105800200119000") ∷
    x 0 (codes "00B0000011") (codes "0142FFFFFFFFFFFFFFFFFFFFFFFFFFFFFF9000") ∷
    p 2 0 1 17 (codes "{\"ad\":null,\"apps\":[],\"iccid\":null,\"imsi\":null,\"msisdn\":[],\"spn\":{\"name\":\"B\",\"show\":1}}") ∷
    [])

abbrev pub rule08_42_script : Script
rule08_42_script = record {
  version = 1;
  cards =
      record { files = (record { path = (0x7FFF ∷ 0x6F46 ∷ []); kind = (Transparent (hex (codes "0180042F04300431FFFFFFFFFFFFFFFFFF"))); arr = None; active = true; endless = false; fcp = None } ∷ []); aids = ((hex (codes "A0000000871002FF49FFFF89")) ∷ []); keys = ([]); channels = 3; get_response = false } ∷ [];
  actors =
      (operation.Insert 0 ∷ operation.Load 0 ∷ operation.Arm 0 ∷ operation.Poll ∷ []) ∷
      [];
  changes =
      record { qualifier = 1; kind = 1; list = ((0x7FFF ∷ 0x6F46 ∷ []) ∷ []); files = (record { path = (0x7FFF ∷ 0x6F46 ∷ []); kind = (Transparent (hex (codes "0142FFFFFFFFFFFFFFFFFFFFFFFFFFFFFF"))); arr = None; active = true; endless = false; fcp = None } ∷ []) } ∷ [];
  schedule = [];
  faults = [];
  budget = None;
}

abbrev pub rule08_42 : Report
rule08_42 = taken rule08_42_script (
    t 1 ∷ b 1 0 ∷ w 1 (insert 0) ∷ a 1 0 answer.Moved ∷ t 0 ∷ x 0 (codes "8010000003010080") (codes "9000") ∷
    t 0 ∷ x 0 (codes "00A4040C07A0000000871002") (codes "9000") ∷ t 1 ∷ b 1 1 ∷ x 1 (codes "00A40804022FE200") (codes "6A82") ∷
    t 1 ∷ x 1 (codes "00A40804047FFF6F0700") (codes "6A82") ∷ t 1 ∷ x 1 (codes "00A40804047FFF6FAD00") (codes "6A82") ∷
    t 1 ∷ x 1 (codes "00A40804047FFF6F4600") (codes "620F8202412183026F468A0105800200119000") ∷
    x 1 (codes "00B0000011") (codes "0180042F04300431FFFFFFFFFFFFFFFFFF9000") ∷ t 1 ∷ x 1 (codes "00A40804047FFF6F4000") (codes "6A82") ∷
    t 1 ∷ x 1 (codes "00A40804047FFF6F4E00") (codes "6A82") ∷
    t 1 ∷ x 1 (codes "00A40804022F0000") (codes "6A82") ∷
    p 1 0 1 11 (123 ∷ 34 ∷ 97 ∷ 100 ∷ 34 ∷ 58 ∷ 110 ∷ 117 ∷ 108 ∷ 108 ∷ 44 ∷ 34 ∷ 97 ∷ 112 ∷ 112 ∷ 115 ∷ 34 ∷ 58 ∷ 91 ∷ 93 ∷ 44 ∷ 34 ∷ 105 ∷ 99 ∷ 99 ∷ 105 ∷ 100 ∷ 34 ∷ 58 ∷ 110 ∷ 117 ∷ 108 ∷ 108 ∷ 44 ∷ 34 ∷ 105 ∷ 109 ∷ 115 ∷ 105 ∷ 34 ∷ 58 ∷ 110 ∷ 117 ∷ 108 ∷ 108 ∷ 44 ∷ 34 ∷ 109 ∷ 115 ∷ 105 ∷ 115 ∷ 100 ∷ 110 ∷ 34 ∷ 58 ∷ 91 ∷ 93 ∷ 44 ∷ 34 ∷ 115 ∷ 112 ∷ 110 ∷ 34 ∷ 58 ∷ 123 ∷ 34 ∷ 110 ∷ 97 ∷ 109 ∷ 101 ∷ 34 ∷ 58 ∷ 34 ∷ 208 ∷ 175 ∷ 208 ∷ 176 ∷ 208 ∷ 177 ∷ 34 ∷ 44 ∷ 34 ∷ 115 ∷ 104 ∷ 111 ∷ 119 ∷ 34 ∷ 58 ∷ 49 ∷ 125 ∷ 125 ∷ []) ∷
    a 1 1 (answer.Loaded 1) ∷ t 1 ∷ b 1 2 ∷ w 1 (arm 0) ∷ a 1 2 answer.Moved ∷
    t 1 ∷ b 1 3 ∷ x 1 (codes "80F2000C") (codes "9114") ∷ a 1 3 answer.Polled ∷
    t 0 ∷ x 0 (codes "8012000014") (codes "D0128103010101820281829207013F007FFF6F469000") ∷
    t 0 ∷ x 0 (codes "801400000C810301010182028281830100") (codes "9000") ∷
    t 0 ∷ x 0 (codes "00A40804047FFF6F4600") (codes "620F8202412183026F468A0105800200119000") ∷
    x 0 (codes "00B0000011") (codes "0142FFFFFFFFFFFFFFFFFFFFFFFFFFFFFF9000") ∷
    [])

abbrev pub rule08_43_script : Script
rule08_43_script = record {
  version = 1;
  cards =
      record { files = (record { path = (0x7F10 ∷ 0x6F3A ∷ []); kind = (Linear 24 ((hex (codes "FFFFFFFFFFFFFFFFFFFFFFFFFFFFFFFFFFFFFFFFFFFFFFFF")) ∷ [])); arr = None; active = true; endless = false; fcp = None } ∷ []); aids = ((hex (codes "A0000000871002FF49FFFF89")) ∷ []); keys = ([]); channels = 3; get_response = false } ∷ [];
  actors =
      (operation.Insert 0 ∷ operation.Load 1 ∷ operation.OpenChannel 0 (hex (codes "A0000000871002FF49FFFF89")) ∷
      operation.Raw 0 (sent (codes "00A40804047F106F3A")) ∷
      operation.Raw 0 (sent (codes "00DC010418426F62FFFFFFFFFFFFFF059151552143FFFFFFFFFFFFFFFF")) ∷
      operation.Raw 0 (sent (codes "00200001")) ∷ operation.Raw 4 (sent (codes "00200001")) ∷ operation.Look ∷ operation.Close 0 ∷ []) ∷
      [];
  changes = [];
  schedule = [];
  faults = [];
  budget = None;
}

abbrev pub rule08_43 : Report
rule08_43 = taken rule08_43_script (
    t 1 ∷ b 1 0 ∷ w 1 (insert 0) ∷ a 1 0 answer.Moved ∷ t 0 ∷ x 0 (codes "8010000003010080") (codes "9000") ∷
    t 0 ∷ x 0 (codes "00A4040C07A0000000871002") (codes "9000") ∷
    t 1 ∷ b 1 1 ∷ x 1 (codes "00A40804047F106F3A00") (codes "62128205422100180183026F3A8A0105800200189000") ∷
    x 1 (codes "00B2010418") (codes "FFFFFFFFFFFFFFFFFFFFFFFFFFFFFFFFFFFFFFFFFFFFFFFF9000") ∷
    t 1 ∷ x 1 (codes "00A40804047F106F4A00") (codes "6A82") ∷ p 1 1 1 6 (codes "{\"entries\":[null]}") ∷ a 1 1 (answer.Loaded 1) ∷
    t 1 ∷ b 1 2 ∷ x 1 (codes "0070000001") (codes "019000") ∷ x 1 (codes "01A4040C0CA0000000871002FF49FFFF89") (codes "9000") ∷
    a 1 2 (answer.Opened 1) ∷
    t 1 ∷ b 1 3 ∷ x 1 (codes "01A40804047F106F3A") (codes "62128205422100180183026F3A8A0105800200189000") ∷
    a 1 3 (answer.Raw (got (codes "62128205422100180183026F3A8A0105800200189000"))) ∷
    t 1 ∷ b 1 4 ∷ x 1 (codes "01DC010418426F62FFFFFFFFFFFFFF059151552143FFFFFFFFFFFFFFFF") (codes "9000") ∷
    a 1 4 (answer.Raw (got (codes "9000"))) ∷ t 1 ∷ b 1 5 ∷ a 1 5 (answer.RawRefused 0x20) ∷ t 1 ∷ b 1 6 ∷ a 1 6 (answer.NotHeldRef 4) ∷
    t 0 ∷ x 0 (codes "00A40804047F106F3A00") (codes "62128205422100180183026F3A8A0105800200189000") ∷
    x 0 (codes "00B2010418") (codes "426F62FFFFFFFFFFFFFF059151552143FFFFFFFFFFFFFFFF9000") ∷
    t 0 ∷ x 0 (codes "00A40804047F106F4A00") (codes "6A82") ∷
    p 2 1 1 13 (codes "{\"entries\":[{\"name\":\"Bob\",\"number\":\"+15551234\"}]}") ∷
    t 1 ∷ b 1 7 ∷ a 1 7 (answer.Look (record { count = 2; shown = (None ∷ (Some 1) ∷ None ∷ []) })) ∷
    t 1 ∷ b 1 8 ∷ x 1 (codes "00708001") (codes "9000") ∷ a 1 8 answer.Closed ∷
    [])

abbrev pub rule08_44_script : Script
rule08_44_script = record {
  version = 1;
  cards =
      record { files = (record { path = (0x7F10 ∷ 0x6F3A ∷ []); kind = (Linear 24 ((hex (codes "FFFFFFFFFFFFFFFFFFFFFFFFFFFFFFFFFFFFFFFFFFFFFFFF")) ∷ [])); arr = None; active = true; endless = false; fcp = None } ∷ []); aids = ((hex (codes "A0000000871002FF49FFFF89")) ∷ []); keys = ([]); channels = 3; get_response = false } ∷ [];
  actors =
      (operation.Insert 0 ∷ operation.Load 1 ∷ operation.OpenChannel 0 (hex (codes "A0000000871002FF49FFFF89")) ∷
      operation.Raw 0 (sent (codes "00A40804047F106F3A")) ∷
      operation.Raw 0 (sent (codes "00DC010418426F62FFFFFFFFFFFFFF059151552143FFFFFFFFFFFFFFFF")) ∷
      operation.Raw 0 (sent (codes "00200001")) ∷ operation.Raw 4 (sent (codes "00200001")) ∷ operation.Look ∷ operation.Close 0 ∷ []) ∷
      [];
  changes = [];
  schedule = [];
  faults = [];
  budget = None;
}

abbrev pub rule08_44 : Report
rule08_44 = taken rule08_44_script (
    t 1 ∷ b 1 0 ∷ w 1 (insert 0) ∷ a 1 0 answer.Moved ∷ t 0 ∷ x 0 (codes "8010000003010080") (codes "9000") ∷
    t 0 ∷ x 0 (codes "00A4040C07A0000000871002") (codes "9000") ∷
    t 1 ∷ b 1 1 ∷ x 1 (codes "00A40804047F106F3A00") (codes "62128205422100180183026F3A8A0105800200189000") ∷
    x 1 (codes "00B2010418") (codes "FFFFFFFFFFFFFFFFFFFFFFFFFFFFFFFFFFFFFFFFFFFFFFFF9000") ∷
    t 1 ∷ x 1 (codes "00A40804047F106F4A00") (codes "6A82") ∷ p 1 1 1 6 (codes "{\"entries\":[null]}") ∷ a 1 1 (answer.Loaded 1) ∷
    t 1 ∷ b 1 2 ∷ x 1 (codes "0070000001") (codes "019000") ∷ x 1 (codes "01A4040C0CA0000000871002FF49FFFF89") (codes "9000") ∷
    a 1 2 (answer.Opened 1) ∷
    t 1 ∷ b 1 3 ∷ x 1 (codes "01A40804047F106F3A") (codes "62128205422100180183026F3A8A0105800200189000") ∷
    a 1 3 (answer.Raw (got (codes "62128205422100180183026F3A8A0105800200189000"))) ∷
    t 1 ∷ b 1 4 ∷ x 1 (codes "01DC010418426F62FFFFFFFFFFFFFF059151552143FFFFFFFFFFFFFFFF") (codes "9000") ∷
    a 1 4 (answer.Raw (got (codes "9000"))) ∷ t 1 ∷ b 1 5 ∷ a 1 5 (answer.RawRefused 0x20) ∷ t 1 ∷ b 1 6 ∷ a 1 6 (answer.NotHeldRef 4) ∷
    t 0 ∷ x 0 (codes "00A40804047F106F3A00") (codes "62128205422100180183026F3A8A0105800200189000") ∷
    x 0 (codes "00B2010418") (codes "426F62FFFFFFFFFFFFFF059151552143FFFFFFFFFFFFFFFF9000") ∷
    t 0 ∷ x 0 (codes "00A40804047F106F4A00") (codes "6A82") ∷
    p 2 1 1 13 (codes "{\"entries\":[{\"name\":\"Bob\",\"number\":\"+15551234\"}]}") ∷
    t 1 ∷ b 1 7 ∷ a 1 7 (answer.Look (record { count = 3; shown = (None ∷ (Some 2) ∷ None ∷ []) })) ∷
    t 1 ∷ b 1 8 ∷ x 1 (codes "00708001") (codes "9000") ∷ a 1 8 answer.Closed ∷
    [])

abbrev pub rule08_45_script : Script
rule08_45_script = record {
  version = 1;
  cards =
      record { files = (record { path = (0x7F10 ∷ 0x6F3A ∷ []); kind = (Linear 24 ((hex (codes "FFFFFFFFFFFFFFFFFFFFFFFFFFFFFFFFFFFFFFFFFFFFFFFF")) ∷ [])); arr = None; active = true; endless = false; fcp = None } ∷ []); aids = ((hex (codes "A0000000871002FF49FFFF89")) ∷ []); keys = ([]); channels = 3; get_response = false } ∷ [];
  actors =
      (operation.Insert 0 ∷ operation.Load 1 ∷ operation.OpenChannel 0 (hex (codes "A0000000871002FF49FFFF89")) ∷
      operation.Raw 0 (sent (codes "00A40804047F106F3A")) ∷
      operation.Raw 0 (sent (codes "00DC010418426F62FFFFFFFFFFFFFF059151552143FFFFFFFFFFFFFFFF")) ∷
      operation.Raw 0 (sent (codes "00200001")) ∷ operation.Raw 4 (sent (codes "00200001")) ∷ operation.Look ∷ operation.Close 0 ∷ []) ∷
      [];
  changes = [];
  schedule = [];
  faults = [];
  budget = None;
}

abbrev pub rule08_45 : Report
rule08_45 = taken rule08_45_script (
    t 1 ∷ b 1 0 ∷ w 1 (insert 0) ∷ a 1 0 answer.Moved ∷ t 0 ∷ x 0 (codes "8010000003010080") (codes "9000") ∷
    t 0 ∷ x 0 (codes "00A4040C07A0000000871002") (codes "9000") ∷
    t 1 ∷ b 1 1 ∷ x 1 (codes "00A40804047F106F3A00") (codes "62128205422100180183026F3A8A0105800200189000") ∷
    x 1 (codes "00B2010418") (codes "FFFFFFFFFFFFFFFFFFFFFFFFFFFFFFFFFFFFFFFFFFFFFFFF9000") ∷
    t 1 ∷ x 1 (codes "00A40804047F106F4A00") (codes "6A82") ∷ p 1 1 1 6 (codes "{\"entries\":[null]}") ∷ a 1 1 (answer.Loaded 1) ∷
    t 1 ∷ b 1 2 ∷ x 1 (codes "0070000001") (codes "019000") ∷ x 1 (codes "01A4040C0CA0000000871002FF49FFFF89") (codes "9000") ∷
    a 1 2 (answer.Opened 1) ∷
    t 1 ∷ b 1 3 ∷ x 1 (codes "01A40804047F106F3A") (codes "62128205422100180183026F3A8A0105800200189000") ∷
    a 1 3 (answer.Raw (got (codes "62128205422100180183026F3A8A0105800200189000"))) ∷
    t 1 ∷ b 1 4 ∷ x 1 (codes "01DC010418426F62FFFFFFFFFFFFFF059151552143FFFFFFFFFFFFFFFF") (codes "9000") ∷
    a 1 4 (answer.Raw (got (codes "9000"))) ∷ t 1 ∷ b 1 5 ∷ a 1 5 (answer.RawRefused 0x20) ∷ t 1 ∷ b 1 6 ∷ a 1 6 (answer.NotHeldRef 4) ∷
    t 0 ∷ x 0 (codes "00A40804047F106F3A00") (codes "62128205422100180183026F3A8A0105800200189000") ∷
    x 0 (codes "00B2010418") (codes "426F62FFFFFFFFFFFFFF059151552143FFFFFFFFFFFFFFFF9000") ∷
    t 0 ∷ x 0 (codes "00A40804047F106F4A00") (codes "6A82") ∷
    p 2 1 1 13 (codes "{\"entries\":[{\"name\":\"Bob\",\"number\":\"+15551234\"}]}") ∷
    t 1 ∷ b 1 7 ∷ a 1 7 (answer.Look (record { count = 0; shown = (None ∷ None ∷ None ∷ []) })) ∷
    t 1 ∷ b 1 8 ∷ x 1 (codes "00708001") (codes "9000") ∷ a 1 8 answer.Closed ∷
    [])

abbrev pub rule08_46_script : Script
rule08_46_script = record {
  version = 1;
  cards =
      record { files = (record { path = (0x2FE2 ∷ []); kind = (Transparent (hex (codes "98101430121181157002"))); arr = None; active = true; endless = false; fcp = None } ∷ record { path = (0x7F10 ∷ 0x6F3A ∷ []); kind = (Linear 24 ((hex (codes "426F62FFFFFFFFFFFFFF059151552143FFFFFFFFFFFFFFFF")) ∷ (hex (codes "FFFFFFFFFFFFFFFFFFFFFFFFFFFFFFFFFFFFFFFFFFFFFFFF")) ∷ [])); arr = None; active = true; endless = false; fcp = None } ∷ []); aids = ([]); keys = ([]); channels = 3; get_response = false } ∷ [];
  actors =
      (operation.Insert 0 ∷ operation.Load 1 ∷ []) ∷
      (operation.Load 0 ∷ []) ∷
      [];
  changes = [];
  schedule = 1 ∷ 0 ∷ 0 ∷ 1 ∷ 2 ∷ 1 ∷ 1 ∷ 2 ∷ 2 ∷ 2 ∷ 2 ∷ 2 ∷ 2 ∷ [];
  faults = [];
  budget = None;
}

abbrev pub rule08_46 : Report
rule08_46 = replayed rule08_46_script (
    t 1 ∷ b 1 0 ∷ w 1 (insert 0) ∷ a 1 0 answer.Moved ∷ t 0 ∷ x 0 (codes "8010000003010080") (codes "9000") ∷
    t 0 ∷ x 0 (codes "00A4040C07A0000000871002") (codes "6A82") ∷
    t 1 ∷ b 1 1 ∷ x 1 (codes "00A40804047F106F3A00") (codes "62128205422100180283026F3A8A0105800200309000") ∷
    x 1 (codes "00B2010418") (codes "426F62FFFFFFFFFFFFFF059151552143FFFFFFFFFFFFFFFF9000") ∷
    t 2 ∷ b 2 0 ∷ x 2 (codes "00A40804022FE200") (codes "620F8202412183022FE28A01058002000A9000") ∷
    x 2 (codes "00B000000A") (codes "981014301211811570029000") ∷ t 1 ∷ x 1 (codes "00B2020418") (codes "6981") ∷
    t 1 ∷ x 1 (codes "00A40804047F106F4A00") (codes "6A82") ∷
    p 1 1 1 10 (codes "{\"entries\":[{\"name\":\"Bob\",\"number\":\"+15551234\"},null]}") ∷ a 1 1 (answer.Loaded 1) ∷
    t 2 ∷ x 2 (codes "00A40804047FFF6F0700") (codes "6A82") ∷ t 2 ∷ x 2 (codes "00A40804047FFF6FAD00") (codes "6A82") ∷
    t 2 ∷ x 2 (codes "00A40804047FFF6F4600") (codes "6A82") ∷ t 2 ∷ x 2 (codes "00A40804047FFF6F4000") (codes "6A82") ∷
    t 2 ∷ x 2 (codes "00A40804047FFF6F4E00") (codes "6A82") ∷
    t 2 ∷ x 2 (codes "00A40804022F0000") (codes "6A82") ∷
    p 2 0 1 16 (codes "{\"ad\":null,\"apps\":[],\"iccid\":\"89014103211118510720\",\"imsi\":null,\"msisdn\":[],\"spn\":null}") ∷
    a 2 0 (answer.Loaded 2) ∷
    [])

abbrev pub rule08_47_script : Script
rule08_47_script = record {
  version = 1;
  cards =
      record { files = (record { path = (0x2FE2 ∷ []); kind = (Transparent (hex (codes "98101430121181157002"))); arr = None; active = true; endless = false; fcp = None } ∷ []); aids = ((hex (codes "A0000000871002FF49FFFF89")) ∷ []); keys = ([]); channels = 3; get_response = false } ∷ [];
  actors =
      (operation.Insert 0 ∷ operation.OpenChannel 3 (hex (codes "A0000000871002FF49FFFF89")) ∷ operation.Load 0 ∷ operation.Close 3 ∷ []) ∷
      (operation.Arm 0 ∷ operation.Poll ∷ []) ∷
      [];
  changes = record { qualifier = 4; kind = 1; list = ([]); files = ([]) } ∷ [];
  schedule = 1 ∷ 0 ∷ 0 ∷ 1 ∷ 2 ∷ 1 ∷ 2 ∷ 0 ∷ 1 ∷ 0 ∷ 0 ∷ 1 ∷ 0 ∷ 0 ∷ 0 ∷ 0 ∷ 0 ∷ 0 ∷ 0 ∷ [];
  faults = [];
  budget = None;
}

abbrev pub rule08_47 : Report
rule08_47 = replayed rule08_47_script (
    t 1 ∷ b 1 0 ∷ w 1 (insert 0) ∷ a 1 0 answer.Moved ∷ t 0 ∷ x 0 (codes "8010000003010080") (codes "9000") ∷
    t 0 ∷ x 0 (codes "00A4040C07A0000000871002") (codes "9000") ∷
    t 1 ∷ b 1 1 ∷ x 1 (codes "0070000001") (codes "019000") ∷ x 1 (codes "01A4040C0CA0000000871002FF49FFFF89") (codes "9000") ∷
    a 1 1 (answer.Opened 1) ∷ t 2 ∷ b 2 0 ∷ w 2 (arm 0) ∷ a 2 0 answer.Moved ∷
    t 1 ∷ b 1 2 ∷ x 1 (codes "00A40804022FE200") (codes "620F8202412183022FE28A01058002000A910B") ∷
    x 1 (codes "00B000000A") (codes "98101430121181157002910B") ∷
    t 2 ∷ b 2 1 ∷ x 2 (codes "80F2000C") (codes "910B") ∷ a 2 1 answer.Polled ∷
    t 0 ∷ x 0 (codes "801200000B") (codes "D0098103010104820281829000") ∷ t 1 ∷ a 1 2 (answer.EpochEnded 1 11 false) ∷
    t 0 ∷ x 0 (codes "8010000003010080") (codes "9000") ∷ t 0 ∷ x 0 (codes "00A4040C07A0000000871002") (codes "9000") ∷
    t 1 ∷ b 1 3 ∷ a 1 3 (answer.EpochEnded 1 11 false) ∷
    t 0 ∷ x 0 (codes "00A40804022FE200") (codes "620F8202412183022FE28A01058002000A9000") ∷
    x 0 (codes "00B000000A") (codes "981014301211811570029000") ∷ t 0 ∷ x 0 (codes "00A40804047FFF6F0700") (codes "6A82") ∷
    t 0 ∷ x 0 (codes "00A40804047FFF6FAD00") (codes "6A82") ∷ t 0 ∷ x 0 (codes "00A40804047FFF6F4600") (codes "6A82") ∷
    t 0 ∷ x 0 (codes "00A40804047FFF6F4000") (codes "6A82") ∷ t 0 ∷ x 0 (codes "00A40804047FFF6F4E00") (codes "6A82") ∷
    t 0 ∷ x 0 (codes "00A40804022F0000") (codes "6A82") ∷
    p 2 0 2 21 (codes "{\"ad\":null,\"apps\":[],\"iccid\":\"89014103211118510720\",\"imsi\":null,\"msisdn\":[],\"spn\":null}") ∷
    [])

abbrev pub rule08_49 : Report
rule08_49 = changed 23 24 ([]) lost_answer

abbrev pub rule08_50_script : Script
rule08_50_script = record {
  version = 1;
  cards =
      record { files = ([]); aids = ((hex (codes "A0000000871002FF49FFFF89")) ∷ (hex (codes "A0000000090001")) ∷ []); keys = ([]); channels = 3; get_response = false } ∷ [];
  actors =
      (operation.Insert 0 ∷ operation.OpenChannel 0 (hex (codes "A0000000871002FF49FFFF89")) ∷
      operation.OpenChannel 1 (hex (codes "A0000000871002FF49FFFF89")) ∷
      operation.OpenChannel 2 (hex (codes "A0000000871002FF49FFFF89")) ∷
      operation.OpenChannel 3 (hex (codes "A0000000871002FF49FFFF89")) ∷ operation.Close 1 ∷
      operation.OpenChannel 4 (hex (codes "A0000000871002FF49FFFF89")) ∷ operation.Close 0 ∷
      operation.OpenChannel 5 (hex (codes "A000000099")) ∷ operation.Close 2 ∷ operation.Close 3 ∷ operation.Close 4 ∷
      operation.Close 5 ∷ []) ∷
      [];
  changes = [];
  schedule = [];
  faults = [];
  budget = None;
}

abbrev pub rule08_50 : Report
rule08_50 = taken rule08_50_script (
    t 1 ∷ b 1 0 ∷ w 1 (insert 0) ∷ a 1 0 answer.Moved ∷ t 0 ∷ x 0 (codes "8010000003010080") (codes "9000") ∷
    t 0 ∷ x 0 (codes "00A4040C07A0000000871002") (codes "9000") ∷
    t 1 ∷ b 1 1 ∷ x 1 (codes "0070000001") (codes "019000") ∷ x 1 (codes "01A4040C0CA0000000871002FF49FFFF89") (codes "9000") ∷
    a 1 1 (answer.Opened 1) ∷
    t 1 ∷ b 1 2 ∷ x 1 (codes "0070000001") (codes "029000") ∷ x 1 (codes "02A4040C0CA0000000871002FF49FFFF89") (codes "9000") ∷
    a 1 2 (answer.Opened 2) ∷
    t 1 ∷ b 1 3 ∷ x 1 (codes "0070000001") (codes "039000") ∷ x 1 (codes "03A4040C0CA0000000871002FF49FFFF89") (codes "9000") ∷
    a 1 3 (answer.Opened 3) ∷ t 1 ∷ b 1 4 ∷ x 1 (codes "0070000001") (codes "6A81") ∷ a 1 4 (answer.Exhausted 10) ∷
    t 1 ∷ b 1 5 ∷ x 1 (codes "00708002") (codes "9000") ∷ a 1 5 answer.Closed ∷
    t 1 ∷ b 1 6 ∷ x 1 (codes "0070000001") (codes "029000") ∷ x 1 (codes "02A4040C0CA0000000871002FF49FFFF89") (codes "9000") ∷
    a 1 6 (answer.Opened 2) ∷ t 1 ∷ b 1 7 ∷ x 2 (codes "00708001") (codes "9000") ∷ a 1 7 answer.Closed ∷
    t 1 ∷ b 1 8 ∷ x 1 (codes "0070000001") (codes "019000") ∷ x 1 (codes "01A4040C05A000000099") (codes "6A82") ∷
    x 1 (codes "00708001") (codes "9000") ∷ a 1 8 (answer.Status (record { 0 = 0x6A82 }) 16) ∷
    t 1 ∷ b 1 9 ∷ x 1 (codes "00708003") (codes "9000") ∷ a 1 9 answer.Closed ∷ t 1 ∷ b 1 10 ∷ a 1 10 (answer.NotHeldRef 3) ∷
    t 1 ∷ b 1 11 ∷ x 1 (codes "00708002") (codes "9000") ∷ a 1 11 answer.Closed ∷ t 1 ∷ b 1 12 ∷ a 1 12 (answer.NotHeldRef 5) ∷
    [])

abbrev pub rule09_52_script : Script
rule09_52_script = record {
  version = 1;
  cards =
      record { files = (record { path = (0x7FFF ∷ 0x6F46 ∷ []); kind = (Transparent (hex (codes "0180042F04300431FFFFFFFFFFFFFFFFFF"))); arr = None; active = true; endless = false; fcp = None } ∷ []); aids = ((hex (codes "A0000000871002FF49FFFF89")) ∷ []); keys = ([]); channels = 3; get_response = false } ∷ [];
  actors =
      (operation.Insert 0 ∷ operation.Load 0 ∷ operation.Arm 0 ∷ operation.Poll ∷ []) ∷
      [];
  changes =
      record { qualifier = 1; kind = 1; list = ((0x7FFF ∷ 0x6F46 ∷ []) ∷ []); files = (record { path = (0x7FFF ∷ 0x6F46 ∷ []); kind = (Transparent (hex (codes "0142FFFFFFFFFFFFFFFFFFFFFFFFFFFFFF"))); arr = None; active = true; endless = false; fcp = None } ∷ []) } ∷ [];
  schedule = [];
  faults = [];
  budget = None;
}

abbrev pub rule09_52 : Report
rule09_52 = taken rule09_52_script (
    t 1 ∷ b 1 0 ∷ w 1 (insert 0) ∷ a 1 0 answer.Moved ∷ t 0 ∷ x 0 (codes "8010000003010080") (codes "9000") ∷
    t 0 ∷ x 0 (codes "00A4040C07A0000000871002") (codes "9000") ∷ t 1 ∷ b 1 1 ∷ x 1 (codes "00A40804022FE200") (codes "6A82") ∷
    t 1 ∷ x 1 (codes "00A40804047FFF6F0700") (codes "6A82") ∷ t 1 ∷ x 1 (codes "00A40804047FFF6FAD00") (codes "6A82") ∷
    t 1 ∷ x 1 (codes "00A40804047FFF6F4600") (codes "620F8202412183026F468A0105800200119000") ∷
    x 1 (codes "00B0000011") (codes "0180042F04300431FFFFFFFFFFFFFFFFFF9000") ∷ t 1 ∷ x 1 (codes "00A40804047FFF6F4000") (codes "6A82") ∷
    t 1 ∷ x 1 (codes "00A40804047FFF6F4E00") (codes "6A82") ∷
    t 1 ∷ x 1 (codes "00A40804022F0000") (codes "6A82") ∷
    p 1 0 1 11 (123 ∷ 34 ∷ 97 ∷ 100 ∷ 34 ∷ 58 ∷ 110 ∷ 117 ∷ 108 ∷ 108 ∷ 44 ∷ 34 ∷ 97 ∷ 112 ∷ 112 ∷ 115 ∷ 34 ∷ 58 ∷ 91 ∷ 93 ∷ 44 ∷ 34 ∷ 105 ∷ 99 ∷ 99 ∷ 105 ∷ 100 ∷ 34 ∷ 58 ∷ 110 ∷ 117 ∷ 108 ∷ 108 ∷ 44 ∷ 34 ∷ 105 ∷ 109 ∷ 115 ∷ 105 ∷ 34 ∷ 58 ∷ 110 ∷ 117 ∷ 108 ∷ 108 ∷ 44 ∷ 34 ∷ 109 ∷ 115 ∷ 105 ∷ 115 ∷ 100 ∷ 110 ∷ 34 ∷ 58 ∷ 91 ∷ 93 ∷ 44 ∷ 34 ∷ 115 ∷ 112 ∷ 110 ∷ 34 ∷ 58 ∷ 123 ∷ 34 ∷ 110 ∷ 97 ∷ 109 ∷ 101 ∷ 34 ∷ 58 ∷ 34 ∷ 208 ∷ 175 ∷ 208 ∷ 176 ∷ 208 ∷ 177 ∷ 34 ∷ 44 ∷ 34 ∷ 115 ∷ 104 ∷ 111 ∷ 119 ∷ 34 ∷ 58 ∷ 49 ∷ 125 ∷ 125 ∷ []) ∷
    a 1 1 (answer.Loaded 1) ∷ t 1 ∷ b 1 2 ∷ w 1 (arm 0) ∷ a 1 2 answer.Moved ∷
    t 1 ∷ b 1 3 ∷ x 1 (codes "80F2000C") (codes "9114") ∷ a 1 3 answer.Polled ∷
    t 0 ∷ x 0 (codes "8012000014") (codes "D0128103010101820281829207013F007FFF6F469000") ∷
    t 0 ∷ x 0 (codes "801400000C810301010182028281830100") (codes "9000") ∷
    [])

abbrev pub rule09_53_script : Script
rule09_53_script = record {
  version = 1;
  cards =
      record { files = ([]); aids = ((hex (codes "A0000000871002FF49FFFF89")) ∷ (hex (codes "A0000000090001")) ∷ []); keys = ([]); channels = 3; get_response = false } ∷ [];
  actors =
      (operation.Insert 0 ∷ operation.OpenChannel 0 (hex (codes "A0000000871002FF49FFFF89")) ∷
      operation.OpenChannel 1 (hex (codes "A0000000871002FF49FFFF89")) ∷
      operation.OpenChannel 2 (hex (codes "A0000000871002FF49FFFF89")) ∷
      operation.OpenChannel 3 (hex (codes "A0000000871002FF49FFFF89")) ∷ operation.Close 1 ∷
      operation.OpenChannel 4 (hex (codes "A0000000871002FF49FFFF89")) ∷ operation.Close 0 ∷
      operation.OpenChannel 5 (hex (codes "A000000099")) ∷ operation.Close 2 ∷ operation.Close 3 ∷ operation.Close 4 ∷
      operation.Close 5 ∷ []) ∷
      [];
  changes = [];
  schedule = [];
  faults = [];
  budget = None;
}

abbrev pub rule09_53 : Report
rule09_53 = taken rule09_53_script (
    t 1 ∷ b 1 0 ∷ w 1 (insert 0) ∷ a 1 0 answer.Moved ∷ t 0 ∷ x 0 (codes "8010000003010080") (codes "9000") ∷
    t 0 ∷ x 0 (codes "00A4040C07A0000000871002") (codes "9000") ∷
    t 1 ∷ b 1 1 ∷ x 1 (codes "0070000001") (codes "019000") ∷ x 1 (codes "01A4040C0CA0000000871002FF49FFFF89") (codes "9000") ∷
    a 1 1 (answer.Opened 1) ∷
    t 1 ∷ b 1 2 ∷ x 1 (codes "0070000001") (codes "029000") ∷ x 1 (codes "02A4040C0CA0000000871002FF49FFFF89") (codes "9000") ∷
    a 1 2 (answer.Opened 2) ∷
    t 1 ∷ b 1 3 ∷ x 1 (codes "0070000001") (codes "039000") ∷ x 1 (codes "03A4040C0CA0000000871002FF49FFFF89") (codes "9000") ∷
    a 1 3 (answer.Opened 3) ∷ t 1 ∷ b 1 4 ∷ x 1 (codes "0070000001") (codes "6A81") ∷ a 1 4 (answer.Exhausted 10) ∷
    t 1 ∷ b 1 5 ∷ x 1 (codes "00708002") (codes "9000") ∷ a 1 5 answer.Closed ∷
    t 1 ∷ b 1 6 ∷ x 1 (codes "0070000001") (codes "029000") ∷ x 1 (codes "02A4040C0CA0000000871002FF49FFFF89") (codes "9000") ∷
    a 1 6 (answer.Opened 2) ∷ t 1 ∷ b 1 7 ∷ x 1 (codes "00708001") (codes "9000") ∷ a 1 7 answer.Closed ∷
    t 1 ∷ b 1 8 ∷ x 1 (codes "0070000001") (codes "019000") ∷ x 1 (codes "01A4040C05A000000099") (codes "6A82") ∷
    x 1 (codes "00708001") (codes "9000") ∷ a 1 8 (answer.Status (record { 0 = 0x6A82 }) 16) ∷
    t 1 ∷ b 1 9 ∷ x 1 (codes "00708003") (codes "9000") ∷ a 1 9 answer.Closed ∷ t 1 ∷ b 1 10 ∷ a 1 10 (answer.NotHeldRef 3) ∷
    t 1 ∷ b 1 11 ∷ x 1 (codes "00708002") (codes "9000") ∷ a 1 11 answer.Closed ∷
    [])

abbrev pub rule10_48_script : Script
rule10_48_script = record {
  version = 1;
  cards =
      record { files = (record { path = (0x2FE2 ∷ []); kind = (Transparent (hex (codes "98101430121181157002"))); arr = None; active = true; endless = false; fcp = None } ∷ []); aids = ((hex (codes "A0000000871002FF49FFFF89")) ∷ []); keys = ([]); channels = 3; get_response = false } ∷ [];
  actors =
      (operation.Insert 0 ∷ operation.OpenChannel 3 (hex (codes "A0000000871002FF49FFFF89")) ∷ operation.Load 0 ∷ operation.Close 3 ∷ []) ∷
      (operation.Arm 0 ∷ operation.Poll ∷ []) ∷
      [];
  changes = record { qualifier = 4; kind = 1; list = ([]); files = ([]) } ∷ [];
  schedule = 1 ∷ 0 ∷ 0 ∷ 1 ∷ 2 ∷ 1 ∷ 2 ∷ 0 ∷ 1 ∷ 0 ∷ 0 ∷ 1 ∷ 0 ∷ 0 ∷ 0 ∷ 0 ∷ 0 ∷ 0 ∷ 0 ∷ [];
  faults = [];
  budget = None;
}

abbrev pub rule10_48 : Report
rule10_48 = replayed rule10_48_script (
    t 1 ∷ b 1 0 ∷ w 1 (insert 0) ∷ a 1 0 answer.Moved ∷ t 0 ∷ x 0 (codes "8010000003010080") (codes "9000") ∷
    t 0 ∷ x 0 (codes "00A4040C07A0000000871002") (codes "9000") ∷
    t 1 ∷ b 1 1 ∷ x 1 (codes "0070000001") (codes "019000") ∷ x 1 (codes "01A4040C0CA0000000871002FF49FFFF89") (codes "9000") ∷
    a 1 1 (answer.Opened 1) ∷ t 2 ∷ b 2 0 ∷ w 2 (arm 0) ∷ a 2 0 answer.Moved ∷
    t 1 ∷ b 1 2 ∷ x 1 (codes "00A40804022FE200") (codes "620F8202412183022FE28A01058002000A910B") ∷
    x 1 (codes "00B000000A") (codes "98101430121181157002910B") ∷
    t 2 ∷ b 2 1 ∷ x 2 (codes "80F2000C") (codes "910B") ∷ a 2 1 answer.Polled ∷
    t 0 ∷ x 0 (codes "801200000B") (codes "D0098103010104820281829000") ∷ z 1 1 11 ∷ t 1 ∷ a 1 2 (answer.EpochEnded 1 11 false) ∷
    t 0 ∷ x 0 (codes "8010000003010080") (codes "9000") ∷ t 0 ∷ x 0 (codes "00A4040C07A0000000871002") (codes "9000") ∷
    t 1 ∷ b 1 3 ∷ a 1 3 (answer.EpochEnded 1 11 false) ∷
    t 0 ∷ x 0 (codes "00A40804022FE200") (codes "620F8202412183022FE28A01058002000A9000") ∷
    x 0 (codes "00B000000A") (codes "981014301211811570029000") ∷ t 0 ∷ x 0 (codes "00A40804047FFF6F0700") (codes "6A82") ∷
    t 0 ∷ x 0 (codes "00A40804047FFF6FAD00") (codes "6A82") ∷ t 0 ∷ x 0 (codes "00A40804047FFF6F4600") (codes "6A82") ∷
    t 0 ∷ x 0 (codes "00A40804047FFF6F4000") (codes "6A82") ∷ t 0 ∷ x 0 (codes "00A40804047FFF6F4E00") (codes "6A82") ∷
    t 0 ∷ x 0 (codes "00A40804022F0000") (codes "6A82") ∷
    p 2 0 2 21 (codes "{\"ad\":null,\"apps\":[],\"iccid\":\"89014103211118510720\",\"imsi\":null,\"msisdn\":[],\"spn\":null}") ∷
    [])

abbrev pub rule10_54_script : Script
rule10_54_script = record {
  version = 1;
  cards =
      record { files = (record { path = (0x7F10 ∷ 0x6F3A ∷ []); kind = (Linear 24 ((hex (codes "416E6EFFFFFFFFFFFFFF0B8121436587092143658709FF01")) ∷ [])); arr = None; active = true; endless = false; fcp = None } ∷ record { path = (0x7F10 ∷ 0x6F4A ∷ []); kind = (Linear 13 ((hex (codes "020121FFFFFFFFFFFFFFFFFFFF")) ∷ [])); arr = None; active = true; endless = false; fcp = None } ∷ []); aids = ([]); keys = ([]); channels = 3; get_response = false } ∷ [];
  actors =
      (operation.Insert 0 ∷ operation.Set 1 (Some 1) (codes "Bob") (codes "+15551234") ∷ operation.Load 1 ∷ []) ∷
      (operation.Out ∷ operation.Insert 0 ∷ []) ∷
      [];
  changes = [];
  schedule = 1 ∷ 0 ∷ 0 ∷ 1 ∷ 1 ∷ 1 ∷ 2 ∷ 1 ∷ 2 ∷ 0 ∷ 0 ∷ 1 ∷ 1 ∷ [];
  faults = [];
  budget = None;
}

abbrev pub rule10_54 : Report
rule10_54 = replayed rule10_54_script (
    t 1 ∷ b 1 0 ∷ w 1 (insert 0) ∷ a 1 0 answer.Moved ∷ t 0 ∷ x 0 (codes "8010000003010080") (codes "9000") ∷
    t 0 ∷ x 0 (codes "00A4040C07A0000000871002") (codes "6A82") ∷
    t 1 ∷ b 1 1 ∷ x 1 (codes "00A40804047F106F3A00") (codes "62128205422100180183026F3A8A0105800200189000") ∷
    x 1 (codes "00B2010418") (codes "416E6EFFFFFFFFFFFFFF0B8121436587092143658709FF019000") ∷
    t 1 ∷ x 1 (codes "00A40804047F106F4A00") (codes "621282054221000D0183026F4A8A01058002000D9000") ∷
    x 1 (codes "00B201040D") (codes "020121FFFFFFFFFFFFFFFFFFFF9000") ∷
    t 1 ∷ x 1 (codes "00A4080C047F106F3A") (codes "9000") ∷
    x 1 (codes "00DC010418426F62FFFFFFFFFFFFFF059151552143FFFFFFFFFFFFFFFF") (codes "9000") ∷
    t 2 ∷ b 2 0 ∷ w 2 out ∷ a 2 0 answer.Moved ∷ t 1 ∷ a 1 1 (answer.Done 9 (Some 1) (1 ∷ [])) ∷
    t 2 ∷ b 2 1 ∷ w 2 (insert 0) ∷ a 2 1 answer.Moved ∷ t 0 ∷ x 0 (codes "8010000003010080") (codes "9000") ∷
    t 0 ∷ x 0 (codes "00A4040C07A0000000871002") (codes "6A82") ∷
    t 1 ∷ b 1 2 ∷ x 1 (codes "00A40804047F106F3A00") (codes "62128205422100180183026F3A8A0105800200189000") ∷
    x 1 (codes "00B2010418") (codes "426F62FFFFFFFFFFFFFF059151552143FFFFFFFFFFFFFFFF9000") ∷
    t 1 ∷ x 1 (codes "00A40804047F106F4A00") (codes "621282054221000D0183026F4A8A01058002000D9000") ∷
    x 1 (codes "00B201040D") (codes "020121FFFFFFFFFFFFFFFFFFFF9000") ∷
    p 2 1 2 17 (codes "{\"entries\":[{\"name\":\"Bob\",\"number\":\"+15551234\"}]}") ∷ a 1 2 (answer.Loaded 2) ∷
    [])

abbrev pub rule10_55 : Report
rule10_55 = changed 19 20 (f 1 (codes "00DC010418426F62FFFFFFFFFFFFFF059151552143FFFFFFFFFFFFFFFF") false ∷ []) lost_answer

abbrev pub rule10_56 : Report
rule10_56 = changed 20 21 (z 1 1 6 ∷ []) lost_answer

abbrev pub rule10_57 : Report
rule10_57 = changed 21 21 (z 2 1 7 ∷ []) lost_answer

abbrev pub rule10_58 : Report
rule10_58 = changed 23 24 (q 0 ∷ []) lost_answer

abbrev pub rule10_59 : Report
rule10_59 = changed 23 24 (r 0 ∷ []) failed_reset

abbrev pub rule10_60_script : Script
rule10_60_script = record {
  version = 1;
  cards =
      record { files = (record { path = (0x2FE2 ∷ []); kind = (Transparent (hex (codes "98101430121181157002"))); arr = None; active = true; endless = false; fcp = None } ∷ []); aids = ([]); keys = ([]); channels = 3; get_response = false } ∷ [];
  actors =
      (operation.Insert 0 ∷ operation.Load 0 ∷ []) ∷
      [];
  changes = [];
  schedule = 1 ∷ 0 ∷ 0 ∷ 1 ∷ [];
  faults = [];
  budget = None;
}

abbrev pub rule10_60 : Report
rule10_60 = replayed rule10_60_script (
    t 1 ∷ b 1 0 ∷ w 1 (insert 0) ∷ a 1 0 answer.Moved ∷ t 0 ∷ x 0 (codes "8010000003010080") (codes "9000") ∷
    t 0 ∷ x 0 (codes "00A4040C07A0000000871002") (codes "6A82") ∷
    t 1 ∷ b 1 1 ∷ x 1 (codes "00A40804022FE200") (codes "620F8202412183022FE28A01058002000A9000") ∷ f 1 (codes "00B000000A") false ∷ t 0 ∷
    t 1 ∷ x 1 (codes "00A40804047FFF6F0700") (codes "6A82") ∷ t 0 ∷ t 1 ∷ x 1 (codes "00A40804047FFF6FAD00") (codes "6A82") ∷ t 0 ∷
    t 1 ∷ x 1 (codes "00A40804047FFF6F4600") (codes "6A82") ∷ t 0 ∷ t 1 ∷ x 1 (codes "00A40804047FFF6F4000") (codes "6A82") ∷ t 0 ∷
    t 1 ∷ x 1 (codes "00A40804047FFF6F4E00") (codes "6A82") ∷ t 0 ∷
    t 1 ∷ x 1 (codes "00A40804022F0000") (codes "6A82") ∷
    p 1 0 1 11 (codes "{\"ad\":null,\"apps\":[],\"iccid\":\"89014103211118510720\",\"imsi\":null,\"msisdn\":[],\"spn\":null}") ∷
    a 1 1 (answer.Loaded 1) ∷
    [])
