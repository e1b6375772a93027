-- Reports that break a rule: responses, snapshots, edits, channels, rest. Each is a worked report with lines replaced.
use Rattle.std.specs.Prelude.{[], ◌∷◌, Some, None, true, false, codes}
use Rattle.script_reader.specs.declared.types.Script.{Script}
use Rattle.script_reader.specs.declared.types.KindSpec.TheVariants.{Transparent, Linear}
use Rattle.script_reader.specs.declared.types.Operation.TheVariants as operation
use Rattle.report.specs.declared.answer.Answer.TheVariants as answer
use Rattle.report.specs.declared.lines.Report.{Report}
use Rattle.rules.specs.WorkedWords.{hex, sent, got, arm, insert, out, t, b, x, f, q, w, p, z, a, replayed, taken, changed}
use Rattle.rules.specs.WorkedEdits.{lost_answer}

abbrev pub rule01_01_script : Script
rule01_01_script = record {
  version = 1;
  cards =
      record { files = (record { path = (0x2FE2 ∷ []); kind = (Transparent (hex (codes "98101430121181157002"))); arr = None; active = true; endless = false; fcp = None } ∷ []); aids = ([]); keys = ([]); channels = 3; get_response = false } ∷ [];
  actors =
      (operation.Insert 0 ∷ operation.Load 0 ∷ []) ∷
      [];
  changes = [];
  schedule = 1 ∷ 0 ∷ 0 ∷ 1 ∷ [];
  faults = [];
  budget = None;
}

abbrev pub rule01_01 : Report
rule01_01 = replayed rule01_01_script (
    t 1 ∷ b 1 0 ∷ w 1 (insert 0) ∷ a 1 0 answer.Moved ∷ t 0 ∷ x 0 (codes "8010000003010080") (codes "9000") ∷
    t 0 ∷ x 0 (codes "00A4040C07A0000000871002") (codes "6A82") ∷
    t 1 ∷ b 1 1 ∷ x 1 (codes "00A40804022FE200") (codes "620F8202412183022FE28A01058002000A9000") ∷
    x 1 (codes "00B000000A") (codes "981014301211811570019000") ∷ t 0 ∷ t 1 ∷ x 1 (codes "00A40804047FFF6F0700") (codes "6A82") ∷ t 0 ∷
    t 1 ∷ x 1 (codes "00A40804047FFF6FAD00") (codes "6A82") ∷ t 0 ∷ t 1 ∷ x 1 (codes "00A40804047FFF6F4600") (codes "6A82") ∷ t 0 ∷
    t 1 ∷ x 1 (codes "00A40804047FFF6F4000") (codes "6A82") ∷ t 0 ∷ t 1 ∷ x 1 (codes "00A40804047FFF6F4E00") (codes "6A82") ∷ t 0 ∷
    t 1 ∷ x 1 (codes "00A40804022F0000") (codes "6A82") ∷
    p 1 0 1 11 (codes "{\"ad\":null,\"apps\":[],\"iccid\":\"89014103211118510720\",\"imsi\":null,\"msisdn\":[],\"spn\":null}") ∷
    a 1 1 (answer.Loaded 1) ∷
    [])

abbrev pub rule01_02_script : Script
rule01_02_script = record {
  version = 1;
  cards =
      record { files = ([]); aids = ([]); keys = (record { key = 0x01; pin = (hex (codes "31323334FFFFFFFF")); tries = 3; max = 3 } ∷ []); channels = 3; get_response = false } ∷ [];
  actors =
      (operation.Insert 0 ∷ operation.Verify 0x01 (hex (codes "31323334FFFFFFFF")) ∷ operation.End 0x01 ∷
      operation.Verify 0x01 (hex (codes "0000000000000000")) ∷ operation.End 0x01 ∷
      operation.Verify 0x01 (hex (codes "0000000000000000")) ∷ operation.End 0x01 ∷
      operation.Verify 0x01 (hex (codes "0000000000000000")) ∷ operation.End 0x01 ∷
      operation.Verify 0x01 (hex (codes "31323334FFFFFFFF")) ∷ operation.End 0x01 ∷ []) ∷
      [];
  changes = [];
  schedule = [];
  faults = [];
  budget = None;
}

abbrev pub rule01_02 : Report
rule01_02 = taken rule01_02_script (
    t 1 ∷ b 1 0 ∷ w 1 (insert 0) ∷ a 1 0 answer.Moved ∷ t 0 ∷ x 0 (codes "8010000003010080") (codes "9000") ∷
    t 0 ∷ x 0 (codes "00A4040C07A0000000871002") (codes "6A82") ∷
    t 1 ∷ b 1 1 ∷ x 1 (codes "002000010831323334FFFFFFFF") (codes "9000") ∷ a 1 1 answer.Verified ∷ t 1 ∷ b 1 2 ∷ a 1 2 answer.Ended ∷
    t 1 ∷ b 1 3 ∷ x 1 (codes "00200001080000000000000000") (codes "63C2") ∷ a 1 3 (answer.Status (record { 0 = 0x63C2 }) 5) ∷
    t 1 ∷ b 1 4 ∷ a 1 4 (answer.NotHeldKey 0x01) ∷
    t 1 ∷ b 1 5 ∷ x 1 (codes "00200001080000000000000000") (codes "63C2") ∷ a 1 5 (answer.Status (record { 0 = 0x63C1 }) 6) ∷
    t 1 ∷ b 1 6 ∷ a 1 6 (answer.NotHeldKey 0x01) ∷
    t 1 ∷ b 1 7 ∷ x 1 (codes "00200001080000000000000000") (codes "63C0") ∷ a 1 7 (answer.Status (record { 0 = 0x63C0 }) 7) ∷
    t 1 ∷ b 1 8 ∷ a 1 8 (answer.NotHeldKey 0x01) ∷
    t 1 ∷ b 1 9 ∷ x 1 (codes "002000010831323334FFFFFFFF") (codes "6983") ∷ a 1 9 (answer.Status (record { 0 = 0x6983 }) 8) ∷
    t 1 ∷ b 1 10 ∷ a 1 10 (answer.NotHeldKey 0x01) ∷
    [])

abbrev pub rule01_03_script : Script
rule01_03_script = record {
  version = 1;
  cards =
      record { files = (record { path = (0x7FFF ∷ 0x6F46 ∷ []); kind = (Transparent (hex (codes "0180042F04300431FFFFFFFFFFFFFFFFFF"))); arr = None; active = true; endless = false; fcp = None } ∷ []); aids = ((hex (codes "A0000000871002FF49FFFF89")) ∷ []); keys = ([]); channels = 3; get_response = false } ∷ [];
  actors =
      (operation.Insert 0 ∷ operation.Load 0 ∷ operation.Arm 0 ∷ operation.Poll ∷ []) ∷
      [];
  changes =
      record { qualifier = 1; kind = 1; list = ((0x7FFF ∷ 0x6F46 ∷ []) ∷ []); files = (record { path = (0x7FFF ∷ 0x6F46 ∷ []); kind = (Transparent (hex (codes "0142FFFFFFFFFFFFFFFFFFFFFFFFFFFFFF"))); arr = None; active = true; endless = false; fcp = None } ∷ []) } ∷ [];
  schedule = [];
  faults = [];
  budget = None;
}

abbrev pub rule01_03 : Report
rule01_03 = taken rule01_03_script (
    t 1 ∷ b 1 0 ∷ w 1 (insert 0) ∷ a 1 0 answer.Moved ∷ t 0 ∷ x 0 (codes "8010000003010080") (codes "9000") ∷
    t 0 ∷ x 0 (codes "00A4040C07A0000000871002") (codes "9000") ∷ t 1 ∷ b 1 1 ∷ x 1 (codes "00A40804022FE200") (codes "6A82") ∷
    t 1 ∷ x 1 (codes "00A40804047FFF6F0700") (codes "6A82") ∷ t 1 ∷ x 1 (codes "00A40804047FFF6FAD00") (codes "6A82") ∷
    t 1 ∷ x 1 (codes "00A40804047FFF6F4600") (codes "620F8202412183026F468A0105800200119000") ∷
    x 1 (codes "00B0000011") (codes "0180042F04300431FFFFFFFFFFFFFFFFFF9000") ∷ t 1 ∷ x 1 (codes "00A40804047FFF6F4000") (codes "6A82") ∷
    t 1 ∷ x 1 (codes "00A40804047FFF6F4E00") (codes "6A82") ∷
    t 1 ∷ x 1 (codes "00A40804022F0000") (codes "6A82") ∷
    p 1 0 1 11 (123 ∷ 34 ∷ 97 ∷ 100 ∷ 34 ∷ 58 ∷ 110 ∷ 117 ∷ 108 ∷ 108 ∷ 44 ∷ 34 ∷ 97 ∷ 112 ∷ 112 ∷ 115 ∷ 34 ∷ 58 ∷ 91 ∷ 93 ∷ 44 ∷ 34 ∷ 105 ∷ 99 ∷ 99 ∷ 105 ∷ 100 ∷ 34 ∷ 58 ∷ 110 ∷ 117 ∷ 108 ∷ 108 ∷ 44 ∷ 34 ∷ 105 ∷ 109 ∷ 115 ∷ 105 ∷ 34 ∷ 58 ∷ 110 ∷ 117 ∷ 108 ∷ 108 ∷ 44 ∷ 34 ∷ 109 ∷ 115 ∷ 105 ∷ 115 ∷ 100 ∷ 110 ∷ 34 ∷ 58 ∷ 91 ∷ 93 ∷ 44 ∷ 34 ∷ 115 ∷ 112 ∷ 110 ∷ 34 ∷ 58 ∷ 123 ∷ 34 ∷ 110 ∷ 97 ∷ 109 ∷ 101 ∷ 34 ∷ 58 ∷ 34 ∷ 208 ∷ 175 ∷ 208 ∷ 176 ∷ 208 ∷ 177 ∷ 34 ∷ 44 ∷ 34 ∷ 115 ∷ 104 ∷ 111 ∷ 119 ∷ 34 ∷ 58 ∷ 49 ∷ 125 ∷ 125 ∷ []) ∷
    a 1 1 (answer.Loaded 1) ∷ t 1 ∷ b 1 2 ∷ w 1 (arm 0) ∷ a 1 2 answer.Moved ∷
    t 1 ∷ b 1 3 ∷ x 1 (codes "80F2000C") (codes "9000") ∷ a 1 3 answer.Polled ∷
    t 0 ∷ x 0 (codes "8012000014") (codes "D0128103010101820281829207013F007FFF6F469000") ∷
    t 0 ∷ x 0 (codes "801400000C810301010182028281830100") (codes "9000") ∷
    t 0 ∷ x 0 (codes "00A40804047FFF6F4600") (codes "620F8202412183026F468A0105800200119000") ∷
    x 0 (codes "00B0000011") (codes "0142FFFFFFFFFFFFFFFFFFFFFFFFFFFFFF9000") ∷
    p 2 0 1 17 (codes "{\"ad\":null,\"apps\":[],\"iccid\":null,\"imsi\":null,\"msisdn\":[],\"spn\":{\"name\":\"B\",\"show\":1}}") ∷
    [])

abbrev pub rule01_04_script : Script
rule01_04_script = record {
  version = 1;
  cards =
      record { files = (record { path = (0x7F10 ∷ 0x6F3A ∷ []); kind = (Linear 24 ((hex (codes "416E6EFFFFFFFFFFFFFF0B8121436587092143658709FF01")) ∷ [])); arr = None; active = true; endless = false; fcp = None } ∷ record { path = (0x7F10 ∷ 0x6F4A ∷ []); kind = (Linear 13 ((hex (codes "020121FFFFFFFFFFFFFFFFFFFF")) ∷ [])); arr = None; active = true; endless = false; fcp = None } ∷ []); aids = ([]); keys = ([]); channels = 3; get_response = false } ∷ [];
  actors =
      (operation.Insert 0 ∷ operation.Set 1 (Some 1) (codes "Bob") (codes "+15551234") ∷ operation.Load 1 ∷ []) ∷
      (operation.Out ∷ operation.Insert 0 ∷ []) ∷
      [];
  changes = [];
  schedule = 1 ∷ 0 ∷ 0 ∷ 1 ∷ 1 ∷ 1 ∷ 2 ∷ 1 ∷ 2 ∷ 0 ∷ 0 ∷ 1 ∷ 1 ∷ [];
  faults = [];
  budget = None;
}

abbrev pub rule01_04 : Report
rule01_04 = replayed rule01_04_script (
    t 1 ∷ b 1 0 ∷ w 1 (insert 0) ∷ a 1 0 answer.Moved ∷ t 0 ∷ x 0 (codes "8010000003010080") (codes "9000") ∷
    t 0 ∷ x 0 (codes "00A4040C07A0000000871002") (codes "6A82") ∷
    t 1 ∷ b 1 1 ∷ x 1 (codes "00A40804047F106F3A00") (codes "62128205422100180183026F3A8A0105800200189000") ∷
    x 1 (codes "00B2010418") (codes "416E6EFFFFFFFFFFFFFF0B8121436587092143658709FF019000") ∷
    t 1 ∷ x 1 (codes "00A40804047F106F4A00") (codes "621282054221000D0183026F4A8A01058002000D9000") ∷
    x 1 (codes "00B201040D") (codes "020121FFFFFFFFFFFFFFFFFFFF9000") ∷
    t 1 ∷ x 1 (codes "00A4080C047F106F3A") (codes "9000") ∷
    x 1 (codes "00DC010418426F62FFFFFFFFFFFFFF059151552143FFFFFFFFFFFFFFFF") (codes "9000") ∷
    t 2 ∷ b 2 0 ∷ w 2 out ∷ x 2 (codes "80F2000C") (codes "9000") ∷ z 1 1 10 ∷ a 2 0 answer.Moved ∷
    t 1 ∷ a 1 1 (answer.Done 9 (Some 1) (1 ∷ [])) ∷ t 2 ∷ b 2 1 ∷ w 2 (insert 0) ∷ a 2 1 answer.Moved ∷
    t 0 ∷ x 0 (codes "8010000003010080") (codes "9000") ∷ t 0 ∷ x 0 (codes "00A4040C07A0000000871002") (codes "6A82") ∷
    t 1 ∷ b 1 2 ∷ x 1 (codes "00A40804047F106F3A00") (codes "62128205422100180183026F3A8A0105800200189000") ∷
    x 1 (codes "00B2010418") (codes "426F62FFFFFFFFFFFFFF059151552143FFFFFFFFFFFFFFFF9000") ∷
    t 1 ∷ x 1 (codes "00A40804047F106F4A00") (codes "621282054221000D0183026F4A8A01058002000D9000") ∷
    x 1 (codes "00B201040D") (codes "020121FFFFFFFFFFFFFFFFFFFF9000") ∷
    p 2 1 2 17 (codes "{\"entries\":[{\"name\":\"Bob\",\"number\":\"+15551234\"}]}") ∷ a 1 2 (answer.Loaded 2) ∷
    [])

abbrev pub rule02_05_script : Script
rule02_05_script = record {
  version = 1;
  cards =
      record { files = (record { path = (0x2FE2 ∷ []); kind = (Transparent (hex (codes "98101430121181157002"))); arr = None; active = true; endless = false; fcp = None } ∷ []); aids = ([]); keys = ([]); channels = 3; get_response = false } ∷ [];
  actors =
      (operation.Insert 0 ∷ operation.Load 0 ∷ []) ∷
      [];
  changes = [];
  schedule = 1 ∷ 0 ∷ 0 ∷ 1 ∷ [];
  faults = [];
  budget = None;
}

abbrev pub rule02_05 : Report
rule02_05 = replayed rule02_05_script (
    t 1 ∷ b 1 0 ∷ w 1 (insert 0) ∷ a 1 0 answer.Moved ∷ t 0 ∷ x 0 (codes "8010000003010080") (codes "9000") ∷
    t 0 ∷ x 0 (codes "00A4040C07A0000000871002") (codes "6A82") ∷
    t 1 ∷ b 1 1 ∷ x 1 (codes "00A40804022FE200") (codes "620F8202412183022FE28A01058002000A9000") ∷
    x 1 (codes "00B000000A") (codes "981014301211811570029000") ∷ t 0 ∷ t 1 ∷ x 1 (codes "00A40804047FFF6F0700") (codes "6A82") ∷ t 0 ∷
    t 1 ∷ x 1 (codes "00A40804047FFF6FAD00") (codes "6A82") ∷ t 0 ∷ t 1 ∷ x 1 (codes "00A40804047FFF6F4600") (codes "6A82") ∷ t 0 ∷
    t 1 ∷ x 1 (codes "00A40804047FFF6F4000") (codes "6A82") ∷ t 0 ∷ t 1 ∷ x 1 (codes "00A40804047FFF6F4E00") (codes "6A82") ∷ t 0 ∷
    t 1 ∷ x 1 (codes "00A40804022F0000") (codes "6A82") ∷
    p 1 0 1 10 (codes "{\"ad\":null,\"apps\":[],\"iccid\":\"89014103211118510720\",\"imsi\":null,\"msisdn\":[],\"spn\":null}") ∷
    a 1 1 (answer.Loaded 1) ∷
    [])

abbrev pub rule02_06_script : Script
rule02_06_script = record {
  version = 1;
  cards =
      record { files = (record { path = (0x2FE2 ∷ []); kind = (Transparent (hex (codes "98101430121181157002"))); arr = None; active = true; endless = false; fcp = None } ∷ []); aids = ([]); keys = ([]); channels = 3; get_response = false } ∷ [];
  actors =
      (operation.Insert 0 ∷ operation.Load 0 ∷ []) ∷
      [];
  changes = [];
  schedule = 1 ∷ 0 ∷ 0 ∷ 1 ∷ [];
  faults = [];
  budget = None;
}

abbrev pub rule02_06 : Report
rule02_06 = replayed rule02_06_script (
    t 1 ∷ b 1 0 ∷ w 1 (insert 0) ∷ a 1 0 answer.Moved ∷ t 0 ∷ x 0 (codes "8010000003010080") (codes "9000") ∷
    t 0 ∷ x 0 (codes "00A4040C07A0000000871002") (codes "6A82") ∷
    t 1 ∷ b 1 1 ∷ x 1 (codes "00A40804022FE200") (codes "620F8202412183022FE28A01058002000A9000") ∷
    x 1 (codes "00B000000A") (codes "981014301211811570029000") ∷ t 0 ∷ t 1 ∷ x 1 (codes "00A40804047FFF6F0700") (codes "6A82") ∷ t 0 ∷
    t 1 ∷ x 1 (codes "00A40804047FFF6FAD00") (codes "6A82") ∷ t 0 ∷ t 1 ∷ x 1 (codes "00A40804047FFF6F4600") (codes "6A82") ∷ t 0 ∷
    t 1 ∷ x 1 (codes "00A40804047FFF6F4000") (codes "6A82") ∷ t 0 ∷ t 1 ∷ x 1 (codes "00A40804047FFF6F4E00") (codes "6A82") ∷ t 0 ∷
    t 1 ∷ x 1 (codes "00A40804022F0000") (codes "6A82") ∷
    p 2 0 1 11 (codes "{\"ad\":null,\"apps\":[],\"iccid\":\"89014103211118510720\",\"imsi\":null,\"msisdn\":[],\"spn\":null}") ∷
    a 1 1 (answer.Loaded 1) ∷
    [])

abbrev pub rule02_07_script : Script
rule02_07_script = record {
  version = 1;
  cards =
      record { files = (record { path = (0x2FE2 ∷ []); kind = (Transparent (hex (codes "98101430121181157002"))); arr = None; active = true; endless = false; fcp = None } ∷ []); aids = ([]); keys = ([]); channels = 3; get_response = false } ∷ [];
  actors =
      (operation.Insert 0 ∷ operation.Load 0 ∷ []) ∷
      [];
  changes = [];
  schedule = 1 ∷ 0 ∷ 0 ∷ 1 ∷ [];
  faults = [];
  budget = None;
}

abbrev pub rule02_07 : Report
rule02_07 = replayed rule02_07_script (
    t 1 ∷ b 1 0 ∷ w 1 (insert 0) ∷ a 1 0 answer.Moved ∷ t 0 ∷ x 0 (codes "8010000003010080") (codes "9000") ∷
    t 0 ∷ x 0 (codes "00A4040C07A0000000871002") (codes "6A82") ∷
    t 1 ∷ b 1 1 ∷ x 1 (codes "00A40804022FE200") (codes "620F8202412183022FE28A01058002000A9000") ∷
    x 1 (codes "00B000000A") (codes "981014301211811570029000") ∷ t 0 ∷ t 1 ∷ x 1 (codes "00A40804047FFF6F0700") (codes "6A82") ∷ t 0 ∷
    t 1 ∷ x 1 (codes "00A40804047FFF6FAD00") (codes "6A82") ∷ t 0 ∷ t 1 ∷ x 1 (codes "00A40804047FFF6F4600") (codes "6A82") ∷ t 0 ∷
    t 1 ∷ x 1 (codes "00A40804047FFF6F4000") (codes "6A82") ∷ t 0 ∷ t 1 ∷ x 1 (codes "00A40804047FFF6F4E00") (codes "6A82") ∷ t 0 ∷
    t 1 ∷ x 1 (codes "00A40804022F0000") (codes "6A82") ∷
    p 1 0 1 11 (codes "{\"ad\":null,\"apps\":[],\"iccid\":\"89014103211118510721\",\"imsi\":null,\"msisdn\":[],\"spn\":null}") ∷
    a 1 1 (answer.Loaded 1) ∷
    [])

abbrev pub rule02_08_script : Script
rule02_08_script = record {
  version = 1;
  cards =
      record { files = (record { path = (0x7F10 ∷ 0x6F3A ∷ []); kind = (Linear 24 ((hex (codes "416E6EFFFFFFFFFFFFFF0B8121436587092143658709FF01")) ∷ [])); arr = None; active = true; endless = false; fcp = None } ∷ record { path = (0x7F10 ∷ 0x6F4A ∷ []); kind = (Linear 13 ((hex (codes "020121FFFFFFFFFFFFFFFFFFFF")) ∷ [])); arr = None; active = true; endless = false; fcp = None } ∷ []); aids = ([]); keys = ([]); channels = 3; get_response = false } ∷ [];
  actors =
      (operation.Insert 0 ∷ operation.Set 1 (Some 1) (codes "Bob") (codes "+15551234") ∷ operation.Load 1 ∷ []) ∷
      (operation.Out ∷ operation.Insert 0 ∷ []) ∷
      [];
  changes = [];
  schedule = 1 ∷ 0 ∷ 0 ∷ 1 ∷ 1 ∷ 1 ∷ 2 ∷ 1 ∷ 2 ∷ 0 ∷ 0 ∷ 1 ∷ 1 ∷ [];
  faults = [];
  budget = None;
}

abbrev pub rule02_08 : Report
rule02_08 = replayed rule02_08_script (
    t 1 ∷ b 1 0 ∷ w 1 (insert 0) ∷ a 1 0 answer.Moved ∷ t 0 ∷ x 0 (codes "8010000003010080") (codes "9000") ∷
    t 0 ∷ x 0 (codes "00A4040C07A0000000871002") (codes "6A82") ∷
    t 1 ∷ b 1 1 ∷ x 1 (codes "00A40804047F106F3A00") (codes "62128205422100180183026F3A8A0105800200189000") ∷
    x 1 (codes "00B2010418") (codes "416E6EFFFFFFFFFFFFFF0B8121436587092143658709FF019000") ∷
    t 1 ∷ x 1 (codes "00A40804047F106F4A00") (codes "621282054221000D0183026F4A8A01058002000D9000") ∷
    x 1 (codes "00B201040D") (codes "020121FFFFFFFFFFFFFFFFFFFF9000") ∷
    t 1 ∷ x 1 (codes "00A4080C047F106F3A") (codes "9000") ∷
    x 1 (codes "00DC010418426F62FFFFFFFFFFFFFF059151552143FFFFFFFFFFFFFFFF") (codes "9000") ∷
    t 2 ∷ b 2 0 ∷ w 2 out ∷ z 1 1 10 ∷ a 2 0 answer.Moved ∷ t 1 ∷ a 1 1 (answer.Done 9 (Some 1) (1 ∷ [])) ∷
    t 2 ∷ b 2 1 ∷ w 2 (insert 0) ∷ a 2 1 answer.Moved ∷ t 0 ∷ x 0 (codes "8010000003010080") (codes "9000") ∷
    t 0 ∷ x 0 (codes "00A4040C07A0000000871002") (codes "6A82") ∷
    t 1 ∷ b 1 2 ∷ x 1 (codes "00A40804047F106F3A00") (codes "62128205422100180183026F3A8A0105800200189000") ∷
    x 1 (codes "00B2010418") (codes "426F62FFFFFFFFFFFFFF059151552143FFFFFFFFFFFFFFFF9000") ∷
    t 1 ∷ x 1 (codes "00A40804047F106F4A00") (codes "621282054221000D0183026F4A8A01058002000D9000") ∷
    x 1 (codes "00B201040D") (codes "020121FFFFFFFFFFFFFFFFFFFF9000") ∷
    p 2 1 1 17 (codes "{\"entries\":[{\"name\":\"Bob\",\"number\":\"+15551234\"}]}") ∷ a 1 2 (answer.Loaded 2) ∷
    [])

abbrev pub rule03_09_script : Script
rule03_09_script = record {
  version = 1;
  cards =
      record { files = (record { path = (0x7F10 ∷ 0x6F3A ∷ []); kind = (Linear 24 ((hex (codes "416E6EFFFFFFFFFFFFFF0B8121436587092143658709FF01")) ∷ [])); arr = None; active = true; endless = false; fcp = None } ∷ record { path = (0x7F10 ∷ 0x6F4A ∷ []); kind = (Linear 13 ((hex (codes "020121FFFFFFFFFFFFFFFFFFFF")) ∷ [])); arr = None; active = true; endless = false; fcp = None } ∷ []); aids = ([]); keys = ([]); channels = 3; get_response = false } ∷ [];
  actors =
      (operation.Insert 0 ∷ operation.Set 1 (Some 1) (codes "Bob") (codes "+15551234") ∷ []) ∷
      [];
  changes = [];
  schedule = [];
  faults = [];
  budget = None;
}

abbrev pub rule03_09 : Report
rule03_09 = taken rule03_09_script (
    t 1 ∷ b 1 0 ∷ w 1 (insert 0) ∷ a 1 0 answer.Moved ∷ t 0 ∷ x 0 (codes "8010000003010080") (codes "9000") ∷
    t 0 ∷ x 0 (codes "00A4040C07A0000000871002") (codes "6A82") ∷
    t 1 ∷ b 1 1 ∷ x 1 (codes "00A40804047F106F3A00") (codes "62128205422100180183026F3A8A0105800200189000") ∷
    x 1 (codes "00B2010418") (codes "416E6EFFFFFFFFFFFFFF0B8121436587092143658709FF019000") ∷
    t 1 ∷ x 1 (codes "00A40804047F106F4A00") (codes "621282054221000D0183026F4A8A01058002000D9000") ∷
    x 1 (codes "00B201040D") (codes "020121FFFFFFFFFFFFFFFFFFFF9000") ∷
    t 1 ∷ x 1 (codes "00A4080C047F106F3A") (codes "9000") ∷
    x 1 (codes "00DC010418426F62FFFFFFFFFFFFFF059151552143FFFFFFFFFFFFFFFF") (codes "9000") ∷
    t 1 ∷ x 1 (codes "00A4080C047F106F4A") (codes "9000") ∷ x 1 (codes "00DC01040D00FFFFFFFFFFFFFFFFFFFFFFFF") (codes "9000") ∷
    t 1 ∷ p 1 1 1 11 (codes "{\"entries\":[{\"name\":\"Bob\",\"number\":\"+15551234\"}]}") ∷ a 1 1 (answer.Done 11 (Some 1) []) ∷
    [])

abbrev pub rule03_10_script : Script
rule03_10_script = record {
  version = 1;
  cards =
      record { files = (record { path = (0x7F10 ∷ 0x6F3A ∷ []); kind = (Linear 24 ((hex (codes "416E6EFFFFFFFFFFFFFF0B8121436587092143658709FF01")) ∷ [])); arr = None; active = true; endless = false; fcp = None } ∷ record { path = (0x7F10 ∷ 0x6F4A ∷ []); kind = (Linear 13 ((hex (codes "020121FFFFFFFFFFFFFFFFFFFF")) ∷ [])); arr = None; active = true; endless = false; fcp = None } ∷ []); aids = ([]); keys = ([]); channels = 3; get_response = false } ∷ [];
  actors =
      (operation.Insert 0 ∷ operation.Set 1 (Some 1) (codes "Bob") (codes "+15551234") ∷ []) ∷
      [];
  changes = [];
  schedule = [];
  faults = [];
  budget = None;
}

abbrev pub rule03_10 : Report
rule03_10 = taken rule03_10_script (
    t 1 ∷ b 1 0 ∷ w 1 (insert 0) ∷ a 1 0 answer.Moved ∷ t 0 ∷ x 0 (codes "8010000003010080") (codes "9000") ∷
    t 0 ∷ x 0 (codes "00A4040C07A0000000871002") (codes "6A82") ∷
    t 1 ∷ b 1 1 ∷ x 1 (codes "00A40804047F106F3A00") (codes "62128205422100180183026F3A8A0105800200189000") ∷
    x 1 (codes "00B2010418") (codes "416E6EFFFFFFFFFFFFFF0B8121436587092143658709FF019000") ∷
    t 1 ∷ x 1 (codes "00A40804047F106F4A00") (codes "621282054221000D0183026F4A8A01058002000D9000") ∷
    x 1 (codes "00B201040D") (codes "020121FFFFFFFFFFFFFFFFFFFF9000") ∷
    t 1 ∷ x 1 (codes "00A4080C047F106F3A") (codes "9000") ∷
    x 1 (codes "00DC010418426F62FFFFFFFFFFFFFF059151552143FFFFFFFFFFFFFFFF") (codes "9000") ∷
    t 1 ∷ x 1 (codes "00A4080C047F106F4A") (codes "9000") ∷ x 1 (codes "00DC01040D00FFFFFFFFFFFFFFFFFFFFFFFF") (codes "9000") ∷
    t 1 ∷ p 1 1 1 11 (codes "{\"entries\":[{\"name\":\"Bob\",\"number\":\"+15551234\"}]}") ∷ a 1 1 (answer.Done 9 (Some 1) (1 ∷ [])) ∷
    [])

abbrev pub rule03_11_script : Script
rule03_11_script = record {
  version = 1;
  cards =
      record { files = (record { path = (0x7F10 ∷ 0x6F3A ∷ []); kind = (Linear 24 ((hex (codes "416E6EFFFFFFFFFFFFFF0B8121436587092143658709FF01")) ∷ [])); arr = None; active = true; endless = false; fcp = None } ∷ record { path = (0x7F10 ∷ 0x6F4A ∷ []); kind = (Linear 13 ((hex (codes "020121FFFFFFFFFFFFFFFFFFFF")) ∷ [])); arr = None; active = true; endless = false; fcp = None } ∷ []); aids = ([]); keys = ([]); channels = 3; get_response = false } ∷ [];
  actors =
      (operation.Insert 0 ∷ operation.Set 1 (Some 1) (codes "Bob") (codes "+15551234") ∷ operation.Load 1 ∷ []) ∷
      (operation.Out ∷ operation.Insert 0 ∷ []) ∷
      [];
  changes = [];
  schedule = 1 ∷ 0 ∷ 0 ∷ 1 ∷ 1 ∷ 1 ∷ 2 ∷ 1 ∷ 2 ∷ 0 ∷ 0 ∷ 1 ∷ 1 ∷ [];
  faults = [];
  budget = None;
}

abbrev pub rule03_11 : Report
rule03_11 = replayed rule03_11_script (
    t 1 ∷ b 1 0 ∷ w 1 (insert 0) ∷ a 1 0 answer.Moved ∷ t 0 ∷ x 0 (codes "8010000003010080") (codes "9000") ∷
    t 0 ∷ x 0 (codes "00A4040C07A0000000871002") (codes "6A82") ∷
    t 1 ∷ b 1 1 ∷ x 1 (codes "00A40804047F106F3A00") (codes "62128205422100180183026F3A8A0105800200189000") ∷
    x 1 (codes "00B2010418") (codes "416E6EFFFFFFFFFFFFFF0B8121436587092143658709FF019000") ∷
    t 1 ∷ x 1 (codes "00A40804047F106F4A00") (codes "621282054221000D0183026F4A8A01058002000D9000") ∷
    x 1 (codes "00B201040D") (codes "020121FFFFFFFFFFFFFFFFFFFF9000") ∷
    t 1 ∷ x 1 (codes "00A4080C047F106F3A") (codes "9000") ∷
    x 1 (codes "00DC010418426F62FFFFFFFFFFFFFF059151552143FFFFFFFFFFFFFFFF") (codes "9000") ∷
    t 2 ∷ b 2 0 ∷ w 2 out ∷ z 1 1 10 ∷ a 2 0 answer.Moved ∷ t 1 ∷ a 1 1 (answer.Done 9 (Some 1) []) ∷
    t 2 ∷ b 2 1 ∷ w 2 (insert 0) ∷ a 2 1 answer.Moved ∷ t 0 ∷ x 0 (codes "8010000003010080") (codes "9000") ∷
    t 0 ∷ x 0 (codes "00A4040C07A0000000871002") (codes "6A82") ∷
    t 1 ∷ b 1 2 ∷ x 1 (codes "00A40804047F106F3A00") (codes "62128205422100180183026F3A8A0105800200189000") ∷
    x 1 (codes "00B2010418") (codes "426F62FFFFFFFFFFFFFF059151552143FFFFFFFFFFFFFFFF9000") ∷
    t 1 ∷ x 1 (codes "00A40804047F106F4A00") (codes "621282054221000D0183026F4A8A01058002000D9000") ∷
    x 1 (codes "00B201040D") (codes "020121FFFFFFFFFFFFFFFFFFFF9000") ∷
    p 2 1 2 17 (codes "{\"entries\":[{\"name\":\"Bob\",\"number\":\"+15551234\"}]}") ∷ a 1 2 (answer.Loaded 2) ∷
    [])

abbrev pub rule03_12 : Report
rule03_12 = changed 19 20 (f 1 (codes "00DC010418426F62FFFFFFFFFFFFFF059151552143FFFFFFFFFFFFFF01") true ∷ []) lost_answer

abbrev pub rule03_14_script : Script
rule03_14_script = record {
  version = 1;
  cards =
      record { files = (record { path = (0x7F10 ∷ 0x6F3A ∷ []); kind = (Linear 24 ((hex (codes "FFFFFFFFFFFFFFFFFFFFFFFFFFFFFFFFFFFFFFFFFFFFFFFF")) ∷ [])); arr = None; active = true; endless = false; fcp = None } ∷ []); aids = ((hex (codes "A0000000871002FF49FFFF89")) ∷ []); keys = ([]); channels = 3; get_response = false } ∷ [];
  actors =
      (operation.Insert 0 ∷ operation.Load 1 ∷ operation.OpenChannel 0 (hex (codes "A0000000871002FF49FFFF89")) ∷
      operation.Raw 0 (sent (codes "00A40804047F106F3A")) ∷
      operation.Raw 0 (sent (codes "00DC010418426F62FFFFFFFFFFFFFF059151552143FFFFFFFFFFFFFFFF")) ∷
      operation.Raw 0 (sent (codes "00200001")) ∷ operation.Raw 4 (sent (codes "00200001")) ∷ operation.Look ∷ operation.Close 0 ∷ []) ∷
      [];
  changes = [];
  schedule = [];
  faults = [];
  budget = None;
}

abbrev pub rule03_14 : Report
rule03_14 = taken rule03_14_script (
    t 1 ∷ b 1 0 ∷ w 1 (insert 0) ∷ a 1 0 answer.Moved ∷ t 0 ∷ x 0 (codes "8010000003010080") (codes "9000") ∷
    t 0 ∷ x 0 (codes "00A4040C07A0000000871002") (codes "9000") ∷
    t 1 ∷ b 1 1 ∷ x 1 (codes "00A40804047F106F3A00") (codes "62128205422100180183026F3A8A0105800200189000") ∷
    x 1 (codes "00B2010418") (codes "FFFFFFFFFFFFFFFFFFFFFFFFFFFFFFFFFFFFFFFFFFFFFFFF9000") ∷
    t 1 ∷ x 1 (codes "00A40804047F106F4A00") (codes "6A82") ∷ p 1 1 1 6 (codes "{\"entries\":[null]}") ∷ a 1 1 (answer.Loaded 1) ∷
    t 1 ∷ b 1 2 ∷ x 1 (codes "0070000001") (codes "019000") ∷ x 1 (codes "01A4040C0CA0000000871002FF49FFFF89") (codes "9000") ∷
    a 1 2 (answer.Opened 1) ∷
    t 1 ∷ b 1 3 ∷ x 1 (codes "01A40804047F106F3A") (codes "62128205422100180183026F3A8A0105800200189000") ∷
    a 1 3 (answer.Raw (got (codes "62128205422100180183026F3A8A0105800200189000"))) ∷
    t 1 ∷ b 1 4 ∷ x 1 (codes "01DC010418426F62FFFFFFFFFFFFFF059151552143FFFFFFFFFFFFFFFF") (codes "9000") ∷
    a 1 4 (answer.Raw (got (codes "9000"))) ∷ x 1 (codes "01DC010418426F62FFFFFFFFFFFFFF059151552143FFFFFFFFFFFFFFFF") (codes "9000") ∷
    t 1 ∷ b 1 5 ∷ a 1 5 (answer.RawRefused 0x20) ∷ t 1 ∷ b 1 6 ∷ a 1 6 (answer.NotHeldRef 4) ∷
    t 0 ∷ x 0 (codes "00A40804047F106F3A00") (codes "62128205422100180183026F3A8A0105800200189000") ∷
    x 0 (codes "00B2010418") (codes "426F62FFFFFFFFFFFFFF059151552143FFFFFFFFFFFFFFFF9000") ∷
    t 0 ∷ x 0 (codes "00A40804047F106F4A00") (codes "6A82") ∷
    p 2 1 1 13 (codes "{\"entries\":[{\"name\":\"Bob\",\"number\":\"+15551234\"}]}") ∷
    t 1 ∷ b 1 7 ∷ a 1 7 (answer.Look (record { count = 2; shown = (None ∷ (Some 2) ∷ None ∷ []) })) ∷
    t 1 ∷ b 1 8 ∷ x 1 (codes "00708001") (codes "9000") ∷ a 1 8 answer.Closed ∷
    [])

abbrev pub rule03_15_script : Script
rule03_15_script = record {
  version = 1;
  cards =
      record { files = (record { path = (0x7F10 ∷ 0x6F3A ∷ []); kind = (Linear 24 ((hex (codes "FFFFFFFFFFFFFFFFFFFFFFFFFFFFFFFFFFFFFFFFFFFFFFFF")) ∷ (hex (codes "FFFFFFFFFFFFFFFFFFFFFFFFFFFFFFFFFFFFFFFFFFFFFFFF")) ∷ [])); arr = None; active = true; endless = false; fcp = None } ∷ record { path = (0x7F10 ∷ 0x6F4A ∷ []); kind = (Linear 13 ((hex (codes "FFFFFFFFFFFFFFFFFFFFFFFFFF")) ∷ (hex (codes "FFFFFFFFFFFFFFFFFFFFFFFFFF")) ∷ [])); arr = None; active = true; endless = false; fcp = None } ∷ []); aids = ((hex (codes "A0000000871002FF49FFFF89")) ∷ []); keys = ([]); channels = 3; get_response = false } ∷ [];
  actors =
      (operation.Insert 0 ∷ operation.Set 1 (Some 1) (codes "Ann") (codes "1234567890123456789012") ∷ []) ∷
      (operation.OpenChannel 0 (hex (codes "A0000000871002FF49FFFF89")) ∷ operation.Raw 0 (sent (codes "00A4080C047F106F3A")) ∷
      operation.Raw 0 (sent (codes "00DC020418426F62FFFFFFFFFFFFFF059151552143FFFFFFFFFFFFFFFF")) ∷ operation.Close 0 ∷ []) ∷
      [];
  changes = [];
  schedule = 1 ∷ 0 ∷ 0 ∷ 1 ∷ 1 ∷ 1 ∷ 1 ∷ 2 ∷ 2 ∷ 1 ∷ 2 ∷ 1 ∷ 1 ∷ 1 ∷ 1 ∷ 1 ∷ 1 ∷ 1 ∷ 2 ∷ [];
  faults = [];
  budget = None;
}

abbrev pub rule03_15 : Report
rule03_15 = replayed rule03_15_script (
    t 1 ∷ b 1 0 ∷ w 1 (insert 0) ∷ a 1 0 answer.Moved ∷ t 0 ∷ x 0 (codes "8010000003010080") (codes "9000") ∷
    t 0 ∷ x 0 (codes "00A4040C07A0000000871002") (codes "9000") ∷
    t 1 ∷ b 1 1 ∷ x 1 (codes "00A40804047F106F3A00") (codes "62128205422100180283026F3A8A0105800200309000") ∷
    x 1 (codes "00B2010418") (codes "FFFFFFFFFFFFFFFFFFFFFFFFFFFFFFFFFFFFFFFFFFFFFFFF9000") ∷
    t 1 ∷ x 1 (codes "00B2020418") (codes "FFFFFFFFFFFFFFFFFFFFFFFFFFFFFFFFFFFFFFFFFFFFFFFF9000") ∷
    t 1 ∷ x 1 (codes "00A40804047F106F4A00") (codes "621282054221000D0283026F4A8A01058002001A9000") ∷
    x 1 (codes "00B201040D") (codes "FFFFFFFFFFFFFFFFFFFFFFFFFF9000") ∷
    t 1 ∷ x 1 (codes "00B202040D") (codes "FFFFFFFFFFFFFFFFFFFFFFFFFF9000") ∷
    t 2 ∷ b 2 0 ∷ x 2 (codes "0070000001") (codes "019000") ∷ x 2 (codes "01A4040C0CA0000000871002FF49FFFF89") (codes "9000") ∷
    a 2 0 (answer.Opened 1) ∷ t 2 ∷ b 2 1 ∷ x 2 (codes "01A4080C047F106F3A") (codes "9000") ∷ a 2 1 (answer.Raw (got (codes "9000"))) ∷
    t 1 ∷ x 1 (codes "00DC01040D020121FFFFFFFFFFFFFFFFFFFF") (codes "9000") ∷
    t 2 ∷ b 2 2 ∷ x 2 (codes "01DC020418426F62FFFFFFFFFFFFFF059151552143FFFFFFFFFFFFFFFF") (codes "9000") ∷
    a 2 2 (answer.Raw (got (codes "9000"))) ∷
    t 1 ∷ x 1 (codes "00A40804047F106F3A00") (codes "62128205422100180283026F3A8A0105800200309000") ∷
    x 1 (codes "00B2010418") (codes "FFFFFFFFFFFFFFFFFFFFFFFFFFFFFFFFFFFFFFFFFFFFFFFF9000") ∷
    t 1 ∷ x 1 (codes "00B2020418") (codes "426F62FFFFFFFFFFFFFF059151552143FFFFFFFFFFFFFFFF9000") ∷
    t 1 ∷ x 1 (codes "00A40804047F106F4A00") (codes "621282054221000D0283026F4A8A01058002001A9000") ∷
    x 1 (codes "00B201040D") (codes "020121FFFFFFFFFFFFFFFFFFFF9000") ∷
    t 1 ∷ x 1 (codes "00B202040D") (codes "FFFFFFFFFFFFFFFFFFFFFFFFFF9000") ∷
    t 1 ∷ x 1 (codes "00DC02040D020121FFFFFFFFFFFFFFFFFFFF") (codes "9000") ∷
    t 1 ∷ x 1 (codes "00A4080C047F106F3A") (codes "9000") ∷
    x 1 (codes "00DC010418416E6EFFFFFFFFFFFFFF0B8121436587092143658709FF02") (codes "9000") ∷
    t 1 ∷
    p 1 1 1 23 (codes "{\"entries\":[{\"name\":\"Ann\",\"number\":\"1234567890123456789012\"},{\"name\":\"Bob\",\"number\":\"+15551234\"}]}") ∷
    a 1 1 (answer.Done 23 (Some 1) (1 ∷ 2 ∷ [])) ∷ t 2 ∷ b 2 3 ∷ x 2 (codes "00708001") (codes "9000") ∷ a 2 3 answer.Closed ∷
    [])

abbrev pub rule03_16_script : Script
rule03_16_script = record {
  version = 1;
  cards =
      record { files = (record { path = (0x7F10 ∷ 0x6F3A ∷ []); kind = (Linear 24 ((hex (codes "416E6EFFFFFFFFFFFFFF0B8121436587092143658709FF01")) ∷ [])); arr = None; active = true; endless = false; fcp = None } ∷ record { path = (0x7F10 ∷ 0x6F4A ∷ []); kind = (Linear 13 ((hex (codes "020121FFFFFFFFFFFFFFFFFFFF")) ∷ [])); arr = None; active = true; endless = false; fcp = None } ∷ []); aids = ([]); keys = ([]); channels = 3; get_response = false } ∷ [];
  actors =
      (operation.Insert 0 ∷ operation.Set 1 (Some 1) (codes "Bob") (codes "+15551234") ∷ []) ∷
      [];
  changes = [];
  schedule = [];
  faults = [];
  budget = None;
}

abbrev pub rule03_16 : Report
rule03_16 = taken rule03_16_script (
    t 1 ∷ b 1 0 ∷ w 1 (insert 0) ∷ a 1 0 answer.Moved ∷ t 0 ∷ x 0 (codes "8010000003010080") (codes "9000") ∷
    t 0 ∷ x 0 (codes "00A4040C07A0000000871002") (codes "6A82") ∷
    t 1 ∷ b 1 1 ∷ x 1 (codes "00A40804047F106F3A00") (codes "62128205422100180183026F3A8A0105800200189000") ∷
    x 1 (codes "00B2010418") (codes "416E6EFFFFFFFFFFFFFF0B8121436587092143658709FF019000") ∷
    t 1 ∷ x 1 (codes "00A40804047F106F4A00") (codes "621282054221000D0183026F4A8A01058002000D9000") ∷
    x 1 (codes "00B201040D") (codes "020121FFFFFFFFFFFFFFFFFFFF9000") ∷
    t 1 ∷ x 1 (codes "00DC01040D00FFFFFFFFFFFFFFFFFFFFFFFF") (codes "9000") ∷
    t 1 ∷ x 1 (codes "00A4080C047F106F4A") (codes "9000") ∷ x 1 (codes "00DC01040D00FFFFFFFFFFFFFFFFFFFFFFFF") (codes "9000") ∷
    t 1 ∷ p 1 1 1 11 (codes "{\"entries\":[{\"name\":\"Bob\",\"number\":\"+15551234\"}]}") ∷ a 1 1 (answer.Done 9 (Some 1) []) ∷
    [])

abbrev pub rule04_17_script : Script
rule04_17_script = record {
  version = 1;
  cards =
      record { files = ([]); aids = ((hex (codes "A0000000871002FF49FFFF89")) ∷ (hex (codes "A0000000090001")) ∷ []); keys = ([]); channels = 3; get_response = false } ∷ [];
  actors =
      (operation.Insert 0 ∷ operation.OpenChannel 0 (hex (codes "A0000000871002FF49FFFF89")) ∷
      operation.OpenChannel 1 (hex (codes "A0000000871002FF49FFFF89")) ∷
      operation.OpenChannel 2 (hex (codes "A0000000871002FF49FFFF89")) ∷
      operation.OpenChannel 3 (hex (codes "A0000000871002FF49FFFF89")) ∷ operation.Close 1 ∷
      operation.OpenChannel 4 (hex (codes "A0000000871002FF49FFFF89")) ∷ operation.Close 0 ∷
      operation.OpenChannel 5 (hex (codes "A000000099")) ∷ operation.Close 2 ∷ operation.Close 3 ∷ operation.Close 4 ∷
      operation.Close 5 ∷ []) ∷
      [];
  changes = [];
  schedule = [];
  faults = [];
  budget = None;
}

abbrev pub rule04_17 : Report
rule04_17 = taken rule04_17_script (
    t 1 ∷ b 1 0 ∷ w 1 (insert 0) ∷ a 1 0 answer.Moved ∷ t 0 ∷ x 0 (codes "8010000003010080") (codes "9000") ∷
    t 0 ∷ x 0 (codes "00A4040C07A0000000871002") (codes "9000") ∷
    t 1 ∷ b 1 1 ∷ x 1 (codes "0070000001") (codes "019000") ∷ x 1 (codes "01A4040C0CA0000000871002FF49FFFF89") (codes "9000") ∷
    a 1 1 (answer.Opened 1) ∷
    t 1 ∷ b 1 2 ∷ x 1 (codes "0070000001") (codes "029000") ∷ x 1 (codes "02A4040C0CA0000000871002FF49FFFF89") (codes "9000") ∷
    a 1 2 (answer.Opened 2) ∷
    t 1 ∷ b 1 3 ∷ x 1 (codes "0070000001") (codes "039000") ∷ x 1 (codes "03A4040C0CA0000000871002FF49FFFF89") (codes "9000") ∷
    a 1 3 (answer.Opened 3) ∷ t 1 ∷ b 1 4 ∷ x 1 (codes "0070000001") (codes "6A81") ∷ a 1 4 (answer.Exhausted 10) ∷
    t 1 ∷ b 1 5 ∷ x 1 (codes "00708002") (codes "9000") ∷ a 1 5 answer.Closed ∷
    t 1 ∷ b 1 6 ∷ x 1 (codes "0070000001") (codes "029000") ∷ x 1 (codes "02A4040C0CA0000000871002FF49FFFF89") (codes "9000") ∷
    a 1 6 (answer.Opened 2) ∷ t 1 ∷ b 1 7 ∷ x 1 (codes "00708001") (codes "9000") ∷ a 1 7 answer.Closed ∷
    t 1 ∷ b 1 8 ∷ x 1 (codes "0070000001") (codes "019000") ∷ x 1 (codes "01A4040C05A000000099") (codes "6A82") ∷
    a 1 8 (answer.Status (record { 0 = 0x6A82 }) 16) ∷ t 1 ∷ b 1 9 ∷ x 1 (codes "00708003") (codes "9000") ∷ a 1 9 answer.Closed ∷
    t 1 ∷ b 1 10 ∷ a 1 10 (answer.NotHeldRef 3) ∷ t 1 ∷ b 1 11 ∷ x 1 (codes "00708002") (codes "9000") ∷ a 1 11 answer.Closed ∷
    t 1 ∷ b 1 12 ∷ a 1 12 (answer.NotHeldRef 5) ∷
    [])

abbrev pub rule04_18_script : Script
rule04_18_script = record {
  version = 1;
  cards =
      record { files = ([]); aids = ((hex (codes "A0000000871002FF49FFFF89")) ∷ (hex (codes "A0000000090001")) ∷ []); keys = ([]); channels = 3; get_response = false } ∷ [];
  actors =
      (operation.Insert 0 ∷ operation.OpenChannel 0 (hex (codes "A0000000871002FF49FFFF89")) ∷
      operation.OpenChannel 1 (hex (codes "A0000000871002FF49FFFF89")) ∷
      operation.OpenChannel 2 (hex (codes "A0000000871002FF49FFFF89")) ∷
      operation.OpenChannel 3 (hex (codes "A0000000871002FF49FFFF89")) ∷ operation.Close 1 ∷
      operation.OpenChannel 4 (hex (codes "A0000000871002FF49FFFF89")) ∷ operation.Close 0 ∷
      operation.OpenChannel 5 (hex (codes "A000000099")) ∷ operation.Close 2 ∷ operation.Close 3 ∷ operation.Close 4 ∷
      operation.Close 5 ∷ []) ∷
      [];
  changes = [];
  schedule = [];
  faults = [];
  budget = None;
}

abbrev pub rule04_18 : Report
rule04_18 = taken rule04_18_script (
    t 1 ∷ b 1 0 ∷ w 1 (insert 0) ∷ a 1 0 answer.Moved ∷ t 0 ∷ x 0 (codes "8010000003010080") (codes "9000") ∷
    t 0 ∷ x 0 (codes "00A4040C07A0000000871002") (codes "9000") ∷
    t 1 ∷ b 1 1 ∷ x 1 (codes "0070000001") (codes "019000") ∷ x 1 (codes "01A4040C0CA0000000871002FF49FFFF89") (codes "9000") ∷
    t 1 ∷ b 1 2 ∷ x 1 (codes "0070000001") (codes "029000") ∷ x 1 (codes "02A4040C0CA0000000871002FF49FFFF89") (codes "9000") ∷
    a 1 2 (answer.Opened 2) ∷
    t 1 ∷ b 1 3 ∷ x 1 (codes "0070000001") (codes "039000") ∷ x 1 (codes "03A4040C0CA0000000871002FF49FFFF89") (codes "9000") ∷
    a 1 3 (answer.Opened 3) ∷ t 1 ∷ b 1 4 ∷ x 1 (codes "0070000001") (codes "6A81") ∷ a 1 4 (answer.Exhausted 10) ∷
    t 1 ∷ b 1 5 ∷ x 1 (codes "00708002") (codes "9000") ∷ a 1 5 answer.Closed ∷
    t 1 ∷ b 1 6 ∷ x 1 (codes "0070000001") (codes "029000") ∷ x 1 (codes "02A4040C0CA0000000871002FF49FFFF89") (codes "9000") ∷
    a 1 6 (answer.Opened 2) ∷ t 1 ∷ b 1 7 ∷ x 1 (codes "00708001") (codes "9000") ∷ a 1 7 answer.Closed ∷
    t 1 ∷ b 1 8 ∷ x 1 (codes "0070000001") (codes "019000") ∷ x 1 (codes "01A4040C05A000000099") (codes "6A82") ∷
    x 1 (codes "00708001") (codes "9000") ∷ a 1 8 (answer.Status (record { 0 = 0x6A82 }) 16) ∷
    t 1 ∷ b 1 9 ∷ x 1 (codes "00708003") (codes "9000") ∷ a 1 9 answer.Closed ∷ t 1 ∷ b 1 10 ∷ a 1 10 (answer.NotHeldRef 3) ∷
    t 1 ∷ b 1 11 ∷ x 1 (codes "00708002") (codes "9000") ∷ a 1 11 answer.Closed ∷ t 1 ∷ b 1 12 ∷ a 1 12 (answer.NotHeldRef 5) ∷
    [])

abbrev pub rule04_19_script : Script
rule04_19_script = record {
  version = 1;
  cards =
      record { files = (record { path = (0x7F10 ∷ 0x6F3A ∷ []); kind = (Linear 24 ((hex (codes "FFFFFFFFFFFFFFFFFFFFFFFFFFFFFFFFFFFFFFFFFFFFFFFF")) ∷ [])); arr = None; active = true; endless = false; fcp = None } ∷ []); aids = ((hex (codes "A0000000871002FF49FFFF89")) ∷ []); keys = ([]); channels = 3; get_response = false } ∷ [];
  actors =
      (operation.Insert 0 ∷ operation.Load 1 ∷ operation.OpenChannel 0 (hex (codes "A0000000871002FF49FFFF89")) ∷
      operation.Raw 0 (sent (codes "00A40804047F106F3A")) ∷
      operation.Raw 0 (sent (codes "00DC010418426F62FFFFFFFFFFFFFF059151552143FFFFFFFFFFFFFFFF")) ∷
      operation.Raw 0 (sent (codes "00200001")) ∷ operation.Raw 4 (sent (codes "00200001")) ∷ operation.Look ∷ operation.Close 0 ∷ []) ∷
      [];
  changes = [];
  schedule = [];
  faults = [];
  budget = None;
}

abbrev pub rule04_19 : Report
rule04_19 = taken rule04_19_script (
    t 1 ∷ b 1 0 ∷ w 1 (insert 0) ∷ a 1 0 answer.Moved ∷ t 0 ∷ x 0 (codes "8010000003010080") (codes "9000") ∷
    t 0 ∷ x 0 (codes "00A4040C07A0000000871002") (codes "9000") ∷
    t 1 ∷ b 1 1 ∷ x 1 (codes "00A40804047F106F3A00") (codes "62128205422100180183026F3A8A0105800200189000") ∷
    x 1 (codes "00B2010418") (codes "FFFFFFFFFFFFFFFFFFFFFFFFFFFFFFFFFFFFFFFFFFFFFFFF9000") ∷
    t 1 ∷ x 1 (codes "00A40804047F106F4A00") (codes "6A82") ∷ p 1 1 1 6 (codes "{\"entries\":[null]}") ∷ a 1 1 (answer.Loaded 1) ∷
    t 1 ∷ b 1 2 ∷ x 1 (codes "0070000001") (codes "019000") ∷ x 1 (codes "01A4040C0CA0000000871002FF49FFFF89") (codes "9000") ∷
    a 1 2 (answer.Opened 1) ∷
    t 1 ∷ b 1 3 ∷ x 1 (codes "01A40804047F106F3A") (codes "62128205422100180183026F3A8A0105800200189000") ∷
    a 1 3 (answer.Raw (got (codes "62128205422100180183026F3A8A0105800200189000"))) ∷
    t 1 ∷ b 1 4 ∷ x 1 (codes "01DC010418426F62FFFFFFFFFFFFFF059151552143FFFFFFFFFFFFFFFF") (codes "9000") ∷
    a 1 4 (answer.Raw (got (codes "9000"))) ∷ t 1 ∷ b 1 5 ∷ a 1 5 (answer.RawRefused 0x20) ∷ t 1 ∷ b 1 6 ∷ a 1 6 (answer.NotHeldRef 4) ∷
    t 0 ∷ x 0 (codes "00A40804047F106F3A00") (codes "62128205422100180183026F3A8A0105800200189000") ∷
    x 0 (codes "00B2010418") (codes "426F62FFFFFFFFFFFFFF059151552143FFFFFFFFFFFFFFFF9000") ∷
    t 0 ∷ x 0 (codes "00A40804047F106F4A00") (codes "6A82") ∷
    p 2 1 1 13 (codes "{\"entries\":[{\"name\":\"Bob\",\"number\":\"+15551234\"}]}") ∷
    t 1 ∷ b 1 7 ∷ a 1 7 (answer.Look (record { count = 2; shown = (None ∷ (Some 2) ∷ None ∷ []) })) ∷
    t 1 ∷ b 1 8 ∷ x 1 (codes "00708001") (codes "9000") ∷
    [])

abbrev pub rule05_20_script : Script
rule05_20_script = record {
  version = 1;
  cards =
      record { files = (record { path = (0x7F10 ∷ 0x6F3A ∷ []); kind = (Linear 24 ((hex (codes "426F62FFFFFFFFFFFFFF059151552143FFFFFFFFFFFFFFFF")) ∷ [])); arr = None; active = true; endless = false; fcp = None } ∷ []); aids = ([]); keys = ([]); channels = 3; get_response = false } ∷ [];
  actors =
      (operation.Insert 0 ∷ operation.Load 1 ∷ operation.Arm 0 ∷ operation.Poll ∷ operation.Look ∷ []) ∷
      [];
  changes =
      record { qualifier = 4; kind = 1; list = ([]); files = (record { path = (0x7F10 ∷ 0x6F3A ∷ []); kind = (Linear 24 ((hex (codes "FFFFFFFFFFFFFFFFFFFFFFFFFFFFFFFFFFFFFFFFFFFFFFFF")) ∷ [])); arr = None; active = true; endless = false; fcp = None } ∷ []) } ∷ [];
  schedule = [];
  faults = record { at = 8; acted = true } ∷ [];
  budget = None;
}

abbrev pub rule05_20 : Report
rule05_20 = taken rule05_20_script (
    t 1 ∷ b 1 0 ∷ w 1 (insert 0) ∷ a 1 0 answer.Moved ∷ t 0 ∷ x 0 (codes "8010000003010080") (codes "9000") ∷
    t 0 ∷ x 0 (codes "00A4040C07A0000000871002") (codes "6A82") ∷
    t 1 ∷ b 1 1 ∷ x 1 (codes "00A40804047F106F3A00") (codes "62128205422100180183026F3A8A0105800200189000") ∷
    x 1 (codes "00B2010418") (codes "426F62FFFFFFFFFFFFFF059151552143FFFFFFFFFFFFFFFF9000") ∷
    t 1 ∷ x 1 (codes "00A40804047F106F4A00") (codes "6A82") ∷
    p 1 1 1 6 (codes "{\"entries\":[{\"name\":\"Bob\",\"number\":\"+15551234\"}]}") ∷ a 1 1 (answer.Loaded 1) ∷
    t 1 ∷ b 1 2 ∷ w 1 (arm 0) ∷ a 1 2 answer.Moved ∷ t 1 ∷ b 1 3 ∷ x 1 (codes "80F2000C") (codes "910B") ∷ a 1 3 answer.Polled ∷
    t 0 ∷ x 0 (codes "801200000B") (codes "D0098103010104820281829000") ∷ q 0 ∷
    t 1 ∷ b 1 4 ∷ a 1 4 (answer.Look (record { count = 2; shown = (None ∷ None ∷ None ∷ []) })) ∷
    [])

abbrev pub rule05_21_script : Script
rule05_21_script = record {
  version = 1;
  cards =
      record { files = (record { path = (0x7F10 ∷ 0x6F3A ∷ []); kind = (Linear 24 ((hex (codes "426F62FFFFFFFFFFFFFF059151552143FFFFFFFFFFFFFFFF")) ∷ [])); arr = None; active = true; endless = false; fcp = None } ∷ []); aids = ([]); keys = ([]); channels = 3; get_response = false } ∷ [];
  actors =
      (operation.Insert 0 ∷ operation.Load 1 ∷ operation.Out ∷ operation.Look ∷ []) ∷
      [];
  changes = [];
  schedule = [];
  faults = [];
  budget = None;
}

abbrev pub rule05_21 : Report
rule05_21 = taken rule05_21_script (
    t 1 ∷ b 1 0 ∷ w 1 (insert 0) ∷ a 1 0 answer.Moved ∷ t 0 ∷ x 0 (codes "8010000003010080") (codes "9000") ∷
    t 0 ∷ x 0 (codes "00A4040C07A0000000871002") (codes "6A82") ∷
    t 1 ∷ b 1 1 ∷ x 1 (codes "00A40804047F106F3A00") (codes "62128205422100180183026F3A8A0105800200189000") ∷
    x 1 (codes "00B2010418") (codes "426F62FFFFFFFFFFFFFF059151552143FFFFFFFFFFFFFFFF9000") ∷
    t 1 ∷ x 1 (codes "00A40804047F106F4A00") (codes "6A82") ∷
    p 1 1 1 6 (codes "{\"entries\":[{\"name\":\"Bob\",\"number\":\"+15551234\"}]}") ∷ a 1 1 (answer.Loaded 1) ∷
    t 1 ∷ b 1 2 ∷ w 1 out ∷ a 1 2 answer.Moved ∷
    t 1 ∷ b 1 3 ∷ a 1 3 (answer.Look (record { count = 2; shown = (None ∷ None ∷ None ∷ []) })) ∷
    [])
