-- Reports that break a rule: answers. Each is a worked report with lines replaced.
use Rattle.std.specs.Prelude.{[], ◌∷◌, Some, None, true, false, codes}
use Rattle.script_reader.specs.declared.types.Script.{Script}
use Rattle.script_reader.specs.declared.types.KindSpec.TheVariants.{Transparent, Linear}
use Rattle.script_reader.specs.declared.types.Operation.TheVariants as operation
use Rattle.report.specs.declared.answer.Answer.TheVariants as answer
use Rattle.report.specs.declared.lines.Report.{Report}
use Rattle.rules.specs.WorkedWords.{hex, arm, insert, out, t, b, x, r, w, p, z, d, a, replayed, taken, changed}
use Rattle.rules.specs.WorkedEdits.{lost_answer}

abbrev pub rule06_22_script : Script
rule06_22_script = record {
  version = 1;
  cards =
      record { files = (record { path = (0x2FE2 ∷ []); kind = (Transparent (hex (codes "98101430121181157002"))); arr = None; active = true; endless = false; fcp = None } ∷ []); aids = ([]); keys = ([]); channels = 3; get_response = false } ∷ [];
  actors =
      (operation.Insert 0 ∷ operation.Load 0 ∷ []) ∷
      [];
  changes = [];
  schedule = 1 ∷ 0 ∷ 0 ∷ 1 ∷ [];
  faults = [];
  budget = None;
}

abbrev pub rule06_22 : Report
rule06_22 = replayed rule06_22_script (
    t 1 ∷ b 1 0 ∷ w 1 (insert 0) ∷ a 1 0 answer.Moved ∷ t 0 ∷ x 0 (codes "8010000003010080") (codes "9000") ∷
    t 0 ∷ x 0 (codes "00A4040C07A0000000871002") (codes "6A82") ∷
    t 1 ∷ b 1 1 ∷ x 1 (codes "00A40804022FE200") (codes "620F8202412183022FE28A01058002000A9000") ∷
    x 1 (codes "00B000000A") (codes "981014301211811570029000") ∷ t 0 ∷ t 1 ∷ x 1 (codes "00A40804047FFF6F0700") (codes "6A82") ∷ t 0 ∷
    t 1 ∷ x 1 (codes "00A40804047FFF6FAD00") (codes "6A82") ∷ t 0 ∷ t 1 ∷ x 1 (codes "00A40804047FFF6F4600") (codes "6A82") ∷ t 0 ∷
    t 1 ∷ x 1 (codes "00A40804047FFF6F4000") (codes "6A82") ∷ t 0 ∷ t 1 ∷ x 1 (codes "00A40804047FFF6F4E00") (codes "6A82") ∷ t 0 ∷
    t 1 ∷ x 1 (codes "00A40804022F0000") (codes "6A82") ∷
    p 1 0 1 11 (codes "{\"ad\":null,\"apps\":[],\"iccid\":\"89014103211118510720\",\"imsi\":null,\"msisdn\":[],\"spn\":null}") ∷
    a 1 1 (answer.Loaded 2) ∷
    [])

abbrev pub rule06_23_script : Script
rule06_23_script = record {
  version = 1;
  cards =
      record { files = (record { path = (0x2FE2 ∷ []); kind = (Transparent (hex (codes "98101430121181157002"))); arr = None; active = true; endless = false; fcp = None } ∷ []); aids = ([]); keys = ([]); channels = 3; get_response = false } ∷ [];
  actors =
      (operation.Insert 0 ∷ operation.Load 0 ∷ []) ∷
      [];
  changes = [];
  schedule = 1 ∷ 0 ∷ 0 ∷ 1 ∷ [];
  faults = [];
  budget = None;
}

abbrev pub rule06_23 : Report
rule06_23 = replayed rule06_23_script (
    t 1 ∷ b 1 0 ∷ w 1 (insert 0) ∷ a 1 0 answer.SlotFull ∷ t 0 ∷ x 0 (codes "8010000003010080") (codes "9000") ∷
    t 0 ∷ x 0 (codes "00A4040C07A0000000871002") (codes "6A82") ∷
    t 1 ∷ b 1 1 ∷ x 1 (codes "00A40804022FE200") (codes "620F8202412183022FE28A01058002000A9000") ∷
    x 1 (codes "00B000000A") (codes "981014301211811570029000") ∷ t 0 ∷ t 1 ∷ x 1 (codes "00A40804047FFF6F0700") (codes "6A82") ∷ t 0 ∷
    t 1 ∷ x 1 (codes "00A40804047FFF6FAD00") (codes "6A82") ∷ t 0 ∷ t 1 ∷ x 1 (codes "00A40804047FFF6F4600") (codes "6A82") ∷ t 0 ∷
    t 1 ∷ x 1 (codes "00A40804047FFF6F4000") (codes "6A82") ∷ t 0 ∷ t 1 ∷ x 1 (codes "00A40804047FFF6F4E00") (codes "6A82") ∷ t 0 ∷
    t 1 ∷ x 1 (codes "00A40804022F0000") (codes "6A82") ∷
    p 1 0 1 11 (codes "{\"ad\":null,\"apps\":[],\"iccid\":\"89014103211118510720\",\"imsi\":null,\"msisdn\":[],\"spn\":null}") ∷
    a 1 1 (answer.Loaded 1) ∷
    [])

abbrev pub rule06_24_script : Script
rule06_24_script = record {
  version = 1;
  cards =
      record { files = (record { path = (0x2FE2 ∷ []); kind = (Transparent (hex (codes "98101430121181157002"))); arr = None; active = true; endless = false; fcp = None } ∷ []); aids = ([]); keys = ([]); channels = 3; get_response = false } ∷ [];
  actors =
      (operation.Insert 0 ∷ operation.Load 0 ∷ []) ∷
      [];
  changes = [];
  schedule = 1 ∷ 0 ∷ 0 ∷ 1 ∷ [];
  faults = [];
  budget = None;
}

abbrev pub rule06_24 : Report
rule06_24 = replayed rule06_24_script (
    t 1 ∷ b 1 0 ∷ w 1 (insert 0) ∷ a 1 1 answer.Moved ∷ t 0 ∷ x 0 (codes "8010000003010080") (codes "9000") ∷
    t 0 ∷ x 0 (codes "00A4040C07A0000000871002") (codes "6A82") ∷
    t 1 ∷ b 1 1 ∷ x 1 (codes "00A40804022FE200") (codes "620F8202412183022FE28A01058002000A9000") ∷
    x 1 (codes "00B000000A") (codes "981014301211811570029000") ∷ t 0 ∷ t 1 ∷ x 1 (codes "00A40804047FFF6F0700") (codes "6A82") ∷ t 0 ∷
    t 1 ∷ x 1 (codes "00A40804047FFF6FAD00") (codes "6A82") ∷ t 0 ∷ t 1 ∷ x 1 (codes "00A40804047FFF6F4600") (codes "6A82") ∷ t 0 ∷
    t 1 ∷ x 1 (codes "00A40804047FFF6F4000") (codes "6A82") ∷ t 0 ∷ t 1 ∷ x 1 (codes "00A40804047FFF6F4E00") (codes "6A82") ∷ t 0 ∷
    t 1 ∷ x 1 (codes "00A40804022F0000") (codes "6A82") ∷
    p 1 0 1 11 (codes "{\"ad\":null,\"apps\":[],\"iccid\":\"89014103211118510720\",\"imsi\":null,\"msisdn\":[],\"spn\":null}") ∷
    a 1 1 (answer.Loaded 1) ∷
    [])

abbrev pub rule06_25_script : Script
rule06_25_script = record {
  version = 1;
  cards =
      record { files = (record { path = (0x2FE2 ∷ []); kind = (Transparent (hex (codes "98101430121181157002"))); arr = None; active = true; endless = false; fcp = None } ∷ []); aids = ([]); keys = ([]); channels = 3; get_response = false } ∷ [];
  actors =
      (operation.Insert 0 ∷ operation.Load 0 ∷ []) ∷
      [];
  changes = [];
  schedule = 1 ∷ 0 ∷ 0 ∷ 1 ∷ [];
  faults = [];
  budget = None;
}

abbrev pub rule06_25 : Report
rule06_25 = replayed rule06_25_script (
    t 1 ∷ b 1 0 ∷ w 1 (insert 0) ∷ a 1 0 answer.Moved ∷ t 0 ∷ x 0 (codes "8010000003010080") (codes "9000") ∷
    t 0 ∷ x 0 (codes "00A4040C07A0000000871002") (codes "6A82") ∷
    t 1 ∷ b 1 1 ∷ x 1 (codes "00A40804022FE200") (codes "620F8202412183022FE28A01058002000A9000") ∷
    x 1 (codes "00B000000A") (codes "981014301211811570029000") ∷ t 0 ∷ t 1 ∷ x 1 (codes "00A40804047FFF6F0700") (codes "6A82") ∷ t 0 ∷
    t 1 ∷ x 1 (codes "00A40804047FFF6FAD00") (codes "6A82") ∷ t 0 ∷ t 1 ∷ x 1 (codes "00A40804047FFF6F4600") (codes "6A82") ∷ t 0 ∷
    t 1 ∷ x 1 (codes "00A40804047FFF6F4000") (codes "6A82") ∷ t 0 ∷ t 1 ∷ x 1 (codes "00A40804047FFF6F4E00") (codes "6A82") ∷ t 0 ∷
    t 1 ∷ x 1 (codes "00A40804022F0000") (codes "6A82") ∷ a 1 1 (answer.Loaded 1) ∷
    [])

abbrev pub rule06_26 : Report
rule06_26 = changed 21 22 (a 1 1 (answer.EpochEnded 1 7 false) ∷ []) lost_answer

abbrev pub rule06_27_script : Script
rule06_27_script = record {
  version = 1;
  cards =
      record { files = (record { path = (0x2FE2 ∷ []); kind = (Transparent (hex (codes "98101430121181157002"))); arr = None; active = false; endless = false; fcp = None } ∷ []); aids = ([]); keys = ([]); channels = 3; get_response = true } ∷ [];
  actors =
      (operation.Insert 0 ∷ operation.Load 0 ∷ operation.Out ∷ operation.Insert 0 ∷ []) ∷
      [];
  changes = [];
  schedule = [];
  faults = [];
  budget = None;
}

abbrev pub rule06_27 : Report
rule06_27 = taken rule06_27_script (
    t 1 ∷ b 1 0 ∷ w 1 (insert 0) ∷ a 1 0 answer.Moved ∷ t 0 ∷ x 0 (codes "8010000003010080") (codes "9000") ∷
    t 0 ∷ x 0 (codes "00A4040C07A0000000871002") (codes "6A82") ∷
    t 1 ∷ b 1 1 ∷ x 1 (codes "00A40804022FE200") (codes "6111") ∷
    x 1 (codes "00C0000011") (codes "620F8202412183022FE28A01048002000A9000") ∷ x 1 (codes "00B000000A") (codes "6985") ∷
    a 1 1 (answer.Status (record { 0 = 0x6985 }) 6) ∷ t 1 ∷ b 1 2 ∷ w 1 out ∷ z 1 1 7 ∷ a 1 2 answer.Moved ∷
    t 1 ∷ b 1 3 ∷ w 1 (insert 0) ∷ a 1 3 answer.Moved ∷ t 0 ∷ x 0 (codes "8010000003010080") (codes "9000") ∷
    t 0 ∷ x 0 (codes "00A4040C07A0000000871002") (codes "6A82") ∷
    t 0 ∷ x 0 (codes "00A40804022FE200") (codes "6111") ∷ x 0 (codes "00C0000011") (codes "620F8202412183022FE28A01048002000A9000") ∷
    x 0 (codes "00B000000A") (codes "6985") ∷
    [])

abbrev pub rule06_28_script : Script
rule06_28_script = record {
  version = 1;
  cards =
      record { files = (record { path = (0x2FE2 ∷ []); kind = (Transparent (hex (codes "98101430121181157002"))); arr = None; active = false; endless = false; fcp = None } ∷ []); aids = ([]); keys = ([]); channels = 3; get_response = true } ∷ [];
  actors =
      (operation.Insert 0 ∷ operation.Load 0 ∷ operation.Out ∷ operation.Insert 0 ∷ []) ∷
      [];
  changes = [];
  schedule = [];
  faults = [];
  budget = None;
}

abbrev pub rule06_28 : Report
rule06_28 = taken rule06_28_script (
    t 1 ∷ b 1 0 ∷ w 1 (insert 0) ∷ a 1 0 answer.Moved ∷ t 0 ∷ x 0 (codes "8010000003010080") (codes "9000") ∷
    t 0 ∷ x 0 (codes "00A4040C07A0000000871002") (codes "6A82") ∷
    t 1 ∷ b 1 1 ∷ x 1 (codes "00A40804022FE200") (codes "6111") ∷
    x 1 (codes "00C0000011") (codes "620F8202412183022FE28A01048002000A9000") ∷ x 1 (codes "00B000000A") (codes "6985") ∷
    a 1 1 (answer.Status (record { 0 = 0x6985 }) 6) ∷ t 1 ∷ b 1 2 ∷ w 1 out ∷ z 1 1 7 ∷ a 1 2 answer.Moved ∷
    t 1 ∷ b 1 3 ∷ w 1 (insert 0) ∷ a 1 3 answer.Moved ∷ t 0 ∷ x 0 (codes "8010000003010080") (codes "9000") ∷
    t 0 ∷ x 0 (codes "00A4040C07A0000000871002") (codes "6A82") ∷
    t 0 ∷ x 0 (codes "00A40804022FE200") (codes "6111") ∷ x 0 (codes "00C0000011") (codes "620F8202412183022FE28A01048002000A9000") ∷
    x 0 (codes "00B000000A") (codes "6985") ∷ d 0 12 ∷
    [])

abbrev pub rule06_29_script : Script
rule06_29_script = record {
  version = 1;
  cards =
      record { files = ([]); aids = ((hex (codes "A0000000871002FF49FFFF89")) ∷ (hex (codes "A0000000090001")) ∷ []); keys = ([]); channels = 3; get_response = false } ∷ [];
  actors =
      (operation.Insert 0 ∷ operation.OpenChannel 0 (hex (codes "A0000000871002FF49FFFF89")) ∷
      operation.OpenChannel 1 (hex (codes "A0000000871002FF49FFFF89")) ∷
      operation.OpenChannel 2 (hex (codes "A0000000871002FF49FFFF89")) ∷
      operation.OpenChannel 3 (hex (codes "A0000000871002FF49FFFF89")) ∷ operation.Close 1 ∷
      operation.OpenChannel 4 (hex (codes "A0000000871002FF49FFFF89")) ∷ operation.Close 0 ∷
      operation.OpenChannel 5 (hex (codes "A000000099")) ∷ operation.Close 2 ∷ operation.Close 3 ∷ operation.Close 4 ∷
      operation.Close 5 ∷ []) ∷
      [];
  changes = [];
  schedule = [];
  faults = [];
  budget = None;
}

abbrev pub rule06_29 : Report
rule06_29 = taken rule06_29_script (
    t 1 ∷ b 1 0 ∷ w 1 (insert 0) ∷ a 1 0 answer.Moved ∷ t 0 ∷ x 0 (codes "8010000003010080") (codes "9000") ∷
    t 0 ∷ x 0 (codes "00A4040C07A0000000871002") (codes "9000") ∷
    t 1 ∷ b 1 1 ∷ x 1 (codes "0070000001") (codes "019000") ∷ x 1 (codes "01A4040C0CA0000000871002FF49FFFF89") (codes "9000") ∷
    a 1 1 (answer.Opened 1) ∷
    t 1 ∷ b 1 2 ∷ x 1 (codes "0070000001") (codes "029000") ∷ x 1 (codes "02A4040C0CA0000000871002FF49FFFF89") (codes "9000") ∷
    a 1 2 (answer.Opened 2) ∷
    t 1 ∷ b 1 3 ∷ x 1 (codes "0070000001") (codes "039000") ∷ x 1 (codes "03A4040C0CA0000000871002FF49FFFF89") (codes "9000") ∷
    a 1 3 (answer.Opened 3) ∷ t 1 ∷ b 1 4 ∷ x 1 (codes "0070000001") (codes "6A81") ∷ a 1 4 (answer.Status (record { 0 = 0x6A81 }) 10) ∷
    t 1 ∷ b 1 5 ∷ x 1 (codes "00708002") (codes "9000") ∷ a 1 5 answer.Closed ∷
    t 1 ∷ b 1 6 ∷ x 1 (codes "0070000001") (codes "029000") ∷ x 1 (codes "02A4040C0CA0000000871002FF49FFFF89") (codes "9000") ∷
    a 1 6 (answer.Opened 2) ∷ t 1 ∷ b 1 7 ∷ x 1 (codes "00708001") (codes "9000") ∷ a 1 7 answer.Closed ∷
    t 1 ∷ b 1 8 ∷ x 1 (codes "0070000001") (codes "019000") ∷ x 1 (codes "01A4040C05A000000099") (codes "6A82") ∷
    x 1 (codes "00708001") (codes "9000") ∷ a 1 8 (answer.Status (record { 0 = 0x6A82 }) 16) ∷
    t 1 ∷ b 1 9 ∷ x 1 (codes "00708003") (codes "9000") ∷ a 1 9 answer.Closed ∷ t 1 ∷ b 1 10 ∷ a 1 10 (answer.NotHeldRef 3) ∷
    t 1 ∷ b 1 11 ∷ x 1 (codes "00708002") (codes "9000") ∷ a 1 11 answer.Closed ∷ t 1 ∷ b 1 12 ∷ a 1 12 (answer.NotHeldRef 5) ∷
    [])

abbrev pub rule06_30_script : Script
rule06_30_script = record {
  version = 1;
  cards =
      record { files = (record { path = (0x7FFF ∷ 0x6F3B ∷ []); kind = (Linear 24 ((hex (codes "FFFFFFFFFFFFFFFFFFFFFFFFFFFFFFFFFFFFFFFFFFFFFFFF")) ∷ [])); arr = (Some (record { file_id = 0x6F06; row = 1 })); active = true; endless = false; fcp = None } ∷ record { path = (0x7FFF ∷ 0x6F06 ∷ []); kind = (Linear 22 ((hex (codes "800101A406830101950108800102A406830181950108")) ∷ [])); arr = None; active = true; endless = false; fcp = None } ∷ []); aids = ((hex (codes "A0000000871002FF49FFFF89")) ∷ []); keys = (record { key = 0x01; pin = (hex (codes "31323334FFFFFFFF")); tries = 3; max = 3 } ∷ record { key = 0x81; pin = (hex (codes "31323334FFFFFFFF")); tries = 3; max = 3 } ∷ []); channels = 3; get_response = false } ∷ [];
  actors =
      (operation.Insert 0 ∷ operation.Verify 0x01 (hex (codes "31323334FFFFFFFF")) ∷
      operation.Verify 0x81 (hex (codes "31323334FFFFFFFF")) ∷ operation.Set 2 (Some 1) (codes "Bob") (codes "+15551234") ∷
      operation.End 0x81 ∷ operation.End 0x01 ∷ []) ∷
      (operation.Set 2 (Some 1) (codes "Bob") (codes "+15551234") ∷ []) ∷
      [];
  changes = [];
  schedule = 1 ∷ 0 ∷ 0 ∷ 1 ∷ 1 ∷ 2 ∷ 2 ∷ 2 ∷ 2 ∷ 1 ∷ 1 ∷ 1 ∷ 1 ∷ [];
  faults = [];
  budget = None;
}

abbrev pub rule06_30 : Report
rule06_30 = replayed rule06_30_script (
    t 1 ∷ b 1 0 ∷ w 1 (insert 0) ∷ a 1 0 answer.Moved ∷ t 0 ∷ x 0 (codes "8010000003010080") (codes "9000") ∷
    t 0 ∷ x 0 (codes "00A4040C07A0000000871002") (codes "9000") ∷
    t 1 ∷ b 1 1 ∷ x 1 (codes "002000010831323334FFFFFFFF") (codes "9000") ∷ a 1 1 answer.Verified ∷
    t 1 ∷ b 1 2 ∷ x 1 (codes "002000810831323334FFFFFFFF") (codes "9000") ∷ a 1 2 answer.Verified ∷
    t 2 ∷ b 2 0 ∷ x 2 (codes "00A40804047FFF6F3B00") (codes "62178205422100180183026F3B8A01058B036F0601800200189000") ∷
    x 2 (codes "00B2010418") (codes "FFFFFFFFFFFFFFFFFFFFFFFFFFFFFFFFFFFFFFFFFFFFFFFF9000") ∷
    t 2 ∷ x 2 (codes "00A40804047FFF6F4B00") (codes "6A82") ∷
    t 2 ∷ x 2 (codes "00A40804047FFF6F0600") (codes "62128205422100160183026F068A0105800200169000") ∷
    x 2 (codes "00B2010416") (codes "800101A406830101950108800102A4068301819501089000") ∷ t 2 ∷ a 2 0 (answer.NeedsPin 0x01) ∷
    t 1 ∷ b 1 3 ∷ x 1 (codes "00A4080C047FFF6F3B") (codes "9000") ∷
    x 1 (codes "00DC010418426F62FFFFFFFFFFFFFF059151552143FFFFFFFFFFFFFFFF") (codes "9000") ∷
    t 1 ∷ p 1 2 1 12 (codes "{\"entries\":[{\"name\":\"Bob\",\"number\":\"+15551234\"}]}") ∷ a 1 3 (answer.Done 12 (Some 1) []) ∷
    t 1 ∷ b 1 4 ∷ a 1 4 answer.Ended ∷ t 1 ∷ b 1 5 ∷ a 1 5 answer.Ended ∷
    [])

abbrev pub rule06_31_script : Script
rule06_31_script = record {
  version = 1;
  cards =
      record { files = (record { path = (0x7F10 ∷ 0x6F3A ∷ []); kind = (Linear 24 ((hex (codes "426F62FFFFFFFFFFFFFF059151552143FFFFFFFFFFFFFFFF")) ∷ (hex (codes "426F62FFFFFFFFFFFFFF059151552143FFFFFFFFFFFFFFFF")) ∷ [])); arr = None; active = true; endless = false; fcp = None } ∷ []); aids = ([]); keys = ([]); channels = 3; get_response = false } ∷ [];
  actors =
      (operation.Watch 130 ∷ operation.Insert 0 ∷ operation.Load 1 ∷ operation.Set 1 None (codes "A") (codes "1") ∷
      operation.Set 1 (Some 1) (codes "A") (codes "12a") ∷ operation.Clear 1 3 ∷ operation.Out ∷ operation.Notices ∷ []) ∷
      [];
  changes = [];
  schedule = [];
  faults = [];
  budget = None;
}

abbrev pub rule06_31 : Report
rule06_31 = taken rule06_31_script (
    t 1 ∷ b 1 0 ∷ a 1 0 answer.Watching ∷ t 1 ∷ b 1 1 ∷ w 1 (insert 0) ∷ a 1 1 answer.Moved ∷
    t 0 ∷ x 0 (codes "8010000003010080") (codes "9000") ∷ t 0 ∷ x 0 (codes "00A4040C07A0000000871002") (codes "6A82") ∷
    t 1 ∷ b 1 2 ∷ x 1 (codes "00A40804047F106F3A00") (codes "62128205422100180283026F3A8A0105800200309000") ∷
    x 1 (codes "00B2010418") (codes "426F62FFFFFFFFFFFFFF059151552143FFFFFFFFFFFFFFFF9000") ∷
    t 1 ∷ x 1 (codes "00B2020418") (codes "426F62FFFFFFFFFFFFFF059151552143FFFFFFFFFFFFFFFF9000") ∷
    t 1 ∷ x 1 (codes "00A40804047F106F4A00") (codes "6A82") ∷
    p 1 1 1 7 (codes "{\"entries\":[{\"name\":\"Bob\",\"number\":\"+15551234\"},{\"name\":\"Bob\",\"number\":\"+15551234\"}]}") ∷
    a 1 2 (answer.Loaded 1) ∷ t 1 ∷ b 1 3 ∷ a 1 3 (answer.Full 1) ∷ t 1 ∷ b 1 4 ∷ a 1 4 (answer.BadDigit 2) ∷
    t 1 ∷ b 1 5 ∷ a 1 5 (answer.NoRecord 3) ∷ t 1 ∷ b 1 6 ∷ w 1 out ∷ z 2 1 8 ∷ a 1 6 answer.Moved ∷
    t 1 ∷ b 1 7 ∷ a 1 7 (answer.Notices 0 (record { items = (1 ∷ 2 ∷ []) })) ∷
    [])

abbrev pub rule06_32_script : Script
rule06_32_script = record {
  version = 1;
  cards =
      record { files = (record { path = (0x7F10 ∷ 0x6F3A ∷ []); kind = (Linear 24 ((hex (codes "426F62FFFFFFFFFFFFFF059151552143FFFFFFFFFFFFFFFF")) ∷ (hex (codes "426F62FFFFFFFFFFFFFF059151552143FFFFFFFFFFFFFFFF")) ∷ [])); arr = None; active = true; endless = false; fcp = None } ∷ []); aids = ([]); keys = ([]); channels = 3; get_response = false } ∷ [];
  actors =
      (operation.Watch 130 ∷ operation.Insert 0 ∷ operation.Load 1 ∷ operation.Set 1 None (codes "A") (codes "1") ∷
      operation.Set 1 (Some 1) (codes "A") (codes "12a") ∷ operation.Clear 1 3 ∷ operation.Out ∷ operation.Notices ∷ []) ∷
      [];
  changes = [];
  schedule = [];
  faults = [];
  budget = None;
}

abbrev pub rule06_32 : Report
rule06_32 = taken rule06_32_script (
    t 1 ∷ b 1 0 ∷ a 1 0 answer.Watching ∷ t 1 ∷ b 1 1 ∷ w 1 (insert 0) ∷ a 1 1 answer.Moved ∷
    t 0 ∷ x 0 (codes "8010000003010080") (codes "9000") ∷ t 0 ∷ x 0 (codes "00A4040C07A0000000871002") (codes "6A82") ∷
    t 1 ∷ b 1 2 ∷ x 1 (codes "00A40804047F106F3A00") (codes "62128205422100180283026F3A8A0105800200309000") ∷
    x 1 (codes "00B2010418") (codes "426F62FFFFFFFFFFFFFF059151552143FFFFFFFFFFFFFFFF9000") ∷
    t 1 ∷ x 1 (codes "00B2020418") (codes "426F62FFFFFFFFFFFFFF059151552143FFFFFFFFFFFFFFFF9000") ∷
    t 1 ∷ x 1 (codes "00A40804047F106F4A00") (codes "6A82") ∷
    p 1 1 1 7 (codes "{\"entries\":[{\"name\":\"Bob\",\"number\":\"+15551234\"},{\"name\":\"Bob\",\"number\":\"+15551234\"}]}") ∷
    a 1 2 (answer.Loaded 1) ∷ t 1 ∷ b 1 3 ∷ a 1 3 (answer.Full 2) ∷ t 1 ∷ b 1 4 ∷ a 1 4 (answer.BadDigit 2) ∷
    t 1 ∷ b 1 5 ∷ a 1 5 (answer.NoRecord 3) ∷ t 1 ∷ b 1 6 ∷ w 1 out ∷ z 2 1 8 ∷ a 1 6 answer.Moved ∷
    t 1 ∷ b 1 7 ∷ a 1 7 (answer.Notices 1 (record { items = (2 ∷ []) })) ∷
    [])

abbrev pub rule06_33_script : Script
rule06_33_script = record {
  version = 1;
  cards =
      record { files = (record { path = (0x7F10 ∷ 0x6F3A ∷ []); kind = (Linear 24 ((hex (codes "416E6EFFFFFFFFFFFFFF0B8121436587092143658709FF01")) ∷ [])); arr = None; active = true; endless = false; fcp = None } ∷ record { path = (0x7F10 ∷ 0x6F4A ∷ []); kind = (Linear 13 ((hex (codes "020121FFFFFFFFFFFFFFFFFFFF")) ∷ [])); arr = None; active = true; endless = false; fcp = None } ∷ []); aids = ([]); keys = ([]); channels = 3; get_response = false } ∷ [];
  actors =
      (operation.Insert 0 ∷ operation.Set 1 (Some 1) (codes "Bob") (codes "+15551234") ∷ operation.Load 1 ∷ []) ∷
      (operation.Out ∷ operation.Insert 0 ∷ []) ∷
      [];
  changes = [];
  schedule = 1 ∷ 0 ∷ 0 ∷ 1 ∷ 1 ∷ 1 ∷ 2 ∷ 1 ∷ 2 ∷ 0 ∷ 0 ∷ 1 ∷ 1 ∷ [];
  faults = [];
  budget = None;
}

abbrev pub rule06_33 : Report
rule06_33 = replayed rule06_33_script (
    t 1 ∷ b 1 0 ∷ w 1 (insert 0) ∷ a 1 0 answer.Moved ∷ t 0 ∷ x 0 (codes "8010000003010080") (codes "9000") ∷
    t 0 ∷ x 0 (codes "00A4040C07A0000000871002") (codes "6A82") ∷
    t 1 ∷ b 1 1 ∷ x 1 (codes "00A40804047F106F3A00") (codes "62128205422100180183026F3A8A0105800200189000") ∷
    x 1 (codes "00B2010418") (codes "416E6EFFFFFFFFFFFFFF0B8121436587092143658709FF019000") ∷
    t 1 ∷ x 1 (codes "00A40804047F106F4A00") (codes "621282054221000D0183026F4A8A01058002000D9000") ∷
    x 1 (codes "00B201040D") (codes "020121FFFFFFFFFFFFFFFFFFFF9000") ∷
    t 1 ∷ x 1 (codes "00A4080C047F106F3A") (codes "9000") ∷
    x 1 (codes "00DC010418426F62FFFFFFFFFFFFFF059151552143FFFFFFFFFFFFFFFF") (codes "9000") ∷
    t 2 ∷ b 2 0 ∷ w 2 out ∷ z 1 1 10 ∷ a 2 0 answer.Moved ∷ t 1 ∷ a 1 1 (answer.Done 9 None (1 ∷ [])) ∷
    t 2 ∷ b 2 1 ∷ w 2 (insert 0) ∷ a 2 1 answer.Moved ∷ t 0 ∷ x 0 (codes "8010000003010080") (codes "9000") ∷
    t 0 ∷ x 0 (codes "00A4040C07A0000000871002") (codes "6A82") ∷
    t 1 ∷ b 1 2 ∷ x 1 (codes "00A40804047F106F3A00") (codes "62128205422100180183026F3A8A0105800200189000") ∷
    x 1 (codes "00B2010418") (codes "426F62FFFFFFFFFFFFFF059151552143FFFFFFFFFFFFFFFF9000") ∷
    t 1 ∷ x 1 (codes "00A40804047F106F4A00") (codes "621282054221000D0183026F4A8A01058002000D9000") ∷
    x 1 (codes "00B201040D") (codes "020121FFFFFFFFFFFFFFFFFFFF9000") ∷
    p 2 1 2 17 (codes "{\"entries\":[{\"name\":\"Bob\",\"number\":\"+15551234\"}]}") ∷ a 1 2 (answer.Loaded 2) ∷
    [])

abbrev pub rule06_34_script : Script
rule06_34_script = record {
  version = 1;
  cards =
      record { files = (record { path = (0x2FE2 ∷ []); kind = (Transparent (hex (codes "98101430121181157002"))); arr = None; active = true; endless = false; fcp = None } ∷ []); aids = ((hex (codes "A0000000871002FF49FFFF89")) ∷ []); keys = ([]); channels = 3; get_response = false } ∷ [];
  actors =
      (operation.Insert 0 ∷ operation.OpenChannel 3 (hex (codes "A0000000871002FF49FFFF89")) ∷ operation.Load 0 ∷ operation.Close 3 ∷ []) ∷
      (operation.Arm 0 ∷ operation.Poll ∷ []) ∷
      [];
  changes = record { qualifier = 4; kind = 1; list = ([]); files = ([]) } ∷ [];
  schedule = 1 ∷ 0 ∷ 0 ∷ 1 ∷ 2 ∷ 1 ∷ 2 ∷ 0 ∷ 1 ∷ 0 ∷ 0 ∷ 1 ∷ 0 ∷ 0 ∷ 0 ∷ 0 ∷ 0 ∷ 0 ∷ 0 ∷ [];
  faults = [];
  budget = None;
}

abbrev pub rule06_34 : Report
rule06_34 = replayed rule06_34_script (
    t 1 ∷ b 1 0 ∷ w 1 (insert 0) ∷ a 1 0 answer.Moved ∷ t 0 ∷ x 0 (codes "8010000003010080") (codes "9000") ∷
    t 0 ∷ x 0 (codes "00A4040C07A0000000871002") (codes "9000") ∷
    t 1 ∷ b 1 1 ∷ x 1 (codes "0070000001") (codes "019000") ∷ x 1 (codes "01A4040C0CA0000000871002FF49FFFF89") (codes "9000") ∷
    a 1 1 (answer.Opened 1) ∷ t 2 ∷ b 2 0 ∷ w 2 (arm 0) ∷ a 2 0 answer.Moved ∷
    t 1 ∷ b 1 2 ∷ x 1 (codes "00A40804022FE200") (codes "620F8202412183022FE28A01058002000A910B") ∷
    x 1 (codes "00B000000A") (codes "98101430121181157002910B") ∷
    t 2 ∷ b 2 1 ∷ x 2 (codes "80F2000C") (codes "910B") ∷ a 2 1 answer.Polled ∷
    t 0 ∷ x 0 (codes "801200000B") (codes "D0098103010104820281829000") ∷ r 0 ∷ z 1 1 11 ∷ t 1 ∷ a 1 2 (answer.EpochEnded 1 11 false) ∷
    t 0 ∷ x 0 (codes "8010000003010080") (codes "9000") ∷ t 0 ∷ x 0 (codes "00A4040C07A0000000871002") (codes "9000") ∷
    t 1 ∷ b 1 3 ∷ a 1 3 answer.Closed ∷
    t 0 ∷ x 0 (codes "00A40804022FE200") (codes "620F8202412183022FE28A01058002000A9000") ∷
    x 0 (codes "00B000000A") (codes "981014301211811570029000") ∷ t 0 ∷ x 0 (codes "00A40804047FFF6F0700") (codes "6A82") ∷
    t 0 ∷ x 0 (codes "00A40804047FFF6FAD00") (codes "6A82") ∷ t 0 ∷ x 0 (codes "00A40804047FFF6F4600") (codes "6A82") ∷
    t 0 ∷ x 0 (codes "00A40804047FFF6F4000") (codes "6A82") ∷ t 0 ∷ x 0 (codes "00A40804047FFF6F4E00") (codes "6A82") ∷
    t 0 ∷ x 0 (codes "00A40804022F0000") (codes "6A82") ∷
    p 2 0 2 21 (codes "{\"ad\":null,\"apps\":[],\"iccid\":\"89014103211118510720\",\"imsi\":null,\"msisdn\":[],\"spn\":null}") ∷
    [])

abbrev pub rule06_40_script : Script
rule06_40_script = record {
  version = 1;
  cards =
      record { files = (record { path = (0x2FE2 ∷ []); kind = (Transparent (hex (codes "98101430121181157002"))); arr = None; active = true; endless = false; fcp = None } ∷ []); aids = ([]); keys = ([]); channels = 3; get_response = false } ∷ [];
  actors =
      (operation.Insert 0 ∷ operation.Load 0 ∷ []) ∷
      [];
  changes = [];
  schedule = 1 ∷ 0 ∷ 0 ∷ 1 ∷ [];
  faults = [];
  budget = None;
}

abbrev pub rule06_40 : Report
rule06_40 = replayed rule06_40_script (
    t 1 ∷ b 1 0 ∷ w 1 (insert 0) ∷ t 0 ∷ x 0 (codes "8010000003010080") (codes "9000") ∷
    t 0 ∷ x 0 (codes "00A4040C07A0000000871002") (codes "6A82") ∷
    t 1 ∷ b 1 1 ∷ x 1 (codes "00A40804022FE200") (codes "620F8202412183022FE28A01058002000A9000") ∷
    x 1 (codes "00B000000A") (codes "981014301211811570029000") ∷ t 0 ∷ t 1 ∷ x 1 (codes "00A40804047FFF6F0700") (codes "6A82") ∷ t 0 ∷
    t 1 ∷ x 1 (codes "00A40804047FFF6FAD00") (codes "6A82") ∷ t 0 ∷ t 1 ∷ x 1 (codes "00A40804047FFF6F4600") (codes "6A82") ∷ t 0 ∷
    t 1 ∷ x 1 (codes "00A40804047FFF6F4000") (codes "6A82") ∷ t 0 ∷ t 1 ∷ x 1 (codes "00A40804047FFF6F4E00") (codes "6A82") ∷ t 0 ∷
    t 1 ∷ x 1 (codes "00A40804022F0000") (codes "6A82") ∷
    p 1 0 1 11 (codes "{\"ad\":null,\"apps\":[],\"iccid\":\"89014103211118510720\",\"imsi\":null,\"msisdn\":[],\"spn\":null}") ∷
    a 1 1 (answer.Loaded 1) ∷
    [])

abbrev pub rule06_51_script : Script
rule06_51_script = record {
  version = 1;
  cards =
      record { files = (record { path = (0x2FE2 ∷ []); kind = (Transparent (hex (codes "98101430121181157002"))); arr = None; active = true; endless = false; fcp = None } ∷ []); aids = ([]); keys = ([]); channels = 3; get_response = false } ∷ [];
  actors =
      (operation.Insert 0 ∷ operation.Load 0 ∷ []) ∷
      [];
  changes = [];
  schedule = 1 ∷ 0 ∷ 0 ∷ 1 ∷ [];
  faults = [];
  budget = None;
}

abbrev pub rule06_51 : Report
rule06_51 = replayed rule06_51_script (
    t 1 ∷ b 1 0 ∷ w 1 (insert 0) ∷ a 1 0 answer.Moved ∷ t 0 ∷ x 0 (codes "8010000003010080") (codes "9000") ∷
    t 0 ∷ x 0 (codes "00A4040C07A0000000871002") (codes "6A82") ∷
    t 1 ∷ b 1 1 ∷ x 1 (codes "00A40804022FE200") (codes "620F8202412183022FE28A01058002000A9000") ∷
    x 1 (codes "00B000000A") (codes "981014301211811570029000") ∷ t 0 ∷ t 1 ∷ x 1 (codes "00A40804047FFF6F0700") (codes "6A82") ∷ t 0 ∷
    t 1 ∷ x 1 (codes "00A40804047FFF6FAD00") (codes "6A82") ∷ t 0 ∷ t 1 ∷ x 1 (codes "00A40804047FFF6F4600") (codes "6A82") ∷ t 0 ∷
    t 1 ∷ x 1 (codes "00A40804047FFF6F4000") (codes "6A82") ∷ t 0 ∷ t 1 ∷ x 1 (codes "00A40804047FFF6F4E00") (codes "6A82") ∷ t 0 ∷
    t 1 ∷ x 1 (codes "00A40804022F0000") (codes "6A82") ∷
    p 1 0 1 11 (codes "{\"ad\":null,\"apps\":[],\"iccid\":\"89014103211118510720\",\"imsi\":null,\"msisdn\":[],\"spn\":null}") ∷
    [])
