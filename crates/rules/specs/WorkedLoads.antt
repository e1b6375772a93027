-- Worked reports of loads, line by line as their text has them.
use Rattle.std.specs.Prelude.{[], ◌∷◌, Some, None, true, false, codes}
use Rattle.script_reader.specs.declared.types.Script.{Script}
use Rattle.script_reader.specs.declared.types.KindSpec.TheVariants.{Transparent, Linear}
use Rattle.script_reader.specs.declared.types.Operation.TheVariants as operation
use Rattle.report.specs.declared.answer.Answer.TheVariants as answer
use Rattle.report.specs.declared.lines.Report.{Report}
use Rattle.rules.specs.WorkedWords.{hex, arm, insert, out, t, b, x, w, p, z, d, a, replayed}

abbrev pub one_load_script : Script
one_load_script = record {
  version = 1;
  cards =
      record { files = (record { path = (0x2FE2 ∷ []); kind = (Transparent (hex (codes "98101430121181157002"))); arr = None; active = true; endless = false; fcp = None } ∷ []); aids = ([]); keys = ([]); channels = 3; get_response = false } ∷ [];
  actors =
      (operation.Insert 0 ∷ operation.Load 0 ∷ []) ∷
      [];
  changes = [];
  schedule = [];
  faults = [];
  budget = None;
}

abbrev pub one_load : Report
one_load = replayed one_load_script (
    t 0 ∷ t 1 ∷ b 1 0 ∷ w 1 (insert 0) ∷ a 1 0 answer.Moved ∷ t 0 ∷ x 0 (codes "8010000003010080") (codes "9000") ∷ t 1 ∷
    t 0 ∷ x 0 (codes "00A4040C07A0000000871002") (codes "6A82") ∷
    t 1 ∷ b 1 1 ∷ x 1 (codes "00A40804022FE200") (codes "620F8202412183022FE28A01058002000A9000") ∷
    x 1 (codes "00B000000A") (codes "981014301211811570029000") ∷ t 0 ∷ t 1 ∷ x 1 (codes "00A40804047FFF6F0700") (codes "6A82") ∷ t 0 ∷
    t 1 ∷ x 1 (codes "00A40804047FFF6FAD00") (codes "6A82") ∷ t 0 ∷ t 1 ∷ x 1 (codes "00A40804047FFF6F4600") (codes "6A82") ∷ t 0 ∷
    t 1 ∷ x 1 (codes "00A40804047FFF6F4000") (codes "6A82") ∷ t 0 ∷ t 1 ∷ x 1 (codes "00A40804047FFF6F4E00") (codes "6A82") ∷ t 0 ∷
    t 1 ∷ x 1 (codes "00A40804022F0000") (codes "6A82") ∷
    p 1 0 1 11 (codes "{\"ad\":null,\"apps\":[],\"iccid\":\"89014103211118510720\",\"imsi\":null,\"msisdn\":[],\"spn\":null}") ∷
    a 1 1 (answer.Loaded 1) ∷
    [])

abbrev pub loads_side_by_side_script : Script
loads_side_by_side_script = record {
  version = 1;
  cards =
      record { files = (record { path = (0x2FE2 ∷ []); kind = (Transparent (hex (codes "98101430121181157002"))); arr = None; active = true; endless = false; fcp = None } ∷ record { path = (0x7F10 ∷ 0x6F3A ∷ []); kind = (Linear 24 ((hex (codes "426F62FFFFFFFFFFFFFF059151552143FFFFFFFFFFFFFFFF")) ∷ (hex (codes "FFFFFFFFFFFFFFFFFFFFFFFFFFFFFFFFFFFFFFFFFFFFFFFF")) ∷ [])); arr = None; active = true; endless = false; fcp = None } ∷ []); aids = ([]); keys = ([]); channels = 3; get_response = false } ∷ [];
  actors =
      (operation.Insert 0 ∷ operation.Load 1 ∷ []) ∷
      (operation.Load 0 ∷ []) ∷
      [];
  changes = [];
  schedule = 1 ∷ 0 ∷ 0 ∷ 1 ∷ 2 ∷ 1 ∷ [];
  faults = [];
  budget = None;
}

abbrev pub loads_side_by_side : Report
loads_side_by_side = replayed loads_side_by_side_script (
    t 1 ∷ b 1 0 ∷ w 1 (insert 0) ∷ a 1 0 answer.Moved ∷ t 0 ∷ x 0 (codes "8010000003010080") (codes "9000") ∷
    t 0 ∷ x 0 (codes "00A4040C07A0000000871002") (codes "6A82") ∷
    t 1 ∷ b 1 1 ∷ x 1 (codes "00A40804047F106F3A00") (codes "62128205422100180283026F3A8A0105800200309000") ∷
    x 1 (codes "00B2010418") (codes "426F62FFFFFFFFFFFFFF059151552143FFFFFFFFFFFFFFFF9000") ∷
    t 2 ∷ b 2 0 ∷ x 2 (codes "00A40804022FE200") (codes "620F8202412183022FE28A01058002000A9000") ∷
    x 2 (codes "00B000000A") (codes "981014301211811570029000") ∷
    t 1 ∷ x 1 (codes "00A4080C047F106F3A") (codes "9000") ∷
    x 1 (codes "00B2020418") (codes "FFFFFFFFFFFFFFFFFFFFFFFFFFFFFFFFFFFFFFFFFFFFFFFF9000") ∷ t 0 ∷
    t 1 ∷ x 1 (codes "00A40804047F106F4A00") (codes "6A82") ∷
    p 1 1 1 10 (codes "{\"entries\":[{\"name\":\"Bob\",\"number\":\"+15551234\"},null]}") ∷ a 1 1 (answer.Loaded 1) ∷
    t 2 ∷ x 2 (codes "00A40804047FFF6F0700") (codes "6A82") ∷ t 0 ∷ t 1 ∷ t 2 ∷ x 2 (codes "00A40804047FFF6FAD00") (codes "6A82") ∷ t 0 ∷
    t 1 ∷ t 2 ∷ x 2 (codes "00A40804047FFF6F4600") (codes "6A82") ∷ t 0 ∷ t 1 ∷ t 2 ∷ x 2 (codes "00A40804047FFF6F4000") (codes "6A82") ∷
    t 0 ∷ t 1 ∷ t 2 ∷ x 2 (codes "00A40804047FFF6F4E00") (codes "6A82") ∷ t 0 ∷ t 1 ∷
    t 2 ∷ x 2 (codes "00A40804022F0000") (codes "6A82") ∷
    p 2 0 1 16 (codes "{\"ad\":null,\"apps\":[],\"iccid\":\"89014103211118510720\",\"imsi\":null,\"msisdn\":[],\"spn\":null}") ∷
    a 2 0 (answer.Loaded 2) ∷
    [])

abbrev pub get_response_script : Script
get_response_script = record {
  version = 1;
  cards =
      record { files = (record { path = (0x2FE2 ∷ []); kind = (Transparent (hex (codes "98101430121181157002"))); arr = None; active = true; endless = false; fcp = None } ∷ []); aids = ([]); keys = ([]); channels = 3; get_response = true } ∷ [];
  actors =
      (operation.Insert 0 ∷ operation.Load 0 ∷ []) ∷
      [];
  changes = [];
  schedule = [];
  faults = [];
  budget = None;
}

abbrev pub get_response : Report
get_response = replayed get_response_script (
    t 0 ∷ t 1 ∷ b 1 0 ∷ w 1 (insert 0) ∷ a 1 0 answer.Moved ∷ t 0 ∷ x 0 (codes "8010000003010080") (codes "9000") ∷ t 1 ∷
    t 0 ∷ x 0 (codes "00A4040C07A0000000871002") (codes "6A82") ∷
    t 1 ∷ b 1 1 ∷ x 1 (codes "00A40804022FE200") (codes "6111") ∷
    x 1 (codes "00C0000011") (codes "620F8202412183022FE28A01058002000A9000") ∷
    x 1 (codes "00B000000A") (codes "981014301211811570029000") ∷ t 0 ∷ t 1 ∷ x 1 (codes "00A40804047FFF6F0700") (codes "6A82") ∷ t 0 ∷
    t 1 ∷ x 1 (codes "00A40804047FFF6FAD00") (codes "6A82") ∷ t 0 ∷ t 1 ∷ x 1 (codes "00A40804047FFF6F4600") (codes "6A82") ∷ t 0 ∷
    t 1 ∷ x 1 (codes "00A40804047FFF6F4000") (codes "6A82") ∷ t 0 ∷ t 1 ∷ x 1 (codes "00A40804047FFF6F4E00") (codes "6A82") ∷ t 0 ∷
    t 1 ∷ x 1 (codes "00A40804022F0000") (codes "6A82") ∷
    p 1 0 1 12 (codes "{\"ad\":null,\"apps\":[],\"iccid\":\"89014103211118510720\",\"imsi\":null,\"msisdn\":[],\"spn\":null}") ∷
    a 1 1 (answer.Loaded 1) ∷
    [])

abbrev pub endless_file_script : Script
endless_file_script = record {
  version = 1;
  cards =
      record { files = (record { path = (0x2FE2 ∷ []); kind = (Transparent (hex (codes "00000000000000000000"))); arr = None; active = true; endless = true; fcp = None } ∷ []); aids = ([]); keys = ([]); channels = 3; get_response = false } ∷ [];
  actors =
      (operation.Insert 0 ∷ operation.Load 0 ∷ []) ∷
      [];
  changes = [];
  schedule = [];
  faults = [];
  budget = None;
}

abbrev pub endless_file : Report
endless_file = replayed endless_file_script (
    t 0 ∷ t 1 ∷ b 1 0 ∷ w 1 (insert 0) ∷ a 1 0 answer.Moved ∷ t 0 ∷ x 0 (codes "8010000003010080") (codes "9000") ∷ t 1 ∷
    t 0 ∷ x 0 (codes "00A4040C07A0000000871002") (codes "6A82") ∷
    t 1 ∷ b 1 1 ∷ x 1 (codes "00A40804022FE200") (codes "620F8202412183022FE28A01058002000A9000") ∷
    x 1 (codes "00B000000A") (codes "6C01") ∷ x 1 (codes "00B0000001") (codes "6C01") ∷ x 1 (codes "00B0000001") (codes "6C01") ∷
    x 1 (codes "00B0000001") (codes "6C01") ∷ a 1 1 (answer.Loop 8) ∷
    [])

abbrev pub bad_fcp_script : Script
bad_fcp_script = record {
  version = 1;
  cards =
      record { files = (record { path = (0x2FE2 ∷ []); kind = (Transparent (hex (codes "98101430121181157002"))); arr = None; active = true; endless = false; fcp = (Some (hex (codes "6200"))) } ∷ []); aids = ([]); keys = ([]); channels = 3; get_response = false } ∷ [];
  actors =
      (operation.Insert 0 ∷ operation.Load 0 ∷ []) ∷
      [];
  changes = [];
  schedule = [];
  faults = [];
  budget = None;
}

abbrev pub bad_fcp : Report
bad_fcp = replayed bad_fcp_script (
    t 0 ∷ t 1 ∷ b 1 0 ∷ w 1 (insert 0) ∷ a 1 0 answer.Moved ∷ t 0 ∷ x 0 (codes "8010000003010080") (codes "9000") ∷ t 1 ∷
    t 0 ∷ x 0 (codes "00A4040C07A0000000871002") (codes "6A82") ∷
    t 1 ∷ b 1 1 ∷ x 1 (codes "00A40804022FE200") (codes "62009000") ∷ a 1 1 (answer.BadFcp 4) ∷
    [])

abbrev pub deactivated_file_script : Script
deactivated_file_script = record {
  version = 1;
  cards =
      record { files = (record { path = (0x2FE2 ∷ []); kind = (Transparent (hex (codes "98101430121181157002"))); arr = None; active = false; endless = false; fcp = None } ∷ []); aids = ([]); keys = ([]); channels = 3; get_response = false } ∷ [];
  actors =
      (operation.Insert 0 ∷ operation.Load 0 ∷ []) ∷
      [];
  changes = [];
  schedule = [];
  faults = [];
  budget = None;
}

abbrev pub deactivated_file : Report
deactivated_file = replayed deactivated_file_script (
    t 0 ∷ t 1 ∷ b 1 0 ∷ w 1 (insert 0) ∷ a 1 0 answer.Moved ∷ t 0 ∷ x 0 (codes "8010000003010080") (codes "9000") ∷ t 1 ∷
    t 0 ∷ x 0 (codes "00A4040C07A0000000871002") (codes "6A82") ∷
    t 1 ∷ b 1 1 ∷ x 1 (codes "00A40804022FE200") (codes "620F8202412183022FE28A01048002000A9000") ∷
    x 1 (codes "00B000000A") (codes "6985") ∷ a 1 1 (answer.Status (record { 0 = 0x6985 }) 5) ∷
    [])

abbrev pub absent_script : Script
absent_script = record {
  version = 1;
  cards =
      record { files = (record { path = (0x2FE2 ∷ []); kind = (Transparent (hex (codes "98101430121181157002"))); arr = None; active = true; endless = false; fcp = None } ∷ []); aids = ([]); keys = ([]); channels = 3; get_response = false } ∷ [];
  actors =
      (operation.Load 0 ∷ []) ∷
      [];
  changes = [];
  schedule = [];
  faults = [];
  budget = None;
}

abbrev pub absent : Report
absent = replayed absent_script (
    t 0 ∷ t 1 ∷ b 1 0 ∷ a 1 0 answer.Absent ∷
    [])

abbrev pub other_card_within_a_load_script : Script
other_card_within_a_load_script = record {
  version = 1;
  cards =
      record { files = (record { path = (0x2FE2 ∷ []); kind = (Transparent (hex (codes "98101430121181157002"))); arr = None; active = true; endless = false; fcp = None } ∷ []); aids = ([]); keys = ([]); channels = 3; get_response = false } ∷
      record { files = (record { path = (0x7F10 ∷ 0x6F3A ∷ []); kind = (Linear 24 ((hex (codes "426F62FFFFFFFFFFFFFF059151552143FFFFFFFFFFFFFFFF")) ∷ [])); arr = None; active = true; endless = false; fcp = None } ∷ []); aids = ([]); keys = ([]); channels = 3; get_response = false } ∷ [];
  actors =
      (operation.Insert 0 ∷ operation.Load 1 ∷ []) ∷
      (operation.Out ∷ operation.Insert 1 ∷ []) ∷
      [];
  changes = [];
  schedule = 1 ∷ 0 ∷ 0 ∷ 1 ∷ 2 ∷ 2 ∷ 1 ∷ [];
  faults = [];
  budget = None;
}

abbrev pub other_card_within_a_load : Report
other_card_within_a_load = replayed other_card_within_a_load_script (
    t 1 ∷ b 1 0 ∷ w 1 (insert 0) ∷ a 1 0 answer.Moved ∷ t 0 ∷ x 0 (codes "8010000003010080") (codes "9000") ∷
    t 0 ∷ x 0 (codes "00A4040C07A0000000871002") (codes "6A82") ∷ t 1 ∷ b 1 1 ∷ x 1 (codes "00A40804047F106F3A00") (codes "6A82") ∷
    t 2 ∷ b 2 0 ∷ w 2 out ∷ z 1 1 5 ∷ a 2 0 answer.Moved ∷ t 2 ∷ b 2 1 ∷ w 2 (insert 1) ∷ a 2 1 answer.Moved ∷
    t 1 ∷ a 1 1 (answer.EpochEnded 1 5 false) ∷ t 0 ∷ x 0 (codes "8010000003010080") (codes "9000") ∷ t 1 ∷ t 2 ∷
    t 0 ∷ x 0 (codes "00A4040C07A0000000871002") (codes "6A82") ∷ t 1 ∷ t 2 ∷
    t 0 ∷ x 0 (codes "00A40804047F106F3A00") (codes "62128205422100180183026F3A8A0105800200189000") ∷
    x 0 (codes "00B2010418") (codes "426F62FFFFFFFFFFFFFF059151552143FFFFFFFFFFFFFFFF9000") ∷ t 1 ∷ t 2 ∷
    t 0 ∷ x 0 (codes "00A40804047F106F4A00") (codes "6A82") ∷
    p 2 1 2 11 (codes "{\"entries\":[{\"name\":\"Bob\",\"number\":\"+15551234\"}]}") ∷
    [])

abbrev pub keeps_partial_reading_script : Script
keeps_partial_reading_script = record {
  version = 1;
  cards =
      record { files = (record { path = (0x7F10 ∷ 0x6F3A ∷ []); kind = (Linear 24 ((hex (codes "426F62FFFFFFFFFFFFFF059151552143FFFFFFFFFFFFFFFF")) ∷ [])); arr = None; active = true; endless = false; fcp = None } ∷ record { path = (0x7F10 ∷ 0x6F4A ∷ []); kind = (Linear 13 ((hex (codes "FFFFFFFFFFFFFFFFFFFFFFFFFF")) ∷ (hex (codes "FFFFFFFFFFFFFFFFFFFFFFFFFF")) ∷ (hex (codes "FFFFFFFFFFFFFFFFFFFFFFFFFF")) ∷ [])); arr = None; active = true; endless = false; fcp = None } ∷ []); aids = ([]); keys = ([]); channels = 3; get_response = false } ∷ [];
  actors =
      (operation.Insert 0 ∷ operation.Load 1 ∷ []) ∷
      (operation.Arm 0 ∷ operation.Poll ∷ []) ∷
      [];
  changes = record { qualifier = 1; kind = 1; list = ((0x7F10 ∷ 0x6F3A ∷ []) ∷ []); files = ([]) } ∷ [];
  schedule = 1 ∷ 0 ∷ 0 ∷ 1 ∷ 1 ∷ 2 ∷ 2 ∷ 0 ∷ 0 ∷ 1 ∷ 1 ∷ 1 ∷ [];
  faults = [];
  budget = None;
}

abbrev pub keeps_partial_reading : Report
keeps_partial_reading = replayed keeps_partial_reading_script (
    t 1 ∷ b 1 0 ∷ w 1 (insert 0) ∷ a 1 0 answer.Moved ∷ t 0 ∷ x 0 (codes "8010000003010080") (codes "9000") ∷
    t 0 ∷ x 0 (codes "00A4040C07A0000000871002") (codes "6A82") ∷
    t 1 ∷ b 1 1 ∷ x 1 (codes "00A40804047F106F3A00") (codes "62128205422100180183026F3A8A0105800200189000") ∷
    x 1 (codes "00B2010418") (codes "426F62FFFFFFFFFFFFFF059151552143FFFFFFFFFFFFFFFF9000") ∷
    t 1 ∷ x 1 (codes "00A40804047F106F4A00") (codes "621282054221000D0383026F4A8A0105800200279000") ∷
    x 1 (codes "00B201040D") (codes "FFFFFFFFFFFFFFFFFFFFFFFFFF9000") ∷ t 2 ∷ b 2 0 ∷ w 2 (arm 0) ∷ a 2 0 answer.Moved ∷
    t 2 ∷ b 2 1 ∷ x 2 (codes "80F2000C") (codes "9114") ∷ a 2 1 answer.Polled ∷
    t 0 ∷ x 0 (codes "8012000014") (codes "D0128103010101820281829207013F007F106F3A9000") ∷
    t 0 ∷ x 0 (codes "801400000C810301010182028281830100") (codes "9000") ∷
    t 1 ∷ x 1 (codes "00A40804047F106F3A00") (codes "62128205422100180183026F3A8A0105800200189000") ∷
    x 1 (codes "00B2010418") (codes "426F62FFFFFFFFFFFFFF059151552143FFFFFFFFFFFFFFFF9000") ∷
    t 1 ∷ x 1 (codes "00A4080C047F106F4A") (codes "9000") ∷ x 1 (codes "00B202040D") (codes "FFFFFFFFFFFFFFFFFFFFFFFFFF9000") ∷
    t 1 ∷ x 1 (codes "00B203040D") (codes "FFFFFFFFFFFFFFFFFFFFFFFFFF9000") ∷
    p 1 1 1 16 (codes "{\"entries\":[{\"name\":\"Bob\",\"number\":\"+15551234\"}]}") ∷ a 1 1 (answer.Loaded 1) ∷
    [])

abbrev pub framework_reads_anew_script : Script
framework_reads_anew_script = record {
  version = 1;
  cards =
      record { files = (record { path = (0x7F10 ∷ 0x6F3A ∷ []); kind = (Linear 24 ((hex (codes "426F62FFFFFFFFFFFFFF059151552143FFFFFFFFFFFFFFFF")) ∷ (hex (codes "426F62FFFFFFFFFFFFFF059151552143FFFFFFFFFFFFFFFF")) ∷ (hex (codes "426F62FFFFFFFFFFFFFF059151552143FFFFFFFFFFFFFFFF")) ∷ [])); arr = None; active = true; endless = false; fcp = None } ∷ []); aids = ([]); keys = ([]); channels = 3; get_response = false } ∷
      record { files = (record { path = (0x7F10 ∷ 0x6F3A ∷ []); kind = (Linear 24 ((hex (codes "426F62FFFFFFFFFFFFFF059151552143FFFFFFFFFFFFFFFF")) ∷ (hex (codes "426F62FFFFFFFFFFFFFF059151552143FFFFFFFFFFFFFFFF")) ∷ (hex (codes "426F62FFFFFFFFFFFFFF059151552143FFFFFFFFFFFFFFFF")) ∷ [])); arr = None; active = true; endless = false; fcp = None } ∷ []); aids = ([]); keys = ([]); channels = 3; get_response = false } ∷ [];
  actors =
      (operation.Insert 0 ∷ operation.Load 1 ∷ operation.Out ∷ operation.Insert 1 ∷ []) ∷
      (operation.Arm 0 ∷ operation.Poll ∷ []) ∷
      [];
  changes = record { qualifier = 7; kind = 1; list = ([]); files = ([]) } ∷ [];
  schedule = 1 ∷ 0 ∷ 0 ∷ 1 ∷ 1 ∷ 1 ∷ 1 ∷ 1 ∷ 1 ∷ 0 ∷ 0 ∷ 0 ∷ 0 ∷ 2 ∷ 2 ∷ [];
  faults = [];
  budget = None;
}

abbrev pub framework_reads_anew : Report
framework_reads_anew = replayed framework_reads_anew_script (
    t 1 ∷ b 1 0 ∷ w 1 (insert 0) ∷ a 1 0 answer.Moved ∷ t 0 ∷ x 0 (codes "8010000003010080") (codes "9000") ∷
    t 0 ∷ x 0 (codes "00A4040C07A0000000871002") (codes "6A82") ∷
    t 1 ∷ b 1 1 ∷ x 1 (codes "00A40804047F106F3A00") (codes "62128205422100180383026F3A8A0105800200489000") ∷
    x 1 (codes "00B2010418") (codes "426F62FFFFFFFFFFFFFF059151552143FFFFFFFFFFFFFFFF9000") ∷
    t 1 ∷ x 1 (codes "00B2020418") (codes "426F62FFFFFFFFFFFFFF059151552143FFFFFFFFFFFFFFFF9000") ∷
    t 1 ∷ x 1 (codes "00B2030418") (codes "426F62FFFFFFFFFFFFFF059151552143FFFFFFFFFFFFFFFF9000") ∷
    t 1 ∷ x 1 (codes "00A40804047F106F4A00") (codes "6A82") ∷
    p 1 1 1 8 (codes "{\"entries\":[{\"name\":\"Bob\",\"number\":\"+15551234\"},{\"name\":\"Bob\",\"number\":\"+15551234\"},{\"name\":\"Bob\",\"number\":\"+15551234\"}]}") ∷
    a 1 1 (answer.Loaded 1) ∷ t 1 ∷ b 1 2 ∷ w 1 out ∷ z 2 1 9 ∷ a 1 2 answer.Moved ∷ t 1 ∷ b 1 3 ∷ w 1 (insert 1) ∷ a 1 3 answer.Moved ∷
    t 0 ∷ x 0 (codes "8010000003010080") (codes "9000") ∷ t 0 ∷ x 0 (codes "00A4040C07A0000000871002") (codes "6A82") ∷
    t 0 ∷ x 0 (codes "00A40804047F106F3A00") (codes "62128205422100180383026F3A8A0105800200489000") ∷
    x 0 (codes "00B2010418") (codes "426F62FFFFFFFFFFFFFF059151552143FFFFFFFFFFFFFFFF9000") ∷
    t 0 ∷ x 0 (codes "00B2020418") (codes "426F62FFFFFFFFFFFFFF059151552143FFFFFFFFFFFFFFFF9000") ∷
    t 2 ∷ b 2 0 ∷ w 2 (arm 0) ∷ a 2 0 answer.Moved ∷ t 2 ∷ b 2 1 ∷ x 2 (codes "80F2000C") (codes "910B") ∷ a 2 1 answer.Polled ∷
    t 0 ∷ x 0 (codes "801200000B") (codes "D0098103010107820281829000") ∷ t 1 ∷ t 2 ∷
    t 0 ∷ x 0 (codes "801400000C810301010782028281830100") (codes "9000") ∷ t 1 ∷ t 2 ∷
    t 0 ∷ x 0 (codes "00A40804047F106F3A00") (codes "62128205422100180383026F3A8A0105800200489000") ∷
    x 0 (codes "00B2010418") (codes "426F62FFFFFFFFFFFFFF059151552143FFFFFFFFFFFFFFFF9000") ∷ t 1 ∷ t 2 ∷
    t 0 ∷ x 0 (codes "00B2020418") (codes "426F62FFFFFFFFFFFFFF059151552143FFFFFFFFFFFFFFFF9000") ∷ t 1 ∷ t 2 ∷
    t 0 ∷ x 0 (codes "00B2030418") (codes "426F62FFFFFFFFFFFFFF059151552143FFFFFFFFFFFFFFFF9000") ∷ t 1 ∷ t 2 ∷
    t 0 ∷ x 0 (codes "00A40804047F106F4A00") (codes "6A82") ∷
    p 3 1 2 24 (codes "{\"entries\":[{\"name\":\"Bob\",\"number\":\"+15551234\"},{\"name\":\"Bob\",\"number\":\"+15551234\"},{\"name\":\"Bob\",\"number\":\"+15551234\"}]}") ∷
    [])

abbrev pub refused_before_stale_script : Script
refused_before_stale_script = record {
  version = 1;
  cards =
      record { files = (record { path = (0x7F10 ∷ 0x6F3A ∷ []); kind = (Linear 24 ((hex (codes "426F62FFFFFFFFFFFFFF059151552143FFFFFFFFFFFFFFFF")) ∷ (hex (codes "426F62FFFFFFFFFFFFFF059151552143FFFFFFFFFFFFFFFF")) ∷ (hex (codes "426F62FFFFFFFFFFFFFF059151552143FFFFFFFFFFFFFFFF")) ∷ [])); arr = (Some (record { file_id = 0x2F06; row = 1 })); active = true; endless = false; fcp = None } ∷ record { path = (0x7F10 ∷ 0x6F4A ∷ []); kind = (Linear 13 ((hex (codes "FFFFFFFFFFFFFFFFFFFFFFFFFF")) ∷ [])); arr = None; active = true; endless = false; fcp = None } ∷ record { path = (0x2F06 ∷ []); kind = (Linear 16 ((hex (codes "800101A4068301019501088001029000")) ∷ [])); arr = None; active = true; endless = false; fcp = None } ∷ []); aids = ([]); keys = (record { key = 0x01; pin = (hex (codes "31323334FFFFFFFF")); tries = 3; max = 3 } ∷ []); channels = 3; get_response = false } ∷ [];
  actors =
      (operation.Insert 0 ∷ operation.Verify 0x01 (hex (codes "31323334FFFFFFFF")) ∷ operation.Load 1 ∷ operation.End 0x01 ∷ []) ∷
      (operation.Arm 0 ∷ operation.Poll ∷ operation.Verify 0x01 (hex (codes "0000000000000000")) ∷ operation.End 0x01 ∷ []) ∷
      [];
  changes = record { qualifier = 1; kind = 1; list = ((0x7F10 ∷ 0x6F4A ∷ []) ∷ []); files = ([]) } ∷ [];
  schedule = 1 ∷ 0 ∷ 0 ∷ 1 ∷ 1 ∷ 2 ∷ 2 ∷ 0 ∷ 0 ∷ 2 ∷ 1 ∷ [];
  faults = [];
  budget = None;
}

abbrev pub refused_before_stale : Report
refused_before_stale = replayed refused_before_stale_script (
    t 1 ∷ b 1 0 ∷ w 1 (insert 0) ∷ a 1 0 answer.Moved ∷ t 0 ∷ x 0 (codes "8010000003010080") (codes "9000") ∷
    t 0 ∷ x 0 (codes "00A4040C07A0000000871002") (codes "6A82") ∷
    t 1 ∷ b 1 1 ∷ x 1 (codes "002000010831323334FFFFFFFF") (codes "9000") ∷ a 1 1 answer.Verified ∷
    t 1 ∷ b 1 2 ∷ x 1 (codes "00A40804047F106F3A00") (codes "62178205422100180383026F3A8A01058B032F0601800200489000") ∷
    x 1 (codes "00B2010418") (codes "426F62FFFFFFFFFFFFFF059151552143FFFFFFFFFFFFFFFF9000") ∷
    t 2 ∷ b 2 0 ∷ w 2 (arm 0) ∷ a 2 0 answer.Moved ∷ t 2 ∷ b 2 1 ∷ x 2 (codes "80F2000C") (codes "9114") ∷ a 2 1 answer.Polled ∷
    t 0 ∷ x 0 (codes "8012000014") (codes "D0128103010101820281829207013F007F106F4A9000") ∷
    t 0 ∷ x 0 (codes "801400000C810301010182028281830100") (codes "9000") ∷
    t 2 ∷ b 2 2 ∷ x 2 (codes "00200001080000000000000000") (codes "63C2") ∷ a 2 2 (answer.Status (record { 0 = 0x63C2 }) 11) ∷
    t 1 ∷ x 1 (codes "00B2020418") (codes "6982") ∷ a 1 2 (answer.Status (record { 0 = 0x6982 }) 12) ∷
    t 0 ∷ x 0 (codes "00A40804047F106F3A00") (codes "62178205422100180383026F3A8A01058B032F0601800200489000") ∷
    x 0 (codes "00B2010418") (codes "6982") ∷ d 1 14 ∷ t 1 ∷ b 1 3 ∷ a 1 3 answer.Ended ∷ t 2 ∷ b 2 3 ∷ a 2 3 (answer.NotHeldKey 0x01) ∷
    [])
