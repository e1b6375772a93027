-- Worked reports of proactive commands and resets, line by line as their text has them.
use Rattle.std.specs.Prelude.{[], ◌∷◌, Some, None, true, false, codes}
use Rattle.script_reader.specs.declared.types.Script.{Script}
use Rattle.script_reader.specs.declared.types.KindSpec.TheVariants.{Transparent, Linear}
use Rattle.script_reader.specs.declared.types.Operation.TheVariants as operation
use Rattle.report.specs.declared.answer.Answer.TheVariants as answer
use Rattle.report.specs.declared.lines.Report.{Report}
use Rattle.rules.specs.WorkedWords.{hex, arm, insert, out, t, b, x, f, r, q, w, p, z, a, replayed}

abbrev pub refresh_within_a_load_script : Script
refresh_within_a_load_script = record {
  version = 1;
  cards =
      record { files = (record { path = (0x7F10 ∷ 0x6F3A ∷ []); kind = (Linear 24 ((hex (codes "426F62FFFFFFFFFFFFFF059151552143FFFFFFFFFFFFFFFF")) ∷ (hex (codes "426F62FFFFFFFFFFFFFF059151552143FFFFFFFFFFFFFFFF")) ∷ (hex (codes "426F62FFFFFFFFFFFFFF059151552143FFFFFFFFFFFFFFFF")) ∷ (hex (codes "426F62FFFFFFFFFFFFFF059151552143FFFFFFFFFFFFFFFF")) ∷ (hex (codes "426F62FFFFFFFFFFFFFF059151552143FFFFFFFFFFFFFFFF")) ∷ (hex (codes "426F62FFFFFFFFFFFFFF059151552143FFFFFFFFFFFFFFFF")) ∷ (hex (codes "426F62FFFFFFFFFFFFFF059151552143FFFFFFFFFFFFFFFF")) ∷ (hex (codes "426F62FFFFFFFFFFFFFF059151552143FFFFFFFFFFFFFFFF")) ∷ (hex (codes "426F62FFFFFFFFFFFFFF059151552143FFFFFFFFFFFFFFFF")) ∷ (hex (codes "426F62FFFFFFFFFFFFFF059151552143FFFFFFFFFFFFFFFF")) ∷ [])); arr = None; active = true; endless = false; fcp = None } ∷ []); aids = ([]); keys = ([]); channels = 3; get_response = false } ∷ [];
  actors =
      (operation.Insert 0 ∷ operation.Load 1 ∷ []) ∷
      (operation.Arm 0 ∷ operation.Poll ∷ []) ∷
      [];
  changes =
      record { qualifier = 1; kind = 1; list = ((0x7F10 ∷ 0x6F3A ∷ []) ∷ []); files = (record { path = (0x7F10 ∷ 0x6F3A ∷ []); kind = (Linear 24 ((hex (codes "FFFFFFFFFFFFFFFFFFFFFFFFFFFFFFFFFFFFFFFFFFFFFFFF")) ∷ (hex (codes "FFFFFFFFFFFFFFFFFFFFFFFFFFFFFFFFFFFFFFFFFFFFFFFF")) ∷ (hex (codes "FFFFFFFFFFFFFFFFFFFFFFFFFFFFFFFFFFFFFFFFFFFFFFFF")) ∷ (hex (codes "FFFFFFFFFFFFFFFFFFFFFFFFFFFFFFFFFFFFFFFFFFFFFFFF")) ∷ (hex (codes "FFFFFFFFFFFFFFFFFFFFFFFFFFFFFFFFFFFFFFFFFFFFFFFF")) ∷ (hex (codes "FFFFFFFFFFFFFFFFFFFFFFFFFFFFFFFFFFFFFFFFFFFFFFFF")) ∷ (hex (codes "FFFFFFFFFFFFFFFFFFFFFFFFFFFFFFFFFFFFFFFFFFFFFFFF")) ∷ (hex (codes "FFFFFFFFFFFFFFFFFFFFFFFFFFFFFFFFFFFFFFFFFFFFFFFF")) ∷ (hex (codes "FFFFFFFFFFFFFFFFFFFFFFFFFFFFFFFFFFFFFFFFFFFFFFFF")) ∷ (hex (codes "FFFFFFFFFFFFFFFFFFFFFFFFFFFFFFFFFFFFFFFFFFFFFFFF")) ∷ [])); arr = None; active = true; endless = false; fcp = None } ∷ []) } ∷ [];
  schedule = 1 ∷ 0 ∷ 0 ∷ 1 ∷ 1 ∷ 1 ∷ 2 ∷ 2 ∷ 0 ∷ 0 ∷ 1 ∷ 1 ∷ 1 ∷ 1 ∷ 1 ∷ 1 ∷ 1 ∷ 1 ∷ 1 ∷ 1 ∷ 1 ∷ 1 ∷ 1 ∷ 1 ∷ 1 ∷ [];
  faults = [];
  budget = None;
}

abbrev pub refresh_within_a_load : Report
refresh_within_a_load = replayed refresh_within_a_load_script (
    t 1 ∷ b 1 0 ∷ w 1 (insert 0) ∷ a 1 0 answer.Moved ∷ t 0 ∷ x 0 (codes "8010000003010080") (codes "9000") ∷
    t 0 ∷ x 0 (codes "00A4040C07A0000000871002") (codes "6A82") ∷
    t 1 ∷ b 1 1 ∷ x 1 (codes "00A40804047F106F3A00") (codes "62128205422100180A83026F3A8A0105800200F09000") ∷
    x 1 (codes "00B2010418") (codes "426F62FFFFFFFFFFFFFF059151552143FFFFFFFFFFFFFFFF9000") ∷
    t 1 ∷ x 1 (codes "00B2020418") (codes "426F62FFFFFFFFFFFFFF059151552143FFFFFFFFFFFFFFFF9000") ∷
    t 1 ∷ x 1 (codes "00B2030418") (codes "426F62FFFFFFFFFFFFFF059151552143FFFFFFFFFFFFFFFF9000") ∷
    t 2 ∷ b 2 0 ∷ w 2 (arm 0) ∷ a 2 0 answer.Moved ∷ t 2 ∷ b 2 1 ∷ x 2 (codes "80F2000C") (codes "9114") ∷ a 2 1 answer.Polled ∷
    t 0 ∷ x 0 (codes "8012000014") (codes "D0128103010101820281829207013F007F106F3A9000") ∷
    t 0 ∷ x 0 (codes "801400000C810301010182028281830100") (codes "9000") ∷
    t 1 ∷ x 1 (codes "00A40804047F106F3A00") (codes "62128205422100180A83026F3A8A0105800200F09000") ∷
    x 1 (codes "00B2010418") (codes "FFFFFFFFFFFFFFFFFFFFFFFFFFFFFFFFFFFFFFFFFFFFFFFF9000") ∷
    t 1 ∷ x 1 (codes "00B2020418") (codes "FFFFFFFFFFFFFFFFFFFFFFFFFFFFFFFFFFFFFFFFFFFFFFFF9000") ∷
    t 1 ∷ x 1 (codes "00B2030418") (codes "FFFFFFFFFFFFFFFFFFFFFFFFFFFFFFFFFFFFFFFFFFFFFFFF9000") ∷
    t 1 ∷ x 1 (codes "00B2040418") (codes "FFFFFFFFFFFFFFFFFFFFFFFFFFFFFFFFFFFFFFFFFFFFFFFF9000") ∷
    t 1 ∷ x 1 (codes "00B2050418") (codes "FFFFFFFFFFFFFFFFFFFFFFFFFFFFFFFFFFFFFFFFFFFFFFFF9000") ∷
    t 1 ∷ x 1 (codes "00B2060418") (codes "FFFFFFFFFFFFFFFFFFFFFFFFFFFFFFFFFFFFFFFFFFFFFFFF9000") ∷
    t 1 ∷ x 1 (codes "00B2070418") (codes "FFFFFFFFFFFFFFFFFFFFFFFFFFFFFFFFFFFFFFFFFFFFFFFF9000") ∷
    t 1 ∷ x 1 (codes "00B2080418") (codes "FFFFFFFFFFFFFFFFFFFFFFFFFFFFFFFFFFFFFFFFFFFFFFFF9000") ∷
    t 1 ∷ x 1 (codes "00B2090418") (codes "FFFFFFFFFFFFFFFFFFFFFFFFFFFFFFFFFFFFFFFFFFFFFFFF9000") ∷
    t 1 ∷ x 1 (codes "00B20A0418") (codes "FFFFFFFFFFFFFFFFFFFFFFFFFFFFFFFFFFFFFFFFFFFFFFFF9000") ∷
    t 1 ∷ x 1 (codes "00A40804047F106F4A00") (codes "6A82") ∷
    p 1 1 1 23 (codes "{\"entries\":[null,null,null,null,null,null,null,null,null,null]}") ∷ a 1 1 (answer.Loaded 1) ∷
    [])

abbrev pub refresh_of_one_file_script : Script
refresh_of_one_file_script = record {
  version = 1;
  cards =
      record { files = (record { path = (0x2FE2 ∷ []); kind = (Transparent (hex (codes "98101430121181157002"))); arr = None; active = true; endless = false; fcp = None } ∷ record { path = (0x7FFF ∷ 0x6F46 ∷ []); kind = (Transparent (hex (codes "0180042F04300431FFFFFFFFFFFFFFFFFF"))); arr = None; active = true; endless = false; fcp = None } ∷ []); aids = ((hex (codes "A0000000871002FF49FFFF89")) ∷ []); keys = ([]); channels = 3; get_response = false } ∷ [];
  actors =
      (operation.Insert 0 ∷ operation.Load 0 ∷ operation.Arm 0 ∷ operation.Poll ∷ []) ∷
      [];
  changes =
      record { qualifier = 1; kind = 1; list = ((0x7FFF ∷ 0x6F46 ∷ []) ∷ []); files = (record { path = (0x7FFF ∷ 0x6F46 ∷ []); kind = (Transparent (hex (codes "0142FFFFFFFFFFFFFFFFFFFFFFFFFFFFFF"))); arr = None; active = true; endless = false; fcp = None } ∷ []) } ∷ [];
  schedule = [];
  faults = [];
  budget = None;
}

abbrev pub refresh_of_one_file : Report
refresh_of_one_file = replayed refresh_of_one_file_script (
    t 0 ∷ t 1 ∷ b 1 0 ∷ w 1 (insert 0) ∷ a 1 0 answer.Moved ∷ t 0 ∷ x 0 (codes "8010000003010080") (codes "9000") ∷ t 1 ∷
    t 0 ∷ x 0 (codes "00A4040C07A0000000871002") (codes "9000") ∷
    t 1 ∷ b 1 1 ∷ x 1 (codes "00A40804022FE200") (codes "620F8202412183022FE28A01058002000A9000") ∷
    x 1 (codes "00B000000A") (codes "981014301211811570029000") ∷ t 0 ∷ t 1 ∷ x 1 (codes "00A40804047FFF6F0700") (codes "6A82") ∷ t 0 ∷
    t 1 ∷ x 1 (codes "00A40804047FFF6FAD00") (codes "6A82") ∷ t 0 ∷
    t 1 ∷ x 1 (codes "00A40804047FFF6F4600") (codes "620F8202412183026F468A0105800200119000") ∷
    x 1 (codes "00B0000011") (codes "0180042F04300431FFFFFFFFFFFFFFFFFF9000") ∷ t 0 ∷
    t 1 ∷ x 1 (codes "00A40804047FFF6F4000") (codes "6A82") ∷ t 0 ∷ t 1 ∷ x 1 (codes "00A40804047FFF6F4E00") (codes "6A82") ∷ t 0 ∷
    t 1 ∷ x 1 (codes "00A40804022F0000") (codes "6A82") ∷
    p 1 0 1 12 (123 ∷ 34 ∷ 97 ∷ 100 ∷ 34 ∷ 58 ∷ 110 ∷ 117 ∷ 108 ∷ 108 ∷ 44 ∷ 34 ∷ 97 ∷ 112 ∷ 112 ∷ 115 ∷ 34 ∷ 58 ∷ 91 ∷ 93 ∷ 44 ∷ 34 ∷ 105 ∷ 99 ∷ 99 ∷ 105 ∷ 100 ∷ 34 ∷ 58 ∷ 34 ∷ 56 ∷ 57 ∷ 48 ∷ 49 ∷ 52 ∷ 49 ∷ 48 ∷ 51 ∷ 50 ∷ 49 ∷ 49 ∷ 49 ∷ 49 ∷ 56 ∷ 53 ∷ 49 ∷ 48 ∷ 55 ∷ 50 ∷ 48 ∷ 34 ∷ 44 ∷ 34 ∷ 105 ∷ 109 ∷ 115 ∷ 105 ∷ 34 ∷ 58 ∷ 110 ∷ 117 ∷ 108 ∷ 108 ∷ 44 ∷ 34 ∷ 109 ∷ 115 ∷ 105 ∷ 115 ∷ 100 ∷ 110 ∷ 34 ∷ 58 ∷ 91 ∷ 93 ∷ 44 ∷ 34 ∷ 115 ∷ 112 ∷ 110 ∷ 34 ∷ 58 ∷ 123 ∷ 34 ∷ 110 ∷ 97 ∷ 109 ∷ 101 ∷ 34 ∷ 58 ∷ 34 ∷ 208 ∷ 175 ∷ 208 ∷ 176 ∷ 208 ∷ 177 ∷ 34 ∷ 44 ∷ 34 ∷ 115 ∷ 104 ∷ 111 ∷ 119 ∷ 34 ∷ 58 ∷ 49 ∷ 125 ∷ 125 ∷ []) ∷
    a 1 1 (answer.Loaded 1) ∷ t 0 ∷ t 1 ∷ b 1 2 ∷ w 1 (arm 0) ∷ a 1 2 answer.Moved ∷ t 0 ∷
    t 1 ∷ b 1 3 ∷ x 1 (codes "80F2000C") (codes "9114") ∷ a 1 3 answer.Polled ∷
    t 0 ∷ x 0 (codes "8012000014") (codes "D0128103010101820281829207013F007FFF6F469000") ∷ t 1 ∷
    t 0 ∷ x 0 (codes "801400000C810301010182028281830100") (codes "9000") ∷ t 1 ∷
    t 0 ∷ x 0 (codes "00A40804047FFF6F4600") (codes "620F8202412183026F468A0105800200119000") ∷
    x 0 (codes "00B0000011") (codes "0142FFFFFFFFFFFFFFFFFFFFFFFFFFFFFF9000") ∷
    p 2 0 1 18 (codes "{\"ad\":null,\"apps\":[],\"iccid\":\"89014103211118510720\",\"imsi\":null,\"msisdn\":[],\"spn\":{\"name\":\"B\",\"show\":1}}") ∷
    [])

abbrev pub refresh_with_reset_script : Script
refresh_with_reset_script = record {
  version = 1;
  cards =
      record { files = (record { path = (0x7F10 ∷ 0x6F3A ∷ []); kind = (Linear 24 ((hex (codes "426F62FFFFFFFFFFFFFF059151552143FFFFFFFFFFFFFFFF")) ∷ (hex (codes "426F62FFFFFFFFFFFFFF059151552143FFFFFFFFFFFFFFFF")) ∷ (hex (codes "426F62FFFFFFFFFFFFFF059151552143FFFFFFFFFFFFFFFF")) ∷ (hex (codes "426F62FFFFFFFFFFFFFF059151552143FFFFFFFFFFFFFFFF")) ∷ (hex (codes "426F62FFFFFFFFFFFFFF059151552143FFFFFFFFFFFFFFFF")) ∷ (hex (codes "426F62FFFFFFFFFFFFFF059151552143FFFFFFFFFFFFFFFF")) ∷ (hex (codes "426F62FFFFFFFFFFFFFF059151552143FFFFFFFFFFFFFFFF")) ∷ (hex (codes "426F62FFFFFFFFFFFFFF059151552143FFFFFFFFFFFFFFFF")) ∷ (hex (codes "426F62FFFFFFFFFFFFFF059151552143FFFFFFFFFFFFFFFF")) ∷ (hex (codes "426F62FFFFFFFFFFFFFF059151552143FFFFFFFFFFFFFFFF")) ∷ [])); arr = None; active = true; endless = false; fcp = None } ∷ []); aids = ((hex (codes "A0000000871002FF49FFFF89")) ∷ []); keys = ([]); channels = 3; get_response = false } ∷ [];
  actors =
      (operation.Insert 0 ∷ operation.OpenChannel 0 (hex (codes "A0000000871002FF49FFFF89")) ∷ operation.Load 1 ∷ operation.Close 0 ∷ []) ∷
      (operation.Arm 0 ∷ operation.Poll ∷ []) ∷
      [];
  changes = record { qualifier = 4; kind = 1; list = ([]); files = ([]) } ∷ [];
  schedule = 1 ∷ 0 ∷ 0 ∷ 1 ∷ 1 ∷ 1 ∷ 2 ∷ 2 ∷ 0 ∷ 1 ∷ 1 ∷ [];
  faults = [];
  budget = None;
}

abbrev pub refresh_with_reset : Report
refresh_with_reset = replayed refresh_with_reset_script (
    t 1 ∷ b 1 0 ∷ w 1 (insert 0) ∷ a 1 0 answer.Moved ∷ t 0 ∷ x 0 (codes "8010000003010080") (codes "9000") ∷
    t 0 ∷ x 0 (codes "00A4040C07A0000000871002") (codes "9000") ∷
    t 1 ∷ b 1 1 ∷ x 1 (codes "0070000001") (codes "019000") ∷ x 1 (codes "01A4040C0CA0000000871002FF49FFFF89") (codes "9000") ∷
    a 1 1 (answer.Opened 1) ∷
    t 1 ∷ b 1 2 ∷ x 1 (codes "00A40804047F106F3A00") (codes "62128205422100180A83026F3A8A0105800200F09000") ∷
    x 1 (codes "00B2010418") (codes "426F62FFFFFFFFFFFFFF059151552143FFFFFFFFFFFFFFFF9000") ∷
    t 1 ∷ x 1 (codes "00B2020418") (codes "426F62FFFFFFFFFFFFFF059151552143FFFFFFFFFFFFFFFF9000") ∷
    t 2 ∷ b 2 0 ∷ w 2 (arm 0) ∷ a 2 0 answer.Moved ∷ t 2 ∷ b 2 1 ∷ x 2 (codes "80F2000C") (codes "910B") ∷ a 2 1 answer.Polled ∷
    t 0 ∷ x 0 (codes "801200000B") (codes "D0098103010104820281829000") ∷ r 0 ∷ z 1 1 12 ∷ t 1 ∷ a 1 2 (answer.EpochEnded 1 12 false) ∷
    t 1 ∷ b 1 3 ∷ a 1 3 (answer.EpochEnded 1 12 false) ∷ t 0 ∷ x 0 (codes "8010000003010080") (codes "9000") ∷ t 1 ∷ t 2 ∷
    t 0 ∷ x 0 (codes "00A4040C07A0000000871002") (codes "9000") ∷ t 1 ∷ t 2 ∷
    t 0 ∷ x 0 (codes "00A40804047F106F3A00") (codes "62128205422100180A83026F3A8A0105800200F09000") ∷
    x 0 (codes "00B2010418") (codes "426F62FFFFFFFFFFFFFF059151552143FFFFFFFFFFFFFFFF9000") ∷ t 1 ∷ t 2 ∷
    t 0 ∷ x 0 (codes "00B2020418") (codes "426F62FFFFFFFFFFFFFF059151552143FFFFFFFFFFFFFFFF9000") ∷ t 1 ∷ t 2 ∷
    t 0 ∷ x 0 (codes "00B2030418") (codes "426F62FFFFFFFFFFFFFF059151552143FFFFFFFFFFFFFFFF9000") ∷ t 1 ∷ t 2 ∷
    t 0 ∷ x 0 (codes "00B2040418") (codes "426F62FFFFFFFFFFFFFF059151552143FFFFFFFFFFFFFFFF9000") ∷ t 1 ∷ t 2 ∷
    t 0 ∷ x 0 (codes "00B2050418") (codes "426F62FFFFFFFFFFFFFF059151552143FFFFFFFFFFFFFFFF9000") ∷ t 1 ∷ t 2 ∷
    t 0 ∷ x 0 (codes "00B2060418") (codes "426F62FFFFFFFFFFFFFF059151552143FFFFFFFFFFFFFFFF9000") ∷ t 1 ∷ t 2 ∷
    t 0 ∷ x 0 (codes "00B2070418") (codes "426F62FFFFFFFFFFFFFF059151552143FFFFFFFFFFFFFFFF9000") ∷ t 1 ∷ t 2 ∷
    t 0 ∷ x 0 (codes "00B2080418") (codes "426F62FFFFFFFFFFFFFF059151552143FFFFFFFFFFFFFFFF9000") ∷ t 1 ∷ t 2 ∷
    t 0 ∷ x 0 (codes "00B2090418") (codes "426F62FFFFFFFFFFFFFF059151552143FFFFFFFFFFFFFFFF9000") ∷ t 1 ∷ t 2 ∷
    t 0 ∷ x 0 (codes "00B20A0418") (codes "426F62FFFFFFFFFFFFFF059151552143FFFFFFFFFFFFFFFF9000") ∷ t 1 ∷ t 2 ∷
    t 0 ∷ x 0 (codes "00A40804047F106F4A00") (codes "6A82") ∷
    p 2 1 2 26 (codes "{\"entries\":[{\"name\":\"Bob\",\"number\":\"+15551234\"},{\"name\":\"Bob\",\"number\":\"+15551234\"},{\"name\":\"Bob\",\"number\":\"+15551234\"},{\"name\":\"Bob\",\"number\":\"+15551234\"},{\"name\":\"Bob\",\"number\":\"+15551234\"},{\"name\":\"Bob\",\"number\":\"+15551234\"},{\"name\":\"Bob\",\"number\":\"+15551234\"},{\"name\":\"Bob\",\"number\":\"+15551234\"},{\"name\":\"Bob\",\"number\":\"+15551234\"},{\"name\":\"Bob\",\"number\":\"+15551234\"}]}") ∷
    [])

abbrev pub failed_reset_script : Script
failed_reset_script = record {
  version = 1;
  cards =
      record { files = (record { path = (0x7F10 ∷ 0x6F3A ∷ []); kind = (Linear 24 ((hex (codes "FFFFFFFFFFFFFFFFFFFFFFFFFFFFFFFFFFFFFFFFFFFFFFFF")) ∷ [])); arr = None; active = true; endless = false; fcp = None } ∷ []); aids = ([]); keys = ([]); channels = 3; get_response = false } ∷ [];
  actors =
      (operation.Insert 0 ∷ operation.Set 1 (Some 1) (codes "Bob") (codes "+15551234") ∷ operation.Load 1 ∷ operation.Insert 0 ∷
      operation.Out ∷ operation.Insert 0 ∷ []) ∷
      [];
  changes = [];
  schedule = [];
  faults = record { at = 6; acted = true } ∷ record { at = 7; acted = false } ∷ [];
  budget = None;
}

abbrev pub failed_reset : Report
failed_reset = replayed failed_reset_script (
    t 0 ∷ t 1 ∷ b 1 0 ∷ w 1 (insert 0) ∷ a 1 0 answer.Moved ∷ t 0 ∷ x 0 (codes "8010000003010080") (codes "9000") ∷ t 1 ∷
    t 0 ∷ x 0 (codes "00A4040C07A0000000871002") (codes "6A82") ∷
    t 1 ∷ b 1 1 ∷ x 1 (codes "00A40804047F106F3A00") (codes "62128205422100180183026F3A8A0105800200189000") ∷
    x 1 (codes "00B2010418") (codes "FFFFFFFFFFFFFFFFFFFFFFFFFFFFFFFFFFFFFFFFFFFFFFFF9000") ∷ t 0 ∷
    t 1 ∷ x 1 (codes "00A40804047F106F4A00") (codes "6A82") ∷ t 0 ∷
    t 1 ∷ f 1 (codes "00DC010418426F62FFFFFFFFFFFFFF059151552143FFFFFFFFFFFFFFFF") true ∷ z 1 1 7 ∷ a 1 1 (answer.EpochEnded 1 7 true) ∷
    t 0 ∷ q 0 ∷ t 1 ∷ b 1 2 ∷ a 1 2 answer.Absent ∷ t 0 ∷ t 1 ∷ b 1 3 ∷ a 1 3 answer.SlotFull ∷ t 0 ∷
    t 1 ∷ b 1 4 ∷ w 1 out ∷ a 1 4 answer.Moved ∷ t 0 ∷ t 1 ∷ b 1 5 ∷ w 1 (insert 0) ∷ a 1 5 answer.Moved ∷
    t 0 ∷ x 0 (codes "8010000003010080") (codes "9000") ∷ t 1 ∷ t 0 ∷ x 0 (codes "00A4040C07A0000000871002") (codes "6A82") ∷ t 1 ∷
    t 0 ∷ x 0 (codes "00A40804047F106F3A00") (codes "62128205422100180183026F3A8A0105800200189000") ∷
    x 0 (codes "00B2010418") (codes "426F62FFFFFFFFFFFFFF059151552143FFFFFFFFFFFFFFFF9000") ∷ t 1 ∷
    t 0 ∷ x 0 (codes "00A40804047F106F4A00") (codes "6A82") ∷
    p 2 1 2 15 (codes "{\"entries\":[{\"name\":\"Bob\",\"number\":\"+15551234\"}]}") ∷
    [])

abbrev pub other_proactive_command_script : Script
other_proactive_command_script = record {
  version = 1;
  cards =
      record { files = (record { path = (0x2FE2 ∷ []); kind = (Transparent (hex (codes "98101430121181157002"))); arr = None; active = true; endless = false; fcp = None } ∷ []); aids = ([]); keys = ([]); channels = 3; get_response = false } ∷ [];
  actors =
      (operation.Insert 0 ∷ operation.Load 0 ∷ operation.Arm 0 ∷ operation.Poll ∷ []) ∷
      [];
  changes = record { qualifier = 0; kind = 33; list = ([]); files = ([]) } ∷ [];
  schedule = [];
  faults = [];
  budget = None;
}

abbrev pub other_proactive_command : Report
other_proactive_command = replayed other_proactive_command_script (
    t 0 ∷ t 1 ∷ b 1 0 ∷ w 1 (insert 0) ∷ a 1 0 answer.Moved ∷ t 0 ∷ x 0 (codes "8010000003010080") (codes "9000") ∷ t 1 ∷
    t 0 ∷ x 0 (codes "00A4040C07A0000000871002") (codes "6A82") ∷
    t 1 ∷ b 1 1 ∷ x 1 (codes "00A40804022FE200") (codes "620F8202412183022FE28A01058002000A9000") ∷
    x 1 (codes "00B000000A") (codes "981014301211811570029000") ∷ t 0 ∷ t 1 ∷ x 1 (codes "00A40804047FFF6F0700") (codes "6A82") ∷ t 0 ∷
    t 1 ∷ x 1 (codes "00A40804047FFF6FAD00") (codes "6A82") ∷ t 0 ∷ t 1 ∷ x 1 (codes "00A40804047FFF6F4600") (codes "6A82") ∷ t 0 ∷
    t 1 ∷ x 1 (codes "00A40804047FFF6F4000") (codes "6A82") ∷ t 0 ∷ t 1 ∷ x 1 (codes "00A40804047FFF6F4E00") (codes "6A82") ∷ t 0 ∷
    t 1 ∷ x 1 (codes "00A40804022F0000") (codes "6A82") ∷
    p 1 0 1 11 (codes "{\"ad\":null,\"apps\":[],\"iccid\":\"89014103211118510720\",\"imsi\":null,\"msisdn\":[],\"spn\":null}") ∷
    a 1 1 (answer.Loaded 1) ∷ t 0 ∷ t 1 ∷ b 1 2 ∷ w 1 (arm 0) ∷ a 1 2 answer.Moved ∷ t 0 ∷
    t 1 ∷ b 1 3 ∷ x 1 (codes "80F2000C") (codes "910B") ∷ a 1 3 answer.Polled ∷
    t 0 ∷ x 0 (codes "801200000B") (codes "D0098103012100820281829000") ∷ t 1 ∷
    t 0 ∷ x 0 (codes "801400000C810301210082028281830131") (codes "9000") ∷
    [])
