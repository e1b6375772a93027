-- Worked reports of edits, line by line as their text has them.
use Rattle.std.specs.Prelude.{[], ◌∷◌, Some, None, true, false, codes}
use Rattle.script_reader.specs.declared.types.Script.{Script}
use Rattle.script_reader.specs.declared.types.KindSpec.TheVariants.{Transparent, Linear}
use Rattle.script_reader.specs.declared.types.Operation.TheVariants as operation
use Rattle.report.specs.declared.answer.Answer.TheVariants as answer
use Rattle.report.specs.declared.lines.Report.{Report}
use Rattle.rules.specs.WorkedWords.{hex, sent, got, insert, out, t, b, x, f, r, w, p, z, a, replayed}

abbrev pub edit_with_extension_script : Script
edit_with_extension_script = record {
  version = 1;
  cards =
      record { files = (record { path = (0x7F10 ∷ 0x6F3A ∷ []); kind = (Linear 24 ((hex (codes "FFFFFFFFFFFFFFFFFFFFFFFFFFFFFFFFFFFFFFFFFFFFFFFF")) ∷ [])); arr = None; active = true; endless = false; fcp = None } ∷ record { path = (0x7F10 ∷ 0x6F4A ∷ []); kind = (Linear 13 ((hex (codes "FFFFFFFFFFFFFFFFFFFFFFFFFF")) ∷ [])); arr = None; active = true; endless = false; fcp = None } ∷ []); aids = ([]); keys = ([]); channels = 3; get_response = false } ∷ [];
  actors =
      (operation.Insert 0 ∷ operation.Set 1 (Some 1) (codes "Ann") (codes "1234567890123456789012") ∷ []) ∷
      (operation.Look ∷ operation.Load 1 ∷ operation.Look ∷ []) ∷
      [];
  changes = [];
  schedule = 1 ∷ 0 ∷ 0 ∷ 2 ∷ 1 ∷ 1 ∷ 1 ∷ 1 ∷ 1 ∷ 1 ∷ 1 ∷ 1 ∷ [];
  faults = [];
  budget = None;
}

abbrev pub edit_with_extension : Report
edit_with_extension = replayed edit_with_extension_script (
    t 1 ∷ b 1 0 ∷ w 1 (insert 0) ∷ a 1 0 answer.Moved ∷ t 0 ∷ x 0 (codes "8010000003010080") (codes "9000") ∷
    t 0 ∷ x 0 (codes "00A4040C07A0000000871002") (codes "6A82") ∷
    t 2 ∷ b 2 0 ∷ a 2 0 (answer.Look (record { count = 0; shown = (None ∷ None ∷ None ∷ []) })) ∷
    t 1 ∷ b 1 1 ∷ x 1 (codes "00A40804047F106F3A00") (codes "62128205422100180183026F3A8A0105800200189000") ∷
    x 1 (codes "00B2010418") (codes "FFFFFFFFFFFFFFFFFFFFFFFFFFFFFFFFFFFFFFFFFFFFFFFF9000") ∷
    t 1 ∷ x 1 (codes "00A40804047F106F4A00") (codes "621282054221000D0183026F4A8A01058002000D9000") ∷
    x 1 (codes "00B201040D") (codes "FFFFFFFFFFFFFFFFFFFFFFFFFF9000") ∷
    t 1 ∷ x 1 (codes "00DC01040D020121FFFFFFFFFFFFFFFFFFFF") (codes "9000") ∷
    t 1 ∷ x 1 (codes "00A4080C047F106F3A") (codes "9000") ∷
    x 1 (codes "00DC010418416E6EFFFFFFFFFFFFFF0B8121436587092143658709FF01") (codes "9000") ∷
    t 1 ∷ p 1 1 1 10 (codes "{\"entries\":[{\"name\":\"Ann\",\"number\":\"1234567890123456789012\"}]}") ∷
    a 1 1 (answer.Done 10 (Some 1) []) ∷ t 1 ∷ t 1 ∷ t 1 ∷ t 0 ∷ t 1 ∷
    t 2 ∷ b 2 1 ∷ p 2 1 1 10 (codes "{\"entries\":[{\"name\":\"Ann\",\"number\":\"1234567890123456789012\"}]}") ∷ a 2 1 (answer.Loaded 2) ∷
    t 0 ∷ t 1 ∷ t 2 ∷ b 2 2 ∷ a 2 2 (answer.Look (record { count = 2; shown = (None ∷ (Some 2) ∷ None ∷ []) })) ∷
    [])

abbrev pub edit_frees_extension_script : Script
edit_frees_extension_script = record {
  version = 1;
  cards =
      record { files = (record { path = (0x7F10 ∷ 0x6F3A ∷ []); kind = (Linear 24 ((hex (codes "4C6F6E67FFFFFFFFFFFF0B8121436587092143658709FF01")) ∷ [])); arr = None; active = true; endless = false; fcp = None } ∷ record { path = (0x7F10 ∷ 0x6F4A ∷ []); kind = (Linear 13 ((hex (codes "020121FFFFFFFFFFFFFFFFFFFF")) ∷ [])); arr = None; active = true; endless = false; fcp = None } ∷ []); aids = ([]); keys = ([]); channels = 3; get_response = false } ∷ [];
  actors =
      (operation.Insert 0 ∷ operation.Set 1 (Some 1) (codes "Bob") (codes "+15551234") ∷ []) ∷
      [];
  changes = [];
  schedule = [];
  faults = [];
  budget = None;
}

abbrev pub edit_frees_extension : Report
edit_frees_extension = replayed edit_frees_extension_script (
    t 0 ∷ t 1 ∷ b 1 0 ∷ w 1 (insert 0) ∷ a 1 0 answer.Moved ∷ t 0 ∷ x 0 (codes "8010000003010080") (codes "9000") ∷ t 1 ∷
    t 0 ∷ x 0 (codes "00A4040C07A0000000871002") (codes "6A82") ∷
    t 1 ∷ b 1 1 ∷ x 1 (codes "00A40804047F106F3A00") (codes "62128205422100180183026F3A8A0105800200189000") ∷
    x 1 (codes "00B2010418") (codes "4C6F6E67FFFFFFFFFFFF0B8121436587092143658709FF019000") ∷ t 0 ∷
    t 1 ∷ x 1 (codes "00A40804047F106F4A00") (codes "621282054221000D0183026F4A8A01058002000D9000") ∷
    x 1 (codes "00B201040D") (codes "020121FFFFFFFFFFFFFFFFFFFF9000") ∷ t 0 ∷
    t 1 ∷ x 1 (codes "00A4080C047F106F3A") (codes "9000") ∷
    x 1 (codes "00DC010418426F62FFFFFFFFFFFFFF059151552143FFFFFFFFFFFFFFFF") (codes "9000") ∷ t 0 ∷
    t 1 ∷ x 1 (codes "00A4080C047F106F4A") (codes "9000") ∷ x 1 (codes "00DC01040D00FFFFFFFFFFFFFFFFFFFFFFFF") (codes "9000") ∷ t 0 ∷
    t 1 ∷ p 1 1 1 11 (codes "{\"entries\":[{\"name\":\"Bob\",\"number\":\"+15551234\"}]}") ∷ a 1 1 (answer.Done 9 (Some 1) []) ∷
    [])

abbrev pub plan_full_no_record_script : Script
plan_full_no_record_script = record {
  version = 1;
  cards =
      record { files = (record { path = (0x7F10 ∷ 0x6F3A ∷ []); kind = (Linear 24 ((hex (codes "426F62FFFFFFFFFFFFFF059151552143FFFFFFFFFFFFFFFF")) ∷ (hex (codes "426F62FFFFFFFFFFFFFF059151552143FFFFFFFFFFFFFFFF")) ∷ [])); arr = None; active = true; endless = false; fcp = None } ∷ []); aids = ([]); keys = ([]); channels = 3; get_response = false } ∷ [];
  actors =
      (operation.Insert 0 ∷ operation.Set 1 None (codes "A") (codes "1") ∷ operation.Clear 1 3 ∷ []) ∷
      [];
  changes = [];
  schedule = [];
  faults = [];
  budget = None;
}

abbrev pub plan_full_no_record : Report
plan_full_no_record = replayed plan_full_no_record_script (
    t 0 ∷ t 1 ∷ b 1 0 ∷ w 1 (insert 0) ∷ a 1 0 answer.Moved ∷ t 0 ∷ x 0 (codes "8010000003010080") (codes "9000") ∷ t 1 ∷
    t 0 ∷ x 0 (codes "00A4040C07A0000000871002") (codes "6A82") ∷
    t 1 ∷ b 1 1 ∷ x 1 (codes "00A40804047F106F3A00") (codes "62128205422100180283026F3A8A0105800200309000") ∷
    x 1 (codes "00B2010418") (codes "426F62FFFFFFFFFFFFFF059151552143FFFFFFFFFFFFFFFF9000") ∷ t 0 ∷
    t 1 ∷ x 1 (codes "00B2020418") (codes "426F62FFFFFFFFFFFFFF059151552143FFFFFFFFFFFFFFFF9000") ∷ t 0 ∷
    t 1 ∷ x 1 (codes "00A40804047F106F4A00") (codes "6A82") ∷ t 0 ∷ t 1 ∷ a 1 1 (answer.Full 2) ∷ t 0 ∷
    t 1 ∷ b 1 2 ∷ a 1 2 (answer.NoRecord 3) ∷
    [])

abbrev pub plan_refusals_script : Script
plan_refusals_script = record {
  version = 1;
  cards =
      record { files = (record { path = (0x7F10 ∷ 0x6F3A ∷ []); kind = (Linear 24 ((hex (codes "FFFFFFFFFFFFFFFFFFFFFFFFFFFFFFFFFFFFFFFFFFFFFFFF")) ∷ [])); arr = None; active = true; endless = false; fcp = None } ∷ record { path = (0x7F10 ∷ 0x6F4A ∷ []); kind = (Linear 13 ((hex (codes "01FFFFFFFFFFFFFFFFFFFFFFFF")) ∷ [])); arr = None; active = true; endless = false; fcp = None } ∷ []); aids = ([]); keys = ([]); channels = 3; get_response = false } ∷ [];
  actors =
      (operation.Insert 0 ∷ operation.Set 1 None (codes "A") (codes "111111111111111111111") ∷
      operation.Set 1 None (codes "A") (codes "11111111111111111111") ∷ operation.Set 1 (Some 1) (codes "A") (codes "12a") ∷
      operation.Set 1 (Some 1) (codes "A") (codes "+") ∷
      operation.Set 1 (Some 1) (codes "A") (codes "11111111111111111111111111111111111111111") ∷ []) ∷
      [];
  changes = [];
  schedule = [];
  faults = [];
  budget = None;
}

abbrev pub plan_refusals : Report
plan_refusals = replayed plan_refusals_script (
    t 0 ∷ t 1 ∷ b 1 0 ∷ w 1 (insert 0) ∷ a 1 0 answer.Moved ∷ t 0 ∷ x 0 (codes "8010000003010080") (codes "9000") ∷ t 1 ∷
    t 0 ∷ x 0 (codes "00A4040C07A0000000871002") (codes "6A82") ∷
    t 1 ∷ b 1 1 ∷ x 1 (codes "00A40804047F106F3A00") (codes "62128205422100180183026F3A8A0105800200189000") ∷
    x 1 (codes "00B2010418") (codes "FFFFFFFFFFFFFFFFFFFFFFFFFFFFFFFFFFFFFFFFFFFFFFFF9000") ∷ t 0 ∷
    t 1 ∷ x 1 (codes "00A40804047F106F4A00") (codes "621282054221000D0183026F4A8A01058002000D9000") ∷
    x 1 (codes "00B201040D") (codes "01FFFFFFFFFFFFFFFFFFFFFFFF9000") ∷ t 0 ∷ t 1 ∷ a 1 1 (answer.ExtFull 1) ∷ t 0 ∷
    t 1 ∷ b 1 2 ∷ x 1 (codes "00A4080C047F106F3A") (codes "9000") ∷
    x 1 (codes "00DC01041841FFFFFFFFFFFFFFFFFF0B8111111111111111111111FFFF") (codes "9000") ∷ t 0 ∷
    t 1 ∷ p 1 1 1 9 (codes "{\"entries\":[{\"name\":\"A\",\"number\":\"11111111111111111111\"}]}") ∷ a 1 2 (answer.Done 9 (Some 1) []) ∷
    t 0 ∷ t 1 ∷ b 1 3 ∷ a 1 3 (answer.BadDigit 2) ∷ t 0 ∷ t 1 ∷ b 1 4 ∷ a 1 4 (answer.BadDigit 1) ∷ t 0 ∷
    t 1 ∷ b 1 5 ∷ a 1 5 (answer.NumberTooLong 41) ∷
    [])

abbrev pub plan_bad_file_script : Script
plan_bad_file_script = record {
  version = 1;
  cards =
      record { files = (record { path = (0x7F10 ∷ 0x6F3A ∷ []); kind = (Transparent (hex (codes "FFFFFFFFFFFFFFFFFFFFFFFFFFFFFFFFFFFFFFFFFFFFFFFF"))); arr = None; active = true; endless = false; fcp = None } ∷ []); aids = ([]); keys = ([]); channels = 3; get_response = false } ∷ [];
  actors =
      (operation.Insert 0 ∷ operation.Set 1 (Some 1) (codes "A") (codes "1") ∷ []) ∷
      [];
  changes = [];
  schedule = [];
  faults = [];
  budget = None;
}

abbrev pub plan_bad_file : Report
plan_bad_file = replayed plan_bad_file_script (
    t 0 ∷ t 1 ∷ b 1 0 ∷ w 1 (insert 0) ∷ a 1 0 answer.Moved ∷ t 0 ∷ x 0 (codes "8010000003010080") (codes "9000") ∷ t 1 ∷
    t 0 ∷ x 0 (codes "00A4040C07A0000000871002") (codes "6A82") ∷
    t 1 ∷ b 1 1 ∷ x 1 (codes "00A40804047F106F3A00") (codes "620F8202412183026F3A8A0105800200189000") ∷
    x 1 (codes "00B0000018") (codes "FFFFFFFFFFFFFFFFFFFFFFFFFFFFFFFFFFFFFFFFFFFFFFFF9000") ∷ t 0 ∷
    t 1 ∷ x 1 (codes "00A40804047F106F4A00") (codes "6A82") ∷ t 0 ∷ t 1 ∷ a 1 1 (answer.BadFile 24) ∷
    [])

abbrev pub needs_pin_script : Script
needs_pin_script = record {
  version = 1;
  cards =
      record { files = (record { path = (0x7FFF ∷ 0x6F3B ∷ []); kind = (Linear 24 ((hex (codes "FFFFFFFFFFFFFFFFFFFFFFFFFFFFFFFFFFFFFFFFFFFFFFFF")) ∷ [])); arr = (Some (record { file_id = 0x6F06; row = 1 })); active = true; endless = false; fcp = None } ∷ record { path = (0x7FFF ∷ 0x6F06 ∷ []); kind = (Linear 22 ((hex (codes "800101A406830101950108800102A406830181950108")) ∷ [])); arr = None; active = true; endless = false; fcp = None } ∷ []); aids = ((hex (codes "A0000000871002FF49FFFF89")) ∷ []); keys = (record { key = 0x01; pin = (hex (codes "31323334FFFFFFFF")); tries = 3; max = 3 } ∷ record { key = 0x81; pin = (hex (codes "31323334FFFFFFFF")); tries = 3; max = 3 } ∷ []); channels = 3; get_response = false } ∷ [];
  actors =
      (operation.Insert 0 ∷ operation.Verify 0x01 (hex (codes "31323334FFFFFFFF")) ∷
      operation.Verify 0x81 (hex (codes "31323334FFFFFFFF")) ∷ operation.Look ∷ operation.Look ∷
      operation.Set 2 (Some 1) (codes "Bob") (codes "1") ∷ operation.End 0x81 ∷ operation.End 0x01 ∷ []) ∷
      (operation.Set 2 (Some 1) (codes "Eve") (codes "2") ∷ []) ∷
      [];
  changes = [];
  schedule = 1 ∷ 0 ∷ 0 ∷ 1 ∷ 1 ∷ 2 ∷ 2 ∷ 2 ∷ 2 ∷ 2 ∷ 2 ∷ 2 ∷ 2 ∷ 2 ∷ 2 ∷ 2 ∷ 2 ∷ 2 ∷ 2 ∷ 2 ∷ 2 ∷ 2 ∷ 2 ∷ 2 ∷ 2 ∷ [];
  faults = [];
  budget = None;
}

abbrev pub needs_pin : Report
needs_pin = replayed needs_pin_script (
    t 1 ∷ b 1 0 ∷ w 1 (insert 0) ∷ a 1 0 answer.Moved ∷ t 0 ∷ x 0 (codes "8010000003010080") (codes "9000") ∷
    t 0 ∷ x 0 (codes "00A4040C07A0000000871002") (codes "9000") ∷
    t 1 ∷ b 1 1 ∷ x 1 (codes "002000010831323334FFFFFFFF") (codes "9000") ∷ a 1 1 answer.Verified ∷
    t 1 ∷ b 1 2 ∷ x 1 (codes "002000810831323334FFFFFFFF") (codes "9000") ∷ a 1 2 answer.Verified ∷
    t 2 ∷ b 2 0 ∷ x 2 (codes "00A40804047FFF6F3B00") (codes "62178205422100180183026F3B8A01058B036F0601800200189000") ∷
    x 2 (codes "00B2010418") (codes "FFFFFFFFFFFFFFFFFFFFFFFFFFFFFFFFFFFFFFFFFFFFFFFF9000") ∷
    t 2 ∷ x 2 (codes "00A40804047FFF6F4B00") (codes "6A82") ∷
    t 2 ∷ x 2 (codes "00A40804047FFF6F0600") (codes "62128205422100160183026F068A0105800200169000") ∷
    x 2 (codes "00B2010416") (codes "800101A406830101950108800102A4068301819501089000") ∷ t 2 ∷ a 2 0 (answer.NeedsPin 0x81) ∷ t 2 ∷
    t 2 ∷ t 2 ∷ t 2 ∷ t 2 ∷ t 2 ∷ t 2 ∷ t 2 ∷ t 2 ∷ t 2 ∷ t 2 ∷ t 2 ∷ t 2 ∷ t 2 ∷ t 2 ∷ t 2 ∷ t 0 ∷
    t 1 ∷ b 1 3 ∷ a 1 3 (answer.Look (record { count = 0; shown = (None ∷ None ∷ None ∷ []) })) ∷ t 2 ∷ t 0 ∷
    t 1 ∷ b 1 4 ∷ a 1 4 (answer.Look (record { count = 0; shown = (None ∷ None ∷ None ∷ []) })) ∷ t 2 ∷ t 0 ∷
    t 1 ∷ b 1 5 ∷ x 1 (codes "00A4080C047FFF6F3B") (codes "9000") ∷
    x 1 (codes "00DC010418426F62FFFFFFFFFFFFFF0281F1FFFFFFFFFFFFFFFFFFFFFF") (codes "9000") ∷ t 2 ∷ t 0 ∷
    t 1 ∷ p 1 2 1 12 (codes "{\"entries\":[{\"name\":\"Bob\",\"number\":\"1\"}]}") ∷ a 1 5 (answer.Done 12 (Some 1) []) ∷ t 2 ∷ t 0 ∷
    t 1 ∷ b 1 6 ∷ a 1 6 answer.Ended ∷ t 2 ∷ t 0 ∷ t 1 ∷ b 1 7 ∷ a 1 7 answer.Ended ∷
    [])

abbrev pub load_meets_edit_script : Script
load_meets_edit_script = record {
  version = 1;
  cards =
      record { files = (record { path = (0x7F10 ∷ 0x6F3A ∷ []); kind = (Linear 24 ((hex (codes "426F62FFFFFFFFFFFFFF059151552143FFFFFFFFFFFFFFFF")) ∷ (hex (codes "426F62FFFFFFFFFFFFFF059151552143FFFFFFFFFFFFFFFF")) ∷ (hex (codes "426F62FFFFFFFFFFFFFF059151552143FFFFFFFFFFFFFFFF")) ∷ (hex (codes "426F62FFFFFFFFFFFFFF059151552143FFFFFFFFFFFFFFFF")) ∷ (hex (codes "426F62FFFFFFFFFFFFFF059151552143FFFFFFFFFFFFFFFF")) ∷ (hex (codes "426F62FFFFFFFFFFFFFF059151552143FFFFFFFFFFFFFFFF")) ∷ (hex (codes "426F62FFFFFFFFFFFFFF059151552143FFFFFFFFFFFFFFFF")) ∷ (hex (codes "426F62FFFFFFFFFFFFFF059151552143FFFFFFFFFFFFFFFF")) ∷ (hex (codes "426F62FFFFFFFFFFFFFF059151552143FFFFFFFFFFFFFFFF")) ∷ (hex (codes "426F62FFFFFFFFFFFFFF059151552143FFFFFFFFFFFFFFFF")) ∷ [])); arr = None; active = true; endless = false; fcp = None } ∷ record { path = (0x7F10 ∷ 0x6F4A ∷ []); kind = (Linear 13 ((hex (codes "FFFFFFFFFFFFFFFFFFFFFFFFFF")) ∷ (hex (codes "FFFFFFFFFFFFFFFFFFFFFFFFFF")) ∷ [])); arr = None; active = true; endless = false; fcp = None } ∷ []); aids = ([]); keys = ([]); channels = 3; get_response = false } ∷ [];
  actors =
      (operation.Insert 0 ∷ operation.Load 1 ∷ []) ∷
      (operation.Set 1 (Some 4) (codes "New") (codes "99") ∷ []) ∷
      [];
  changes = [];
  schedule = 1 ∷ 0 ∷ 0 ∷ 1 ∷ 1 ∷ 1 ∷ 2 ∷ 2 ∷ 2 ∷ 2 ∷ 2 ∷ 2 ∷ 2 ∷ 2 ∷ 2 ∷ 2 ∷ 2 ∷ 2 ∷ 2 ∷ 2 ∷ 2 ∷ 2 ∷ 2 ∷ 2 ∷ 2 ∷ 2 ∷ [];
  faults = [];
  budget = None;
}

abbrev pub load_meets_edit : Report
load_meets_edit = replayed load_meets_edit_script (
    t 1 ∷ b 1 0 ∷ w 1 (insert 0) ∷ a 1 0 answer.Moved ∷ t 0 ∷ x 0 (codes "8010000003010080") (codes "9000") ∷
    t 0 ∷ x 0 (codes "00A4040C07A0000000871002") (codes "6A82") ∷
    t 1 ∷ b 1 1 ∷ x 1 (codes "00A40804047F106F3A00") (codes "62128205422100180A83026F3A8A0105800200F09000") ∷
    x 1 (codes "00B2010418") (codes "426F62FFFFFFFFFFFFFF059151552143FFFFFFFFFFFFFFFF9000") ∷
    t 1 ∷ x 1 (codes "00B2020418") (codes "426F62FFFFFFFFFFFFFF059151552143FFFFFFFFFFFFFFFF9000") ∷
    t 1 ∷ x 1 (codes "00B2030418") (codes "426F62FFFFFFFFFFFFFF059151552143FFFFFFFFFFFFFFFF9000") ∷
    t 2 ∷ b 2 0 ∷ x 2 (codes "00A40804047F106F3A00") (codes "62128205422100180A83026F3A8A0105800200F09000") ∷
    x 2 (codes "00B2010418") (codes "426F62FFFFFFFFFFFFFF059151552143FFFFFFFFFFFFFFFF9000") ∷
    t 2 ∷ x 2 (codes "00B2020418") (codes "426F62FFFFFFFFFFFFFF059151552143FFFFFFFFFFFFFFFF9000") ∷
    t 2 ∷ x 2 (codes "00B2030418") (codes "426F62FFFFFFFFFFFFFF059151552143FFFFFFFFFFFFFFFF9000") ∷
    t 2 ∷ x 2 (codes "00B2040418") (codes "426F62FFFFFFFFFFFFFF059151552143FFFFFFFFFFFFFFFF9000") ∷
    t 2 ∷ x 2 (codes "00B2050418") (codes "426F62FFFFFFFFFFFFFF059151552143FFFFFFFFFFFFFFFF9000") ∷
    t 2 ∷ x 2 (codes "00B2060418") (codes "426F62FFFFFFFFFFFFFF059151552143FFFFFFFFFFFFFFFF9000") ∷
    t 2 ∷ x 2 (codes "00B2070418") (codes "426F62FFFFFFFFFFFFFF059151552143FFFFFFFFFFFFFFFF9000") ∷
    t 2 ∷ x 2 (codes "00B2080418") (codes "426F62FFFFFFFFFFFFFF059151552143FFFFFFFFFFFFFFFF9000") ∷
    t 2 ∷ x 2 (codes "00B2090418") (codes "426F62FFFFFFFFFFFFFF059151552143FFFFFFFFFFFFFFFF9000") ∷
    t 2 ∷ x 2 (codes "00B20A0418") (codes "426F62FFFFFFFFFFFFFF059151552143FFFFFFFFFFFFFFFF9000") ∷
    t 2 ∷ x 2 (codes "00A40804047F106F4A00") (codes "621282054221000D0283026F4A8A01058002001A9000") ∷
    x 2 (codes "00B201040D") (codes "FFFFFFFFFFFFFFFFFFFFFFFFFF9000") ∷
    t 2 ∷ x 2 (codes "00B202040D") (codes "FFFFFFFFFFFFFFFFFFFFFFFFFF9000") ∷
    t 2 ∷ x 2 (codes "00A4080C047F106F3A") (codes "9000") ∷
    x 2 (codes "00DC0404184E6577FFFFFFFFFFFFFF028199FFFFFFFFFFFFFFFFFFFFFF") (codes "9000") ∷
    t 2 ∷
    p 1 1 1 23 (codes "{\"entries\":[{\"name\":\"Bob\",\"number\":\"+15551234\"},{\"name\":\"Bob\",\"number\":\"+15551234\"},{\"name\":\"Bob\",\"number\":\"+15551234\"},{\"name\":\"New\",\"number\":\"99\"},{\"name\":\"Bob\",\"number\":\"+15551234\"},{\"name\":\"Bob\",\"number\":\"+15551234\"},{\"name\":\"Bob\",\"number\":\"+15551234\"},{\"name\":\"Bob\",\"number\":\"+15551234\"},{\"name\":\"Bob\",\"number\":\"+15551234\"},{\"name\":\"Bob\",\"number\":\"+15551234\"}]}") ∷
    a 2 0 (answer.Done 23 (Some 1) []) ∷ t 2 ∷ t 2 ∷ t 2 ∷ t 2 ∷ t 2 ∷ t 2 ∷ t 0 ∷
    t 1 ∷
    p 2 1 1 23 (codes "{\"entries\":[{\"name\":\"Bob\",\"number\":\"+15551234\"},{\"name\":\"Bob\",\"number\":\"+15551234\"},{\"name\":\"Bob\",\"number\":\"+15551234\"},{\"name\":\"New\",\"number\":\"99\"},{\"name\":\"Bob\",\"number\":\"+15551234\"},{\"name\":\"Bob\",\"number\":\"+15551234\"},{\"name\":\"Bob\",\"number\":\"+15551234\"},{\"name\":\"Bob\",\"number\":\"+15551234\"},{\"name\":\"Bob\",\"number\":\"+15551234\"},{\"name\":\"Bob\",\"number\":\"+15551234\"}]}") ∷
    a 1 1 (answer.Loaded 2) ∷
    [])

abbrev pub three_sets_script : Script
three_sets_script = record {
  version = 1;
  cards =
      record { files = (record { path = (0x7F10 ∷ 0x6F3A ∷ []); kind = (Linear 24 ((hex (codes "FFFFFFFFFFFFFFFFFFFFFFFFFFFFFFFFFFFFFFFFFFFFFFFF")) ∷ (hex (codes "FFFFFFFFFFFFFFFFFFFFFFFFFFFFFFFFFFFFFFFFFFFFFFFF")) ∷ [])); arr = None; active = true; endless = false; fcp = None } ∷ []); aids = ([]); keys = ([]); channels = 3; get_response = false } ∷ [];
  actors =
      (operation.Insert 0 ∷ operation.Load 1 ∷ operation.Set 1 (Some 1) (codes "A") (codes "1") ∷
      operation.Set 1 (Some 1) (codes "B") (codes "1") ∷ operation.Set 1 (Some 1) (codes "C") (codes "1") ∷ []) ∷
      [];
  changes = [];
  schedule = [];
  faults = [];
  budget = None;
}

abbrev pub three_sets : Report
three_sets = replayed three_sets_script (
    t 0 ∷ t 1 ∷ b 1 0 ∷ w 1 (insert 0) ∷ a 1 0 answer.Moved ∷ t 0 ∷ x 0 (codes "8010000003010080") (codes "9000") ∷ t 1 ∷
    t 0 ∷ x 0 (codes "00A4040C07A0000000871002") (codes "6A82") ∷
    t 1 ∷ b 1 1 ∷ x 1 (codes "00A40804047F106F3A00") (codes "62128205422100180283026F3A8A0105800200309000") ∷
    x 1 (codes "00B2010418") (codes "FFFFFFFFFFFFFFFFFFFFFFFFFFFFFFFFFFFFFFFFFFFFFFFF9000") ∷ t 0 ∷
    t 1 ∷ x 1 (codes "00B2020418") (codes "FFFFFFFFFFFFFFFFFFFFFFFFFFFFFFFFFFFFFFFFFFFFFFFF9000") ∷ t 0 ∷
    t 1 ∷ x 1 (codes "00A40804047F106F4A00") (codes "6A82") ∷ p 1 1 1 7 (codes "{\"entries\":[null,null]}") ∷ a 1 1 (answer.Loaded 1) ∷
    t 0 ∷ t 1 ∷ b 1 2 ∷ x 1 (codes "00DC01041841FFFFFFFFFFFFFFFFFF0281F1FFFFFFFFFFFFFFFFFFFFFF") (codes "9000") ∷ t 0 ∷
    t 1 ∷ p 2 1 1 8 (codes "{\"entries\":[{\"name\":\"A\",\"number\":\"1\"},null]}") ∷ a 1 2 (answer.Done 8 (Some 2) []) ∷ t 0 ∷
    t 1 ∷ b 1 3 ∷ x 1 (codes "00DC01041842FFFFFFFFFFFFFFFFFF0281F1FFFFFFFFFFFFFFFFFFFFFF") (codes "9000") ∷ t 0 ∷
    t 1 ∷ p 3 1 1 9 (codes "{\"entries\":[{\"name\":\"B\",\"number\":\"1\"},null]}") ∷ a 1 3 (answer.Done 9 (Some 3) []) ∷ t 0 ∷
    t 1 ∷ b 1 4 ∷ x 1 (codes "00DC01041843FFFFFFFFFFFFFFFFFF0281F1FFFFFFFFFFFFFFFFFFFFFF") (codes "9000") ∷ t 0 ∷
    t 1 ∷ p 4 1 1 10 (codes "{\"entries\":[{\"name\":\"C\",\"number\":\"1\"},null]}") ∷ a 1 4 (answer.Done 10 (Some 4) []) ∷
    [])

abbrev pub removed_behind_deciding_script : Script
removed_behind_deciding_script = record {
  version = 1;
  cards =
      record { files = (record { path = (0x7F10 ∷ 0x6F3A ∷ []); kind = (Linear 24 ((hex (codes "4C6F6E67FFFFFFFFFFFF0B8121436587092143658709FF01")) ∷ [])); arr = None; active = true; endless = false; fcp = None } ∷ record { path = (0x7F10 ∷ 0x6F4A ∷ []); kind = (Linear 13 ((hex (codes "020121FFFFFFFFFFFFFFFFFFFF")) ∷ [])); arr = None; active = true; endless = false; fcp = None } ∷ []); aids = ([]); keys = ([]); channels = 3; get_response = false } ∷ [];
  actors =
      (operation.Insert 0 ∷ operation.Set 1 (Some 1) (codes "Bob") (codes "+15551234") ∷ []) ∷
      (operation.Out ∷ operation.Insert 0 ∷ []) ∷
      [];
  changes = [];
  schedule = 1 ∷ 0 ∷ 0 ∷ 1 ∷ 1 ∷ 1 ∷ 2 ∷ 2 ∷ [];
  faults = [];
  budget = None;
}

abbrev pub removed_behind_deciding : Report
removed_behind_deciding = replayed removed_behind_deciding_script (
    t 1 ∷ b 1 0 ∷ w 1 (insert 0) ∷ a 1 0 answer.Moved ∷ t 0 ∷ x 0 (codes "8010000003010080") (codes "9000") ∷
    t 0 ∷ x 0 (codes "00A4040C07A0000000871002") (codes "6A82") ∷
    t 1 ∷ b 1 1 ∷ x 1 (codes "00A40804047F106F3A00") (codes "62128205422100180183026F3A8A0105800200189000") ∷
    x 1 (codes "00B2010418") (codes "4C6F6E67FFFFFFFFFFFF0B8121436587092143658709FF019000") ∷
    t 1 ∷ x 1 (codes "00A40804047F106F4A00") (codes "621282054221000D0183026F4A8A01058002000D9000") ∷
    x 1 (codes "00B201040D") (codes "020121FFFFFFFFFFFFFFFFFFFF9000") ∷
    t 1 ∷ x 1 (codes "00A4080C047F106F3A") (codes "9000") ∷
    x 1 (codes "00DC010418426F62FFFFFFFFFFFFFF059151552143FFFFFFFFFFFFFFFF") (codes "9000") ∷
    t 2 ∷ b 2 0 ∷ w 2 out ∷ z 1 1 10 ∷ a 2 0 answer.Moved ∷ t 2 ∷ b 2 1 ∷ w 2 (insert 0) ∷ a 2 1 answer.Moved ∷
    t 0 ∷ x 0 (codes "8010000003010080") (codes "9000") ∷ t 1 ∷ a 1 1 (answer.Done 9 (Some 1) (1 ∷ [])) ∷ t 2 ∷
    t 0 ∷ x 0 (codes "00A4040C07A0000000871002") (codes "6A82") ∷ t 1 ∷ t 2 ∷
    t 0 ∷ x 0 (codes "00A40804047F106F3A00") (codes "62128205422100180183026F3A8A0105800200189000") ∷
    x 0 (codes "00B2010418") (codes "426F62FFFFFFFFFFFFFF059151552143FFFFFFFFFFFFFFFF9000") ∷ t 1 ∷ t 2 ∷
    t 0 ∷ x 0 (codes "00A40804047F106F4A00") (codes "621282054221000D0183026F4A8A01058002000D9000") ∷
    x 0 (codes "00B201040D") (codes "020121FFFFFFFFFFFFFFFFFFFF9000") ∷
    p 2 1 2 17 (codes "{\"entries\":[{\"name\":\"Bob\",\"number\":\"+15551234\"}]}") ∷
    [])

abbrev pub plans_again_script : Script
plans_again_script = record {
  version = 1;
  cards =
      record { files = (record { path = (0x7F10 ∷ 0x6F3A ∷ []); kind = (Linear 24 ((hex (codes "FFFFFFFFFFFFFFFFFFFFFFFFFFFFFFFFFFFFFFFFFFFFFFFF")) ∷ [])); arr = None; active = true; endless = false; fcp = None } ∷ record { path = (0x7F10 ∷ 0x6F4A ∷ []); kind = (Linear 13 ((hex (codes "FFFFFFFFFFFFFFFFFFFFFFFFFF")) ∷ (hex (codes "FFFFFFFFFFFFFFFFFFFFFFFFFF")) ∷ (hex (codes "FFFFFFFFFFFFFFFFFFFFFFFFFF")) ∷ [])); arr = None; active = true; endless = false; fcp = None } ∷ []); aids = ((hex (codes "A0000000871002FF49FFFF89")) ∷ []); keys = ([]); channels = 3; get_response = false } ∷ [];
  actors =
      (operation.Insert 0 ∷ operation.Set 1 (Some 1) (codes "Ann") (codes "1234567890123456789012") ∷ []) ∷
      (operation.OpenChannel 0 (hex (codes "A0000000871002FF49FFFF89")) ∷ operation.Raw 0 (sent (codes "00A4080C047F106F3A")) ∷
      operation.Raw 0 (sent (codes "00DC010418426F62FFFFFFFFFFFFFF059151552143FFFFFFFFFFFFFFFF")) ∷ operation.Close 0 ∷ []) ∷
      [];
  changes = [];
  schedule = 1 ∷ 0 ∷ 0 ∷ 2 ∷ 2 ∷ 1 ∷ 1 ∷ 1 ∷ 1 ∷ 1 ∷ 2 ∷ 1 ∷ 1 ∷ 1 ∷ 1 ∷ 1 ∷ 1 ∷ 1 ∷ 1 ∷ 1 ∷ 1 ∷ 1 ∷ 1 ∷ 1 ∷ 1 ∷ 1 ∷ 1 ∷ 1 ∷ 1 ∷ 1 ∷ 1 ∷ [];
  faults = [];
  budget = None;
}

abbrev pub plans_again : Report
plans_again = replayed plans_again_script (
    t 1 ∷ b 1 0 ∷ w 1 (insert 0) ∷ a 1 0 answer.Moved ∷ t 0 ∷ x 0 (codes "8010000003010080") (codes "9000") ∷
    t 0 ∷ x 0 (codes "00A4040C07A0000000871002") (codes "9000") ∷
    t 2 ∷ b 2 0 ∷ x 2 (codes "0070000001") (codes "019000") ∷ x 2 (codes "01A4040C0CA0000000871002FF49FFFF89") (codes "9000") ∷
    a 2 0 (answer.Opened 1) ∷ t 2 ∷ b 2 1 ∷ x 2 (codes "01A4080C047F106F3A") (codes "9000") ∷ a 2 1 (answer.Raw (got (codes "9000"))) ∷
    t 1 ∷ b 1 1 ∷ x 1 (codes "00A40804047F106F3A00") (codes "62128205422100180183026F3A8A0105800200189000") ∷
    x 1 (codes "00B2010418") (codes "FFFFFFFFFFFFFFFFFFFFFFFFFFFFFFFFFFFFFFFFFFFFFFFF9000") ∷
    t 1 ∷ x 1 (codes "00A40804047F106F4A00") (codes "621282054221000D0383026F4A8A0105800200279000") ∷
    x 1 (codes "00B201040D") (codes "FFFFFFFFFFFFFFFFFFFFFFFFFF9000") ∷
    t 1 ∷ x 1 (codes "00B202040D") (codes "FFFFFFFFFFFFFFFFFFFFFFFFFF9000") ∷
    t 1 ∷ x 1 (codes "00B203040D") (codes "FFFFFFFFFFFFFFFFFFFFFFFFFF9000") ∷
    t 1 ∷ x 1 (codes "00DC01040D020121FFFFFFFFFFFFFFFFFFFF") (codes "9000") ∷
    t 2 ∷ b 2 2 ∷ x 2 (codes "01DC010418426F62FFFFFFFFFFFFFF059151552143FFFFFFFFFFFFFFFF") (codes "9000") ∷
    a 2 2 (answer.Raw (got (codes "9000"))) ∷
    t 1 ∷ x 1 (codes "00A40804047F106F3A00") (codes "62128205422100180183026F3A8A0105800200189000") ∷
    x 1 (codes "00B2010418") (codes "426F62FFFFFFFFFFFFFF059151552143FFFFFFFFFFFFFFFF9000") ∷
    t 1 ∷ x 1 (codes "00A40804047F106F4A00") (codes "621282054221000D0383026F4A8A0105800200279000") ∷
    x 1 (codes "00B201040D") (codes "020121FFFFFFFFFFFFFFFFFFFF9000") ∷
    t 1 ∷ x 1 (codes "00B202040D") (codes "FFFFFFFFFFFFFFFFFFFFFFFFFF9000") ∷
    t 1 ∷ x 1 (codes "00B203040D") (codes "FFFFFFFFFFFFFFFFFFFFFFFFFF9000") ∷
    t 1 ∷ x 1 (codes "00DC02040D020121FFFFFFFFFFFFFFFFFFFF") (codes "9000") ∷
    t 1 ∷ x 1 (codes "00A4080C047F106F3A") (codes "9000") ∷
    x 1 (codes "00DC010418416E6EFFFFFFFFFFFFFF0B8121436587092143658709FF02") (codes "9000") ∷
    t 1 ∷ p 1 1 1 23 (codes "{\"entries\":[{\"name\":\"Ann\",\"number\":\"1234567890123456789012\"}]}") ∷
    a 1 1 (answer.Done 23 (Some 1) (1 ∷ [])) ∷ t 1 ∷ t 1 ∷ t 1 ∷ t 1 ∷ t 1 ∷ t 1 ∷ t 1 ∷ t 1 ∷ t 1 ∷ t 1 ∷ t 1 ∷ t 1 ∷ t 1 ∷ t 0 ∷ t 1 ∷
    t 2 ∷ b 2 3 ∷ x 2 (codes "00708001") (codes "9000") ∷ a 2 3 answer.Closed ∷
    [])

abbrev pub lost_answer_script : Script
lost_answer_script = record {
  version = 1;
  cards =
      record { files = (record { path = (0x7F10 ∷ 0x6F3A ∷ []); kind = (Linear 24 ((hex (codes "FFFFFFFFFFFFFFFFFFFFFFFFFFFFFFFFFFFFFFFFFFFFFFFF")) ∷ [])); arr = None; active = true; endless = false; fcp = None } ∷ []); aids = ([]); keys = ([]); channels = 3; get_response = false } ∷ [];
  actors =
      (operation.Insert 0 ∷ operation.Set 1 (Some 1) (codes "Bob") (codes "+15551234") ∷ []) ∷
      [];
  changes = [];
  schedule = [];
  faults = record { at = 6; acted = true } ∷ [];
  budget = None;
}

abbrev pub lost_answer : Report
lost_answer = replayed lost_answer_script (
    t 0 ∷ t 1 ∷ b 1 0 ∷ w 1 (insert 0) ∷ a 1 0 answer.Moved ∷ t 0 ∷ x 0 (codes "8010000003010080") (codes "9000") ∷ t 1 ∷
    t 0 ∷ x 0 (codes "00A4040C07A0000000871002") (codes "6A82") ∷
    t 1 ∷ b 1 1 ∷ x 1 (codes "00A40804047F106F3A00") (codes "62128205422100180183026F3A8A0105800200189000") ∷
    x 1 (codes "00B2010418") (codes "FFFFFFFFFFFFFFFFFFFFFFFFFFFFFFFFFFFFFFFFFFFFFFFF9000") ∷ t 0 ∷
    t 1 ∷ x 1 (codes "00A40804047F106F4A00") (codes "6A82") ∷ t 0 ∷
    t 1 ∷ f 1 (codes "00DC010418426F62FFFFFFFFFFFFFF059151552143FFFFFFFFFFFFFFFF") true ∷ z 1 1 7 ∷ a 1 1 (answer.EpochEnded 1 7 true) ∷
    t 0 ∷ r 0 ∷ t 1 ∷ t 0 ∷ x 0 (codes "8010000003010080") (codes "9000") ∷ t 1 ∷
    t 0 ∷ x 0 (codes "00A4040C07A0000000871002") (codes "6A82") ∷ t 1 ∷
    t 0 ∷ x 0 (codes "00A40804047F106F3A00") (codes "62128205422100180183026F3A8A0105800200189000") ∷
    x 0 (codes "00B2010418") (codes "426F62FFFFFFFFFFFFFF059151552143FFFFFFFFFFFFFFFF9000") ∷ t 1 ∷
    t 0 ∷ x 0 (codes "00A40804047F106F4A00") (codes "6A82") ∷
    p 2 1 2 13 (codes "{\"entries\":[{\"name\":\"Bob\",\"number\":\"+15551234\"}]}") ∷
    [])
