-- Worked reports of channels, raw commands and PINs, line by line as their text has them.
use Rattle.std.specs.Prelude.{[], ◌∷◌, Some, None, true, false, codes}
use Rattle.script_reader.specs.declared.types.Script.{Script}
use Rattle.script_reader.specs.declared.types.KindSpec.TheVariants.{Transparent, Linear}
use Rattle.script_reader.specs.declared.types.Operation.TheVariants as operation
use Rattle.report.specs.declared.answer.Answer.TheVariants as answer
use Rattle.report.specs.declared.lines.Report.{Report}
use Rattle.rules.specs.WorkedWords.{hex, sent, got, insert, t, b, x, w, p, a, replayed}

abbrev pub channels_script : Script
channels_script = record {
  version = 1;
  cards =
      record { files = (record { path = (0x2FE2 ∷ []); kind = (Transparent (hex (codes "98101430121181157002"))); arr = None; active = true; endless = false; fcp = None } ∷ []); aids = ((hex (codes "A0000000871002FF49FFFF89")) ∷ []); keys = ([]); channels = 3; get_response = false } ∷ [];
  actors =
      (operation.Insert 0 ∷ operation.OpenChannel 0 (hex (codes "A0000000871002FF49FFFF89")) ∷
      operation.OpenChannel 1 (hex (codes "A0000000871002FF49FFFF89")) ∷
      operation.OpenChannel 2 (hex (codes "A0000000871002FF49FFFF89")) ∷
      operation.OpenChannel 3 (hex (codes "A0000000871002FF49FFFF89")) ∷ operation.Close 1 ∷
      operation.OpenChannel 5 (hex (codes "A0000000871002FF49FFFF89")) ∷ operation.Close 0 ∷
      operation.OpenChannel 6 (hex (codes "A000000099")) ∷ operation.Close 2 ∷ operation.Close 3 ∷ operation.Close 5 ∷
      operation.Close 6 ∷ []) ∷
      [];
  changes = [];
  schedule = [];
  faults = [];
  budget = None;
}

abbrev pub channels : Report
channels = replayed channels_script (
    t 0 ∷ t 1 ∷ b 1 0 ∷ w 1 (insert 0) ∷ a 1 0 answer.Moved ∷ t 0 ∷ x 0 (codes "8010000003010080") (codes "9000") ∷ t 1 ∷
    t 0 ∷ x 0 (codes "00A4040C07A0000000871002") (codes "9000") ∷
    t 1 ∷ b 1 1 ∷ x 1 (codes "0070000001") (codes "019000") ∷ x 1 (codes "01A4040C0CA0000000871002FF49FFFF89") (codes "9000") ∷
    a 1 1 (answer.Opened 1) ∷ t 0 ∷
    t 1 ∷ b 1 2 ∷ x 1 (codes "0070000001") (codes "029000") ∷ x 1 (codes "02A4040C0CA0000000871002FF49FFFF89") (codes "9000") ∷
    a 1 2 (answer.Opened 2) ∷ t 0 ∷
    t 1 ∷ b 1 3 ∷ x 1 (codes "0070000001") (codes "039000") ∷ x 1 (codes "03A4040C0CA0000000871002FF49FFFF89") (codes "9000") ∷
    a 1 3 (answer.Opened 3) ∷ t 0 ∷ t 1 ∷ b 1 4 ∷ x 1 (codes "0070000001") (codes "6A81") ∷ a 1 4 (answer.Exhausted 10) ∷ t 0 ∷
    t 1 ∷ b 1 5 ∷ x 1 (codes "00708002") (codes "9000") ∷ a 1 5 answer.Closed ∷ t 0 ∷
    t 1 ∷ b 1 6 ∷ x 1 (codes "0070000001") (codes "029000") ∷ x 1 (codes "02A4040C0CA0000000871002FF49FFFF89") (codes "9000") ∷
    a 1 6 (answer.Opened 2) ∷ t 0 ∷ t 1 ∷ b 1 7 ∷ x 1 (codes "00708001") (codes "9000") ∷ a 1 7 answer.Closed ∷ t 0 ∷
    t 1 ∷ b 1 8 ∷ x 1 (codes "0070000001") (codes "019000") ∷ x 1 (codes "01A4040C05A000000099") (codes "6A82") ∷
    x 1 (codes "00708001") (codes "9000") ∷ a 1 8 (answer.Status (record { 0 = 0x6A82 }) 16) ∷ t 0 ∷
    t 1 ∷ b 1 9 ∷ x 1 (codes "00708003") (codes "9000") ∷ a 1 9 answer.Closed ∷ t 0 ∷ t 1 ∷ b 1 10 ∷ a 1 10 (answer.NotHeldRef 3) ∷ t 0 ∷
    t 1 ∷ b 1 11 ∷ x 1 (codes "00708002") (codes "9000") ∷ a 1 11 answer.Closed ∷ t 0 ∷ t 1 ∷ b 1 12 ∷ a 1 12 (answer.NotHeldRef 6) ∷
    [])

abbrev pub raw_on_channel_script : Script
raw_on_channel_script = record {
  version = 1;
  cards =
      record { files = (record { path = (0x7F10 ∷ 0x6F3A ∷ []); kind = (Linear 24 ((hex (codes "426F62FFFFFFFFFFFFFF059151552143FFFFFFFFFFFFFFFF")) ∷ [])); arr = None; active = true; endless = false; fcp = None } ∷ []); aids = ((hex (codes "A0000000871002FF49FFFF89")) ∷ []); keys = ([]); channels = 3; get_response = false } ∷ [];
  actors =
      (operation.Insert 0 ∷ operation.OpenChannel 0 (hex (codes "A0000000871002FF49FFFF89")) ∷
      operation.Raw 0 (sent (codes "00A4080C047F106F3A")) ∷ operation.Raw 0 (sent (codes "00B2010418")) ∷ operation.Close 0 ∷ []) ∷
      [];
  changes = [];
  schedule = [];
  faults = [];
  budget = None;
}

abbrev pub raw_on_channel : Report
raw_on_channel = replayed raw_on_channel_script (
    t 0 ∷ t 1 ∷ b 1 0 ∷ w 1 (insert 0) ∷ a 1 0 answer.Moved ∷ t 0 ∷ x 0 (codes "8010000003010080") (codes "9000") ∷ t 1 ∷
    t 0 ∷ x 0 (codes "00A4040C07A0000000871002") (codes "9000") ∷
    t 1 ∷ b 1 1 ∷ x 1 (codes "0070000001") (codes "019000") ∷ x 1 (codes "01A4040C0CA0000000871002FF49FFFF89") (codes "9000") ∷
    a 1 1 (answer.Opened 1) ∷ t 0 ∷
    t 1 ∷ b 1 2 ∷ x 1 (codes "01A4080C047F106F3A") (codes "9000") ∷ a 1 2 (answer.Raw (got (codes "9000"))) ∷ t 0 ∷
    t 1 ∷ b 1 3 ∷ x 1 (codes "01B2010418") (codes "426F62FFFFFFFFFFFFFF059151552143FFFFFFFFFFFFFFFF9000") ∷
    a 1 3 (answer.Raw (got (codes "426F62FFFFFFFFFFFFFF059151552143FFFFFFFFFFFFFFFF9000"))) ∷ t 0 ∷
    t 1 ∷ b 1 4 ∷ x 1 (codes "00708001") (codes "9000") ∷ a 1 4 answer.Closed ∷
    [])

abbrev pub tries_script : Script
tries_script = record {
  version = 1;
  cards =
      record { files = (record { path = (0x2FE2 ∷ []); kind = (Transparent (hex (codes "98101430121181157002"))); arr = None; active = true; endless = false; fcp = None } ∷ []); aids = ([]); keys = (record { key = 0x01; pin = (hex (codes "31323334FFFFFFFF")); tries = 3; max = 3 } ∷ []); channels = 3; get_response = false } ∷ [];
  actors =
      (operation.Insert 0 ∷ operation.Verify 0x01 (hex (codes "31323334FFFFFFFF")) ∷ operation.End 0x01 ∷
      operation.Verify 0x01 (hex (codes "0000000000000000")) ∷ operation.End 0x01 ∷
      operation.Verify 0x01 (hex (codes "0000000000000000")) ∷ operation.End 0x01 ∷
      operation.Verify 0x01 (hex (codes "0000000000000000")) ∷ operation.End 0x01 ∷
      operation.Verify 0x01 (hex (codes "31323334FFFFFFFF")) ∷ operation.End 0x01 ∷ []) ∷
      [];
  changes = [];
  schedule = [];
  faults = [];
  budget = None;
}

abbrev pub tries : Report
tries = replayed tries_script (
    t 0 ∷ t 1 ∷ b 1 0 ∷ w 1 (insert 0) ∷ a 1 0 answer.Moved ∷ t 0 ∷ x 0 (codes "8010000003010080") (codes "9000") ∷ t 1 ∷
    t 0 ∷ x 0 (codes "00A4040C07A0000000871002") (codes "6A82") ∷
    t 1 ∷ b 1 1 ∷ x 1 (codes "002000010831323334FFFFFFFF") (codes "9000") ∷ a 1 1 answer.Verified ∷ t 0 ∷
    t 1 ∷ b 1 2 ∷ a 1 2 answer.Ended ∷ t 0 ∷
    t 1 ∷ b 1 3 ∷ x 1 (codes "00200001080000000000000000") (codes "63C2") ∷ a 1 3 (answer.Status (record { 0 = 0x63C2 }) 5) ∷ t 0 ∷
    t 1 ∷ b 1 4 ∷ a 1 4 (answer.NotHeldKey 0x01) ∷ t 0 ∷
    t 1 ∷ b 1 5 ∷ x 1 (codes "00200001080000000000000000") (codes "63C1") ∷ a 1 5 (answer.Status (record { 0 = 0x63C1 }) 6) ∷ t 0 ∷
    t 1 ∷ b 1 6 ∷ a 1 6 (answer.NotHeldKey 0x01) ∷ t 0 ∷
    t 1 ∷ b 1 7 ∷ x 1 (codes "00200001080000000000000000") (codes "63C0") ∷ a 1 7 (answer.Status (record { 0 = 0x63C0 }) 7) ∷ t 0 ∷
    t 1 ∷ b 1 8 ∷ a 1 8 (answer.NotHeldKey 0x01) ∷ t 0 ∷
    t 1 ∷ b 1 9 ∷ x 1 (codes "002000010831323334FFFFFFFF") (codes "6983") ∷ a 1 9 (answer.Status (record { 0 = 0x6983 }) 8) ∷ t 0 ∷
    t 1 ∷ b 1 10 ∷ a 1 10 (answer.NotHeldKey 0x01) ∷
    [])

abbrev pub raw_update_script : Script
raw_update_script = record {
  version = 1;
  cards =
      record { files = (record { path = (0x7F10 ∷ 0x6F3A ∷ []); kind = (Linear 24 ((hex (codes "FFFFFFFFFFFFFFFFFFFFFFFFFFFFFFFFFFFFFFFFFFFFFFFF")) ∷ [])); arr = None; active = true; endless = false; fcp = None } ∷ record { path = (0x7FFF ∷ 0x6F3B ∷ []); kind = (Linear 24 ((hex (codes "FFFFFFFFFFFFFFFFFFFFFFFFFFFFFFFFFFFFFFFFFFFFFFFF")) ∷ [])); arr = None; active = true; endless = false; fcp = None } ∷ []); aids = ((hex (codes "A0000000871002FF49FFFF89")) ∷ []); keys = ([]); channels = 3; get_response = false } ∷ [];
  actors =
      (operation.Insert 0 ∷ operation.Load 1 ∷ operation.Load 2 ∷ operation.OpenChannel 0 (hex (codes "A0000000871002FF49FFFF89")) ∷
      operation.Raw 0 (sent (codes "00A4080C047F106F3A")) ∷
      operation.Raw 0 (sent (codes "00DC010418426F62FFFFFFFFFFFFFF059151552143FFFFFFFFFFFFFFFF")) ∷
      operation.Raw 0 (sent (codes "002000010831323334FFFFFFFF")) ∷ operation.Raw 4 (sent (codes "00B2010418")) ∷ operation.Close 0 ∷
      operation.Look ∷ []) ∷
      [];
  changes = [];
  schedule = 1 ∷ 0 ∷ 0 ∷ 1 ∷ 1 ∷ 1 ∷ 1 ∷ 1 ∷ 1 ∷ 1 ∷ 1 ∷ 1 ∷ 1 ∷ 0 ∷ 0 ∷ 0 ∷ 0 ∷ 0 ∷ 0 ∷ 0 ∷ 0 ∷ [];
  faults = [];
  budget = None;
}

abbrev pub raw_update : Report
raw_update = replayed raw_update_script (
    t 1 ∷ b 1 0 ∷ w 1 (insert 0) ∷ a 1 0 answer.Moved ∷ t 0 ∷ x 0 (codes "8010000003010080") (codes "9000") ∷
    t 0 ∷ x 0 (codes "00A4040C07A0000000871002") (codes "9000") ∷
    t 1 ∷ b 1 1 ∷ x 1 (codes "00A40804047F106F3A00") (codes "62128205422100180183026F3A8A0105800200189000") ∷
    x 1 (codes "00B2010418") (codes "FFFFFFFFFFFFFFFFFFFFFFFFFFFFFFFFFFFFFFFFFFFFFFFF9000") ∷
    t 1 ∷ x 1 (codes "00A40804047F106F4A00") (codes "6A82") ∷ p 1 1 1 6 (codes "{\"entries\":[null]}") ∷ a 1 1 (answer.Loaded 1) ∷
    t 1 ∷ b 1 2 ∷ x 1 (codes "00A40804047FFF6F3B00") (codes "62128205422100180183026F3B8A0105800200189000") ∷
    x 1 (codes "00B2010418") (codes "FFFFFFFFFFFFFFFFFFFFFFFFFFFFFFFFFFFFFFFFFFFFFFFF9000") ∷
    t 1 ∷ x 1 (codes "00A40804047FFF6F4B00") (codes "6A82") ∷ p 2 2 1 9 (codes "{\"entries\":[null]}") ∷ a 1 2 (answer.Loaded 2) ∷
    t 1 ∷ b 1 3 ∷ x 1 (codes "0070000001") (codes "019000") ∷ x 1 (codes "01A4040C0CA0000000871002FF49FFFF89") (codes "9000") ∷
    a 1 3 (answer.Opened 1) ∷ t 1 ∷ b 1 4 ∷ x 1 (codes "01A4080C047F106F3A") (codes "9000") ∷ a 1 4 (answer.Raw (got (codes "9000"))) ∷
    t 1 ∷ b 1 5 ∷ x 1 (codes "01DC010418426F62FFFFFFFFFFFFFF059151552143FFFFFFFFFFFFFFFF") (codes "9000") ∷
    a 1 5 (answer.Raw (got (codes "9000"))) ∷ t 1 ∷ b 1 6 ∷ a 1 6 (answer.RawRefused 0x20) ∷ t 1 ∷ b 1 7 ∷ a 1 7 (answer.NotHeldRef 4) ∷
    t 1 ∷ b 1 8 ∷ x 1 (codes "00708001") (codes "9000") ∷ a 1 8 answer.Closed ∷
    t 0 ∷ x 0 (codes "00A40804047F106F3A00") (codes "62128205422100180183026F3A8A0105800200189000") ∷
    x 0 (codes "00B2010418") (codes "426F62FFFFFFFFFFFFFF059151552143FFFFFFFFFFFFFFFF9000") ∷
    t 0 ∷ x 0 (codes "00A40804047F106F4A00") (codes "6A82") ∷
    p 3 1 1 17 (codes "{\"entries\":[{\"name\":\"Bob\",\"number\":\"+15551234\"}]}") ∷
    t 0 ∷ x 0 (codes "00A40804047FFF6F3B00") (codes "62128205422100180183026F3B8A0105800200189000") ∷
    x 0 (codes "00B2010418") (codes "FFFFFFFFFFFFFFFFFFFFFFFFFFFFFFFFFFFFFFFFFFFFFFFF9000") ∷
    t 0 ∷ x 0 (codes "00A40804047FFF6F4B00") (codes "6A82") ∷ p 4 2 1 20 (codes "{\"entries\":[null]}") ∷ t 0 ∷ t 0 ∷ t 0 ∷ t 0 ∷ t 0 ∷
    t 1 ∷ b 1 9 ∷ a 1 9 (answer.Look (record { count = 4; shown = (None ∷ (Some 3) ∷ (Some 4) ∷ []) })) ∷
    [])
