-- Worked reports of an edit with a fault at each of its calls, line by line as their text has them.
use Rattle.std.specs.Prelude.{[], ◌∷◌, Some, None, true, false, codes}
use Rattle.script_reader.specs.declared.types.Script.{Script}
use Rattle.script_reader.specs.declared.types.KindSpec.TheVariants.{Linear}
use Rattle.script_reader.specs.declared.types.Operation.TheVariants as operation
use Rattle.report.specs.declared.answer.Answer.TheVariants as answer
use Rattle.report.specs.declared.lines.Report.{Report}
use Rattle.rules.specs.WorkedWords.{hex, insert, t, b, x, f, r, w, p, z, a, replayed}

abbrev pub fault_at_call_01_acted_script : Script
fault_at_call_01_acted_script = record {
  version = 1;
  cards =
      record { files = (record { path = (0x7F10 ∷ 0x6F3A ∷ []); kind = (Linear 24 ((hex (codes "FFFFFFFFFFFFFFFFFFFFFFFFFFFFFFFFFFFFFFFFFFFFFFFF")) ∷ [])); arr = None; active = true; endless = false; fcp = None } ∷ []); aids = ([]); keys = ([]); channels = 3; get_response = false } ∷ [];
  actors =
      (operation.Insert 0 ∷ operation.Set 1 (Some 1) (codes "Bob") (codes "+15551234") ∷ []) ∷
      [];
  changes = [];
  schedule = [];
  faults = record { at = 1; acted = true } ∷ [];
  budget = None;
}

abbrev pub fault_at_call_01_acted : Report
fault_at_call_01_acted = replayed fault_at_call_01_acted_script (
    t 0 ∷ t 1 ∷ b 1 0 ∷ w 1 (insert 0) ∷ a 1 0 answer.Moved ∷ t 0 ∷ f 0 (codes "8010000003010080") true ∷ z 1 1 2 ∷
    t 1 ∷ b 1 1 ∷ a 1 1 answer.Absent ∷ t 0 ∷ r 0 ∷ t 1 ∷ t 0 ∷ x 0 (codes "8010000003010080") (codes "9000") ∷ t 1 ∷
    t 0 ∷ x 0 (codes "00A4040C07A0000000871002") (codes "6A82") ∷ t 1 ∷
    t 0 ∷ x 0 (codes "00A40804047F106F3A00") (codes "62128205422100180183026F3A8A0105800200189000") ∷
    x 0 (codes "00B2010418") (codes "FFFFFFFFFFFFFFFFFFFFFFFFFFFFFFFFFFFFFFFFFFFFFFFF9000") ∷ t 1 ∷
    t 0 ∷ x 0 (codes "00A40804047F106F4A00") (codes "6A82") ∷ p 2 1 2 8 (codes "{\"entries\":[null]}") ∷
    [])

abbrev pub fault_at_call_01_lost_script : Script
fault_at_call_01_lost_script = record {
  version = 1;
  cards =
      record { files = (record { path = (0x7F10 ∷ 0x6F3A ∷ []); kind = (Linear 24 ((hex (codes "FFFFFFFFFFFFFFFFFFFFFFFFFFFFFFFFFFFFFFFFFFFFFFFF")) ∷ [])); arr = None; active = true; endless = false; fcp = None } ∷ []); aids = ([]); keys = ([]); channels = 3; get_response = false } ∷ [];
  actors =
      (operation.Insert 0 ∷ operation.Set 1 (Some 1) (codes "Bob") (codes "+15551234") ∷ []) ∷
      [];
  changes = [];
  schedule = [];
  faults = record { at = 1; acted = false } ∷ [];
  budget = None;
}

abbrev pub fault_at_call_01_lost : Report
fault_at_call_01_lost = replayed fault_at_call_01_lost_script (
    t 0 ∷ t 1 ∷ b 1 0 ∷ w 1 (insert 0) ∷ a 1 0 answer.Moved ∷ t 0 ∷ f 0 (codes "8010000003010080") false ∷ z 1 1 2 ∷
    t 1 ∷ b 1 1 ∷ a 1 1 answer.Absent ∷ t 0 ∷ r 0 ∷ t 1 ∷ t 0 ∷ x 0 (codes "8010000003010080") (codes "9000") ∷ t 1 ∷
    t 0 ∷ x 0 (codes "00A4040C07A0000000871002") (codes "6A82") ∷ t 1 ∷
    t 0 ∷ x 0 (codes "00A40804047F106F3A00") (codes "62128205422100180183026F3A8A0105800200189000") ∷
    x 0 (codes "00B2010418") (codes "FFFFFFFFFFFFFFFFFFFFFFFFFFFFFFFFFFFFFFFFFFFFFFFF9000") ∷ t 1 ∷
    t 0 ∷ x 0 (codes "00A40804047F106F4A00") (codes "6A82") ∷ p 2 1 2 8 (codes "{\"entries\":[null]}") ∷
    [])

abbrev pub fault_at_call_02_acted_script : Script
fault_at_call_02_acted_script = record {
  version = 1;
  cards =
      record { files = (record { path = (0x7F10 ∷ 0x6F3A ∷ []); kind = (Linear 24 ((hex (codes "FFFFFFFFFFFFFFFFFFFFFFFFFFFFFFFFFFFFFFFFFFFFFFFF")) ∷ [])); arr = None; active = true; endless = false; fcp = None } ∷ []); aids = ([]); keys = ([]); channels = 3; get_response = false } ∷ [];
  actors =
      (operation.Insert 0 ∷ operation.Set 1 (Some 1) (codes "Bob") (codes "+15551234") ∷ []) ∷
      [];
  changes = [];
  schedule = [];
  faults = record { at = 2; acted = true } ∷ [];
  budget = None;
}

abbrev pub fault_at_call_02_acted : Report
fault_at_call_02_acted = replayed fault_at_call_02_acted_script (
    t 0 ∷ t 1 ∷ b 1 0 ∷ w 1 (insert 0) ∷ a 1 0 answer.Moved ∷ t 0 ∷ x 0 (codes "8010000003010080") (codes "9000") ∷ t 1 ∷
    t 0 ∷ f 0 (codes "00A4040C07A0000000871002") true ∷ z 1 1 3 ∷ t 1 ∷ b 1 1 ∷ a 1 1 answer.Absent ∷ t 0 ∷ r 0 ∷ t 1 ∷
    t 0 ∷ x 0 (codes "8010000003010080") (codes "9000") ∷ t 1 ∷ t 0 ∷ x 0 (codes "00A4040C07A0000000871002") (codes "6A82") ∷ t 1 ∷
    t 0 ∷ x 0 (codes "00A40804047F106F3A00") (codes "62128205422100180183026F3A8A0105800200189000") ∷
    x 0 (codes "00B2010418") (codes "FFFFFFFFFFFFFFFFFFFFFFFFFFFFFFFFFFFFFFFFFFFFFFFF9000") ∷ t 1 ∷
    t 0 ∷ x 0 (codes "00A40804047F106F4A00") (codes "6A82") ∷ p 2 1 2 9 (codes "{\"entries\":[null]}") ∷
    [])

abbrev pub fault_at_call_02_lost_script : Script
fault_at_call_02_lost_script = record {
  version = 1;
  cards =
      record { files = (record { path = (0x7F10 ∷ 0x6F3A ∷ []); kind = (Linear 24 ((hex (codes "FFFFFFFFFFFFFFFFFFFFFFFFFFFFFFFFFFFFFFFFFFFFFFFF")) ∷ [])); arr = None; active = true; endless = false; fcp = None } ∷ []); aids = ([]); keys = ([]); channels = 3; get_response = false } ∷ [];
  actors =
      (operation.Insert 0 ∷ operation.Set 1 (Some 1) (codes "Bob") (codes "+15551234") ∷ []) ∷
      [];
  changes = [];
  schedule = [];
  faults = record { at = 2; acted = false } ∷ [];
  budget = None;
}

abbrev pub fault_at_call_02_lost : Report
fault_at_call_02_lost = replayed fault_at_call_02_lost_script (
    t 0 ∷ t 1 ∷ b 1 0 ∷ w 1 (insert 0) ∷ a 1 0 answer.Moved ∷ t 0 ∷ x 0 (codes "8010000003010080") (codes "9000") ∷ t 1 ∷
    t 0 ∷ f 0 (codes "00A4040C07A0000000871002") false ∷ z 1 1 3 ∷ t 1 ∷ b 1 1 ∷ a 1 1 answer.Absent ∷ t 0 ∷ r 0 ∷ t 1 ∷
    t 0 ∷ x 0 (codes "8010000003010080") (codes "9000") ∷ t 1 ∷ t 0 ∷ x 0 (codes "00A4040C07A0000000871002") (codes "6A82") ∷ t 1 ∷
    t 0 ∷ x 0 (codes "00A40804047F106F3A00") (codes "62128205422100180183026F3A8A0105800200189000") ∷
    x 0 (codes "00B2010418") (codes "FFFFFFFFFFFFFFFFFFFFFFFFFFFFFFFFFFFFFFFFFFFFFFFF9000") ∷ t 1 ∷
    t 0 ∷ x 0 (codes "00A40804047F106F4A00") (codes "6A82") ∷ p 2 1 2 9 (codes "{\"entries\":[null]}") ∷
    [])

abbrev pub fault_at_call_03_acted_script : Script
fault_at_call_03_acted_script = record {
  version = 1;
  cards =
      record { files = (record { path = (0x7F10 ∷ 0x6F3A ∷ []); kind = (Linear 24 ((hex (codes "FFFFFFFFFFFFFFFFFFFFFFFFFFFFFFFFFFFFFFFFFFFFFFFF")) ∷ [])); arr = None; active = true; endless = false; fcp = None } ∷ []); aids = ([]); keys = ([]); channels = 3; get_response = false } ∷ [];
  actors =
      (operation.Insert 0 ∷ operation.Set 1 (Some 1) (codes "Bob") (codes "+15551234") ∷ []) ∷
      [];
  changes = [];
  schedule = [];
  faults = record { at = 3; acted = true } ∷ [];
  budget = None;
}

abbrev pub fault_at_call_03_acted : Report
fault_at_call_03_acted = replayed fault_at_call_03_acted_script (
    t 0 ∷ t 1 ∷ b 1 0 ∷ w 1 (insert 0) ∷ a 1 0 answer.Moved ∷ t 0 ∷ x 0 (codes "8010000003010080") (codes "9000") ∷ t 1 ∷
    t 0 ∷ x 0 (codes "00A4040C07A0000000871002") (codes "6A82") ∷
    t 1 ∷ b 1 1 ∷ f 1 (codes "00A40804047F106F3A00") true ∷ z 1 1 4 ∷ a 1 1 (answer.EpochEnded 1 4 false) ∷ t 0 ∷ r 0 ∷ t 1 ∷
    t 0 ∷ x 0 (codes "8010000003010080") (codes "9000") ∷ t 1 ∷ t 0 ∷ x 0 (codes "00A4040C07A0000000871002") (codes "6A82") ∷ t 1 ∷
    t 0 ∷ x 0 (codes "00A40804047F106F3A00") (codes "62128205422100180183026F3A8A0105800200189000") ∷
    x 0 (codes "00B2010418") (codes "FFFFFFFFFFFFFFFFFFFFFFFFFFFFFFFFFFFFFFFFFFFFFFFF9000") ∷ t 1 ∷
    t 0 ∷ x 0 (codes "00A40804047F106F4A00") (codes "6A82") ∷ p 2 1 2 10 (codes "{\"entries\":[null]}") ∷
    [])

abbrev pub fault_at_call_03_lost_script : Script
fault_at_call_03_lost_script = record {
  version = 1;
  cards =
      record { files = (record { path = (0x7F10 ∷ 0x6F3A ∷ []); kind = (Linear 24 ((hex (codes "FFFFFFFFFFFFFFFFFFFFFFFFFFFFFFFFFFFFFFFFFFFFFFFF")) ∷ [])); arr = None; active = true; endless = false; fcp = None } ∷ []); aids = ([]); keys = ([]); channels = 3; get_response = false } ∷ [];
  actors =
      (operation.Insert 0 ∷ operation.Set 1 (Some 1) (codes "Bob") (codes "+15551234") ∷ []) ∷
      [];
  changes = [];
  schedule = [];
  faults = record { at = 3; acted = false } ∷ [];
  budget = None;
}

abbrev pub fault_at_call_03_lost : Report
fault_at_call_03_lost = replayed fault_at_call_03_lost_script (
    t 0 ∷ t 1 ∷ b 1 0 ∷ w 1 (insert 0) ∷ a 1 0 answer.Moved ∷ t 0 ∷ x 0 (codes "8010000003010080") (codes "9000") ∷ t 1 ∷
    t 0 ∷ x 0 (codes "00A4040C07A0000000871002") (codes "6A82") ∷
    t 1 ∷ b 1 1 ∷ f 1 (codes "00A40804047F106F3A00") false ∷ z 1 1 4 ∷ a 1 1 (answer.EpochEnded 1 4 false) ∷ t 0 ∷ r 0 ∷ t 1 ∷
    t 0 ∷ x 0 (codes "8010000003010080") (codes "9000") ∷ t 1 ∷ t 0 ∷ x 0 (codes "00A4040C07A0000000871002") (codes "6A82") ∷ t 1 ∷
    t 0 ∷ x 0 (codes "00A40804047F106F3A00") (codes "62128205422100180183026F3A8A0105800200189000") ∷
    x 0 (codes "00B2010418") (codes "FFFFFFFFFFFFFFFFFFFFFFFFFFFFFFFFFFFFFFFFFFFFFFFF9000") ∷ t 1 ∷
    t 0 ∷ x 0 (codes "00A40804047F106F4A00") (codes "6A82") ∷ p 2 1 2 10 (codes "{\"entries\":[null]}") ∷
    [])

abbrev pub fault_at_call_04_acted_script : Script
fault_at_call_04_acted_script = record {
  version = 1;
  cards =
      record { files = (record { path = (0x7F10 ∷ 0x6F3A ∷ []); kind = (Linear 24 ((hex (codes "FFFFFFFFFFFFFFFFFFFFFFFFFFFFFFFFFFFFFFFFFFFFFFFF")) ∷ [])); arr = None; active = true; endless = false; fcp = None } ∷ []); aids = ([]); keys = ([]); channels = 3; get_response = false } ∷ [];
  actors =
      (operation.Insert 0 ∷ operation.Set 1 (Some 1) (codes "Bob") (codes "+15551234") ∷ []) ∷
      [];
  changes = [];
  schedule = [];
  faults = record { at = 4; acted = true } ∷ [];
  budget = None;
}

abbrev pub fault_at_call_04_acted : Report
fault_at_call_04_acted = replayed fault_at_call_04_acted_script (
    t 0 ∷ t 1 ∷ b 1 0 ∷ w 1 (insert 0) ∷ a 1 0 answer.Moved ∷ t 0 ∷ x 0 (codes "8010000003010080") (codes "9000") ∷ t 1 ∷
    t 0 ∷ x 0 (codes "00A4040C07A0000000871002") (codes "6A82") ∷
    t 1 ∷ b 1 1 ∷ x 1 (codes "00A40804047F106F3A00") (codes "62128205422100180183026F3A8A0105800200189000") ∷
    f 1 (codes "00B2010418") true ∷ z 1 1 5 ∷ a 1 1 (answer.EpochEnded 1 5 false) ∷ t 0 ∷ r 0 ∷ t 1 ∷
    t 0 ∷ x 0 (codes "8010000003010080") (codes "9000") ∷ t 1 ∷ t 0 ∷ x 0 (codes "00A4040C07A0000000871002") (codes "6A82") ∷ t 1 ∷
    t 0 ∷ x 0 (codes "00A40804047F106F3A00") (codes "62128205422100180183026F3A8A0105800200189000") ∷
    x 0 (codes "00B2010418") (codes "FFFFFFFFFFFFFFFFFFFFFFFFFFFFFFFFFFFFFFFFFFFFFFFF9000") ∷ t 1 ∷
    t 0 ∷ x 0 (codes "00A40804047F106F4A00") (codes "6A82") ∷ p 2 1 2 11 (codes "{\"entries\":[null]}") ∷
    [])

abbrev pub fault_at_call_04_lost_script : Script
fault_at_call_04_lost_script = record {
  version = 1;
  cards =
      record { files = (record { path = (0x7F10 ∷ 0x6F3A ∷ []); kind = (Linear 24 ((hex (codes "FFFFFFFFFFFFFFFFFFFFFFFFFFFFFFFFFFFFFFFFFFFFFFFF")) ∷ [])); arr = None; active = true; endless = false; fcp = None } ∷ []); aids = ([]); keys = ([]); channels = 3; get_response = false } ∷ [];
  actors =
      (operation.Insert 0 ∷ operation.Set 1 (Some 1) (codes "Bob") (codes "+15551234") ∷ []) ∷
      [];
  changes = [];
  schedule = [];
  faults = record { at = 4; acted = false } ∷ [];
  budget = None;
}

abbrev pub fault_at_call_04_lost : Report
fault_at_call_04_lost = replayed fault_at_call_04_lost_script (
    t 0 ∷ t 1 ∷ b 1 0 ∷ w 1 (insert 0) ∷ a 1 0 answer.Moved ∷ t 0 ∷ x 0 (codes "8010000003010080") (codes "9000") ∷ t 1 ∷
    t 0 ∷ x 0 (codes "00A4040C07A0000000871002") (codes "6A82") ∷
    t 1 ∷ b 1 1 ∷ x 1 (codes "00A40804047F106F3A00") (codes "62128205422100180183026F3A8A0105800200189000") ∷
    f 1 (codes "00B2010418") false ∷ z 1 1 5 ∷ a 1 1 (answer.EpochEnded 1 5 false) ∷ t 0 ∷ r 0 ∷ t 1 ∷
    t 0 ∷ x 0 (codes "8010000003010080") (codes "9000") ∷ t 1 ∷ t 0 ∷ x 0 (codes "00A4040C07A0000000871002") (codes "6A82") ∷ t 1 ∷
    t 0 ∷ x 0 (codes "00A40804047F106F3A00") (codes "62128205422100180183026F3A8A0105800200189000") ∷
    x 0 (codes "00B2010418") (codes "FFFFFFFFFFFFFFFFFFFFFFFFFFFFFFFFFFFFFFFFFFFFFFFF9000") ∷ t 1 ∷
    t 0 ∷ x 0 (codes "00A40804047F106F4A00") (codes "6A82") ∷ p 2 1 2 11 (codes "{\"entries\":[null]}") ∷
    [])

abbrev pub fault_at_call_05_acted_script : Script
fault_at_call_05_acted_script = record {
  version = 1;
  cards =
      record { files = (record { path = (0x7F10 ∷ 0x6F3A ∷ []); kind = (Linear 24 ((hex (codes "FFFFFFFFFFFFFFFFFFFFFFFFFFFFFFFFFFFFFFFFFFFFFFFF")) ∷ [])); arr = None; active = true; endless = false; fcp = None } ∷ []); aids = ([]); keys = ([]); channels = 3; get_response = false } ∷ [];
  actors =
      (operation.Insert 0 ∷ operation.Set 1 (Some 1) (codes "Bob") (codes "+15551234") ∷ []) ∷
      [];
  changes = [];
  schedule = [];
  faults = record { at = 5; acted = true } ∷ [];
  budget = None;
}

abbrev pub fault_at_call_05_acted : Report
fault_at_call_05_acted = replayed fault_at_call_05_acted_script (
    t 0 ∷ t 1 ∷ b 1 0 ∷ w 1 (insert 0) ∷ a 1 0 answer.Moved ∷ t 0 ∷ x 0 (codes "8010000003010080") (codes "9000") ∷ t 1 ∷
    t 0 ∷ x 0 (codes "00A4040C07A0000000871002") (codes "6A82") ∷
    t 1 ∷ b 1 1 ∷ x 1 (codes "00A40804047F106F3A00") (codes "62128205422100180183026F3A8A0105800200189000") ∷
    x 1 (codes "00B2010418") (codes "FFFFFFFFFFFFFFFFFFFFFFFFFFFFFFFFFFFFFFFFFFFFFFFF9000") ∷ t 0 ∷
    t 1 ∷ f 1 (codes "00A40804047F106F4A00") true ∷ z 1 1 6 ∷ a 1 1 (answer.EpochEnded 1 6 false) ∷ t 0 ∷ r 0 ∷ t 1 ∷
    t 0 ∷ x 0 (codes "8010000003010080") (codes "9000") ∷ t 1 ∷ t 0 ∷ x 0 (codes "00A4040C07A0000000871002") (codes "6A82") ∷ t 1 ∷
    t 0 ∷ x 0 (codes "00A40804047F106F3A00") (codes "62128205422100180183026F3A8A0105800200189000") ∷
    x 0 (codes "00B2010418") (codes "FFFFFFFFFFFFFFFFFFFFFFFFFFFFFFFFFFFFFFFFFFFFFFFF9000") ∷ t 1 ∷
    t 0 ∷ x 0 (codes "00A40804047F106F4A00") (codes "6A82") ∷ p 2 1 2 12 (codes "{\"entries\":[null]}") ∷
    [])

abbrev pub fault_at_call_05_lost_script : Script
fault_at_call_05_lost_script = record {
  version = 1;
  cards =
      record { files = (record { path = (0x7F10 ∷ 0x6F3A ∷ []); kind = (Linear 24 ((hex (codes "FFFFFFFFFFFFFFFFFFFFFFFFFFFFFFFFFFFFFFFFFFFFFFFF")) ∷ [])); arr = None; active = true; endless = false; fcp = None } ∷ []); aids = ([]); keys = ([]); channels = 3; get_response = false } ∷ [];
  actors =
      (operation.Insert 0 ∷ operation.Set 1 (Some 1) (codes "Bob") (codes "+15551234") ∷ []) ∷
      [];
  changes = [];
  schedule = [];
  faults = record { at = 5; acted = false } ∷ [];
  budget = None;
}

abbrev pub fault_at_call_05_lost : Report
fault_at_call_05_lost = replayed fault_at_call_05_lost_script (
    t 0 ∷ t 1 ∷ b 1 0 ∷ w 1 (insert 0) ∷ a 1 0 answer.Moved ∷ t 0 ∷ x 0 (codes "8010000003010080") (codes "9000") ∷ t 1 ∷
    t 0 ∷ x 0 (codes "00A4040C07A0000000871002") (codes "6A82") ∷
    t 1 ∷ b 1 1 ∷ x 1 (codes "00A40804047F106F3A00") (codes "62128205422100180183026F3A8A0105800200189000") ∷
    x 1 (codes "00B2010418") (codes "FFFFFFFFFFFFFFFFFFFFFFFFFFFFFFFFFFFFFFFFFFFFFFFF9000") ∷ t 0 ∷
    t 1 ∷ f 1 (codes "00A40804047F106F4A00") false ∷ z 1 1 6 ∷ a 1 1 (answer.EpochEnded 1 6 false) ∷ t 0 ∷ r 0 ∷ t 1 ∷
    t 0 ∷ x 0 (codes "8010000003010080") (codes "9000") ∷ t 1 ∷ t 0 ∷ x 0 (codes "00A4040C07A0000000871002") (codes "6A82") ∷ t 1 ∷
    t 0 ∷ x 0 (codes "00A40804047F106F3A00") (codes "62128205422100180183026F3A8A0105800200189000") ∷
    x 0 (codes "00B2010418") (codes "FFFFFFFFFFFFFFFFFFFFFFFFFFFFFFFFFFFFFFFFFFFFFFFF9000") ∷ t 1 ∷
    t 0 ∷ x 0 (codes "00A40804047F106F4A00") (codes "6A82") ∷ p 2 1 2 12 (codes "{\"entries\":[null]}") ∷
    [])

abbrev pub fault_at_call_06_acted_script : Script
fault_at_call_06_acted_script = record {
  version = 1;
  cards =
      record { files = (record { path = (0x7F10 ∷ 0x6F3A ∷ []); kind = (Linear 24 ((hex (codes "FFFFFFFFFFFFFFFFFFFFFFFFFFFFFFFFFFFFFFFFFFFFFFFF")) ∷ [])); arr = None; active = true; endless = false; fcp = None } ∷ []); aids = ([]); keys = ([]); channels = 3; get_response = false } ∷ [];
  actors =
      (operation.Insert 0 ∷ operation.Set 1 (Some 1) (codes "Bob") (codes "+15551234") ∷ []) ∷
      [];
  changes = [];
  schedule = [];
  faults = record { at = 6; acted = true } ∷ [];
  budget = None;
}

abbrev pub fault_at_call_06_acted : Report
fault_at_call_06_acted = replayed fault_at_call_06_acted_script (
    t 0 ∷ t 1 ∷ b 1 0 ∷ w 1 (insert 0) ∷ a 1 0 answer.Moved ∷ t 0 ∷ x 0 (codes "8010000003010080") (codes "9000") ∷ t 1 ∷
    t 0 ∷ x 0 (codes "00A4040C07A0000000871002") (codes "6A82") ∷
    t 1 ∷ b 1 1 ∷ x 1 (codes "00A40804047F106F3A00") (codes "62128205422100180183026F3A8A0105800200189000") ∷
    x 1 (codes "00B2010418") (codes "FFFFFFFFFFFFFFFFFFFFFFFFFFFFFFFFFFFFFFFFFFFFFFFF9000") ∷ t 0 ∷
    t 1 ∷ x 1 (codes "00A40804047F106F4A00") (codes "6A82") ∷ t 0 ∷
    t 1 ∷ f 1 (codes "00DC010418426F62FFFFFFFFFFFFFF059151552143FFFFFFFFFFFFFFFF") true ∷ z 1 1 7 ∷ a 1 1 (answer.EpochEnded 1 7 true) ∷
    t 0 ∷ r 0 ∷ t 1 ∷ t 0 ∷ x 0 (codes "8010000003010080") (codes "9000") ∷ t 1 ∷
    t 0 ∷ x 0 (codes "00A4040C07A0000000871002") (codes "6A82") ∷ t 1 ∷
    t 0 ∷ x 0 (codes "00A40804047F106F3A00") (codes "62128205422100180183026F3A8A0105800200189000") ∷
    x 0 (codes "00B2010418") (codes "426F62FFFFFFFFFFFFFF059151552143FFFFFFFFFFFFFFFF9000") ∷ t 1 ∷
    t 0 ∷ x 0 (codes "00A40804047F106F4A00") (codes "6A82") ∷
    p 2 1 2 13 (codes "{\"entries\":[{\"name\":\"Bob\",\"number\":\"+15551234\"}]}") ∷
    [])

abbrev pub fault_at_call_06_lost_script : Script
fault_at_call_06_lost_script = record {
  version = 1;
  cards =
      record { files = (record { path = (0x7F10 ∷ 0x6F3A ∷ []); kind = (Linear 24 ((hex (codes "FFFFFFFFFFFFFFFFFFFFFFFFFFFFFFFFFFFFFFFFFFFFFFFF")) ∷ [])); arr = None; active = true; endless = false; fcp = None } ∷ []); aids = ([]); keys = ([]); channels = 3; get_response = false } ∷ [];
  actors =
      (operation.Insert 0 ∷ operation.Set 1 (Some 1) (codes "Bob") (codes "+15551234") ∷ []) ∷
      [];
  changes = [];
  schedule = [];
  faults = record { at = 6; acted = false } ∷ [];
  budget = None;
}

abbrev pub fault_at_call_06_lost : Report
fault_at_call_06_lost = replayed fault_at_call_06_lost_script (
    t 0 ∷ t 1 ∷ b 1 0 ∷ w 1 (insert 0) ∷ a 1 0 answer.Moved ∷ t 0 ∷ x 0 (codes "8010000003010080") (codes "9000") ∷ t 1 ∷
    t 0 ∷ x 0 (codes "00A4040C07A0000000871002") (codes "6A82") ∷
    t 1 ∷ b 1 1 ∷ x 1 (codes "00A40804047F106F3A00") (codes "62128205422100180183026F3A8A0105800200189000") ∷
    x 1 (codes "00B2010418") (codes "FFFFFFFFFFFFFFFFFFFFFFFFFFFFFFFFFFFFFFFFFFFFFFFF9000") ∷ t 0 ∷
    t 1 ∷ x 1 (codes "00A40804047F106F4A00") (codes "6A82") ∷ t 0 ∷
    t 1 ∷ f 1 (codes "00DC010418426F62FFFFFFFFFFFFFF059151552143FFFFFFFFFFFFFFFF") false ∷ z 1 1 7 ∷ a 1 1 (answer.EpochEnded 1 7 true) ∷
    t 0 ∷ r 0 ∷ t 1 ∷ t 0 ∷ x 0 (codes "8010000003010080") (codes "9000") ∷ t 1 ∷
    t 0 ∷ x 0 (codes "00A4040C07A0000000871002") (codes "6A82") ∷ t 1 ∷
    t 0 ∷ x 0 (codes "00A40804047F106F3A00") (codes "62128205422100180183026F3A8A0105800200189000") ∷
    x 0 (codes "00B2010418") (codes "FFFFFFFFFFFFFFFFFFFFFFFFFFFFFFFFFFFFFFFFFFFFFFFF9000") ∷ t 1 ∷
    t 0 ∷ x 0 (codes "00A40804047F106F4A00") (codes "6A82") ∷ p 2 1 2 13 (codes "{\"entries\":[null]}") ∷
    [])

abbrev pub fault_at_call_07_acted_script : Script
fault_at_call_07_acted_script = record {
  version = 1;
  cards =
      record { files = (record { path = (0x7F10 ∷ 0x6F3A ∷ []); kind = (Linear 24 ((hex (codes "FFFFFFFFFFFFFFFFFFFFFFFFFFFFFFFFFFFFFFFFFFFFFFFF")) ∷ [])); arr = None; active = true; endless = false; fcp = None } ∷ []); aids = ([]); keys = ([]); channels = 3; get_response = false } ∷ [];
  actors =
      (operation.Insert 0 ∷ operation.Set 1 (Some 1) (codes "Bob") (codes "+15551234") ∷ []) ∷
      [];
  changes = [];
  schedule = [];
  faults = record { at = 7; acted = true } ∷ [];
  budget = None;
}

abbrev pub fault_at_call_07_acted : Report
fault_at_call_07_acted = replayed fault_at_call_07_acted_script (
    t 0 ∷ t 1 ∷ b 1 0 ∷ w 1 (insert 0) ∷ a 1 0 answer.Moved ∷ t 0 ∷ x 0 (codes "8010000003010080") (codes "9000") ∷ t 1 ∷
    t 0 ∷ x 0 (codes "00A4040C07A0000000871002") (codes "6A82") ∷
    t 1 ∷ b 1 1 ∷ x 1 (codes "00A40804047F106F3A00") (codes "62128205422100180183026F3A8A0105800200189000") ∷
    x 1 (codes "00B2010418") (codes "FFFFFFFFFFFFFFFFFFFFFFFFFFFFFFFFFFFFFFFFFFFFFFFF9000") ∷ t 0 ∷
    t 1 ∷ x 1 (codes "00A40804047F106F4A00") (codes "6A82") ∷ t 0 ∷
    t 1 ∷ x 1 (codes "00DC010418426F62FFFFFFFFFFFFFF059151552143FFFFFFFFFFFFFFFF") (codes "9000") ∷ t 0 ∷
    t 1 ∷ p 1 1 1 7 (codes "{\"entries\":[{\"name\":\"Bob\",\"number\":\"+15551234\"}]}") ∷ a 1 1 (answer.Done 7 (Some 1) []) ∷
    [])

abbrev pub fault_at_call_07_lost_script : Script
fault_at_call_07_lost_script = record {
  version = 1;
  cards =
      record { files = (record { path = (0x7F10 ∷ 0x6F3A ∷ []); kind = (Linear 24 ((hex (codes "FFFFFFFFFFFFFFFFFFFFFFFFFFFFFFFFFFFFFFFFFFFFFFFF")) ∷ [])); arr = None; active = true; endless = false; fcp = None } ∷ []); aids = ([]); keys = ([]); channels = 3; get_response = false } ∷ [];
  actors =
      (operation.Insert 0 ∷ operation.Set 1 (Some 1) (codes "Bob") (codes "+15551234") ∷ []) ∷
      [];
  changes = [];
  schedule = [];
  faults = record { at = 7; acted = false } ∷ [];
  budget = None;
}

abbrev pub fault_at_call_07_lost : Report
fault_at_call_07_lost = replayed fault_at_call_07_lost_script (
    t 0 ∷ t 1 ∷ b 1 0 ∷ w 1 (insert 0) ∷ a 1 0 answer.Moved ∷ t 0 ∷ x 0 (codes "8010000003010080") (codes "9000") ∷ t 1 ∷
    t 0 ∷ x 0 (codes "00A4040C07A0000000871002") (codes "6A82") ∷
    t 1 ∷ b 1 1 ∷ x 1 (codes "00A40804047F106F3A00") (codes "62128205422100180183026F3A8A0105800200189000") ∷
    x 1 (codes "00B2010418") (codes "FFFFFFFFFFFFFFFFFFFFFFFFFFFFFFFFFFFFFFFFFFFFFFFF9000") ∷ t 0 ∷
    t 1 ∷ x 1 (codes "00A40804047F106F4A00") (codes "6A82") ∷ t 0 ∷
    t 1 ∷ x 1 (codes "00DC010418426F62FFFFFFFFFFFFFF059151552143FFFFFFFFFFFFFFFF") (codes "9000") ∷ t 0 ∷
    t 1 ∷ p 1 1 1 7 (codes "{\"entries\":[{\"name\":\"Bob\",\"number\":\"+15551234\"}]}") ∷ a 1 1 (answer.Done 7 (Some 1) []) ∷
    [])

abbrev pub fault_at_call_08_acted_script : Script
fault_at_call_08_acted_script = record {
  version = 1;
  cards =
      record { files = (record { path = (0x7F10 ∷ 0x6F3A ∷ []); kind = (Linear 24 ((hex (codes "FFFFFFFFFFFFFFFFFFFFFFFFFFFFFFFFFFFFFFFFFFFFFFFF")) ∷ [])); arr = None; active = true; endless = false; fcp = None } ∷ []); aids = ([]); keys = ([]); channels = 3; get_response = false } ∷ [];
  actors =
      (operation.Insert 0 ∷ operation.Set 1 (Some 1) (codes "Bob") (codes "+15551234") ∷ []) ∷
      [];
  changes = [];
  schedule = [];
  faults = record { at = 8; acted = true } ∷ [];
  budget = None;
}

abbrev pub fault_at_call_08_acted : Report
fault_at_call_08_acted = replayed fault_at_call_08_acted_script (
    t 0 ∷ t 1 ∷ b 1 0 ∷ w 1 (insert 0) ∷ a 1 0 answer.Moved ∷ t 0 ∷ x 0 (codes "8010000003010080") (codes "9000") ∷ t 1 ∷
    t 0 ∷ x 0 (codes "00A4040C07A0000000871002") (codes "6A82") ∷
    t 1 ∷ b 1 1 ∷ x 1 (codes "00A40804047F106F3A00") (codes "62128205422100180183026F3A8A0105800200189000") ∷
    x 1 (codes "00B2010418") (codes "FFFFFFFFFFFFFFFFFFFFFFFFFFFFFFFFFFFFFFFFFFFFFFFF9000") ∷ t 0 ∷
    t 1 ∷ x 1 (codes "00A40804047F106F4A00") (codes "6A82") ∷ t 0 ∷
    t 1 ∷ x 1 (codes "00DC010418426F62FFFFFFFFFFFFFF059151552143FFFFFFFFFFFFFFFF") (codes "9000") ∷ t 0 ∷
    t 1 ∷ p 1 1 1 7 (codes "{\"entries\":[{\"name\":\"Bob\",\"number\":\"+15551234\"}]}") ∷ a 1 1 (answer.Done 7 (Some 1) []) ∷
    [])

abbrev pub fault_at_call_08_lost_script : Script
fault_at_call_08_lost_script = record {
  version = 1;
  cards =
      record { files = (record { path = (0x7F10 ∷ 0x6F3A ∷ []); kind = (Linear 24 ((hex (codes "FFFFFFFFFFFFFFFFFFFFFFFFFFFFFFFFFFFFFFFFFFFFFFFF")) ∷ [])); arr = None; active = true; endless = false; fcp = None } ∷ []); aids = ([]); keys = ([]); channels = 3; get_response = false } ∷ [];
  actors =
      (operation.Insert 0 ∷ operation.Set 1 (Some 1) (codes "Bob") (codes "+15551234") ∷ []) ∷
      [];
  changes = [];
  schedule = [];
  faults = record { at = 8; acted = false } ∷ [];
  budget = None;
}

abbrev pub fault_at_call_08_lost : Report
fault_at_call_08_lost = replayed fault_at_call_08_lost_script (
    t 0 ∷ t 1 ∷ b 1 0 ∷ w 1 (insert 0) ∷ a 1 0 answer.Moved ∷ t 0 ∷ x 0 (codes "8010000003010080") (codes "9000") ∷ t 1 ∷
    t 0 ∷ x 0 (codes "00A4040C07A0000000871002") (codes "6A82") ∷
    t 1 ∷ b 1 1 ∷ x 1 (codes "00A40804047F106F3A00") (codes "62128205422100180183026F3A8A0105800200189000") ∷
    x 1 (codes "00B2010418") (codes "FFFFFFFFFFFFFFFFFFFFFFFFFFFFFFFFFFFFFFFFFFFFFFFF9000") ∷ t 0 ∷
    t 1 ∷ x 1 (codes "00A40804047F106F4A00") (codes "6A82") ∷ t 0 ∷
    t 1 ∷ x 1 (codes "00DC010418426F62FFFFFFFFFFFFFF059151552143FFFFFFFFFFFFFFFF") (codes "9000") ∷ t 0 ∷
    t 1 ∷ p 1 1 1 7 (codes "{\"entries\":[{\"name\":\"Bob\",\"number\":\"+15551234\"}]}") ∷ a 1 1 (answer.Done 7 (Some 1) []) ∷
    [])

abbrev pub fault_at_call_09_acted_script : Script
fault_at_call_09_acted_script = record {
  version = 1;
  cards =
      record { files = (record { path = (0x7F10 ∷ 0x6F3A ∷ []); kind = (Linear 24 ((hex (codes "FFFFFFFFFFFFFFFFFFFFFFFFFFFFFFFFFFFFFFFFFFFFFFFF")) ∷ [])); arr = None; active = true; endless = false; fcp = None } ∷ []); aids = ([]); keys = ([]); channels = 3; get_response = false } ∷ [];
  actors =
      (operation.Insert 0 ∷ operation.Set 1 (Some 1) (codes "Bob") (codes "+15551234") ∷ []) ∷
      [];
  changes = [];
  schedule = [];
  faults = record { at = 9; acted = true } ∷ [];
  budget = None;
}

abbrev pub fault_at_call_09_acted : Report
fault_at_call_09_acted = replayed fault_at_call_09_acted_script (
    t 0 ∷ t 1 ∷ b 1 0 ∷ w 1 (insert 0) ∷ a 1 0 answer.Moved ∷ t 0 ∷ x 0 (codes "8010000003010080") (codes "9000") ∷ t 1 ∷
    t 0 ∷ x 0 (codes "00A4040C07A0000000871002") (codes "6A82") ∷
    t 1 ∷ b 1 1 ∷ x 1 (codes "00A40804047F106F3A00") (codes "62128205422100180183026F3A8A0105800200189000") ∷
    x 1 (codes "00B2010418") (codes "FFFFFFFFFFFFFFFFFFFFFFFFFFFFFFFFFFFFFFFFFFFFFFFF9000") ∷ t 0 ∷
    t 1 ∷ x 1 (codes "00A40804047F106F4A00") (codes "6A82") ∷ t 0 ∷
    t 1 ∷ x 1 (codes "00DC010418426F62FFFFFFFFFFFFFF059151552143FFFFFFFFFFFFFFFF") (codes "9000") ∷ t 0 ∷
    t 1 ∷ p 1 1 1 7 (codes "{\"entries\":[{\"name\":\"Bob\",\"number\":\"+15551234\"}]}") ∷ a 1 1 (answer.Done 7 (Some 1) []) ∷
    [])

abbrev pub fault_at_call_09_lost_script : Script
fault_at_call_09_lost_script = record {
  version = 1;
  cards =
      record { files = (record { path = (0x7F10 ∷ 0x6F3A ∷ []); kind = (Linear 24 ((hex (codes "FFFFFFFFFFFFFFFFFFFFFFFFFFFFFFFFFFFFFFFFFFFFFFFF")) ∷ [])); arr = None; active = true; endless = false; fcp = None } ∷ []); aids = ([]); keys = ([]); channels = 3; get_response = false } ∷ [];
  actors =
      (operation.Insert 0 ∷ operation.Set 1 (Some 1) (codes "Bob") (codes "+15551234") ∷ []) ∷
      [];
  changes = [];
  schedule = [];
  faults = record { at = 9; acted = false } ∷ [];
  budget = None;
}

abbrev pub fault_at_call_09_lost : Report
fault_at_call_09_lost = replayed fault_at_call_09_lost_script (
    t 0 ∷ t 1 ∷ b 1 0 ∷ w 1 (insert 0) ∷ a 1 0 answer.Moved ∷ t 0 ∷ x 0 (codes "8010000003010080") (codes "9000") ∷ t 1 ∷
    t 0 ∷ x 0 (codes "00A4040C07A0000000871002") (codes "6A82") ∷
    t 1 ∷ b 1 1 ∷ x 1 (codes "00A40804047F106F3A00") (codes "62128205422100180183026F3A8A0105800200189000") ∷
    x 1 (codes "00B2010418") (codes "FFFFFFFFFFFFFFFFFFFFFFFFFFFFFFFFFFFFFFFFFFFFFFFF9000") ∷ t 0 ∷
    t 1 ∷ x 1 (codes "00A40804047F106F4A00") (codes "6A82") ∷ t 0 ∷
    t 1 ∷ x 1 (codes "00DC010418426F62FFFFFFFFFFFFFF059151552143FFFFFFFFFFFFFFFF") (codes "9000") ∷ t 0 ∷
    t 1 ∷ p 1 1 1 7 (codes "{\"entries\":[{\"name\":\"Bob\",\"number\":\"+15551234\"}]}") ∷ a 1 1 (answer.Done 7 (Some 1) []) ∷
    [])

abbrev pub fault_at_call_10_acted_script : Script
fault_at_call_10_acted_script = record {
  version = 1;
  cards =
      record { files = (record { path = (0x7F10 ∷ 0x6F3A ∷ []); kind = (Linear 24 ((hex (codes "FFFFFFFFFFFFFFFFFFFFFFFFFFFFFFFFFFFFFFFFFFFFFFFF")) ∷ [])); arr = None; active = true; endless = false; fcp = None } ∷ []); aids = ([]); keys = ([]); channels = 3; get_response = false } ∷ [];
  actors =
      (operation.Insert 0 ∷ operation.Set 1 (Some 1) (codes "Bob") (codes "+15551234") ∷ []) ∷
      [];
  changes = [];
  schedule = [];
  faults = record { at = 10; acted = true } ∷ [];
  budget = None;
}

abbrev pub fault_at_call_10_acted : Report
fault_at_call_10_acted = replayed fault_at_call_10_acted_script (
    t 0 ∷ t 1 ∷ b 1 0 ∷ w 1 (insert 0) ∷ a 1 0 answer.Moved ∷ t 0 ∷ x 0 (codes "8010000003010080") (codes "9000") ∷ t 1 ∷
    t 0 ∷ x 0 (codes "00A4040C07A0000000871002") (codes "6A82") ∷
    t 1 ∷ b 1 1 ∷ x 1 (codes "00A40804047F106F3A00") (codes "62128205422100180183026F3A8A0105800200189000") ∷
    x 1 (codes "00B2010418") (codes "FFFFFFFFFFFFFFFFFFFFFFFFFFFFFFFFFFFFFFFFFFFFFFFF9000") ∷ t 0 ∷
    t 1 ∷ x 1 (codes "00A40804047F106F4A00") (codes "6A82") ∷ t 0 ∷
    t 1 ∷ x 1 (codes "00DC010418426F62FFFFFFFFFFFFFF059151552143FFFFFFFFFFFFFFFF") (codes "9000") ∷ t 0 ∷
    t 1 ∷ p 1 1 1 7 (codes "{\"entries\":[{\"name\":\"Bob\",\"number\":\"+15551234\"}]}") ∷ a 1 1 (answer.Done 7 (Some 1) []) ∷
    [])

abbrev pub fault_at_call_10_lost_script : Script
fault_at_call_10_lost_script = record {
  version = 1;
  cards =
      record { files = (record { path = (0x7F10 ∷ 0x6F3A ∷ []); kind = (Linear 24 ((hex (codes "FFFFFFFFFFFFFFFFFFFFFFFFFFFFFFFFFFFFFFFFFFFFFFFF")) ∷ [])); arr = None; active = true; endless = false; fcp = None } ∷ []); aids = ([]); keys = ([]); channels = 3; get_response = false } ∷ [];
  actors =
      (operation.Insert 0 ∷ operation.Set 1 (Some 1) (codes "Bob") (codes "+15551234") ∷ []) ∷
      [];
  changes = [];
  schedule = [];
  faults = record { at = 10; acted = false } ∷ [];
  budget = None;
}

abbrev pub fault_at_call_10_lost : Report
fault_at_call_10_lost = replayed fault_at_call_10_lost_script (
    t 0 ∷ t 1 ∷ b 1 0 ∷ w 1 (insert 0) ∷ a 1 0 answer.Moved ∷ t 0 ∷ x 0 (codes "8010000003010080") (codes "9000") ∷ t 1 ∷
    t 0 ∷ x 0 (codes "00A4040C07A0000000871002") (codes "6A82") ∷
    t 1 ∷ b 1 1 ∷ x 1 (codes "00A40804047F106F3A00") (codes "62128205422100180183026F3A8A0105800200189000") ∷
    x 1 (codes "00B2010418") (codes "FFFFFFFFFFFFFFFFFFFFFFFFFFFFFFFFFFFFFFFFFFFFFFFF9000") ∷ t 0 ∷
    t 1 ∷ x 1 (codes "00A40804047F106F4A00") (codes "6A82") ∷ t 0 ∷
    t 1 ∷ x 1 (codes "00DC010418426F62FFFFFFFFFFFFFF059151552143FFFFFFFFFFFFFFFF") (codes "9000") ∷ t 0 ∷
    t 1 ∷ p 1 1 1 7 (codes "{\"entries\":[{\"name\":\"Bob\",\"number\":\"+15551234\"}]}") ∷ a 1 1 (answer.Done 7 (Some 1) []) ∷
    [])

abbrev pub fault_at_call_11_acted_script : Script
fault_at_call_11_acted_script = record {
  version = 1;
  cards =
      record { files = (record { path = (0x7F10 ∷ 0x6F3A ∷ []); kind = (Linear 24 ((hex (codes "FFFFFFFFFFFFFFFFFFFFFFFFFFFFFFFFFFFFFFFFFFFFFFFF")) ∷ [])); arr = None; active = true; endless = false; fcp = None } ∷ []); aids = ([]); keys = ([]); channels = 3; get_response = false } ∷ [];
  actors =
      (operation.Insert 0 ∷ operation.Set 1 (Some 1) (codes "Bob") (codes "+15551234") ∷ []) ∷
      [];
  changes = [];
  schedule = [];
  faults = record { at = 11; acted = true } ∷ [];
  budget = None;
}

abbrev pub fault_at_call_11_acted : Report
fault_at_call_11_acted = replayed fault_at_call_11_acted_script (
    t 0 ∷ t 1 ∷ b 1 0 ∷ w 1 (insert 0) ∷ a 1 0 answer.Moved ∷ t 0 ∷ x 0 (codes "8010000003010080") (codes "9000") ∷ t 1 ∷
    t 0 ∷ x 0 (codes "00A4040C07A0000000871002") (codes "6A82") ∷
    t 1 ∷ b 1 1 ∷ x 1 (codes "00A40804047F106F3A00") (codes "62128205422100180183026F3A8A0105800200189000") ∷
    x 1 (codes "00B2010418") (codes "FFFFFFFFFFFFFFFFFFFFFFFFFFFFFFFFFFFFFFFFFFFFFFFF9000") ∷ t 0 ∷
    t 1 ∷ x 1 (codes "00A40804047F106F4A00") (codes "6A82") ∷ t 0 ∷
    t 1 ∷ x 1 (codes "00DC010418426F62FFFFFFFFFFFFFF059151552143FFFFFFFFFFFFFFFF") (codes "9000") ∷ t 0 ∷
    t 1 ∷ p 1 1 1 7 (codes "{\"entries\":[{\"name\":\"Bob\",\"number\":\"+15551234\"}]}") ∷ a 1 1 (answer.Done 7 (Some 1) []) ∷
    [])

abbrev pub fault_at_call_11_lost_script : Script
fault_at_call_11_lost_script = record {
  version = 1;
  cards =
      record { files = (record { path = (0x7F10 ∷ 0x6F3A ∷ []); kind = (Linear 24 ((hex (codes "FFFFFFFFFFFFFFFFFFFFFFFFFFFFFFFFFFFFFFFFFFFFFFFF")) ∷ [])); arr = None; active = true; endless = false; fcp = None } ∷ []); aids = ([]); keys = ([]); channels = 3; get_response = false } ∷ [];
  actors =
      (operation.Insert 0 ∷ operation.Set 1 (Some 1) (codes "Bob") (codes "+15551234") ∷ []) ∷
      [];
  changes = [];
  schedule = [];
  faults = record { at = 11; acted = false } ∷ [];
  budget = None;
}

abbrev pub fault_at_call_11_lost : Report
fault_at_call_11_lost = replayed fault_at_call_11_lost_script (
    t 0 ∷ t 1 ∷ b 1 0 ∷ w 1 (insert 0) ∷ a 1 0 answer.Moved ∷ t 0 ∷ x 0 (codes "8010000003010080") (codes "9000") ∷ t 1 ∷
    t 0 ∷ x 0 (codes "00A4040C07A0000000871002") (codes "6A82") ∷
    t 1 ∷ b 1 1 ∷ x 1 (codes "00A40804047F106F3A00") (codes "62128205422100180183026F3A8A0105800200189000") ∷
    x 1 (codes "00B2010418") (codes "FFFFFFFFFFFFFFFFFFFFFFFFFFFFFFFFFFFFFFFFFFFFFFFF9000") ∷ t 0 ∷
    t 1 ∷ x 1 (codes "00A40804047F106F4A00") (codes "6A82") ∷ t 0 ∷
    t 1 ∷ x 1 (codes "00DC010418426F62FFFFFFFFFFFFFF059151552143FFFFFFFFFFFFFFFF") (codes "9000") ∷ t 0 ∷
    t 1 ∷ p 1 1 1 7 (codes "{\"entries\":[{\"name\":\"Bob\",\"number\":\"+15551234\"}]}") ∷ a 1 1 (answer.Done 7 (Some 1) []) ∷
    [])

abbrev pub fault_at_call_12_acted_script : Script
fault_at_call_12_acted_script = record {
  version = 1;
  cards =
      record { files = (record { path = (0x7F10 ∷ 0x6F3A ∷ []); kind = (Linear 24 ((hex (codes "FFFFFFFFFFFFFFFFFFFFFFFFFFFFFFFFFFFFFFFFFFFFFFFF")) ∷ [])); arr = None; active = true; endless = false; fcp = None } ∷ []); aids = ([]); keys = ([]); channels = 3; get_response = false } ∷ [];
  actors =
      (operation.Insert 0 ∷ operation.Set 1 (Some 1) (codes "Bob") (codes "+15551234") ∷ []) ∷
      [];
  changes = [];
  schedule = [];
  faults = record { at = 12; acted = true } ∷ [];
  budget = None;
}

abbrev pub fault_at_call_12_acted : Report
fault_at_call_12_acted = replayed fault_at_call_12_acted_script (
    t 0 ∷ t 1 ∷ b 1 0 ∷ w 1 (insert 0) ∷ a 1 0 answer.Moved ∷ t 0 ∷ x 0 (codes "8010000003010080") (codes "9000") ∷ t 1 ∷
    t 0 ∷ x 0 (codes "00A4040C07A0000000871002") (codes "6A82") ∷
    t 1 ∷ b 1 1 ∷ x 1 (codes "00A40804047F106F3A00") (codes "62128205422100180183026F3A8A0105800200189000") ∷
    x 1 (codes "00B2010418") (codes "FFFFFFFFFFFFFFFFFFFFFFFFFFFFFFFFFFFFFFFFFFFFFFFF9000") ∷ t 0 ∷
    t 1 ∷ x 1 (codes "00A40804047F106F4A00") (codes "6A82") ∷ t 0 ∷
    t 1 ∷ x 1 (codes "00DC010418426F62FFFFFFFFFFFFFF059151552143FFFFFFFFFFFFFFFF") (codes "9000") ∷ t 0 ∷
    t 1 ∷ p 1 1 1 7 (codes "{\"entries\":[{\"name\":\"Bob\",\"number\":\"+15551234\"}]}") ∷ a 1 1 (answer.Done 7 (Some 1) []) ∷
    [])

abbrev pub fault_at_call_12_lost_script : Script
fault_at_call_12_lost_script = record {
  version = 1;
  cards =
      record { files = (record { path = (0x7F10 ∷ 0x6F3A ∷ []); kind = (Linear 24 ((hex (codes "FFFFFFFFFFFFFFFFFFFFFFFFFFFFFFFFFFFFFFFFFFFFFFFF")) ∷ [])); arr = None; active = true; endless = false; fcp = None } ∷ []); aids = ([]); keys = ([]); channels = 3; get_response = false } ∷ [];
  actors =
      (operation.Insert 0 ∷ operation.Set 1 (Some 1) (codes "Bob") (codes "+15551234") ∷ []) ∷
      [];
  changes = [];
  schedule = [];
  faults = record { at = 12; acted = false } ∷ [];
  budget = None;
}

abbrev pub fault_at_call_12_lost : Report
fault_at_call_12_lost = replayed fault_at_call_12_lost_script (
    t 0 ∷ t 1 ∷ b 1 0 ∷ w 1 (insert 0) ∷ a 1 0 answer.Moved ∷ t 0 ∷ x 0 (codes "8010000003010080") (codes "9000") ∷ t 1 ∷
    t 0 ∷ x 0 (codes "00A4040C07A0000000871002") (codes "6A82") ∷
    t 1 ∷ b 1 1 ∷ x 1 (codes "00A40804047F106F3A00") (codes "62128205422100180183026F3A8A0105800200189000") ∷
    x 1 (codes "00B2010418") (codes "FFFFFFFFFFFFFFFFFFFFFFFFFFFFFFFFFFFFFFFFFFFFFFFF9000") ∷ t 0 ∷
    t 1 ∷ x 1 (codes "00A40804047F106F4A00") (codes "6A82") ∷ t 0 ∷
    t 1 ∷ x 1 (codes "00DC010418426F62FFFFFFFFFFFFFF059151552143FFFFFFFFFFFFFFFF") (codes "9000") ∷ t 0 ∷
    t 1 ∷ p 1 1 1 7 (codes "{\"entries\":[{\"name\":\"Bob\",\"number\":\"+15551234\"}]}") ∷ a 1 1 (answer.Done 7 (Some 1) []) ∷
    [])
