-- Reports of running systems: turns that leave no line have no mark, and a look may show an earlier board.
use Rattle.std.specs.Prelude.{[], ◌∷◌, Some, None, true, false, codes}
use Rattle.script_reader.specs.declared.types.Script.{Script}
use Rattle.script_reader.specs.declared.types.KindSpec.TheVariants.{Transparent, Linear}
use Rattle.script_reader.specs.declared.types.Operation.TheVariants as operation
use Rattle.report.specs.declared.answer.Answer.TheVariants as answer
use Rattle.report.specs.declared.lines.Report.{Report}
use Rattle.rules.specs.WorkedWords.{hex, insert, t, b, x, w, p, a, taken}

abbrev pub absent_in_run_script : Script
absent_in_run_script = record {
  version = 1;
  cards =
      record { files = (record { path = (0x2FE2 ∷ []); kind = (Transparent (hex (codes "98101430121181157002"))); arr = None; active = true; endless = false; fcp = None } ∷ []); aids = ([]); keys = ([]); channels = 3; get_response = false } ∷ [];
  actors =
      (operation.Load 0 ∷ []) ∷
      [];
  changes = [];
  schedule = [];
  faults = [];
  budget = None;
}

abbrev pub absent_in_run : Report
absent_in_run = taken absent_in_run_script (
    t 1 ∷ b 1 0 ∷ a 1 0 answer.Absent ∷
    [])

abbrev pub edit_in_run_script : Script
edit_in_run_script = record {
  version = 1;
  cards =
      record { files = (record { path = (0x7F10 ∷ 0x6F3A ∷ []); kind = (Linear 24 ((hex (codes "FFFFFFFFFFFFFFFFFFFFFFFFFFFFFFFFFFFFFFFFFFFFFFFF")) ∷ [])); arr = None; active = true; endless = false; fcp = None } ∷ record { path = (0x7F10 ∷ 0x6F4A ∷ []); kind = (Linear 13 ((hex (codes "FFFFFFFFFFFFFFFFFFFFFFFFFF")) ∷ [])); arr = None; active = true; endless = false; fcp = None } ∷ []); aids = ([]); keys = ([]); channels = 3; get_response = false } ∷ [];
  actors =
      (operation.Insert 0 ∷ operation.Set 1 (Some 1) (codes "Ann") (codes "1234567890123456789012") ∷ []) ∷
      (operation.Look ∷ operation.Load 1 ∷ operation.Look ∷ []) ∷
      [];
  changes = [];
  schedule = 1 ∷ 0 ∷ 0 ∷ 2 ∷ 1 ∷ 1 ∷ 1 ∷ 1 ∷ 1 ∷ 1 ∷ 1 ∷ 1 ∷ [];
  faults = [];
  budget = None;
}

abbrev pub edit_in_run : Report
edit_in_run = taken edit_in_run_script (
    t 1 ∷ b 1 0 ∷ w 1 (insert 0) ∷ a 1 0 answer.Moved ∷ t 0 ∷ x 0 (codes "8010000003010080") (codes "9000") ∷
    t 0 ∷ x 0 (codes "00A4040C07A0000000871002") (codes "6A82") ∷
    t 2 ∷ b 2 0 ∷ a 2 0 (answer.Look (record { count = 0; shown = (None ∷ None ∷ None ∷ []) })) ∷
    t 1 ∷ b 1 1 ∷ x 1 (codes "00A40804047F106F3A00") (codes "62128205422100180183026F3A8A0105800200189000") ∷
    x 1 (codes "00B2010418") (codes "FFFFFFFFFFFFFFFFFFFFFFFFFFFFFFFFFFFFFFFFFFFFFFFF9000") ∷
    t 1 ∷ x 1 (codes "00A40804047F106F4A00") (codes "621282054221000D0183026F4A8A01058002000D9000") ∷
    x 1 (codes "00B201040D") (codes "FFFFFFFFFFFFFFFFFFFFFFFFFF9000") ∷
    t 1 ∷ x 1 (codes "00DC01040D020121FFFFFFFFFFFFFFFFFFFF") (codes "9000") ∷
    t 1 ∷ x 1 (codes "00A4080C047F106F3A") (codes "9000") ∷
    x 1 (codes "00DC010418416E6EFFFFFFFFFFFFFF0B8121436587092143658709FF01") (codes "9000") ∷
    t 1 ∷ p 1 1 1 10 (codes "{\"entries\":[{\"name\":\"Ann\",\"number\":\"1234567890123456789012\"}]}") ∷
    a 1 1 (answer.Done 10 (Some 1) []) ∷
    t 2 ∷ b 2 1 ∷ p 2 1 1 10 (codes "{\"entries\":[{\"name\":\"Ann\",\"number\":\"1234567890123456789012\"}]}") ∷ a 2 1 (answer.Loaded 2) ∷
    t 2 ∷ b 2 2 ∷ a 2 2 (answer.Look (record { count = 2; shown = (None ∷ (Some 2) ∷ None ∷ []) })) ∷
    [])

abbrev pub late_look_in_run_script : Script
late_look_in_run_script = record {
  version = 1;
  cards =
      record { files = (record { path = (0x7F10 ∷ 0x6F3A ∷ []); kind = (Linear 24 ((hex (codes "FFFFFFFFFFFFFFFFFFFFFFFFFFFFFFFFFFFFFFFFFFFFFFFF")) ∷ [])); arr = None; active = true; endless = false; fcp = None } ∷ record { path = (0x7F10 ∷ 0x6F4A ∷ []); kind = (Linear 13 ((hex (codes "FFFFFFFFFFFFFFFFFFFFFFFFFF")) ∷ [])); arr = None; active = true; endless = false; fcp = None } ∷ []); aids = ([]); keys = ([]); channels = 3; get_response = false } ∷ [];
  actors =
      (operation.Insert 0 ∷ operation.Set 1 (Some 1) (codes "Ann") (codes "1234567890123456789012") ∷ []) ∷
      (operation.Look ∷ operation.Load 1 ∷ operation.Look ∷ []) ∷
      [];
  changes = [];
  schedule = 1 ∷ 0 ∷ 0 ∷ 2 ∷ 1 ∷ 1 ∷ 1 ∷ 1 ∷ 1 ∷ 1 ∷ 1 ∷ 1 ∷ [];
  faults = [];
  budget = None;
}

abbrev pub late_look_in_run : Report
late_look_in_run = taken late_look_in_run_script (
    t 1 ∷ b 1 0 ∷ w 1 (insert 0) ∷ a 1 0 answer.Moved ∷ t 0 ∷ x 0 (codes "8010000003010080") (codes "9000") ∷
    t 0 ∷ x 0 (codes "00A4040C07A0000000871002") (codes "6A82") ∷
    t 1 ∷ b 1 1 ∷ x 1 (codes "00A40804047F106F3A00") (codes "62128205422100180183026F3A8A0105800200189000") ∷
    x 1 (codes "00B2010418") (codes "FFFFFFFFFFFFFFFFFFFFFFFFFFFFFFFFFFFFFFFFFFFFFFFF9000") ∷
    t 1 ∷ x 1 (codes "00A40804047F106F4A00") (codes "621282054221000D0183026F4A8A01058002000D9000") ∷
    x 1 (codes "00B201040D") (codes "FFFFFFFFFFFFFFFFFFFFFFFFFF9000") ∷
    t 1 ∷ x 1 (codes "00DC01040D020121FFFFFFFFFFFFFFFFFFFF") (codes "9000") ∷
    t 1 ∷ x 1 (codes "00A4080C047F106F3A") (codes "9000") ∷
    x 1 (codes "00DC010418416E6EFFFFFFFFFFFFFF0B8121436587092143658709FF01") (codes "9000") ∷
    t 1 ∷ p 1 1 1 10 (codes "{\"entries\":[{\"name\":\"Ann\",\"number\":\"1234567890123456789012\"}]}") ∷
    a 1 1 (answer.Done 10 (Some 1) []) ∷ t 2 ∷ b 2 0 ∷ a 2 0 (answer.Look (record { count = 0; shown = (None ∷ None ∷ None ∷ []) })) ∷
    t 2 ∷ b 2 1 ∷ p 2 1 1 10 (codes "{\"entries\":[{\"name\":\"Ann\",\"number\":\"1234567890123456789012\"}]}") ∷ a 2 1 (answer.Loaded 2) ∷
    t 2 ∷ b 2 2 ∷ a 2 2 (answer.Look (record { count = 2; shown = (None ∷ (Some 2) ∷ None ∷ []) })) ∷
    [])

abbrev pub idle_mark_in_run_script : Script
idle_mark_in_run_script = record {
  version = 1;
  cards =
      record { files = (record { path = (0x2FE2 ∷ []); kind = (Transparent (hex (codes "98101430121181157002"))); arr = None; active = true; endless = false; fcp = None } ∷ []); aids = ([]); keys = ([]); channels = 3; get_response = false } ∷ [];
  actors =
      (operation.Load 0 ∷ []) ∷
      [];
  changes = [];
  schedule = [];
  faults = [];
  budget = None;
}

abbrev pub idle_mark_in_run : Report
idle_mark_in_run = taken idle_mark_in_run_script (
    t 0 ∷ t 1 ∷ b 1 0 ∷ a 1 0 answer.Absent ∷
    [])

abbrev pub falling_look_in_run_script : Script
falling_look_in_run_script = record {
  version = 1;
  cards =
      record { files = (record { path = (0x7F10 ∷ 0x6F3A ∷ []); kind = (Linear 24 ((hex (codes "FFFFFFFFFFFFFFFFFFFFFFFFFFFFFFFFFFFFFFFFFFFFFFFF")) ∷ [])); arr = None; active = true; endless = false; fcp = None } ∷ record { path = (0x7F10 ∷ 0x6F4A ∷ []); kind = (Linear 13 ((hex (codes "FFFFFFFFFFFFFFFFFFFFFFFFFF")) ∷ [])); arr = None; active = true; endless = false; fcp = None } ∷ []); aids = ([]); keys = ([]); channels = 3; get_response = false } ∷ [];
  actors =
      (operation.Insert 0 ∷ operation.Set 1 (Some 1) (codes "Ann") (codes "1234567890123456789012") ∷ []) ∷
      (operation.Look ∷ operation.Load 1 ∷ operation.Look ∷ []) ∷
      [];
  changes = [];
  schedule = 1 ∷ 0 ∷ 0 ∷ 2 ∷ 1 ∷ 1 ∷ 1 ∷ 1 ∷ 1 ∷ 1 ∷ 1 ∷ 1 ∷ [];
  faults = [];
  budget = None;
}

abbrev pub falling_look_in_run : Report
falling_look_in_run = taken falling_look_in_run_script (
    t 1 ∷ b 1 0 ∷ w 1 (insert 0) ∷ a 1 0 answer.Moved ∷ t 0 ∷ x 0 (codes "8010000003010080") (codes "9000") ∷
    t 0 ∷ x 0 (codes "00A4040C07A0000000871002") (codes "6A82") ∷
    t 2 ∷ b 2 0 ∷ a 2 0 (answer.Look (record { count = 0; shown = (None ∷ None ∷ None ∷ []) })) ∷
    t 1 ∷ b 1 1 ∷ x 1 (codes "00A40804047F106F3A00") (codes "62128205422100180183026F3A8A0105800200189000") ∷
    x 1 (codes "00B2010418") (codes "FFFFFFFFFFFFFFFFFFFFFFFFFFFFFFFFFFFFFFFFFFFFFFFF9000") ∷
    t 1 ∷ x 1 (codes "00A40804047F106F4A00") (codes "621282054221000D0183026F4A8A01058002000D9000") ∷
    x 1 (codes "00B201040D") (codes "FFFFFFFFFFFFFFFFFFFFFFFFFF9000") ∷
    t 1 ∷ x 1 (codes "00DC01040D020121FFFFFFFFFFFFFFFFFFFF") (codes "9000") ∷
    t 1 ∷ x 1 (codes "00A4080C047F106F3A") (codes "9000") ∷
    x 1 (codes "00DC010418416E6EFFFFFFFFFFFFFF0B8121436587092143658709FF01") (codes "9000") ∷
    t 1 ∷ p 1 1 1 10 (codes "{\"entries\":[{\"name\":\"Ann\",\"number\":\"1234567890123456789012\"}]}") ∷
    a 1 1 (answer.Done 10 (Some 1) []) ∷
    t 2 ∷ b 2 1 ∷ p 2 1 1 10 (codes "{\"entries\":[{\"name\":\"Ann\",\"number\":\"1234567890123456789012\"}]}") ∷ a 2 1 (answer.Loaded 2) ∷
    t 2 ∷ b 2 2 ∷ a 2 2 (answer.Look (record { count = 1; shown = (None ∷ (Some 1) ∷ None ∷ []) })) ∷
    [])
