-- Worked reports of watches, line by line as their text has them.
use Rattle.std.specs.Prelude.{[], ◌∷◌, None, true, false, codes}
use Rattle.script_reader.specs.declared.types.Script.{Script}
use Rattle.script_reader.specs.declared.types.KindSpec.TheVariants.{Linear}
use Rattle.script_reader.specs.declared.types.Operation.TheVariants as operation
use Rattle.report.specs.declared.answer.Answer.TheVariants as answer
use Rattle.report.specs.declared.lines.Report.{Report}
use Rattle.rules.specs.WorkedWords.{hex, insert, t, b, x, w, p, a, replayed}

abbrev pub notices_script : Script
notices_script = record {
  version = 1;
  cards =
      record { files = (record { path = (0x7F10 ∷ 0x6F3A ∷ []); kind = (Linear 24 ((hex (codes "FFFFFFFFFFFFFFFFFFFFFFFFFFFFFFFFFFFFFFFFFFFFFFFF")) ∷ [])); arr = None; active = true; endless = false; fcp = None } ∷ []); aids = ([]); keys = ([]); channels = 3; get_response = false } ∷ [];
  actors =
      (operation.Insert 0 ∷ operation.Watch 2 ∷ operation.Load 1 ∷ operation.Load 1 ∷ operation.Load 1 ∷ operation.Load 1 ∷
      operation.Load 1 ∷ operation.Load 1 ∷ operation.Load 1 ∷ operation.Load 1 ∷ operation.Load 1 ∷ operation.Load 1 ∷
      operation.Load 1 ∷ operation.Load 1 ∷ operation.Load 1 ∷ operation.Load 1 ∷ operation.Load 1 ∷ operation.Load 1 ∷
      operation.Load 1 ∷ operation.Load 1 ∷ operation.Load 1 ∷ operation.Load 1 ∷ operation.Load 1 ∷ operation.Load 1 ∷
      operation.Load 1 ∷ operation.Load 1 ∷ operation.Load 1 ∷ operation.Load 1 ∷ operation.Load 1 ∷ operation.Load 1 ∷
      operation.Load 1 ∷ operation.Load 1 ∷ operation.Load 1 ∷ operation.Load 1 ∷ operation.Load 1 ∷ operation.Load 1 ∷
      operation.Load 1 ∷ operation.Load 1 ∷ operation.Load 1 ∷ operation.Load 1 ∷ operation.Load 1 ∷ operation.Load 1 ∷
      operation.Load 1 ∷ operation.Load 1 ∷ operation.Load 1 ∷ operation.Load 1 ∷ operation.Load 1 ∷ operation.Load 1 ∷
      operation.Load 1 ∷ operation.Load 1 ∷ operation.Load 1 ∷ operation.Load 1 ∷ operation.Load 1 ∷ operation.Load 1 ∷
      operation.Load 1 ∷ operation.Load 1 ∷ operation.Load 1 ∷ operation.Load 1 ∷ operation.Load 1 ∷ operation.Load 1 ∷
      operation.Load 1 ∷ operation.Load 1 ∷ operation.Load 1 ∷ operation.Load 1 ∷ operation.Load 1 ∷ operation.Load 1 ∷
      operation.Load 1 ∷ operation.Load 1 ∷ operation.Load 1 ∷ operation.Load 1 ∷ operation.Load 1 ∷ operation.Load 1 ∷
      operation.Notices ∷ []) ∷
      [];
  changes = [];
  schedule = [];
  faults = [];
  budget = None;
}

abbrev pub notices : Report
notices = replayed notices_script (
    t 0 ∷ t 1 ∷ b 1 0 ∷ w 1 (insert 0) ∷ a 1 0 answer.Moved ∷ t 0 ∷ x 0 (codes "8010000003010080") (codes "9000") ∷
    t 1 ∷ b 1 1 ∷ a 1 1 answer.Watching ∷ t 0 ∷ x 0 (codes "00A4040C07A0000000871002") (codes "6A82") ∷
    t 1 ∷ b 1 2 ∷ x 1 (codes "00A40804047F106F3A00") (codes "62128205422100180183026F3A8A0105800200189000") ∷
    x 1 (codes "00B2010418") (codes "FFFFFFFFFFFFFFFFFFFFFFFFFFFFFFFFFFFFFFFFFFFFFFFF9000") ∷ t 0 ∷
    t 1 ∷ x 1 (codes "00A40804047F106F4A00") (codes "6A82") ∷ p 1 1 1 6 (codes "{\"entries\":[null]}") ∷ a 1 2 (answer.Loaded 1) ∷ t 0 ∷
    t 1 ∷ b 1 3 ∷ p 2 1 1 6 (codes "{\"entries\":[null]}") ∷ a 1 3 (answer.Loaded 2) ∷ t 0 ∷
    t 1 ∷ b 1 4 ∷ p 3 1 1 6 (codes "{\"entries\":[null]}") ∷ a 1 4 (answer.Loaded 3) ∷ t 0 ∷
    t 1 ∷ b 1 5 ∷ p 4 1 1 6 (codes "{\"entries\":[null]}") ∷ a 1 5 (answer.Loaded 4) ∷ t 0 ∷
    t 1 ∷ b 1 6 ∷ p 5 1 1 6 (codes "{\"entries\":[null]}") ∷ a 1 6 (answer.Loaded 5) ∷ t 0 ∷
    t 1 ∷ b 1 7 ∷ p 6 1 1 6 (codes "{\"entries\":[null]}") ∷ a 1 7 (answer.Loaded 6) ∷ t 0 ∷
    t 1 ∷ b 1 8 ∷ p 7 1 1 6 (codes "{\"entries\":[null]}") ∷ a 1 8 (answer.Loaded 7) ∷ t 0 ∷
    t 1 ∷ b 1 9 ∷ p 8 1 1 6 (codes "{\"entries\":[null]}") ∷ a 1 9 (answer.Loaded 8) ∷ t 0 ∷
    t 1 ∷ b 1 10 ∷ p 9 1 1 6 (codes "{\"entries\":[null]}") ∷ a 1 10 (answer.Loaded 9) ∷ t 0 ∷
    t 1 ∷ b 1 11 ∷ p 10 1 1 6 (codes "{\"entries\":[null]}") ∷ a 1 11 (answer.Loaded 10) ∷ t 0 ∷
    t 1 ∷ b 1 12 ∷ p 11 1 1 6 (codes "{\"entries\":[null]}") ∷ a 1 12 (answer.Loaded 11) ∷ t 0 ∷
    t 1 ∷ b 1 13 ∷ p 12 1 1 6 (codes "{\"entries\":[null]}") ∷ a 1 13 (answer.Loaded 12) ∷ t 0 ∷
    t 1 ∷ b 1 14 ∷ p 13 1 1 6 (codes "{\"entries\":[null]}") ∷ a 1 14 (answer.Loaded 13) ∷ t 0 ∷
    t 1 ∷ b 1 15 ∷ p 14 1 1 6 (codes "{\"entries\":[null]}") ∷ a 1 15 (answer.Loaded 14) ∷ t 0 ∷
    t 1 ∷ b 1 16 ∷ p 15 1 1 6 (codes "{\"entries\":[null]}") ∷ a 1 16 (answer.Loaded 15) ∷ t 0 ∷
    t 1 ∷ b 1 17 ∷ p 16 1 1 6 (codes "{\"entries\":[null]}") ∷ a 1 17 (answer.Loaded 16) ∷ t 0 ∷
    t 1 ∷ b 1 18 ∷ p 17 1 1 6 (codes "{\"entries\":[null]}") ∷ a 1 18 (answer.Loaded 17) ∷ t 0 ∷
    t 1 ∷ b 1 19 ∷ p 18 1 1 6 (codes "{\"entries\":[null]}") ∷ a 1 19 (answer.Loaded 18) ∷ t 0 ∷
    t 1 ∷ b 1 20 ∷ p 19 1 1 6 (codes "{\"entries\":[null]}") ∷ a 1 20 (answer.Loaded 19) ∷ t 0 ∷
    t 1 ∷ b 1 21 ∷ p 20 1 1 6 (codes "{\"entries\":[null]}") ∷ a 1 21 (answer.Loaded 20) ∷ t 0 ∷
    t 1 ∷ b 1 22 ∷ p 21 1 1 6 (codes "{\"entries\":[null]}") ∷ a 1 22 (answer.Loaded 21) ∷ t 0 ∷
    t 1 ∷ b 1 23 ∷ p 22 1 1 6 (codes "{\"entries\":[null]}") ∷ a 1 23 (answer.Loaded 22) ∷ t 0 ∷
    t 1 ∷ b 1 24 ∷ p 23 1 1 6 (codes "{\"entries\":[null]}") ∷ a 1 24 (answer.Loaded 23) ∷ t 0 ∷
    t 1 ∷ b 1 25 ∷ p 24 1 1 6 (codes "{\"entries\":[null]}") ∷ a 1 25 (answer.Loaded 24) ∷ t 0 ∷
    t 1 ∷ b 1 26 ∷ p 25 1 1 6 (codes "{\"entries\":[null]}") ∷ a 1 26 (answer.Loaded 25) ∷ t 0 ∷
    t 1 ∷ b 1 27 ∷ p 26 1 1 6 (codes "{\"entries\":[null]}") ∷ a 1 27 (answer.Loaded 26) ∷ t 0 ∷
    t 1 ∷ b 1 28 ∷ p 27 1 1 6 (codes "{\"entries\":[null]}") ∷ a 1 28 (answer.Loaded 27) ∷ t 0 ∷
    t 1 ∷ b 1 29 ∷ p 28 1 1 6 (codes "{\"entries\":[null]}") ∷ a 1 29 (answer.Loaded 28) ∷ t 0 ∷
    t 1 ∷ b 1 30 ∷ p 29 1 1 6 (codes "{\"entries\":[null]}") ∷ a 1 30 (answer.Loaded 29) ∷ t 0 ∷
    t 1 ∷ b 1 31 ∷ p 30 1 1 6 (codes "{\"entries\":[null]}") ∷ a 1 31 (answer.Loaded 30) ∷ t 0 ∷
    t 1 ∷ b 1 32 ∷ p 31 1 1 6 (codes "{\"entries\":[null]}") ∷ a 1 32 (answer.Loaded 31) ∷ t 0 ∷
    t 1 ∷ b 1 33 ∷ p 32 1 1 6 (codes "{\"entries\":[null]}") ∷ a 1 33 (answer.Loaded 32) ∷ t 0 ∷
    t 1 ∷ b 1 34 ∷ p 33 1 1 6 (codes "{\"entries\":[null]}") ∷ a 1 34 (answer.Loaded 33) ∷ t 0 ∷
    t 1 ∷ b 1 35 ∷ p 34 1 1 6 (codes "{\"entries\":[null]}") ∷ a 1 35 (answer.Loaded 34) ∷ t 0 ∷
    t 1 ∷ b 1 36 ∷ p 35 1 1 6 (codes "{\"entries\":[null]}") ∷ a 1 36 (answer.Loaded 35) ∷ t 0 ∷
    t 1 ∷ b 1 37 ∷ p 36 1 1 6 (codes "{\"entries\":[null]}") ∷ a 1 37 (answer.Loaded 36) ∷ t 0 ∷
    t 1 ∷ b 1 38 ∷ p 37 1 1 6 (codes "{\"entries\":[null]}") ∷ a 1 38 (answer.Loaded 37) ∷ t 0 ∷
    t 1 ∷ b 1 39 ∷ p 38 1 1 6 (codes "{\"entries\":[null]}") ∷ a 1 39 (answer.Loaded 38) ∷ t 0 ∷
    t 1 ∷ b 1 40 ∷ p 39 1 1 6 (codes "{\"entries\":[null]}") ∷ a 1 40 (answer.Loaded 39) ∷ t 0 ∷
    t 1 ∷ b 1 41 ∷ p 40 1 1 6 (codes "{\"entries\":[null]}") ∷ a 1 41 (answer.Loaded 40) ∷ t 0 ∷
    t 1 ∷ b 1 42 ∷ p 41 1 1 6 (codes "{\"entries\":[null]}") ∷ a 1 42 (answer.Loaded 41) ∷ t 0 ∷
    t 1 ∷ b 1 43 ∷ p 42 1 1 6 (codes "{\"entries\":[null]}") ∷ a 1 43 (answer.Loaded 42) ∷ t 0 ∷
    t 1 ∷ b 1 44 ∷ p 43 1 1 6 (codes "{\"entries\":[null]}") ∷ a 1 44 (answer.Loaded 43) ∷ t 0 ∷
    t 1 ∷ b 1 45 ∷ p 44 1 1 6 (codes "{\"entries\":[null]}") ∷ a 1 45 (answer.Loaded 44) ∷ t 0 ∷
    t 1 ∷ b 1 46 ∷ p 45 1 1 6 (codes "{\"entries\":[null]}") ∷ a 1 46 (answer.Loaded 45) ∷ t 0 ∷
    t 1 ∷ b 1 47 ∷ p 46 1 1 6 (codes "{\"entries\":[null]}") ∷ a 1 47 (answer.Loaded 46) ∷ t 0 ∷
    t 1 ∷ b 1 48 ∷ p 47 1 1 6 (codes "{\"entries\":[null]}") ∷ a 1 48 (answer.Loaded 47) ∷ t 0 ∷
    t 1 ∷ b 1 49 ∷ p 48 1 1 6 (codes "{\"entries\":[null]}") ∷ a 1 49 (answer.Loaded 48) ∷ t 0 ∷
    t 1 ∷ b 1 50 ∷ p 49 1 1 6 (codes "{\"entries\":[null]}") ∷ a 1 50 (answer.Loaded 49) ∷ t 0 ∷
    t 1 ∷ b 1 51 ∷ p 50 1 1 6 (codes "{\"entries\":[null]}") ∷ a 1 51 (answer.Loaded 50) ∷ t 0 ∷
    t 1 ∷ b 1 52 ∷ p 51 1 1 6 (codes "{\"entries\":[null]}") ∷ a 1 52 (answer.Loaded 51) ∷ t 0 ∷
    t 1 ∷ b 1 53 ∷ p 52 1 1 6 (codes "{\"entries\":[null]}") ∷ a 1 53 (answer.Loaded 52) ∷ t 0 ∷
    t 1 ∷ b 1 54 ∷ p 53 1 1 6 (codes "{\"entries\":[null]}") ∷ a 1 54 (answer.Loaded 53) ∷ t 0 ∷
    t 1 ∷ b 1 55 ∷ p 54 1 1 6 (codes "{\"entries\":[null]}") ∷ a 1 55 (answer.Loaded 54) ∷ t 0 ∷
    t 1 ∷ b 1 56 ∷ p 55 1 1 6 (codes "{\"entries\":[null]}") ∷ a 1 56 (answer.Loaded 55) ∷ t 0 ∷
    t 1 ∷ b 1 57 ∷ p 56 1 1 6 (codes "{\"entries\":[null]}") ∷ a 1 57 (answer.Loaded 56) ∷ t 0 ∷
    t 1 ∷ b 1 58 ∷ p 57 1 1 6 (codes "{\"entries\":[null]}") ∷ a 1 58 (answer.Loaded 57) ∷ t 0 ∷
    t 1 ∷ b 1 59 ∷ p 58 1 1 6 (codes "{\"entries\":[null]}") ∷ a 1 59 (answer.Loaded 58) ∷ t 0 ∷
    t 1 ∷ b 1 60 ∷ p 59 1 1 6 (codes "{\"entries\":[null]}") ∷ a 1 60 (answer.Loaded 59) ∷ t 0 ∷
    t 1 ∷ b 1 61 ∷ p 60 1 1 6 (codes "{\"entries\":[null]}") ∷ a 1 61 (answer.Loaded 60) ∷ t 0 ∷
    t 1 ∷ b 1 62 ∷ p 61 1 1 6 (codes "{\"entries\":[null]}") ∷ a 1 62 (answer.Loaded 61) ∷ t 0 ∷
    t 1 ∷ b 1 63 ∷ p 62 1 1 6 (codes "{\"entries\":[null]}") ∷ a 1 63 (answer.Loaded 62) ∷ t 0 ∷
    t 1 ∷ b 1 64 ∷ p 63 1 1 6 (codes "{\"entries\":[null]}") ∷ a 1 64 (answer.Loaded 63) ∷ t 0 ∷
    t 1 ∷ b 1 65 ∷ p 64 1 1 6 (codes "{\"entries\":[null]}") ∷ a 1 65 (answer.Loaded 64) ∷ t 0 ∷
    t 1 ∷ b 1 66 ∷ p 65 1 1 6 (codes "{\"entries\":[null]}") ∷ a 1 66 (answer.Loaded 65) ∷ t 0 ∷
    t 1 ∷ b 1 67 ∷ p 66 1 1 6 (codes "{\"entries\":[null]}") ∷ a 1 67 (answer.Loaded 66) ∷ t 0 ∷
    t 1 ∷ b 1 68 ∷ p 67 1 1 6 (codes "{\"entries\":[null]}") ∷ a 1 68 (answer.Loaded 67) ∷ t 0 ∷
    t 1 ∷ b 1 69 ∷ p 68 1 1 6 (codes "{\"entries\":[null]}") ∷ a 1 69 (answer.Loaded 68) ∷ t 0 ∷
    t 1 ∷ b 1 70 ∷ p 69 1 1 6 (codes "{\"entries\":[null]}") ∷ a 1 70 (answer.Loaded 69) ∷ t 0 ∷
    t 1 ∷ b 1 71 ∷ p 70 1 1 6 (codes "{\"entries\":[null]}") ∷ a 1 71 (answer.Loaded 70) ∷ t 0 ∷
    t 1 ∷ b 1 72 ∷
    a 1 72 (answer.Notices 6 (record { items = (7 ∷ 8 ∷ 9 ∷ 10 ∷ 11 ∷ 12 ∷ 13 ∷ 14 ∷ 15 ∷ 16 ∷ 17 ∷ 18 ∷ 19 ∷ 20 ∷ 21 ∷ 22 ∷ 23 ∷ 24 ∷ 25 ∷ 26 ∷ 27 ∷ 28 ∷ 29 ∷ 30 ∷ 31 ∷ 32 ∷ 33 ∷ 34 ∷ 35 ∷ 36 ∷ 37 ∷ 38 ∷ 39 ∷ 40 ∷ 41 ∷ 42 ∷ 43 ∷ 44 ∷ 45 ∷ 46 ∷ 47 ∷ 48 ∷ 49 ∷ 50 ∷ 51 ∷ 52 ∷ 53 ∷ 54 ∷ 55 ∷ 56 ∷ 57 ∷ 58 ∷ 59 ∷ 60 ∷ 61 ∷ 62 ∷ 63 ∷ 64 ∷ 65 ∷ 66 ∷ 67 ∷ 68 ∷ 69 ∷ 70 ∷ []) })) ∷
    [])

abbrev pub notices_of_nothing_script : Script
notices_of_nothing_script = record {
  version = 1;
  cards =
      record { files = (record { path = (0x7F10 ∷ 0x6F3A ∷ []); kind = (Linear 24 ((hex (codes "FFFFFFFFFFFFFFFFFFFFFFFFFFFFFFFFFFFFFFFFFFFFFFFF")) ∷ [])); arr = None; active = true; endless = false; fcp = None } ∷ []); aids = ([]); keys = ([]); channels = 3; get_response = false } ∷ [];
  actors =
      (operation.Insert 0 ∷ operation.Watch 0 ∷ operation.Load 1 ∷ operation.Load 1 ∷ operation.Load 1 ∷ operation.Load 1 ∷
      operation.Load 1 ∷ operation.Load 1 ∷ operation.Load 1 ∷ operation.Load 1 ∷ operation.Load 1 ∷ operation.Load 1 ∷
      operation.Load 1 ∷ operation.Load 1 ∷ operation.Load 1 ∷ operation.Load 1 ∷ operation.Load 1 ∷ operation.Load 1 ∷
      operation.Load 1 ∷ operation.Load 1 ∷ operation.Load 1 ∷ operation.Load 1 ∷ operation.Load 1 ∷ operation.Load 1 ∷
      operation.Load 1 ∷ operation.Load 1 ∷ operation.Load 1 ∷ operation.Load 1 ∷ operation.Load 1 ∷ operation.Load 1 ∷
      operation.Load 1 ∷ operation.Load 1 ∷ operation.Load 1 ∷ operation.Load 1 ∷ operation.Load 1 ∷ operation.Load 1 ∷
      operation.Load 1 ∷ operation.Load 1 ∷ operation.Load 1 ∷ operation.Load 1 ∷ operation.Load 1 ∷ operation.Load 1 ∷
      operation.Load 1 ∷ operation.Load 1 ∷ operation.Load 1 ∷ operation.Load 1 ∷ operation.Load 1 ∷ operation.Load 1 ∷
      operation.Load 1 ∷ operation.Load 1 ∷ operation.Load 1 ∷ operation.Load 1 ∷ operation.Load 1 ∷ operation.Load 1 ∷
      operation.Load 1 ∷ operation.Load 1 ∷ operation.Load 1 ∷ operation.Load 1 ∷ operation.Load 1 ∷ operation.Load 1 ∷
      operation.Load 1 ∷ operation.Load 1 ∷ operation.Load 1 ∷ operation.Load 1 ∷ operation.Load 1 ∷ operation.Load 1 ∷
      operation.Load 1 ∷ operation.Load 1 ∷ operation.Load 1 ∷ operation.Load 1 ∷ operation.Load 1 ∷ operation.Load 1 ∷
      operation.Notices ∷ []) ∷
      [];
  changes = [];
  schedule = [];
  faults = [];
  budget = None;
}

abbrev pub notices_of_nothing : Report
notices_of_nothing = replayed notices_of_nothing_script (
    t 0 ∷ t 1 ∷ b 1 0 ∷ w 1 (insert 0) ∷ a 1 0 answer.Moved ∷ t 0 ∷ x 0 (codes "8010000003010080") (codes "9000") ∷
    t 1 ∷ b 1 1 ∷ a 1 1 answer.Watching ∷ t 0 ∷ x 0 (codes "00A4040C07A0000000871002") (codes "6A82") ∷
    t 1 ∷ b 1 2 ∷ x 1 (codes "00A40804047F106F3A00") (codes "62128205422100180183026F3A8A0105800200189000") ∷
    x 1 (codes "00B2010418") (codes "FFFFFFFFFFFFFFFFFFFFFFFFFFFFFFFFFFFFFFFFFFFFFFFF9000") ∷ t 0 ∷
    t 1 ∷ x 1 (codes "00A40804047F106F4A00") (codes "6A82") ∷ p 1 1 1 6 (codes "{\"entries\":[null]}") ∷ a 1 2 (answer.Loaded 1) ∷ t 0 ∷
    t 1 ∷ b 1 3 ∷ p 2 1 1 6 (codes "{\"entries\":[null]}") ∷ a 1 3 (answer.Loaded 2) ∷ t 0 ∷
    t 1 ∷ b 1 4 ∷ p 3 1 1 6 (codes "{\"entries\":[null]}") ∷ a 1 4 (answer.Loaded 3) ∷ t 0 ∷
    t 1 ∷ b 1 5 ∷ p 4 1 1 6 (codes "{\"entries\":[null]}") ∷ a 1 5 (answer.Loaded 4) ∷ t 0 ∷
    t 1 ∷ b 1 6 ∷ p 5 1 1 6 (codes "{\"entries\":[null]}") ∷ a 1 6 (answer.Loaded 5) ∷ t 0 ∷
    t 1 ∷ b 1 7 ∷ p 6 1 1 6 (codes "{\"entries\":[null]}") ∷ a 1 7 (answer.Loaded 6) ∷ t 0 ∷
    t 1 ∷ b 1 8 ∷ p 7 1 1 6 (codes "{\"entries\":[null]}") ∷ a 1 8 (answer.Loaded 7) ∷ t 0 ∷
    t 1 ∷ b 1 9 ∷ p 8 1 1 6 (codes "{\"entries\":[null]}") ∷ a 1 9 (answer.Loaded 8) ∷ t 0 ∷
    t 1 ∷ b 1 10 ∷ p 9 1 1 6 (codes "{\"entries\":[null]}") ∷ a 1 10 (answer.Loaded 9) ∷ t 0 ∷
    t 1 ∷ b 1 11 ∷ p 10 1 1 6 (codes "{\"entries\":[null]}") ∷ a 1 11 (answer.Loaded 10) ∷ t 0 ∷
    t 1 ∷ b 1 12 ∷ p 11 1 1 6 (codes "{\"entries\":[null]}") ∷ a 1 12 (answer.Loaded 11) ∷ t 0 ∷
    t 1 ∷ b 1 13 ∷ p 12 1 1 6 (codes "{\"entries\":[null]}") ∷ a 1 13 (answer.Loaded 12) ∷ t 0 ∷
    t 1 ∷ b 1 14 ∷ p 13 1 1 6 (codes "{\"entries\":[null]}") ∷ a 1 14 (answer.Loaded 13) ∷ t 0 ∷
    t 1 ∷ b 1 15 ∷ p 14 1 1 6 (codes "{\"entries\":[null]}") ∷ a 1 15 (answer.Loaded 14) ∷ t 0 ∷
    t 1 ∷ b 1 16 ∷ p 15 1 1 6 (codes "{\"entries\":[null]}") ∷ a 1 16 (answer.Loaded 15) ∷ t 0 ∷
    t 1 ∷ b 1 17 ∷ p 16 1 1 6 (codes "{\"entries\":[null]}") ∷ a 1 17 (answer.Loaded 16) ∷ t 0 ∷
    t 1 ∷ b 1 18 ∷ p 17 1 1 6 (codes "{\"entries\":[null]}") ∷ a 1 18 (answer.Loaded 17) ∷ t 0 ∷
    t 1 ∷ b 1 19 ∷ p 18 1 1 6 (codes "{\"entries\":[null]}") ∷ a 1 19 (answer.Loaded 18) ∷ t 0 ∷
    t 1 ∷ b 1 20 ∷ p 19 1 1 6 (codes "{\"entries\":[null]}") ∷ a 1 20 (answer.Loaded 19) ∷ t 0 ∷
    t 1 ∷ b 1 21 ∷ p 20 1 1 6 (codes "{\"entries\":[null]}") ∷ a 1 21 (answer.Loaded 20) ∷ t 0 ∷
    t 1 ∷ b 1 22 ∷ p 21 1 1 6 (codes "{\"entries\":[null]}") ∷ a 1 22 (answer.Loaded 21) ∷ t 0 ∷
    t 1 ∷ b 1 23 ∷ p 22 1 1 6 (codes "{\"entries\":[null]}") ∷ a 1 23 (answer.Loaded 22) ∷ t 0 ∷
    t 1 ∷ b 1 24 ∷ p 23 1 1 6 (codes "{\"entries\":[null]}") ∷ a 1 24 (answer.Loaded 23) ∷ t 0 ∷
    t 1 ∷ b 1 25 ∷ p 24 1 1 6 (codes "{\"entries\":[null]}") ∷ a 1 25 (answer.Loaded 24) ∷ t 0 ∷
    t 1 ∷ b 1 26 ∷ p 25 1 1 6 (codes "{\"entries\":[null]}") ∷ a 1 26 (answer.Loaded 25) ∷ t 0 ∷
    t 1 ∷ b 1 27 ∷ p 26 1 1 6 (codes "{\"entries\":[null]}") ∷ a 1 27 (answer.Loaded 26) ∷ t 0 ∷
    t 1 ∷ b 1 28 ∷ p 27 1 1 6 (codes "{\"entries\":[null]}") ∷ a 1 28 (answer.Loaded 27) ∷ t 0 ∷
    t 1 ∷ b 1 29 ∷ p 28 1 1 6 (codes "{\"entries\":[null]}") ∷ a 1 29 (answer.Loaded 28) ∷ t 0 ∷
    t 1 ∷ b 1 30 ∷ p 29 1 1 6 (codes "{\"entries\":[null]}") ∷ a 1 30 (answer.Loaded 29) ∷ t 0 ∷
    t 1 ∷ b 1 31 ∷ p 30 1 1 6 (codes "{\"entries\":[null]}") ∷ a 1 31 (answer.Loaded 30) ∷ t 0 ∷
    t 1 ∷ b 1 32 ∷ p 31 1 1 6 (codes "{\"entries\":[null]}") ∷ a 1 32 (answer.Loaded 31) ∷ t 0 ∷
    t 1 ∷ b 1 33 ∷ p 32 1 1 6 (codes "{\"entries\":[null]}") ∷ a 1 33 (answer.Loaded 32) ∷ t 0 ∷
    t 1 ∷ b 1 34 ∷ p 33 1 1 6 (codes "{\"entries\":[null]}") ∷ a 1 34 (answer.Loaded 33) ∷ t 0 ∷
    t 1 ∷ b 1 35 ∷ p 34 1 1 6 (codes "{\"entries\":[null]}") ∷ a 1 35 (answer.Loaded 34) ∷ t 0 ∷
    t 1 ∷ b 1 36 ∷ p 35 1 1 6 (codes "{\"entries\":[null]}") ∷ a 1 36 (answer.Loaded 35) ∷ t 0 ∷
    t 1 ∷ b 1 37 ∷ p 36 1 1 6 (codes "{\"entries\":[null]}") ∷ a 1 37 (answer.Loaded 36) ∷ t 0 ∷
    t 1 ∷ b 1 38 ∷ p 37 1 1 6 (codes "{\"entries\":[null]}") ∷ a 1 38 (answer.Loaded 37) ∷ t 0 ∷
    t 1 ∷ b 1 39 ∷ p 38 1 1 6 (codes "{\"entries\":[null]}") ∷ a 1 39 (answer.Loaded 38) ∷ t 0 ∷
    t 1 ∷ b 1 40 ∷ p 39 1 1 6 (codes "{\"entries\":[null]}") ∷ a 1 40 (answer.Loaded 39) ∷ t 0 ∷
    t 1 ∷ b 1 41 ∷ p 40 1 1 6 (codes "{\"entries\":[null]}") ∷ a 1 41 (answer.Loaded 40) ∷ t 0 ∷
    t 1 ∷ b 1 42 ∷ p 41 1 1 6 (codes "{\"entries\":[null]}") ∷ a 1 42 (answer.Loaded 41) ∷ t 0 ∷
    t 1 ∷ b 1 43 ∷ p 42 1 1 6 (codes "{\"entries\":[null]}") ∷ a 1 43 (answer.Loaded 42) ∷ t 0 ∷
    t 1 ∷ b 1 44 ∷ p 43 1 1 6 (codes "{\"entries\":[null]}") ∷ a 1 44 (answer.Loaded 43) ∷ t 0 ∷
    t 1 ∷ b 1 45 ∷ p 44 1 1 6 (codes "{\"entries\":[null]}") ∷ a 1 45 (answer.Loaded 44) ∷ t 0 ∷
    t 1 ∷ b 1 46 ∷ p 45 1 1 6 (codes "{\"entries\":[null]}") ∷ a 1 46 (answer.Loaded 45) ∷ t 0 ∷
    t 1 ∷ b 1 47 ∷ p 46 1 1 6 (codes "{\"entries\":[null]}") ∷ a 1 47 (answer.Loaded 46) ∷ t 0 ∷
    t 1 ∷ b 1 48 ∷ p 47 1 1 6 (codes "{\"entries\":[null]}") ∷ a 1 48 (answer.Loaded 47) ∷ t 0 ∷
    t 1 ∷ b 1 49 ∷ p 48 1 1 6 (codes "{\"entries\":[null]}") ∷ a 1 49 (answer.Loaded 48) ∷ t 0 ∷
    t 1 ∷ b 1 50 ∷ p 49 1 1 6 (codes "{\"entries\":[null]}") ∷ a 1 50 (answer.Loaded 49) ∷ t 0 ∷
    t 1 ∷ b 1 51 ∷ p 50 1 1 6 (codes "{\"entries\":[null]}") ∷ a 1 51 (answer.Loaded 50) ∷ t 0 ∷
    t 1 ∷ b 1 52 ∷ p 51 1 1 6 (codes "{\"entries\":[null]}") ∷ a 1 52 (answer.Loaded 51) ∷ t 0 ∷
    t 1 ∷ b 1 53 ∷ p 52 1 1 6 (codes "{\"entries\":[null]}") ∷ a 1 53 (answer.Loaded 52) ∷ t 0 ∷
    t 1 ∷ b 1 54 ∷ p 53 1 1 6 (codes "{\"entries\":[null]}") ∷ a 1 54 (answer.Loaded 53) ∷ t 0 ∷
    t 1 ∷ b 1 55 ∷ p 54 1 1 6 (codes "{\"entries\":[null]}") ∷ a 1 55 (answer.Loaded 54) ∷ t 0 ∷
    t 1 ∷ b 1 56 ∷ p 55 1 1 6 (codes "{\"entries\":[null]}") ∷ a 1 56 (answer.Loaded 55) ∷ t 0 ∷
    t 1 ∷ b 1 57 ∷ p 56 1 1 6 (codes "{\"entries\":[null]}") ∷ a 1 57 (answer.Loaded 56) ∷ t 0 ∷
    t 1 ∷ b 1 58 ∷ p 57 1 1 6 (codes "{\"entries\":[null]}") ∷ a 1 58 (answer.Loaded 57) ∷ t 0 ∷
    t 1 ∷ b 1 59 ∷ p 58 1 1 6 (codes "{\"entries\":[null]}") ∷ a 1 59 (answer.Loaded 58) ∷ t 0 ∷
    t 1 ∷ b 1 60 ∷ p 59 1 1 6 (codes "{\"entries\":[null]}") ∷ a 1 60 (answer.Loaded 59) ∷ t 0 ∷
    t 1 ∷ b 1 61 ∷ p 60 1 1 6 (codes "{\"entries\":[null]}") ∷ a 1 61 (answer.Loaded 60) ∷ t 0 ∷
    t 1 ∷ b 1 62 ∷ p 61 1 1 6 (codes "{\"entries\":[null]}") ∷ a 1 62 (answer.Loaded 61) ∷ t 0 ∷
    t 1 ∷ b 1 63 ∷ p 62 1 1 6 (codes "{\"entries\":[null]}") ∷ a 1 63 (answer.Loaded 62) ∷ t 0 ∷
    t 1 ∷ b 1 64 ∷ p 63 1 1 6 (codes "{\"entries\":[null]}") ∷ a 1 64 (answer.Loaded 63) ∷ t 0 ∷
    t 1 ∷ b 1 65 ∷ p 64 1 1 6 (codes "{\"entries\":[null]}") ∷ a 1 65 (answer.Loaded 64) ∷ t 0 ∷
    t 1 ∷ b 1 66 ∷ p 65 1 1 6 (codes "{\"entries\":[null]}") ∷ a 1 66 (answer.Loaded 65) ∷ t 0 ∷
    t 1 ∷ b 1 67 ∷ p 66 1 1 6 (codes "{\"entries\":[null]}") ∷ a 1 67 (answer.Loaded 66) ∷ t 0 ∷
    t 1 ∷ b 1 68 ∷ p 67 1 1 6 (codes "{\"entries\":[null]}") ∷ a 1 68 (answer.Loaded 67) ∷ t 0 ∷
    t 1 ∷ b 1 69 ∷ p 68 1 1 6 (codes "{\"entries\":[null]}") ∷ a 1 69 (answer.Loaded 68) ∷ t 0 ∷
    t 1 ∷ b 1 70 ∷ p 69 1 1 6 (codes "{\"entries\":[null]}") ∷ a 1 70 (answer.Loaded 69) ∷ t 0 ∷
    t 1 ∷ b 1 71 ∷ p 70 1 1 6 (codes "{\"entries\":[null]}") ∷ a 1 71 (answer.Loaded 70) ∷ t 0 ∷
    t 1 ∷ b 1 72 ∷ a 1 72 (answer.Notices 0 (record { items = ([]) })) ∷
    [])
