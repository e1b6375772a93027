-- Worked reports of an empty slot, a full one and a full list of armed changes, line by line as their text has them.
use Rattle.std.specs.Prelude.{[], ◌∷◌, None, true, false, codes}
use Rattle.script_reader.specs.declared.types.Script.{Script}
use Rattle.script_reader.specs.declared.types.KindSpec.TheVariants.{Transparent}
use Rattle.script_reader.specs.declared.types.Operation.TheVariants as operation
use Rattle.report.specs.declared.answer.Answer.TheVariants as answer
use Rattle.report.specs.declared.lines.Report.{Report}
use Rattle.rules.specs.WorkedWords.{hex, arm, insert, t, b, x, w, a, replayed}

abbrev pub slot_empty_script : Script
slot_empty_script = record {
  version = 1;
  cards =
      record { files = (record { path = (0x2FE2 ∷ []); kind = (Transparent (hex (codes "98101430121181157002"))); arr = None; active = true; endless = false; fcp = None } ∷ []); aids = ([]); keys = ([]); channels = 3; get_response = false } ∷ [];
  actors =
      (operation.Out ∷ []) ∷
      [];
  changes = [];
  schedule = [];
  faults = [];
  budget = None;
}

abbrev pub slot_empty : Report
slot_empty = replayed slot_empty_script (
    t 0 ∷ t 1 ∷ b 1 0 ∷ a 1 0 answer.SlotEmpty ∷
    [])

abbrev pub slot_full_script : Script
slot_full_script = record {
  version = 1;
  cards =
      record { files = (record { path = (0x2FE2 ∷ []); kind = (Transparent (hex (codes "98101430121181157002"))); arr = None; active = true; endless = false; fcp = None } ∷ []); aids = ([]); keys = ([]); channels = 3; get_response = false } ∷ [];
  actors =
      (operation.Insert 0 ∷ operation.Insert 0 ∷ []) ∷
      [];
  changes = [];
  schedule = [];
  faults = [];
  budget = None;
}

abbrev pub slot_full : Report
slot_full = replayed slot_full_script (
    t 0 ∷ t 1 ∷ b 1 0 ∷ w 1 (insert 0) ∷ a 1 0 answer.Moved ∷ t 0 ∷ x 0 (codes "8010000003010080") (codes "9000") ∷
    t 1 ∷ b 1 1 ∷ a 1 1 answer.SlotFull ∷ t 0 ∷ x 0 (codes "00A4040C07A0000000871002") (codes "6A82") ∷
    [])

abbrev pub arm_full_script : Script
arm_full_script = record {
  version = 1;
  cards =
      record { files = (record { path = (0x2FE2 ∷ []); kind = (Transparent (hex (codes "98101430121181157002"))); arr = None; active = true; endless = false; fcp = None } ∷ []); aids = ([]); keys = ([]); channels = 3; get_response = false } ∷ [];
  actors =
      (operation.Insert 0 ∷ operation.Arm 0 ∷ operation.Arm 0 ∷ operation.Arm 0 ∷ operation.Arm 0 ∷ operation.Arm 0 ∷ operation.Arm 0 ∷
      operation.Arm 0 ∷ operation.Arm 0 ∷ operation.Arm 0 ∷ operation.Arm 0 ∷ operation.Arm 0 ∷ operation.Arm 0 ∷ operation.Arm 0 ∷
      operation.Arm 0 ∷ operation.Arm 0 ∷ operation.Arm 0 ∷ operation.Arm 0 ∷ operation.Arm 0 ∷ operation.Arm 0 ∷ operation.Arm 0 ∷
      operation.Arm 0 ∷ operation.Arm 0 ∷ operation.Arm 0 ∷ operation.Arm 0 ∷ operation.Arm 0 ∷ operation.Arm 0 ∷ operation.Arm 0 ∷
      operation.Arm 0 ∷ operation.Arm 0 ∷ operation.Arm 0 ∷ operation.Arm 0 ∷ operation.Arm 0 ∷ operation.Arm 0 ∷ operation.Arm 0 ∷
      operation.Arm 0 ∷ operation.Arm 0 ∷ operation.Arm 0 ∷ operation.Arm 0 ∷ operation.Arm 0 ∷ operation.Arm 0 ∷ operation.Arm 0 ∷
      operation.Arm 0 ∷ operation.Arm 0 ∷ operation.Arm 0 ∷ operation.Arm 0 ∷ operation.Arm 0 ∷ operation.Arm 0 ∷ operation.Arm 0 ∷
      operation.Arm 0 ∷ operation.Arm 0 ∷ operation.Arm 0 ∷ operation.Arm 0 ∷ operation.Arm 0 ∷ operation.Arm 0 ∷ operation.Arm 0 ∷
      operation.Arm 0 ∷ operation.Arm 0 ∷ operation.Arm 0 ∷ operation.Arm 0 ∷ operation.Arm 0 ∷ operation.Arm 0 ∷ operation.Arm 0 ∷
      operation.Arm 0 ∷ operation.Arm 0 ∷ operation.Arm 0 ∷ []) ∷
      [];
  changes = record { qualifier = 0; kind = 1; list = ([]); files = ([]) } ∷ [];
  schedule = 1 ∷ 1 ∷ 1 ∷ 1 ∷ 1 ∷ 1 ∷ 1 ∷ 1 ∷ 1 ∷ 1 ∷ 1 ∷ 1 ∷ 1 ∷ 1 ∷ 1 ∷ 1 ∷ 1 ∷ 1 ∷ 1 ∷ 1 ∷ 1 ∷ 1 ∷ 1 ∷ 1 ∷ 1 ∷ 1 ∷ 1 ∷ 1 ∷ 1 ∷ 1 ∷ 1 ∷
      1 ∷ 1 ∷ 1 ∷ 1 ∷ 1 ∷ 1 ∷ 1 ∷ 1 ∷ 1 ∷ 1 ∷ 1 ∷ 1 ∷ 1 ∷ 1 ∷ 1 ∷ 1 ∷ 1 ∷ 1 ∷ 1 ∷ 1 ∷ 1 ∷ 1 ∷ 1 ∷ 1 ∷ 1 ∷ 1 ∷ 1 ∷ 1 ∷ 1 ∷ 1 ∷ 1 ∷ 1 ∷ 1 ∷
      1 ∷ 1 ∷ 1 ∷ 1 ∷ 1 ∷ 1 ∷ [];
  faults = [];
  budget = None;
}

abbrev pub arm_full : Report
arm_full = replayed arm_full_script (
    t 1 ∷ b 1 0 ∷ w 1 (insert 0) ∷ a 1 0 answer.Moved ∷ t 1 ∷ b 1 1 ∷ w 1 (arm 0) ∷ a 1 1 answer.Moved ∷
    t 1 ∷ b 1 2 ∷ w 1 (arm 0) ∷ a 1 2 answer.Moved ∷ t 1 ∷ b 1 3 ∷ w 1 (arm 0) ∷ a 1 3 answer.Moved ∷
    t 1 ∷ b 1 4 ∷ w 1 (arm 0) ∷ a 1 4 answer.Moved ∷ t 1 ∷ b 1 5 ∷ w 1 (arm 0) ∷ a 1 5 answer.Moved ∷
    t 1 ∷ b 1 6 ∷ w 1 (arm 0) ∷ a 1 6 answer.Moved ∷ t 1 ∷ b 1 7 ∷ w 1 (arm 0) ∷ a 1 7 answer.Moved ∷
    t 1 ∷ b 1 8 ∷ w 1 (arm 0) ∷ a 1 8 answer.Moved ∷ t 1 ∷ b 1 9 ∷ w 1 (arm 0) ∷ a 1 9 answer.Moved ∷
    t 1 ∷ b 1 10 ∷ w 1 (arm 0) ∷ a 1 10 answer.Moved ∷ t 1 ∷ b 1 11 ∷ w 1 (arm 0) ∷ a 1 11 answer.Moved ∷
    t 1 ∷ b 1 12 ∷ w 1 (arm 0) ∷ a 1 12 answer.Moved ∷ t 1 ∷ b 1 13 ∷ w 1 (arm 0) ∷ a 1 13 answer.Moved ∷
    t 1 ∷ b 1 14 ∷ w 1 (arm 0) ∷ a 1 14 answer.Moved ∷ t 1 ∷ b 1 15 ∷ w 1 (arm 0) ∷ a 1 15 answer.Moved ∷
    t 1 ∷ b 1 16 ∷ w 1 (arm 0) ∷ a 1 16 answer.Moved ∷ t 1 ∷ b 1 17 ∷ w 1 (arm 0) ∷ a 1 17 answer.Moved ∷
    t 1 ∷ b 1 18 ∷ w 1 (arm 0) ∷ a 1 18 answer.Moved ∷ t 1 ∷ b 1 19 ∷ w 1 (arm 0) ∷ a 1 19 answer.Moved ∷
    t 1 ∷ b 1 20 ∷ w 1 (arm 0) ∷ a 1 20 answer.Moved ∷ t 1 ∷ b 1 21 ∷ w 1 (arm 0) ∷ a 1 21 answer.Moved ∷
    t 1 ∷ b 1 22 ∷ w 1 (arm 0) ∷ a 1 22 answer.Moved ∷ t 1 ∷ b 1 23 ∷ w 1 (arm 0) ∷ a 1 23 answer.Moved ∷
    t 1 ∷ b 1 24 ∷ w 1 (arm 0) ∷ a 1 24 answer.Moved ∷ t 1 ∷ b 1 25 ∷ w 1 (arm 0) ∷ a 1 25 answer.Moved ∷
    t 1 ∷ b 1 26 ∷ w 1 (arm 0) ∷ a 1 26 answer.Moved ∷ t 1 ∷ b 1 27 ∷ w 1 (arm 0) ∷ a 1 27 answer.Moved ∷
    t 1 ∷ b 1 28 ∷ w 1 (arm 0) ∷ a 1 28 answer.Moved ∷ t 1 ∷ b 1 29 ∷ w 1 (arm 0) ∷ a 1 29 answer.Moved ∷
    t 1 ∷ b 1 30 ∷ w 1 (arm 0) ∷ a 1 30 answer.Moved ∷ t 1 ∷ b 1 31 ∷ w 1 (arm 0) ∷ a 1 31 answer.Moved ∷
    t 1 ∷ b 1 32 ∷ w 1 (arm 0) ∷ a 1 32 answer.Moved ∷ t 1 ∷ b 1 33 ∷ w 1 (arm 0) ∷ a 1 33 answer.Moved ∷
    t 1 ∷ b 1 34 ∷ w 1 (arm 0) ∷ a 1 34 answer.Moved ∷ t 1 ∷ b 1 35 ∷ w 1 (arm 0) ∷ a 1 35 answer.Moved ∷
    t 1 ∷ b 1 36 ∷ w 1 (arm 0) ∷ a 1 36 answer.Moved ∷ t 1 ∷ b 1 37 ∷ w 1 (arm 0) ∷ a 1 37 answer.Moved ∷
    t 1 ∷ b 1 38 ∷ w 1 (arm 0) ∷ a 1 38 answer.Moved ∷ t 1 ∷ b 1 39 ∷ w 1 (arm 0) ∷ a 1 39 answer.Moved ∷
    t 1 ∷ b 1 40 ∷ w 1 (arm 0) ∷ a 1 40 answer.Moved ∷ t 1 ∷ b 1 41 ∷ w 1 (arm 0) ∷ a 1 41 answer.Moved ∷
    t 1 ∷ b 1 42 ∷ w 1 (arm 0) ∷ a 1 42 answer.Moved ∷ t 1 ∷ b 1 43 ∷ w 1 (arm 0) ∷ a 1 43 answer.Moved ∷
    t 1 ∷ b 1 44 ∷ w 1 (arm 0) ∷ a 1 44 answer.Moved ∷ t 1 ∷ b 1 45 ∷ w 1 (arm 0) ∷ a 1 45 answer.Moved ∷
    t 1 ∷ b 1 46 ∷ w 1 (arm 0) ∷ a 1 46 answer.Moved ∷ t 1 ∷ b 1 47 ∷ w 1 (arm 0) ∷ a 1 47 answer.Moved ∷
    t 1 ∷ b 1 48 ∷ w 1 (arm 0) ∷ a 1 48 answer.Moved ∷ t 1 ∷ b 1 49 ∷ w 1 (arm 0) ∷ a 1 49 answer.Moved ∷
    t 1 ∷ b 1 50 ∷ w 1 (arm 0) ∷ a 1 50 answer.Moved ∷ t 1 ∷ b 1 51 ∷ w 1 (arm 0) ∷ a 1 51 answer.Moved ∷
    t 1 ∷ b 1 52 ∷ w 1 (arm 0) ∷ a 1 52 answer.Moved ∷ t 1 ∷ b 1 53 ∷ w 1 (arm 0) ∷ a 1 53 answer.Moved ∷
    t 1 ∷ b 1 54 ∷ w 1 (arm 0) ∷ a 1 54 answer.Moved ∷ t 1 ∷ b 1 55 ∷ w 1 (arm 0) ∷ a 1 55 answer.Moved ∷
    t 1 ∷ b 1 56 ∷ w 1 (arm 0) ∷ a 1 56 answer.Moved ∷ t 1 ∷ b 1 57 ∷ w 1 (arm 0) ∷ a 1 57 answer.Moved ∷
    t 1 ∷ b 1 58 ∷ w 1 (arm 0) ∷ a 1 58 answer.Moved ∷ t 1 ∷ b 1 59 ∷ w 1 (arm 0) ∷ a 1 59 answer.Moved ∷
    t 1 ∷ b 1 60 ∷ w 1 (arm 0) ∷ a 1 60 answer.Moved ∷ t 1 ∷ b 1 61 ∷ w 1 (arm 0) ∷ a 1 61 answer.Moved ∷
    t 1 ∷ b 1 62 ∷ w 1 (arm 0) ∷ a 1 62 answer.Moved ∷ t 1 ∷ b 1 63 ∷ w 1 (arm 0) ∷ a 1 63 answer.Moved ∷
    t 1 ∷ b 1 64 ∷ w 1 (arm 0) ∷ a 1 64 answer.Moved ∷ t 1 ∷ b 1 65 ∷ a 1 65 answer.ArmFull ∷ t 1 ∷ t 1 ∷ t 1 ∷ t 1 ∷
    t 0 ∷ x 0 (codes "8010000003010080") (codes "910B") ∷ t 1 ∷ t 0 ∷ x 0 (codes "00A4040C07A0000000871002") (codes "6A82") ∷ t 1 ∷
    t 0 ∷ x 0 (codes "801200000B") (codes "D0098103010100820281829000") ∷ t 1 ∷
    t 0 ∷ x 0 (codes "801400000C810301010082028281830100") (codes "910B") ∷ t 1 ∷
    t 0 ∷ x 0 (codes "801200000B") (codes "D0098103010100820281829000") ∷ t 1 ∷
    t 0 ∷ x 0 (codes "801400000C810301010082028281830100") (codes "910B") ∷ t 1 ∷
    t 0 ∷ x 0 (codes "801200000B") (codes "D0098103010100820281829000") ∷ t 1 ∷
    t 0 ∷ x 0 (codes "801400000C810301010082028281830100") (codes "910B") ∷ t 1 ∷
    t 0 ∷ x 0 (codes "801200000B") (codes "D0098103010100820281829000") ∷ t 1 ∷
    t 0 ∷ x 0 (codes "801400000C810301010082028281830100") (codes "910B") ∷ t 1 ∷
    t 0 ∷ x 0 (codes "801200000B") (codes "D0098103010100820281829000") ∷ t 1 ∷
    t 0 ∷ x 0 (codes "801400000C810301010082028281830100") (codes "910B") ∷ t 1 ∷
    t 0 ∷ x 0 (codes "801200000B") (codes "D0098103010100820281829000") ∷ t 1 ∷
    t 0 ∷ x 0 (codes "801400000C810301010082028281830100") (codes "910B") ∷ t 1 ∷
    t 0 ∷ x 0 (codes "801200000B") (codes "D0098103010100820281829000") ∷ t 1 ∷
    t 0 ∷ x 0 (codes "801400000C810301010082028281830100") (codes "910B") ∷ t 1 ∷
    t 0 ∷ x 0 (codes "801200000B") (codes "D0098103010100820281829000") ∷ t 1 ∷
    t 0 ∷ x 0 (codes "801400000C810301010082028281830100") (codes "910B") ∷ t 1 ∷
    t 0 ∷ x 0 (codes "801200000B") (codes "D0098103010100820281829000") ∷ t 1 ∷
    t 0 ∷ x 0 (codes "801400000C810301010082028281830100") (codes "910B") ∷ t 1 ∷
    t 0 ∷ x 0 (codes "801200000B") (codes "D0098103010100820281829000") ∷ t 1 ∷
    t 0 ∷ x 0 (codes "801400000C810301010082028281830100") (codes "910B") ∷ t 1 ∷
    t 0 ∷ x 0 (codes "801200000B") (codes "D0098103010100820281829000") ∷ t 1 ∷
    t 0 ∷ x 0 (codes "801400000C810301010082028281830100") (codes "910B") ∷ t 1 ∷
    t 0 ∷ x 0 (codes "801200000B") (codes "D0098103010100820281829000") ∷ t 1 ∷
    t 0 ∷ x 0 (codes "801400000C810301010082028281830100") (codes "910B") ∷ t 1 ∷
    t 0 ∷ x 0 (codes "801200000B") (codes "D0098103010100820281829000") ∷ t 1 ∷
    t 0 ∷ x 0 (codes "801400000C810301010082028281830100") (codes "910B") ∷ t 1 ∷
    t 0 ∷ x 0 (codes "801200000B") (codes "D0098103010100820281829000") ∷ t 1 ∷
    t 0 ∷ x 0 (codes "801400000C810301010082028281830100") (codes "910B") ∷ t 1 ∷
    t 0 ∷ x 0 (codes "801200000B") (codes "D0098103010100820281829000") ∷ t 1 ∷
    t 0 ∷ x 0 (codes "801400000C810301010082028281830100") (codes "910B") ∷ t 1 ∷
    t 0 ∷ x 0 (codes "801200000B") (codes "D0098103010100820281829000") ∷ t 1 ∷
    t 0 ∷ x 0 (codes "801400000C810301010082028281830100") (codes "910B") ∷ t 1 ∷
    t 0 ∷ x 0 (codes "801200000B") (codes "D0098103010100820281829000") ∷ t 1 ∷
    t 0 ∷ x 0 (codes "801400000C810301010082028281830100") (codes "910B") ∷ t 1 ∷
    t 0 ∷ x 0 (codes "801200000B") (codes "D0098103010100820281829000") ∷ t 1 ∷
    t 0 ∷ x 0 (codes "801400000C810301010082028281830100") (codes "910B") ∷ t 1 ∷
    t 0 ∷ x 0 (codes "801200000B") (codes "D0098103010100820281829000") ∷ t 1 ∷
    t 0 ∷ x 0 (codes "801400000C810301010082028281830100") (codes "910B") ∷ t 1 ∷
    t 0 ∷ x 0 (codes "801200000B") (codes "D0098103010100820281829000") ∷ t 1 ∷
    t 0 ∷ x 0 (codes "801400000C810301010082028281830100") (codes "910B") ∷ t 1 ∷
    t 0 ∷ x 0 (codes "801200000B") (codes "D0098103010100820281829000") ∷ t 1 ∷
    t 0 ∷ x 0 (codes "801400000C810301010082028281830100") (codes "910B") ∷ t 1 ∷
    t 0 ∷ x 0 (codes "801200000B") (codes "D0098103010100820281829000") ∷ t 1 ∷
    t 0 ∷ x 0 (codes "801400000C810301010082028281830100") (codes "910B") ∷ t 1 ∷
    t 0 ∷ x 0 (codes "801200000B") (codes "D0098103010100820281829000") ∷ t 1 ∷
    t 0 ∷ x 0 (codes "801400000C810301010082028281830100") (codes "910B") ∷ t 1 ∷
    t 0 ∷ x 0 (codes "801200000B") (codes "D0098103010100820281829000") ∷ t 1 ∷
    t 0 ∷ x 0 (codes "801400000C810301010082028281830100") (codes "910B") ∷ t 1 ∷
    t 0 ∷ x 0 (codes "801200000B") (codes "D0098103010100820281829000") ∷ t 1 ∷
    t 0 ∷ x 0 (codes "801400000C810301010082028281830100") (codes "910B") ∷ t 1 ∷
    t 0 ∷ x 0 (codes "801200000B") (codes "D0098103010100820281829000") ∷ t 1 ∷
    t 0 ∷ x 0 (codes "801400000C810301010082028281830100") (codes "910B") ∷ t 1 ∷
    t 0 ∷ x 0 (codes "801200000B") (codes "D0098103010100820281829000") ∷ t 1 ∷
    t 0 ∷ x 0 (codes "801400000C810301010082028281830100") (codes "910B") ∷ t 1 ∷
    t 0 ∷ x 0 (codes "801200000B") (codes "D0098103010100820281829000") ∷ t 1 ∷
    t 0 ∷ x 0 (codes "801400000C810301010082028281830100") (codes "910B") ∷ t 1 ∷
    t 0 ∷ x 0 (codes "801200000B") (codes "D0098103010100820281829000") ∷ t 1 ∷
    t 0 ∷ x 0 (codes "801400000C810301010082028281830100") (codes "910B") ∷ t 1 ∷
    t 0 ∷ x 0 (codes "801200000B") (codes "D0098103010100820281829000") ∷ t 1 ∷
    t 0 ∷ x 0 (codes "801400000C810301010082028281830100") (codes "910B") ∷ t 1 ∷
    t 0 ∷ x 0 (codes "801200000B") (codes "D0098103010100820281829000") ∷ t 1 ∷
    t 0 ∷ x 0 (codes "801400000C810301010082028281830100") (codes "910B") ∷ t 1 ∷
    t 0 ∷ x 0 (codes "801200000B") (codes "D0098103010100820281829000") ∷ t 1 ∷
    t 0 ∷ x 0 (codes "801400000C810301010082028281830100") (codes "910B") ∷ t 1 ∷
    t 0 ∷ x 0 (codes "801200000B") (codes "D0098103010100820281829000") ∷ t 1 ∷
    t 0 ∷ x 0 (codes "801400000C810301010082028281830100") (codes "910B") ∷ t 1 ∷
    t 0 ∷ x 0 (codes "801200000B") (codes "D0098103010100820281829000") ∷ t 1 ∷
    t 0 ∷ x 0 (codes "801400000C810301010082028281830100") (codes "910B") ∷ t 1 ∷
    t 0 ∷ x 0 (codes "801200000B") (codes "D0098103010100820281829000") ∷ t 1 ∷
    t 0 ∷ x 0 (codes "801400000C810301010082028281830100") (codes "910B") ∷ t 1 ∷
    t 0 ∷ x 0 (codes "801200000B") (codes "D0098103010100820281829000") ∷ t 1 ∷
    t 0 ∷ x 0 (codes "801400000C810301010082028281830100") (codes "910B") ∷ t 1 ∷
    t 0 ∷ x 0 (codes "801200000B") (codes "D0098103010100820281829000") ∷ t 1 ∷
    t 0 ∷ x 0 (codes "801400000C810301010082028281830100") (codes "910B") ∷ t 1 ∷
    t 0 ∷ x 0 (codes "801200000B") (codes "D0098103010100820281829000") ∷ t 1 ∷
    t 0 ∷ x 0 (codes "801400000C810301010082028281830100") (codes "910B") ∷ t 1 ∷
    t 0 ∷ x 0 (codes "801200000B") (codes "D0098103010100820281829000") ∷ t 1 ∷
    t 0 ∷ x 0 (codes "801400000C810301010082028281830100") (codes "910B") ∷ t 1 ∷
    t 0 ∷ x 0 (codes "801200000B") (codes "D0098103010100820281829000") ∷ t 1 ∷
    t 0 ∷ x 0 (codes "801400000C810301010082028281830100") (codes "910B") ∷ t 1 ∷
    t 0 ∷ x 0 (codes "801200000B") (codes "D0098103010100820281829000") ∷ t 1 ∷
    t 0 ∷ x 0 (codes "801400000C810301010082028281830100") (codes "910B") ∷ t 1 ∷
    t 0 ∷ x 0 (codes "801200000B") (codes "D0098103010100820281829000") ∷ t 1 ∷
    t 0 ∷ x 0 (codes "801400000C810301010082028281830100") (codes "910B") ∷ t 1 ∷
    t 0 ∷ x 0 (codes "801200000B") (codes "D0098103010100820281829000") ∷ t 1 ∷
    t 0 ∷ x 0 (codes "801400000C810301010082028281830100") (codes "910B") ∷ t 1 ∷
    t 0 ∷ x 0 (codes "801200000B") (codes "D0098103010100820281829000") ∷ t 1 ∷
    t 0 ∷ x 0 (codes "801400000C810301010082028281830100") (codes "910B") ∷ t 1 ∷
    t 0 ∷ x 0 (codes "801200000B") (codes "D0098103010100820281829000") ∷ t 1 ∷
    t 0 ∷ x 0 (codes "801400000C810301010082028281830100") (codes "910B") ∷ t 1 ∷
    t 0 ∷ x 0 (codes "801200000B") (codes "D0098103010100820281829000") ∷ t 1 ∷
    t 0 ∷ x 0 (codes "801400000C810301010082028281830100") (codes "910B") ∷ t 1 ∷
    t 0 ∷ x 0 (codes "801200000B") (codes "D0098103010100820281829000") ∷ t 1 ∷
    t 0 ∷ x 0 (codes "801400000C810301010082028281830100") (codes "910B") ∷ t 1 ∷
    t 0 ∷ x 0 (codes "801200000B") (codes "D0098103010100820281829000") ∷ t 1 ∷
    t 0 ∷ x 0 (codes "801400000C810301010082028281830100") (codes "910B") ∷ t 1 ∷
    t 0 ∷ x 0 (codes "801200000B") (codes "D0098103010100820281829000") ∷ t 1 ∷
    t 0 ∷ x 0 (codes "801400000C810301010082028281830100") (codes "910B") ∷ t 1 ∷
    t 0 ∷ x 0 (codes "801200000B") (codes "D0098103010100820281829000") ∷ t 1 ∷
    t 0 ∷ x 0 (codes "801400000C810301010082028281830100") (codes "910B") ∷ t 1 ∷
    t 0 ∷ x 0 (codes "801200000B") (codes "D0098103010100820281829000") ∷ t 1 ∷
    t 0 ∷ x 0 (codes "801400000C810301010082028281830100") (codes "910B") ∷ t 1 ∷
    t 0 ∷ x 0 (codes "801200000B") (codes "D0098103010100820281829000") ∷ t 1 ∷
    t 0 ∷ x 0 (codes "801400000C810301010082028281830100") (codes "910B") ∷ t 1 ∷
    t 0 ∷ x 0 (codes "801200000B") (codes "D0098103010100820281829000") ∷ t 1 ∷
    t 0 ∷ x 0 (codes "801400000C810301010082028281830100") (codes "910B") ∷ t 1 ∷
    t 0 ∷ x 0 (codes "801200000B") (codes "D0098103010100820281829000") ∷ t 1 ∷
    t 0 ∷ x 0 (codes "801400000C810301010082028281830100") (codes "910B") ∷ t 1 ∷
    t 0 ∷ x 0 (codes "801200000B") (codes "D0098103010100820281829000") ∷ t 1 ∷
    t 0 ∷ x 0 (codes "801400000C810301010082028281830100") (codes "910B") ∷ t 1 ∷
    t 0 ∷ x 0 (codes "801200000B") (codes "D0098103010100820281829000") ∷ t 1 ∷
    t 0 ∷ x 0 (codes "801400000C810301010082028281830100") (codes "910B") ∷ t 1 ∷
    t 0 ∷ x 0 (codes "801200000B") (codes "D0098103010100820281829000") ∷ t 1 ∷
    t 0 ∷ x 0 (codes "801400000C810301010082028281830100") (codes "910B") ∷ t 1 ∷
    t 0 ∷ x 0 (codes "801200000B") (codes "D0098103010100820281829000") ∷ t 1 ∷
    t 0 ∷ x 0 (codes "801400000C810301010082028281830100") (codes "910B") ∷ t 1 ∷
    t 0 ∷ x 0 (codes "801200000B") (codes "D0098103010100820281829000") ∷ t 1 ∷
    t 0 ∷ x 0 (codes "801400000C810301010082028281830100") (codes "910B") ∷ t 1 ∷
    t 0 ∷ x 0 (codes "801200000B") (codes "D0098103010100820281829000") ∷ t 1 ∷
    t 0 ∷ x 0 (codes "801400000C810301010082028281830100") (codes "910B") ∷ t 1 ∷
    t 0 ∷ x 0 (codes "801200000B") (codes "D0098103010100820281829000") ∷ t 1 ∷
    t 0 ∷ x 0 (codes "801400000C810301010082028281830100") (codes "910B") ∷ t 1 ∷
    t 0 ∷ x 0 (codes "801200000B") (codes "D0098103010100820281829000") ∷ t 1 ∷
    t 0 ∷ x 0 (codes "801400000C810301010082028281830100") (codes "910B") ∷ t 1 ∷
    t 0 ∷ x 0 (codes "801200000B") (codes "D0098103010100820281829000") ∷ t 1 ∷
    t 0 ∷ x 0 (codes "801400000C810301010082028281830100") (codes "910B") ∷ t 1 ∷
    t 0 ∷ x 0 (codes "801200000B") (codes "D0098103010100820281829000") ∷ t 1 ∷
    t 0 ∷ x 0 (codes "801400000C810301010082028281830100") (codes "9000") ∷
    [])
