-- How far a walk over the files of a script has come.
use Rattle.std.specs.Prelude.{ℕ, Bool, List, ◌++◌}
use Rattle.apdu.specs.Words.{path_is_in}
use Rattle.script_reader.specs.declared.types.FileSpec.{FileSpec}
use Rattle.script_reader.specs.declared.types.CardSpec.{CardSpec}
use Rattle.script_reader.specs.declared.types.ChangeSpec.{ChangeSpec}
use Rattle.script_reader.specs.declared.types.Script.{Script}
use Rattle.script_generator.specs.Working.{card_files, change_files, all_files, rule_paths, named_path, family_paths, reading_sum}

-- the paths that come while these files, cards and changes are left
abbrev pub paths_left : List FileSpec → List CardSpec → List ChangeSpec → List (List ℕ)
paths_left files cards changes = rule_paths (files ++ (card_files cards ++ change_files changes)) ++ family_paths

-- whether the path is one of them
unfoldable pub is_left : List FileSpec → List CardSpec → List ChangeSpec → List ℕ → Bool
is_left files cards changes path = path_is_in (paths_left files cards changes) path

-- the commands that read them
unfoldable pub reading_left : Script → List FileSpec → List CardSpec → List ChangeSpec → ℕ
reading_left s files cards changes = reading_sum (all_files s) (paths_left files cards changes)

-- the commands that read them and the EF_ARR that a file before them names
unfoldable pub reading_named : Script → FileSpec → List FileSpec → List CardSpec → List ChangeSpec → ℕ
reading_named s file files cards changes = reading_sum (all_files s) (named_path file.path file.arr ++ paths_left files cards changes)
