use Rattle.std.specs.Prelude.{filter_map}
use Rattle.std.proofs.Common.{◌≡◌, ◌++◌, drop}
use Rattle.editor.specs.Editing.{rule_path}
use Rattle.planner.proofs.edits.add_rule_paths.Given as goal

-- the paths so far, and those of the files that are left, are all of them
abbrev pub invariant-loop-path : goal.invariant-loop-path
invariant-loop-path l = l.fn.paths ++ filter_map (rule_path l.files) l.of ≡ l.paths ++ filter_map (rule_path l.files) (drop l.path-index l.of)
