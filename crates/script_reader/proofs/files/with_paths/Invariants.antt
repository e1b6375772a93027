use Rattle.std.proofs.Common.{◌≡◌}
use Rattle.std.specs.Vec.Iter.{into_iter_items}
use Rattle.script_reader.specs.Files.{with_path}
use Rattle.script_reader.specs.Reading.{all_of}
use Rattle.script_reader.proofs.Lists.{onto}
use Rattle.script_reader.proofs.files.with_paths.Given as goal

-- what was read and what is left are the whole list
abbrev pub invariant-loop-file : goal.invariant-loop-file
invariant-loop-file l =
    (goal.iterator-loop-file).can_next l.file-iterator ×
    (goal.iterator-loop-file).is_finite l.file-iterator ×
    (onto l.out (all_of with_path (into_iter_items l.file-iterator)) ≡ all_of with_path l.fn.files)
