use Rattle.std.proofs.Common.{◌≡◌, drop}
use Rattle.script_reader.specs.Files.{path_of}
use Rattle.script_reader.specs.Reading.{all_of}
use Rattle.script_reader.proofs.Lists.{onto}
use Rattle.script_reader.proofs.cards.path_list.Given as goal

-- what was read and what is left are the whole list
abbrev pub invariant-loop-ids : goal.invariant-loop-ids
invariant-loop-ids l = onto l.out (all_of path_of (drop l.ids-index l.list)) ≡ all_of path_of l.list
