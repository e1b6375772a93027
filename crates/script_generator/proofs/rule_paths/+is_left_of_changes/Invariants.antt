use Rattle.std.proofs.Common.{length}
use Rattle.script_generator.proofs.rule_paths.+is_left_of_changes.Given as goal

abbrev pub decreases-is_left_of_changes : goal.decreases-is_left_of_changes
decreases-is_left_of_changes l = length l.changes.now
