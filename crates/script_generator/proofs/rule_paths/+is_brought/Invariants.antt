use Rattle.std.proofs.Common.{length}
use Rattle.script_generator.proofs.rule_paths.+is_brought.Given as goal

abbrev pub decreases-is_brought : goal.decreases-is_brought
decreases-is_brought l = length l.files.now
