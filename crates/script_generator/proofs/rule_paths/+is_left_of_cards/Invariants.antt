use Rattle.std.proofs.Common.{length}
use Rattle.script_generator.proofs.rule_paths.+is_left_of_cards.Given as goal

abbrev pub decreases-is_left_of_cards : goal.decreases-is_left_of_cards
decreases-is_left_of_cards l = length l.cards.now
