use Rattle.std.proofs.Common.{length}
use Rattle.script_generator.proofs.reads.+most_of_cards.Given as goal

abbrev pub decreases-most_of_cards : goal.decreases-most_of_cards
decreases-most_of_cards l = length l.cards.now
