use Rattle.std.proofs.Common.{length}
use Rattle.script_generator.proofs.reading.+cards_sum.Given as goal

abbrev pub decreases-cards_sum : goal.decreases-cards_sum
decreases-cards_sum l = length l.cards.now
