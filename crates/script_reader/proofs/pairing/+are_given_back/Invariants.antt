use Rattle.std.proofs.Common.{length}
use Rattle.script_reader.proofs.pairing.+are_given_back.Given as goal

abbrev pub decreases-are_given_back : goal.decreases-are_given_back
decreases-are_given_back l = length l.operations.now
