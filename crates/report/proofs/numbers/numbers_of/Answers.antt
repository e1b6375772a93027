use Rattle.std.proofs.Common.{arith}
use Rattle.std.proofs.lemmas.Grind.{common_steps}
use Rattle.report.proofs.Words.{words_step, words_end}
use Rattle.report.proofs.numbers.numbers_of.Goals as goal

pub numbers-preserved : goal.numbers-preserved
numbers-preserved c = record {
  read = words_step _ _ _ _ _ _ _ (omega arith) c.numbers.invariant.read c.take_number-number.ensures.number c.take_number-number.ensures.behind c.push.ensures.items;
  few = grind (arith, common_steps);
}

pub returns : goal.returns
returns c = words_end _ _ _ _ (omega arith) (omega arith) c.numbers.invariant.read
