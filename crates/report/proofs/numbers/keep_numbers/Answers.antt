use Rattle.std.proofs.Common.{arith, sym, append-nil}
use Rattle.report.proofs.Words.{numbers_back}
use Rattle.report.proofs.numbers.keep_numbers.Goals as goal

pub loop-number-init : goal.loop-number-init
loop-number-init c = record {
  bytes = sym (append-nil _);
  room = omega arith;
  spare = omega arith;
  fits = λ k lt. absurd (omega arith);
}

pub returns-clause-back : goal.returns-clause-back
returns-clause-back c = numbers_back _ c.requires.few (λ k lt. c.loop-number.invariant.fits k (omega arith))
