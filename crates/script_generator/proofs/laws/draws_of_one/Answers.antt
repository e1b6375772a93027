use Rattle.std.proofs.Common.{refl, lit<}
use Rattle.std.proofs.lemmas.Fmt.{decimal_digit}
use Rattle.script_generator.proofs.laws.draws_of_one.Goals as goal

pub returns-clause-row : goal.returns-clause-row
returns-clause-row c = rw (decimal_digit 1 (lit< tt)) refl
