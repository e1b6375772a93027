use Rattle.book_plans.proofs.Makes.{plans_make}
use Rattle.book_plans.proofs.laws.plans_make_edits.Goals as goal

pub returns : goal.returns
returns c = plans_make
