use Rattle.book_plans.proofs.Fits as fits
use Rattle.book_plans.proofs.laws.plans_fit.Goals as goal

pub returns : goal.returns
returns c = fits.plans_fit
