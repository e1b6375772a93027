use Rattle.std.proofs.Common.{All, subst, sym}
use Rattle.card_model.specs.Limits.{HasFittingParameters, IsFittingChange}
use Rattle.sim_card.proofs.Put.{put_fits, armed_holds, fetched_is}
use Rattle.sim_card.proofs.fetch.on_stocked_card.Goals as goal

pub returns-in-Some-clause-fits : goal.returns-in-Some-clause-fits
returns-in-Some-clause-fits c =
    let change = c.in-Some.change.now in
    let fits : IsFittingChange change = armed_holds IsFittingChange c.args.changes.now c.args.card.now change c.requires.changes (fetched_is _ _ c.in-Some.change c.in-Some.is c.on_card-outcome.ensures.fetched) in
    put_fits c.on_card-outcome.new.card c.put_files.new.files c.as_slice.result.now c.put_files.ensures.value c.on_card-outcome.ensures.fits
    (subst (λ files. All HasFittingParameters files) (sym c.as_slice.ensures) fits.files)
