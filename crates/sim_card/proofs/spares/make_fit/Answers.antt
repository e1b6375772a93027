use Rattle.std.proofs.Common.{◌≡◌, true, refl, sym, ap, ◌∙◌, get_or}
use Rattle.std.proofs.lemmas.List.Quantifiers.{position-Some}
use Rattle.card_model.specs.Card.{has_path}
use Rattle.sim_card.specs.Spares.{fits}
use Rattle.sim_card.proofs.Stock.{files_swap}
use Rattle.sim_card.proofs.Put.{at_index, of_index, set_index, spare_is_ready, unchanged}
use Rattle.sim_card.proofs.spares.make_fit.Goals as goal

pub spare_place-spare-requires : goal.spare_place-spare-requires
spare_place-spare-requires c =
    let read = c.index-as_slice-place.is ∙ ap (λ xs. get_or xs c.args.place c.index-as_slice-place.result) c.as_slice.ensures in
    spare_is_ready _ _ c.args.new.now _ c.args.place c.requires.place read (sym c.fits.ensures ∙ c.if-not-fits.true) c.requires.ready

pub returns-then-not-fits-clause-shape : goal.returns-then-not-fits-clause-shape
returns-then-not-fits-clause-shape c =
    let within = (position-Some (has_path c.args.new.now.path) _ _ c.at_mut.result.now c.requires.place).0 in
    let right : fits c.args.new.now c.at_mut-then-not-fits.result.now ≡ true = at_index (λ spare. fits c.args.new.now spare ≡ true) _ _ _ c.spare_place-spare.ensures.within c.at_mut-then-not-fits.ensures.value c.spare_place-spare.ensures.shape in
    set_index (λ file. fits c.args.new.now file ≡ true) c.args.files.now c.args.place c.swap.new.x within (ap (fits c.args.new.now) c.swap.ensures.x_after ∙ right)

pub returns-then-not-fits-clause-others : goal.returns-then-not-fits-clause-others
returns-then-not-fits-clause-others c =
    let within = (position-Some (has_path c.args.new.now.path) _ _ c.at_mut.result.now c.requires.place).0 in
    set_index _ c.args.files.now c.args.place c.swap.new.x within refl

pub returns-then-not-fits-clause-ready : goal.returns-then-not-fits-clause-ready
returns-then-not-fits-clause-ready c =
    let right : fits c.args.new.now c.at_mut-then-not-fits.result.now ≡ true = at_index (λ spare. fits c.args.new.now spare ≡ true) _ _ _ c.spare_place-spare.ensures.within c.at_mut-then-not-fits.ensures.value c.spare_place-spare.ensures.shape in
    rw (c.swap.ensures.x_after, c.swap.ensures.y_after)
    (files_swap c.args.files.now c.args.spares.now c.args.place c.spare_place-spare.result c.at_mut.result.now c.at_mut-then-not-fits.result.now c.args.new.now c.requires.place c.spare_place-spare.ensures.within c.at_mut.ensures.value c.at_mut-then-not-fits.ensures.value right)

pub returns-else-not-fits-clause-shape : goal.returns-else-not-fits-clause-shape
returns-else-not-fits-clause-shape c =
    let within = (position-Some (has_path c.args.new.now.path) _ _ c.index-as_slice-place.result c.requires.place).0 in
    let read = c.index-as_slice-place.is ∙ ap (λ xs. get_or xs c.args.place c.index-as_slice-place.result) c.as_slice.ensures in
    of_index (λ file. fits c.args.new.now file ≡ true) c.args.files.now c.args.place c.index-as_slice-place.result within read (sym c.fits.ensures ∙ c.if-not-fits.false)

pub returns-else-not-fits-clause-others : goal.returns-else-not-fits-clause-others
returns-else-not-fits-clause-others c =
    let within = (position-Some (has_path c.args.new.now.path) _ _ c.index-as_slice-place.result c.requires.place).0 in
    let read = c.index-as_slice-place.is ∙ ap (λ xs. get_or xs c.args.place c.index-as_slice-place.result) c.as_slice.ensures in
    of_index _ c.args.files.now c.args.place c.index-as_slice-place.result within read (unchanged c.args.files.now c.args.place c.index-as_slice-place.result read)
