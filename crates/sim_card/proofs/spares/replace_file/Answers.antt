use Rattle.std.proofs.Common.{◌≡◌, true, slice_set}
use Rattle.sim_card.specs.Spares.{fits}
use Rattle.sim_card.proofs.Put.{at_index, written_stays, replaced}
use Rattle.sim_card.proofs.spares.replace_file.Goals as goal

pub returns-clause-value : goal.returns-clause-value
returns-clause-value c =
    let file = c.at_mut.result.now in
    let middle = c.make_fit.new.files in
    let fit = at_index (λ f. middle ≡ slice_set c.args.files.now c.args.place f) middle c.args.place file c.make_fit.ensures.within c.at_mut.ensures.value c.make_fit.ensures.others in
    replaced c.args.files.now middle c.args.place file c.write_file.new.file c.args.new.now fit c.write_file.ensures

pub returns-clause-ready : goal.returns-clause-ready
returns-clause-ready c =
    let file = c.at_mut.result.now in
    let middle = c.make_fit.new.files in
    let right : fits c.args.new.now file ≡ true = at_index (λ f. fits c.args.new.now f ≡ true) middle c.args.place file c.make_fit.ensures.within c.at_mut.ensures.value c.make_fit.ensures.shape in
    rw c.write_file.ensures (written_stays c.args.files.now c.args.spares.now middle c.make_fit.new.spares c.args.place file c.args.new.now c.make_fit.ensures.ready c.at_mut.ensures.value right)
