use Rattle.std.proofs.Common.{◌≡◌, ◌<◌, ◌∷◌, ◌++◌, [], true, length, arith, sym, ap, ◌∙◌}
use Rattle.std.proofs.lemmas.Option.{get_or_from_slice_get}
use Rattle.sim_card.specs.Spares.{fits}
use Rattle.sim_card.proofs.Stock.{none_of, files_join}
use Rattle.sim_card.proofs.Put.{at_index, spare_of_missing, if_ok}
use Rattle.sim_card.proofs.spares.add_file.Goals as goal

pub spare_place-spare-requires : goal.spare_place-spare-requires
spare_place-spare-requires c = spare_of_missing c.args.files.now c.args.spares.now c.args.new.now (none_of c.args.new.now.path c.args.files.now c.requires.missing) c.requires.ready

pub returns-clause-ready : goal.returns-clause-ready
returns-clause-ready c =
    let within = c.spare_place-spare.ensures.within in
    let room : length c.args.files.now < 4160 = omega (arith, c.requires.room, within) in
    let pushed : c.push.new.self ≡ c.args.files.now ++ c.write_file.new.file ∷ [] = if_ok c.push.result c.push.ensures.ok (c.push.ensures.room room) in
    let joined : c.push.new.self ≡ c.args.files.now ++ c.args.new.now ∷ [] = pushed ∙ ap (λ file. c.args.files.now ++ file ∷ []) c.write_file.ensures in
    let spare = c.remove-file.result in
    let read = sym (get_or_from_slice_get c.args.spares.now c.spare_place-spare.result spare spare c.remove-file.ensures.value) in
    let right : fits c.args.new.now spare ≡ true = at_index (λ s. fits c.args.new.now s ≡ true) c.args.spares.now c.spare_place-spare.result spare within read c.spare_place-spare.ensures.shape in
    rw (joined, c.remove-file.ensures.items) (files_join c.args.files.now c.args.spares.now c.spare_place-spare.result spare c.args.new.now c.requires.missing read right)
