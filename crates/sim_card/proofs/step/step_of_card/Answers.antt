use Rattle.std.proofs.Common.{◌≡◌, ◌<◌, length, Some, slice_get, arith, refl, sym, ap, ◌∙◌}
use Rattle.std.proofs.lemmas.Option.{slice_get_read}
use Rattle.apdu.specs.Values.{ResponseValue}
use Rattle.card_model.specs.declared.world.CardState.{CardState}
use Rattle.card_model.specs.Step.{with_card, step_of_card}
use Rattle.sim_card.proofs.Worlds.{stocked_card}
use Rattle.sim_card.proofs.step.step_of_card.Goals as goal

pub on_stocked_card-requires-clause-stocked : goal.on_stocked_card-requires-clause-stocked
on_stocked_card-requires-clause-stocked c =
    stocked_card c.args.world.now c.args.spares.now c.args.place c.at_mut.result.now c.at_mut-2.result.now c.requires.stocked (omega (arith, c.if-place-len.false, c.len.ensures)) c.at_mut.ensures.value c.at_mut-2.ensures.value

pub returns-clause-value : goal.returns-clause-value
returns-clause-value c =
    let within : c.args.place < length c.args.world.now.cards = omega (arith, c.if-place-len.false, c.len.ensures) in
    let read : slice_get c.args.world.now.cards c.args.place ≡ Some c.at_mut.result.now = slice_get_read c.args.world.now.cards _ c.args.place c.at_mut.result.now refl within c.at_mut.ensures.value in
    ap (λ (outcome : CardState × ResponseValue). (with_card c.args.world.now c.args.place outcome.0, outcome.1)) c.on_stocked_card.ensures.value
    ∙ ap (λ card. step_of_card c.args.world.now c.args.place card c.args.command.now) (sym read)
