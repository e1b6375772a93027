use Rattle.std.proofs.Common.{map, subst, sym, ap, ◌∙◌}
use Rattle.card_model.specs.declared.world.CardState.{CardState}
use Rattle.card_model.specs.Limits.{all_files}
use Rattle.sim_card.specs.Spares.{AreStocked, files_of}
use Rattle.sim_card.proofs.Worlds.{stocked_new}
use Rattle.sim_card.proofs.slot.SimSlot.new.Goals as goal

pub invariant_of-result : goal.invariant_of-result
invariant_of-result c =
    let spares = c.in_ok-spares.ensures ∙ ap (λ cards. map (λ (card : CardState). all_files c.args.changes) cards) c.as_slice.ensures in (
      record { cards = c.requires.cards; changes = c.requires.changes },
      subst (λ s. AreStocked c.args.changes (map files_of c.args.images) s) (sym spares) (stocked_new c.args.changes c.args.images c.requires.room),
    )
