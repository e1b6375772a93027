use Rattle.std.proofs.Common.{map, All}
use Rattle.card_model.specs.Limits.{IsFittingCard, HasRoom}
use Rattle.script_reader.specs.World.{card_of, change_of}
use Rattle.script_reader.proofs.Lists.{ok_is}
use Rattle.script_reader.proofs.RulesKept.{kept_cards, kept_changes, few_changes}
use Rattle.script_reader.proofs.Fits.{cards_fit, cards_have_room}
use Rattle.script_reader.proofs.types.Script.images.Goals as goal

pub returns-clause-fits : goal.returns-clause-fits
returns-clause-fits c =
    let s = c.args.self.now in
    ok_is (All IsFittingCard) card_of c.as_slice.result.now s.cards _ c.as_slice.ensures c.made_from.ensures (cards_fit s.cards (kept_cards s c.requires))

pub returns-clause-room : goal.returns-clause-room
returns-clause-room c =
    let s = c.args.self.now in
    ok_is (All (HasRoom (map change_of s.changes))) card_of c.as_slice.result.now s.cards _ c.as_slice.ensures c.made_from.ensures
    (cards_have_room s.cards s.changes (kept_cards s c.requires) (kept_changes s c.requires) (few_changes s c.requires))
