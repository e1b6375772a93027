use Rattle.std.proofs.Common.{◌-◌, List, length, take, drop, ap}
use Rattle.script_reader.specs.declared.types.CardSpec.{CardSpec}
use Rattle.script_generator.specs.Working.{most_reads, card_files}
use Rattle.script_generator.proofs.Slices.{cons_of}
use Rattle.script_generator.proofs.Appended.{most_of_card}
use Rattle.script_generator.proofs.reads.+most_of_cards.Goals as goal

pub returns : goal.returns
returns t c =
    let cards = c.args.cards.now in
    let is = cons_of cards c.card-item.result c.in-len1-up.len_at_least c.card-item.is in
    let most = most_of_card c.args.path.now c.card-item.result (take (length cards - 1) (drop 1 cards)) in
    let whole = ap (λ (xs : List CardSpec). most_reads c.args.path.now (card_files xs)) is in
    cc
