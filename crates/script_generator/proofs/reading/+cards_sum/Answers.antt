use Rattle.std.proofs.Common.{◌-◌, [], List, length, take, drop, ap, ◌∙◌, rules}
use Rattle.script_reader.specs.declared.types.CardSpec.{CardSpec}
use Rattle.script_generator.specs.Walked.{reading_left}
use Rattle.script_generator.proofs.Slices.{cons_of}
use Rattle.script_generator.proofs.Left.{card_more, front_fits, behind_fits, both_fit, both_sum}
use Rattle.script_generator.proofs.reading.+cards_sum.Goals as goal

pub files_sum-requires : goal.files_sum-requires
files_sum-requires t c =
    let cards = c.args.cards.now in
    let behind = take (length cards - 1) (drop 1 cards) in
    let is = cons_of cards c.card-item.result c.in-len1-up.len_at_least c.card-item.is in
    let whole = ap (λ (xs : List CardSpec). reading_left c.args.script.now [] xs c.args.changes.now) is ∙ card_more c.args.script.now c.card-item.result behind c.args.changes.now in
    rw c.as_slice.ensures (front_fits _ _ whole c.requires)

pub cards_sum-requires : goal.cards_sum-requires
cards_sum-requires t c =
    let cards = c.args.cards.now in
    let behind = take (length cards - 1) (drop 1 cards) in
    let is = cons_of cards c.card-item.result c.in-len1-up.len_at_least c.card-item.is in
    let whole = ap (λ (xs : List CardSpec). reading_left c.args.script.now [] xs c.args.changes.now) is ∙ card_more c.args.script.now c.card-item.result behind c.args.changes.now in
    let files = rw c.as_slice.ensures at c.files_sum.ensures in
    (search rules, behind_fits _ _ _ _ whole files c.requires)

pub overflow_add-result : goal.overflow_add-result
overflow_add-result t c =
    let cards = c.args.cards.now in
    let behind = take (length cards - 1) (drop 1 cards) in
    let is = cons_of cards c.card-item.result c.in-len1-up.len_at_least c.card-item.is in
    let whole = ap (λ (xs : List CardSpec). reading_left c.args.script.now [] xs c.args.changes.now) is ∙ card_more c.args.script.now c.card-item.result behind c.args.changes.now in
    let files = rw c.as_slice.ensures at c.files_sum.ensures in
    both_fit _ _ _ _ _ _ whole files c.cards_sum.ensures c.requires

pub returns : goal.returns
returns t c =
    let cards = c.args.cards.now in
    let behind = take (length cards - 1) (drop 1 cards) in
    let is = cons_of cards c.card-item.result c.in-len1-up.len_at_least c.card-item.is in
    let whole = ap (λ (xs : List CardSpec). reading_left c.args.script.now [] xs c.args.changes.now) is ∙ card_more c.args.script.now c.card-item.result behind c.args.changes.now in
    let files = rw c.as_slice.ensures at c.files_sum.ensures in
    both_sum _ _ _ _ _ _ whole files c.cards_sum.ensures
