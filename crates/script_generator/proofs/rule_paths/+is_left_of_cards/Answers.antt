use Rattle.std.proofs.Common.{◌-◌, [], List, length, take, drop, ap, sym, ◌∙◌}
use Rattle.apdu.specs.Words.{path_is_in}
use Rattle.script_reader.specs.declared.types.FileSpec.{FileSpec}
use Rattle.script_reader.specs.declared.types.CardSpec.{CardSpec}
use Rattle.script_generator.specs.Working.{rule_paths}
use Rattle.script_generator.specs.Walked.{is_left}
use Rattle.script_generator.proofs.Slices.{cons_of}
use Rattle.script_generator.proofs.Appended.{or_false, left_of_card}
use Rattle.script_generator.proofs.rule_paths.+is_left_of_cards.Goals as goal

pub returns-else-is_brought : goal.returns-else-is_brought
returns-else-is_brought t c =
    let cards = c.args.cards.now in
    let behind = take (length cards - 1) (drop 1 cards) in
    let is = cons_of cards c.card-item.result c.in-len1-up.len_at_least c.card-item.is in
    let whole = ap (λ (xs : List CardSpec). is_left [] xs c.args.changes.now c.args.path.now) is in
    let more = left_of_card c.args.path.now c.card-item.result behind c.args.changes.now in
    let none = ap (λ (files : List FileSpec). path_is_in (rule_paths files) c.args.path.now) (sym c.as_slice.ensures) ∙ sym c.if-is_brought.ensures in
    c.is_left_of_cards.ensures ∙ sym (whole ∙ more ∙ or_false (path_is_in (rule_paths c.card-item.result.files) c.args.path.now) (is_left [] behind c.args.changes.now c.args.path.now) none)
