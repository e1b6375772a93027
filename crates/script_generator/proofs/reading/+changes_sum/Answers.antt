use Rattle.std.proofs.Common.{◌-◌, [], List, length, take, drop, ap, ◌∙◌, rules}
use Rattle.script_reader.specs.declared.types.ChangeSpec.{ChangeSpec}
use Rattle.script_generator.specs.Walked.{reading_left}
use Rattle.script_generator.proofs.Slices.{cons_of}
use Rattle.script_generator.proofs.Left.{change_more, front_fits, behind_fits, both_fit, both_sum}
use Rattle.script_generator.proofs.reading.+changes_sum.Goals as goal

pub files_sum-requires : goal.files_sum-requires
files_sum-requires t c =
    let changes = c.args.changes.now in
    let behind = take (length changes - 1) (drop 1 changes) in
    let is = cons_of changes c.change-item.result c.in-len1-up.len_at_least c.change-item.is in
    let whole = ap (λ (xs : List ChangeSpec). reading_left c.args.script.now [] [] xs) is ∙ change_more c.args.script.now c.change-item.result behind in
    rw c.as_slice.ensures (front_fits _ _ whole c.requires)

pub changes_sum-requires : goal.changes_sum-requires
changes_sum-requires t c =
    let changes = c.args.changes.now in
    let behind = take (length changes - 1) (drop 1 changes) in
    let is = cons_of changes c.change-item.result c.in-len1-up.len_at_least c.change-item.is in
    let whole = ap (λ (xs : List ChangeSpec). reading_left c.args.script.now [] [] xs) is ∙ change_more c.args.script.now c.change-item.result behind in
    let files = rw c.as_slice.ensures at c.files_sum.ensures in
    (search rules, behind_fits _ _ _ _ whole files c.requires)

pub overflow_add-result : goal.overflow_add-result
overflow_add-result t c =
    let changes = c.args.changes.now in
    let behind = take (length changes - 1) (drop 1 changes) in
    let is = cons_of changes c.change-item.result c.in-len1-up.len_at_least c.change-item.is in
    let whole = ap (λ (xs : List ChangeSpec). reading_left c.args.script.now [] [] xs) is ∙ change_more c.args.script.now c.change-item.result behind in
    let files = rw c.as_slice.ensures at c.files_sum.ensures in
    both_fit _ _ _ _ _ _ whole files c.changes_sum.ensures c.requires

pub returns : goal.returns
returns t c =
    let changes = c.args.changes.now in
    let behind = take (length changes - 1) (drop 1 changes) in
    let is = cons_of changes c.change-item.result c.in-len1-up.len_at_least c.change-item.is in
    let whole = ap (λ (xs : List ChangeSpec). reading_left c.args.script.now [] [] xs) is ∙ change_more c.args.script.now c.change-item.result behind in
    let files = rw c.as_slice.ensures at c.files_sum.ensures in
    both_sum _ _ _ _ _ _ whole files c.changes_sum.ensures
