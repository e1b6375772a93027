use Rattle.std.proofs.Common.{◌-◌, [], List, length, take, drop, ap, sym, ◌∙◌}
use Rattle.apdu.specs.Words.{path_is_in}
use Rattle.script_reader.specs.declared.types.FileSpec.{FileSpec}
use Rattle.script_reader.specs.declared.types.ChangeSpec.{ChangeSpec}
use Rattle.script_generator.specs.Working.{rule_paths}
use Rattle.script_generator.specs.Walked.{is_left}
use Rattle.script_generator.proofs.Slices.{nil_of, cons_of}
use Rattle.script_generator.proofs.Appended.{or_false, left_of_none, left_of_change}
use Rattle.script_generator.proofs.rule_paths.+is_left_of_changes.Goals as goal

pub returns-in_default : goal.returns-in_default
returns-in_default t c =
    let none = left_of_none c.args.path.now in
    let whole = ap (λ (xs : List ChangeSpec). is_left [] [] xs c.args.path.now) (nil_of c.args.changes.now c.in_default.len_below) in
    c.is_family_path.ensures ∙ sym (whole ∙ none)

pub returns-else-is_brought : goal.returns-else-is_brought
returns-else-is_brought t c =
    let changes = c.args.changes.now in
    let behind = take (length changes - 1) (drop 1 changes) in
    let is = cons_of changes c.change-item.result c.in-len1-up.len_at_least c.change-item.is in
    let whole = ap (λ (xs : List ChangeSpec). is_left [] [] xs c.args.path.now) is in
    let more = left_of_change c.args.path.now c.change-item.result behind in
    let none = ap (λ (files : List FileSpec). path_is_in (rule_paths files) c.args.path.now) (sym c.as_slice.ensures) ∙ sym c.if-is_brought.ensures in
    c.is_left_of_changes.ensures ∙ sym (whole ∙ more ∙ or_false (path_is_in (rule_paths c.change-item.result.files) c.args.path.now) (is_left [] [] behind c.args.path.now) none)
