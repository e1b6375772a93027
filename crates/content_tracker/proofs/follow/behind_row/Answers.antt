use Rattle.std.proofs.Common.{◌≡◌, true, ◌∙◌, sym, rules, subst}
use Rattle.families.specs.Contents.{decoded, is_editable}
use Rattle.families.specs.Families.{family_paths, has_path}
use Rattle.families.specs.Patches.{WasContent}
use Rattle.epoch_cache.specs.Cache.{view_of_files}
use Rattle.content_tracker.proofs.Rows.{row_content, other_row}
use Rattle.content_tracker.proofs.follow.behind_row.Goals as goal

pub patched-requires-clause-before : goal.patched-requires-clause-before
patched-requires-clause-before c =
    let edits : is_editable c.args.family ≡ true = sym c.editable.ensures ∙ c.if-editable.true in
    let has : has_path c.args.family c.args.row.now.path ≡ true = sym c.has_path.ensures ∙ c.if-not-has_path.false in
    subst (λ n. WasContent (decoded c.args.family) (family_paths c.args.family) n c.args.row.now.row c.args.content (view_of_files c.args.files.now)) (search rules)
    (row_content c.args.family c.args.row.now c.args.content c.args.files.now c.requires.known edits has c.requires.before)

pub returns-then-not-has_path : goal.returns-then-not-has_path
returns-then-not-has_path c =
    other_row c.args.family c.args.row.now c.args.content c.args.files.now c.requires.known (sym c.has_path.ensures ∙ c.if-not-has_path.true) c.requires.before
