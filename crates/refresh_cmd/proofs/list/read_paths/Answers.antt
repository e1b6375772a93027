use Rattle.std.proofs.Common.{◌∙◌, sym}
use Rattle.refresh_cmd.specs.Lists.{cut_bytes}
use Rattle.refresh_cmd.proofs.Cuts.{onto-full, onto-end, when_full, when_empty}
use Rattle.refresh_cmd.proofs.list.read_paths.Goals as goal

pub returns-then-is_full : goal.returns-then-is_full
returns-then-is_full c = sym (
    c.paths.invariant.cut
    ∙ (c.in_ok-path.ensures.some c.paths.list.items
    ∙ onto-full c.paths.list.items c.in_ok-path.path (cut_bytes c.in_ok-path.behind.now) (when_full _ 64 c.if-is_full.ensures.value)))

pub returns : goal.returns
returns c = sym (c.paths.invariant.cut ∙ onto-end c.paths.list.items c.paths.rest.now (when_empty _ c.paths-test.ensures) c.paths.invariant.good c.paths.invariant.few)
